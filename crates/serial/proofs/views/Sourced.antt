-- Each snapshot was taken by one transaction itself; where it is known to be safe, by a deferrable one that was answered so.
use Rattle.std.proofs.Common.{◌≡◌, refl, sym, ap, subst, ◌∙◌, ℕ, ◌+◌, ◌≤◌, Bool, true, false, true≢false, cond, ◌⊎◌, inl, inr, List, [], ◌∷◌, ◌++◌, map, eqb, arith}
use Rattle.std.proofs.lemmas.Bool.{eqb-true, eq-eqb}
use Rattle.value.specs.declared.refusal.Mode.{Mode}
use Rattle.value.specs.declared.refusal.Mode.TheVariants.{ReadWrite, ReadOnly, Deferrable}
use Rattle.value.proofs.IsolationLemmas.{In}
use Rattle.value.proofs.SerialLemmas.{In-left, In-append}
use Rattle.value.proofs.Basics.{find-In}
use Rattle.history.specs.declared.event.Record.{Record}
use Rattle.history.specs.Opening.{Opening}
use Rattle.history.specs.Transactions.{Done, Txn, World, Exported_snapshot, commits, is_read_write, is_read_only, is_deferrable}
use Rattle.history.specs.Events.{begun, ended, numbered, polled, replaced, doomed_by, follows, start, run, world_of}
use Rattle.history.specs.Answer.{reply_in, IsAnswered, Legal}
use Rattle.serial.proofs.structures.Dooms.{Fate, Spared, Over, In-doomed, doomed-In, fate}
use Rattle.serial.proofs.legal.Legal.{Move, Stays, Fails, Aborts, Commits, Runs, Asks, Polls, Learns, Imports, Step, Nothing, Begins, Moves, Settles, Dooms, Steps, One, Two, legal_steps, current_in}
use Rattle.serial.proofs.legal.Numbers.{IsNumbered, In-replaced, replaced-In, replaced-new, polled_keeps}
use Rattle.serial.proofs.order.SerialTheorem.{IsGood, good_step, good_steps, good_world}

not_both : (m : Mode) → is_read_only m ≡ true → is_deferrable m ≡ true → ⊥
not_both ReadWrite r d = true≢false (sym r)
not_both ReadOnly r d = true≢false (sym d)
not_both Deferrable r d = true≢false (sym r)

module _ {A : Type 0} where
  -- t is deferrable, and took the snapshot s at this place itself; it is known to be safe
  pub record HasFound (place s : ℕ) (t : Txn A) : Type 0 where
    pub deferrable : is_deferrable t.mode ≡ true
    pub own : t.imported ≡ false
    pub known : t.known ≡ true
    pub taken : t.taken ≡ place
    pub snapshot : t.snapshot ≡ s

  -- one of the transactions is the source of the snapshot s that was taken at this place
  abbrev pub Source : List (Txn A) → ℕ → ℕ → Type 0
  Source ts place s = (d : Txn A) × In d ts × HasFound place s d

  -- no two took their snapshots themselves at one place
  abbrev pub Apart : List (Txn A) → Type 0
  Apart ts = (t u : Txn A) → In t ts → In u ts → t.imported ≡ false → u.imported ≡ false → t.taken ≡ u.taken → t.number ≡ u.number

  pub record IsSourced (w : World A) : Type 0 where
    pub txns : (t : Txn A) → In t w.txns → t.known ≡ true → Source w.txns t.taken t.snapshot
    pub exports : (x : Exported_snapshot) → In x w.exports → x.known ≡ true → Source w.txns x.taken x.snapshot
    pub own : (t : Txn A) → In t w.txns → is_deferrable t.mode ≡ true → t.imported ≡ false
    pub apart : Apart w.txns

  -- ---- what a move leaves of a transaction's snapshot, and what it learns of it

  record SameParty (t x : Txn A) : Type 0 where
    number : x.number ≡ t.number
    mode : x.mode ≡ t.mode
    imported : x.imported ≡ t.imported

  -- a snapshot is as it was, or was taken now
  abbrev Retaken : World A → Txn A → Txn A → Type 0
  Retaken w t x = (x.taken ≡ t.taken) ⊎ (x.taken ≡ w.place + 1)

  -- an importer has what its exporter had
  record HasImported (t x : Txn A) (y : Exported_snapshot) : Type 0 where
    number : x.number ≡ t.number
    mode : x.mode ≡ t.mode
    imported : x.imported ≡ true
    known : x.known ≡ y.known
    taken : x.taken ≡ y.taken
    snapshot : x.snapshot ≡ y.snapshot

  record SameTaken (t u : Txn A) : Type 0 where
    number : t.number ≡ u.number
    imported : t.imported ≡ u.imported
    taken : t.taken ≡ u.taken

  data Knows (w : World A) (t x : Txn A) : Type 0 where
    Keeps : SameParty t x → x.known ≡ t.known → x.taken ≡ t.taken → x.snapshot ≡ t.snapshot → Knows w t x
    Finds : SameParty t x → is_deferrable t.mode ≡ true → t.known ≡ false → Retaken w t x → Knows w t x
    Takes : (y : Exported_snapshot) → In y w.exports → is_read_only t.mode ≡ true → HasImported t x y → Knows w t x

  same : (t : Txn A) → SameParty t t
  same t = record { number = refl; mode = refl; imported = refl }

  numbered_keeps : (w : World A) (t : Txn A) → Knows w t (numbered w t)
  numbered_keeps w t = go (is_read_write t.mode)
    where
      go : (b : Bool) → Knows w t (cond b (record (ended w Done t) { commit = commits w + 1 }) (ended w Done t))
      go true = Keeps (record { number = refl; mode = refl; imported = refl }) refl refl refl
      go false = Keeps (record { number = refl; mode = refl; imported = refl }) refl refl refl

  polled_party : (w : World A) (t : Txn A) → SameParty t (polled w t)
  polled_party w t = polled_keeps (SameParty t) w t (same t) (record { number = refl; mode = refl; imported = refl })

  polled_taken : (w : World A) (t : Txn A) → Retaken w t (polled w t)
  polled_taken w t = polled_keeps (Retaken w t) w t (inl refl) (inr refl)

  learned_party : (t y : Txn A) → SameParty t y → SameParty t (record y { known = true })
  learned_party t y p = record { number = p.number; mode = p.mode; imported = p.imported }

  knows : (w : World A) (t x : Txn A) (log : List (Txn A)) (exports : List Exported_snapshot) → Move w t x log exports → Knows w t x
  knows w t x log exports Stays = Keeps (same t) refl refl refl
  knows w t x log exports Fails = Keeps (record { number = refl; mode = refl; imported = refl }) refl refl refl
  knows w t x log exports Aborts = Keeps (record { number = refl; mode = refl; imported = refl }) refl refl refl
  knows w t x log exports (Commits c) = numbered_keeps w t
  knows w t x log exports (Runs q fits a b d) = Keeps (record { number = refl; mode = refl; imported = refl }) refl refl refl
  knows w t x log exports (Asks a) = Keeps (record { number = refl; mode = refl; imported = refl }) refl refl refl
  knows w t x log exports (Polls a b) = Finds (polled_party w t) a b (polled_taken w t)
  knows w t x log exports (Learns a b d) = Finds (learned_party t (polled w t) (polled_party w t)) a b (polled_taken w t)
  knows w t x log exports (Imports i y a b e) = Takes y (find-In _ w.exports y e).0 a (record { number = refl; mode = refl; imported = refl; known = refl; taken = refl; snapshot = refl })

  -- an identifier was there, or has the snapshot of the transaction that took the move
  abbrev Named : World A → Txn A → Exported_snapshot → Type 0
  Named w t y = In y w.exports ⊎ (y.known ≡ t.known) × (y.taken ≡ t.taken) × (y.snapshot ≡ t.snapshot)

  named : (w : World A) (t x : Txn A) (log : List (Txn A)) (exports : List Exported_snapshot) → Move w t x log exports → (y : Exported_snapshot) → In y exports → Named w t y
  named w t x log exports (Asks a) y i = elim (In-append (λ (_ : Exported_snapshot). (0, 0, 0)) y w.exports _ i) [
    | inl j ↦ inl j
    | inr j ↦ elim j [ inl p ↦ inr (ap (λ (v : Exported_snapshot). v.known) p, ap (λ (v : Exported_snapshot). v.taken) p, ap (λ (v : Exported_snapshot). v.snapshot) p) | inr k ↦ absurd k ]
  ]
  named w t x log exports Stays y i = inl i
  named w t x log exports Fails y i = inl i
  named w t x log exports Aborts y i = inl i
  named w t x log exports (Commits c) y i = inl i
  named w t x log exports (Runs q fits a b d) y i = inl i
  named w t x log exports (Polls a b) y i = inl i
  named w t x log exports (Learns a b d) y i = inl i
  named w t x log exports (Imports n v a b e) y i = inl i

  -- ---- one step

  at : (ts : List (Txn A)) (p q s n : ℕ) → p ≡ q → s ≡ n → Source ts p s → Source ts q n
  at ts p q s n a b d = (d.0, d.1, record { deferrable = d.2.deferrable; own = d.2.own; known = d.2.known; taken = d.2.taken ∙ a; snapshot = d.2.snapshot ∙ b })

  -- the places at which snapshots were taken are those of events so far
  abbrev AreTaken : World A → Type 0
  AreTaken w = (t : Txn A) → In t w.txns → t.taken ≤ w.place

  sourced_begins : (w : World A) (x : Txn A) → AreTaken w → x.known ≡ false → x.imported ≡ false → x.taken ≡ w.place + 1 → IsSourced w → IsSourced (record w { txns = w.txns ++ x ∷ []; place = w.place + 1 })
  sourced_begins w x by k o p inv = record {
    txns = λ t i e. txn t (split t i) e;
    exports = λ y i e. grown y.taken y.snapshot (inv.exports y i e);
    own = λ t i e. owned t (split t i) e;
    apart = λ t u i j a b e. apart t u (split t i) (split u j) a b e;
  }
    where
      New : Txn A → Type 0
      New t = (t ≡ x) ⊎ ⊥

      split : (t : Txn A) → In t (w.txns ++ x ∷ []) → In t w.txns ⊎ New t
      split t i = In-append (λ (_ : Txn A). (0, 0, 0)) t w.txns (x ∷ []) i

      grown : (q s : ℕ) → Source w.txns q s → Source (w.txns ++ x ∷ []) q s
      grown q s d = (d.0, In-left (λ (_ : Txn A). (0, 0, 0)) d.0 w.txns (x ∷ []) d.1, d.2)

      txn : (t : Txn A) → In t w.txns ⊎ New t → t.known ≡ true → Source (w.txns ++ x ∷ []) t.taken t.snapshot
      txn t (inl i) e = grown t.taken t.snapshot (inv.txns t i e)
      txn t (inr (inl q)) e = absurd (true≢false (sym e ∙ ap (λ (v : Txn A). v.known) q ∙ k))
      txn t (inr (inr q)) e = absurd q

      owned : (t : Txn A) → In t w.txns ⊎ New t → is_deferrable t.mode ≡ true → t.imported ≡ false
      owned t (inl i) e = inv.own t i e
      owned t (inr (inl q)) e = ap (λ (v : Txn A). v.imported) q ∙ o
      owned t (inr (inr q)) e = absurd q

      now : (t : Txn A) → t ≡ x → t.taken ≡ w.place + 1
      now t q = ap (λ (v : Txn A). v.taken) q ∙ p

      apart : (t u : Txn A) → In t w.txns ⊎ New t → In u w.txns ⊎ New u → t.imported ≡ false → u.imported ≡ false → t.taken ≡ u.taken → t.number ≡ u.number
      apart t u (inl i) (inl j) a b e = inv.apart t u i j a b e
      apart t u (inr (inl q)) (inr (inl r)) a b e = ap (λ (v : Txn A). v.number) (q ∙ sym r)
      apart t u (inl i) (inr (inl r)) a b e = absurd (omega (arith, by t i, now u r))
      apart t u (inr (inl q)) (inl j) a b e = absurd (omega (arith, by u j, now t q))
      apart t u (inr (inr q)) j a b e = absurd q
      apart t u i (inr (inr r)) a b e = absurd r

  -- The transaction t is replaced by x, which has its number.
  sourced_replaced : (w : World A) (t x : Txn A) (log : List (Txn A)) (exports : List Exported_snapshot) → IsNumbered w → AreTaken w → IsSourced w → In t w.txns → Knows w t x
      → ((y : Exported_snapshot) → In y exports → Named w t y) → IsSourced (record w { log = log; txns = replaced x w.txns; exports = exports; place = w.place + 1 })
  sourced_replaced w t x log exports num by inv i k ex = record {
    txns = λ u j e. txn u (In-replaced u x w.txns j) e;
    exports = λ y j e. export y (ex y j) e;
    own = λ u j e. owned u (In-replaced u x w.txns j) e;
    apart = λ u v j m a b e. apart u v (In-replaced u x w.txns j) (In-replaced v x w.txns m) a b e;
  }
    where
      txns : List (Txn A)
      txns = replaced x w.txns

      -- one of the others
      Old : Txn A → Type 0
      Old u = In u w.txns × (eqb u.number x.number ≡ false)

      number : Knows w t x → x.number ≡ t.number
      number (Keeps p a b c) = p.number
      number (Finds p a b c) = p.number
      number (Takes y j r a) = a.number

      x_in : In x txns
      x_in = replaced-new t x w.txns i (sym (number k))

      -- a source that is replaced stays one
      mine : (q s : ℕ) → HasFound q s t → Knows w t x → HasFound q s x
      mine q s d (Keeps p a b c) = record { deferrable = ap is_deferrable p.mode ∙ d.deferrable; own = p.imported ∙ d.own; known = a ∙ d.known; taken = b ∙ d.taken; snapshot = c ∙ d.snapshot }
      mine q s d (Finds p a b c) = absurd (true≢false (sym d.known ∙ b))
      mine q s d (Takes y j r a) = absurd (not_both t.mode r d.deferrable)

      keep : (q s : ℕ) → Source w.txns q s → Source txns q s
      keep q s d = go (eqb d.0.number x.number) refl
        where
          go : (b : Bool) → eqb d.0.number x.number ≡ b → Source txns q s
          go false e = (d.0, replaced-In d.0 x w.txns d.1 e, d.2)
          go true e = (x, x_in, mine q s (subst (HasFound q s) (num.unique d.0 t d.1 i (eqb-true d.0.number x.number e ∙ number k)) d.2) k)

      new : Knows w t x → x.known ≡ true → Source txns x.taken x.snapshot
      new (Keeps p a b c) e = at txns t.taken x.taken t.snapshot x.snapshot (sym b) (sym c) (keep t.taken t.snapshot (inv.txns t i (sym a ∙ e)))
      new (Finds p a b c) e = (x, x_in, record { deferrable = ap is_deferrable p.mode ∙ a; own = p.imported ∙ inv.own t i a; known = e; taken = refl; snapshot = refl })
      new (Takes y j r a) e = at txns y.taken x.taken y.snapshot x.snapshot (sym a.taken) (sym a.snapshot) (keep y.taken y.snapshot (inv.exports y j (sym a.known ∙ e)))

      txn : (u : Txn A) → (u ≡ x) ⊎ Old u → u.known ≡ true → Source txns u.taken u.snapshot
      txn u (inl p) e = at txns x.taken u.taken x.snapshot u.snapshot (sym (ap (λ (v : Txn A). v.taken) p)) (sym (ap (λ (v : Txn A). v.snapshot) p)) (new k (sym (ap (λ (v : Txn A). v.known) p) ∙ e))
      txn u (inr j) e = keep u.taken u.snapshot (inv.txns u j.0 e)

      export : (y : Exported_snapshot) → Named w t y → y.known ≡ true → Source txns y.taken y.snapshot
      export y (inl j) e = keep y.taken y.snapshot (inv.exports y j e)
      export y (inr p) e = at txns t.taken y.taken t.snapshot y.snapshot (sym p.1) (sym p.2) (keep t.taken t.snapshot (inv.txns t i (sym p.0 ∙ e)))

      new_owned : Knows w t x → is_deferrable x.mode ≡ true → x.imported ≡ false
      new_owned (Keeps p a b c) e = p.imported ∙ inv.own t i (sym (ap is_deferrable p.mode) ∙ e)
      new_owned (Finds p a b c) e = p.imported ∙ inv.own t i a
      new_owned (Takes y j r a) e = absurd (not_both t.mode r (sym (ap is_deferrable a.mode) ∙ e))

      owned : (u : Txn A) → (u ≡ x) ⊎ Old u → is_deferrable u.mode ≡ true → u.imported ≡ false
      owned u (inl p) e = ap (λ (v : Txn A). v.imported) p ∙ new_owned k (sym (ap (λ (v : Txn A). is_deferrable v.mode) p) ∙ e)
      owned u (inr j) e = inv.own u j.0 e

      -- no other took its snapshot where t took its own
      was_apart : (u : Txn A) → Old u → t.imported ≡ false → u.imported ≡ false → t.taken ≡ u.taken → ⊥
      was_apart u j a b e = true≢false (sym (eq-eqb u.number x.number (sym (inv.apart t u i j.0 a b e) ∙ sym (number k))) ∙ j.1)

      -- nor where x has
      new_apart : (u : Txn A) → Old u → Knows w t x → x.imported ≡ false → u.imported ≡ false → x.taken ≡ u.taken → ⊥
      new_apart u j (Keeps p a b c) f g e = was_apart u j (sym p.imported ∙ f) g (sym b ∙ e)
      new_apart u j (Finds p a b (inl c)) f g e = was_apart u j (sym p.imported ∙ f) g (sym c ∙ e)
      new_apart u j (Finds p a b (inr c)) f g e = absurd (omega (arith, by u j.0, c, e))
      new_apart u j (Takes y m r a) f g e = true≢false (sym a.imported ∙ f)

      as_x : (u v : Txn A) → u ≡ x → Old v → u.imported ≡ false → v.imported ≡ false → u.taken ≡ v.taken → ⊥
      as_x u v p j a b e = new_apart v j k (sym (ap (λ (y : Txn A). y.imported) p) ∙ a) b (sym (ap (λ (y : Txn A). y.taken) p) ∙ e)

      apart : (u v : Txn A) → (u ≡ x) ⊎ Old u → (v ≡ x) ⊎ Old v → u.imported ≡ false → v.imported ≡ false → u.taken ≡ v.taken → u.number ≡ v.number
      apart u v (inl p) (inl q) a b e = ap (λ (y : Txn A). y.number) (p ∙ sym q)
      apart u v (inl p) (inr j) a b e = absurd (as_x u v p j a b e)
      apart u v (inr j) (inl q) a b e = absurd (as_x v u q j b a (sym e))
      apart u v (inr j) (inr m) a b e = inv.apart u v j.0 m.0 a b e

  sourced_doomed : (w v : World A) → (txns : List (Txn A)) → IsSourced w
      → ((t : Txn A) → In t w.txns → (u : Txn A) × In u txns × Fate w.place t u) → ((u : Txn A) → In u txns → (t : Txn A) × In t w.txns × Fate w.place t u) → IsSourced (record w { txns = txns })
  sourced_doomed w v txns inv to from = record {
    txns = λ u i e. let x = from u i in keep u.taken u.snapshot (by_fate x.0 u x.2 x.1 e);
    exports = λ y i e. keep y.taken y.snapshot (inv.exports y i e);
    own = λ u i e. let x = from u i in own_fate x.0 u x.2 x.1 e;
    apart = λ u y i j a b e. let x = from u i in let z = from y j in
        let p = kept x.0 u x.2 in let q = kept z.0 y z.2 in
        sym p.number ∙ inv.apart x.0 z.0 x.1 z.1 (p.imported ∙ a) (q.imported ∙ b) (p.taken ∙ e ∙ sym q.taken) ∙ q.number;
  }
    where
      by_fate : (t u : Txn A) → Fate w.place t u → In t w.txns → u.known ≡ true → Source w.txns u.taken u.snapshot
      by_fate t u Spared i e = inv.txns t i e
      by_fate t u (Over c o) i e = inv.txns t i e

      own_fate : (t u : Txn A) → Fate w.place t u → In t w.txns → is_deferrable u.mode ≡ true → u.imported ≡ false
      own_fate t u Spared i e = inv.own t i e
      own_fate t u (Over c o) i e = inv.own t i e

      kept : (t u : Txn A) → Fate w.place t u → SameTaken t u
      kept t u Spared = record { number = refl; imported = refl; taken = refl }
      kept t u (Over c o) = record { number = refl; imported = refl; taken = refl }

      same_source : (q s : ℕ) (t u : Txn A) → Fate w.place t u → HasFound q s t → HasFound q s u
      same_source q s t u Spared d = d
      same_source q s t u (Over c o) d = record { deferrable = d.deferrable; own = d.own; known = d.known; taken = d.taken; snapshot = d.snapshot }

      keep : (q s : ℕ) → Source w.txns q s → Source txns q s
      keep q s d = let y = to d.0 d.1 in (y.0, y.1, same_source q s d.0 y.0 y.2 d.2)

  sourced_step : (w v : World A) → IsGood w → IsSourced w → Step w v → IsSourced v
  sourced_step w v g inv Nothing = record { txns = inv.txns; exports = inv.exports; own = inv.own; apart = inv.apart }
  sourced_step w v g inv (Begins s m) = sourced_begins w (begun w s m) (λ t i. (g.stands.txns t i).taken_by) refl refl refl inv
  sourced_step w v g inv (Moves s t x log exports c o move) = sourced_replaced w t x log exports g.numbered (λ u i. (g.stands.txns u i).taken_by) inv (current_in w s t c).0 (knows w t x log exports move) (named w t x log exports move)
  sourced_step w v g inv (Settles s t st c o d o' d') = sourced_replaced w t (record t { standing = st }) w.log w.exports g.numbered (λ u i. (g.stands.txns u i).taken_by) inv (current_in w s t c).0
      (Keeps (record { number = refl; mode = refl; imported = refl }) refl refl refl) (λ y i. inl i)
  sourced_step w v g inv (Dooms cs) = sourced_doomed w v (map (doomed_by w.place cs) w.txns) inv
      (λ t i. (doomed_by w.place cs t, doomed-In w.place cs t w.txns i, fate w.place cs t)) (λ u i. In-doomed w.place cs u w.txns i)

  sourced_steps : (u v : World A) → IsGood u → IsSourced u → Steps u v → IsSourced v
  sourced_steps u v g s (One v' r) = sourced_step u v g s r
  sourced_steps u v g s (Two m v' r q) = sourced_step m v (good_step u m g r) (sourced_step u m g s r) q

  sourced_run : (w : World A) (es : List (Record A)) → IsGood w → IsSourced w → IsAnswered w es → IsSourced (run w es)
  sourced_run w [] g s l = s
  sourced_run w (e ∷ es) g s l = sourced_run (follows w e) es next.0 next.1 l.2
    where
      now : World A
      now = follows w (record { session = e.session; action = e.action; reply = reply_in w e.session e.action })

      step : Steps w now
      step = legal_steps w e.session e.action l.0

      next : IsGood (follows w e) × IsSourced (follows w e)
      next = subst (λ r. IsGood (follows w (record { session = e.session; action = e.action; reply = r })) × IsSourced (follows w (record { session = e.session; action = e.action; reply = r }))) (sym l.1)
          (good_steps w now g step, sourced_steps w now g s step)

  pub sourced : (o : Opening A) (es : List (Record A)) → Legal o es → IsSourced (world_of o es)
  unfolding Legal
  sourced o es l = sourced_run (start o) es (good_world o [] (l.0, tt)) (record { txns = λ t i. absurd i; exports = λ x i. absurd i; own = λ t i. absurd i; apart = λ t u i. absurd i }) l.1
