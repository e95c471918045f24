-- Alike worlds stay alike at a BEGIN, and at an event that changes nothing.
use Rattle.std.proofs.Common.{◌≡◌, refl, sym, ap, subst, ◌∙◌, ℕ, ◌+◌, ◌≤◌, Bool, true, false, cond, ◌&&◌, ◌⊎◌, inl, inr, List, [], ◌∷◌, ◌++◌, None, eqb, arith}
use Rattle.std.proofs.lemmas.Bool.{and_parts, eqb-true, eq-eqb, le-ltb}
use Rattle.std.specs.List.{filter}
use Rattle.value.specs.declared.refusal.Mode.{Mode}
use Rattle.value.proofs.IsolationLemmas.{In}
use Rattle.value.proofs.Basics.{In-any, any-In}
use Rattle.value.proofs.Lists.{In-append}
use Rattle.value.proofs.SerialLemmas.{In-left, In-right}
use Rattle.siread.proofs.AlikeLemmas.{alike_itself}
use Rattle.history.specs.Transactions.{Standing, Open, Doomed, Failed, Done, Txn, World, Exported_snapshot, current, is_of, is_open, is_owed, is_read_write, was_active}
use Rattle.history.specs.Events.{begun}
use Rattle.alike.specs.Worlds.{Alike, AreTwins, HasLike, ShowAlike, StandAlike, WereActiveAlike, counts, is_exported_by, is_exporter, is_waiting, is_writer}
use Rattle.alike.proofs.Sides.{and2, find_none, not_both}
use Rattle.alike.proofs.Orderly.{IsOrderly}
use Rattle.alike.proofs.Turned.{was_now}
use Rattle.alike.proofs.Twins.{active_in, has_like, in_active, like, twin, waiting_owed}
use Rattle.alike.proofs.Writers.{sessions}

module _ {A : Type 0} where
  -- ---- an event that changes nothing

  abbrev pub later : World A → World A
  later w = record w { place = w.place + 1 }

  stand_later : (w v : World A) (t u : Txn A) (st st' : Standing) → StandAlike w v st st' t u → StandAlike (later w) (later v) st st' t u
  stand_later w v t u Open Open a = a
  stand_later w v t u Done Done a = a
  stand_later w v t u (Doomed c) (Doomed d) a = tt
  stand_later w v t u Failed Failed a = tt
  stand_later w v t u _ _ a = absurd a

  has_later : (w v : World A) → HasLike w v → HasLike (later w) (later v)
  has_later w v h = has_like (later w) (later v)
      (λ t i c. let r = twin w v h t i c in (r.0, r.1, (r.2.0, stand_later w v t r.0 t.standing r.0.standing r.2.1)))
      (λ x i s e. let r = like w v h x i s e in (r.0, r.1, r.2, record { id = r.3.id; snapshot = r.3.snapshot; known = r.3.known; tables = r.3.tables }))

  pub alike_later : (w v : World A) → Alike w v → Alike (later w) (later v)
  alike_later w v h = record { catalog = h.catalog; last = h.last; identifiers = h.identifiers; tables = h.tables; writers = h.writers; there = has_later w v h.there; back = has_later v w h.back }

  -- ---- a BEGIN

  -- a transaction that begins with this number
  abbrev pub first : World A → ℕ → Mode → ℕ → Txn A
  first w s m n = record (begun w s m) { number = n }

  abbrev pub beginning : World A → ℕ → Mode → ℕ → World A
  beginning w s m n = record w { txns = w.txns ++ first w s m n ∷ []; place = w.place + 1 }

  -- the session has no transaction, and nothing was exported under the new number
  pub record IsFree (w : World A) (s n : ℕ) : Type 0 where
    pub none : current w s ≡ None
    pub fresh : (a : Exported_snapshot) → In a w.exports → a.exporter ≡ n → ⊥

  free : (w : World A) (s n : ℕ) → IsFree w s n → (a : Txn A) → In a w.txns → is_waiting a ≡ true → a.session ≡ s → ⊥
  free w s n k a i p e = not_both (is_of s a) (and2 (eqb a.session s) (is_owed a.standing) (eq-eqb a.session s e) (waiting_owed a p)) (find_none (is_of s) w.txns k.none a i)

  not_active : (w : World A) (s : ℕ) (m : Mode) (n : ℕ) (a : Txn A) → a.taken ≤ w.place + 1 → was_active a (first w s m n) ≡ false
  not_active w s m n a l = ap (λ b. is_read_write m && b && true) (le-ltb (w.place + 1) a.taken l) ∙ go (is_read_write m)
    where
      go : (b : Bool) → (b && false && true) ≡ false
      go true = refl
      go false = refl

  module _ (w v : World A) (g : IsOrderly w) (f : IsOrderly v) (s : ℕ) (m : Mode) (n k : ℕ) (l : IsFree w s n) (r : IsFree v s k) (h : Alike w v) (has : HasLike w v) where
    abbrev w1 : World A
    w1 = beginning w s m n

    abbrev v1 : World A
    v1 = beginning v s m k

    abbrev x : Txn A
    x = first w s m n

    abbrev y : Txn A
    y = first v s m k

    -- what holds of both new ones, and of old ones of one session
    each_pair : (P : Txn A → Txn A → Type 0) → P x y → ((a b : Txn A) → In a w.txns → In b v.txns → is_waiting a ≡ true → is_waiting b ≡ true → a.session ≡ b.session → P a b)
        → (a b : Txn A) → In a w1.txns → In b v1.txns → is_waiting a ≡ true → is_waiting b ≡ true → a.session ≡ b.session → P a b
    each_pair P new old a b i j p q e = go (In-append a w.txns (x ∷ []) i) (In-append b v.txns (y ∷ []) j)
      where
        go : In a w.txns ⊎ ((a ≡ x) ⊎ ⊥) → In b v.txns ⊎ ((b ≡ y) ⊎ ⊥) → P a b
        go (inl i) (inl j) = old a b i j p q e
        go (inl i) (inr (inl eb)) = absurd (free w s n l a i p (e ∙ ap (λ (z : Txn A). z.session) eb))
        go (inr (inl ea)) (inl j) = absurd (free v s k r b j q (sym e ∙ ap (λ (z : Txn A). z.session) ea))
        go (inr (inl ea)) (inr (inl eb)) = subst (λ a. P a b) (sym ea) (subst (P x) (sym eb) new)
        go (inr (inr z)) j = absurd z
        go i (inr (inr z)) = absurd z

    old_active : (z u : Txn A) → In z w.txns → In u v.txns → z.mode ≡ u.mode → is_open z.standing ≡ is_open u.standing → WereActiveAlike w v z u → WereActiveAlike w1 v1 z u
    old_active z u i j e o a = in_active w1 v1 z u (each_pair (λ c d. was_active c z ≡ was_active d u)
        (was_now w x z refl (g.begun z i) (let b : z.end ≤ w.place = g.ended z i in omega arith) ∙ ap (λ c. is_read_write c && is_open z.standing) e ∙ ap (λ b. is_read_write u.mode && b) o
        ∙ sym (was_now v y u refl (f.begun u j) (let b : u.end ≤ v.place = f.ended u j in omega arith)))
        (λ c d i' j' p q e'. active_in w v z u a c d i' j' p q e'))

    new_active : WereActiveAlike w1 v1 x y
    new_active = in_active w1 v1 x y (each_pair (λ c d. was_active c x ≡ was_active d y)
        (not_active w s m n x (omega arith) ∙ sym (not_active v s m k y (omega arith)))
        (λ c d i j p q e. not_active w s m n c (let b : c.taken ≤ w.place = g.taken c i in omega arith) ∙ sym (not_active v s m k d (let b : d.taken ≤ v.place = f.taken d j in omega arith))))

    old_stand : (z u : Txn A) → In z w.txns → In u v.txns → (st st' : Standing) → z.standing ≡ st → u.standing ≡ st' → StandAlike w v st st' z u → StandAlike w1 v1 st st' z u
    old_stand z u i j Open Open a b d = (d.0, d.1, old_active z u i j d.0.mode (ap is_open a ∙ sym (ap is_open b)) d.2, d.3)
    old_stand z u i j Done Done a b d = (d.0, old_active z u i j d.0.mode (ap is_open a ∙ sym (ap is_open b)) d.1)
    old_stand z u i j (Doomed p) (Doomed q) a b d = tt
    old_stand z u i j Failed Failed a b d = tt
    old_stand z u i j _ _ a b d = absurd d

    twin_begun : (z : Txn A) → In z w1.txns → counts z ≡ true → (u : Txn A) × In u v1.txns × AreTwins w1 v1 z u
    twin_begun z i c = go (In-append z w.txns (x ∷ []) i)
      where
        new : AreTwins w1 v1 x y
        new = (refl, (record { mode = refl; snapshot = h.last; commit = refl; reads = alike_itself []; changes = refl; marks = refl }, record { known = refl; asked = refl }, new_active, h.tables))

        go : In z w.txns ⊎ ((z ≡ x) ⊎ ⊥) → (u : Txn A) × In u v1.txns × AreTwins w1 v1 z u
        go (inl j) = let u = twin w v has z j c in (u.0, In-left (λ (_ : Txn A). (0, 0, 0)) u.0 v.txns (y ∷ []) u.1, (u.2.0, old_stand z u.0 j u.1 z.standing u.0.standing refl refl u.2.1))
        go (inr (inl e)) = (y, In-right (λ (_ : Txn A). (0, 0, 0)) y v.txns (y ∷ []) (inl refl), subst (λ z. AreTwins w1 v1 z y) (sym e) new)
        go (inr (inr e)) = absurd e

    like_begun : (a : Exported_snapshot) → In a w.exports → (i : ℕ) → is_exported_by w1 i a ≡ true → (b : Exported_snapshot) × In b v.exports × (is_exported_by v1 i b ≡ true) × ShowAlike w1 v1 a b
    like_begun a j i e = (b.0, b.1, In-any (is_exporter i b.0) v1.txns u.0 (In-left (λ (_ : Txn A). (0, 0, 0)) u.0 v.txns (y ∷ []) u.1) u.2, record { id = b.3.id; snapshot = b.3.snapshot; known = b.3.known; tables = b.3.tables })
      where
        z : (z : Txn A) × In z w1.txns × (is_exporter i a z ≡ true)
        z = any-In (is_exporter i a) w1.txns e

        old : In z.0 w.txns ⊎ ((z.0 ≡ x) ⊎ ⊥) → In z.0 w.txns
        old (inl q) = q
        old (inr (inl q)) = absurd (l.fresh a j (sym (sym (ap (λ (c : Txn A). c.number) q) ∙ eqb-true z.0.number a.exporter (and_parts (eqb z.0.number a.exporter) (is_open z.0.standing) (and_parts (eqb z.0.number a.exporter && is_open z.0.standing) (eqb z.0.session i) z.2).0).0)))
        old (inr (inr q)) = absurd q

        b : (b : Exported_snapshot) × In b v.exports × (is_exported_by v i b ≡ true) × ShowAlike w v a b
        b = like w v has a j i (In-any (is_exporter i a) w.txns z.0 (old (In-append z.0 w.txns (x ∷ []) z.1)) z.2)

        u : (u : Txn A) × In u v.txns × (is_exporter i b.0 u ≡ true)
        u = any-In (is_exporter i b.0) v.txns b.2

    has_begun : HasLike w1 v1
    has_begun = has_like w1 v1 twin_begun like_begun

  writers_push : (ts : List (Txn A)) (x : Txn A) → sessions (filter is_writer (ts ++ x ∷ [])) ≡ sessions (filter is_writer ts) ++ sessions (filter is_writer (x ∷ []))
  writers_push [] x = refl
  writers_push (t ∷ ts) x = go (is_writer t) (writers_push ts x)
    where
      go : (b : Bool) → sessions (filter is_writer (ts ++ x ∷ [])) ≡ sessions (filter is_writer ts) ++ sessions (filter is_writer (x ∷ []))
          → sessions (cond b (t ∷ filter is_writer (ts ++ x ∷ [])) (filter is_writer (ts ++ x ∷ []))) ≡ sessions (cond b (t ∷ filter is_writer ts) (filter is_writer ts)) ++ sessions (filter is_writer (x ∷ []))
      go true e = ap (λ ns. t.session ∷ ns) e
      go false e = e

  pub alike_begun : (w v : World A) → IsOrderly w → IsOrderly v → Alike w v → (s : ℕ) (m : Mode) (n k : ℕ) → IsFree w s n → IsFree v s k → Alike (beginning w s m n) (beginning v s m k)
  alike_begun w v g f h s m n k l r = record {
    catalog = h.catalog;
    last = h.last;
    identifiers = h.identifiers;
    tables = h.tables;
    writers = writers_push w.txns (first w s m n) ∙ ap (λ ns. ns ++ sessions (filter is_writer (first w s m n ∷ []))) h.writers ∙ ap (λ ns. sessions (filter is_writer v.txns) ++ ns) (one (is_read_write m)) ∙ sym (writers_push v.txns (first v s m k));
    there = has_begun w v g f s m n k l r h h.there;
    back = has_begun v w f g s m k n r l (Rattle.alike.proofs.Twins.alike_back w v h) h.back;
  }
    where
      one : (b : Bool) → sessions (cond b (first w s m n ∷ []) []) ≡ sessions (cond b (first v s m k ∷ []) [])
      one true = refl
      one false = refl
