-- Snapshots that are known to be safe: no commit above such a one has an edge to a commit that it shows, now or later.
use Rattle.std.proofs.Common.{◌≡◌, refl, sym, ap, subst, ◌∙◌, ℕ, ◌+◌, ◌<◌, ◌≤◌, Bool, true, false, true≢false, cond, not, ◌&&◌, ◌||◌, ◌⊎◌, inl, inr, List, [], ◌∷◌, ◌++◌, length, map, eqb, nat_lt, nat_le, arith}
use Rattle.std.proofs.lemmas.Bool.{le-leb, lt-ltb, ltb-true, or_right, or_left, and_from, and_parts}
use Rattle.std.specs.List.{list_any}
use Rattle.value.specs.declared.refusal.Cause.{Cause}
use Rattle.value.specs.declared.refusal.Mode.{Mode}
use Rattle.value.specs.declared.refusal.Mode.TheVariants.{ReadWrite, ReadOnly, Deferrable}
use Rattle.value.proofs.IsolationLemmas.{In}
use Rattle.value.proofs.SerialLemmas.{NumberedFrom, In-append}
use Rattle.value.proofs.Basics.{cases_le, find-In}
use Rattle.history.specs.Transactions.{Standing, Done, Txn, World, Exported_snapshot, edge, commits, is_open, is_read_write, is_read_only, is_deferrable, is_spoilt, was_active, spoils}
use Rattle.history.specs.Events.{ended, begun, with_snapshot, replaced, doomed_by}
use Rattle.serial.proofs.legal.Legal.{Move, Stays, Fails, Aborts, Commits, Runs, Asks, Polls, Learns, Imports, Step, Nothing, Begins, Moves, Settles, Dooms, current_in}
use Rattle.serial.proofs.structures.Dooms.{Fate, Spared, Over, In-doomed}
use Rattle.serial.proofs.legal.Numbers.{IsNumbered, In-replaced, polled_keeps}
use Rattle.serial.proofs.legal.InTime.{IsInTime}

-- A snapshot as it was taken: what it shows, at which place, and whether it is known to be safe.
pub record Stamp : Type 0 where
  pub snapshot : ℕ
  pub taken : ℕ
  pub known : Bool

abbrev pub stamp_of : Exported_snapshot → Stamp
stamp_of x = record { snapshot = x.snapshot; taken = x.taken; known = x.known }

none_of : {T : Type 0} (p : T → Bool) (xs : List T) (x : T) → list_any p xs ≡ false → In x xs → p x ≡ true → ⊥
none_of p [] x h i e = i
none_of p (y ∷ ys) x h i e = go (p y) refl (none_of p ys x) h i
  where
    go : (b : Bool) → p y ≡ b → (list_any p ys ≡ false → In x ys → p x ≡ true → ⊥) → (b || list_any p ys) ≡ false → (x ≡ y) ⊎ In x ys → ⊥
    go true q rest g j = true≢false g
    go false q rest g (inl j) = true≢false (sym e ∙ ap p j ∙ q)
    go false q rest g (inr j) = rest g j e

deferrable_reads : (m : Mode) → is_deferrable m ≡ true → is_read_write m ≡ true → ⊥
deferrable_reads ReadWrite d w = true≢false (sym d)
deferrable_reads ReadOnly d w = true≢false (sym w)
deferrable_reads Deferrable d w = true≢false (sym w)

read_only_reads : (m : Mode) → is_read_only m ≡ true → is_read_write m ≡ true → ⊥
read_only_reads ReadWrite d w = true≢false (sym d)
read_only_reads ReadOnly d w = true≢false (sym w)
read_only_reads Deferrable d w = true≢false (sym w)

module _ {A : Type 0} where
  abbrev pub stamp : Txn A → Stamp
  stamp t = record { snapshot = t.snapshot; taken = t.taken; known = t.known }

  -- What a stamp says is so. A transaction that may write and began after it shows at least as much, and what it doesn't show ended after it.
  -- Where it is known, no transaction that may write is open from before it, and no commit above it has an edge to one that it shows.
  pub record Stands (w : World A) (p : Stamp) : Type 0 where
    pub taken_by : p.taken ≤ w.place
    pub shown : p.snapshot ≤ commits w
    pub behind : (u : Txn A) → In u w.txns → is_read_write u.mode ≡ true → p.taken ≤ u.begin → p.snapshot ≤ u.snapshot
    pub ahead : (u : Txn A) → In u w.log → p.snapshot < u.commit → p.taken < u.end
    pub none_open : p.known ≡ true → (u : Txn A) → In u w.txns → is_read_write u.mode ≡ true → is_open u.standing ≡ true → u.begin < p.taken → ⊥
    pub safe : p.known ≡ true → (u v : Txn A) → In u w.log → In v w.log → p.snapshot < u.commit → v.commit ≤ p.snapshot → edge u v ≡ true → ⊥

  pub record AllStand (w : World A) : Type 0 where
    pub txns : (t : Txn A) → In t w.txns → Stands w (stamp t)
    pub exports : (x : Exported_snapshot) → In x w.exports → Stands w (stamp_of x)

  edge_above : (t u : Txn A) → edge t u ≡ true → t.snapshot < u.commit
  edge_above t u e = ltb-true t.snapshot u.commit (and_parts (not (eqb t.number u.number)) (nat_lt t.snapshot u.commit) (and_parts (not (eqb t.number u.number) && nat_lt t.snapshot u.commit) _ e).0).1

  upto : (n : ℕ) (ts : List (Txn A)) (u : Txn A) → NumberedFrom (λ (t : Txn A). t.commit) n ts → In u ts → u.commit ≤ n + length ts
  upto n [] u h k = absurd k
  upto n (t ∷ ts) u h (inl p) = omega (arith, h.0, ap (λ (y : Txn A). y.commit) p)
  upto n (t ∷ ts) u h (inr k) = omega (arith, upto (n + 1) ts u h.1 k)

  -- ---- a move

  -- What a move leaves as it is; and where it commits, that it was open and ends now.
  record Carries (w : World A) (t x : Txn A) (log : List (Txn A)) : Type 0 where
    begin : x.begin ≡ t.begin
    mode : x.mode ≡ t.mode
    snapshot : is_read_write t.mode ≡ true → x.snapshot ≡ t.snapshot
    was_open : is_open x.standing ≡ true → is_open t.standing ≡ true
    log_is : (log ≡ w.log) ⊎ (log ≡ w.log ++ x ∷ []) × (x.commit ≡ commits w + 1) × (x.end ≡ w.place + 1) × (is_read_write t.mode ≡ true) × (is_open t.standing ≡ true)

  carries : (w : World A) (t x : Txn A) (log : List (Txn A)) (exports : List Exported_snapshot) → is_open t.standing ≡ true → Move w t x log exports → Carries w t x log
  carries w t x log exports o Stays = record { begin = refl; mode = refl; snapshot = λ _. refl; was_open = λ _. o; log_is = inl refl }
  carries w t x log exports o Fails = record { begin = refl; mode = refl; snapshot = λ _. refl; was_open = λ _. o; log_is = inl refl }
  carries w t x log exports o Aborts = record { begin = refl; mode = refl; snapshot = λ _. refl; was_open = λ _. o; log_is = inl refl }
  carries w t x log exports o (Commits c) = go (is_read_write t.mode) refl
    where
      y : Bool → Txn A
      y b = cond b (record (ended w Done t) { commit = commits w + 1 }) (ended w Done t)

      go : (b : Bool) → is_read_write t.mode ≡ b → Carries w t (y b) (cond b (w.log ++ y b ∷ []) w.log)
      go true e = record { begin = refl; mode = refl; snapshot = λ _. refl; was_open = λ _. o; log_is = inr (refl, refl, refl, e, o) }
      go false e = record { begin = refl; mode = refl; snapshot = λ _. refl; was_open = λ _. o; log_is = inl refl }
  carries w t x log exports o (Runs q fits a b d) = record { begin = refl; mode = refl; snapshot = λ _. refl; was_open = λ _. o; log_is = inl refl }
  carries w t x log exports o (Asks a) = record { begin = refl; mode = refl; snapshot = λ _. refl; was_open = λ _. o; log_is = inl refl }
  carries w t x log exports o (Polls d k) = polled_keeps (λ y. Carries w t y w.log) w t
      (record { begin = refl; mode = refl; snapshot = λ _. refl; was_open = λ _. o; log_is = inl refl })
      (record { begin = refl; mode = refl; snapshot = λ e. absurd (deferrable_reads t.mode d e); was_open = λ _. o; log_is = inl refl })
  carries w t x log exports o (Learns d k e) = polled_keeps (λ y. Carries w t (record y { known = true }) w.log) w t
      (record { begin = refl; mode = refl; snapshot = λ _. refl; was_open = λ _. o; log_is = inl refl })
      (record { begin = refl; mode = refl; snapshot = λ f. absurd (deferrable_reads t.mode d f); was_open = λ _. o; log_is = inl refl })
  carries w t x log exports o (Imports i y d a e) = record { begin = refl; mode = refl; snapshot = λ f. absurd (read_only_reads t.mode d f); was_open = λ _. o; log_is = inl refl }

  -- a stamp that stood still does
  stands_moved : (w : World A) (t x : Txn A) (log : List (Txn A)) (exports : List Exported_snapshot) (p : Stamp) → In t w.txns → Carries w t x log → Stands w p
      → Stands (record w { log = log; txns = replaced x w.txns; exports = exports; place = w.place + 1 }) p
  stands_moved w t x log exports p i c h = record {
    taken_by = omega (arith, h.taken_by);
    shown = by_log c.log_is;
    behind = λ u j r l. behind u (In-replaced u x w.txns j) r l;
    ahead = λ u j l. ahead u (new_log u j) l;
    none_open = λ k u j r o l. none_open k u (In-replaced u x w.txns j) r o l;
    safe = λ k u v j m l g e. safe k u v (new_log u j) (new_log v m) l g e;
  }
    where
      Old : Txn A → Type 0
      Old u = In u w.txns × (eqb u.number x.number ≡ false)

      begin_of : (u : Txn A) → u ≡ x → u.begin ≡ t.begin
      begin_of u q = ap (λ (y : Txn A). y.begin) q ∙ c.begin

      writes_of : (u : Txn A) → u ≡ x → is_read_write u.mode ≡ true → is_read_write t.mode ≡ true
      writes_of u q r = sym (ap is_read_write (ap (λ (y : Txn A). y.mode) q ∙ c.mode)) ∙ r

      by_log : (log ≡ w.log) ⊎ (log ≡ w.log ++ x ∷ []) × (x.commit ≡ commits w + 1) × (x.end ≡ w.place + 1) × (is_read_write t.mode ≡ true) × (is_open t.standing ≡ true) → p.snapshot ≤ w.base.commits + length log
      by_log (inl e) = omega (arith, h.shown, ap length e)
      by_log (inr e) = let n : length log ≡ length w.log + 1 = ap length e.0 ∙ pushed w.log in omega (arith, h.shown, n)
        where
          pushed : (ts : List (Txn A)) → length (ts ++ x ∷ []) ≡ length ts + 1
          pushed [] = refl
          pushed (y ∷ ts) = omega (arith, pushed ts)

      Committed : Txn A → Type 0
      Committed u = (u ≡ x) × (x.commit ≡ commits w + 1) × (x.end ≡ w.place + 1) × (is_read_write t.mode ≡ true) × (is_open t.standing ≡ true)

      new_log : (u : Txn A) → In u log → In u w.log ⊎ Committed u
      new_log u j = go c.log_is
        where
          go : (log ≡ w.log) ⊎ (log ≡ w.log ++ x ∷ []) × (x.commit ≡ commits w + 1) × (x.end ≡ w.place + 1) × (is_read_write t.mode ≡ true) × (is_open t.standing ≡ true) → In u w.log ⊎ Committed u
          go (inl e) = inl (subst (In u) e j)
          go (inr e) = elim (In-append (λ (_ : Txn A). (0, 0, 0)) u w.log (x ∷ []) (subst (In u) e.0 j)) [ inl k ↦ inl k | inr k ↦ elim k [ inl q ↦ inr (q, e.1, e.2, e.3, e.4) | inr z ↦ absurd z ] ]

      behind : (u : Txn A) → (u ≡ x) ⊎ Old u → is_read_write u.mode ≡ true → p.taken ≤ u.begin → p.snapshot ≤ u.snapshot
      behind u (inr j) r l = h.behind u j.0 r l
      behind u (inl q) r l =
          let rt : is_read_write t.mode ≡ true = writes_of u q r in
          let su : u.snapshot ≡ t.snapshot = ap (λ (y : Txn A). y.snapshot) q ∙ c.snapshot rt in
          omega (arith, h.behind t i rt (omega (arith, begin_of u q)), su)

      ahead : (u : Txn A) → In u w.log ⊎ Committed u → p.snapshot < u.commit → p.taken < u.end
      ahead u (inl j) l = h.ahead u j l
      ahead u (inr q) l = let e : u.end ≡ x.end = ap (λ (y : Txn A). y.end) q.0 in omega (arith, h.taken_by, q.2)

      none_open : p.known ≡ true → (u : Txn A) → (u ≡ x) ⊎ Old u → is_read_write u.mode ≡ true → is_open u.standing ≡ true → u.begin < p.taken → ⊥
      none_open k u (inr j) r o l = h.none_open k u j.0 r o l
      none_open k u (inl q) r o l = h.none_open k t i (writes_of u q r) (c.was_open (sym (ap (λ (y : Txn A). is_open y.standing) q) ∙ o)) (omega (arith, begin_of u q))

      safe : p.known ≡ true → (u v : Txn A) → In u w.log ⊎ Committed u → In v w.log ⊎ Committed v → p.snapshot < u.commit → v.commit ≤ p.snapshot → edge u v ≡ true → ⊥
      safe k u v j (inr m) l g e = let n : v.commit ≡ x.commit = ap (λ (y : Txn A). y.commit) m.0 in omega (arith, h.shown, m.1)
      safe k u v (inl j) (inl m) l g e = h.safe k u v j m l g e
      safe k u v (inr q) (inl m) l g e = go (cases_le p.taken t.begin)
        where
          go : (p.taken ≤ t.begin) ⊎ (t.begin < p.taken) → ⊥
          go (inl b) =
              let su : u.snapshot ≡ t.snapshot = ap (λ (y : Txn A). y.snapshot) q.0 ∙ c.snapshot q.3 in
              omega (arith, h.behind t i q.3 b, su, edge_above u v e)
          go (inr b) = h.none_open k t i q.3 q.4 b

  -- ---- the stamp of what a move makes

  abbrev Moved : World A → Txn A → List (Txn A) → List Exported_snapshot → World A
  Moved w x log exports = record w { log = log; txns = replaced x w.txns; exports = exports; place = w.place + 1 }

  -- a stamp of this event, that shows all commits so far
  abbrev now : World A → Bool → Stamp
  now w k = record { snapshot = commits w; taken = w.place + 1; known = k }

  -- It stands, where no transaction is open that may write, if it is to be known.
  stands_now : (w : World A) (t x : Txn A) (exports : List Exported_snapshot) (k : Bool) → IsNumbered w → IsInTime w → In t w.txns → Carries w t x w.log
      → (k ≡ true → (u : Txn A) → In u w.txns → is_read_write u.mode ≡ true → is_open u.standing ≡ true → ⊥) → Stands (Moved w x w.log exports) (now w k)
  stands_now w t x exports k num time i c alone = record {
    taken_by = omega arith;
    shown = omega arith;
    behind = λ u j r l. absurd (late u (In-replaced u x w.txns j) l);
    ahead = λ u j l. absurd (let n = upto w.base.commits w.log u num.in_order j in omega arith);
    none_open = λ e u j r o l. ended_all e u (In-replaced u x w.txns j) r o;
    safe = λ e u v j m l g h. let n = upto w.base.commits w.log u num.in_order j in omega arith;
  }
    where
      Old : Txn A → Type 0
      Old u = In u w.txns × (eqb u.number x.number ≡ false)

      late : (u : Txn A) → (u ≡ x) ⊎ Old u → w.place + 1 ≤ u.begin → ⊥
      late u (inl q) l = let b : u.begin ≡ t.begin = ap (λ (y : Txn A). y.begin) q ∙ c.begin in let h = time.begun_by t i in omega arith
      late u (inr j) l = let h = time.begun_by u j.0 in omega arith

      ended_all : k ≡ true → (u : Txn A) → (u ≡ x) ⊎ Old u → is_read_write u.mode ≡ true → is_open u.standing ≡ true → ⊥
      ended_all e u (inl q) r o = alone e t i (sym (ap is_read_write (ap (λ (y : Txn A). y.mode) q ∙ c.mode)) ∙ r) (c.was_open (sym (ap (λ (y : Txn A). is_open y.standing) q) ∙ o))
      ended_all e u (inr j) r o = alone e u j.0 r o

  -- a transaction that may write, is open and began before a stamp was active at it
  active : (t u : Txn A) → is_read_write u.mode ≡ true → is_open u.standing ≡ true → u.begin < t.taken → (was_active t u && is_open u.standing) ≡ true
  active t u r o l = and_from _ _ (and_from _ _ (and_from _ _ r (lt-ltb u.begin t.taken l)) (or_left _ _ o)) o

  -- The snapshot isn't spoilt, and no transaction is awaited: it is safe.
  pub stands_settled : (w : World A) (t : Txn A) → IsNumbered w → AllStand w → In t w.txns
      → is_spoilt w.txns t ≡ false → list_any (λ u. was_active t u && is_open u.standing) w.txns ≡ false
      → Stands w (stamp (record t { known = true }))
  stands_settled w t num all i unspoilt ended = record {
    taken_by = h.taken_by;
    shown = h.shown;
    behind = h.behind;
    ahead = h.ahead;
    none_open = λ _ u j r o l. none_of (λ v. was_active t v && is_open v.standing) w.txns u ended j (active t u r o l);
    safe = λ _ u v j m l g e. go u v j m l g e (cases_le t.taken u.begin);
  }
    where
      h : Stands w (stamp t)
      h = all.txns t i

      go : (u v : Txn A) → In u w.log → In v w.log → t.snapshot < u.commit → v.commit ≤ t.snapshot → edge u v ≡ true → (t.taken ≤ u.begin) ⊎ (u.begin < t.taken) → ⊥
      go u v j m l g e (inl b) = let n = num.logged u j in omega (arith, h.behind u n.0 n.2 b, edge_above u v e)
      go u v j m l g e (inr b) =
          let n = num.logged u j in
          let later : nat_lt t.taken u.end ≡ true = lt-ltb t.taken u.end (h.ahead u j l) in
          let was : was_active t u ≡ true = and_from _ _ (and_from _ _ n.2 (lt-ltb u.begin t.taken b)) (or_right (is_open u.standing) _ later) in
          none_of (λ y. was_active t y && spoils w.txns t y) w.txns u unspoilt n.0 (and_from _ _ was (and_from _ _ n.1 (found_one v (num.logged v m).0 (and_from _ _ e (le-leb v.commit t.snapshot g)))))
        where
          found_one : (y : Txn A) → In y w.txns → (edge u y && nat_le y.commit t.snapshot) ≡ true → list_any (λ z. edge u z && nat_le z.commit t.snapshot) w.txns ≡ true
          found_one y k q = some_of (λ z. edge u z && nat_le z.commit t.snapshot) w.txns y k q
            where
              some_of : (p : Txn A → Bool) (xs : List (Txn A)) (z : Txn A) → In z xs → p z ≡ true → list_any p xs ≡ true
              some_of p [] z k q = absurd k
              some_of p (x ∷ xs) z (inl a) q = or_left (p x) (list_any p xs) (sym (ap p a) ∙ q)
              some_of p (x ∷ xs) z (inr k) q = or_right (p x) (list_any p xs) (some_of p xs z k q)

  moved_stamp : (w : World A) (t x : Txn A) (log : List (Txn A)) (exports : List Exported_snapshot) → IsNumbered w → IsInTime w → AllStand w → In t w.txns → Carries w t x log
      → ((k : ℕ) (y : Stamp) → Stands w y → Stands (Moved w x log exports) y)
      → Move w t x log exports → Stands (Moved w x log exports) (stamp x)
  moved_stamp w t x log exports num time all i c kept Stays = kept 0 (stamp t) (all.txns t i)
  moved_stamp w t x log exports num time all i c kept Fails = kept 0 (stamp t) (all.txns t i)
  moved_stamp w t x log exports num time all i c kept Aborts = kept 0 (stamp t) (all.txns t i)
  moved_stamp w t x log exports num time all i c kept (Commits e) = by_mode (is_read_write t.mode)
    where
      by_mode : (b : Bool) → Stands (Moved w x log exports) (stamp (cond b (record (ended w Done t) { commit = commits w + 1 }) (ended w Done t)))
      by_mode true = kept 0 (stamp t) (all.txns t i)
      by_mode false = kept 0 (stamp t) (all.txns t i)
  moved_stamp w t x log exports num time all i c kept (Runs q fits a b d) = kept 0 (stamp t) (all.txns t i)
  moved_stamp w t x log exports num time all i c kept (Asks a) = kept 0 (stamp t) (all.txns t i)
  moved_stamp w t x log exports num time all i c kept (Polls d k) = polled_keeps (λ y. Stands (Moved w x log exports) (stamp y)) w t (kept 0 (stamp t) (all.txns t i))
      (stands_now w t x exports t.known num time i c (λ e. absurd (true≢false (sym e ∙ k))))
  moved_stamp w t x log exports num time all i c kept (Learns d k e) = by_test (is_spoilt w.txns t) refl
    where
      again : Bool → Txn A
      again b = cond (not t.known && b) (with_snapshot w (commits w) (w.place + 1) t) t

      spoilt : Bool
      spoilt = is_spoilt w.txns t

      by_test : (b : Bool) → spoilt ≡ b → Stands (Moved w x log exports) (stamp (record (again spoilt) { known = true }))
      by_test true q = subst (λ y. Stands (Moved w x log exports) (stamp (record y { known = true }))) (sym retaken)
          (stands_now w t x exports true num time i c (λ _ u j r op. none_of (λ v. was_active (again spoilt) v && is_open v.standing) w.txns u e j
          (subst (λ y. (was_active y u && is_open u.standing) ≡ true) (sym retaken) (active (with_snapshot w (commits w) (w.place + 1) t) u r op (let b = time.begun_by u j in omega arith)))))
        where
          retaken : again spoilt ≡ with_snapshot w (commits w) (w.place + 1) t
          retaken = ap again q ∙ ap (λ n. cond (not n && true) (with_snapshot w (commits w) (w.place + 1) t) t) k
      by_test false q = subst (λ y. Stands (Moved w x log exports) (stamp (record y { known = true }))) (sym stayed)
          (kept 0 (stamp (record t { known = true })) (stands_settled w t num all i q (subst (λ y. list_any (λ v. was_active y v && is_open v.standing) w.txns ≡ false) stayed e)))
        where
          stayed : again spoilt ≡ t
          stayed = ap again q ∙ ap (λ n. cond (not n && false) (with_snapshot w (commits w) (w.place + 1) t) t) k
  moved_stamp w t x log exports num time all i c kept (Imports n y d a e) = kept 0 (stamp_of y) (all.exports y (find-In _ w.exports y e).0)

  -- the identifiers after a move
  moved_exports : (w : World A) (t x : Txn A) (log : List (Txn A)) (exports : List Exported_snapshot) → AllStand w → In t w.txns → Move w t x log exports
      → (y : Exported_snapshot) → In y exports → Stands w (stamp_of y)
  moved_exports w t x log exports all i (Asks a) y j = elim (In-append (λ (_ : Exported_snapshot). (0, 0, 0)) y w.exports _ j) [ inl k ↦ all.exports y k | inr k ↦ elim k [ inl p ↦ subst (λ v. Stands w (stamp_of v)) (sym p) (all.txns t i) | inr z ↦ absurd z ] ]
  moved_exports w t x log exports all i Stays y j = all.exports y j
  moved_exports w t x log exports all i Fails y j = all.exports y j
  moved_exports w t x log exports all i Aborts y j = all.exports y j
  moved_exports w t x log exports all i (Commits c) y j = all.exports y j
  moved_exports w t x log exports all i (Runs q fits a b d) y j = all.exports y j
  moved_exports w t x log exports all i (Polls a b) y j = all.exports y j
  moved_exports w t x log exports all i (Learns a b d) y j = all.exports y j
  moved_exports w t x log exports all i (Imports n v a b e) y j = all.exports y j

  -- ---- one event

  -- where the place alone moves on
  stands_later : (w : World A) (p : Stamp) → Stands w p → Stands (record w { place = w.place + 1 }) p
  stands_later w p h = record { taken_by = omega (arith, h.taken_by); shown = h.shown; behind = h.behind; ahead = h.ahead; none_open = h.none_open; safe = h.safe }

  -- where a transaction begins
  stands_begun : (w : World A) (s : ℕ) (m : Mode) (p : Stamp) → Stands w p → Stands (record w { txns = w.txns ++ begun w s m ∷ []; place = w.place + 1 }) p
  stands_begun w s m p h = record {
    taken_by = omega (arith, h.taken_by);
    shown = h.shown;
    behind = λ u j r l. behind u (split u j) r l;
    ahead = h.ahead;
    none_open = λ k u j r o l. none_open k u (split u j) r o l;
    safe = h.safe;
  }
    where
      x : Txn A
      x = begun w s m

      split : (u : Txn A) → In u (w.txns ++ x ∷ []) → In u w.txns ⊎ ((u ≡ x) ⊎ ⊥)
      split u i = In-append (λ (_ : Txn A). (0, 0, 0)) u w.txns (x ∷ []) i

      behind : (u : Txn A) → In u w.txns ⊎ ((u ≡ x) ⊎ ⊥) → is_read_write u.mode ≡ true → p.taken ≤ u.begin → p.snapshot ≤ u.snapshot
      behind u (inl j) r l = h.behind u j r l
      behind u (inr (inl q)) r l = let e : u.snapshot ≡ commits w = ap (λ (y : Txn A). y.snapshot) q in omega (arith, h.shown)
      behind u (inr (inr z)) r l = absurd z

      none_open : p.known ≡ true → (u : Txn A) → In u w.txns ⊎ ((u ≡ x) ⊎ ⊥) → is_read_write u.mode ≡ true → is_open u.standing ≡ true → u.begin < p.taken → ⊥
      none_open k u (inl j) r o l = h.none_open k u j r o l
      none_open k u (inr (inl q)) r o l = let e : u.begin ≡ w.place + 1 = ap (λ (y : Txn A). y.begin) q in omega (arith, h.taken_by)
      none_open k u (inr (inr z)) r o l = z

  -- and the one that begins
  stands_new : (w : World A) (s : ℕ) (m : Mode) → IsNumbered w → IsInTime w → Stands (record w { txns = w.txns ++ begun w s m ∷ []; place = w.place + 1 }) (stamp (begun w s m))
  stands_new w s m num time = record {
    taken_by = omega arith;
    shown = omega arith;
    behind = λ u j r l. behind u (In-append (λ (_ : Txn A). (0, 0, 0)) u w.txns (begun w s m ∷ []) j) l;
    ahead = λ u j l. absurd (let n = upto w.base.commits w.log u num.in_order j in omega arith);
    none_open = λ k u j r o l. true≢false (sym k);
    safe = λ k u v j i l g e. true≢false (sym k);
  }
    where
      behind : (u : Txn A) → In u w.txns ⊎ ((u ≡ begun w s m) ⊎ ⊥) → w.place + 1 ≤ u.begin → commits w ≤ u.snapshot
      behind u (inl j) l = absurd (let b = time.begun_by u j in omega arith)
      behind u (inr (inl q)) l = let e : u.snapshot ≡ commits w = ap (λ (y : Txn A). y.snapshot) q in omega arith
      behind u (inr (inr z)) l = absurd z

  settled_carries : (w : World A) (t : Txn A) (st : Standing) → is_open st ≡ false → Carries w t (record t { standing = st }) w.log
  settled_carries w t st o' = record { begin = refl; mode = refl; snapshot = λ _. refl; was_open = λ o. absurd (true≢false (sym o ∙ o')); log_is = inl refl }

  -- after dooms
  stands_doomed : (w : World A) (cs : List Cause) (p : Stamp) → Stands w p → Stands (record w { txns = map (doomed_by w.place cs) w.txns }) p
  stands_doomed w cs p h = record {
    taken_by = h.taken_by;
    shown = h.shown;
    behind = λ u i r l. let x = In-doomed w.place cs u w.txns i in behind x.0 u x.2 (h.behind x.0 x.1) r l;
    ahead = h.ahead;
    none_open = λ k u i r o l. let x = In-doomed w.place cs u w.txns i in none_open x.0 u x.2 (h.none_open k x.0 x.1) r o l;
    safe = h.safe;
  }
    where
      behind : (t u : Txn A) → Fate w.place t u → (is_read_write t.mode ≡ true → p.taken ≤ t.begin → p.snapshot ≤ t.snapshot) → is_read_write u.mode ≡ true → p.taken ≤ u.begin → p.snapshot ≤ u.snapshot
      behind t u Spared h = h
      behind t u (Over c o) h = h

      none_open : (t u : Txn A) → Fate w.place t u → (is_read_write t.mode ≡ true → is_open t.standing ≡ true → t.begin < p.taken → ⊥) → is_read_write u.mode ≡ true → is_open u.standing ≡ true → u.begin < p.taken → ⊥
      none_open t u Spared h = h
      none_open t u (Over c o) h = λ r o l. true≢false (sym o)

  pub stands_step : (w v : World A) → IsNumbered w → IsInTime w → AllStand w → Step w v → AllStand v
  stands_step w v num time all Nothing = record { txns = λ t i. stands_later w (stamp t) (all.txns t i); exports = λ x i. stands_later w (stamp_of x) (all.exports x i) }
  stands_step w v num time all (Begins s m) = record {
    txns = λ t i. go t (In-append (λ (_ : Txn A). (0, 0, 0)) t w.txns (begun w s m ∷ []) i);
    exports = λ x i. stands_begun w s m (stamp_of x) (all.exports x i);
  }
    where
      go : (t : Txn A) → In t w.txns ⊎ ((t ≡ begun w s m) ⊎ ⊥) → Stands (record w { txns = w.txns ++ begun w s m ∷ []; place = w.place + 1 }) (stamp t)
      go t (inl j) = stands_begun w s m (stamp t) (all.txns t j)
      go t (inr (inl q)) = subst (λ y. Stands (record w { txns = w.txns ++ begun w s m ∷ []; place = w.place + 1 }) (stamp y)) (sym q) (stands_new w s m num time)
      go t (inr (inr z)) = absurd z
  stands_step w v num time all (Moves s t x log exports c o move) = record {
    txns = λ u i. go u (In-replaced u x w.txns i);
    exports = λ y i. kept 0 (stamp_of y) (moved_exports w t x log exports all t_in move y i);
  }
    where
      t_in : In t w.txns
      t_in = (current_in w s t c).0

      carried : Carries w t x log
      carried = carries w t x log exports o move

      kept : (k : ℕ) (y : Stamp) → Stands w y → Stands (Moved w x log exports) y
      kept k y h = stands_moved w t x log exports y t_in carried h

      go : (u : Txn A) → (u ≡ x) ⊎ In u w.txns × (eqb u.number x.number ≡ false) → Stands (Moved w x log exports) (stamp u)
      go u (inl q) = subst (λ y. Stands (Moved w x log exports) (stamp y)) (sym q) (moved_stamp w t x log exports num time all t_in carried kept move)
      go u (inr j) = kept 0 (stamp u) (all.txns u j.0)
  stands_step w v num time all (Settles s t st c o d o' d') = record {
    txns = λ u i. go u (In-replaced u x w.txns i);
    exports = λ y i. kept (stamp_of y) (all.exports y i);
  }
    where
      x : Txn A
      x = record t { standing = st }

      t_in : In t w.txns
      t_in = (current_in w s t c).0

      kept : (y : Stamp) → Stands w y → Stands (record w { txns = replaced x w.txns; place = w.place + 1 }) y
      kept y k = stands_moved w t x w.log w.exports y t_in (settled_carries w t st o') k

      go : (u : Txn A) → (u ≡ x) ⊎ In u w.txns × (eqb u.number x.number ≡ false) → Stands (record w { txns = replaced x w.txns; place = w.place + 1 }) (stamp u)
      go u (inl q) = subst (λ y. Stands (record w { txns = replaced x w.txns; place = w.place + 1 }) y) (sym (ap stamp q)) (kept (stamp t) (all.txns t t_in))
      go u (inr j) = kept (stamp u) (all.txns u j.0)
  stands_step w v num time all (Dooms cs) = record {
    txns = λ u i. let x = In-doomed w.place cs u w.txns i in go x.0 u x.2 (stands_doomed w cs (stamp x.0) (all.txns x.0 x.1));
    exports = λ y i. stands_doomed w cs (stamp_of y) (all.exports y i);
  }
    where
      go : (t u : Txn A) → Fate w.place t u → Stands (record w { txns = map (doomed_by w.place cs) w.txns }) (stamp t) → Stands (record w { txns = map (doomed_by w.place cs) w.txns }) (stamp u)
      go t u Spared h = h
      go t u (Over c o) h = h

  pub stands_start : (w : World A) → w.txns ≡ [] → w.exports ≡ [] → AllStand w
  stands_start w e f = record { txns = λ t i. absurd (subst (In t) e i); exports = λ x i. absurd (subst (In x) f i) }

  -- A stamp that stands stands after any event.
  pub stamp_step : (w v : World A) (p : Stamp) → Stands w p → Step w v → Stands v p
  stamp_step w v p h Nothing = stands_later w p h
  stamp_step w v p h (Begins s m) = stands_begun w s m p h
  stamp_step w v p h (Moves s t x log exports c o move) = stands_moved w t x log exports p (current_in w s t c).0 (carries w t x log exports o move) h
  stamp_step w v p h (Settles s t st c o d o' d') = stands_moved w t (record t { standing = st }) w.log w.exports p (current_in w s t c).0 (settled_carries w t st o') h
  stamp_step w v p h (Dooms cs) = stands_doomed w cs p h
