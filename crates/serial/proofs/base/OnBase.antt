-- Events on the base of a quiet history do what they do after that history's own events.
use Rattle.std.proofs.Common.{◌≡◌, refl, sym, ap, subst, ◌∙◌, ℕ, zero, suc, ◌+◌, ◌-◌, ◌<◌, ◌≤◌, Bool, true, false, true≢false, cond, not, ◌&&◌, ◌||◌, ◌⊎◌, inl, inr, List, [], ◌∷◌, ◌++◌, length, map, take, filter, fold, Option, Some, None, is_some, eqb, nat_lt, nat_le, arith}
use Rattle.std.proofs.lemmas.Bool.{eqb-true, le-ltb, leb-true, ltb-true, and_right, false_from_ne_true, and_parts}
use Rattle.std.proofs.lemmas.List.{map-append, take_all}
use Rattle.std.specs.List.{find, list_any, list_all}
use Rattle.std.specs.Option.{option_to_list}
use Rattle.value.specs.declared.refusal.Cause.{Cause}
use Rattle.value.specs.Isolation.{is_dangerous, bound, earliest, caused, first_some, first_cause, dooms, with_doom, doom_of, is_live, is_first, cause_from}
use Rattle.value.proofs.IsolationLemmas.{In}
use Rattle.value.proofs.SerialLemmas.{NumberedFrom}
use Rattle.value.proofs.Basics.{fold-same_in, first_some-none, first_some-same_in, filter_none, find-same_in, any-same_in}
use Rattle.schema.specs.declared.changes.Change.{Change}
use Rattle.schema.specs.declared.tables.Tables.{Tables}
use Rattle.history.specs.declared.base.Base.{Base}
use Rattle.history.specs.Transactions.{Standing, Open, Doomed, Failed, Aborted, Done, Txn, World, Exported_snapshot, node, edge, reads_from, is_open, is_done, is_owed, is_of, is_read_write, is_quiet, is_spoilt, is_pending, is_living, was_active, spoils, commits, tables_at, with_all, current, exported}
use Rattle.history.specs.Events.{numbered, ended, polled, with_snapshot, replaced, doomed_by, doomed_with}
use Rattle.history.specs.Checkpoint.{base_after}
use Rattle.history.specs.Answer.{cause_of, is_taken, is_unseen, meets_another}
use Rattle.serial.proofs.legal.Numbers.{In-replaced}
use Rattle.serial.proofs.order.SerialTheorem.{IsGood, edge_parts}
use Rattle.serial.proofs.base.Based.{IsBased}

-- ---- lists whose front has none of what is looked for

module _ {T : Type 0} where
  any_past : (p : T → Bool) (xs ys : List T) → ((x : T) → In x xs → p x ≡ false) → list_any p (xs ++ ys) ≡ list_any p ys
  any_past p [] ys f = refl
  any_past p (x ∷ xs) ys f = ap (λ b. b || list_any p (xs ++ ys)) (f x (inl refl)) ∙ any_past p xs ys (λ y i. f y (inr i))

  any_none : (p : T → Bool) (xs : List T) → ((x : T) → In x xs → p x ≡ false) → list_any p xs ≡ false
  any_none p [] f = refl
  any_none p (x ∷ xs) f = ap (λ b. b || list_any p xs) (f x (inl refl)) ∙ any_none p xs (λ y i. f y (inr i))

  find_past : (p : T → Bool) (xs ys : List T) → ((x : T) → In x xs → p x ≡ false) → find p (xs ++ ys) ≡ find p ys
  find_past p [] ys f = refl
  find_past p (x ∷ xs) ys f = ap (λ b. cond b (Some x) (find p (xs ++ ys))) (f x (inl refl)) ∙ find_past p xs ys (λ y i. f y (inr i))

  filter_past : (p : T → Bool) (xs ys : List T) → ((x : T) → In x xs → p x ≡ false) → filter p (xs ++ ys) ≡ filter p ys
  filter_past p [] ys f = refl
  filter_past p (x ∷ xs) ys f = ap (λ b. cond b (x ∷ filter p (xs ++ ys)) (filter p (xs ++ ys))) (f x (inl refl)) ∙ filter_past p xs ys (λ y i. f y (inr i))

  first_past : {B : Type 0} (f : T → Option B) (xs ys : List T) → ((x : T) → In x xs → f x ≡ None) → first_some f (xs ++ ys) ≡ first_some f ys
  first_past f [] ys g = refl
  first_past f (x ∷ xs) ys g = ap (λ o. cond (is_some o) o (first_some f (xs ++ ys))) (g x (inl refl)) ∙ first_past f xs ys (λ y i. g y (inr i))

  fold_past : {B : Type 0} (f : B → T → B) (b : B) (xs ys : List T) → ((x : T) → In x xs → f b x ≡ b) → fold f b (xs ++ ys) ≡ fold f b ys
  fold_past f b [] ys g = refl
  fold_past f b (x ∷ xs) ys g = ap (λ c. fold f c (xs ++ ys)) (g x (inl refl)) ∙ fold_past f b xs ys (λ y i. g y (inr i))

  map_still : (f : T → T) (xs : List T) → ((x : T) → In x xs → f x ≡ x) → map f xs ≡ xs
  map_still f [] g = refl
  map_still f (x ∷ xs) g = ap (λ y. y ∷ map f xs) (g x (inl refl)) ∙ ap (λ ys. x ∷ ys) (map_still f xs (λ y i. g y (inr i)))

  take_past : (n : ℕ) (xs ys : List T) → length xs ≤ n → take n (xs ++ ys) ≡ xs ++ take (n - length xs) ys
  take_past n [] ys h = ap (λ m. take m ys) (omega arith)
  take_past zero (x ∷ xs) ys h = absurd (omega arith)
  take_past (suc n) (x ∷ xs) ys h = ap (λ zs. x ∷ zs) (take_past n xs ys (omega arith)) ∙ ap (λ m. x ∷ (xs ++ take m ys)) (omega arith)

-- ---- tests

middle_false : (a b c : Bool) → b ≡ false → (a && b && c) ≡ false
middle_false a b c e = ap (λ d. d && c) (and_right a b e)

first_false : (a b c : Bool) → a ≡ false → (a && b && c) ≡ false
first_false a b c e = ap (λ d. d && b && c) e

closed : (st : Standing) → is_owed st ≡ false → is_open st ≡ false
closed Open e = e
closed (Doomed c) e = refl
closed Failed e = refl
closed Aborted e = refl
closed Done e = refl

upto : {A : Type 0} (n : ℕ) (ts : List (Txn A)) (u : Txn A) → NumberedFrom (λ (t : Txn A). t.commit) n ts → In u ts → u.commit ≤ n + length ts
upto n [] u h k = absurd k
upto {A = A} n (t ∷ ts) u h (inl p) = omega (arith, h.0, ap (λ (y : Txn A). y.commit) p)
upto n (t ∷ ts) u h (inr k) = omega (arith, upto (n + 1) ts u h.1 k)

above_from : {A : Type 0} (n : ℕ) (ts : List (Txn A)) (u : Txn A) → NumberedFrom (λ (t : Txn A). t.commit) n ts → In u ts → n < u.commit
above_from n [] u h k = absurd k
above_from {A = A} n (t ∷ ts) u h (inl p) = omega (arith, h.0, ap (λ (y : Txn A). y.commit) p)
above_from n (t ∷ ts) u h (inr k) = omega (arith, above_from (n + 1) ts u h.1 k)

with_all-append : {A : Type 0} (xs ys : List (Txn A)) (X : Tables A) → with_all (xs ++ ys) X ≡ with_all ys (with_all xs X)
with_all-append [] ys X = refl
with_all-append (x ∷ xs) ys X = with_all-append xs ys _

module _ {A : Type 0} (w : World A) (gw : IsGood w) (quiet : is_quiet w ≡ true) where
  -- the world after a history on w's base, with w before it
  abbrev pub joined : World A → World A
  joined v = record { catalog = v.catalog; opening = w.opening; base = w.base; log = w.log ++ v.log; txns = w.txns ++ v.txns; exports = w.exports ++ v.exports; place = v.place }

  -- ---- w's own transactions

  pub old_owed : (u : Txn A) → In u w.txns → is_owed u.standing ≡ false
  old_owed u i = was (is_owed u.standing) (all_of w.txns quiet i)
    where
      was : (b : Bool) → not b ≡ true → b ≡ false
      was true e = absurd (true≢false (sym e))
      was false e = refl

      all_of : (ts : List (Txn A)) → list_all (λ t. not (is_owed t.standing)) ts ≡ true → In u ts → not (is_owed u.standing) ≡ true
      all_of [] e j = absurd j
      all_of (t ∷ ts) e (inl p) = ap (λ (y : Txn A). not (is_owed y.standing)) p ∙ (and_parts (not (is_owed t.standing)) (list_all (λ y. not (is_owed y.standing)) ts) e).0
      all_of (t ∷ ts) e (inr j) = all_of ts (and_parts (not (is_owed t.standing)) (list_all (λ y. not (is_owed y.standing)) ts) e).1 j

  pub old_open : (u : Txn A) → In u w.txns → is_open u.standing ≡ false
  old_open u i = closed u.standing (old_owed u i)

  pub old_commit : (u : Txn A) → In u w.txns → u.commit ≤ commits w
  old_commit u i = go (gw.numbered.kind u i)
    where
      go : In u w.log ⊎ (u.commit ≡ 0) × (is_done u.standing ≡ true → is_read_write u.mode ≡ false) → u.commit ≤ commits w
      go (inl j) = upto w.base.commits w.log u gw.numbered.in_order j
      go (inr k) = omega (arith, k.0)

  pub old_bound : (u : Txn A) → In u w.txns → bound node edge u ≤ commits w
  old_bound u i = go (is_read_write u.mode)
    where
      go : (b : Bool) → cond b u.commit u.snapshot ≤ commits w
      go true = old_commit u i
      go false = (gw.numbered.shown u i).1

  -- ---- a world on w's base

  pub record IsOnBase (v : World A) : Type 0 where
    pub good : IsGood v
    pub based : IsBased v
    pub opening : v.opening ≡ tables_at w (commits w)
    pub base : v.base ≡ base_after w

  module _ (v : World A) (on : IsOnBase v) where
    base_commits : v.base.commits ≡ commits w
    base_commits = ap (λ (b : Base). b.commits) on.base

    pub new_snapshot : (t : Txn A) → In t v.txns → commits w ≤ t.snapshot
    new_snapshot t i = let h = (on.good.numbered.shown t i).0 in omega (arith, h, base_commits)

    pub new_number : (t : Txn A) → In t v.txns → w.base.transactions + length w.txns < t.number
    new_number t i = let h = on.good.numbered.above t i in omega (arith, h, ap (λ (b : Base). b.transactions) on.base)

    pub new_taken : (t : Txn A) → In t v.txns → w.place < t.taken
    new_taken t i = let h = (on.based.since t i).1 in omega (arith, h, ap (λ (b : Base). b.events) on.base)

    pub new_commit : (t : Txn A) → In t v.txns → (t.commit ≡ 0) ⊎ (commits w < t.commit)
    new_commit t i = go (on.good.numbered.kind t i)
      where
        go : In t v.log ⊎ (t.commit ≡ 0) × (is_done t.standing ≡ true → is_read_write t.mode ≡ false) → (t.commit ≡ 0) ⊎ (commits w < t.commit)
        go (inl j) = inr (let h = above_from v.base.commits v.log t on.good.numbered.in_order j in omega (arith, h, base_commits))
        go (inr k) = inl k.0

    pub apart : (u t : Txn A) → In u w.txns → In t v.txns → eqb u.number t.number ≡ false
    apart u t i j = false_from_ne_true (eqb u.number t.number) (λ e. let p = eqb-true u.number t.number e in let h = gw.numbered.bounded u i in let k = new_number t j in omega arith)

    pub no_edge : (t u : Txn A) → commits w ≤ t.snapshot → In u w.txns → edge t u ≡ false
    no_edge t u s i = false_from_ne_true (edge t u) (λ e. let h = (edge_parts t u e).1 in let k = old_commit u i in omega arith)

    -- ---- numbers and tables

    pub same_commits : commits (joined v) ≡ commits v
    same_commits = let h : length (w.log ++ v.log) ≡ length w.log + length v.log = length_joined w.log in omega (arith, h, base_commits)
      where
        length_joined : (xs : List (Txn A)) → length (xs ++ v.log) ≡ length xs + length v.log
        length_joined [] = omega arith
        length_joined (x ∷ xs) = omega (arith, length_joined xs)

    pub same_tables : (n : ℕ) → commits w ≤ n → tables_at (joined v) n ≡ tables_at v n
    same_tables n h =
        ap (λ ts. with_all ts w.opening) (take_past (n - w.base.commits) w.log v.log (omega arith))
        ∙ with_all-append w.log (take (n - w.base.commits - length w.log) v.log) w.opening
        ∙ ap (with_all (take (n - w.base.commits - length w.log) v.log)) opened
        ∙ ap (λ m. with_all (take m v.log) v.opening) (omega (arith, base_commits))
      where
        opened : with_all w.log w.opening ≡ v.opening
        opened = sym (on.opening ∙ ap (λ ts. with_all ts w.opening) (take_all (commits w - w.base.commits) w.log (omega arith)))

    -- ---- what is looked up

    pub same_current : (s : ℕ) → current (joined v) s ≡ current v s
    same_current s = find_past (is_of s) w.txns v.txns (λ u i. and_right (eqb u.session s) (is_owed u.standing) (old_owed u i))

    inactive : (t u : Txn A) → w.place < t.taken → In u w.txns → was_active t u ≡ false
    inactive t u l i = and_right _ (is_open u.standing || nat_lt t.taken u.end) (ap (λ b. b || nat_lt t.taken u.end) (old_open u i) ∙ le-ltb t.taken u.end (let h = gw.time.ended_by u i in omega arith))

    pub same_pending : (t : Txn A) → w.place < t.taken → is_pending (w.txns ++ v.txns) t ≡ is_pending v.txns t
    same_pending t l = any_past _ w.txns v.txns (λ u i. ap (λ b. b && is_open u.standing) (inactive t u l i))

    pub same_spoilt : (t : Txn A) → In t v.txns → is_spoilt (w.txns ++ v.txns) t ≡ is_spoilt v.txns t
    same_spoilt t i =
        any_past _ w.txns v.txns (λ u j. ap (λ b. b && spoils (w.txns ++ v.txns) t u) (inactive t u (new_taken t i) j))
        ∙ any-same_in _ _ v.txns (λ u j. ap (λ b. was_active t u && (is_done u.standing && b)) (any_past _ w.txns v.txns (λ y k. ap (λ b. b && nat_le y.commit t.snapshot) (no_edge u y (new_snapshot u j) k))))

    no_living : (y : Exported_snapshot) → In y w.exports → y.exporter ≤ w.base.transactions + length w.txns → is_living (w.txns ++ v.txns) y ≡ false
    no_living y i h = any_past _ w.txns v.txns (λ u j. and_right (eqb u.number y.exporter) (is_open u.standing) (old_open u j)) ∙ any_none _ v.txns (λ t j. ap (λ b. b && is_open t.standing)
        (false_from_ne_true (eqb t.number y.exporter) (λ e. let p = eqb-true t.number y.exporter e in let k = new_number t j in omega arith)))

    pub same_exported : ((y : Exported_snapshot) → In y w.exports → y.exporter ≤ w.base.transactions + length w.txns) → (n : ℕ) → exported (joined v) n ≡ exported v n
    same_exported old n =
        find_past _ w.exports v.exports (λ y i. and_right (eqb y.id n) (is_living (w.txns ++ v.txns) y) (no_living y i (old y i)))
        ∙ find-same_in _ _ v.exports (λ y i. ap (λ b. eqb y.id n && b) (any_past _ w.txns v.txns (λ u j. and_right (eqb u.number y.exporter) (is_open u.standing) (old_open u j))))

    pub same_meets : (t : Txn A) → In t v.txns → (xs : List (Change A)) → meets_another (joined v) t xs ≡ meets_another v t xs
    same_meets t i xs = any-same_in _ _ xs (λ x j. any_past (λ u. is_taken t u x) w.txns v.txns (λ u k. middle_false _ (is_unseen t u) _
        (ap (λ b. b || nat_lt t.snapshot u.commit) (old_open u k) ∙ le-ltb t.snapshot u.commit (let a = old_commit u k in let b = new_snapshot t i in omega arith))))

    -- ---- replacing and dooming

    pub replaced_joined : (x : Txn A) → w.base.transactions + length w.txns < x.number → replaced x (w.txns ++ v.txns) ≡ w.txns ++ replaced x v.txns
    replaced_joined x l = map-append _ w.txns v.txns ∙ ap (λ ts. ts ++ replaced x v.txns) (map_still _ w.txns (λ u i. ap (λ b. cond b x u)
        (false_from_ne_true (eqb u.number x.number) (λ e. let p = eqb-true u.number x.number e in let h = gw.numbered.bounded u i in omega arith))))

    pub doomed_joined : (place : ℕ) (cs : List Cause) (ts : List (Txn A)) → map (doomed_by place cs) (w.txns ++ ts) ≡ w.txns ++ map (doomed_by place cs) ts
    doomed_joined place cs ts = map-append _ w.txns ts ∙ ap (λ us. us ++ map (doomed_by place cs) ts) (map_still _ w.txns (λ u i. ap (λ b. doomed_with place (cond b (find (λ c. eqb c.b.0 u.number) cs) None) u) (old_open u i)))

    -- ---- causes

    record IsNew (z : Txn A) : Type 0 where
      snapshot : commits w ≤ z.snapshot
      commit : (z.commit ≡ 0) ⊎ (commits w < z.commit)

    -- the parts of a structure that aren't between its members
    dangerous_parts : (a b d : Txn A) → is_dangerous node edge a b d ≡ true → (edge a b ≡ true) × (edge b d ≡ true) × (d.commit < b.commit) × (d.commit ≤ bound node edge a)
    dangerous_parts a b d e =
        let p1 = and_parts _ (nat_le d.commit (bound node edge a)) e in
        let p2 = and_parts _ (nat_lt d.commit b.commit) p1.0 in
        let p3 = and_parts _ (edge b d) p2.0 in
        let p4 = and_parts _ (edge a b) p3.0 in
        (p4.1, p3.1, ltb-true d.commit b.commit p2.1, leb-true d.commit (bound node edge a) p1.1)

    above : (t u : Txn A) → edge t u ≡ true → t.snapshot < u.commit
    above t u e = (edge_parts t u e).1

    -- a new one's edge is to one above the base
    far : (b d : Txn A) → IsNew b → edge b d ≡ true → commits w < d.commit
    far b d n e = let h = above b d e in let k = n.snapshot in omega arith

    far_new : (d : Txn A) (m : ℕ) → IsNew d → m < d.commit → commits w < d.commit
    far_new d m n h = go n.commit
      where
        go : (d.commit ≡ 0) ⊎ (commits w < d.commit) → commits w < d.commit
        go (inl z) = absurd (omega arith)
        go (inr l) = l

    abbrev Member : Txn A → Type 0
    Member z = In z w.txns ⊎ IsNew z

    from_old : (a b d : Txn A) → In a w.txns → Member b → Member d → is_dangerous node edge a b d ≡ false
    from_old a b d i (inl j) (inl k) = gw.none_dangerous.each a b d i j k
    from_old a b d i (inl j) (inr n) = false_from_ne_true (is_dangerous node edge a b d) (λ e. let p = dangerous_parts a b d e in let h = far_new d b.snapshot n (above b d p.1) in let l = old_commit b j in let m = p.2 in omega arith)
    from_old a b d i (inr n) m = false_from_ne_true (is_dangerous node edge a b d) (λ e. let p = dangerous_parts a b d e in let h = far b d n p.1 in let l = old_bound a i in let q = p.3 in omega arith)

    to_old : (a b d : Txn A) → IsNew a → In b w.txns → is_dangerous node edge a b d ≡ false
    to_old a b d n j = false_from_ne_true (is_dangerous node edge a b d) (λ e. let p = dangerous_parts a b d e in let h = far a b n p.0 in let l = old_commit b j in omega arith)

    last_old : (a b d : Txn A) → IsNew b → In d w.txns → is_dangerous node edge a b d ≡ false
    last_old a b d n k = false_from_ne_true (is_dangerous node edge a b d) (λ e. let p = dangerous_parts a b d e in let h = far b d n p.1 in let l = old_commit d k in omega arith)

    same_first : (ts : List (Txn A)) → ((z : Txn A) → In z ts → IsNew z) → first_cause node edge (w.txns ++ ts) ≡ first_cause node edge ts
    same_first ts new =
        first_past _ w.txns ts (λ a i. first_some-none _ (w.txns ++ ts) (λ b j. ap (λ ys. caused node edge a b (earliest node edge ys)) (filter_none (is_dangerous node edge a b) (w.txns ++ ts) (λ d k. from_old a b d i (member b j) (member d k)))))
        ∙ first_some-same_in _ _ ts (λ a i.
        first_past _ w.txns ts (λ b j. ap (λ ys. caused node edge a b (earliest node edge ys)) (filter_none (is_dangerous node edge a b) (w.txns ++ ts) (λ d k. to_old a b d (new a i) j)))
        ∙ first_some-same_in _ _ ts (λ b j. ap (λ ys. caused node edge a b (earliest node edge ys)) (filter_past (is_dangerous node edge a b) w.txns ts (λ d k. last_old a b d (new b j) k))))
      where
        member : (z : Txn A) → In z (w.txns ++ ts) → Member z
        member z j = side (Rattle.value.proofs.SerialLemmas.In-append (λ (_ : Txn A). (0, 0, 0)) z w.txns ts j)
          where
            side : In z w.txns ⊎ In z ts → Member z
            side (inl k) = inl k
            side (inr k) = inr (new z k)

    pub same_numbered : (t : Txn A) → numbered (joined v) t ≡ numbered v t
    same_numbered t = ap (λ n. cond (is_read_write t.mode) (record (ended v Done t) { commit = n + 1 }) (ended v Done t)) same_commits

    pub same_cause : (t : Txn A) → In t v.txns → cause_of (joined v) t ≡ cause_of v t
    same_cause t i =
        ap (λ x. first_cause node edge (replaced x (w.txns ++ v.txns))) (same_numbered t)
        ∙ ap (first_cause node edge) (replaced_joined y (number (is_read_write t.mode)))
        ∙ same_first (replaced y v.txns) (λ z j. new z (In-replaced z y v.txns j))
      where
        y : Txn A
        y = numbered v t

        number : (b : Bool) → w.base.transactions + length w.txns < (cond b (record (ended v Done t) { commit = commits v + 1 }) (ended v Done t)).number
        number true = new_number t i
        number false = new_number t i

        y_new : (b : Bool) → IsNew (cond b (record (ended v Done t) { commit = commits v + 1 }) (ended v Done t))
        y_new true = record { snapshot = new_snapshot t i; commit = inr (omega (arith, base_commits)) }
        y_new false = record { snapshot = new_snapshot t i; commit = new_commit t i }

        new : (z : Txn A) → (z ≡ y) ⊎ In z v.txns × (eqb z.number y.number ≡ false) → IsNew z
        new z (inl p) = subst IsNew (sym p) (y_new (is_read_write t.mode))
        new z (inr j) = record { snapshot = new_snapshot z j.0; commit = new_commit z j.0 }

    -- ---- dooms

    pub same_dooms : (t : Txn A) → In t v.txns → dooms node reads_from (w.txns ++ v.txns) t ≡ dooms node reads_from v.txns t
    same_dooms t i =
        fold_past (with_doom node reads_from (w.txns ++ v.txns) t) [] w.txns v.txns (λ u j. idle u j)
        ∙ fold-same_in (with_doom node reads_from (w.txns ++ v.txns) t) (with_doom node reads_from v.txns t) [] v.txns (λ cs b j. ap (λ o. cs ++ option_to_list o) (doom cs b))
      where
        dead : (u : Txn A) → In u w.txns → is_live node reads_from t u ≡ false
        dead u j = middle_false (not (eqb u.number t.number)) (is_open u.standing) (is_read_write u.mode) (old_open u j)

        idle : (u : Txn A) → In u w.txns → [] ++ option_to_list (doom_of node reads_from (w.txns ++ v.txns) t [] u) ≡ []
        idle u j = ap (λ b. option_to_list (cond (b && reads_from u t) (cause_from node reads_from u t (find (is_first node reads_from t [] u) (w.txns ++ v.txns))) None)) (dead u j)

        none_first : (cs : List Cause) (b a : Txn A) → In a w.txns → is_first node reads_from t cs b a ≡ false
        none_first cs b a j = middle_false (not (eqb a.number b.number)) (not (not (eqb a.number t.number)) || is_live node reads_from t a && not (list_any (λ x. eqb x.b.0 a.number) cs)) (reads_from a b)
            (ap (λ c. not (not c) || is_live node reads_from t a && not (list_any (λ x. eqb x.b.0 a.number) cs)) (apart a t j i) ∙ ap (λ c. c && not (list_any (λ x. eqb x.b.0 a.number) cs)) (dead a j))

        doom : (cs : List Cause) (b : Txn A) → doom_of node reads_from (w.txns ++ v.txns) t cs b ≡ doom_of node reads_from v.txns t cs b
        doom cs b = ap (λ o. cond (is_live node reads_from t b && reads_from b t) (cause_from node reads_from b t o) None) (find_past (is_first node reads_from t cs b) w.txns v.txns (λ a j. none_first cs b a j))

    -- ---- a POLL

    pub same_polled : (t : Txn A) → In t v.txns → polled (joined v) t ≡ polled v t
    same_polled t i =
        ap (λ b. cond (not t.known && b) (with_snapshot (joined v) (commits (joined v)) (v.place + 1) t) t) (same_spoilt t i)
        ∙ ap (λ (x : Txn A). cond (not t.known && is_spoilt v.txns t) x t) retaken
      where
        retaken : with_snapshot (joined v) (commits (joined v)) (v.place + 1) t ≡ with_snapshot v (commits v) (v.place + 1) t
        retaken = ap (λ n. with_snapshot (joined v) n (v.place + 1) t) same_commits ∙ ap (λ X. record t { snapshot = commits v; taken = v.place + 1; own = X }) (same_tables (commits v) (omega (arith, base_commits)))

    pub taken_polled : (t : Txn A) → In t v.txns → w.place < (polled v t).taken
    taken_polled t i = go (not t.known && is_spoilt v.txns t)
      where
        go : (b : Bool) → w.place < (cond b (with_snapshot v (commits v) (v.place + 1) t) t).taken
        go true = let h = on.based.placed in omega (arith, h, ap (λ (b : Base). b.events) on.base)
        go false = new_taken t i
