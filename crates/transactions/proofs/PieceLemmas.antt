-- Questions asked of the pieces of a walk, one after another: what is left of the walk answers for all.
use Rattle.std.proofs.Common.{◌≡◌, refl, sym, ap, subst, ◌∙◌, ℕ, zero, suc, ◌+◌, ◌<◌, ◌≤◌, min, Bool, true, false, ◌||◌, List, [], ◌∷◌, ◌++◌, append_assoc, length, drop, fold, Option, Some, None, is_some, arith, slice_get}
use Rattle.std.specs.List.{AllByRecursion, filter, find, list_any}
use Rattle.std.specs.Option.{option_map, option_or}
use Rattle.std.proofs.lemmas.List.{append-nil, drop_all, length-append, length-drop}
use Rattle.std.proofs.lemmas.List.Sums.{fold-append}
use Rattle.value.specs.Isolation.{Node, earliest, first_part, first_some, is_dangerous}
use Rattle.schema.specs.declared.changes.Change.{Change}
use Rattle.history.specs.Transactions.{Txn, edge, is_owed, node}
use Rattle.history.specs.Answer.{is_taken}
use Rattle.transactions.specs.Earliest.{first_of_both}
use Rattle.transactions.specs.Stretches.{IsAround, IsPast}
use Rattle.transactions.specs.Versions.{least_snapshot, owed_snapshots}
use Rattle.transactions.proofs.AroundLemmas.{pair-filter}
use Rattle.transactions.proofs.CauseLemmas.{both-assoc, earliest-append, first_some-back, first_some-front}
use Rattle.transactions.proofs.OwedLemmas.{owed-around}
use Rattle.transactions.proofs.StretchLemmas.{any-around, find-around, first-front, fold-between, found-front, least-around, least-swap, meets-around, part-around}
use Rattle.transactions.proofs.WalkLemmas.{first_part-least}

-- a walk that hasn't begun
pub at-first : {X : Type 0} (xs : List X) (k : ℕ) → k ≡ 0 → drop k xs ≡ xs
at-first xs k e = ap (λ n. drop n xs) e

slice_get-drop : {X : Type 0} (k : ℕ) (xs : List X) (i : ℕ) → slice_get (drop k xs) i ≡ slice_get xs (k + i)
slice_get-drop zero xs i = ap (slice_get xs) (let e : i ≡ 0 + i = omega arith in e)
slice_get-drop (suc k) [] i = refl
slice_get-drop (suc k) (x ∷ xs) i = slice_get-drop k xs i ∙ ap (slice_get (x ∷ xs)) (let e : suc (k + i) ≡ suc k + i = omega arith in e)

module _ {A : Type 0} where
  -- a piece as a transaction sees it is the same to one that is equal
  pub seen-alike : {t u : Txn A} {p : ℕ} {ts f b : List (Txn A)} → t ≡ u → IsAround t.snapshot p ts f b → IsAround u.snapshot p ts f b
  seen-alike {t} {u} {p} {ts} {f} {b} same around = subst (λ n. IsAround n p ts f b) (ap (λ (x : Txn A). x.snapshot) same) around

  -- and so where it has ended
  pub ended-alike : {t u : Txn A} {ts f b : List (Txn A)} → t ≡ u → IsAround t.snapshot t.end ts f b → IsAround u.snapshot u.end ts f b
  ended-alike {t} {u} {ts} {f} {b} same around = subst (λ (x : Txn A). IsAround x.snapshot x.end ts f b) same around

  -- ---- whether one passes

  module _ (q : Txn A → Bool) {n p : ℕ} (so : (u : Txn A) → IsPast n p u → q u ≡ false) {ts f b : List (Txn A)} {r : Bool} (around : IsAround n p ts f b) where
    pub any-found : list_any q f ≡ true → list_any q ts ≡ r → true ≡ r
    any-found found e = ap (λ c. c || list_any q b) (sym found) ∙ any-around q n p so ts f b around ∙ e

    pub any-further : list_any q f ≡ false → list_any q ts ≡ r → list_any q b ≡ r
    any-further missed e = ap (λ c. c || list_any q b) (sym missed) ∙ any-around q n p so ts f b around ∙ e

  pub any-ended : (q : Txn A → Bool) (ts : List (Txn A)) (k : ℕ) {r : Bool} → length ts ≤ k → list_any q (drop k ts) ≡ r → false ≡ r
  any-ended q ts k past e = ap (list_any q) (sym (drop_all k ts past)) ∙ e

  -- ---- whether one has written a key of the changes

  abbrev pub meets : Txn A → List (Change A) → List (Txn A) → Bool
  meets t xs us = list_any (λ x. list_any (λ u. is_taken t u x) us) xs

  module _ (t : Txn A) (xs : List (Change A)) {p : ℕ} {ts f b : List (Txn A)} {r : Bool} (around : IsAround t.snapshot p ts f b) where
    pub meets-found : meets t xs f ≡ true → meets t xs ts ≡ r → true ≡ r
    meets-found found e = ap (λ c. c || meets t xs b) (sym found) ∙ meets-around t p ts f b around xs ∙ e

    pub meets-further : meets t xs f ≡ false → meets t xs ts ≡ r → meets t xs b ≡ r
    meets-further missed e = ap (λ c. c || meets t xs b) (sym missed) ∙ meets-around t p ts f b around xs ∙ e

  pub meets-ended : (t : Txn A) (xs : List (Change A)) (ts : List (Txn A)) (k : ℕ) {r : Bool} → length ts ≤ k → meets t xs (drop k ts) ≡ r → false ≡ r
  meets-ended t xs ts k past e = sym (nothing xs) ∙ ap (meets t xs) (sym (drop_all k ts past)) ∙ e
    where
      nothing : (ys : List (Change A)) → meets t ys [] ≡ false
      nothing [] = refl
      nothing (y ∷ ys) = nothing ys

  -- ---- which is the first that passes

  module _ (q : Txn A → Bool) {n p : ℕ} (so : (u : Txn A) → IsPast n p u → q u ≡ false) {ts f b : List (Txn A)} {r : Option (Txn A)} (around : IsAround n p ts f b) where
    pub find-further : find q f ≡ None → find q ts ≡ r → find q b ≡ r
    find-further none e = ap (λ o. option_or o (find q b)) (sym none) ∙ find-around q n p so ts f b around ∙ e

  pub find-first : (q : Txn A → Bool) {n p : ℕ} {ts f b : List (Txn A)} {r : Option (Txn A)} (x : Txn A) → IsAround n p ts f b → Some x ≡ find q f → find q ts ≡ r → Some x ≡ r
  find-first q {n} {p} {ts} {f} {b} x around found e = first-front q n p ts f b x around found ∙ e

  pub find-ended : (q : Txn A → Bool) (ts : List (Txn A)) (k : ℕ) {r : Option (Txn A)} → length ts ≤ k → find q (drop k ts) ≡ r → r ≡ None
  find-ended q ts k past e = sym (ap (find q) (sym (drop_all k ts past)) ∙ e)

  -- its place
  pub found-at : (q : Txn A → Bool) {n p : ℕ} (ts : List (Txn A)) {f b : List (Txn A)} (k i : ℕ) → IsAround n p (drop k ts) f b → i < length f → find q f ≡ slice_get f i → find q (drop k ts) ≡ find q ts → find q ts ≡ slice_get ts (k + i)
  found-at q {n} {p} ts {f} {b} k i around lt found e = sym e ∙ found-front q n p (drop k ts) f b i around lt found ∙ slice_get-drop k ts i

  pub place-within : {n p : ℕ} (ts : List (Txn A)) {f b : List (Txn A)} (k i : ℕ) → IsAround n p (drop k ts) f b → i < length f → k + i < length ts
  place-within {n} {p} ts {f} {b} k i r lt = let e = ap length r.whole in let a = length-append f (r.between ++ b) in let d = length-drop k ts in omega arith

  -- ---- the first that something is given of

  module _ {B : Type 0} (g : Txn A → Option B) {n p : ℕ} {ts f b : List (Txn A)} {r : Option B} (around : IsAround n p ts f b) where
    pub some-found : (o : Option B) → o ≡ first_some g f → is_some o ≡ true → first_some g ts ≡ r → o ≡ r
    some-found o is some e = first_some-front g ts f (around.between ++ b) around.whole o is some ∙ e

    pub some-further : AllByRecursion (λ u. g u ≡ None) around.between → (o : Option B) → o ≡ first_some g f → is_some o ≡ false → first_some g ts ≡ r → first_some g b ≡ r
    some-further none o is empty e = first_some-back g ts f around.between b around.whole none o is empty (first_some g b) refl ∙ e

  pub some-ended : {B : Type 0} (g : Txn A → Option B) (ts : List (Txn A)) (k : ℕ) {r : Option B} → length ts ≤ k → first_some g (drop k ts) ≡ r → None ≡ r
  some-ended g ts k past e = ap (first_some g) (sym (drop_all k ts past)) ∙ e

  -- ---- the least snapshot

  pub least-further : (q : Txn A → Bool) {n p : ℕ} → ((u : Txn A) → q u ≡ true → is_owed u.standing ≡ true) → {ts f b : List (Txn A)} (least : ℕ) {new r : ℕ} → IsAround n p ts f b → new ≡ least_snapshot q least f
      → least_snapshot q least ts ≡ r → least_snapshot q new b ≡ r
  least-further q {n} {p} owed {ts} {f} {b} least around is e =
      ap (λ m. least_snapshot q m b) is ∙ least-swap q least f b ∙ least-around q least n p owed ts f b around ∙ e

  pub least-ended : (q : Txn A → Bool) (ts : List (Txn A)) (k least : ℕ) {r : ℕ} → length ts ≤ k → least_snapshot q least (drop k ts) ≡ r → least ≡ r
  least-ended q ts k least past e = ap (least_snapshot q least) (sym (drop_all k ts past)) ∙ e

  -- ---- owed snapshots

  pub owed-further : {n p : ℕ} {ts f b : List (Txn A)} (made : List ℕ) {new r : List ℕ} → IsAround n p ts f b → new ≡ made ++ owed_snapshots f → made ++ owed_snapshots ts ≡ r → new ++ owed_snapshots b ≡ r
  owed-further {n} {p} {ts} {f} {b} made around is e =
      ap (λ ss. ss ++ owed_snapshots b) is ∙ append_assoc made (owed_snapshots f) (owed_snapshots b) ∙ ap (λ ss. made ++ ss) (owed-around n p ts f b around) ∙ e

  pub owed-over : (ts : List (Txn A)) (k : ℕ) (made : List ℕ) {r : List ℕ} → length ts ≤ k → made ++ owed_snapshots (drop k ts) ≡ r → made ≡ r
  owed-over ts k made past e = sym (ap (λ us. made ++ owed_snapshots us) (drop_all k ts past) ∙ append-nil made) ∙ e

  -- ---- the first part of a key

  pub part-further : (t : Txn A) (q : Txn A → Bool) {p : ℕ} {ts f b : List (Txn A)} (least new : ℕ) {r : ℕ} → IsAround t.snapshot p ts f b → new ≡ min (first_part node edge t (filter q f)) least
      → min least (first_part node edge t (filter q ts)) ≡ r → min new (first_part node edge t (filter q b)) ≡ r
  part-further t q {p} {ts} {f} {b} least new {r} around is e = let h = part-around t q p ts f b around in omega (arith, h, is, e)

  pub part-ended : (t : Txn A) (q : Txn A → Bool) (ts : List (Txn A)) (k least : ℕ) {r : ℕ} → length ts ≤ k → least ≤ t.commit → min least (first_part node edge t (filter q (drop k ts))) ≡ r → least ≡ r
  part-ended t q ts k least past le e = own least t.commit le ∙ ap (λ us. min least (first_part node edge t (filter q us))) (sym (drop_all k ts past)) ∙ e
    where
      own : (a c : ℕ) → a ≤ c → a ≡ min a c
      own a c h = omega arith

  pub part-begun : (t : Txn A) (q : Txn A → Bool) (ts : List (Txn A)) (k least : ℕ) → k ≡ 0 → least ≡ t.commit → min least (first_part node edge t (filter q (drop k ts))) ≡ first_part node edge t (filter q ts)
  part-begun t q ts k least e is =
      ap (λ m. min m (first_part node edge t (filter q (drop k ts)))) is ∙ ap (λ us. min t.commit (first_part node edge t (filter q us))) (at-first ts k e) ∙ first_part-least node edge t (filter q ts)

  -- ---- the first to commit

  abbrev pub closing : Txn A → Txn A → List (Txn A) → Option Node
  closing a c us = option_map node (earliest node edge (filter (is_dangerous node edge a c) us))

  pub closing-further : (a c : Txn A) {p : ℕ} {ts f b : List (Txn A)} (last : Option Node) {new r : Option Node} → IsAround c.snapshot p ts f b → new ≡ first_of_both last (closing a c f)
      → first_of_both last (closing a c ts) ≡ r → first_of_both new (closing a c b) ≡ r
  closing-further a c {p} {ts} {f} {b} last around is e =
      ap (λ o. first_of_both o (closing a c b)) is ∙ both-assoc last (closing a c f) (closing a c b)
      ∙ ap (first_of_both last) (sym (earliest-append node edge (filter (is_dangerous node edge a c) f) (filter (is_dangerous node edge a c) b)) ∙ ap (λ us. option_map node (earliest node edge us)) (pair-filter ts f b a c p around)) ∙ e

  pub closing-ended : (a c : Txn A) (ts : List (Txn A)) (k : ℕ) (last : Option Node) {r : Option Node} → length ts ≤ k → first_of_both last (closing a c (drop k ts)) ≡ r → last ≡ r
  closing-ended a c ts k last past e = ap (λ us. first_of_both last (closing a c us)) (sym (drop_all k ts past)) ∙ e

  pub closing-begun : (a c : Txn A) (ts : List (Txn A)) (k : ℕ) → k ≡ 0 → first_of_both None (closing a c (drop k ts)) ≡ closing a c ts
  closing-begun a c ts k e = nothing (closing a c (drop k ts)) ∙ ap (closing a c) (at-first ts k e)
    where
      nothing : (o : Option Node) → first_of_both None o ≡ o
      nothing None = refl
      nothing (Some n) = refl

  -- ---- dooms

  pub fold-further : {B : Type 0} (g : B → Txn A → B) {n p : ℕ} {ts f b : List (Txn A)} (made : B) {new r : B} → (around : IsAround n p ts f b) → AllByRecursion (λ u. (z : B) → g z u ≡ z) around.between → new ≡ fold g made f
      → fold g made ts ≡ r → fold g new b ≡ r
  fold-further g {n} {p} {ts} {f} {b} made around none is e =
      ap (λ z. fold g z b) is ∙ sym (fold-append g made f b) ∙ fold-between g f around.between b none made ∙ ap (fold g made) (sym around.whole) ∙ e

  pub fold-ended : {B : Type 0} (g : B → Txn A → B) (ts : List (Txn A)) (k : ℕ) (made : B) {r : B} → length ts ≤ k → fold g made (drop k ts) ≡ r → made ≡ r
  fold-ended g ts k made past e = ap (fold g made) (sym (drop_all k ts past)) ∙ e
