-- What an answer shows of a row holds of the row.
use Rattle.std.proofs.Common.{nat_lt, ◌≡◌, refl, sym, ap, subst, ◌∙◌, ℕ, zero, suc, ℤ, ◌+ℤ◌, ◌-ℤ◌, ◌+◌, Bool, true, false, cond, not, List, [], ◌∷◌, map, slice_get, get_or, Option, Some, None, arith, ◌<◌, ◌≤◌, ◌-◌, drop, take, length}
use Rattle.std.proofs.lemmas.Int.{ints}
use Rattle.std.proofs.lemmas.Bool.{and_from}
use Rattle.std.proofs.lemmas.Bool.Decides.{nat_tests}
use Rattle.value.proofs.Basics.{first_and_rest}
use Rattle.std.specs.Option.{option_and_then}
use Rattle.value.specs.declared.value.Value.{Value}
use Rattle.value.specs.declared.value.Value.TheVariants.{Null, Int, Text, Bytes}
use Rattle.schema.specs.declared.row.Row.{Row}
use Rattle.schema.specs.Plain.{same, is_null, field, cells, in_range}
use Rattle.statement.specs.declared.condition.Comparison.TheVariants as is
use Rattle.statement.specs.declared.condition.Condition.TheVariants.{Compare, IsNull}
use Rattle.statement.specs.declared.statement.Projection.{Projection}
use Rattle.statement.specs.declared.statement.Projection.TheVariants as shown
use Rattle.statement.specs.Conditions.{is_so, holds}
use Rattle.statement.specs.Evaluation.{added}
use Rattle.statement.proofs.Suffices.{same_itself}
use Rattle.orders.specs.declared.ways.way.Field.{Field}
use Rattle.orders.specs.declared.ways.way.Field.TheVariants as becomes
use Rattle.orders.specs.declared.ways.way.Way.{Way}
use Rattle.orders.specs.Ways.{row_before, FieldIs, Holds}
use Rattle.orders.specs.Symbolic.{field_now, holds_before, found_to_be, finding, tell_before, tell_sum, tell_as, tell_field, last_column, tell_all, tell_columns, tell}
use Rattle.orders.proofs.WayLemmas.{place, place_is}
use Rattle.orders.proofs.FieldLemmas.{now_is}
use Rattle.orders.proofs.ChoiceLemmas.{There, Same, Still, asking_holds}

difference : (x y d : ℤ) → x ≡ y +ℤ d → x -ℤ d ≡ y
difference x y d e = omega (arith, ints)

next : (n : ℕ) → suc n ≡ n + 1
next n = omega arith

is_less : (n m : ℕ) → n < m → nat_lt n m ≡ true
is_less n m h = grind (arith, nat_tests)

not_less : (n m : ℕ) → m ≤ n → nat_lt n m ≡ false
not_less n m h = grind (arith, nat_tests)

first_itself : (ns : List ℕ) → 1 ≤ length ns → get_or ns 0 0 ≡ get_or ns 0 (get_or ns 0 0)
first_itself [] l = refl
first_itself (n ∷ ns) l = refl

place_zero : (i : ℕ) → place 0 i ≡ i
place_zero i = place_is 0 i ∙ (let e : 0 + i ≡ i = omega arith in e)

pub get_is : {B : Type 0} (xs : List B) (i : ℕ) (x d : B) → slice_get xs i ≡ Some x → x ≡ get_or xs i d
get_is [] i x d e = cc
get_is (y ∷ xs) zero x d e = cc
get_is (y ∷ xs) (suc i) x d e = get_is xs i x d e

module _ {A : Type 0} where
  -- what is shown of a row is of it
  abbrev pub Told : Projection A → List (Value A) → Row A → Type 0
  Told shown.All vs row = vs ≡ cells row
  Told shown.Count vs row = Unit {0}
  Told (shown.Columns ns) vs row = vs ≡ map (field row) ns

  met_found : (row : Row A) (n : ℕ) (v : Value A) → v ≡ field row n → holds row (found_to_be n v) ≡ true
  met_found row n v e = go (is_null v) refl
    where
      go : (b : Bool) → is_null v ≡ b → holds row (cond b (IsNull n) (Compare n is.Equal v)) ≡ true
      go true q = ap is_null (sym e) ∙ q
      go false q = subst (λ x. is_so x is.Equal v ≡ true) e (and_from _ _ (and_from _ _ (ap not q) (ap not q)) (same_itself v))

  finding_holds : (k : Value A) (w : Way A) (before now : Option (List (Value A))) (n : ℕ) (v : Value A) → Holds k w before now → v ≡ field (row_before k before) n → Holds k (finding n v w) before now
  finding_holds k w before now n v h e = asking_holds k w before now (holds_before (found_to_be n v) ∷ []) h (and_from _ _ (met_found (row_before k before) n v e) refl)

  -- what was added to is known where a number came of it
  sum_of : (u : Value A) (x d : ℤ) → Int x ≡ added u d → Int (x -ℤ d) ≡ u
  sum_of (Int y) x d e = let p : x ≡ y +ℤ d = cc in ap Int (difference x y d p)
  sum_of Null x d e = cc
  sum_of (Text t) x d e = cc
  sum_of (Bytes b) x d e = cc

  tell_sum-holds : (k : Value A) (w : Way A) (before now : Option (List (Value A))) (m : ℕ) (d : ℤ) (v : Value A) → Holds k w before now → v ≡ added (field (row_before k before) m) d → Holds k (tell_sum m d v w) before now
  tell_sum-holds k w before now m d Null h e = h
  tell_sum-holds k w before now m d (Text t) h e = h
  tell_sum-holds k w before now m d (Bytes b) h e = h
  tell_sum-holds k w before now m d (Int x) h e = go (in_range (x -ℤ d))
    where
      go : (b : Bool) → Holds k (tell_before m (cond b (Some (x -ℤ d)) None) w) before now
      go true = finding_holds k w before now m (Int (x -ℤ d)) h (sum_of (field (row_before k before) m) x d e)
      go false = h

  tell_sum-same : (m : ℕ) (d : ℤ) (v : Value A) (w : Way A) → Same w (tell_sum m d v w)
  tell_sum-same m d Null w = (refl, refl)
  tell_sum-same m d (Text t) w = (refl, refl)
  tell_sum-same m d (Bytes b) w = (refl, refl)
  tell_sum-same m d (Int x) w = go (in_range (x -ℤ d))
    where
      go : (b : Bool) → Same w (tell_before m (cond b (Some (x -ℤ d)) None) w)
      go true = (refl, refl)
      go false = (refl, refl)

  tell_field-is : (k : Value A) (w : Way A) (before : Option (List (Value A))) (gs : List (Value A)) (n : ℕ) (v : Value A) → Holds k w before (Some gs) → v ≡ field (k, gs) n → There (tell_field k n v w) (Still k w before (Some gs))
  tell_field-is k w before gs n v h e = go (field_now k w n) (now_is k w before gs n h)
    where
      go : (f : Field A) → FieldIs (row_before k before) n f (field (k, gs) n) → There (tell_as n v w f) (Still k w before (Some gs))
      go becomes.Kept g = (finding n v w, refl, (finding_holds k w before (Some gs) n v h (e ∙ g), (refl, refl)))
      go (becomes.Given u) g = (w, ap (λ b. cond b (Some w) None) (ap (same v) (sym (e ∙ g)) ∙ same_itself v), (h, (refl, refl)))
      go (becomes.Sum m d) g = (tell_sum m d v w, refl, (tell_sum-holds k w before (Some gs) m d v h (e ∙ g), tell_sum-same m d v w))
      go becomes.Anything g = (w, refl, (h, (refl, refl)))

  then_tell : (k : Value A) (w : Way A) (before now : Option (List (Value A))) (o : Option (Way A)) (f : Way A → Option (Way A)) → There o (Still k w before now) → ((u : Way A) → Holds k u before now → There (f u) (Still k u before now)) → There (option_and_then f o) (Still k w before now)
  then_tell k w before now o f (u, e, (h, s)) g =
      let r = g u h in
      (r.0, ap (option_and_then f) e ∙ r.1, (r.2.0, (r.2.1.0 ∙ s.0, r.2.1.1 ∙ s.1)))

  tell_all-is : (k : Value A) (w : Way A) (before : Option (List (Value A))) (gs : List (Value A)) (n : ℕ) (vs : List (Value A)) → Holds k w before (Some gs) → ((i : ℕ) (v : Value A) → slice_get vs i ≡ Some v → v ≡ field (k, gs) (place n i))
      → There (tell_all k n vs w) (Still k w before (Some gs))
  tell_all-is k w before gs n [] h f = (w, refl, (h, (refl, refl)))
  tell_all-is k w before gs n (v ∷ vs) h f = go (nat_lt n last_column) (λ u g. tell_all-is k u before gs (n + 1) vs g (λ i x e. f (suc i) x e ∙ ap (λ m. field (k, gs) (place m i)) (next n)))
    where
      go : (b : Bool) → ((u : Way A) → Holds k u before (Some gs) → There (tell_all k (n + 1) vs u) (Still k u before (Some gs))) → There (cond b (option_and_then (tell_all k (n + 1) vs) (tell_field k n v w)) (Some w)) (Still k w before (Some gs))
      go false rest = (w, refl, (h, (refl, refl)))
      go true rest = then_tell k w before (Some gs) (tell_field k n v w) (tell_all k (n + 1) vs) (tell_field-is k w before gs n v h (f 0 v refl)) rest

  tell_columns-is : (k : Value A) (w : Way A) (before : Option (List (Value A))) (gs : List (Value A)) (ns : List ℕ) → Holds k w before (Some gs) → There (tell_columns k ns (map (field (k, gs)) ns) w) (Still k w before (Some gs))
  tell_columns-is k w before gs [] h = (w, refl, (h, (refl, refl)))
  tell_columns-is k w before gs (n ∷ ns) h =
      then_tell k w before (Some gs) (tell_field k n (field (k, gs) n) w) (tell_columns k ns (map (field (k, gs)) ns)) (tell_field-is k w before gs n (field (k, gs) n) h refl)
      (λ u g. tell_columns-is k u before gs ns g)

  pub tell_is : (k : Value A) (w : Way A) (before : Option (List (Value A))) (gs : List (Value A)) (p : Projection A) (vs : List (Value A)) → Holds k w before (Some gs) → Told p vs (k, gs) → There (tell k p vs w) (Still k w before (Some gs))
  tell_is k w before gs shown.All vs h e =
      subst (λ xs. There (tell_all k 0 xs w) (Still k w before (Some gs))) (sym e)
      (tell_all-is k w before gs 0 (k ∷ gs) h (λ i v q. get_is (k ∷ gs) i v Null q ∙ ap (field (k, gs)) (sym (place_zero i))))
  tell_is k w before gs shown.Count vs h e = (w, refl, (h, (refl, refl)))
  tell_is k w before gs (shown.Columns ns) vs h e = subst (λ xs. There (tell_columns k ns xs w) (Still k w before (Some gs))) (sym e) (tell_columns-is k w before gs ns h)

  -- ---- what is shown, one value after the other

  pub tell_all-more : (k : Value A) (n : ℕ) (vs : List (Value A)) (v : Value A) (w told : Way A) → 1 ≤ length vs → v ≡ get_or vs 0 v → n < last_column → tell_field k n v w ≡ Some told
      → tell_all k (n + 1) (take (length vs - 1) (drop 1 vs)) told ≡ tell_all k n vs w
  tell_all-more k n vs v w told l e lt t =
      let rest : List (Value A) = take (length vs - 1) (drop 1 vs) in
      sym (ap (λ xs. tell_all k n xs w) (first_and_rest vs v l e)
      ∙ ap (λ b. cond b (option_and_then (tell_all k (n + 1) rest) (tell_field k n v w)) (Some w)) (is_less n last_column lt)
      ∙ ap (option_and_then (tell_all k (n + 1) rest)) t)

  pub tell_all-end : (k : Value A) (n : ℕ) (vs : List (Value A)) (w : Way A) → last_column ≤ n → Some w ≡ tell_all k n vs w
  tell_all-end k n [] w h = refl
  tell_all-end k n (v ∷ vs) w h = sym (ap (λ b. cond b (option_and_then (tell_all k (n + 1) vs) (tell_field k n v w)) (Some w)) (not_less n last_column h))

  pub tell_columns-more : (k : Value A) (ns : List ℕ) (vs : List (Value A)) (v : Value A) (w told : Way A) → 1 ≤ length ns → 1 ≤ length vs → v ≡ get_or vs 0 v → tell_field k (get_or ns 0 0) v w ≡ Some told
      → tell_columns k (take (length ns - 1) (drop 1 ns)) (take (length vs - 1) (drop 1 vs)) told ≡ tell_columns k ns vs w
  tell_columns-more k ns vs v w told l m e t =
      let more : List ℕ = take (length ns - 1) (drop 1 ns) in
      let rest : List (Value A) = take (length vs - 1) (drop 1 vs) in
      sym (ap (λ xs. tell_columns k xs vs w) (first_and_rest ns (get_or ns 0 0) l (first_itself ns l))
      ∙ ap (λ xs. tell_columns k (get_or ns 0 0 ∷ more) xs w) (first_and_rest vs v m e)
      ∙ ap (option_and_then (tell_columns k more rest)) t)
