-- What is remembered, and tables that are compared.
use Rattle.std.proofs.Common.{◌≡◌, refl, sym, ap, ◌∙◌, subst, ℕ, zero, suc, ◌<◌, Bool, true, false, true≢false, zip, List, [], ◌∷◌, ◌++◌, length, get_or, take, eqb, Bor, arith}
use mathlib.Core.Bool.{beq}
use Rattle.std.specs.Cmp.Lexicographic.{pointwise}
use Rattle.std.specs.List.{list_all, AllByRecursion}
use Rattle.std.proofs.lemmas.Bool.{eqb-true, and_parts}
use Rattle.std.proofs.lemmas.List.{take_all, ext_get_or}
use Rattle.value.specs.declared.value.Value.{Value}
use Rattle.schema.specs.Definition.{Catalog}
use Rattle.schema.specs.declared.row.Row.{Row}
use Rattle.schema.specs.declared.tables.Tables.{Tables}
use Rattle.schema.specs.declared.reader.Bound.TheVariants.{Start}
use Rattle.schema.specs.Plain.{same, rows_of}
use Rattle.schema.specs.Rows.{rows_within}
use Rattle.schema.specs.Walking.{lent}
use Rattle.schema.proofs.PlainLemmas.{same_value}
use Rattle.orders.specs.Explains.{Trace, same_values}
use Rattle.orders.specs.Seen.{AreDead, Stand, same_row}
use Rattle.orders.specs.Walks.{IsDead}

push-all : {S : Type 0} (P : S → Type 0) (xs : List S) (x : S) → AllByRecursion P xs → P x → AllByRecursion P (xs ++ x ∷ [])
push-all P [] x a p = (p, tt)
push-all P (y ∷ ys) x a p = (a.0, push-all P ys x a.1 p)

all-get : {S : Type 0} (P : S → Type 0) (xs : List S) (i : ℕ) (x : S) → AllByRecursion P xs → i < length xs → x ≡ get_or xs i x → P x
all-get P [] i x a l e = absurd (omega (arith, l))
all-get P (y ∷ ys) zero x a l e = subst P (sym e) a.0
all-get P (y ∷ ys) (suc i) x a l e = all-get P ys i x a.1 (omega (arith, l)) e

beq-same : (a b : Bool) → beq a b ≡ true → a ≡ b
beq-same true true h = refl
beq-same true false h = absurd (true≢false (sym h))
beq-same false true h = absurd (true≢false (sym h))
beq-same false false h = refl

pub flags-same : (xs ys : List Bool) → pointwise beq xs ys ≡ true → xs ≡ ys
flags-same [] [] h = refl
flags-same [] (y ∷ ys) h = absurd (true≢false (sym h))
flags-same (x ∷ xs) [] h = absurd (true≢false (sym h))
flags-same (x ∷ xs) (y ∷ ys) h =
    let p = and_parts (beq x y) (pointwise beq xs ys) h in
    ap (λ z. z ∷ xs) (beq-same x y p.0) ∙ ap (λ zs. y ∷ zs) (flags-same xs ys p.1)

pub stand-same : {A : Type 0} (s : Stand A) (done : List Bool) (X : Tables A) → s.done ≡ done → s.tables ≡ X → s ≡ record { done = done; tables = X }
stand-same s done X d x = λ i. record { done = d i; tables = x i }

module _ {A : Type 0} where
  -- ---- memory

  pub dead-push : (c : Catalog) (ts : List (Trace A)) (seen : List (Stand A)) (s : Stand A) → AreDead c ts seen → IsDead c ts s.done s.tables → AreDead c ts (seen ++ s ∷ [])
  dead-push c ts seen s a d = push-all (λ (x : Stand A). IsDead c ts x.done x.tables) seen s a d

  -- where what was seen so far is still the same, and one more is kept
  pub dead-kept : (c : Catalog) (ts : List (Trace A)) (seen kept more : List (Stand A)) (done : List Bool) (X : Tables A) → kept ≡ seen → more ≡ kept ++ record { done = done; tables = X } ∷ [] → AreDead c ts seen → IsDead c ts done X → AreDead c ts more
  dead-kept c ts seen kept more done X same e a d = subst (AreDead c ts) (sym e) (dead-push c ts kept (record { done = done; tables = X }) (subst (AreDead c ts) (sym same) a) d)

  pub dead-at : (c : Catalog) (ts : List (Trace A)) (seen : List (Stand A)) (i : ℕ) (s : Stand A) → AreDead c ts seen → i < length seen → s ≡ get_or seen i s → IsDead c ts s.done s.tables
  dead-at c ts seen i s a l e = all-get (λ (x : Stand A). IsDead c ts x.done x.tables) seen i s a l e

  -- ---- rows

  values-same : (vs ws : List (Value A)) → length vs ≡ length ws → list_all (λ p. same p.0 p.1) (zip vs ws) ≡ true → vs ≡ ws
  values-same [] [] n h = refl
  values-same [] (w ∷ ws) n h = absurd (omega (arith, n))
  values-same (v ∷ vs) [] n h = absurd (omega (arith, n))
  values-same (v ∷ vs) (w ∷ ws) n h =
      let p = and_parts (same v w) (list_all (λ p. same p.0 p.1) (zip vs ws)) h in
      ap (λ x. x ∷ vs) (same_value v w p.0) ∙ ap (λ xs. w ∷ xs) (values-same vs ws (omega (arith, n)) p.1)

  row-same : (r s : Row A) → same_row r s ≡ true → r ≡ s
  row-same r s h =
      let p = and_parts (same r.0 s.0) (same_values r.1 s.1) h in
      let q = and_parts (eqb (length r.1) (length s.1)) (list_all (λ p. same p.0 p.1) (zip r.1 s.1)) p.1 in
      let k : r.0 ≡ s.0 = same_value r.0 s.0 p.0 in
      let f : r.1 ≡ s.1 = values-same r.1 s.1 (eqb-true (length r.1) (length s.1) q.0) q.1 in
      λ i. (k i, f i)

  pub rows-same : (rs ss : List (Bor (Row A))) → length rs ≡ length ss → list_all (λ p. same_row p.0.now p.1.now) (zip rs ss) ≡ true → lent rs ≡ lent ss
  rows-same [] [] n h = refl
  rows-same [] (s ∷ ss) n h = absurd (omega (arith, n))
  rows-same (r ∷ rs) [] n h = absurd (omega (arith, n))
  rows-same (r ∷ rs) (s ∷ ss) n h =
      let p = and_parts (same_row r.now s.now) (list_all (λ p. same_row p.0.now p.1.now) (zip rs ss)) h in
      ap (λ x. x ∷ lent rs) (row-same r.now s.now p.0) ∙ ap (λ xs. s.now ∷ xs) (rows-same rs ss (omega (arith, n)) p.1)

  -- ---- tables

  within-all : (rows : List (Row A)) → rows_within rows Start ≡ rows
  within-all [] = refl
  within-all (r ∷ rows) = ap (λ xs. r ∷ xs) (within-all rows)

  pub all-taken : (rows : List (Row A)) (n : ℕ) → n ≡ length rows → take n (rows_within rows Start) ≡ rows
  all-taken rows n e = ap (take n) (within-all rows) ∙ take_all n rows (omega (arith, e))

  pub tables-same : (X Y : Tables A) → length X ≡ length Y → ((t : ℕ) → t < length X → rows_of X t ≡ rows_of Y t) → X ≡ Y
  tables-same X Y n h = ext_get_or [] X Y n h
