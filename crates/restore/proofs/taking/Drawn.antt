-- Pieces that threads have drawn, put where they stand.
use Rattle.std.proofs.Common.{◌≡◌, ◌≢◌, ℕ, zero, suc, ◌+◌, ◌<◌, ◌≤◌, ◌==◌, min, nat_lt, Bool, true, false, Bor, List, [], ◌∷◌, ◌++◌, length, take, drop, get_or, set, Option, Some, None, Result, Ok, IfOk, IfSome, refl, sym, ap, subst, ◌∙◌, arith}
use Rattle.std.specs.List.{AllByRecursion}
use Rattle.std.proofs.Math.ListN.{get_or-append}
use Rattle.std.proofs.Math.Seq.{get_or-append_seam}
use Rattle.std.proofs.lemmas.Bool.Decides.{nat_tests}
use Rattle.std.proofs.lemmas.Grind.{get_or-set_at}
use Rattle.std.proofs.lemmas.List.{get_or-set_other, length-set, length-append, drop_all, take_all}
use Rattle.value.specs.declared.kind.Kind.{Kind}
use Rattle.schema.specs.Definition.{Column}
use Rattle.schema.specs.declared.tables.Tables.{Tables}
use Rattle.restore.specs.declared.rows.ReadPiece.{ReadPiece}
use Rattle.restore.specs.Rows.{IsPiece, AreAt, lines_at}
use Rattle.restore.proofs.taking.Pieces.{EachIs}

-- what holds at each place holds of all
pub all_each : {X : Type 0} (P : X → Type 0) (xs : List X) → ((k : ℕ) (d : X) → k < length xs → P (get_or xs k d)) → AllByRecursion P xs
all_each P [] each = tt
all_each P (x ∷ xs) each = (each zero x (omega arith), all_each P xs (λ k d lt. each (suc k) d (omega arith)))

all_snoc : {X : Type 0} (P : X → Type 0) (xs : List X) (x : X) → P x → AllByRecursion P xs → AllByRecursion P (xs ++ x ∷ [])
all_snoc P [] x of_x of_xs = (of_x, tt)
all_snoc P (y ∷ xs) x of_x of_xs = (of_xs.0, all_snoc P xs x of_x of_xs.1)

-- one more at the end
pub all_push : {X : Type 0} (P : X → Type 0) (xs ys : List X) (x : X) → ys ≡ xs ++ x ∷ [] → P x → AllByRecursion P xs → AllByRecursion P ys
all_push P xs ys x is of_x of_xs = subst (AllByRecursion P) (sym is) (all_snoc P xs x of_x of_xs)

-- the first of what is left
pub all_first : {X : Type 0} (P : X → Type 0) (xs rest : List X) (x : X) → xs ≡ x ∷ rest → AllByRecursion P xs → P x × AllByRecursion P rest
all_first P xs rest x is of_xs = subst (AllByRecursion P) is of_xs

-- lines that are cut off at their end
pub none_behind : {X : Type 0} (n m : ℕ) (xs : List X) → m ≡ min n (length xs) → drop m xs ≡ drop n xs
none_behind n m xs is = by_end (nat_lt n (length xs)) refl
  where
    by_end : (b : Bool) → nat_lt n (length xs) ≡ b → drop m xs ≡ drop n xs
    by_end true below = let lt : n < length xs = grind (arith, nat_tests) in let same : m ≡ n = omega (arith, is) in ap (λ k. drop k xs) same
    by_end false past =
        let few : length xs ≤ n = grind (arith, nat_tests) in
        let all : length xs ≤ m = omega (arith, is) in
        drop_all m xs all ∙ sym (drop_all n xs few)

pub none_more : {X : Type 0} (n m : ℕ) (xs : List X) → m ≡ min n (length xs) → take m xs ≡ take n xs
none_more n m xs is = by_end (nat_lt n (length xs)) refl
  where
    by_end : (b : Bool) → nat_lt n (length xs) ≡ b → take m xs ≡ take n xs
    by_end true below = let lt : n < length xs = grind (arith, nat_tests) in let same : m ≡ n = omega (arith, is) in ap (λ k. take k xs) same
    by_end false past =
        let few : length xs ≤ n = grind (arith, nat_tests) in
        let all : length xs ≤ m = omega (arith, is) in
        take_all m xs all ∙ sym (take_all n xs few)

apart : (m n : ℕ) → (m == n) ≡ false → m ≡ n → ⊥
apart m n is e = let same : (m == n) ≡ true = grind (arith, nat_tests) in absurd cc

module _ {A : Type 0} (known : Option (Tables A)) (columns : List Column) (kinds : List Kind) (lines : List (Bor (List ℕ))) where
  -- a piece is put where it stands
  pub at-set : (places : List (Option (ReadPiece A))) (n : ℕ) (p : ReadPiece A) → n < length places → IsPiece known columns kinds p (lines_at lines n) → AreAt known columns kinds lines places → AreAt known columns kinds lines (set places n (Some p))
  at-set places n p lt is at = λ m d inside. by_place m d inside (m == n) refl
    where
      by_place : (m : ℕ) (d : Option (ReadPiece A)) → m < length (set places n (Some p)) → (b : Bool) → (m == n) ≡ b → IfSome (get_or (set places n (Some p)) m d) (λ q. IsPiece known columns kinds q (lines_at lines m))
      by_place m d inside true here =
          let same : m ≡ n = grind (arith, nat_tests) in
          rw (get_or-set_at places n m (Some p) d same lt) (subst (λ k. IsPiece known columns kinds p (lines_at lines k)) (sym same) is)
      by_place m d inside false there =
          let other : m ≢ n = apart m n there in
          rw (get_or-set_other places n m (Some p) d other) (at m d (omega (arith, length-set places n (Some p), inside)))

  -- one place more, without a piece
  pub at-push : (places more : List (Option (ReadPiece A))) → more ≡ places ++ None ∷ [] → AreAt known columns kinds lines places → AreAt known columns kinds lines more
  at-push places more is at = subst (AreAt known columns kinds lines) (sym is) (λ m d inside. by_place m d inside (nat_lt m (length places)) refl)
    where
      by_place : (m : ℕ) (d : Option (ReadPiece A)) → m < length (places ++ None ∷ []) → (b : Bool) → nat_lt m (length places) ≡ b → IfSome (get_or (places ++ None ∷ []) m d) (λ q. IsPiece known columns kinds q (lines_at lines m))
      by_place m d inside true before = let lt : m < length places = grind (arith, nat_tests) in rw (get_or-append places (None ∷ []) d m lt) (at m d lt)
      by_place m d inside false past =
          let not_before : length places ≤ m = grind (arith, nat_tests) in
          let count : length (places ++ None ∷ []) ≡ length places + 1 = length-append places (None ∷ []) in
          let same : m ≡ length places = omega (arith, not_before, inside, count) in
          rw (same, get_or-append_seam places None [] d) tt

  -- the piece at the place of the next of these
  pub at-next : (places before rest : List (Option (ReadPiece A))) (drawn : Option (ReadPiece A)) (n : ℕ) → before ++ drawn ∷ rest ≡ places → n ≡ length before → AreAt known columns kinds lines places → IfSome drawn (λ p. IsPiece known columns kinds p (lines_at lines n))
  at-next places before rest drawn n is count at =
      let here : get_or places n drawn ≡ drawn = ap (λ k. get_or places k drawn) count ∙ ap (λ ps. get_or ps (length before) drawn) (sym is) ∙ get_or-append_seam before drawn rest drawn in
      let inside : n < length places = omega (arith, count, ap length is, length-append before (drawn ∷ rest)) in
      subst (λ (x : Option (ReadPiece A)). IfSome x (λ p. IsPiece known columns kinds p (lines_at lines n))) here (at n drawn inside)

module _ {A E : Type 0} (known : Option (Tables A)) (columns : List Column) (kinds : List Kind) (lines : List (Bor (List ℕ))) where
  -- one piece more
  pub each-push : (pieces more : List (Result (ReadPiece A) E)) (p : ReadPiece A) → more ≡ pieces ++ Ok p ∷ [] → IsPiece known columns kinds p (lines_at lines (length pieces)) → EachIs known columns kinds 1000 pieces lines → EachIs known columns kinds 1000 more lines
  each-push pieces more p is of_p each = subst (λ (ps : List (Result (ReadPiece A) E)). EachIs known columns kinds 1000 ps lines) (sym is) (λ m d inside. by_place m d inside (nat_lt m (length pieces)) refl)
    where
      by_place : (m : ℕ) (d : Result (ReadPiece A) E) → m < length (pieces ++ Ok p ∷ []) → (b : Bool) → nat_lt m (length pieces) ≡ b → IfOk (get_or (pieces ++ Ok p ∷ []) m d) (λ q. IsPiece known columns kinds q (lines_at lines m))
      by_place m d inside true before = let lt : m < length pieces = grind (arith, nat_tests) in rw (get_or-append pieces (Ok p ∷ []) d m lt) (each m d lt)
      by_place m d inside false past =
          let not_before : length pieces ≤ m = grind (arith, nat_tests) in
          let count : length (pieces ++ Ok p ∷ []) ≡ length pieces + 1 = length-append pieces (Ok p ∷ []) in
          let same : m ≡ length pieces = omega (arith, not_before, inside, count) in
          rw (same, get_or-append_seam pieces (Ok p) [] d) of_p
