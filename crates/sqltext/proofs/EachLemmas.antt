-- Making something of each item, as a loop does.
use Rattle.std.proofs.Common.{◌≡◌, ℕ, w64, to_z, of_z, ◌+◌, ◌≤◌, ◌<◌, List, [], ◌∷◌, ◌++◌, length, drop, get_or, ℤ, Some, None, Result, Ok, Err, refl, sym, ap, subst, ◌∙◌, append_assoc}
use Rattle.std.proofs.lemmas.List.{append-nil, at_drop_more}
use Rattle.std.proofs.Math.ListN.{drop_of_length-le}
use Rattle.std.proofs.lemmas.Int.{to_z-of_z}
use Rattle.std.specs.Prelude.{FitsSigned}
use Rattle.value.specs.declared.refusal.Refusal.{Refusal}
use Rattle.sqltext.specs.declared.error.ParseError.{ParseError}
use Rattle.sqltext.specs.declared.error.ParseError.TheVariants as error
use Rattle.sqltext.specs.Reading.{◌>>=◌, Fails}
use Rattle.value.specs.declared.kind.Kind.{Kind}
use Rattle.value.specs.declared.kind.Kind.TheVariants as of
use Rattle.value.specs.declared.refusal.Code.{Code}
use Rattle.value.specs.declared.value.Value.{Value}
use Rattle.value.specs.declared.value.Value.TheVariants.{Int}
use Rattle.value.specs.Literal.{bigint_of, as_int}
use Rattle.schema.specs.Definition.{Column}
use Rattle.schema.proofs.LiteralLemmas.{bigint_fits}
use Rattle.statement.specs.declared.statement.Assignment.{Assignment}
use Rattle.sqltext.specs.declared.token.Token.{Token}
use Rattle.sqltext.specs.declared.tree.Literal.{Literal}
use Rattle.sqltext.specs.declared.tree.Setting.{Setting}
use Rattle.sqltext.specs.Source.{bytes_of}
use Rattle.sqltext.specs.Resolving.{each, first_kind, at_token, value_of, value, values, assignment, assignments, whole_number}

module _ {Y : Type 0} where
  -- what was made before, and what is still made
  abbrev pub front_with : List Y → Result (List Y) Refusal → Result (List Y) Refusal
  front_with front made = made >>= λ ys. Ok (front ++ ys)

  pub goes_on : (front : List Y) (y : Y) (now next total : Result (List Y) Refusal) → now ≡ (next >>= λ ys. Ok (y ∷ ys))
      → front_with front now ≡ total → front_with (front ++ y ∷ []) next ≡ total
  goes_on front y now next total h so_far = sym (rw h (regroup next)) ∙ so_far
    where
      regroup : (made : Result (List Y) Refusal) → front_with front (made >>= λ ys. Ok (y ∷ ys)) ≡ front_with (front ++ y ∷ []) made
      regroup (Ok ys) = ap (λ (all : List Y). Ok all) (simp append_assoc)
      regroup (Err e) = refl

  pub fails : (e : ParseError) (front : List Y) (now total : Result (List Y) Refusal) → Fails e now → front_with front now ≡ total → Fails e total
  fails error.Memory front now total h so_far = tt
  fails (error.Refused r) front now total h so_far = let one : front_with front now ≡ Err r = rw h refl in sym so_far ∙ one

  pub is_done : (front : List Y) (now total : Result (List Y) Refusal) → now ≡ Ok [] → front_with front now ≡ total → total ≡ Ok front
  is_done front now total h so_far =
      let one : front_with front now ≡ Ok front = rw h (ap (λ (ys : List Y). Ok ys) (append-nil front)) in sym so_far ∙ one

module _ {X Y : Type 0} (step : X → Result Y Refusal) where
  pub each_next : (xs : List X) (i : ℕ) (d : X) (y : Y) → i < length xs → step (get_or xs i d) ≡ Ok y
      → each step (drop i xs) ≡ (each step (drop (i + 1) xs) >>= λ ys. Ok (y ∷ ys))
  unfolding each
  each_next xs i d y lt h = at_drop_more (each step) xs i d lt ∙ rw h refl

  pub each_fails : (e : ParseError) (xs : List X) (i : ℕ) (d : X) → i < length xs → Fails e (step (get_or xs i d)) → Fails e (each step (drop i xs))
  unfolding each
  each_fails error.Memory xs i d lt h = tt
  each_fails (error.Refused r) xs i d lt h = at_drop_more (each step) xs i d lt ∙ rw h refl

  pub each_ends : (xs : List X) (i : ℕ) → length xs ≤ i → each step (drop i xs) ≡ Ok []
  unfolding each
  each_ends xs i le = ap (each step) (drop_of_length-le xs le)

module _ {A : Type 0} (columns : List Column) (text : List ℕ) where
  pub assignments_next : (before : List (Assignment A)) (xs : List Setting) (i : ℕ) (d : Setting) (y : Assignment A) → i < length xs
      → assignment columns text before (get_or xs i d) ≡ Ok y
      → assignments columns text before (drop i xs) ≡ (assignments columns text (before ++ y ∷ []) (drop (i + 1) xs) >>= λ ys. Ok (y ∷ ys))
  unfolding assignments
  assignments_next before xs i d y lt h = at_drop_more (assignments columns text before) xs i d lt ∙ rw h refl

  pub assignments_fail : (e : ParseError) (before : List (Assignment A)) (xs : List Setting) (i : ℕ) (d : Setting) → i < length xs
      → Fails e (assignment columns text before (get_or xs i d)) → Fails e (assignments columns text before (drop i xs))
  unfolding assignments
  assignments_fail error.Memory before xs i d lt h = tt
  assignments_fail (error.Refused r) before xs i d lt h = at_drop_more (assignments columns text before) xs i d lt ∙ rw h refl

module _ {A : Type 0} (text : List ℕ) where
  pub values_next : (left others : List Column) (kind : Kind) (xs : List Literal) (i : ℕ) (d : Literal) (v : Value A) → i < length xs → first_kind left ≡ Some (kind, others)
      → value text kind (get_or xs i d) ≡ Ok v
      → values text left (drop i xs) ≡ (values text others (drop (i + 1) xs) >>= λ vs. Ok (v ∷ vs))
  unfolding values
  values_next left others kind xs i d v lt first h = at_drop_more (values text left) xs i d lt ∙ rw (first, h) refl

module _ (A : Type 0) (text : List ℕ) where
  pub values_fail : (e : ParseError) (left others : List Column) (kind : Kind) (xs : List Literal) (i : ℕ) (d : Literal) → i < length xs → first_kind left ≡ Some (kind, others)
      → Fails e (value {A = A} text kind (get_or xs i d)) → Fails e (values {A = A} text left (drop i xs))
  unfolding values
  values_fail error.Memory left others kind xs i d lt first h = tt
  values_fail (error.Refused r) left others kind xs i d lt first h = at_drop_more (values {A = A} text left) xs i d lt ∙ rw (first, h) refl

  pub values_end : (left : List Column) (xs : List Literal) → first_kind left ≡ None → values {A = A} text left xs ≡ Ok []
  unfolding values
  values_end left [] none = refl
  values_end left (x ∷ xs) none = rw none refl

  pub values_done : (left : List Column) (xs : List Literal) (i : ℕ) → length xs ≤ i → values {A = A} text left (drop i xs) ≡ Ok []
  unfolding values
  values_done left xs i le = ap (values {A = A} text left) (drop_of_length-le xs le)

-- ---- numbers

int_of : {A : Type 0} (r : Result ℤ Code) (digits : Token) (v : Value A) → at_token digits (as_int {A = A} r) ≡ Ok v → (n : ℤ) × (v ≡ Int n) × (at_token digits r ≡ Ok n)
int_of (Ok n) digits v h = (n, cc, refl)
int_of (Err code) digits v h = absurd cc

int_same : {A : Type 0} (m n : ℤ) (v : Value A) → v ≡ Int m → v ≡ Int n → m ≡ n
int_same m n v p q = cc

at_token_fits : (r : Result ℤ Code) (text : List ℕ) (digits : Token) (n : ℤ) → r ≡ bigint_of text → at_token digits r ≡ Ok n → FitsSigned w64 n
at_token_fits (Ok k) text digits n is h = bigint_fits text n (sym is ∙ cc)
at_token_fits (Err code) text digits n is h = absurd cc

-- a literal of numbers is the number
pub number_read : {A : Type 0} (text : List ℕ) (digits : Token) (bytes : List ℕ) (v : Value A) (n : ℤ) → bytes ≡ bytes_of digits text
    → value_of {A = A} of.Bigint bytes digits ≡ Ok v → v ≡ Int n → whole_number text digits ≡ Ok (to_z w64 (of_z w64 n))
unfolding value_of
number_read text digits bytes v n same h is =
    let i = int_of (bigint_of bytes) digits v h in
    let k : i.0 ≡ n = int_same i.0 n v i.1 is in
    let read : at_token digits (bigint_of bytes) ≡ Ok n = i.2 ∙ ap (λ (k : ℤ). Ok k) k in
    let fits : FitsSigned w64 n = at_token_fits (bigint_of bytes) bytes digits n refl read in
    rw (to_z-of_z w64 n fits, ← same) read

pub number_alone : {A : Type 0} (digits : Token) (bytes : List ℕ) (v : Value A) → value_of {A = A} of.Bigint bytes digits ≡ Ok v → ((n : ℤ) → v ≡ Int n → ⊥) → ⊥
unfolding value_of
number_alone digits bytes v h other = let i = int_of (bigint_of bytes) digits v h in other i.0 i.1

fails_as_int : (A : Type 0) (e : ParseError) (r : Result ℤ Code) (digits : Token) → Fails e (at_token digits (as_int {A = A} r)) → Fails e (at_token digits r)
fails_as_int A error.Memory r digits h = tt
fails_as_int A (error.Refused refusal) (Ok n) digits h = absurd cc
fails_as_int A (error.Refused refusal) (Err code) digits h = cc

pub number_fails : (A : Type 0) (e : ParseError) (text : List ℕ) (digits : Token) (bytes : List ℕ) → bytes ≡ bytes_of digits text
    → Fails e (value_of {A = A} of.Bigint bytes digits) → Fails e (whole_number text digits)
unfolding value_of
number_fails A e text digits bytes same h = subst (λ (b : List ℕ). Fails e (at_token digits (bigint_of b))) same (fails_as_int A e (bigint_of bytes) digits h)
