-- How the values of a line's fields are read from the left.
use Rattle.std.proofs.Common.{◌≡◌, ◌⊎◌, ℕ, ◌+◌, ◌<◌, ◌≤◌, false, eqb, List, [], ◌∷◌, ◌++◌, length, get_or, drop, Option, Some, None, Result, Ok, Err, inl, inr, refl, sym, ap, ◌∙◌, append_assoc}
use Rattle.std.proofs.lemmas.Bool.{or_parts}
use Rattle.std.specs.Option.{option_map}
use Rattle.std.specs.List.{list_any}
use Rattle.std.proofs.lemmas.List.{append-nil, drop_more, drop_all}
use Rattle.value.specs.declared.kind.Kind.{Kind}
use Rattle.value.specs.declared.refusal.Code.{Code}
use Rattle.value.specs.declared.refusal.Refusal.{Refusal}
use Rattle.value.specs.declared.value.Value.{Value}
use Rattle.value.specs.Literal.{literal_of}
use Rattle.value.specs.Refusals.{AnswersOrNoMemory, pointing_nowhere, of_code, out_of_memory}
use Rattle.copytext.specs.Reading.{content, is_null_mark, field_value, onto_values, field_values}

pub null_mark-short : (raw : List ℕ) → ¬ (length raw ≡ 2) → is_null_mark raw ≡ false
null_mark-short [] h = refl
null_mark-short (a ∷ []) h = refl
null_mark-short (a ∷ b ∷ []) h = absurd (h refl)
null_mark-short (a ∷ b ∷ c ∷ raw) h = refl

-- a field without a backslash is its own content
pub content-whole : (raw : List ℕ) → list_any (λ b. eqb b 92) raw ≡ false → content raw ≡ Some raw
content-whole [] h = refl
content-whole (b ∷ raw) h =
    let parts = or_parts (eqb b 92) (list_any (λ x. eqb x 92) raw) h in
    rw (parts.0, content-whole raw parts.1) refl

pub field_value-whole : {A : Type 0} (kind : Kind) (raw : List ℕ) → is_null_mark raw ≡ false → list_any (λ b. eqb b 92) raw ≡ false → field_value {A = A} kind raw ≡ literal_of kind raw
field_value-whole kind raw mark plain = rw (mark, content-whole raw plain) refl

-- ---- the content of a field, byte by byte

pub content_goes_on : (whole : Option (List ℕ)) (front rest after : List ℕ) (b : ℕ) → whole ≡ option_map (λ (more : List ℕ). front ++ more) (content rest)
    → content rest ≡ option_map (λ (bytes : List ℕ). b ∷ bytes) (content after) → whole ≡ option_map (λ (more : List ℕ). (front ++ b ∷ []) ++ more) (content after)
content_goes_on whole front rest after b so_far next = so_far ∙ ap (option_map (λ (more : List ℕ). front ++ more)) next ∙ joined (content after)
  where
    joined : (o : Option (List ℕ)) → option_map (λ (more : List ℕ). front ++ more) (option_map (λ (bytes : List ℕ). b ∷ bytes) o) ≡ option_map (λ (more : List ℕ). (front ++ b ∷ []) ++ more) o
    joined None = refl
    joined (Some bytes) = ap (λ (x : List ℕ). Some x) (sym (append_assoc front (b ∷ []) bytes))

pub content_stops : (whole : Option (List ℕ)) (front rest : List ℕ) → whole ≡ option_map (λ (more : List ℕ). front ++ more) (content rest) → content rest ≡ None → whole ≡ None
content_stops whole front rest so_far none = so_far ∙ ap (option_map (λ (more : List ℕ). front ++ more)) none

pub content_ends : (whole : Option (List ℕ)) (front rest : List ℕ) → whole ≡ option_map (λ (more : List ℕ). front ++ more) (content rest) → rest ≡ [] → whole ≡ Some front
content_ends whole front rest so_far none = so_far ∙ ap (λ (r : List ℕ). option_map (λ (more : List ℕ). front ++ more) (content r)) none ∙ ap (λ (x : List ℕ). Some x) (append-nil front)

-- an answer that is no refusal is the definition's
pub ok_answer : {T : Type 0} (x : T) (r : Result T Code) → AnswersOrNoMemory (Ok x) (pointing_nowhere r) → r ≡ Ok x
ok_answer x (Ok y) (inl h) = let q : x ≡ y = cc in ap Ok (sym q)
ok_answer x (Err code) (inl h) = absurd cc
ok_answer x r (inr h) = absurd cc

-- ---- the values, field by field

module _ {A : Type 0} where
  abbrev pub in_front : List (Value A) → Result (List (Value A)) Code → Result (List (Value A)) Code
  in_front values (Ok more) = Ok (values ++ more)
  in_front values (Err code) = Err code

  pub in_front_of_all : (r : Result (List (Value A)) Code) → in_front [] r ≡ r
  in_front_of_all (Ok more) = refl
  in_front_of_all (Err code) = refl

  onto_front : (values : List (Value A)) (v : Value A) (r : Result (List (Value A)) Code) → in_front values (onto_values (Ok v) r) ≡ in_front (values ++ v ∷ []) r
  onto_front values v (Ok more) = ap Ok (sym (append_assoc values (v ∷ []) more))
  onto_front values v (Err code) = refl

  first_values : (kinds : List Kind) (fields more : List (List ℕ)) (i : ℕ) (kind d : Kind) (raw : List ℕ) → i < length kinds → kind ≡ get_or kinds i d → fields ≡ raw ∷ more
      → field_values {A = A} (drop i kinds) fields ≡ onto_values (field_value kind raw) (field_values (drop (i + 1) kinds) more)
  first_values kinds fields more i kind d raw lt at parts =
      ap (λ (fs : List (List ℕ)). field_values (drop i kinds) fs) parts
      ∙ ap (λ (ks : List Kind). field_values ks (raw ∷ more)) (drop_more kinds i d lt ∙ ap (λ (k : Kind). k ∷ drop (i + 1) kinds) (sym at))

  pub values_go_on : (values : List (Value A)) (total : Result (List (Value A)) Code) (kinds : List Kind) (fields more : List (List ℕ)) (i : ℕ) (kind d : Kind) (raw : List ℕ) (v : Value A)
      → i < length kinds → kind ≡ get_or kinds i d → fields ≡ raw ∷ more → field_value kind raw ≡ Ok v
      → in_front values (field_values (drop i kinds) fields) ≡ total → in_front (values ++ v ∷ []) (field_values (drop (i + 1) kinds) more) ≡ total
  values_go_on values total kinds fields more i kind d raw v lt at parts read so_far =
      sym (ap (in_front values) (first_values kinds fields more i kind d raw lt at parts ∙ ap (λ r. onto_values r (field_values (drop (i + 1) kinds) more)) read)
      ∙ onto_front values v (field_values (drop (i + 1) kinds) more))
      ∙ so_far

  stopped : (values : List (Value A)) (first : Result (Value A) Code) (rest total : Result (List (Value A)) Code) (e : Refusal) → pointing_nowhere first ≡ Err e → in_front values (onto_values first rest) ≡ total → pointing_nowhere total ≡ Err e
  stopped values (Ok v) rest total e read so_far = absurd cc
  stopped values (Err code) rest total e read so_far = let q : of_code code ≡ e = cc in ap pointing_nowhere (sym so_far) ∙ ap Err q

  pub values_stop : (values : List (Value A)) (total : Result (List (Value A)) Code) (kinds : List Kind) (fields more : List (List ℕ)) (i : ℕ) (kind d : Kind) (raw : List ℕ) (e : Refusal)
      → i < length kinds → kind ≡ get_or kinds i d → fields ≡ raw ∷ more → AnswersOrNoMemory (Err e) (pointing_nowhere (field_value {A = A} kind raw))
      → in_front values (field_values (drop i kinds) fields) ≡ total → (e ≡ out_of_memory) ⊎ (pointing_nowhere total ≡ Err e)
  values_stop values total kinds fields more i kind d raw e lt at parts (inl read) so_far =
      inr (stopped values (field_value kind raw) (field_values (drop (i + 1) kinds) more) total e (sym read) (sym (ap (in_front values) (first_values kinds fields more i kind d raw lt at parts)) ∙ so_far))
  values_stop values total kinds fields more i kind d raw e lt at parts (inr memory) so_far = inl cc

  -- the first value apart: it is refused, it is read and another is refused, or all are read
  pub first_stops : (kind : Kind) (kinds : List Kind) (fields more : List (List ℕ)) (raw : List ℕ) (e : Refusal) → fields ≡ raw ∷ more → AnswersOrNoMemory (Err e) (pointing_nowhere (field_value {A = A} kind raw))
      → (e ≡ out_of_memory) ⊎ (pointing_nowhere (field_values {A = A} (kind ∷ kinds) fields) ≡ Err e)
  first_stops kind kinds fields more raw e parts (inl read) =
      inr (stopped [] (field_value kind raw) (field_values kinds more) (field_values (kind ∷ kinds) fields) e (sym read)
      (in_front_of_all (onto_values (field_value kind raw) (field_values kinds more)) ∙ ap (λ (fs : List (List ℕ)). field_values (kind ∷ kinds) fs) (sym parts)))
  first_stops kind kinds fields more raw e parts (inr memory) = inl cc

  first_and : (kind : Kind) (kinds : List Kind) (fields more : List (List ℕ)) (raw : List ℕ) (v : Value A) → fields ≡ raw ∷ more → field_value kind raw ≡ Ok v
      → field_values (kind ∷ kinds) fields ≡ onto_values (Ok v) (field_values kinds more)
  first_and kind kinds fields more raw v parts read = ap (λ (fs : List (List ℕ)). field_values (kind ∷ kinds) fs) parts ∙ ap (λ r. onto_values r (field_values kinds more)) read

  pub all_read : (kind : Kind) (kinds : List Kind) (fields more : List (List ℕ)) (raw : List ℕ) (v : Value A) (values : List (Value A)) → fields ≡ raw ∷ more → field_value kind raw ≡ Ok v → field_values kinds more ≡ Ok values
      → field_values (kind ∷ kinds) fields ≡ Ok (v ∷ values)
  all_read kind kinds fields more raw v values parts read rest = first_and kind kinds fields more raw v parts read ∙ ap (onto_values (Ok v)) rest

  -- no kind is left, or no field
  pub values_end : (values : List (Value A)) (total : Result (List (Value A)) Code) (kinds : List Kind) (fields : List (List ℕ)) (i : ℕ) → length kinds ≤ i → in_front values (field_values (drop i kinds) fields) ≡ total → total ≡ Ok values
  values_end values total kinds fields i le so_far =
      sym so_far ∙ ap (λ (ks : List Kind). in_front values (field_values ks fields)) (drop_all i kinds le) ∙ ap Ok (append-nil values)

  no_field : (kinds : List Kind) → field_values {A = A} kinds [] ≡ Ok []
  no_field [] = refl
  no_field (k ∷ kinds) = refl

  pub values_run_out : (values : List (Value A)) (total : Result (List (Value A)) Code) (kinds : List Kind) (fields : List (List ℕ)) (i : ℕ) → fields ≡ [] → in_front values (field_values (drop i kinds) fields) ≡ total → total ≡ Ok values
  values_run_out values total kinds fields i none so_far =
      sym so_far ∙ ap (λ (fs : List (List ℕ)). in_front values (field_values (drop i kinds) fs)) none ∙ ap (in_front values) (no_field (drop i kinds)) ∙ ap Ok (append-nil values)
