-- What a request asks for may be asked: its text is refused for what it says alone, and else fits the catalog.
use Rattle.std.proofs.Common.{◌≡◌, ℕ, ◌<◌, ◌==◌, nat_lt, Bool, true, false, true≢false, cond, ◌||◌, List, [], ◌∷◌, ◌++◌, length, Option, Some, None, Result, Ok, Err, slice_get, refl, sym, ap, ◌∙◌, arith}
use Rattle.std.specs.Prelude.{ℤ, pos, neg_ℤ, ◌^◌, nat_le, nat_eq, ◌&&◌, not, drop, codes}
use Rattle.std.specs.Cmp.Derive.{both_true}
use Rattle.std.specs.List.{list_all, list_any, starts_with}
use Rattle.std.specs.Option.{option_map_or}
use Rattle.std.specs.Str.{bytes_eq, is_utf8}
use Rattle.std.specs.Str.Parse.{digits_value, starts_with_minus, without_leading_sign}
use Rattle.std.proofs.lemmas.Bool.{eqb-true}
use Rattle.std.proofs.lemmas.Bool.Decides.{nat_tests}
use Rattle.std.proofs.lemmas.List.Folds.{list_any-append}
use Rattle.std.proofs.lemmas.List.Quantifiers.{position-Some}
use Rattle.hex.specs.Hex.{decode_of}
use Rattle.value.specs.declared.kind.Kind.{Kind}
use Rattle.value.specs.declared.kind.Kind.TheVariants as of
use Rattle.value.specs.declared.refusal.Code.{Code}
use Rattle.value.specs.declared.refusal.Code.TheVariants.{CharacterNotInRepertoire, InvalidTextRepresentation, NumericValueOutOfRange, OutOfMemory, ProgramLimitExceeded, SyntaxError, UndefinedColumn, UndefinedTable}
use Rattle.value.specs.declared.refusal.Refusal.{Refusal}
use Rattle.value.specs.declared.value.Value.{Value}
use Rattle.value.specs.declared.value.Value.TheVariants.{Null}
use Rattle.value.proofs.Basics.{eqb-self}
use Rattle.value.specs.Literal.{as_bytes, as_int, as_text, bigint_of, bytea_of, decoded, is_bigint_form, literal_of, signed_number, text_of}
use Rattle.value.specs.Refusals.{of_code}
use Rattle.schema.specs.Definition.{Catalog, Column, TableSchema, column_named, columns_of, table_named}
use Rattle.schema.specs.Plain.{has_kind, in_range}
use Rattle.schema.proofs.LiteralLemmas.{literal_fits}
use Rattle.statement.specs.declared.condition.Condition.{Condition}
use Rattle.statement.specs.declared.condition.Condition.TheVariants as c
use Rattle.statement.specs.declared.statement.Assignment.{Assignment}
use Rattle.statement.specs.declared.statement.Projection.{Projection}
use Rattle.statement.specs.declared.statement.Projection.TheVariants as p
use Rattle.statement.specs.declared.statement.Source.{Source}
use Rattle.statement.specs.declared.statement.Source.TheVariants as s
use Rattle.statement.specs.declared.statement.Statement.{Statement}
use Rattle.statement.specs.declared.statement.Statement.TheVariants as q
use Rattle.statement.specs.Evaluation.{is_assigned}
use Rattle.statement.specs.Fits.{Fits, assignment_fits, assigns_once, column_passes, condition_fits, has_table, is_bigint, literals_fit, projection_fits, source_fits, takes}
use Rattle.history.specs.Answer.{Allowed}
use Rattle.sqltext.specs.declared.token.Token.{Token}
use Rattle.sqltext.specs.declared.token.TokenKind.TheVariants.{Minus}
use Rattle.sqltext.specs.declared.tree.Literal.{Literal}
use Rattle.sqltext.specs.declared.tree.Literal.TheVariants as l
use Rattle.sqltext.specs.declared.tree.Name.{Name}
use Rattle.sqltext.specs.declared.tree.Setting.{Setting}
use Rattle.sqltext.specs.declared.tree.Setting.TheVariants as set
use Rattle.sqltext.specs.declared.tree.Shown.{Shown}
use Rattle.sqltext.specs.declared.tree.Shown.TheVariants as shown
use Rattle.sqltext.specs.declared.tree.Test.{Test}
use Rattle.sqltext.specs.declared.tree.Test.TheVariants as test
use Rattle.sqltext.specs.declared.tree.Tree.{Tree}
use Rattle.sqltext.specs.declared.tree.Tree.TheVariants as tree
use Rattle.sqltext.specs.Grammar.{whole}
use Rattle.sqltext.specs.Laws.{RefusesTheFirstFault}
use Rattle.sqltext.specs.Parsed.{parsed, parsed_small}
use Rattle.sqltext.specs.Reading.{◌>>=◌}
use Rattle.sqltext.specs.Resolving.{addend, assignment, assignments, at_token, column, condition, content, each, inserted, negated, number, place_of, projection, refused, require_bigint, resolved, sum, table, target, value, value_of, values, whole_number, with_kind}
use Rattle.sqltext.specs.Source.{bytes_of, in_small_letters, unquoted}
use Rattle.sqltext.specs.Tokens.{same_kind, tokens}
use Rattle.request.specs.declared.request.Request.{Request}
use Rattle.request.specs.declared.request.Request.TheVariants.{Begin, Commit, Export, Import, Poll, Prune, Rollback, Sql}
use Rattle.request.specs.Requests.{asked, spoken}

-- out of memory
abbrev is_memory : Code → Bool
is_memory OutOfMemory = true
is_memory _ = false

-- It is so, or isn't refused for want of memory.
abbrev Says : {X : Type 0} → (X → Type 0) → Result X Refusal → Type 0
Says P (Ok x) = P x
Says P (Err e) = is_memory e.code ≡ false

abbrev IsCoded : {X : Type 0} → Result X Code → Type 0
IsCoded (Ok x) = Unit {0}
IsCoded (Err e) = is_memory e ≡ false

-- whatever it is
abbrev Any : {X : Type 0} → X → Type 0
Any x = Unit {0}

bound : {X Y : Type 0} (P : X → Type 0) (Q : Y → Type 0) (r : Result X Refusal) (f : X → Result Y Refusal) → Says P r → ((x : X) → P x → Says Q (f x)) → Says Q (r >>= f)
bound P Q (Ok x) f h g = g x h
bound P Q (Err e) f h g = h

either : {X : Type 0} (P : X → Type 0) (b : Bool) (r q : Result X Refusal) → (b ≡ true → Says P r) → (b ≡ false → Says P q) → Says P (cond b r q)
either P true r q h k = h refl
either P false r q h k = k refl

one_of : {X : Type 0} (b : Bool) (r q : Result X Code) → IsCoded r → IsCoded q → IsCoded (cond b r q)
one_of true r q h k = h
one_of false r q h k = k

-- ---- literals

at_token_says : {X : Type 0} (P : X → Type 0) (t : Token) (r : Result X Code) → IsCoded r → ((x : X) → r ≡ Ok x → P x) → Says P (at_token t r)
at_token_says P t (Ok x) h f = f x refl
at_token_says P t (Err e) h f = h

signed_coded : (b : Bool) (n : ℕ) → IsCoded (signed_number b n)
signed_coded true n = one_of (nat_le n (2 ^ 63)) (Ok (neg_ℤ (pos n))) (Err NumericValueOutOfRange) tt refl
signed_coded false n = one_of (nat_lt n (2 ^ 63)) (Ok (pos n)) (Err NumericValueOutOfRange) tt refl

bigint_coded : (text : List ℕ) → IsCoded (bigint_of text)
bigint_coded text =
    one_of (is_bigint_form text) (signed_number (starts_with_minus text) (digits_value 10 (without_leading_sign text))) (Err InvalidTextRepresentation)
    (signed_coded (starts_with_minus text) (digits_value 10 (without_leading_sign text))) refl

decoded_coded : {E : Type 0} (r : Result (List ℕ) E) → IsCoded (decoded r)
decoded_coded (Ok x) = tt
decoded_coded (Err e) = refl

negated_says : (n : ℤ) (digits : Token) → Says Any (negated n digits)
negated_says n digits = either Any (in_range (neg_ℤ n)) (Ok (neg_ℤ n)) (Err (refused NumericValueOutOfRange digits)) (λ b. tt) (λ b. refl)

addend_says : (text : List ℕ) (sign digits : Token) → Says Any (addend text sign digits)
unfolding addend
addend_says text sign digits =
    bound Any Any (whole_number text digits) (λ n. cond (same_kind sign.kind Minus) (negated n digits) (Ok n))
    (at_token_says Any digits (bigint_of (bytes_of digits text)) (bigint_coded (bytes_of digits text)) (λ n e. tt))
    (λ n i. either Any (same_kind sign.kind Minus) (negated n digits) (Ok n) (λ b. negated_says n digits) (λ b. tt))

-- ---- names

-- a column that was found, and its kind
record IsColumn (columns : List Column) (found : ℕ × Kind) : Type 0 where
  column : Column
  there : slice_get columns found.0 ≡ Some column
  kind : column.kind ≡ found.1

found_at : (columns : List Column) (n : ℕ) (o : Option Column) (e : Refusal) → is_memory e.code ≡ false → slice_get columns n ≡ o
    → Says (IsColumn columns) (option_map_or (λ x. Ok x) (option_map_or (λ (d : Column). Some (n, d.kind)) o None) (Err e))
found_at columns n (Some d) e h is = record { column = d; there = is; kind = refl }
found_at columns n None e h is = h

found_in : (columns : List Column) (o : Option ℕ) (e : Refusal) → is_memory e.code ≡ false → Says (IsColumn columns) (option_map_or (λ x. Ok x) (with_kind columns o) (Err e))
found_in columns (Some n) e h = found_at columns n (slice_get columns n) e h refl
found_in columns None e h = h

column_says : (columns : List Column) (text : List ℕ) (name : Name) → Says (IsColumn columns) (column columns text name)
unfolding column
column_says columns text name = found_in columns (column_named columns (bytes_of name.0 text)) (refused UndefinedColumn name.0) refl

-- what holds of the column holds at its place
passes : (columns : List Column) (found : ℕ × Kind) (test : Column → Bool) (i : IsColumn columns found) → test i.column ≡ true → column_passes test columns found.0 ≡ true
passes columns found test i h = rw i.there h

abbrev IsPlace : List Column → ℕ → Type 0
IsPlace columns n = column_passes (λ d. true) columns n ≡ true

place_says : (columns : List Column) (text : List ℕ) (name : Name) → Says (IsPlace columns) (place_of columns text name)
unfolding place_of
place_says columns text name = bound (IsColumn columns) (IsPlace columns) (column columns text name) (λ f. Ok f.0) (column_says columns text name) (λ f i. passes columns f (λ d. true) i refl)

abbrev IsTable : Catalog → ℕ → Type 0
IsTable catalog t = has_table catalog t ≡ true

table_at : (catalog : Catalog) (word : List ℕ) (o : Option ℕ) (e : Refusal) → is_memory e.code ≡ false → table_named catalog word ≡ o → Says (IsTable catalog) (option_map_or (λ t. Ok t) o (Err e))
table_at catalog word (Some t) e h is =
    let none : TableSchema = record { name = []; columns = [] } in
    let lt : t < length catalog = (position-Some (λ d. bytes_eq word d.name) catalog t none is).0 in
    grind (arith, nat_tests)
table_at catalog word None e h is = h

table_says : (catalog : Catalog) (text : List ℕ) (name : Name) → Says (IsTable catalog) (table catalog text name)
unfolding table
table_says catalog text name = let word = bytes_of name.0 text in table_at catalog word (table_named catalog word) (refused UndefinedTable name.0) refl refl

abbrev IsNumeric : Kind → Unit {0} → Type 0
IsNumeric k u = is_bigint k ≡ true

bigint_says : (k : Kind) (name : Name) → Says (IsNumeric k) (require_bigint k name)
bigint_says of.Bigint name = refl
bigint_says of.Text name = refl
bigint_says of.Bytea name = refl

abbrev All : {X : Type 0} → (X → Bool) → List X → Type 0
All test xs = list_all test xs ≡ true

each_says : {X Y : Type 0} (step : X → Result Y Refusal) (test : Y → Bool) → ((x : X) → Says (λ y. test y ≡ true) (step x)) → (xs : List X) → Says (All test) (each step xs)
unfolding each
each_says step test h [] = refl
each_says step test h (x ∷ xs) =
    bound (λ y. test y ≡ true) (All test) (step x) (λ y. each step xs >>= λ ys. Ok (y ∷ ys)) (h x)
    (λ y i. bound (All test) (All test) (each step xs) (λ ys. Ok (y ∷ ys)) (each_says step test h xs) (λ ys j. both_true i j))

not_zero : (n : ℕ) → (n == 0) ≡ false → nat_lt 0 n ≡ true
not_zero n h = grind (arith, nat_tests)

-- the memory of what is read
module _ (A : Type 0) where
  int_coded : (r : Result ℤ Code) → IsCoded r → IsCoded (as_int {A = A} r)
  int_coded (Ok n) h = tt
  int_coded (Err e) h = h

  text_coded : (r : Result (List ℕ) Code) → IsCoded r → IsCoded (as_text {A = A} r)
  text_coded (Ok n) h = tt
  text_coded (Err e) h = h

  bytes_coded : (r : Result (List ℕ) Code) → IsCoded r → IsCoded (as_bytes {A = A} r)
  bytes_coded (Ok n) h = tt
  bytes_coded (Err e) h = h

  literal_coded : (k : Kind) (text : List ℕ) → IsCoded (literal_of {A = A} k text)
  literal_coded of.Bigint text = int_coded (bigint_of text) (bigint_coded text)
  literal_coded of.Text text = text_coded (text_of text) (one_of (is_utf8 text && not (list_any (λ b. b == 0) text)) (Ok text) (Err CharacterNotInRepertoire) tt refl)
  literal_coded of.Bytea text =
      bytes_coded (bytea_of text) (one_of (starts_with nat_eq text (codes "\\x")) (decoded (decode_of (drop 2 text))) (Err InvalidTextRepresentation) (decoded_coded (decode_of (drop 2 text))) refl)

  abbrev IsOf : Kind → Value A → Type 0
  IsOf k v = has_kind k v ≡ true

  value_of_says : (k : Kind) (bytes : List ℕ) (t : Token) → Says (IsOf k) (value_of k bytes t)
  unfolding value_of
  value_of_says k bytes t = at_token_says (IsOf k) t (literal_of k bytes) (literal_coded k bytes) (λ v e. literal_fits k bytes v e)

  number_says : (k : Kind) (bytes : List ℕ) (t : Token) → Says (IsOf k) (number k bytes t)
  unfolding number
  number_says of.Bigint bytes t = value_of_says of.Bigint bytes t
  number_says of.Text bytes t = refl
  number_says of.Bytea bytes t = refl

  content_says : (k : Kind) (text : List ℕ) (t : Token) → Says (IsOf k) (content k text t)
  unfolding content
  content_says of.Bigint text t = refl
  content_says of.Text text t = value_of_says of.Text (unquoted (bytes_of t text)) t
  content_says of.Bytea text t = value_of_says of.Bytea (unquoted (bytes_of t text)) t

  null_fits : (k : Kind) → IsOf k Null
  null_fits of.Bigint = refl
  null_fits of.Text = refl
  null_fits of.Bytea = refl

  value_says : (text : List ℕ) (k : Kind) (x : Literal) → Says (IsOf k) (value text k x)
  unfolding value
  value_says text k (l.Null t) = null_fits k
  value_says text k (l.Number t) = number_says k (bytes_of t text) t
  value_says text k (l.Signed s t) = number_says k (bytes_of s text ++ bytes_of t text) s
  value_says text k (l.Quoted t) = content_says k text t

  taken : (columns : List Column) (found : ℕ × Kind) (i : IsColumn columns found) (v : Value A) → IsOf found.1 v → takes v i.column ≡ true
  taken columns found i v h = rw i.kind h

  -- ---- conditions, and what is shown

  abbrev IsFit : List Column → Condition A → Type 0
  IsFit columns x = condition_fits columns x ≡ true

  condition_says : (columns : List Column) (text : List ℕ) (t : Test) → Says (IsFit columns) (condition columns text t)
  unfolding condition
  condition_says columns text (test.Compare name how x) =
      bound (IsColumn columns) (IsFit columns) (column columns text name) (λ f. value text f.1 x >>= λ v. Ok (c.Compare f.0 how v)) (column_says columns text name)
      (λ f i. bound (IsOf f.1) (IsFit columns) (value text f.1 x) (λ v. Ok (c.Compare f.0 how v)) (value_says text f.1 x) (λ v h. passes columns f (takes v) i (taken columns f i v h)))
  condition_says columns text (test.Between name low high) =
      bound (IsColumn columns) (IsFit columns) (column columns text name) (λ f. value text f.1 low >>= λ v. value text f.1 high >>= λ w. Ok (c.Between f.0 v w)) (column_says columns text name)
      (λ f i. bound (IsOf f.1) (IsFit columns) (value text f.1 low) (λ v. value text f.1 high >>= λ w. Ok (c.Between f.0 v w)) (value_says text f.1 low)
      (λ v h. bound (IsOf f.1) (IsFit columns) (value text f.1 high) (λ w. Ok (c.Between f.0 v w)) (value_says text f.1 high)
      (λ w k. passes columns f (λ d. takes v d && takes w d) i (both_true (taken columns f i v h) (taken columns f i w k)))))
  condition_says columns text (test.IsNull name) = bound (IsColumn columns) (IsFit columns) (column columns text name) (λ f. Ok (c.IsNull f.0)) (column_says columns text name) (λ f i. passes columns f (λ d. true) i refl)
  condition_says columns text (test.IsNotNull name) = bound (IsColumn columns) (IsFit columns) (column columns text name) (λ f. Ok (c.IsNotNull f.0)) (column_says columns text name) (λ f i. passes columns f (λ d. true) i refl)

  conditions_say : (columns : List Column) (text : List ℕ) (tests : List Test) → Says (All (condition_fits columns)) (each (condition {A = A} columns text) tests)
  conditions_say columns text tests = each_says (condition columns text) (condition_fits columns) (condition_says columns text) tests

  abbrev IsShown : List Column → Projection A → Type 0
  IsShown columns x = projection_fits columns x ≡ true

  shown_says : (columns : List Column) (text : List ℕ) (x : Shown A) → Says (IsShown columns) (projection columns text x)
  unfolding projection
  shown_says columns text shown.All = refl
  shown_says columns text shown.Count = refl
  shown_says columns text (shown.Columns names) =
      bound (All (column_passes (λ d. true) columns)) (IsShown columns) (each (place_of columns text) names) (λ places. Ok (p.Columns places))
      (each_says (place_of columns text) (column_passes (λ d. true) columns) (place_says columns text) names) (λ places h. h)

  -- ---- the literals of an INSERT

  abbrev AreLiterals : List Column → List (Value A) → Type 0
  AreLiterals columns vs = literals_fit columns vs ≡ true

  values_say : (text : List ℕ) (columns : List Column) (xs : List Literal) → length xs ≡ length columns → Says (AreLiterals columns) (values text columns xs)
  unfolding values
  values_say text [] [] same = refl
  values_say text (d ∷ columns) [] same = absurd (omega arith)
  values_say text [] (x ∷ xs) same = absurd (omega arith)
  values_say text (d ∷ columns) (x ∷ xs) same =
      bound (IsOf d.kind) (AreLiterals (d ∷ columns)) (value text d.kind x) (λ v. values text columns xs >>= λ vs. Ok (v ∷ vs)) (value_says text d.kind x)
      (λ v h. bound (AreLiterals columns) (AreLiterals (d ∷ columns)) (values text columns xs) (λ vs. Ok (v ∷ vs)) (values_say text columns xs (omega arith)) (λ vs k. both_true h k))

  inserted_says : (columns : List Column) (text : List ℕ) (word : Token) (xs : List Literal) → Says (AreLiterals columns) (inserted columns text word xs)
  unfolding inserted
  inserted_says columns text word xs =
      either (AreLiterals columns) (length xs == length columns) (values text columns xs) (Err (refused SyntaxError word)) (λ e. values_say text columns xs (eqb-true (length xs) (length columns) e)) (λ e. refl)

  -- ---- assignments

  -- the column that is assigned isn't the key, and wasn't assigned before
  record IsTarget (columns : List Column) (before : List (Assignment A)) (found : ℕ × Kind) : Type 0 where
    column : IsColumn columns found
    not_key : (found.0 == 0) ≡ false
    first : is_assigned before found.0 ≡ false

  neither : (b c : Bool) → (b || c) ≡ false → (b ≡ false) × (c ≡ false)
  neither false c h = (refl, h)
  neither true c h = absurd (true≢false h)

  target_says : (columns : List Column) (text : List ℕ) (before : List (Assignment A)) (name : Name) → Says (IsTarget columns before) (target columns text before name)
  unfolding target
  target_says columns text before name =
      bound (IsColumn columns) (IsTarget columns before) (column columns text name) (λ f. cond (f.0 == 0 || is_assigned before f.0) (Err (refused SyntaxError name.0)) (Ok f)) (column_says columns text name)
      (λ f i. either (IsTarget columns before) (f.0 == 0 || is_assigned before f.0) (Err (refused SyntaxError name.0)) (Ok f) (λ e. refl)
      (λ e. let no = neither (f.0 == 0) (is_assigned before f.0) e in record { column = i; not_key = no.0; first = no.1 }))

  -- the source of a column of numbers
  abbrev IsSum : List Column → Source A → Type 0
  IsSum columns x = (d : Column) → is_bigint d.kind ≡ true → source_fits columns x d ≡ true

  sum_says : (columns : List Column) (text : List ℕ) (operand : Name) (sign digits : Token) → Says (IsSum columns) (sum columns text operand sign digits)
  unfolding sum
  sum_says columns text operand sign digits =
      bound (IsColumn columns) (IsSum columns) (column columns text operand) (λ f. require_bigint f.1 operand >>= λ fits. addend text sign digits >>= λ n. Ok (s.Sum f.0 n)) (column_says columns text operand)
      (λ f i. bound (IsNumeric f.1) (IsSum columns) (require_bigint f.1 operand) (λ fits. addend text sign digits >>= λ n. Ok (s.Sum f.0 n)) (bigint_says f.1 operand)
      (λ fits h. bound Any (IsSum columns) (addend text sign digits) (λ n. Ok (s.Sum f.0 n)) (addend_says text sign digits)
      (λ n a d number. let big : is_bigint i.column.kind ≡ true = rw i.kind h in both_true number (passes columns f (λ e. is_bigint e.kind) i big))))

  record IsAssignment (columns : List Column) (before : List (Assignment A)) (x : Assignment A) : Type 0 where
    fits : assignment_fits columns x ≡ true
    first : is_assigned before x.column ≡ false

  assignment_says : (columns : List Column) (text : List ℕ) (before : List (Assignment A)) (x : Setting) → Says (IsAssignment columns before) (assignment columns text before x)
  unfolding assignment
  assignment_says columns text before (set.Literal name x) =
      bound (IsTarget columns before) (IsAssignment columns before) (target columns text before name) (λ f. value text f.1 x >>= λ v. Ok (record { column = f.0; source = s.Literal v })) (target_says columns text before name)
      (λ f t. bound (IsOf f.1) (IsAssignment columns before) (value text f.1 x) (λ v. Ok (record { column = f.0; source = s.Literal v })) (value_says text f.1 x)
      (λ v h. record { fits = both_true (not_zero f.0 t.not_key) (passes columns f (source_fits columns (s.Literal v)) t.column (taken columns f t.column v h)); first = t.first }))
  assignment_says columns text before (set.Sum name operand sign digits) =
      bound (IsTarget columns before) (IsAssignment columns before) (target columns text before name) (λ f. require_bigint f.1 name >>= λ fits. sum columns text operand sign digits >>= λ source. Ok (record { column = f.0; source = source })) (target_says columns text before name)
      (λ f t. bound (IsNumeric f.1) (IsAssignment columns before) (require_bigint f.1 name) (λ fits. sum columns text operand sign digits >>= λ source. Ok (record { column = f.0; source = source })) (bigint_says f.1 name)
      (λ fits h. bound (IsSum columns) (IsAssignment columns before) (sum columns text operand sign digits) (λ source. Ok (record { column = f.0; source = source })) (sum_says columns text operand sign digits)
      (λ source k. let big : is_bigint t.column.column.kind ≡ true = rw t.column.kind h in
      record { fits = both_true (not_zero f.0 t.not_key) (passes columns f (source_fits columns source) t.column (k t.column.column big)); first = t.first })))

  record AreAssigned (columns : List Column) (before xs : List (Assignment A)) : Type 0 where
    fit : list_all (assignment_fits columns) xs ≡ true
    once : assigns_once xs ≡ true
    others : (n : ℕ) → is_assigned before n ≡ true → is_assigned xs n ≡ false

  or_true : (b : Bool) → (b || true) ≡ true
  or_true true = refl
  or_true false = refl

  assigned_then : (before : List (Assignment A)) (a : Assignment A) → is_assigned (before ++ a ∷ []) a.column ≡ true
  assigned_then before a = list_any-append (λ y. y.column == a.column) before (a ∷ []) ∙ rw (eqb-self a.column) (or_true (is_assigned before a.column))

  assigned_still : (before : List (Assignment A)) (a : Assignment A) (n : ℕ) → is_assigned before n ≡ true → is_assigned (before ++ a ∷ []) n ≡ true
  assigned_still before a n h = list_any-append (λ y. y.column == n) before (a ∷ []) ∙ rw h refl

  differs : (before : List (Assignment A)) (m n : ℕ) (same : Bool) → (m == n) ≡ same → is_assigned before m ≡ false → is_assigned before n ≡ true → (m == n) ≡ false
  differs before m n false is first again = is
  differs before m n true is first again = let e : m ≡ n = eqb-true m n is in absurd (true≢false (sym again ∙ ap (is_assigned before) (sym e) ∙ first))

  assigned_more : (columns : List Column) (before : List (Assignment A)) (a : Assignment A) (xs : List (Assignment A)) → IsAssignment columns before a → AreAssigned columns (before ++ a ∷ []) xs → AreAssigned columns before (a ∷ xs)
  assigned_more columns before a xs i m = record {
    fit = both_true i.fits m.fit;
    once = both_true (rw (m.others a.column (assigned_then before a)) refl) m.once;
    others = λ n h. let other : (a.column == n) ≡ false = differs before a.column n (a.column == n) refl i.first h in rw other (m.others n (assigned_still before a n h));
  }

  assignments_say : (columns : List Column) (text : List ℕ) (before : List (Assignment A)) (xs : List Setting) → Says (AreAssigned columns before) (assignments columns text before xs)
  unfolding assignments
  assignments_say columns text before [] = record { fit = refl; once = refl; others = λ n h. refl }
  assignments_say columns text before (x ∷ xs) =
      bound (IsAssignment columns before) (AreAssigned columns before) (assignment columns text before x) (λ a. assignments columns text (before ++ a ∷ []) xs >>= λ more. Ok (a ∷ more)) (assignment_says columns text before x)
      (λ a i. bound (AreAssigned columns (before ++ a ∷ [])) (AreAssigned columns before) (assignments columns text (before ++ a ∷ []) xs) (λ more. Ok (a ∷ more)) (assignments_say columns text (before ++ a ∷ []) xs)
      (λ more m. assigned_more columns before a more i m))

  -- ---- statements

  resolved_says : (catalog : Catalog) (text : List ℕ) (x : Tree A) → Says (Fits catalog) (resolved catalog text x)
  unfolding resolved
  resolved_says catalog text (tree.Select what name tests) =
      bound (IsTable catalog) (Fits catalog) (table catalog text name) (λ t. projection (columns_of catalog t) text what >>= λ shown. each (condition (columns_of catalog t) text) tests >>= λ conditions. Ok (q.Select t shown conditions)) (table_says catalog text name)
      (λ t i. bound (IsShown (columns_of catalog t)) (Fits catalog) (projection (columns_of catalog t) text what) (λ shown. each (condition (columns_of catalog t) text) tests >>= λ conditions. Ok (q.Select t shown conditions)) (shown_says (columns_of catalog t) text what)
      (λ shown j. bound (All (condition_fits (columns_of catalog t))) (Fits catalog) (each (condition (columns_of catalog t) text) tests) (λ conditions. Ok (q.Select t shown conditions)) (conditions_say (columns_of catalog t) text tests)
      (λ conditions k. both_true (both_true i j) k)))
  resolved_says catalog text (tree.Insert name word literals) =
      bound (IsTable catalog) (Fits catalog) (table catalog text name) (λ t. inserted (columns_of catalog t) text word literals >>= λ vs. Ok (q.Insert t vs)) (table_says catalog text name)
      (λ t i. bound (AreLiterals (columns_of catalog t)) (Fits catalog) (inserted (columns_of catalog t) text word literals) (λ vs. Ok (q.Insert t vs)) (inserted_says (columns_of catalog t) text word literals) (λ vs j. both_true i j))
  resolved_says catalog text (tree.Update name settings tests) =
      bound (IsTable catalog) (Fits catalog) (table catalog text name) (λ t. assignments (columns_of catalog t) text [] settings >>= λ more. each (condition (columns_of catalog t) text) tests >>= λ conditions. Ok (q.Update t more conditions)) (table_says catalog text name)
      (λ t i. bound (AreAssigned (columns_of catalog t) []) (Fits catalog) (assignments (columns_of catalog t) text [] settings) (λ more. each (condition (columns_of catalog t) text) tests >>= λ conditions. Ok (q.Update t more conditions)) (assignments_say (columns_of catalog t) text [] settings)
      (λ more m. bound (All (condition_fits (columns_of catalog t))) (Fits catalog) (each (condition (columns_of catalog t) text) tests) (λ conditions. Ok (q.Update t more conditions)) (conditions_say (columns_of catalog t) text tests)
      (λ conditions k. both_true (both_true (both_true i m.fit) m.once) k)))
  resolved_says catalog text (tree.Delete name tests) =
      bound (IsTable catalog) (Fits catalog) (table catalog text name) (λ t. each (condition (columns_of catalog t) text) tests >>= λ conditions. Ok (q.Delete t conditions)) (table_says catalog text name)
      (λ t i. bound (All (condition_fits (columns_of catalog t))) (Fits catalog) (each (condition (columns_of catalog t) text) tests) (λ conditions. Ok (q.Delete t conditions)) (conditions_say (columns_of catalog t) text tests) (λ conditions k. both_true i k))

  -- ---- texts, whose first fault in the grammar is a syntax error

  module _ (first_fault : RefusesTheFirstFault A) where
    whole_says : (ts : List Token) → Says Any (whole {A = A} ts)
    whole_says ts = go (whole {A = A} ts) refl
      where
        go : (r : Result (Tree A) Refusal) → whole {A = A} ts ≡ r → Says Any r
        go (Ok x) e = tt
        go (Err x) e = let f = first_fault ts x e in ap (λ (y : Refusal). is_memory y.code) f.3

    parsed_says : (catalog : Catalog) (text : List ℕ) → Says (Fits catalog) (parsed {A = A} catalog text)
    unfolding parsed parsed_small
    parsed_says catalog text =
        let small = in_small_letters false text in
        either (Fits catalog) (nat_lt 65536 (length text)) (Err (of_code ProgramLimitExceeded)) (parsed_small {A = A} catalog small) (λ e. refl)
        (λ e. bound Any (Fits catalog) (whole {A = A} (tokens small)) (λ x. resolved catalog small x) (whole_says (tokens small)) (λ x i. resolved_says catalog small x))

    spoken_allowed : (catalog : Catalog) (r : Result (Statement A) Refusal) → Says (Fits catalog) r → Allowed catalog (spoken r)
    spoken_allowed catalog (Ok x) h = h
    spoken_allowed catalog (Err x) h = λ e. true≢false (sym (ap is_memory e) ∙ h)

    -- what a request asks for
    pub asked_allowed : (catalog : Catalog) (x : Request A) → Allowed catalog (asked catalog x)
    asked_allowed catalog (Begin m) = tt
    asked_allowed catalog (Sql text) = spoken_allowed catalog (parsed catalog text) (parsed_says catalog text)
    asked_allowed catalog Poll = tt
    asked_allowed catalog Export = tt
    asked_allowed catalog (Import i) = tt
    asked_allowed catalog Commit = tt
    asked_allowed catalog Rollback = tt
    asked_allowed catalog Prune = tt
