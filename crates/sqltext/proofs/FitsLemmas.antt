-- What a text says of a catalog's tables fits the catalog.
use Rattle.std.proofs.Common.{◌≡◌, ℕ, ◌+◌, ◌<◌, ◌==◌, nat_lt, Bool, true, false, cond, ◌&&◌, ◌||◌, List, [], ◌∷◌, ◌++◌, length, Option, Some, None, Result, Ok, Err, slice_get, refl, sym, ap, subst, ◌∙◌, arith}
use Rattle.std.specs.List.{list_all}
use Rattle.std.specs.Option.{option_map_or}
use Rattle.std.specs.Str.{bytes_eq}
use Rattle.std.proofs.lemmas.Bool.{eqb-true, true≢false}
use Rattle.std.proofs.lemmas.Bool.Decides.{nat_tests}
use Rattle.std.proofs.lemmas.List.Folds.{list_any-append}
use Rattle.std.proofs.lemmas.List.Quantifiers.{position-Some}
use Rattle.std.specs.Cmp.Derive.{both_true}
use Rattle.value.specs.declared.kind.Kind.{Kind}
use Rattle.value.specs.declared.kind.Kind.TheVariants as of
use Rattle.value.specs.declared.refusal.Refusal.{Refusal}
use Rattle.value.specs.declared.refusal.Code.{Code}
use Rattle.value.specs.declared.refusal.Code.TheVariants.{SyntaxError, UndefinedColumn, UndefinedTable, DatatypeMismatch, ProgramLimitExceeded}
use Rattle.value.specs.declared.value.Value.{Value}
use Rattle.value.specs.declared.value.Value.TheVariants.{Null, Text}
use Rattle.value.specs.Literal.{literal_of}
use Rattle.schema.specs.Definition.{Column, Catalog, TableSchema, columns_of, column_named, table_named}
use Rattle.schema.specs.Plain.{has_kind}
use Rattle.schema.proofs.LiteralLemmas.{literal_fits}
use Rattle.value.specs.Refusals.{of_code}
use Rattle.value.proofs.Basics.{eqb-self}
use Rattle.statement.specs.declared.condition.Condition.{Condition}
use Rattle.statement.specs.declared.condition.Condition.TheVariants as c
use Rattle.statement.specs.declared.statement.Projection.{Projection}
use Rattle.statement.specs.declared.statement.Projection.TheVariants as p
use Rattle.statement.specs.declared.statement.Source.{Source}
use Rattle.statement.specs.declared.statement.Source.TheVariants as s
use Rattle.statement.specs.declared.statement.Assignment.{Assignment}
use Rattle.statement.specs.declared.statement.Statement.{Statement}
use Rattle.statement.specs.declared.statement.Statement.TheVariants as q
use Rattle.statement.specs.Evaluation.{is_assigned}
use Rattle.statement.specs.Fits.{column_passes, has_table, is_bigint, takes, condition_fits, projection_fits, literals_fit, source_fits, assignment_fits, assigns_once, fits}
use Rattle.sqltext.specs.declared.token.Token.{Token}
use Rattle.sqltext.specs.declared.tree.Name.{Name}
use Rattle.sqltext.specs.declared.tree.Literal.{Literal}
use Rattle.sqltext.specs.declared.tree.Literal.TheVariants as l
use Rattle.sqltext.specs.declared.tree.Test.{Test}
use Rattle.sqltext.specs.declared.tree.Test.TheVariants as test
use Rattle.sqltext.specs.declared.tree.Setting.{Setting}
use Rattle.sqltext.specs.declared.tree.Setting.TheVariants as set
use Rattle.sqltext.specs.declared.tree.Shown.{Shown}
use Rattle.sqltext.specs.declared.tree.Shown.TheVariants as shown
use Rattle.sqltext.specs.declared.tree.Tree.{Tree}
use Rattle.sqltext.specs.declared.tree.Tree.TheVariants as tree
use Rattle.sqltext.specs.Tokens.{tokens}
use Rattle.sqltext.specs.Grammar.{whole}
use Rattle.sqltext.specs.Source.{bytes_of, unquoted, in_small_letters}
use Rattle.sqltext.specs.Reading.{◌>>=◌}
use Rattle.sqltext.specs.Resolving.{refused, with_kind, column, place_of, table, each, at_token, require_bigint, addend, value_of, number, content, value, condition, projection, values, inserted, target, sum, assignment, assignments, resolved}
use Rattle.sqltext.specs.Parsed.{parsed, parsed_small}

-- ---- steps that did not fail

abbrev done : {A E : Type 0} → A → Result A E
done x = Ok x

abbrev failed : {A E : Type 0} → E → Result A E
failed e = Err e

pub done_same : {A E : Type 0} (x y : A) → done {A = A} {E = E} x ≡ done y → x ≡ y
done_same x y e = cc

pub not_done : {A E : Type 0} (e : E) (y : A) → failed {A = A} {E = E} e ≡ done y → ⊥
not_done e y h = cc

pub bind_ok : {A B : Type 0} (r : Result A Refusal) (f : A → Result B Refusal) (y : B) → (r >>= f) ≡ Ok y → (x : A) × (r ≡ Ok x) × (f x ≡ Ok y)
bind_ok (Ok x) f y e = (x, refl, e)
bind_ok (Err r) f y e = absurd (not_done r y e)

-- ---- values

null_fits : (A : Type 0) (k : Kind) → has_kind {A = A} k Null ≡ true
null_fits A of.Bigint = refl
null_fits A of.Text = refl
null_fits A of.Bytea = refl

module _ {A : Type 0} where
  at_token_ok : (t : Token) (r : Result (Value A) Code) (v : Value A) → at_token t r ≡ Ok v → r ≡ Ok v
  at_token_ok t (Ok w) v h = ap (λ (x : Value A). done {E = Code} x) (done_same {E = Refusal} w v h)
  at_token_ok t (Err code) v h = absurd (not_done {A = Value A} (refused code t) v h)

  value_of_fits : (k : Kind) (bytes : List ℕ) (t : Token) (v : Value A) → value_of k bytes t ≡ Ok v → has_kind k v ≡ true
  unfolding value_of
  value_of_fits k bytes t v h = literal_fits k bytes v (at_token_ok t (literal_of k bytes) v h)

  number_fits : (k : Kind) (bytes : List ℕ) (t : Token) (v : Value A) → number k bytes t ≡ Ok v → has_kind k v ≡ true
  unfolding number
  number_fits of.Bigint bytes t v h = value_of_fits of.Bigint bytes t v h
  number_fits of.Text bytes t v h = absurd (not_done {A = Value A} (refused DatatypeMismatch t) v h)
  number_fits of.Bytea bytes t v h = absurd (not_done {A = Value A} (refused DatatypeMismatch t) v h)

  content_fits : (k : Kind) (text : List ℕ) (t : Token) (v : Value A) → content k text t ≡ Ok v → has_kind k v ≡ true
  unfolding content
  content_fits of.Bigint text t v h = absurd (not_done {A = Value A} (refused DatatypeMismatch t) v h)
  content_fits of.Text text t v h = value_of_fits of.Text (unquoted (bytes_of t text)) t v h
  content_fits of.Bytea text t v h = value_of_fits of.Bytea (unquoted (bytes_of t text)) t v h

  value_fits : (text : List ℕ) (k : Kind) (l : Literal) (v : Value A) → value text k l ≡ Ok v → has_kind k v ≡ true
  unfolding value
  value_fits text k (l.Null t) v h = subst (λ (w : Value A). has_kind k w ≡ true) (done_same {E = Refusal} Null v h) (null_fits A k)
  value_fits text k (l.Number t) v h = number_fits k (bytes_of t text) t v h
  value_fits text k (l.Signed s t) v h = number_fits k (bytes_of s text ++ bytes_of t text) s v h
  value_fits text k (l.Quoted t) v h = content_fits k text t v h

-- ---- columns

-- a column that was found, and its kind
pub record IsColumn (columns : List Column) (found : ℕ × Kind) : Type 0 where
  pub column : Column
  pub there : slice_get columns found.0 ≡ Some column
  pub kind : column.kind ≡ found.1

found_at : (columns : List Column) (n : ℕ) (o : Option Column) (found : ℕ × Kind) (r : Refusal) → slice_get columns n ≡ o
    → option_map_or (λ x. done x) (option_map_or (λ (d : Column). Some (n, d.kind)) o None) (failed r) ≡ Ok found → IsColumn columns found
found_at columns n (Some d) found r is h =
    let same : (n, d.kind) ≡ found = done_same {E = Refusal} (n, d.kind) found h in
    subst (λ (x : ℕ × Kind). IsColumn columns x) same (record { column = d; there = is; kind = refl })
found_at columns n None found r is h = absurd (not_done {A = ℕ × Kind} r found h)

found_in : (columns : List Column) (o : Option ℕ) (found : ℕ × Kind) (r : Refusal)
    → option_map_or (λ x. done x) (with_kind columns o) (failed r) ≡ Ok found → IsColumn columns found
found_in columns (Some n) found r h = found_at columns n (slice_get columns n) found r refl h
found_in columns None found r h = absurd (not_done {A = ℕ × Kind} r found h)

column_found : (columns : List Column) (text : List ℕ) (name : Name) (found : ℕ × Kind) → column columns text name ≡ Ok found → IsColumn columns found
unfolding column
column_found columns text name found h = found_in columns (column_named columns (bytes_of name.0 text)) found (refused UndefinedColumn name.0) h

-- what holds of the column holds at its place
passes : (columns : List Column) (found : ℕ × Kind) (test : Column → Bool) (c : IsColumn columns found) → test c.column ≡ true → column_passes test columns found.0 ≡ true
passes columns found test c h = rw c.there h

module _ {A : Type 0} where
  taken : (columns : List Column) (found : ℕ × Kind) (c : IsColumn columns found) (text : List ℕ) (l : Literal) (v : Value A) → value text found.1 l ≡ Ok v → takes v c.column ≡ true
  taken columns found c text l v h = rw c.kind (value_fits text found.1 l v h)

  -- ---- conditions

  condition_is_fit : (columns : List Column) (text : List ℕ) (t : Test) (x : Condition A) → condition columns text t ≡ Ok x → condition_fits columns x ≡ true
  unfolding condition
  condition_is_fit columns text (test.Compare name how literal) x h =
      let a = bind_ok (column columns text name) (λ found. value text found.1 literal >>= λ v. Ok (c.Compare found.0 how v)) x h in
      let b = bind_ok (value text a.0.1 literal) (λ v. Ok (c.Compare a.0.0 how v)) x a.2 in
      let col = column_found columns text name a.0 a.1 in
      subst (λ (y : Condition A). condition_fits columns y ≡ true) (done_same {E = Refusal} (c.Compare a.0.0 how b.0) x b.2)
      (passes columns a.0 (takes b.0) col (taken columns a.0 col text literal b.0 b.1))
  condition_is_fit columns text (test.Between name low high) x h =
      let a = bind_ok (column columns text name) (λ found. value text found.1 low >>= λ v. value text found.1 high >>= λ w. Ok (c.Between found.0 v w)) x h in
      let b = bind_ok (value text a.0.1 low) (λ v. value text a.0.1 high >>= λ w. Ok (c.Between a.0.0 v w)) x a.2 in
      let d = bind_ok (value text a.0.1 high) (λ w. Ok (c.Between a.0.0 b.0 w)) x b.2 in
      let col = column_found columns text name a.0 a.1 in
      subst (λ (y : Condition A). condition_fits columns y ≡ true) (done_same {E = Refusal} (c.Between a.0.0 b.0 d.0) x d.2)
      (passes columns a.0 (λ e. takes b.0 e && takes d.0 e) col (both_true (taken columns a.0 col text low b.0 b.1) (taken columns a.0 col text high d.0 d.1)))
  condition_is_fit columns text (test.IsNull name) x h =
      let a = bind_ok (column columns text name) (λ found. Ok (c.IsNull found.0)) x h in
      subst (λ (y : Condition A). condition_fits columns y ≡ true) (done_same {E = Refusal} (c.IsNull a.0.0) x a.2)
      (passes columns a.0 (λ e. true) (column_found columns text name a.0 a.1) refl)
  condition_is_fit columns text (test.IsNotNull name) x h =
      let a = bind_ok (column columns text name) (λ found. Ok (c.IsNotNull found.0)) x h in
      subst (λ (y : Condition A). condition_fits columns y ≡ true) (done_same {E = Refusal} (c.IsNotNull a.0.0) x a.2)
      (passes columns a.0 (λ e. true) (column_found columns text name a.0 a.1) refl)

-- what each step gives passes a test
each_passes : {X Y : Type 0} (step : X → Result Y Refusal) (test : Y → Bool) → ((x : X) (y : Y) → step x ≡ Ok y → test y ≡ true)
    → (xs : List X) (ys : List Y) → each step xs ≡ Ok ys → list_all test ys ≡ true
unfolding each
each_passes {Y = Y} step test good [] ys h = subst (λ (zs : List Y). list_all test zs ≡ true) (done_same {E = Refusal} [] ys h) refl
each_passes {Y = Y} step test good (x ∷ xs) ys h =
    let a = bind_ok (step x) (λ y. each step xs >>= λ more. Ok (y ∷ more)) ys h in
    let b = bind_ok (each step xs) (λ more. Ok (a.0 ∷ more)) ys a.2 in
    subst (λ (zs : List Y). list_all test zs ≡ true) (done_same {E = Refusal} (a.0 ∷ b.0) ys b.2)
    (both_true (good x a.0 a.1) (each_passes step test good xs b.0 b.1))

place_is_fit : (columns : List Column) (text : List ℕ) (name : Name) (n : ℕ) → place_of columns text name ≡ Ok n → column_passes (λ d. true) columns n ≡ true
unfolding place_of
place_is_fit columns text name n h =
    let a = bind_ok (column columns text name) (λ found. Ok found.0) n h in
    subst (λ (m : ℕ). column_passes (λ d. true) columns m ≡ true) (done_same {E = Refusal} a.0.0 n a.2)
    (passes columns a.0 (λ d. true) (column_found columns text name a.0 a.1) refl)

bigint_is : (k : Kind) (name : Name) (u : Unit {0}) → require_bigint k name ≡ Ok u → is_bigint k ≡ true
bigint_is of.Bigint name u h = refl
bigint_is of.Text name u h = absurd (not_done {A = Unit {0}} (refused DatatypeMismatch name.0) u h)
bigint_is of.Bytea name u h = absurd (not_done {A = Unit {0}} (refused DatatypeMismatch name.0) u h)

not_zero : (n : ℕ) → (n == 0) ≡ false → nat_lt 0 n ≡ true
not_zero n h = grind (arith, nat_tests)

found_table : (catalog : Catalog) (o : Option ℕ) (t : ℕ) (r : Refusal) → option_map_or (λ n. done n) o (failed r) ≡ Ok t → o ≡ Some t
found_table catalog (Some n) t r h = ap (λ (m : ℕ). Some m) (done_same {E = Refusal} n t h)
found_table catalog None t r h = absurd (not_done {A = ℕ} r t h)

table_is_there : (catalog : Catalog) (text : List ℕ) (name : Name) (t : ℕ) → table catalog text name ≡ Ok t → has_table catalog t ≡ true
unfolding table
table_is_there catalog text name t h =
    let word = bytes_of name.0 text in
    let found = found_table catalog (table_named catalog word) t (refused UndefinedTable name.0) h in
    let none : TableSchema = record { name = []; columns = [] } in
    let lt : t < length catalog = (position-Some (λ d. bytes_eq word d.name) catalog t none found).0 in
    grind (arith, nat_tests)

module _ {A : Type 0} where
  -- ---- what is shown

  projection_is_fit : (columns : List Column) (text : List ℕ) (what : Shown A) (x : Projection A) → projection columns text what ≡ Ok x → projection_fits columns x ≡ true
  unfolding projection
  projection_is_fit columns text shown.All x h = subst (λ (y : Projection A). projection_fits columns y ≡ true) (done_same {E = Refusal} p.All x h) refl
  projection_is_fit columns text shown.Count x h = subst (λ (y : Projection A). projection_fits columns y ≡ true) (done_same {E = Refusal} p.Count x h) refl
  projection_is_fit columns text (shown.Columns names) x h =
      let a = bind_ok (each (place_of columns text) names) (λ places. Ok (p.Columns places)) x h in
      subst (λ (y : Projection A). projection_fits columns y ≡ true) (done_same {E = Refusal} (p.Columns a.0) x a.2)
      (each_passes (place_of columns text) (column_passes (λ d. true) columns) (place_is_fit columns text) names a.0 a.1)

  -- ---- the literals of an INSERT

  values_are_fit : (text : List ℕ) (columns : List Column) (literals : List Literal) (vs : List (Value A)) → length literals ≡ length columns
      → values text columns literals ≡ Ok vs → literals_fit columns vs ≡ true
  unfolding values
  values_are_fit text [] [] vs len h = subst (λ (ws : List (Value A)). literals_fit [] ws ≡ true) (done_same {E = Refusal} [] vs h) refl
  values_are_fit text (d ∷ columns) [] vs len h = absurd (omega arith)
  values_are_fit text [] (x ∷ literals) vs len h = absurd (omega arith)
  values_are_fit text (d ∷ columns) (x ∷ literals) vs len h =
      let a = bind_ok (value text d.kind x) (λ v. values text columns literals >>= λ more. Ok (v ∷ more)) vs h in
      let b = bind_ok (values text columns literals) (λ more. Ok (a.0 ∷ more)) vs a.2 in
      subst (λ (ws : List (Value A)). literals_fit (d ∷ columns) ws ≡ true) (done_same {E = Refusal} (a.0 ∷ b.0) vs b.2)
      (both_true (value_fits text d.kind x a.0 a.1) (values_are_fit text columns literals b.0 (omega arith) b.1))

  inserted_fits : (columns : List Column) (text : List ℕ) (word : Token) (literals : List Literal) (vs : List (Value A))
      → inserted columns text word literals ≡ Ok vs → literals_fit columns vs ≡ true
  unfolding inserted
  inserted_fits columns text word literals vs h = go (length literals == length columns) refl h
    where
      go : (same : Bool) → (length literals == length columns) ≡ same → cond same (values text columns literals) (Err (refused SyntaxError word)) ≡ Ok vs → literals_fit columns vs ≡ true
      go true is k = values_are_fit text columns literals vs (eqb-true (length literals) (length columns) is) k
      go false is k = absurd (not_done {A = List (Value A)} (refused SyntaxError word) vs k)

  -- ---- assignments

  -- the column that is assigned isn't the key, and wasn't assigned before
  record IsTarget (columns : List Column) (before : List (Assignment A)) (found : ℕ × Kind) : Type 0 where
    column : IsColumn columns found
    not_key : (found.0 == 0) ≡ false
    first : is_assigned before found.0 ≡ false

  target_is : (columns : List Column) (text : List ℕ) (before : List (Assignment A)) (name : Name) (found : ℕ × Kind)
      → target columns text before name ≡ Ok found → IsTarget columns before found
  unfolding target
  target_is columns text before name found h =
      let a = bind_ok (column columns text name) (λ x. cond (x.0 == 0 || is_assigned before x.0) (Err (refused SyntaxError name.0)) (Ok x)) found h in
      go a.0 (column_found columns text name a.0 a.1) (a.0.0 == 0) (is_assigned before a.0.0) refl refl a.2
    where
      go : (x : ℕ × Kind) → IsColumn columns x → (key again : Bool) → (x.0 == 0) ≡ key → is_assigned before x.0 ≡ again
          → cond (key || again) (Err (refused SyntaxError name.0)) (done x) ≡ Ok found → IsTarget columns before found
      go x col false false is-key is-again k = subst (λ (y : ℕ × Kind). IsTarget columns before y) (done_same {E = Refusal} x found k) (record { column = col; not_key = is-key; first = is-again })
      go x col false true is-key is-again k = absurd (not_done {A = ℕ × Kind} (refused SyntaxError name.0) found k)
      go x col true again is-key is-again k = absurd (not_done {A = ℕ × Kind} (refused SyntaxError name.0) found k)

  -- the sum's column is of numbers
  sum_is : (columns : List Column) (text : List ℕ) (operand : Name) (sign digits : Token) (x : Source A) → sum columns text operand sign digits ≡ Ok x
      → (d : Column) → is_bigint d.kind ≡ true → source_fits columns x d ≡ true
  unfolding sum
  sum_is columns text operand sign digits x h d number =
      let a = bind_ok (column columns text operand) (λ found. require_bigint found.1 operand >>= λ fits. addend text sign digits >>= λ n. Ok (s.Sum found.0 n)) x h in
      let b = bind_ok (require_bigint a.0.1 operand) (λ fits. addend text sign digits >>= λ n. Ok (s.Sum a.0.0 n)) x a.2 in
      let e = bind_ok (addend text sign digits) (λ n. Ok (s.Sum a.0.0 n)) x b.2 in
      let col = column_found columns text operand a.0 a.1 in
      let big : is_bigint col.column.kind ≡ true = rw col.kind (bigint_is a.0.1 operand b.0 b.1) in
      subst (λ (y : Source A). source_fits columns y d ≡ true) (done_same {E = Refusal} (s.Sum a.0.0 e.0) x e.2)
      (both_true number (passes columns a.0 (λ f. is_bigint f.kind) col big))

  record IsAssignment (columns : List Column) (before : List (Assignment A)) (x : Assignment A) : Type 0 where
    fits : assignment_fits columns x ≡ true
    first : is_assigned before x.column ≡ false

  assignment_is : (columns : List Column) (text : List ℕ) (before : List (Assignment A)) (t : Setting) (x : Assignment A)
      → assignment columns text before t ≡ Ok x → IsAssignment columns before x
  unfolding assignment
  assignment_is columns text before (set.Literal name literal) x h =
      let a = bind_ok (target columns text before name) (λ found. value text found.1 literal >>= λ v. Ok (record { column = found.0; source = s.Literal v })) x h in
      let b = bind_ok (value text a.0.1 literal) (λ v. Ok (record { column = a.0.0; source = s.Literal v })) x a.2 in
      let t = target_is columns text before name a.0 a.1 in
      let made : Assignment A = record { column = a.0.0; source = s.Literal b.0 } in
      subst (λ (y : Assignment A). IsAssignment columns before y) (done_same {E = Refusal} made x b.2) (record {
        fits = both_true (not_zero a.0.0 t.not_key) (passes columns a.0 (source_fits columns (s.Literal b.0)) t.column (taken columns a.0 t.column text literal b.0 b.1));
        first = t.first;
      })
  assignment_is columns text before (set.Sum name operand sign digits) x h =
      let a = bind_ok (target columns text before name) (λ found. require_bigint found.1 name >>= λ fits. sum columns text operand sign digits >>= λ source. Ok (record { column = found.0; source = source })) x h in
      let b = bind_ok (require_bigint a.0.1 name) (λ fits. sum columns text operand sign digits >>= λ source. Ok (record { column = a.0.0; source = source })) x a.2 in
      let e = bind_ok (sum columns text operand sign digits) (λ source. Ok (record { column = a.0.0; source = source })) x b.2 in
      let t = target_is columns text before name a.0 a.1 in
      let made : Assignment A = record { column = a.0.0; source = e.0 } in
      let big : is_bigint t.column.column.kind ≡ true = rw t.column.kind (bigint_is a.0.1 name b.0 b.1) in
      subst (λ (y : Assignment A). IsAssignment columns before y) (done_same {E = Refusal} made x e.2) (record {
        fits = both_true (not_zero a.0.0 t.not_key) (passes columns a.0 (source_fits columns e.0) t.column (sum_is columns text operand sign digits e.0 e.1 t.column.column big));
        first = t.first;
      })

  -- a column that was assigned before isn't assigned again
  avoided : (columns : List Column) (text : List ℕ) (before : List (Assignment A)) (ts : List Setting) (xs : List (Assignment A)) (n : ℕ)
      → assignments columns text before ts ≡ Ok xs → is_assigned before n ≡ true → is_assigned xs n ≡ false
  unfolding assignments
  avoided columns text before [] xs n h again = subst (λ (ys : List (Assignment A)). is_assigned ys n ≡ false) (done_same {E = Refusal} [] xs h) refl
  avoided columns text before (t ∷ ts) xs n h again =
      let a = bind_ok (assignment columns text before t) (λ y. assignments columns text (before ++ y ∷ []) ts >>= λ more. Ok (y ∷ more)) xs h in
      let b = bind_ok (assignments columns text (before ++ a.0 ∷ []) ts) (λ more. Ok (a.0 ∷ more)) xs a.2 in
      let i = assignment_is columns text before t a.0 a.1 in
      let other : (a.0.column == n) ≡ false = differs a.0.column (a.0.column == n) refl i.first in
      let later : is_assigned (before ++ a.0 ∷ []) n ≡ true = list_any-append (λ y. y.column == n) before (a.0 ∷ []) ∙ rw again refl in
      subst (λ (ys : List (Assignment A)). is_assigned ys n ≡ false) (done_same {E = Refusal} (a.0 ∷ b.0) xs b.2)
      (rw other (avoided columns text (before ++ a.0 ∷ []) ts b.0 n b.1 later))
    where
      differs : (m : ℕ) (same : Bool) → (m == n) ≡ same → is_assigned before m ≡ false → (m == n) ≡ false
      differs m false is first = is
      differs m true is first = let e : m ≡ n = eqb-true m n is in absurd (true≢false (sym again ∙ ap (is_assigned before) (sym e) ∙ first))

  assignments_are_fit : (columns : List Column) (text : List ℕ) (before : List (Assignment A)) (ts : List Setting) (xs : List (Assignment A))
      → assignments columns text before ts ≡ Ok xs → (list_all (assignment_fits columns) xs ≡ true) × (assigns_once xs ≡ true)
  unfolding assignments
  assignments_are_fit columns text before [] xs h =
      subst (λ (ys : List (Assignment A)). (list_all (assignment_fits columns) ys ≡ true) × (assigns_once ys ≡ true)) (done_same {E = Refusal} [] xs h) (refl, refl)
  assignments_are_fit columns text before (t ∷ ts) xs h =
      let a = bind_ok (assignment columns text before t) (λ y. assignments columns text (before ++ y ∷ []) ts >>= λ more. Ok (y ∷ more)) xs h in
      let b = bind_ok (assignments columns text (before ++ a.0 ∷ []) ts) (λ more. Ok (a.0 ∷ more)) xs a.2 in
      let i = assignment_is columns text before t a.0 a.1 in
      let rest = assignments_are_fit columns text (before ++ a.0 ∷ []) ts b.0 b.1 in
      let itself : is_assigned (before ++ a.0 ∷ []) a.0.column ≡ true = list_any-append (λ y. y.column == a.0.column) before (a.0 ∷ []) ∙ rw (eqb-self a.0.column) (or_true (is_assigned before a.0.column)) in
      let once : is_assigned b.0 a.0.column ≡ false = avoided columns text (before ++ a.0 ∷ []) ts b.0 a.0.column b.1 itself in
      subst (λ (ys : List (Assignment A)). (list_all (assignment_fits columns) ys ≡ true) × (assigns_once ys ≡ true)) (done_same {E = Refusal} (a.0 ∷ b.0) xs b.2)
      (both_true i.fits rest.0, both_true (rw once refl) rest.1)
    where
      or_true : (x : Bool) → (x || true) ≡ true
      or_true true = refl
      or_true false = refl

  -- ---- statements

  pub resolved_fits : (catalog : Catalog) (text : List ℕ) (what : Tree A) (q : Statement A) → resolved catalog text what ≡ Ok q → fits catalog q ≡ true
  unfolding resolved
  resolved_fits catalog text (tree.Select what name tests) x h =
      let a = bind_ok (table catalog text name) (λ t. projection (columns_of catalog t) text what >>= λ shown. each (condition (columns_of catalog t) text) tests >>= λ conditions. Ok (q.Select t shown conditions)) x h in
      let columns = columns_of catalog a.0 in
      let b = bind_ok (projection columns text what) (λ shown. each (condition columns text) tests >>= λ conditions. Ok (q.Select a.0 shown conditions)) x a.2 in
      let e = bind_ok (each (condition columns text) tests) (λ conditions. Ok (q.Select a.0 b.0 conditions)) x b.2 in
      subst (λ (y : Statement A). fits catalog y ≡ true) (done_same {E = Refusal} (q.Select a.0 b.0 e.0) x e.2)
      (both_true (both_true (table_is_there catalog text name a.0 a.1) (projection_is_fit columns text what b.0 b.1)) (each_passes (condition columns text) (condition_fits columns) (condition_is_fit columns text) tests e.0 e.1))
  resolved_fits catalog text (tree.Insert name word literals) x h =
      let a = bind_ok (table catalog text name) (λ t. inserted (columns_of catalog t) text word literals >>= λ vs. Ok (q.Insert t vs)) x h in
      let columns = columns_of catalog a.0 in
      let b = bind_ok (inserted columns text word literals) (λ vs. Ok (q.Insert a.0 vs)) x a.2 in
      subst (λ (y : Statement A). fits catalog y ≡ true) (done_same {E = Refusal} (q.Insert a.0 b.0) x b.2)
      (both_true (table_is_there catalog text name a.0 a.1) (inserted_fits columns text word literals b.0 b.1))
  resolved_fits catalog text (tree.Update name settings tests) x h =
      let a = bind_ok (table catalog text name) (λ t. assignments (columns_of catalog t) text [] settings >>= λ more. each (condition (columns_of catalog t) text) tests >>= λ conditions. Ok (q.Update t more conditions)) x h in
      let columns = columns_of catalog a.0 in
      let b = bind_ok (assignments columns text [] settings) (λ more. each (condition columns text) tests >>= λ conditions. Ok (q.Update a.0 more conditions)) x a.2 in
      let e = bind_ok (each (condition columns text) tests) (λ conditions. Ok (q.Update a.0 b.0 conditions)) x b.2 in
      let set = assignments_are_fit columns text [] settings b.0 b.1 in
      subst (λ (y : Statement A). fits catalog y ≡ true) (done_same {E = Refusal} (q.Update a.0 b.0 e.0) x e.2)
      (both_true (both_true (both_true (table_is_there catalog text name a.0 a.1) set.0) set.1) (each_passes (condition columns text) (condition_fits columns) (condition_is_fit columns text) tests e.0 e.1))
  resolved_fits catalog text (tree.Delete name tests) x h =
      let a = bind_ok (table catalog text name) (λ t. each (condition (columns_of catalog t) text) tests >>= λ conditions. Ok (q.Delete t conditions)) x h in
      let columns = columns_of catalog a.0 in
      let b = bind_ok (each (condition columns text) tests) (λ conditions. Ok (q.Delete a.0 conditions)) x a.2 in
      subst (λ (y : Statement A). fits catalog y ≡ true) (done_same {E = Refusal} (q.Delete a.0 b.0) x b.2)
      (both_true (table_is_there catalog text name a.0 a.1) (each_passes (condition columns text) (condition_fits columns) (condition_is_fit columns text) tests b.0 b.1))

  pub parsed_fits : (catalog : Catalog) (text : List ℕ) (q : Statement A) → parsed catalog text ≡ Ok q → fits catalog q ≡ true
  unfolding parsed parsed_small
  parsed_fits catalog text x h = go (nat_lt 65536 (length text)) h
    where
      go : (long : Bool) → cond long (failed (of_code ProgramLimitExceeded)) (parsed_small {A = A} catalog (in_small_letters false text)) ≡ Ok x → fits catalog x ≡ true
      go true k = absurd (not_done {A = Statement A} (of_code ProgramLimitExceeded) x k)
      go false k =
          let small = in_small_letters false text in
          let a = bind_ok (whole {A = A} (tokens small)) (λ what. resolved catalog small what) x k in
          resolved_fits catalog small a.0 x a.2
