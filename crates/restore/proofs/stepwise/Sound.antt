-- What is read of a dump is sound.
use Rattle.std.proofs.Common.{◌≡◌, ℕ, ◌+◌, ◌==◌, ◌&&◌, Bool, true, false, cond, List, [], ◌∷◌, length, slice_get, slice_set, Option, Some, None, Result, Ok, Err, refl, subst, length-set}
use Rattle.std.proofs.lemmas.Bool.{and_parts}
use Rattle.std.specs.Prelude.{codes}
use Rattle.std.specs.List.{list_all}
use Rattle.std.specs.Str.{bytes_eq}
use Rattle.std.proofs.lemmas.List.{length-map}
use Rattle.value.specs.declared.kind.Kind.{Kind}
use Rattle.value.specs.declared.kind.Kind.TheVariants as of
use Rattle.value.specs.declared.refusal.Code.{Code}
use Rattle.value.specs.declared.refusal.Code.TheVariants.{BadCopyFileFormat}
use Rattle.value.specs.declared.value.Value.{Value}
use Rattle.value.specs.declared.value.Value.TheVariants.{Null, Int, Text, Bytes}
use Rattle.schema.specs.Definition.{TableSchema, Catalog}
use Rattle.schema.specs.declared.tables.Tables.{Tables}
use Rattle.schema.specs.declared.row.Row.{Row}
use Rattle.schema.specs.Inserting.{empty_tables, is_made, inserting_fault, inserted}
use Rattle.schema.specs.Plain.{cells, has_kind, is_null, is_sound, rows_of}
use Rattle.schema.specs.Rows.{put_row}
use Rattle.schema.proofs.InsertingLemmas.{inserted_sound}
use Rattle.copytext.specs.Reading.{cut, content, content_value, field_value, field_values, is_field, is_null_mark, line_values, onto_values}
use Rattle.dumpplan.specs.Lines.{copy_line, end_of_rows, last_line, rows_line}
use Rattle.restore.specs.declared.error.RestoreFault.{RestoreFault}
use Rattle.restore.specs.Steps.{◌>>=◌}
use Rattle.restore.specs.CreateLine.{behind}
use Rattle.restore.specs.Reading.{Progress, Start, Created, Before, Within, Behind, Whole, version, copies, ended, kinds_of, lines_of, with_row, with_table, with_values, whole, after, step, read_lines}
use Rattle.schema.proofs.LiteralLemmas.{literal_fits}
use Rattle.restore.proofs.stepwise.Reading.{done_same, empty_is_sound}
use Rattle.restore.proofs.words.Row.{row_of}

abbrev done : {T E : Type 0} → T → Result T E
done x = Ok x

pub bind_ok : {X Y : Type 0} (r : Result X Code) (f : X → Result Y Code) (y : Y) → (r >>= f) ≡ Ok y → (x : X) × (r ≡ Ok x) × (f x ≡ Ok y)
bind_ok (Ok x) f y e = (x, refl, e)
bind_ok (Err code) f y e = absurd cc

module _ {A : Type 0} where
  -- ---- values

  made_of_kind : (k : Kind) (v : Value A) → has_kind k v ≡ true → is_made v ≡ true
  made_of_kind k Null h = refl
  made_of_kind of.Bigint (Int n) h = h
  made_of_kind of.Text (Int n) h = absurd cc
  made_of_kind of.Bytea (Int n) h = absurd cc
  made_of_kind of.Bigint (Text t) h = absurd cc
  made_of_kind of.Text (Text t) h = (and_parts _ _ h).0
  made_of_kind of.Bytea (Text t) h = absurd cc
  made_of_kind of.Bigint (Bytes b) h = absurd cc
  made_of_kind of.Text (Bytes b) h = absurd cc
  made_of_kind of.Bytea (Bytes b) h = h

  content_made : (k : Kind) (o : Option (List ℕ)) (v : Value A) → content_value k o ≡ Ok v → is_made v ≡ true
  content_made k None v h = absurd cc
  content_made k (Some bytes) v h = made_of_kind k v (literal_fits k bytes v h)

  field_made : (k : Kind) (raw : List ℕ) (v : Value A) → field_value k raw ≡ Ok v → is_made v ≡ true
  field_made k raw v h = go (is_null_mark raw) h
    where
      go : (null : Bool) → cond null (Ok Null) (content_value k (content raw)) ≡ Ok v → is_made v ≡ true
      go true e = subst (λ (w : Value A). is_made w ≡ true) (done_same {E = Code} Null v e) refl
      go false e = content_made k (content raw) v e

  onto_made : (r : Result (Value A) Code) (rs : Result (List (Value A)) Code) (values : List (Value A)) → onto_values r rs ≡ Ok values
      → ((v : Value A) → r ≡ Ok v → is_made v ≡ true) → ((vs : List (Value A)) → rs ≡ Ok vs → list_all is_made vs ≡ true) → list_all is_made values ≡ true
  onto_made (Ok v) (Ok vs) values h one more = subst (λ (ws : List (Value A)). list_all is_made ws ≡ true) (done_same {E = Code} (v ∷ vs) values h) (rw (one v refl, more vs refl) refl)
  onto_made (Ok v) (Err code) values h one more = absurd cc
  onto_made (Err code) rs values h one more = absurd cc

  fields_made : (kinds : List Kind) (fields : List (List ℕ)) (values : List (Value A)) → field_values kinds fields ≡ Ok values → list_all is_made values ≡ true
  fields_made [] fields values h = subst (λ (ws : List (Value A)). list_all is_made ws ≡ true) (done_same {E = Code} [] values h) refl
  fields_made (k ∷ kinds) [] values h = subst (λ (ws : List (Value A)). list_all is_made ws ≡ true) (done_same {E = Code} [] values h) refl
  fields_made (k ∷ kinds) (raw ∷ fields) values h =
      onto_made (field_value k raw) (field_values kinds fields) values h (λ v e. field_made k raw v e) (λ vs e. fields_made kinds fields vs e)

  line_made : (kinds : List Kind) (line : List ℕ) (values : List (Value A)) → line_values kinds line ≡ Ok values → list_all is_made values ≡ true
  line_made kinds line values h = go (list_all is_field (cut line) && (length (cut line) == length kinds)) h
    where
      go : (form : Bool) → cond form (field_values kinds (cut line)) (Err BadCopyFileFormat) ≡ Ok values → list_all is_made values ≡ true
      go true e = fields_made kinds (cut line) values e
      go false e = absurd cc

  -- ---- rows

  -- tables of the catalog, and sound
  pub record Kept (c : Catalog) (X : Tables A) : Type 0 where
    pub count : length X ≡ length c
    pub sound : is_sound c X ≡ true

  inserted_kept : (c : Catalog) (X Y : Tables A) (t : ℕ) (row : Row A) → Kept c X → is_null row.0 ≡ false → list_all is_made (cells row) ≡ true → inserted c X t row ≡ Ok Y → Kept c Y
  inserted_kept c X Y t row kept key made h = go (inserting_fault c X t row) refl
    where
      go : (o : Option Code) → inserting_fault c X t row ≡ o → Kept c Y
      go (Some code) is = absurd (let e = rw is at h in cc)
      go None is =
          subst (λ (Z : Tables A). Kept c Z) (done_same {E = Code} (slice_set X t (put_row (rows_of X t) row)) Y (rw is at h))
          (record { count = simp length-set kept.count; sound = inserted_sound c X t row kept.count key is made kept.sound })

  values_kept : (c : Catalog) (X Y : Tables A) (t : ℕ) (values : List (Value A)) → Kept c X → list_all is_made values ≡ true → with_values c X t values ≡ Ok Y → Kept c Y
  values_kept c X Y t [] kept made h = absurd cc
  values_kept c X Y t (Null ∷ fields) kept made h = absurd cc
  values_kept c X Y t (Int n ∷ fields) kept made h = inserted_kept c X Y t (row_of (Int n) fields) kept refl made h
  values_kept c X Y t (Text x ∷ fields) kept made h = inserted_kept c X Y t (row_of (Text x) fields) kept refl made h
  values_kept c X Y t (Bytes b ∷ fields) kept made h = inserted_kept c X Y t (row_of (Bytes b) fields) kept refl made h

  pub row_kept : (c : Catalog) (X Y : Tables A) (t : ℕ) (line : List ℕ) → Kept c X → with_row c X t line ≡ Ok Y → Kept c Y
  row_kept c X Y t line kept h =
      let b = bind_ok (line_values {A = A} (kinds_of c t) line) (λ values. with_values c X t values) Y h in
      values_kept c X Y t b.0 kept (line_made (kinds_of c t) line b.0 b.1) b.2

  -- ---- lines

  -- what has been read so far is sound
  abbrev IsGood : Progress A → Type 0
  IsGood Start = Unit {0}
  IsGood (Created counted c) = Unit {0}
  IsGood (Before counted c X t) = Kept c X
  IsGood (Within counted c X t) = Kept c X
  IsGood (Behind counted c X t) = Kept c X
  IsGood (Whole c X) = Kept c X

  good_as : (p q : Progress A) → done {E = Code} p ≡ Ok q → IsGood p → IsGood q
  good_as p q e good = subst (λ (r : Progress A). IsGood r) (done_same {E = Code} p q e) good

  test_good : (b : Bool) (p q : Progress A) → IsGood p → cond b (Ok p) (Err BadCopyFileFormat) ≡ Ok q → IsGood q
  test_good true p q good e = good_as p q e good
  test_good false p q good e = absurd cc

  copies_good : (counted : Bool) (c : Catalog) (X : Tables A) (t : ℕ) (o : Option TableSchema) (line : List ℕ) (q : Progress A) → Kept c X → copies counted c X t o line ≡ Ok q → IsGood q
  copies_good counted c X t (Some d) line q kept e = test_good (bytes_eq line (copy_line d)) (Within counted c X t) q kept e
  copies_good counted c X t None line q kept e = test_good (bytes_eq line last_line) (Whole c X) q kept e

  step_good : (p q : Progress A) (line : List ℕ) → IsGood p → step p line ≡ Ok q → IsGood q
  unfolding step
  step_good Start q line good e =
      let b = bind_ok (version line) (λ counted. Ok (Created counted [])) q e in good_as (Created b.0 []) q b.2 tt
  step_good (Created counted c) q line good e = go (behind (codes "CREATE TABLE ") line) refl
    where
      go : (o : Option (List ℕ)) → behind (codes "CREATE TABLE ") line ≡ o → IsGood q
      go (Some text) is = let b = bind_ok (with_table c text) (λ d. Ok (Created counted d)) q (rw is at e) in good_as (Created counted b.0) q b.2 tt
      go None is = copies_good counted c (empty_tables c) 0 (slice_get c 0) line q (record { count = length-map c _; sound = empty_is_sound A c }) (rw is at e)
  step_good (Before counted c X t) q line good e = copies_good counted c X t (slice_get c t) line q good e
  step_good (Within counted c X t) q line good e = go (bytes_eq line end_of_rows) e
    where
      behind_good : (b : Bool) (r : Progress A) → done {E = Code} (ended b c X t) ≡ Ok r → IsGood r
      behind_good true r h = good_as (Behind true c X t) r h good
      behind_good false r h = good_as (Before false c X (t + 1)) r h good

      go : (b : Bool) → cond b (Ok (ended counted c X t)) (with_row c X t line >>= λ Y. Ok (Within counted c Y t)) ≡ Ok q → IsGood q
      go true h = behind_good counted q h
      go false h = let b = bind_ok (with_row c X t line) (λ Y. Ok (Within counted c Y t)) q h in good_as (Within counted c b.0 t) q b.2 (row_kept c X b.0 t line good b.1)
  step_good (Behind counted c X t) q line good e = test_good (bytes_eq line (rows_line (length (rows_of X t)))) (Before counted c X (t + 1)) q good e
  step_good (Whole c X) q line good e = absurd cc

  abbrev read_as : Catalog → Tables A → Result (Catalog × Tables A) RestoreFault
  read_as c X = Ok (c, X)

  whole_good : (n : ℕ) (p : Progress A) (c : Catalog) (X : Tables A) → IsGood p → whole n p ≡ read_as c X → is_sound c X ≡ true
  whole_good n Start c X good e = absurd cc
  whole_good n (Created counted d) c X good e = absurd cc
  whole_good n (Before counted d Y t) c X good e = absurd cc
  whole_good n (Within counted d Y t) c X good e = absurd cc
  whole_good n (Behind counted d Y t) c X good e = absurd cc
  whole_good n (Whole d Y) c X good e =
      let P : Catalog × Tables A → Type 0 = λ x. is_sound x.0 x.1 ≡ true in
      subst P (done_same {E = RestoreFault} (d, Y) (c, X) e) good.sound

  after_good : (n : ℕ) (r : Result (Progress A) Code) (go_on : Progress A → Result (Catalog × Tables A) RestoreFault) (c : Catalog) (X : Tables A)
      → ((q : Progress A) → r ≡ Ok q → IsGood q) → ((q : Progress A) → IsGood q → go_on q ≡ read_as c X → is_sound c X ≡ true) → after n r go_on ≡ read_as c X → is_sound c X ≡ true
  after_good n (Ok q) go_on c X good on e = on q (good q refl) e
  after_good n (Err code) go_on c X good on e = absurd cc

  lines_good : (n : ℕ) (p : Progress A) (lines : List (List ℕ)) (c : Catalog) (X : Tables A) → IsGood p → read_lines n p lines ≡ read_as c X → is_sound c X ≡ true
  unfolding read_lines
  lines_good n p [] c X good e = whole_good n p c X good e
  lines_good n p ([] ∷ []) c X good e = whole_good n p c X good e
  lines_good n p ((b ∷ text) ∷ []) c X good e = absurd cc
  lines_good n p ([] ∷ next ∷ lines) c X good e =
      after_good n (step p []) (λ more. read_lines (n + 1) more (next ∷ lines)) c X (λ q h. step_good p q [] good h) (λ q h. lines_good (n + 1) q (next ∷ lines) c X h) e
  lines_good n p ((b ∷ text) ∷ next ∷ lines) c X good e =
      after_good n (step p (b ∷ text)) (λ more. read_lines (n + 1) more (next ∷ lines)) c X (λ q h. step_good p q (b ∷ text) good h) (λ q h. lines_good (n + 1) q (next ∷ lines) c X h) e

  pub dump_good : (dump : List ℕ) (c : Catalog) (X : Tables A) → read_lines 1 Start (lines_of dump) ≡ read_as c X → is_sound c X ≡ true
  dump_good dump c X e = lines_good 1 Start (lines_of dump) c X tt e
