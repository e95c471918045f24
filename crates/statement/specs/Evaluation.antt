-- What a statement answers on plain tables, what it changes there, and the references of the rows that it writes (PostgreSQL manual, SELECT, INSERT, UPDATE, DELETE, "Constraints" and the names of SQLSTATEs; which fault comes first is this project's choice).
use Rattle.std.specs.Prelude.{ℕ, zero, suc, ℤ, pos, ◌+ℤ◌, ◌==◌, Bool, true, false, not, ◌&&◌, ◌||◌, if◌then◌else◌, Option, Some, None, is_some, List, [], ◌∷◌, length, map, slice_set}
use Rattle.std.specs.List.{list_any}
use Rattle.std.specs.Option.{option_map_or}
use Rattle.value.specs.declared.value.Value.{Value}
use Rattle.value.specs.declared.value.Value.TheVariants.{Null, Int}
use Rattle.value.specs.declared.refusal.Code.{Code}
use Rattle.value.specs.declared.refusal.Code.TheVariants as code
use Rattle.value.specs.declared.refusal.Place.{Place}
use Rattle.value.specs.declared.refusal.Place.TheVariants as place
use Rattle.value.specs.declared.refusal.Refusal.{Refusal}
use Rattle.value.specs.Isolation.{first_some}
use Rattle.schema.specs.Definition.{Column, Catalog}
use Rattle.schema.specs.declared.row.Row.{Row}
use Rattle.schema.specs.declared.changes.Change.{Change}
use Rattle.schema.specs.declared.tables.Tables.{Tables}
use Rattle.schema.specs.Plain.{is_null, cells, field, row_at, columns_of, put_all, in_range, is_there}
use Rattle.statement.specs.declared.condition.Comparison.TheVariants as is
use Rattle.statement.specs.declared.statement.Projection.{Projection}
use Rattle.statement.specs.declared.statement.Projection.TheVariants.{All, Count, Columns}
use Rattle.statement.specs.declared.statement.Source.{Source}
use Rattle.statement.specs.declared.statement.Source.TheVariants.{Literal, Sum}
use Rattle.statement.specs.declared.statement.Assignment.{Assignment}
use Rattle.statement.specs.declared.statement.Statement.{Statement}
use Rattle.statement.specs.declared.statement.Statement.TheVariants.{Select, Insert, Update, Delete}
use Rattle.statement.specs.declared.reply.Reply.{Reply}
use Rattle.statement.specs.declared.reply.Reply.TheVariants.{Inserted, Updated, Deleted, Rows, Refused}
use Rattle.statement.specs.declared.outcome.Outcome.{Outcome}
use Rattle.statement.specs.Conditions.{is_so, chosen}
use Rattle.statement.specs.Marks.{marks_of}

-- a column has REFERENCES to table t
abbrev pub references : ℕ → Column → Bool
references t d = option_map_or (λ u. u == t) d.references false

-- ---- faults

abbrev pub fault : Code → Place → Refusal
fault c p = record { code = c; place = p }

-- a fault at a column, counted from 0 here and from 1 in its place
abbrev pub at_column : Code → Option ℕ → Option Refusal
at_column c None = None
at_column c (Some n) = Some (fault c (place.Column (suc n)))

-- a fault at a table, counted likewise
abbrev pub at_table : Code → Option ℕ → Option Refusal
at_table c None = None
at_table c (Some u) = Some (fault c (place.Table (suc u)))

module _ {A : Type 0} where
  -- the least column whose value is bad, counted from n on
  abbrev pub least_column : (ℕ → Column → Value A → Bool) → ℕ → List Column → List (Value A) → Option ℕ
  least_column bad n (d ∷ ds) (v ∷ vs) = if bad n d v then Some n else least_column bad (suc n) ds vs
  least_column bad n _ _ = None

  -- null where none may be: in the key's column, which is column 0, or in one that is NOT NULL
  abbrev pub lacks_value : ℕ → Column → Value A → Bool
  lacks_value n d v = (n == 0 || d.not_null) && is_null v

  -- a reference to a row that isn't there
  abbrev pub lacks_row : Tables A → ℕ → Column → Value A → Bool
  lacks_row X n d v = not (is_there X d v)

  abbrev pub out_of_range : Value A → Bool
  out_of_range (Int n) = not (in_range n)
  out_of_range _ = false

  -- ---- outcomes

  -- a reply that changes nothing
  abbrev pub answers : Reply A → Outcome A
  answers reply = record { reply = reply; changes = []; marks = [] }

  -- a reply with the rows that are written, and their references in tables X and after
  abbrev pub writes_rows : Catalog → Tables A → Reply A → List (Change A) → Outcome A
  writes_rows c X reply changes = record { reply = reply; changes = changes; marks = marks_of c X changes }

  -- The fault, where there is one, and then nothing changes; or else this.
  infixr 20 ◌or_else◌
  abbrev pub ◌or_else◌ : Option Refusal → Outcome A → Outcome A
  None or_else other = other
  (Some r) or_else other = answers (Refused r)

  -- a row put in, and a key's row taken away
  abbrev pub puts : ℕ → Row A → Change A
  puts t row = record { table = t; key = row.0; fields = Some row.1 }

  abbrev pub removes : ℕ → Row A → Change A
  removes t row = record { table = t; key = row.0; fields = None }

  -- ---- SELECT

  -- the rows that are shown: all columns, those named, or one row with the number of rows
  abbrev pub shown : Projection A → List (Row A) → List (List (Value A))
  shown All rows = map cells rows
  shown Count rows = (Int (pos (length rows)) ∷ []) ∷ []
  shown (Columns ns) rows = map (λ row. map (field row) ns) rows

  -- ---- INSERT

  -- first null where none may be, then a key that is taken, then a reference to a row that isn't there
  abbrev pub inserted : Catalog → ℕ → List (Value A) → Tables A → Outcome A
  inserted c t [] X = answers Inserted
  inserted c t (k ∷ fields) X =
      at_column code.NotNullViolation (least_column lacks_value 0 (columns_of c t) (k ∷ fields))
      or_else at_column code.UniqueViolation (if is_some (row_at X t k) then Some 0 else None)
      or_else at_column code.ForeignKeyViolation (least_column (lacks_row X) 0 (columns_of c t) (k ∷ fields))
      or_else writes_rows c X Inserted (puts t (k, fields) ∷ [])

  -- ---- UPDATE

  -- a number added to a value; null stays null
  abbrev pub added : Value A → ℤ → Value A
  added (Int n) m = Int (n +ℤ m)
  added v m = Null

  -- what an assignment gives, of the row before
  abbrev pub given : Row A → Source A → Value A
  given row (Literal v) = v
  given row (Sum n m) = added (field row n) m

  -- the fields beside the key with one column set; columns count from 0, and the key's is never set
  abbrev pub set_field : ℕ → Value A → List (Value A) → List (Value A)
  set_field zero v fields = fields
  set_field (suc n) v fields = slice_set fields n v

  -- the fields after the assignments, all of which read the row before
  abbrev pub assigned : Row A → List (Assignment A) → List (Value A) → List (Value A)
  assigned row [] fields = fields
  assigned row (a ∷ more) fields = assigned row more (set_field a.column (given row a.source) fields)

  abbrev pub updated_row : List (Assignment A) → Row A → Row A
  updated_row more row = (row.0, assigned row more row.1)

  abbrev pub is_assigned : List (Assignment A) → ℕ → Bool
  is_assigned more n = list_any (λ a. a.column == n) more

  -- The three faults of an assigned column: null where none may be, a sum out of range, a reference to a row that isn't there.
  abbrev pub assigned_lacks_value : List (Assignment A) → ℕ → Column → Value A → Bool
  assigned_lacks_value more n d v = is_assigned more n && lacks_value n d v

  abbrev pub assigned_out_of_range : List (Assignment A) → ℕ → Column → Value A → Bool
  assigned_out_of_range more n d v = is_assigned more n && out_of_range v

  abbrev pub assigned_lacks_row : Tables A → List (Assignment A) → ℕ → Column → Value A → Bool
  assigned_lacks_row X more n d v = is_assigned more n && lacks_row X n d v

  -- the bad column of a stage: of the row with the least key that has one, the least
  abbrev pub first_bad : (ℕ → Column → Value A → Bool) → List Column → List (Row A) → Option ℕ
  first_bad bad columns rows = first_some (λ row. least_column bad 0 columns (cells row)) rows

  -- The stages go over all new rows, one stage after another.
  abbrev pub updated : Catalog → ℕ → List (Assignment A) → List (Row A) → Tables A → Outcome A
  updated c t more rows X =
      at_column code.NotNullViolation (first_bad (assigned_lacks_value more) (columns_of c t) (map (updated_row more) rows))
      or_else at_column code.NumericValueOutOfRange (first_bad (assigned_out_of_range more) (columns_of c t) (map (updated_row more) rows))
      or_else at_column code.ForeignKeyViolation (first_bad (assigned_lacks_row X more) (columns_of c t) (map (updated_row more) rows))
      or_else writes_rows c X (Updated (length rows)) (map (λ row. puts t (updated_row more row)) rows)

  -- ---- DELETE

  -- a value is the key of one of the rows that go
  abbrev pub is_gone : List (Row A) → Value A → Bool
  is_gone gone v = list_any (λ row. is_so row.0 is.Equal v) gone

  -- among the values of a row, one in a column that references t is the key of a row that goes
  abbrev pub names_one : ℕ → List (Row A) → List Column → List (Value A) → Bool
  names_one t gone (d ∷ ds) (v ∷ vs) = (references t d && is_gone gone v) || names_one t gone ds vs
  names_one t gone _ _ = false

  -- the least table, counted from u on, of which a row references a key that goes
  abbrev pub least_table : ℕ → List (Row A) → ℕ → Catalog → Tables A → Option ℕ
  least_table t gone u (d ∷ ds) (rows ∷ more) =
      if list_any (λ row. names_one t gone d.columns (cells row)) rows then Some u else least_table t gone (suc u) ds more
  least_table t gone u _ _ = None

  abbrev pub deleted : Catalog → ℕ → List (Row A) → Tables A → Outcome A
  deleted c t rows X =
      at_table code.ForeignKeyViolation (least_table t rows 0 c X)
      or_else writes_rows c X (Deleted (length rows)) (map (removes t) rows)

  -- ---- any statement

  abbrev pub outcome : Catalog → Statement A → Tables A → Outcome A
  outcome c (Select t p conditions) X = answers (Rows (shown p (chosen X t conditions)))
  outcome c (Insert t values) X = inserted c t values X
  outcome c (Update t more conditions) X = updated c t more (chosen X t conditions) X
  outcome c (Delete t conditions) X = deleted c t (chosen X t conditions) X

  -- the tables after a statement; a fault leaves them as they were
  abbrev pub after : Catalog → Statement A → Tables A → Tables A
  after c q X = put_all (outcome c q X).changes X

  -- all but SELECT may write
  abbrev pub writes : Statement A → Bool
  writes (Select t p conditions) = false
  writes _ = true
