-- What inserting a row into plain tables answers, and what it leaves.
-- Source: PostgreSQL manual, INSERT, constraints and error codes; the order of the refusals is this project's own.
use Rattle.std.specs.Prelude.{ℕ, ◌==◌, nat_lt, Bool, true, false, not, ◌&&◌, if◌then◌else◌, Option, Some, None, is_some, List, [], ◌∷◌, map, slice_set, Result, Ok, Err}
use Rattle.std.specs.List.{list_any, list_all, zip}
use Rattle.std.specs.Str.{is_utf8}
use Rattle.value.specs.declared.kind.Kind.{Kind}
use Rattle.value.specs.declared.kind.Kind.TheVariants as kind
use Rattle.value.specs.declared.value.Value.{Value}
use Rattle.value.specs.declared.value.Value.TheVariants.{Null, Int, Text, Bytes}
use Rattle.value.specs.declared.refusal.Code.{Code}
use Rattle.value.specs.declared.refusal.Code.TheVariants.{DatatypeMismatch, CharacterNotInRepertoire, NotNullViolation, UniqueViolation, ForeignKeyViolation}
use Rattle.schema.specs.Definition.{Column, Catalog, columns_of}
use Rattle.schema.specs.declared.row.Row.{Row}
use Rattle.schema.specs.declared.tables.Tables.{Tables}
use Rattle.schema.specs.Plain.{in_range, is_null, cells, rows_of, row_at, is_there}
use Rattle.schema.specs.Rows.{put_row}

module _ {A : Type 0} where
  -- the tables of a catalog before any row
  abbrev pub empty_tables : Catalog → Tables A
  empty_tables c = map (λ d. []) c

  -- null, or of the kind
  abbrev pub is_of_kind : Kind → Value A → Bool
  is_of_kind k Null = true
  is_of_kind kind.Bigint (Int n) = true
  is_of_kind kind.Text (Text t) = true
  is_of_kind kind.Bytea (Bytes b) = true
  is_of_kind _ _ = false

  -- one value for each column, of its kind
  abbrev pub are_of_kinds : List Column → List (Value A) → Bool
  are_of_kinds [] [] = true
  are_of_kinds (d ∷ ds) (v ∷ vs) = is_of_kind d.kind v && are_of_kinds ds vs
  are_of_kinds _ _ = false

  abbrev pub has_zero_byte : Value A → Bool
  has_zero_byte (Text t) = list_any (λ b. b == 0) t
  has_zero_byte _ = false

  -- what every value of the program is: a number of 64 bits, a text of UTF-8, bytes
  abbrev pub is_made : Value A → Bool
  is_made Null = true
  is_made (Int n) = in_range n
  is_made (Text t) = is_utf8 t
  is_made (Bytes bytes) = list_all (λ b. nat_lt b 256) bytes

  -- a value is null where none may be
  abbrev pub lacks_value : List Column → List (Value A) → Bool
  lacks_value columns values = list_any (λ p. p.0.not_null && is_null p.1) (zip columns values)

  -- a reference names no row
  abbrev pub dangles : Tables A → List Column → List (Value A) → Bool
  dangles X columns values = list_any (λ p. not (is_there X p.0 p.1)) (zip columns values)

  -- why a row isn't inserted: the first of these
  abbrev pub inserting_fault : Catalog → Tables A → ℕ → Row A → Option Code
  inserting_fault c X t row =
      if not (are_of_kinds (columns_of c t) (cells row)) then Some DatatypeMismatch
      else (if list_any has_zero_byte (cells row) then Some CharacterNotInRepertoire
      else (if lacks_value (columns_of c t) (cells row) then Some NotNullViolation
      else (if is_some (row_at X t row.0) then Some UniqueViolation
      else (if dangles X (columns_of c t) (cells row) then Some ForeignKeyViolation
      else None))))

  -- the tables with one row more, or the refusal
  abbrev pub inserted : Catalog → Tables A → ℕ → Row A → Result (Tables A) Code
  inserted c X t row = by_fault (inserting_fault c X t row)
    where
      by_fault : Option Code → Result (Tables A) Code
      by_fault (Some code) = Err code
      by_fault None = Ok (slice_set X t (put_row (rows_of X t) row))
