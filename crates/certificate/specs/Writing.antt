-- The text of a certificate (this project's own format).
use Rattle.std.specs.Prelude.{ℕ, ◌+◌, ◌-◌, ◌^◌, min, List, [], ◌++◌, codes, decimal, Option, Some, None}
use Rattle.std.specs.List.{flat_map}
use Rattle.value.specs.declared.value.Value.{Value}
use Rattle.copytext.specs.Writing.{field_text}
use Rattle.certificate.specs.Knowledge.{Cell}
use Rattle.certificate.specs.declared.certificate.Assumption.{Assumption}
use Rattle.certificate.specs.declared.certificate.Assumption.TheVariants.{Before, Present, Absent}
use Rattle.certificate.specs.declared.certificate.Line.{Line}
use Rattle.certificate.specs.declared.certificate.Line.TheVariants as line
use Rattle.certificate.specs.declared.known.Spot.{Spot}
use Rattle.certificate.specs.Names.{Naming, number_at, table_name, column_name}

-- the number, counted from 1, of what is at a place, as far as 64 bits hold it
abbrev pub count : ℕ → List ℕ
count w = decimal (min (w + 1) (2 ^ 64 - 1))

-- the number of a transaction
abbrev pub party : Naming → ℕ → List ℕ
party n x = decimal (number_at n x)

abbrev pub pair_text : Naming → ℕ → ℕ → List ℕ
pair_text n x y = party n x ++ (codes " " ++ party n y)

abbrev pub assumption_text : Naming → Assumption → List ℕ
assumption_text n (Before x y) = codes "before " ++ pair_text n x y
assumption_text n (Present x) = codes "present " ++ party n x
assumption_text n (Absent x) = codes "absent " ++ party n x

module _ {A : Type 0} where
  -- what a row of a key has in a column, behind the key; nothing where the row isn't there
  abbrev pub state_text : Option (Value A) → List ℕ
  state_text None = []
  state_text (Some v) = codes "\t" ++ field_text v

  -- a table and a key
  abbrev pub spot_text : Naming → Spot A → List ℕ
  spot_text n s = codes " " ++ (table_name n s.table ++ (codes " | " ++ field_text s.key))

  -- a table, a column and a key
  abbrev pub cell_text : Naming → Cell (Spot A) → List ℕ
  cell_text n c = codes " " ++ (table_name n c.spot.table ++ (codes " " ++ (column_name n c.spot.table c.column ++ (codes " | " ++ field_text c.spot.key))))

  -- a line, without its newline
  abbrev pub line_text : Naming → Line A → List ℕ
  line_text n (line.Joined x y z) = codes "joined " ++ (pair_text n x y ++ (codes " " ++ party n z))
  line_text n (line.Source x y c) = codes "source " ++ (pair_text n x y ++ cell_text n c)
  line_text n (line.Later x y c) = codes "later " ++ (pair_text n x y ++ cell_text n c)
  line_text n (line.Earlier x y z c) = codes "earlier " ++ (pair_text n x y ++ (codes " " ++ (party n z ++ cell_text n c)))
  line_text n (line.Common x y c) = codes "common " ++ (pair_text n x y ++ cell_text n c)
  line_text n (line.Needless x c w) = codes "needless " ++ (party n x ++ (codes " " ++ (count w ++ cell_text n c)))
  line_text n (line.Found x c v) = codes "found " ++ (party n x ++ (cell_text n c ++ state_text v))
  line_text n (line.Suppose a) = codes "suppose " ++ assumption_text n a
  line_text n (line.Cycle x y) = codes "cycle " ++ pair_text n x y
  line_text n (line.Sourceless x c) = codes "sourceless " ++ (party n x ++ cell_text n c)
  line_text n (line.Wayless x s) = codes "wayless " ++ (party n x ++ spot_text n s)
  line_text n (line.Overfull x j) = codes "overfull " ++ (party n x ++ (codes " " ++ count j))
  line_text n (line.Lacking x j) = codes "lacking " ++ (party n x ++ (codes " " ++ count j))
  line_text n (line.TooMany x j s w) = codes "too-many " ++ (party n x ++ (codes " " ++ (count j ++ (codes " " ++ (count w ++ spot_text n s)))))
  line_text n (line.TooFew x j s w) = codes "too-few " ++ (party n x ++ (codes " " ++ (count j ++ (codes " " ++ (count w ++ spot_text n s)))))

  -- lines, each with its newline
  abbrev pub lines_text : Naming → List (Line A) → List ℕ
  lines_text n lines = flat_map (λ l. line_text n l ++ codes "\n") lines

  -- the text of a certificate
  abbrev pub certificate_text : Naming → List (Line A) → List ℕ
  certificate_text n lines = codes "-- certificate 1\n" ++ lines_text n lines
