-- Changes, what takes them back, and transactions that were run alone so that they can be taken back.
use Rattle.std.specs.Prelude.{◌≡◌, ℕ, true, Option, Some, None, List, [], ◌∷◌}
use Rattle.std.specs.FinMap.{is_sorted}
use Rattle.value.specs.Order.{value_cmp}
use Rattle.schema.specs.Definition.{Catalog}
use Rattle.schema.specs.declared.changes.Change.{Change}
use Rattle.schema.specs.declared.tables.Tables.{Tables}
use Rattle.schema.specs.Plain.{put_in, row_at, rows_of}
use Rattle.statement.specs.declared.statement.Statement.{Statement}
use Rattle.statement.specs.declared.reply.Reply.{Reply}
use Rattle.orders.specs.Explains.{alone}

module _ {A : Type 0} where
  -- the keys of each table rise
  abbrev pub AreOrdered : Tables A → Type 0
  AreOrdered X = (t : ℕ) → is_sorted value_cmp (rows_of X t) ≡ true

  -- what the key of a change has before it
  abbrev pub before_of : Change A → Tables A → Change A
  before_of x X = record { table = x.table; key = x.key; fields = row_at X x.table x.key }

  -- the tables with changes put in, the last first
  abbrev pub put_back : List (Change A) → Tables A → Tables A
  put_back [] X = X
  put_back (x ∷ xs) X = put_in x (put_back xs X)

  -- Statements were run alone from X: all got answers that agree, the tables are those after them, and these changes take them back; or one didn't, and the tables are as they were.
  abbrev pub HasRun : Catalog → List (Statement A × Reply A) → Tables A → Option (List (Change A)) → Tables A → Type 0
  HasRun c qs X (Some back) Y = (alone c qs X ≡ Some Y) × (put_back back Y ≡ X)
  HasRun c qs X None Y = (alone c qs X ≡ None) × (Y ≡ X)
