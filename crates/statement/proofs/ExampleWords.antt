-- Words for the worked examples.
use Rattle.std.specs.Prelude.{ℕ, pos, Bool, true, false, Option, Some, None, List, [], ◌∷◌}
use Rattle.value.specs.declared.kind.Kind.TheVariants.{Bigint}
use Rattle.value.specs.declared.value.Value.{Value}
use Rattle.value.specs.declared.value.Value.TheVariants.{Int}
use Rattle.value.specs.declared.refusal.Code.{Code}
use Rattle.value.specs.declared.refusal.Place.{Place}
use Rattle.schema.specs.Definition.{Column, Catalog}
use Rattle.schema.specs.declared.row.Row.{Row}
use Rattle.schema.specs.declared.tables.Tables.{Tables}
use Rattle.statement.specs.declared.condition.Comparison.{Comparison}
use Rattle.statement.specs.declared.condition.Condition.{Condition}
use Rattle.statement.specs.declared.condition.Condition.TheVariants.{Compare}
use Rattle.statement.specs.declared.statement.Source.{Source}
use Rattle.statement.specs.declared.statement.Assignment.{Assignment}
use Rattle.statement.specs.declared.statement.Statement.{Statement}
use Rattle.statement.specs.declared.reply.Reply.{Reply}
use Rattle.statement.specs.declared.reply.Reply.TheVariants.{Refused}
use Rattle.statement.specs.declared.outcome.Mark.{Mark}
use Rattle.statement.specs.declared.reading.Extent.{Extent}
use Rattle.statement.specs.declared.reading.Reading.{Reading}
use Rattle.statement.specs.Evaluation.{outcome, fault}

-- The definitions do not look at the allocator, so any type serves for it.
abbrev pub Anywhere : Type 0
Anywhere = Unit {0}

abbrev pub column : Bool → Option ℕ → Column
column not_null references = record { name = []; kind = Bigint; not_null = not_null; references = references }

abbrev pub plain : Column
plain = column false None

-- p (id bigint PRIMARY KEY), and c (id bigint PRIMARY KEY, p bigint NOT NULL REFERENCES p)
abbrev pub p_and_c : Catalog
p_and_c = record { name = []; columns = plain ∷ [] } ∷ record { name = []; columns = plain ∷ column true (Some 0) ∷ [] } ∷ []

abbrev pub n : ℕ → Value Anywhere
n k = Int (pos k)

-- p with 1 and 2, c with (5, 1) and (6, 2)
abbrev pub two_and_two : Tables Anywhere
two_and_two = ((n 1, []) ∷ (n 2, []) ∷ []) ∷ ((n 5, n 1 ∷ []) ∷ (n 6, n 2 ∷ []) ∷ []) ∷ []

-- t (id bigint PRIMARY KEY, v bigint)
abbrev pub t_alone : Catalog
t_alone = record { name = []; columns = plain ∷ plain ∷ [] } ∷ []

-- the tables with these rows in their only one
abbrev pub holding : List (Row Anywhere) → Tables Anywhere
holding rows = rows ∷ []

-- a condition on the key
abbrev pub key : Comparison → ℕ → Condition Anywhere
key how k = Compare 0 how (n k)

-- one assignment
abbrev pub set : ℕ → Source Anywhere → Assignment Anywhere
set j s = record { column = j; source = s }

abbrev pub refused : Code → Place → Reply Anywhere
refused c p = Refused (fault c p)

abbrev pub reply : Catalog → Statement Anywhere → Tables Anywhere → Reply Anywhere
reply c q X = (outcome c q X).reply

abbrev pub reading : ℕ → Extent Anywhere → Reading Anywhere
reading t e = record { table = t; extent = e }

abbrev pub mark : ℕ → ℕ → ℕ → Mark Anywhere
mark t j k = record { table = t; column = j; key = n k }
