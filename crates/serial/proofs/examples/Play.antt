-- Words for the worked examples.
use Rattle.std.specs.Prelude.{ℕ, pos, false, Option, None, List, [], ◌∷◌, map}
use Rattle.value.specs.declared.kind.Kind.TheVariants.{Bigint}
use Rattle.value.specs.declared.value.Value.{Value}
use Rattle.value.specs.declared.value.Value.TheVariants.{Int}
use Rattle.value.specs.declared.refusal.Mode.TheVariants.{ReadWrite}
use Rattle.value.specs.declared.refusal.Code.{Code}
use Rattle.value.specs.declared.refusal.Place.{Place}
use Rattle.value.specs.declared.refusal.Place.TheVariants as place
use Rattle.schema.specs.Definition.{Column}
use Rattle.schema.specs.Definition.{TableSchema}
use Rattle.schema.specs.Definition.{Catalog}
use Rattle.schema.specs.declared.tables.Tables.{Tables}
use Rattle.statement.specs.declared.condition.Comparison.TheVariants as is
use Rattle.statement.specs.declared.condition.Condition.{Condition}
use Rattle.statement.specs.declared.condition.Condition.TheVariants.{Compare}
use Rattle.statement.specs.declared.statement.Projection.TheVariants.{All}
use Rattle.statement.specs.declared.statement.Source.TheVariants.{Literal}
use Rattle.statement.specs.declared.statement.Statement.{Statement}
use Rattle.statement.specs.declared.statement.Statement.TheVariants.{Select, Insert, Update, Delete}
use Rattle.statement.specs.declared.reply.Reply.{Reply}
use Rattle.statement.specs.declared.reply.Reply.TheVariants.{Refused}
use Rattle.history.specs.declared.event.Action.{Action}
use Rattle.history.specs.declared.event.Action.TheVariants.{Begin, Run, Commit}
use Rattle.history.specs.Opening.{zero_base}
use Rattle.history.specs.Transactions.{World}
use Rattle.history.specs.Events.{start, follows}
use Rattle.history.specs.Serial.{key, serial_order}
use Rattle.history.specs.Answer.{reply_in, of_cause}

-- The definitions do not look at the allocator, so any type serves for it.
abbrev pub Anywhere : Type 0
Anywhere = Unit {0}

abbrev pub bigint : Option ℕ → Column
bigint refs = record { name = []; kind = Bigint; not_null = false; references = refs }

abbrev pub table : List Column → TableSchema
table columns = record { name = []; columns = columns }

-- id bigint PRIMARY KEY, and one more bigint
abbrev pub pairs : TableSchema
pairs = table (bigint None ∷ bigint None ∷ [])

abbrev pub n : ℕ → Value Anywhere
n k = Int (pos k)

abbrev pub pair : ℕ → ℕ → List (Value Anywhere)
pair a b = n a ∷ n b ∷ []

abbrev pub all : ℕ → Statement Anywhere
all t = Select t All []

abbrev pub id_is : ℕ → List (Condition Anywhere)
id_is k = Compare 0 is.Equal (n k) ∷ []

abbrev pub one : ℕ → ℕ → Statement Anywhere
one t k = Select t All (id_is k)

abbrev pub put : ℕ → ℕ → ℕ → Statement Anywhere
put t a b = Insert t (pair a b)

abbrev pub set_v : ℕ → ℕ → ℕ → Statement Anywhere
set_v t k v = Update t (record { column = 1; source = Literal (n v) } ∷ []) (id_is k)

abbrev pub gone : ℕ → ℕ → Statement Anywhere
gone t k = Delete t (id_is k)

abbrev pub fault : Code → Place → Reply Anywhere
fault c p = Refused (record { code = c; place = p })

abbrev pub refused : Code → Reply Anywhere
refused c = fault c place.None

abbrev pub caused : ℕ → ℕ → ℕ → Reply Anywhere
caused a b c = Refused (of_cause (record { a = record { 0 = a }; b = record { 0 = b }; c = record { 0 = c } }))

-- the replies to a list of actions, each of a session
abbrev pub replies : World Anywhere → List (ℕ × Action Anywhere) → List (Reply Anywhere)
replies w [] = []
replies w (e ∷ es) = reply_in w e.0 e.1 ∷ replies (follows w (record { session = e.0; action = e.1; reply = reply_in w e.0 e.1 })) es

abbrev pub world_after : World Anywhere → List (ℕ × Action Anywhere) → World Anywhere
world_after w [] = w
world_after w (e ∷ es) = world_after (follows w (record { session = e.0; action = e.1; reply = reply_in w e.0 e.1 })) es

abbrev pub no_rows : Catalog → Tables Anywhere
no_rows c = map (λ _. []) c

-- a transaction of one session, from BEGIN to COMMIT
abbrev pub in_one : ℕ → List (Statement Anywhere) → List (ℕ × Action Anywhere)
in_one s [] = (s, Commit) ∷ []
in_one s (q ∷ qs) = (s, Run q) ∷ in_one s qs

abbrev pub opened : Catalog → List (Statement Anywhere) → World Anywhere
opened c qs = world_after (start (record { catalog = c; tables = no_rows c; base = zero_base })) ((1, Begin ReadWrite) ∷ in_one 1 qs)

-- the number and the key of each committed transaction, in the serial order
abbrev pub keys : World Anywhere → List (ℕ × (ℕ × ℕ × ℕ))
keys w = map (λ t. (t.number, key w t)) (serial_order w)
