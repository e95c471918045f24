-- Faults, and one legal history with its serial order, computed.
use Rattle.std.proofs.Common.{◌≡◌, refl, pos, true, List, [], ◌∷◌, Some, None}
use Rattle.value.specs.declared.kind.Kind.TheVariants.{Bigint}
use Rattle.value.specs.declared.value.Value.TheVariants.{Null}
use Rattle.value.specs.declared.refusal.Mode.TheVariants.{ReadWrite}
use Rattle.value.specs.declared.refusal.Code.TheVariants as code
use Rattle.value.specs.declared.refusal.Place.TheVariants as place
use Rattle.schema.specs.Definition.{Column}
use Rattle.schema.specs.Definition.{Catalog}
use Rattle.statement.specs.declared.condition.Comparison.TheVariants as is
use Rattle.statement.specs.declared.condition.Condition.TheVariants.{Compare}
use Rattle.statement.specs.declared.statement.Projection.TheVariants.{Count}
use Rattle.statement.specs.declared.statement.Source.TheVariants.{Literal, Sum}
use Rattle.statement.specs.declared.statement.Statement.{Statement}
use Rattle.statement.specs.declared.statement.Statement.TheVariants.{Select, Insert, Update}
use Rattle.statement.specs.declared.reply.Reply.{Reply}
use Rattle.statement.specs.declared.reply.Reply.TheVariants.{Begun, Committed, Inserted, Rows}
use Rattle.history.specs.declared.event.Action.TheVariants.{Begin, Run, Commit}
use Rattle.history.specs.declared.event.Record.{Record}
use Rattle.history.specs.Opening.{Opening, zero_base}
use Rattle.history.specs.Serial.{serial_order, IsSerial}
use Rattle.history.specs.Transactions.{World}
use Rattle.history.specs.Events.{world_of}
use Rattle.history.specs.Answer.{Legal}
use Rattle.serial.proofs.examples.Play.{Anywhere, bigint, table, n, put, gone, fault, replies, opened}
use Rattle.serial.proofs.order.SerialTheorem.{legal_serial}

abbrev must : Column
must = record { name = []; kind = Bigint; not_null = true; references = Some 0 }

abbrev family : Catalog
family = table (bigint None ∷ []) ∷ table (bigint None ∷ must ∷ []) ∷ []

abbrev w : World Anywhere
w = opened family (Insert 0 (n 1 ∷ []) ∷ Insert 0 (n 2 ∷ []) ∷ put 1 5 1 ∷ put 1 6 2 ∷ [])

abbrev alone : Statement Anywhere → List (Reply Anywhere)
alone q = replies w ((1, Begin ReadWrite) ∷ (1, Run q) ∷ [])

fault_null : alone (Update 1 (record { column = 1; source = Literal Null } ∷ []) (Compare 0 is.Greater (n 5) ∷ [])) ≡ Begun ∷ fault code.NotNullViolation (place.Column 2) ∷ []
fault_null = refl

fault_sum : alone (Update 1 (record { column = 1; source = Sum 1 (pos 1) } ∷ []) []) ≡ Begun ∷ fault code.ForeignKeyViolation (place.Column 2) ∷ []
fault_sum = refl

fault_gone : alone (gone 0 1) ≡ Begun ∷ fault code.ForeignKeyViolation (place.Table 2) ∷ []
fault_gone = refl

count_null : alone (Select 1 Count (Compare 1 is.NotEqual Null ∷ [])) ≡ Begun ∷ Rows ((n 0 ∷ []) ∷ []) ∷ []
count_null = refl

-- a history that is legal, and so has its serial order
abbrev nothing : Opening Anywhere
nothing = record { catalog = family; tables = [] ∷ [] ∷ []; base = zero_base }

abbrev inserts_one : List (Record Anywhere)
inserts_one =
    record { session = 1; action = Begin ReadWrite; reply = Begun }
    ∷ record { session = 1; action = Run (Insert 0 (n 1 ∷ [])); reply = Inserted }
    ∷ record { session = 1; action = Commit; reply = Committed } ∷ []

is_legal : Legal nothing inserts_one
unfolding Legal
is_legal = (refl, (tt, refl, (refl, refl, (tt, refl, tt))))

has_order : IsSerial (world_of nothing inserts_one) (serial_order (world_of nothing inserts_one))
has_order = legal_serial nothing inserts_one is_legal
