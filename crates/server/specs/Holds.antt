-- What the first hold of the lock gives for a SELECT.
use Rattle.std.specs.Prelude.{◌≡◌, ℕ, Ok}
use Rattle.statement.specs.declared.statement.Statement.{Statement}
use Rattle.history.specs.declared.event.Action.TheVariants.{Run}
use Rattle.history.specs.Opening.{Opening}
use Rattle.history.specs.Answer.{reader_answer}
use Rattle.pass.specs.Knowing.{Known}
use Rattle.server.specs.Calls.{IsCall}
use Rattle.server.specs.declared.hold.FirstHold.{FirstHold}
use Rattle.server.specs.declared.hold.FirstHold.TheVariants.{Replied, Reads}

module _ {A : Type 0} where
  -- The pass that knew p knows q: its statement was answered; or it has seen more, and here are the tables that its session's transaction sees.
  abbrev pub IsFirstHold : Opening A → ℕ → Known A → Statement A → FirstHold A → Known A → Type 0
  IsFirstHold o most p q (Replied r) k = IsCall most p (Run q) r k
  IsFirstHold o most p q (Reads reading) k = (reading.statement ≡ q) × (k.session ≡ p.session) × (k.mine ≡ p.mine) × (reader_answer o k.seen k.session ≡ Ok reading.reader)
