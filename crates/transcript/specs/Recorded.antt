-- What was recorded of a transaction.
use Rattle.std.specs.Prelude.{ℕ, Bool, List}
use Rattle.statement.specs.declared.reply.Reply.{Reply}
use Rattle.statement.specs.declared.statement.Statement.{Statement}

-- its session, the line of its BEGIN, whether it has imported a snapshot, and its statements that weren't refused, each with its reply, and their lines
pub record Recorded (A : Type 0) : Type 0 where
  pub session : ℕ
  pub begin : ℕ
  pub imported : Bool
  pub statements : List (Statement A × Reply A)
  pub lines : List ℕ
