-- What is answered to an event.
use Rattle.statement.specs.declared.reply.Reply.{Reply}
use Rattle.transactions.specs.declared.answers.answered.Answered.{Answered}

-- the reply for its session, and the same for the history
abbrev pub both : {A : Type 0} → Reply A → Answered A
both reply = record { reply = reply; recorded = reply }
