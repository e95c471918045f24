-- What a session's command asks for (this project's own format).
use Rattle.std.specs.Prelude.{ℕ, List, Option, Some, Result, Ok, Err}
use Rattle.value.specs.declared.refusal.Refusal.{Refusal}
use Rattle.schema.specs.Definition.{Catalog}
use Rattle.statement.specs.declared.statement.Statement.{Statement}
use Rattle.sqltext.specs.Parsed.{parsed}
use Rattle.request.specs.declared.request.Request.TheVariants as request
use Rattle.script.specs.declared.command.Command.{Command}
use Rattle.script.specs.declared.command.Command.TheVariants as command
use Rattle.script.specs.declared.schedule.Schedule.TheVariants.{Free}
use Rattle.script.specs.Commands.{◌>>=◌, before_last, command_of, cut}
use Rattle.transcript.specs.Sessions.{session_in}
use Rattle.transcript.specs.declared.ask.Asked.{Asked}
use Rattle.transcript.specs.declared.ask.Asked.TheVariants as ask

module _ {A : Type 0} where
  -- a text asks for the statement that it says, or is none
  abbrev pub spoken : Result (Statement A) Refusal → Asked A
  spoken (Ok q) = ask.Statement q
  spoken (Err r) = ask.NoStatement

  -- what a command asks for, of this catalog's tables
  abbrev pub asked_by : Catalog → Command A → Asked A
  asked_by c (command.Ask (request.Begin m)) = ask.Begin
  asked_by c (command.Ask (request.Sql text)) = spoken (parsed c text)
  asked_by c (command.Ask request.Poll) = ask.Poll
  asked_by c (command.Ask request.Export) = ask.Export
  asked_by c (command.Ask (request.Import i)) = ask.Import
  asked_by c (command.Ask request.Commit) = ask.Commit
  asked_by c (command.Ask request.Rollback) = ask.Rollback
  asked_by c (command.Ask request.Prune) = ask.Prune
  asked_by c command.Wait = ask.Poll
  asked_by c (command.Dump d) = ask.Dump

  -- a session's number, a space, a command of a script whose sessions run freely, and `;`
  unfoldable pub asked : Catalog → List ℕ → Option (ℕ × Asked A)
  asked c line = cut 32 line >>= λ p. session_in p.0 >>= λ s. before_last 59 p.1 >>= λ text. command_of {A = A} Free text >>= λ d. Some (s, asked_by c d)
