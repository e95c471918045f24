-- What a request asks for (the statements are those of the PostgreSQL manual's "SQL Commands").
use Rattle.std.specs.Prelude.{Bool, true, false, Result, Ok, Err}
use Rattle.value.specs.declared.refusal.Refusal.{Refusal}
use Rattle.schema.specs.Definition.{Catalog}
use Rattle.statement.specs.declared.statement.Statement.{Statement}
use Rattle.history.specs.declared.event.Action.{Action}
use Rattle.history.specs.declared.event.Action.TheVariants as action
use Rattle.sqltext.specs.Parsed.{parsed}
use Rattle.request.specs.declared.request.Request.{Request}
use Rattle.request.specs.declared.request.Request.TheVariants.{Begin, Sql, Poll, Export, Import, Commit, Rollback, Prune}

module _ {A : Type 0} where
  -- a text asks for the statement that it says, or is broken
  abbrev pub spoken : Result (Statement A) Refusal → Action A
  spoken (Ok q) = action.Run q
  spoken (Err r) = action.Broken r

  -- the action that a request asks for, of this catalog's tables
  abbrev pub asked : Catalog → Request A → Action A
  asked c (Begin m) = action.Begin m
  asked c (Sql text) = spoken (parsed c text)
  asked c Poll = action.Poll
  asked c Export = action.Export
  asked c (Import i) = action.Import i
  asked c Commit = action.Commit
  asked c Rollback = action.Rollback
  asked c Prune = action.Prune

  -- a text, which has to be parsed
  abbrev pub is_text : Request A → Bool
  is_text (Sql text) = true
  is_text _ = false
