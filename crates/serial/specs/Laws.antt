-- How the laws of histories are said.
use Rattle.std.specs.Prelude.{◌≡◌, ℕ, true, List, [], ◌∷◌, ◌++◌}
use Rattle.statement.specs.declared.reply.Reply.TheVariants.{Safe}
use Rattle.history.specs.declared.event.Action.TheVariants.{Poll}
use Rattle.history.specs.declared.event.Record.{Record}
use Rattle.history.specs.Opening.{Opening}
use Rattle.history.specs.Transactions.{World, is_quiet}
use Rattle.history.specs.Checkpoint.{opening_after}
use Rattle.history.specs.Events.{world_of}
use Rattle.history.specs.Answer.{Legal}

module _ {A : Type 0} where
  -- A property holds of the world after every legal history.
  abbrev pub AfterLegal : (World A → Type 0) → Type 0
  AfterLegal Holds = (o : Opening A) (es : List (Record A)) → Legal o es → Holds (world_of o es)

  -- A property holds of the world after every beginning of a legal history, and the world after the whole.
  abbrev pub AfterMore : (World A → World A → Type 0) → Type 0
  AfterMore Holds = (o : Opening A) (es more : List (Record A)) → Legal o (es ++ more) → Holds (world_of o es) (world_of o (es ++ more))

  -- a POLL of session s that was answered Safe n
  abbrev pub polled_safe : ℕ → ℕ → Record A
  polled_safe s n = record { session = s; action = Poll; reply = Safe n }

  -- Wherever a POLL was answered to be safe in a legal history, a property holds of the world after that POLL, the world after the whole, the session and the snapshot.
  abbrev pub AfterSafe : (World A → World A → ℕ → ℕ → Type 0) → Type 0
  AfterSafe Holds = (o : Opening A) (es : List (Record A)) (s n : ℕ) (more : List (Record A)) → Legal o (es ++ polled_safe s n ∷ more)
      → Holds (world_of o (es ++ polled_safe s n ∷ [])) (world_of o (es ++ polled_safe s n ∷ more)) s n

  -- A property holds of an opening, of events since in whose history no session has a transaction any more, and of more events on the opening that these leave.
  abbrev pub AfterCheckpoint : (Opening A → List (Record A) → List (Record A) → Type 0) → Type 0
  AfterCheckpoint Holds = (o : Opening A) (es more : List (Record A)) → Legal o es → is_quiet (world_of o es) ≡ true → Legal (opening_after (world_of o es)) more → Holds o es more
