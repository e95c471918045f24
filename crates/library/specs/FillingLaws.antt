-- What holds of all that is read once.
use Rattle.std.specs.Prelude.{◌≡◌, ℕ}
use Rattle.history.specs.declared.event.Action.{Action}
use Rattle.library.specs.Filling.{action_in, read_once}

-- With its own literals it asks for what was read.
abbrev pub LiteralsStand : (A : Type 0) → Type 0
LiteralsStand A = (s : ℕ) (a : Action A) → action_in (read_once s a) ≡ a
