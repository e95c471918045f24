-- What a text asks of the core.
use Rattle.std.proofs.Common.{◌≡◌, ℕ, inl}
use Rattle.history.specs.Opening.{Recorded}
use Rattle.script.specs.declared.command.Command.{Command}
use Rattle.script.specs.declared.command.Command.TheVariants as command
use Rattle.program.specs.declared.fault.Fault.{Fault}
use Rattle.program.specs.declared.fault.Fault.TheVariants as fault
use Rattle.program.specs.Runs.{EndsBy}

module _ {A : Type 0} where
  -- out of memory may end any command
  pub memory_ends : (h : Recorded A) (s : ℕ) (c : Command A) (f : Fault) → f ≡ fault.ScriptOutOfMemory → EndsBy h s c f
  memory_ends h s command.Wait f e = e
  memory_ends h s (command.Dump r) f e = inl e
  memory_ends h s (command.Ask q) f e = e
