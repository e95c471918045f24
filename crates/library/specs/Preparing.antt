-- Lines that are read once, and done many times.
use Rattle.std.specs.Prelude.{◌≡◌, ◌⊎◌, ℕ, Bool, false, Option, Some, None, Result, Ok, Err, List, [], ◌∷◌}
use Rattle.value.specs.declared.refusal.Refusal.{Refusal}
use Rattle.value.specs.declared.refusal.Code.TheVariants.{DatatypeMismatch}
use Rattle.value.specs.Refusals.{of_code, out_of_memory}
use Rattle.schema.specs.Definition.{Catalog}
use Rattle.statement.specs.declared.reply.Reply.{Reply}
use Rattle.history.specs.Opening.{Recorded}
use Rattle.session.specs.Core.{IsStep}
use Rattle.request.specs.Requests.{asked}
use Rattle.script.specs.Scripts.{Said, said}
use Rattle.script.specs.declared.command.Command.TheVariants.{Ask, Wait, Dump}
use Rattle.script.specs.declared.script.Step.{Step}
use Rattle.script.specs.declared.script.Step.TheVariants.{Session, Checkpoint}
use Rattle.script.specs.declared.script.Line.{Line}
use Rattle.script.specs.declared.schedule.Schedule.TheVariants.{InOrder}
use Rattle.shell.specs.Shells.{Held, ended}
use Rattle.library.specs.Filling.{Asked, action_in, may_ask, read_once}

-- Memory was refused; or it may not be asked for.
abbrev pub IsWhyNot : Bool → Refusal → Type 0
IsWhyNot may e = (e ≡ out_of_memory) ⊎ ((e ≡ of_code DatatypeMismatch) × (may ≡ false))

module _ {A : Type 0} where
  -- what a step asks for, where it is a session's event
  abbrev pub read_step : Catalog → Step A → Option (Asked A)
  read_step c (Session s (Ask q)) = Some (read_once s (asked c q))
  read_step c (Session s Wait) = None
  read_step c (Session s (Dump d)) = None
  read_step c Checkpoint = None

  abbrev pub read_lines : Catalog → List (Line A) → Option (Asked A)
  read_lines c [] = None
  read_lines c (line ∷ more) = read_step c line.step

  -- what a line asks for that was read as a script of its own
  abbrev pub read_in : Catalog → Result (Said A) ℕ → Option (Asked A)
  read_in c (Err n) = None
  read_in c (Ok s) = read_lines c s.lines

  -- what a line asks for of a server that runs on this
  abbrev pub read_from : Option (Recorded A) → List ℕ → Option (Asked A)
  read_from None line = None
  read_from (Some h) line = read_in h.opening.catalog (said InOrder (ended line))

  -- The history h has become k by the event that was asked for, with this reply.
  abbrev pub PerformsOn : Recorded A → Asked A → Recorded A → Reply A → Type 0
  PerformsOn h p k r = IsStep h k p.session (action_in p) r

  abbrev pub PerformsInto : Recorded A → Asked A → Option (Recorded A) → Reply A → Type 0
  PerformsInto h p None r = ⊥
  PerformsInto h p (Some k) r = PerformsOn h p k r

  abbrev pub PerformsIn : Option (Recorded A) → Asked A → Option (Recorded A) → Reply A → Type 0
  PerformsIn None p k r = ⊥
  PerformsIn (Some h) p k r = PerformsInto h p k r

  -- What was read once was done by a server that runs, with this reply.
  abbrev pub Performs : Held A → Asked A → Held A → Reply A → Type 0
  Performs v p w r = (w.most ≡ v.most) × (w.created ≡ v.created) × PerformsIn v.core p w.core r

  -- whether a server that runs on this may be asked for it
  abbrev pub may_perform : Option (Recorded A) → Asked A → Bool
  may_perform None p = false
  may_perform (Some h) p = may_ask h.opening.catalog (action_in p)

  -- It wasn't done, since memory was refused or it may not be asked for; all is as it was.
  abbrev pub IsUnperformedIn : Recorded A → Asked A → Recorded A → Refusal → Type 0
  IsUnperformedIn h p k e = (k ≡ h) × IsWhyNot (may_ask h.opening.catalog (action_in p)) e

  abbrev pub IsUnperformed : Held A → Asked A → Held A → Refusal → Type 0
  IsUnperformed v p w e = (w ≡ v) × IsWhyNot (may_perform v.core p) e
