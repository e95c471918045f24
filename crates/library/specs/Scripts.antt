-- The output of a script's text, and how it ends.
use Rattle.std.specs.Prelude.{◌≡◌, ◌⊎◌, ℕ, Bool, true, false, List, [], is_some, Result, Ok, Err}
use Rattle.std.specs.Str.{is_utf8}
use Rattle.schema.specs.Definition.{Catalog}
use Rattle.history.specs.Opening.{Recorded}
use Rattle.script.specs.declared.schedule.Schedule.TheVariants.{InOrder}
use Rattle.script.specs.declared.script.Line.{Line}
use Rattle.script.specs.Scripts.{Said, said}
use Rattle.library.specs.declared.ending.End.{End}
use Rattle.library.specs.declared.ending.End.TheVariants.{Done, NoText, Refused, Device, Full}
use Rattle.library.specs.declared.manner.Manner.{Manner}
use Rattle.library.specs.Doing.{HasRun, HasStopped, begun}
use Rattle.library.specs.Memory.{RanOut}

module _ {A : Type 0} where
  -- How the lines end that follow a history, and their output: all were done, or only the first.
  abbrev pub EndsFrom : Manner → Recorded A → List (Line A) → End → List ℕ → Type 0
  EndsFrom m h lines e text = (e ≡ Done) × HasRun m h lines text ⊎ HasStopped m h lines e text

  -- How the lines end that follow the tables of a catalog, without rows: there is to be room for no event, or so.
  abbrev pub EndsOn : Manner → Catalog → List (Line A) → End → List ℕ → Type 0
  EndsOn m c lines e text = (e ≡ Full) × (m.most_events ≡ 0) × (text ≡ []) ⊎ EndsFrom m (begun c m.most_events) lines e text

  -- How a script ends that opens a dump's file, which isn't there, or creates its tables.
  abbrev pub EndsOpened : Manner → Bool → Catalog → List (Line A) → End → List ℕ → Type 0
  EndsOpened m true c lines e text = (e ≡ Device 0) × (text ≡ [])
  EndsOpened m false c lines e text = EndsOn m c lines e text

  -- How a text ends that is this script, or whose first faulty line is this.
  abbrev pub EndsSaid : Manner → Result (Said A) ℕ → End → List ℕ → Type 0
  EndsSaid m (Ok s) e text = EndsOpened m (is_some s.opens) s.catalog s.lines e text
  EndsSaid m (Err line) e text = (e ≡ Refused line) × (text ≡ [])

-- How bytes end that are text, or aren't.
abbrev pub EndsText : (A : Type 0) → Manner → Bool → List ℕ → End → List ℕ → Type 0
EndsText A m true script e text = EndsSaid m (said {A = A} InOrder script) e text
EndsText A m false script e text = (e ≡ NoText) × (text ≡ [])

-- A script has this output, and ends so: by what its lines say; or it is no text, or has a faulty line, or opens a dump's file; or there was no memory to begin it.
abbrev pub Prints : (A : Type 0) → Manner → List ℕ → End → List ℕ → Type 0
Prints A m script e text = RanOut e text ⊎ EndsText A m (is_utf8 script) script e text
