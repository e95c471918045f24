-- What is printed of a script's exploration, and how it ends.
use Rattle.std.specs.Prelude.{◌≡◌, ◌⊎◌, ◌<◌, ◌≤◌, ℕ, Bool, true, false, List, [], is_some, length, map, Result, Ok, Err}
use Rattle.std.specs.Str.{is_utf8}
use Rattle.schema.specs.Definition.{Catalog}
use Rattle.history.specs.Opening.{Recorded}
use Rattle.script.specs.declared.schedule.Schedule.TheVariants.{InOrder}
use Rattle.script.specs.declared.script.Line.{Line}
use Rattle.script.specs.Scripts.{Said, said}
use Rattle.explore.specs.Outcomes.{outcomes}
use Rattle.explore.specs.Listing.{IsListed}
use Rattle.explore.specs.declared.tally.listing.heading.Heading.TheVariants.{Every}
use Rattle.explore.specs.Explored.{Explored, outcome, schedules}
use Rattle.explore.specs.Setups.{IsUnplanned, SetsUp}
use Rattle.explore.specs.declared.plan.Unexplored.{Unexplored}
use Rattle.explore.specs.declared.plan.Unexplored.TheVariants as unexplored
use Rattle.explore.specs.declared.setup.Turn.{Turn}
use Rattle.explore.specs.declared.setup.Unplanned.{Unplanned}
use Rattle.explore.specs.declared.setup.Unplanned.TheVariants as unplanned
use Rattle.library.specs.declared.ending.End.{End}
use Rattle.library.specs.declared.ending.End.TheVariants.{Done, NoText, Refused, Device, Full, Memory, TooMany}
use Rattle.library.specs.declared.exploring.Exploration.{Exploration}
use Rattle.library.specs.Doing.{begun}
use Rattle.library.specs.Memory.{RanOut}

-- how a script ends whose lines have no plan, for this reason; the line is 0 where none is explored
abbrev pub end_of_unplanned : Unplanned → End
end_of_unplanned unplanned.Memory = Memory
end_of_unplanned (unplanned.Refused line code) = Refused line
end_of_unplanned (unplanned.NoTurn line) = Refused line
end_of_unplanned unplanned.NoLines = Refused 0

-- how a script ends whose schedules aren't run, for this reason
abbrev pub end_of_unexplored : Unexplored → End
end_of_unexplored unexplored.Memory = Memory
end_of_unexplored (unexplored.TooMany all) = TooMany

module _ {A : Type 0} where
  -- The outcomes of all schedules of what is explored are listed, without their orders.
  abbrev pub AreListed : Explored A → List ℕ → Type 0
  AreListed x text = IsListed (Every (length (schedules x))) false (schedules x) (outcomes (map (outcome x) (schedules x))) text

  -- How an exploration ends that may run `most` schedules: all were run; or they are more, and none was.
  abbrev pub ExploresPlan : ℕ → Explored A → End → List ℕ → Type 0
  ExploresPlan most x e text = (e ≡ Done) × (length (schedules x) ≤ most) × AreListed x text ⊎ (e ≡ TooMany) × (most < length (schedules x)) × (text ≡ [])

  -- How an exploration ends of lines that follow a history: they were set up; or they have no plan.
  abbrev pub ExploresFrom : Exploration → Recorded A → List (Line A) → End → List ℕ → Type 0
  ExploresFrom m h lines e text = ((x : Explored A) × (turns : List Turn) × SetsUp m.most_events h lines x turns × ExploresPlan m.most_schedules x e text) ⊎ ((why : Unplanned) × IsUnplanned m.most_events h lines why × (e ≡ end_of_unplanned why) × (text ≡ []))

  -- How the lines end that follow the tables of a catalog, without rows: there is to be room for no event, or so.
  abbrev pub ExploresOn : Exploration → Catalog → List (Line A) → End → List ℕ → Type 0
  ExploresOn m c lines e text = (e ≡ Full) × (m.most_events ≡ 0) × (text ≡ []) ⊎ ExploresFrom m (begun c m.most_events) lines e text

  -- How a script ends that opens a dump's file, which isn't there, or creates its tables.
  abbrev pub ExploresOpened : Exploration → Bool → Catalog → List (Line A) → End → List ℕ → Type 0
  ExploresOpened m true c lines e text = (e ≡ Device 0) × (text ≡ [])
  ExploresOpened m false c lines e text = ExploresOn m c lines e text

  -- How a text ends that is this script, or whose first faulty line is this.
  abbrev pub ExploresSaid : Exploration → Result (Said A) ℕ → End → List ℕ → Type 0
  ExploresSaid m (Ok s) e text = ExploresOpened m (is_some s.opens) s.catalog s.lines e text
  ExploresSaid m (Err line) e text = (e ≡ Refused line) × (text ≡ [])

-- How bytes end that are text, or aren't.
abbrev pub ExploresText : (A : Type 0) → Exploration → Bool → List ℕ → End → List ℕ → Type 0
ExploresText A m true script e text = ExploresSaid m (said {A = A} InOrder script) e text
ExploresText A m false script e text = (e ≡ NoText) × (text ≡ [])

-- An exploration of a script prints this, and ends so: by the outcomes of its schedules, or why they weren't run; or memory was refused.
abbrev pub Explores : (A : Type 0) → Exploration → List ℕ → End → List ℕ → Type 0
Explores A m script e text = RanOut e text ⊎ ExploresText A m (is_utf8 script) script e text
