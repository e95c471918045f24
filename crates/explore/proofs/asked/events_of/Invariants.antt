use Rattle.std.proofs.Common.{◌≡◌, map, take}
use Rattle.std.specs.List.{All}
use Rattle.history.specs.Answer.{Allowed}
use Rattle.explore.specs.Prepared.{event_of}
use Rattle.explore.proofs.asked.events_of.Given as goal

-- what the lines so far ask for
abbrev pub invariant-loop-line : goal.invariant-loop-line
invariant-loop-line g l = (l.events.items ≡ map (event_of l.catalog) (take l.line-index l.lines)) × All (λ e. Allowed l.catalog e.action) l.events.items
