use Rattle.std.proofs.Common.{◌≡◌, ◌-◌, [], map, take, drop}
use Rattle.std.specs.List.{All}
use Rattle.explore.specs.Outcomes.{noted_all}
use Rattle.explore.proofs.tally.outcomes.count_stretch.Given as goal

-- the runs so far, and what they leave
abbrev pub invariant-loop-number : goal.invariant-loop-number
invariant-loop-number g l = (l.found.items ≡ noted_all [] (map (g.R.Runs.outcome l.runs) (take (l.number - l.from) (drop l.from (g.S.Schedules.orders l.schedules)))) l.from) ×
    All (λ o. g.R.Runs.holds l.runs o.text) l.found.items × g.R.Runs.keeps l.runs l.kept
