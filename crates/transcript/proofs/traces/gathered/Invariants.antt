use Rattle.std.proofs.Common.{◌≡◌, ◌++◌, map}
use Rattle.transcript.specs.Reading.{name_of, named, trace_of}
use Rattle.transcript.proofs.traces.gathered.Given as goal

-- those so far, and those left
abbrev pub invariant-loop-ended : goal.invariant-loop-ended
invariant-loop-ended g l =
    (l.traces.transactions.items ++ map (trace_of l.has_time) l.ended-iterator.rest.items ≡ map (trace_of l.has_time) l.fn.all.items)
    × (map (λ n. named n.number n.session n.lines.items) l.traces.names.items ++ map (name_of l.begins) l.ended-iterator.rest.items ≡ map (name_of l.begins) l.fn.all.items)
