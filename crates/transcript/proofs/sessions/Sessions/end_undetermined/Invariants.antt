use Rattle.std.proofs.Common.{◌≡◌, ◌++◌}
use Rattle.std.specs.List.{filter_map}
use Rattle.transcript.specs.Reading.{unanswered}
use Rattle.transcript.proofs.sessions.Sessions.end_undetermined.Given as goal

-- those so far, and those of the sessions left
abbrev pub invariant-loop-session : goal.invariant-loop-session
invariant-loop-session g l = l.ended.items ++ filter_map (λ s. unanswered s.1) l.session-iterator ≡ l.fn.ended.items ++ filter_map unanswered l.fn.self
