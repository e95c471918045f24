use Rattle.std.proofs.Common.{◌++◌, ◌∙◌, ap, sym}
use Rattle.std.specs.List.{filter_map}
use Rattle.transcript.specs.Reading.{unanswered}
use Rattle.transcript.proofs.GatherLemmas.{taken_all, taken_step}
use Rattle.transcript.proofs.SpreadLemmas.{all_unanswered}
use Rattle.transcript.proofs.sessions.Sessions.end_undetermined.Goals as goal

pub loop-session-init : goal.loop-session-init
loop-session-init g c =
    ap (λ us. c.args.ended.now.items ++ us)
    (ap (filter_map (λ s. unanswered s.1)) c.into_iter-session-iterator.ensures.into_iter_gives.0 ∙ sym (all_unanswered 0 c.self.inside.asked.entries) ∙ ap (filter_map unanswered) c.self.view_is)

pub loop-session-preserved : goal.loop-session-preserved
loop-session-preserved g c =
    taken_step (λ s. unanswered s.1) c.loop-session.ended.items c.end_one.new.ended.items _ _ _ c.in-Some.ensures.steps c.in_ok-end_one.ensures.ok
    ∙ c.loop-session.invariant

pub returns-clause-ok : goal.returns-clause-ok
returns-clause-ok g c = taken_all (λ s. unanswered s.1) c.loop-session.ended.items _ _ c.in-None.ensures.steps.0 c.loop-session.invariant
