use Rattle.std.proofs.Common.{◌∙◌, map, arith}
use Rattle.std.proofs.lemmas.List.{nil_from_length}
use Rattle.transcript.specs.Reading.{name_of, named, trace_of}
use Rattle.transcript.proofs.GatherLemmas.{pushed_all, pushed_step}
use Rattle.transcript.proofs.traces.gathered.Goals as goal

pub loop-ended-preserved : goal.loop-ended-preserved
loop-ended-preserved g c = (
  pushed_step (trace_of c.args.has_time) c.loop-ended.traces.transactions.items c.push.new.self.transactions.items c.loop-ended.ended-iterator.rest.items c.next.new.self.rest.items c.in-Some.ended c.in-Some.ensures.steps.0 c.in_ok-push.ensures.transactions
      ∙ c.loop-ended.invariant.0,
  pushed_step (name_of c.args.begins.now) (map (λ n. named n.number n.session n.lines.items) c.loop-ended.traces.names.items) (map (λ n. named n.number n.session n.lines.items) c.push.new.self.names.items) c.loop-ended.ended-iterator.rest.items c.next.new.self.rest.items c.in-Some.ended c.in-Some.ensures.steps.0 c.in_ok-push.ensures.names
      ∙ c.loop-ended.invariant.1,
)

pub returns-clause-transactions : goal.returns-clause-transactions
returns-clause-transactions g c =
    let rest = c.loop-ended.ended-iterator.rest in
    let none = nil_from_length rest.items (omega (arith, rest.ok.0, c.in-None.ensures.steps.0)) in
    pushed_all (trace_of c.args.has_time) c.loop-ended.traces.transactions.items _ rest.items none c.loop-ended.invariant.0

pub returns-clause-names : goal.returns-clause-names
returns-clause-names g c =
    let rest = c.loop-ended.ended-iterator.rest in
    let none = nil_from_length rest.items (omega (arith, rest.ok.0, c.in-None.ensures.steps.0)) in
    pushed_all (name_of c.args.begins.now) (map (λ n. named n.number n.session n.lines.items) c.loop-ended.traces.names.items) _ rest.items none c.loop-ended.invariant.1
