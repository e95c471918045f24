use Rattle.std.proofs.Common.{◌∙◌, ap, nat_le}
use Rattle.std.specs.List.{count_by}
use Rattle.transcript.specs.Reading.{name_of, named}
use Rattle.transcript.specs.Recorded.{Recorded}
use Rattle.transcript.proofs.GatherLemmas.{named_more}
use Rattle.transcript.proofs.traces.Traces.push.Goals as goal

pub returns-clause-names : goal.returns-clause-names
returns-clause-names g c =
    let draft = c.draft.inside in
    named_more (λ n. named n.number n.session n.lines.items) c.args.self.now.names.items c.push-2.new.self.items _ (name_of c.args.begins.now c.args.ended) c.in_ok-push-2.ensures.items
    (ap (λ n. named n draft.session draft.lines.items) c.number_of-number.ensures
    ∙ ap (λ (d : Recorded g.row.A.Denot). named (count_by (λ b. nat_le b d.begin) c.args.begins.now) d.session d.lines) c.draft.view_is)
