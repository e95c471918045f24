use Rattle.std.proofs.Common.{◌∙◌}
use Rattle.command_shell.proofs.RefusedLemmas.{explained_at}
use Rattle.command_shell.proofs.prompt.refused.explain.Goals as goal

pub returns-clause-why : goal.returns-clause-why
returns-clause-why g c =
    explained_at (λ t. t.items) c.worded.result c.args.history.now c.args.events c.in_ok-past.past c.follow.new.self c.runs.result.now c.as_slice.result.now c.as_slice-2.result.now c.in_ok-remarks.remarks.items c.args.session c.args.refusal
    c.in_ok-past.ensures.ok c.in_ok-follow.ensures.ok c.runs.ensures (c.as_slice.ensures.value ∙ c.in_ok-lines.ensures.numbers) c.in_ok-remarks.ensures.words c.as_slice-2.ensures.value c.worded.ensures.text
