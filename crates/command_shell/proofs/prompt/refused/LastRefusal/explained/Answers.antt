use Rattle.std.proofs.Common.{◌∙◌, ap, sym}
use Rattle.std.specs.Option.{option_copied}
use Rattle.command_shell.proofs.RefusedLemmas.{why_of, why_of_none}
use Rattle.command_shell.proofs.prompt.refused.LastRefusal.explained.Goals as goal

pub returns-in-Some-clause-why : goal.returns-in-Some-clause-why
returns-in-Some-clause-why g c = why_of (λ t. t.items) c.explain.result c.history.result.now c.in-Some.core.now _ _ _ c.history.ensures (ap option_copied (sym c.in-Some.is) ∙ c.core.ensures) c.self.view_is c.explain.ensures.why

pub returns-in-None-clause-why : goal.returns-in-None-clause-why
returns-in-None-clause-why g c = why_of_none (λ t. t.items) c.worded.result _ _ (ap option_copied (sym c.in-None.is) ∙ c.core.ensures) c.worded.ensures.text
