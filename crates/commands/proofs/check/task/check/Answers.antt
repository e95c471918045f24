use Rattle.std.proofs.Common.{◌∙◌, ap₂}
use Rattle.clap.specs.Words.{with_rule}
use Rattle.commands.proofs.check.task.check.Goals as goal

-- the command alone, and then each of its arguments
pub returns : goal.returns
returns c = c.in_ok-check.ensures.shape c.json.ensures.local ∙ ap₂ with_rule (c.in_ok-arg-4.ensures.shape c.certificate.ensures.local ∙ ap₂ with_rule (c.in_ok-arg-3.ensures.shape c.steps.ensures.local ∙ ap₂ with_rule (c.in_ok-arg-2.ensures.shape c.no_time.ensures.local ∙ ap₂ with_rule (c.in_ok-arg.ensures.shape c.transcript.ensures.local ∙ ap₂ with_rule c.in_ok-alone.ensures c.transcript.ensures.rule) c.no_time.ensures.rule) c.steps.ensures.rule) c.certificate.ensures.rule) c.json.ensures.rule
