use Rattle.std.proofs.Common.{◌∙◌, ap, inl, inr, refl, subst}
use Rattle.schema.specs.Definition.{Catalog}
use Rattle.statement.specs.declared.reply.Reply.TheVariants.{Refused}
use Rattle.history.specs.Opening.{Recorded}
use Rattle.session.specs.Core.{IsStep}
use Rattle.request.specs.Requests.{asked}
use Rattle.asking.proofs.reply_to.Goals as goal

pub returns-in-Ok : goal.returns-in-Ok
returns-in-Ok g c =
    let opening = c.catalog.ensures ∙ ap (λ (h : Recorded _). h.opening.catalog) c.history.ensures in
    inl (subst (λ a. IsStep c.args.core.now c.step.new.self c.args.session a c.step.result) (c.in-Ok.ensures.asked ∙ ap (λ (d : Catalog). asked d c.args.request.now) opening) c.step.ensures)

pub returns-in-Err : goal.returns-in-Err
returns-in-Err g c = inr (c.in-Err.ensures.text, ap Refused c.in-Err.ensures.memory, refl)
