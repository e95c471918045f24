use Rattle.std.proofs.Common.{◌≡◌, sym, ap, ◌∙◌, true, cond, Some, None}
use Rattle.statement.specs.Evaluation.{outcome}
use Rattle.statement.proofs.HeldLemmas.{held_sound}
use Rattle.orders.specs.Explains.{agrees}
use Rattle.orders.proofs.AloneLemmas.{answered-ok}
use Rattle.orders.proofs.alone.answer.Goals as goal

pub evaluate-requires-clause-held : goal.evaluate-requires-clause-held
evaluate-requires-clause-held g c = held_sound c.args.catalog.now c.args.tables.now c.requires.sound

pub returns-clause-ok : goal.returns-clause-ok
returns-clause-ok g c =
    let o = answered-ok c.in_ok-outcome.outcome (outcome c.args.catalog.now c.args.answered.now.statement c.args.tables.now) c.in_ok-outcome.ensures in
    let so : agrees (outcome c.args.catalog.now c.args.answered.now.statement c.args.tables.now).reply c.args.answered.now.reply ≡ true =
    ap (λ x. agrees x.reply c.args.answered.now.reply) (sym o) ∙ sym c.agree.ensures ∙ c.if-not-agree.false in
    ap Some (c.in_ok-changes.ensures.ok ∙ ap (λ x. x.changes) o) ∙ sym (ap (λ b. cond b (Some (outcome c.args.catalog.now c.args.answered.now.statement c.args.tables.now).changes) None) so)
