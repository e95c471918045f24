use Rattle.std.proofs.Common.{ap, ◌∙◌, ◌≡◌}
use Rattle.mvrows.specs.Versions.{shown}
use Rattle.schema.specs.Plain.{put_all}
use Rattle.statement.specs.Evaluation.{outcome}
use Rattle.transactions.proofs.CommitLemmas.{if_ok_map}
use Rattle.transactions.proofs.InstallLemmas.{shown_in_key_order}
use Rattle.transactions.proofs.statements.run.evaluate_own.Goals as goal

pub evaluate-requires-clause-order : goal.evaluate-requires-clause-order
evaluate-requires-clause-order g c = rw c.at-lent.ensures.parts (shown_in_key_order c.args.snapshot c.args.rows.now c.requires.order)

pub evaluate-requires-clause-held : goal.evaluate-requires-clause-held
evaluate-requires-clause-held g c = rw c.at-lent.ensures.parts c.requires.held

pub returns-clause-ok : goal.returns-clause-ok
returns-clause-ok g c =
    let same : put_all c.args.changes.now (shown c.at-lent.result.snapshot c.at-lent.result.rows.now) ≡ put_all c.args.changes.now (shown c.args.snapshot c.args.rows.now) = rw c.at-lent.ensures.parts Rattle.std.proofs.Common.refl in
    if_ok_map _ _ c.evaluate.result (λ o e. e ∙ ap (outcome c.args.catalog.now c.args.statement.now) same) c.evaluate.ensures.ok
