use Rattle.std.proofs.Common.{ap, ◌∙◌, ◌≡◌}
use Rattle.schema.specs.Plain.{put_all}
use Rattle.statement.specs.Evaluation.{outcome}
use Rattle.transactions.proofs.CommitLemmas.{if_ok_map}
use Rattle.transactions.proofs.MergedLemmas.{merged-whole}
use Rattle.transactions.proofs.statements.own.OwnChanges.evaluate.Goals as goal

pub evaluate_on-requires-clause-held : goal.evaluate_on-requires-clause-held
evaluate_on-requires-clause-held g c =
    let whole : put_all c.merge_rest.new.merged (g.R.SnapshotReader.tables c.args.reader.now) ≡ put_all c.args.self.now (g.R.SnapshotReader.tables c.args.reader.now) =
    merged-whole c.merge_rest.new.merged c.as_slice.result.now c.merge_rest.new.count c.in_ok-merge_rest.ensures.ok c.in_ok-merge_rest.ensures.merged (g.R.SnapshotReader.tables c.args.reader.now) c.requires.order
    ∙ ap (λ xs. put_all xs (g.R.SnapshotReader.tables c.args.reader.now)) (c.as_slice.ensures.value ∙ c.self.view_is) in
    rw (c.new-own.ensures.parts, whole) c.requires.held

pub returns-clause-ok : goal.returns-clause-ok
returns-clause-ok g c =
    let whole : put_all c.merge_rest.new.merged (g.R.SnapshotReader.tables c.args.reader.now) ≡ put_all c.args.self.now (g.R.SnapshotReader.tables c.args.reader.now) =
    merged-whole c.merge_rest.new.merged c.as_slice.result.now c.merge_rest.new.count c.in_ok-merge_rest.ensures.ok c.in_ok-merge_rest.ensures.merged (g.R.SnapshotReader.tables c.args.reader.now) c.requires.order
    ∙ ap (λ xs. put_all xs (g.R.SnapshotReader.tables c.args.reader.now)) (c.as_slice.ensures.value ∙ c.self.view_is) in
    let same : put_all c.new-own.result.changes.now (g.R.SnapshotReader.tables c.new-own.result.reader.now) ≡ put_all c.args.self.now (g.R.SnapshotReader.tables c.args.reader.now) = rw c.new-own.ensures.parts whole in
    if_ok_map _ _ c.evaluate_on.result (λ o e. e ∙ ap (outcome c.args.catalog.now c.args.statement.now) same) c.evaluate_on.ensures.ok
