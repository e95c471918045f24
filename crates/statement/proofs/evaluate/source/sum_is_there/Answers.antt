use Rattle.std.proofs.Common.{◌+ℤ◌, is_some, ap, subst, sym, ◌∙◌, w64, to_z, of_z}
use Rattle.std.specs.Prelude.{FitsSigned}
use Rattle.std.proofs.lemmas.Int.{to_z-of_z}
use Rattle.statement.proofs.ReferenceLemmas.{beyond, no_row}
use Rattle.statement.proofs.evaluate.source.sum_is_there.Goals as goal

pub returns-in-None-clause-ok : goal.returns-in-None-clause-ok
returns-in-None-clause-ok g c =
    let before = to_z-of_z w64 c.args.before c.ranges.before in
    let number = to_z-of_z w64 c.args.number c.ranges.number in
    let sum = ap (λ n. n +ℤ to_z w64 (of_z w64 c.args.number)) before ∙ ap (λ n. c.args.before +ℤ n) number in
    no_row c.args.catalog.now (g.R.SnapshotReader.tables c.args.reader.now) (c.args.before +ℤ c.args.number) c.args.column.now.references c.is_none.result c.requires
    (beyond (c.args.before +ℤ c.args.number) (λ fits. c.in-None.ensures (subst (FitsSigned w64) (sym sum) fits))) (sym c.is_none.ensures ∙ ap is_some c.references.ensures)
