use Rattle.std.proofs.Common.{Ok, List, [], ◌∷◌, pos, sym, subst}
use Rattle.value.specs.Refusals.{AnswersOrNoMemory}
use Rattle.value.specs.declared.value.Value.{Value}
use Rattle.value.specs.declared.value.Value.TheVariants.{Int}
use Rattle.statement.proofs.HeldLemmas.{answered, select_has}
use Rattle.statement.proofs.evaluate.select.select.Goals as goal

pub number_known-requires : goal.number_known-requires
number_known-requires g c = select_has c.args.catalog.now (g.R.SnapshotReader.tables c.args.reader.now) c.args.table c.args.projection.now c.args.conditions.now c.requires.held c.requires.fits

pub returns-in-Some : goal.returns-in-Some
returns-in-Some g c =
    subst (λ (rows : List (List (Value g.row.A.Denot))). AnswersOrNoMemory c.show_number.result (Ok rows)) (sym c.in-Some.ensures.shown)
    (answered c.show_number.result ((Int (pos c.in-Some.number) ∷ []) ∷ []) c.show_number.ensures.ok c.show_number.ensures.err)
