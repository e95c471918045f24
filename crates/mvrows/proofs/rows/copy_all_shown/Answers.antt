use Rattle.std.proofs.Common.{ap, ◌∙◌, arith}
use Rattle.std.specs.Prelude.{slice_set}
use Rattle.mvrows.specs.Versions.{shown_rows}
use Rattle.mvrows.proofs.CopiedLemmas.{table-none, table-more}
use Rattle.mvrows.proofs.rows.copy_all_shown.Goals as goal

pub loop-place-preserved : goal.loop-place-preserved
loop-place-preserved g c = table-more c.args.snapshot c.loop-place.place c.args.tables.now c.index-tables-place.result c.loop-place.copies c.copy_shown.new.copies c.at.result (omega arith) c.index-tables-place.is c.at.ensures c.loop-place.invariant (c.in_ok-copy_shown.ensures.ok ∙ ap (λ rows. slice_set c.loop-place.copies c.at.result (shown_rows c.args.snapshot rows)) c.table.ensures)

pub copy_shown-requires-clause-none : goal.copy_shown-requires-clause-none
copy_shown-requires-clause-none g c = table-none c.args.snapshot c.loop-place.place c.args.tables.now c.index-tables-place.result c.loop-place.copies c.at.result (omega arith) c.index-tables-place.is c.at.ensures c.loop-place.invariant
