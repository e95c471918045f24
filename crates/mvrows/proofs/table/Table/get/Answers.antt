use Rattle.std.proofs.Common.{ap, ◌∙◌}
use Rattle.std.specs.Option.{option_and_then}
use Rattle.mvrows.specs.Versions.{shown_row}
use Rattle.mvrows.specs.HeldRows.{rows_in}
use Rattle.mvrows.proofs.ViewLemmas.{row_of-found}
use Rattle.mvrows.proofs.table.Table.get.Goals as goal

pub returns-in-Some : goal.returns-in-Some
returns-in-Some g c =
    c.row_at.ensures ∙ ap (option_and_then (shown_row c.args.snapshot)) c.in-Some.ensures
    ∙ row_of-found c.args.snapshot c.args.key.now (rows_in c.args.self.now) c.in_order.ensures

pub returns-in-None : goal.returns-in-None
returns-in-None g c =
    ap (option_and_then (shown_row c.args.snapshot)) c.in-None.ensures
    ∙ row_of-found c.args.snapshot c.args.key.now (rows_in c.args.self.now) c.in_order.ensures
