use Rattle.std.proofs.Common.{◌∙◌, sym, arith}
use Rattle.orders.proofs.SeenLemmas.{rows-same}
use Rattle.orders.proofs.same.are_rows_same.Goals as goal

pub returns : goal.returns
returns g c = λ h. rows-same c.args.left.now c.args.right.now (omega arith) (sym c.match_rows.ensures ∙ h)
