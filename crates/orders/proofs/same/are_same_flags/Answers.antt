use Rattle.std.proofs.Common.{◌∙◌, sym}
use Rattle.orders.proofs.SeenLemmas.{flags-same}
use Rattle.orders.proofs.same.are_same_flags.Goals as goal

pub returns : goal.returns
returns c = λ h. flags-same c.args.left.now c.args.right.now (sym c.eq.ensures ∙ h)
