use Rattle.std.proofs.Common.{sym, ◌∙◌, arith}
use Rattle.orders.proofs.AgreeLemmas.{matched-bag}
use Rattle.orders.proofs.agree.are_same_rows.Goals as goal

pub returns-then-match_rows : goal.returns-then-match_rows
returns-then-match_rows g c = c.if-match_rows.true ∙ sym (matched-bag c.args.left.now c.args.right.now (omega arith) (sym c.match_rows.ensures ∙ c.if-match_rows.true))
