use Rattle.std.proofs.Common.{refl}
use Rattle.mvrows.proofs.WholeLemmas.{newest_row}
use Rattle.mvrows.proofs.page.newest_row.Goals as goal

pub returns-in-Some : goal.returns-in-Some
returns-in-Some g c = newest_row c.in_ok-number.number c.args.chain.now _ c.in_ok-number.ensures c.in-Some.ensures refl
