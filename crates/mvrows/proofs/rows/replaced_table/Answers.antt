use Rattle.std.proofs.Common.{arith, subst, ◌≡◌, ◌<◌, length, [], List, IfSome}
use Rattle.mvrows.specs.HeldRows.{Held, rows_in}
use Rattle.mvrows.specs.Replacing.{replaced, left}
use Rattle.mvrows.proofs.ReplacingLemmas.{replaced-held}
use Rattle.mvrows.proofs.rows.replaced_table.Goals as goal

pub returns-in-Some-2-clause-rows : goal.returns-in-Some-2-clause-rows
returns-in-Some-2-clause-rows g c = λ oldest.
    let lt : c.place-place.result < length c.args.tables.now = omega arith in
    let old : List (Held _) = c.index-tables-place.result in
    let rows = subst (λ o. IfSome o (λ made. rows_in made ≡ replaced c.in-Some.table c.args.commit c.args.changes.now (rows_in old))) c.in-Some-2.is c.in_ok-made.ensures.rows in
    let all = subst (λ o. IfSome o (λ made. left c.in-Some.table c.args.changes.now (rows_in old) ≡ [])) c.in-Some-2.is c.in_ok-made.ensures.left in
    replaced-held oldest c.args.commit c.in-Some.table c.place-place.result c.args.snapshots.now c.args.changes.now c.args.tables.now old c.in-Some-2.made c.in-Some.ensures c.place-place.ensures lt c.index-tables-place.is rows all c.replaced.ensures.order
