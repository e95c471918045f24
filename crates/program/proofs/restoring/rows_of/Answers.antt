use Rattle.std.proofs.Common.{◌≡◌, ◌^◌, ◌-◌, ◌≤◌, [], length, min, subst, refl, rules}
use Rattle.std.specs.List.{sum_by}
use Rattle.std.proofs.lemmas.List.{take_all}
use Rattle.program.proofs.RestoredLemmas.{one_more_table}
use Rattle.program.proofs.restoring.rows_of.Goals as goal

pub loop-table-init : goal.loop-table-init
loop-table-init g c = refl

pub loop-table-preserved : goal.loop-table-preserved
loop-table-preserved g c = one_more_table c.args.tables.now c.loop-table.table c.loop-table.rows c.len.result c.saturating_add-rows.result [] (search rules) c.loop-table.invariant (search rules) (search rules)

pub returns : goal.returns
returns g c =
    let all : length c.args.tables.now ≤ c.loop-table.table = search rules in
    subst (λ X. c.loop-table.rows ≡ min (sum_by (λ rows. length rows) X) (2 ^ 64 - 1)) (take_all c.loop-table.table c.args.tables.now all) c.loop-table.invariant
