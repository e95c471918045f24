use Rattle.std.proofs.Common.{ap, arith, map, sym, append-nil, ◌++◌, ◌∙◌}
use Rattle.std.proofs.lemmas.List.{nil_from_length}
use Rattle.mvrows.specs.Installing.{opened_row}
use Rattle.mvrows.specs.HeldRows.{rows_in}
use Rattle.mvrows.proofs.LeavesLemmas.{open-order, open-step}
use Rattle.mvrows.proofs.table.push_opened.Goals as goal

pub push_opened-requires : goal.push_opened-requires
push_opened-requires g c = open-order (rows_in c.loop-row.leaves.items) c.loop-row.page (rows_in c.with_room.new.leaves.items) c.in_ok-page.page c.in-Some.row c.loop-row.row-iterator.rest.items c.next.new.self.rest.items (rows_in c.args.leaves.now.items ++ (c.args.page ++ map opened_row c.args.rows.items)) c.in_ok-page.ensures.ok c.in-Some.ensures.steps.0 c.loop-row.invariant.rows c.requires.ordered

pub loop-row-preserved : goal.loop-row-preserved
loop-row-preserved g c = record {
  rows = open-step (rows_in c.loop-row.leaves.items) c.loop-row.page (rows_in c.with_room.new.leaves.items) c.in_ok-page.page c.push_opened.new.self c.in-Some.row c.loop-row.row-iterator.rest.items c.next.new.self.rest.items (rows_in c.args.leaves.now.items ++ (c.args.page ++ map opened_row c.args.rows.items)) c.in_ok-page.ensures.ok c.in_ok-push_opened.ensures.ok c.in-Some.ensures.steps.0 c.loop-row.invariant.rows;
  keys = c.with_room.ensures.keys;
}

pub returns-clause-ok : goal.returns-clause-ok
returns-clause-ok g c =
    let rest = c.loop-row.row-iterator.rest in
    let none = nil_from_length rest.items (omega (arith, rest.ok.0, c.in-None.ensures.steps.0)) in
    ap (λ page. rows_in c.loop-row.leaves.items ++ page) (sym (append-nil c.loop-row.page))
    ∙ ap (λ rows. rows_in c.loop-row.leaves.items ++ (c.loop-row.page ++ map opened_row rows)) (sym none)
    ∙ c.loop-row.invariant.rows
