use Rattle.std.proofs.Common.{ap, arith, map, subst, sym, ◌++◌, ◌∙◌}
use Rattle.std.proofs.lemmas.List.{nil_from_length}
use Rattle.schema.specs.Paged.{joined}
use Rattle.mvrows.specs.Versions.{IsInOrder}
use Rattle.mvrows.specs.Installing.{opened_row}
use Rattle.mvrows.specs.HeldRows.{rows_in}
use Rattle.mvrows.proofs.HeldLemmas.{opened-in_order}
use Rattle.mvrows.proofs.LeavesLemmas.{pages-order, pages-step, open-end}
use Rattle.mvrows.proofs.table.open_pages.Goals as goal

pub push_opened-requires-clause-ordered : goal.push_opened-requires-clause-ordered
push_opened-requires-clause-ordered g c =
    let rest = c.loop-moved.moved-iterator.rest.items in
    let left = c.next.new.self.rest.items in
    subst (λ moved. IsInOrder (rows_in c.loop-moved.leaves.items ++ (c.loop-moved.page ++ map opened_row moved))) (sym c.into_rows.ensures)
    (pages-order (rows_in c.loop-moved.leaves.items) c.loop-moved.page c.in-Some.moved rest left (map opened_row c.args.rows) c.in-Some.ensures.steps.0 c.loop-moved.invariant.rows (opened-in_order c.args.rows c.into_pages-moved-items.ensures.ordered))

pub loop-moved-preserved : goal.loop-moved-preserved
loop-moved-preserved g c =
    let rest = c.loop-moved.moved-iterator.rest.items in
    let left = c.next.new.self.rest.items in
    record {
      rows = pages-step (rows_in c.loop-moved.leaves.items) c.loop-moved.page (rows_in c.push_opened.new.leaves.items) c.in_ok-page.page c.in-Some.moved rest left (map opened_row c.args.rows)
          (c.in_ok-page.ensures.ok ∙ ap (λ moved. rows_in c.loop-moved.leaves.items ++ (c.loop-moved.page ++ map opened_row moved)) c.into_rows.ensures)
          c.in-Some.ensures.steps.0 c.loop-moved.invariant.rows;
      keys = c.push_opened.ensures.keys;
    }

pub returns-clause-laid_out : goal.returns-clause-laid_out
returns-clause-laid_out g c =
    let rest = c.loop-moved.moved-iterator.rest in
    let none = nil_from_length rest.items (omega (arith, rest.ok.0, c.in-None.ensures.steps.0)) in
    let whole = open-end (rows_in c.loop-moved.leaves.items) c.loop-moved.page (rows_in c.push_page.new.leaves.items) (joined rest.items) (map opened_row c.args.rows) c.in_ok-push_page.ensures.ok (ap joined none) c.loop-moved.invariant.rows in
    (subst IsInOrder (sym whole) (opened-in_order c.args.rows c.into_pages-moved-items.ensures.ordered), c.push_page.ensures.keys)

pub returns-clause-ok : goal.returns-clause-ok
returns-clause-ok g c =
    let rest = c.loop-moved.moved-iterator.rest in
    let none = nil_from_length rest.items (omega (arith, rest.ok.0, c.in-None.ensures.steps.0)) in
    open-end (rows_in c.loop-moved.leaves.items) c.loop-moved.page (rows_in c.push_page.new.leaves.items) (joined rest.items) (map opened_row c.args.rows) c.in_ok-push_page.ensures.ok (ap joined none) c.loop-moved.invariant.rows
