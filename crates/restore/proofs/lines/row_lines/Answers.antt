use Rattle.std.proofs.Common.{◌++◌, ◌∷◌, [], Bor, List, ℕ, ap, sym, subst, ◌∙◌, arith}
use Rattle.restore.specs.Lines.{AreRowLines}
use Rattle.restore.proofs.taking.Pieces.{row_lines-first, row_lines-more}
use Rattle.restore.proofs.lines.row_lines.Goals as goal

pub loop-left-init : goal.loop-left-init
loop-left-init g c = (
  subst (λ (rs : List (Bor (List ℕ))). AreRowLines c.args.first rs c.args.first.rest) (sym (c.in_ok-push.ensures.items ∙ ap (λ xs. xs ++ c.args.first.bytes ∷ []) c.new-rows.ensures.items)) (row_lines-first c.args.first c.requires),
  omega arith,
)

pub loop-left-preserved : goal.loop-left-preserved
loop-left-preserved g c =
    let line = rw c.in-Some.is at c.in_ok-line.ensures.line in
    let number = rw c.in-Some.is at c.in_ok-line.ensures.number in
    let row = rw c.in-Some.is at c.in_ok-line.ensures.row in
    let shorter = rw c.in-Some.is at c.in_ok-line.ensures.shorter in (
      row_lines-more c.args.first c.loop-left.rows.items c.push-in-loop-left.new.self.items c.loop-left.left c.in-Some.rest c.in-Some.line c.loop-left.invariant.0 line number row c.in_ok-push-2.ensures.items,
      omega (arith, shorter, c.loop-left.invariant.1),
    )
