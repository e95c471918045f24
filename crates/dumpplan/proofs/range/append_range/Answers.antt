use Rattle.std.proofs.Common.{◌≡◌, ◌++◌, ℕ, List, true, false, sym, ap, subst, ◌∙◌}
use Rattle.std.proofs.lemmas.List.{append-nil}
use Rattle.value.specs.declared.key.Key.{Key}
use Rattle.schema.specs.Rows.{IsInKeyOrder}
use Rattle.schema.specs.declared.row.Row.{Row}
use Rattle.dumpplan.specs.Pieces.{is_before, rows_before, rows_text}
use Rattle.dumpplan.proofs.PieceLemmas.{none_left, read_row, rows_from-rise}
use Rattle.dumpplan.proofs.range.append_range.Goals as goal

pub loop-walk-init : goal.loop-walk-init
loop-walk-init g c = (
  ap (λ (rs : List (Row g.row.A.Denot)). c.args.text.now.items ++ rows_text (rows_before c.args.range.now.end rs)) c.in_ok-walk.ensures.rows,
  subst (IsInKeyOrder {A = g.row.A.Denot}) (sym c.in_ok-walk.ensures.rows) (rows_from-rise c.args.range.now.from _ c.walk_from.ensures.ordered),
)

pub returns-then-not-is_before-clause-ok : goal.returns-then-not-is_before-clause-ok
returns-then-not-is_before-clause-ok g c =
    let end = c.args.range.now.end in
    let text : List ℕ = c.loop-walk.text.items in
    let stops : is_before end c.in-Some.row.now.0 ≡ false = subst (λ (k : Key g.row.A.Denot). is_before end k ≡ false) c.key.ensures (sym c.is_before.ensures ∙ c.if-not-is_before.true) in
    let none = none_left end c.loop-walk.walk c.next.new.self c.in-Some.row.now (rw c.in-Some.is at c.in_ok-row.ensures.step) c.loop-walk.invariant.1 stops in
    sym (append-nil text) ∙ ap (λ (rs : List (Row g.row.A.Denot)). text ++ rows_text rs) (sym none) ∙ c.loop-walk.invariant.0

pub loop-walk-preserved : goal.loop-walk-preserved
loop-walk-preserved g c =
    let end = c.args.range.now.end in
    let goes_on : is_before end c.in-Some.row.now.0 ≡ true = subst (λ (k : Key g.row.A.Denot). is_before end k ≡ true) c.key.ensures (sym c.is_before.ensures ∙ c.if-not-is_before.false) in
    read_row end c.loop-walk.walk c.next.new.self c.in-Some.row.now c.loop-walk.text.items c.write_row.new.out.items _ (rw c.in-Some.is at c.in_ok-row.ensures.step) c.loop-walk.invariant.1 goes_on c.loop-walk.invariant.0 c.in_ok-write_row.ensures.ok
