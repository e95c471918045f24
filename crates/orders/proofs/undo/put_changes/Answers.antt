use Rattle.std.proofs.Common.{◌∙◌, sym, ap, subst, ◌-◌, length, take, drop, arith}
use Rattle.std.proofs.lemmas.List.{nil_from_length}
use Rattle.value.proofs.Basics.{first_and_rest}
use Rattle.schema.specs.Plain.{put_all}
use Rattle.orders.specs.Undone.{AreOrdered}
use Rattle.orders.proofs.UndoLemmas.{ordered-put, put-front}
use Rattle.orders.proofs.undo.put_changes.Goals as goal

pub put-requires : goal.put-requires
put-requires g c = c.loop-left.invariant.2 c.change-item.result.table

pub loop-left-preserved : goal.loop-left-preserved
loop-left-preserved g c = (
  put-front c.loop-left.left.now c.change-item.result (take (length c.loop-left.left.now - 1) (drop 1 c.loop-left.left.now)) c.loop-left.tables c.put.new.tables (first_and_rest c.loop-left.left.now c.change-item.result c.in-len1-up.len_at_least c.change-item.is)
      c.in_ok-put.ensures.ok
      ∙ c.loop-left.invariant.0,
  c.in_ok-put.ensures.back ∙ c.loop-left.invariant.1,
  subst AreOrdered (sym c.in_ok-put.ensures.ok) (ordered-put c.change-item.result c.loop-left.tables c.loop-left.invariant.2),
)

pub returns-clause-ok : goal.returns-clause-ok
returns-clause-ok g c =
    let none = nil_from_length c.loop-left.left.now (omega (arith, c.in_default.len_below)) in
    ap (λ xs. put_all xs c.loop-left.tables) (sym none) ∙ c.loop-left.invariant.0
