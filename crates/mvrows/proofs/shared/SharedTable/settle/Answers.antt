use Rattle.std.proofs.Common.{ap, sym, subst, ◌∙◌}
use Rattle.mvrows.specs.Settling.{settle_key}
use Rattle.mvrows.specs.Fresh.{IsFreshIn}
use Rattle.mvrows.specs.HeldRows.{rows_in, AreUndoable}
use Rattle.mvrows.specs.SharedTable.{held_table}
use Rattle.mvrows.specs.declared.owned.Owned.{Owned}
use Rattle.mvrows.proofs.SharedLemmas.{shared-rows, settle-all_shared}
use Rattle.mvrows.proofs.shared.SharedTable.settle.Goals.{in-Own, in-Shared}
use Rattle.mvrows.proofs.shared.SharedTable.settle.Goals as goal

pub returns-clause-rows : goal.returns-clause-rows
returns-clause-rows g c = elim c.match-self.branch [
  | in-Own w ↦
      ap (λ s. rows_in (held_table s.table)) w.self-inside-is ∙ w.settle.ensures.rows
      ∙ ap (λ ls. settle_key (record { oldest = c.args.oldest; snapshots = c.args.snapshots.now }) c.args.key.now (rows_in ls)) (sym (ap (λ (o : Owned _ _). held_table o) w.in-Own.is) ∙ c.self.view_is)
  | in-Shared w ↦
      let shared = sym (ap (λ (o : Owned _ _). held_table o) w.in-Shared.is) ∙ c.self.view_is in
      ap (λ s. rows_in (held_table s.table)) w.self-inside-is
      ∙ ap (λ (o : Owned _ _). rows_in (held_table o)) w.in-Shared.is ∙ shared-rows w.in-Shared.field-0.value
      ∙ settle-all_shared (record { oldest = c.args.oldest; snapshots = c.args.snapshots.now }) c.args.key.now w.in-Shared.field-0.value (subst (IsFreshIn c.args.key.now) (sym shared) c.requires)
      ∙ ap (settle_key (record { oldest = c.args.oldest; snapshots = c.args.snapshots.now }) c.args.key.now) (sym (shared-rows w.in-Shared.field-0.value) ∙ ap rows_in shared)
]

pub returns-clause-undoable : goal.returns-clause-undoable
returns-clause-undoable g c = elim c.match-self.branch [
  | in-Own w ↦ λ commit undoable.
      subst (λ s. AreUndoable commit (held_table s.table)) (sym w.self-inside-is)
      (w.settle.ensures.undoable commit (subst (AreUndoable commit) (sym (sym (ap (λ (o : Owned _ _). held_table o) w.in-Own.is) ∙ c.self.view_is)) undoable))
  | in-Shared w ↦ λ commit undoable.
      subst (λ s. AreUndoable commit (held_table s.table)) (sym w.self-inside-is) (subst (AreUndoable commit) (sym c.self.view_is) undoable)
]
