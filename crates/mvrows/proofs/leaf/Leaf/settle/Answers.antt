use Rattle.std.proofs.Common.{ap, sym, subst, ◌∙◌}
use Rattle.mvrows.specs.Settling.{settle_key}
use Rattle.mvrows.specs.Held.{held}
use Rattle.mvrows.specs.HeldRows.{Held}
use Rattle.mvrows.specs.Whole.{IsWhole}
use Rattle.mvrows.specs.declared.owned.Owned.{Owned}
use Rattle.mvrows.proofs.SettledPageLemmas.{settle-shared}
use Rattle.mvrows.proofs.WholeLemmas.{whole_settled}
use Rattle.mvrows.proofs.leaf.Leaf.settle.Goals.{in-Own, in-Shared}
use Rattle.mvrows.proofs.leaf.Leaf.settle.Goals as goal

pub returns-clause-rows : goal.returns-clause-rows
returns-clause-rows g c = elim c.match-self.branch [
  | in-Own w ↦
      ap (λ s. (held s.page).rows) w.self-inside-is ∙ w.settle.ensures
      ∙ ap (settle_key (record { oldest = c.args.oldest; snapshots = c.args.snapshots.now }) c.args.key.now) (sym (ap (λ (h : Owned _ _). (held h).rows) w.in-Own.is) ∙ ap (λ (h : Held _). h.rows) c.self.view_is)
  | in-Shared w ↦
      ap (λ s. (held s.page).rows) w.self-inside-is ∙ ap (λ (h : Held _). h.rows) c.self.view_is
      ∙ settle-shared (record { oldest = c.args.oldest; snapshots = c.args.snapshots.now }) c.args.key.now c.args.self.now (sym (ap (λ (h : Held _). h.own) c.self.view_is) ∙ ap (λ (h : Owned _ _). (held h).own) w.in-Shared.is) c.requires
]

pub invariant_of-self : goal.invariant_of-self
invariant_of-self g c = elim c.match-self.branch [
  | in-Own w ↦ rw w.self-inside-is (
      let are = subst (λ (h : Owned _ _). IsWhole c.self.inside.whole (held h).rows) w.in-Own.is c.self.invariant in
      subst (IsWhole c.self.inside.whole) (sym w.settle.ensures) (whole_settled (record { oldest = c.args.oldest; snapshots = c.args.snapshots.now }) c.self.inside.whole c.args.key.now _ are)
      )
  | in-Shared w ↦ rw w.self-inside-is c.self.invariant
]
