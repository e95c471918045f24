use Rattle.std.proofs.Common.{ap, sym, ◌∙◌}
use Rattle.mvrows.specs.HeldRows.{rows_in, own_pruned_in}
use Rattle.mvrows.specs.SharedTable.{held_table}
use Rattle.mvrows.specs.declared.owned.Owned.{Owned}
use Rattle.mvrows.proofs.SharedLemmas.{shared-rows, shared-pruned}
use Rattle.mvrows.proofs.shared.SharedTable.prune.Goals.{in-Own, in-Shared}
use Rattle.mvrows.proofs.shared.SharedTable.prune.Goals as goal

pub returns : goal.returns
returns g c = elim c.match-self.branch [
  | in-Own w ↦
      ap (λ s. rows_in (held_table s.table)) w.self-inside-is ∙ w.prune.ensures
      ∙ ap (own_pruned_in c.args.oldest) (sym (ap (λ (o : Owned _ _). held_table o) w.in-Own.is) ∙ c.self.view_is)
  | in-Shared w ↦
      ap (λ s. rows_in (held_table s.table)) w.self-inside-is
      ∙ ap (λ (o : Owned _ _). rows_in (held_table o)) w.in-Shared.is
      ∙ shared-rows w.in-Shared.field-0.value ∙ sym (shared-pruned c.args.oldest w.in-Shared.field-0.value)
      ∙ sym (ap (λ (o : Owned _ _). own_pruned_in c.args.oldest (held_table o)) w.in-Shared.is) ∙ ap (own_pruned_in c.args.oldest) c.self.view_is
]
