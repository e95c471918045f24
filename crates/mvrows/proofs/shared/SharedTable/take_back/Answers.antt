use Rattle.std.proofs.Common.{ap, sym, ◌∙◌}
use Rattle.mvrows.specs.HeldRows.{rows_in, undone_in}
use Rattle.mvrows.specs.SharedTable.{held_table}
use Rattle.mvrows.specs.declared.owned.Owned.{Owned}
use Rattle.mvrows.proofs.SharedLemmas.{shared-rows, shared-undone}
use Rattle.mvrows.proofs.shared.SharedTable.take_back.Goals.{in-Own, in-Shared}
use Rattle.mvrows.proofs.shared.SharedTable.take_back.Goals as goal

pub returns : goal.returns
returns g c = elim c.match-self.branch [
  | in-Own w ↦
      ap (λ s. rows_in (held_table s.table)) w.self-inside-is ∙ w.take_back.ensures
      ∙ ap (undone_in c.args.commit) (sym (ap (λ (o : Owned _ _). held_table o) w.in-Own.is) ∙ c.self.view_is)
  | in-Shared w ↦
      ap (λ s. rows_in (held_table s.table)) w.self-inside-is
      ∙ ap (λ (o : Owned _ _). rows_in (held_table o)) w.in-Shared.is
      ∙ shared-rows w.in-Shared.field-0.value ∙ sym (shared-undone c.args.commit w.in-Shared.field-0.value)
      ∙ sym (ap (λ (o : Owned _ _). undone_in c.args.commit (held_table o)) w.in-Shared.is) ∙ ap (undone_in c.args.commit) c.self.view_is
]
