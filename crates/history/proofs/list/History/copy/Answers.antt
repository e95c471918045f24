use Rattle.std.proofs.Common.{ap, length, subst, sym, ◌≤◌, ◌∙◌}
use Rattle.history.proofs.list.History.copy.Goals as goal

pub copy_records-requires : goal.copy_records-requires
copy_records-requires g c = subst (λ rs. length rs ≤ c.self.inside.most) (sym c.as_slice.ensures.value) c.self.invariant.1

pub invariant_of-result : goal.invariant_of-result
invariant_of-result g c = (
  ap length c.in_ok-catalog.ensures.ok ∙ c.self.invariant.0 ∙ sym (ap length c.in_ok-tables.ensures.ok),
  subst (λ rs. length rs ≤ c.self.inside.most) (sym (c.in_ok-records.ensures.ok ∙ c.as_slice.ensures.value)) c.self.invariant.1,
  c.in_ok-records.ensures.room,
)
