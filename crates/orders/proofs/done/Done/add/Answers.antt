use Rattle.std.proofs.Common.{◌∙◌, sym, ap, slice_get}
use Rattle.orders.proofs.DoneLemmas.{set-more}
use Rattle.orders.proofs.done.Done.add.Goals as goal

pub invariant_of-self : goal.invariant_of-self
invariant_of-self g c =
    set-more c.self.inside.flags.items c.set.new.flags.items c.args.place c.self.inside.first c.first_left-self-inside.result c.self.invariant c.set.ensures
    (λ j f l. ap (λ x. slice_get x j) (sym c.as_slice.ensures.value) ∙ c.first_left-self-inside.ensures j f l)
