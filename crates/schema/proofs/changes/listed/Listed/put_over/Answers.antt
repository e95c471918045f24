use Rattle.std.proofs.Common.{refl, sym, subst}
use Rattle.schema.specs.Changing.{TakesPlace}
use Rattle.schema.proofs.changes.listed.Listed.put_over.Goals as goal

pub invariant_of-self : goal.invariant_of-self
invariant_of-self g c =
    let takes : TakesPlace c.args.change.table c.args.change.key c.self.inside.list.items c.args.place =
    subst (λ xs. TakesPlace c.args.change.table c.args.change.key xs c.args.place) (sym c.self.view_is) c.requires in
    (takes.1 c.args.change refl refl).1 c.self.inside.table c.self.invariant
