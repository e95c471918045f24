use Rattle.std.proofs.Common.{sym, subst, arith, ◌≡◌, true, ◌/◌}
use Rattle.schema.specs.Pages.{has_items, IsInOrder}
use Rattle.schema.proofs.PageLemmas.{in_order-take, in_order-drop, cut-items}
use Rattle.schema.proofs.paged.cut.Goals as goal

pub returns-clause-some : goal.returns-clause-some
returns-clause-some g c =
    let parts = cut-items c.args.items.now.items (c.len-half.result / 2) (omega (arith, c.requires.two, c.len-half.ensures, c.args.items.now.ok)) (omega (arith, c.requires.two, c.len-half.ensures, c.args.items.now.ok)) in
    (subst (λ xs. has_items xs ≡ true) (sym c.in_ok-upper.ensures.items) parts.0, subst (λ xs. has_items xs ≡ true) (sym c.in_ok-upper.ensures.tail) parts.1)

pub returns-clause-ordered : goal.returns-clause-ordered
returns-clause-ordered g c = subst (IsInOrder g.T.Keyed.key_of) (sym c.in_ok-upper.ensures.items) (in_order-take g.T.Keyed.key_of (c.len-half.result / 2) c.args.items.now.items c.requires.ordered)

pub returns-clause-ordered_upper : goal.returns-clause-ordered_upper
returns-clause-ordered_upper g c = subst (IsInOrder g.T.Keyed.key_of) (sym c.in_ok-upper.ensures.tail) (in_order-drop g.T.Keyed.key_of (c.len-half.result / 2) c.args.items.now.items c.requires.ordered)
