use Rattle.std.proofs.Common.{length, ap, sym, subst, ◌∙◌}
use Rattle.mvrows.specs.HeldRows.{Held}
use Rattle.mvrows.specs.Whole.{IsWhole}
use Rattle.mvrows.proofs.WholeLemmas.{whole_shown}
use Rattle.mvrows.proofs.leaf.Leaf.count.Goals as goal

pub returns-then-is_whole_at : goal.returns-then-is_whole_at
returns-then-is_whole_at g c =
    let are = subst (IsWhole c.self.inside.whole) (ap (λ (h : Held _). h.rows) c.self.view_is) c.self.invariant in
    c.len.ensures ∙ ap length c.page.ensures ∙ sym (whole_shown c.args.snapshot c.self.inside.whole c.args.self.now.rows (c.is_whole_at.ensures.from c.if-is_whole_at.true) (c.is_whole_at.ensures.known c.if-is_whole_at.true) are)
