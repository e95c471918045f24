use Rattle.std.proofs.Common.{ap, sym, subst, map, ◌∙◌}
use Rattle.mvrows.specs.Versions.{IsInOrder}
use Rattle.mvrows.specs.TakenBack.{versions_before, rows_before, taken_back}
use Rattle.mvrows.proofs.ChainLemmas.{taken_back-rows}
use Rattle.mvrows.proofs.PageLemmas.{kept-in_order}
use Rattle.mvrows.proofs.page.Page.take_back.Goals as goal

pub invariant_of-self : goal.invariant_of-self
invariant_of-self g c =
    let left = c.take_all_back.ensures ∙ ap (map (taken_back c.args.commit)) c.drop_new.ensures ∙ taken_back-rows c.args.commit c.self.inside.chains.items in
    subst IsInOrder (sym left) (kept-in_order (versions_before c.args.commit) c.self.inside.chains.items c.self.invariant)

pub returns : goal.returns
returns g c = c.take_all_back.ensures ∙ ap (map (taken_back c.args.commit)) c.drop_new.ensures ∙ taken_back-rows c.args.commit c.self.inside.chains.items ∙ ap (rows_before c.args.commit) c.self.view_is
