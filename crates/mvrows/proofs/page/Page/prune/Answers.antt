use Rattle.std.proofs.Common.{ap, sym, subst, ◌∙◌}
use Rattle.std.specs.Prelude.{filter}
use Rattle.mvrows.specs.Versions.{IsInOrder}
use Rattle.mvrows.specs.Pruning.{has_version}
use Rattle.mvrows.specs.Pruning.{pruned_versions}
use Rattle.mvrows.proofs.PageLemmas.{kept-in_order}
use Rattle.mvrows.proofs.page.Page.prune.Goals as goal

pub invariant_of-self : goal.invariant_of-self
invariant_of-self g c = subst IsInOrder (sym (c.drop_empty.ensures ∙ ap (filter has_version) c.prune_all.ensures)) (kept-in_order (pruned_versions c.args.oldest) c.self.inside.chains.items c.self.invariant)
