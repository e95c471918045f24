use Rattle.std.proofs.Common.{ap, sym, subst, ◌∙◌}
use Rattle.mvrows.specs.Pruning.{pruned_rows, pruned}
use Rattle.mvrows.specs.HeldRows.{rows_in, rows_held, AreVersioned}
use Rattle.mvrows.proofs.HeldLemmas.{map-map, pruned-versioned}
use Rattle.mvrows.proofs.rows.Rows.prune.Goals as goal

pub invariant_of-self : goal.invariant_of-self
invariant_of-self g c =
    subst AreVersioned (sym (c.share_all.ensures ∙ c.prune_all.ensures ∙ c.in-Ok.ensures.ok ∙ sym (map-map (pruned_rows c.args.oldest) rows_in c.self.inside.tables.items)))
    (pruned-versioned c.args.oldest (rows_held c.self.inside.tables.items))

pub returns-in-Ok-clause-ok : goal.returns-in-Ok-clause-ok
returns-in-Ok-clause-ok g c =
    c.share_all.ensures ∙ c.prune_all.ensures ∙ c.in-Ok.ensures.ok ∙ sym (map-map (pruned_rows c.args.oldest) rows_in c.self.inside.tables.items)
    ∙ ap (pruned c.args.oldest) c.self.view_is
