use Rattle.std.proofs.Common.{ap, sym, subst, ◌++◌, ◌∷◌, [], ◌∙◌}
use Rattle.schema.specs.Rows.{IsInKeyOrder}
use Rattle.schema.specs.Paged.{row_key}
use Rattle.schema.specs.Pages.{IsBehind}
use Rattle.schema.proofs.PutLemmas.{put-last, put_row-in_order}
use Rattle.schema.proofs.table.page.Page.push.Goals as goal

pub invariant_of-self-2 : goal.invariant_of-self-2
invariant_of-self-2 g c =
    let behind = subst (IsBehind row_key c.args.row.0) (sym c.self.view_is) c.requires in
    subst IsInKeyOrder (put-last c.args.row c.self.inside.rows.items behind ∙ sym c.in_ok-push.ensures.items) (put_row-in_order c.args.row c.self.inside.rows.items c.self.invariant)

pub returns-clause-ok : goal.returns-clause-ok
returns-clause-ok g c = c.in_ok-push.ensures.items ∙ ap (λ rs. rs ++ c.args.row ∷ []) c.self.view_is ∙ sym (put-last c.args.row c.args.self.now c.requires)
