use Rattle.std.proofs.Common.{ap, refl, sym, subst, true, ◌∙◌}
use Rattle.mvrows.specs.Versions.{VersionedRows}
use Rattle.mvrows.specs.Installing.{put_version}
use Rattle.mvrows.specs.HeldRows.{Held}
use Rattle.mvrows.specs.Whole.{IsWhole}
use Rattle.mvrows.proofs.HeldLemmas.{undone-put}
use Rattle.mvrows.proofs.WholeLemmas.{whole_either}
use Rattle.mvrows.proofs.leaf.Leaf.put.Goals as goal

pub returns-clause-undo : goal.returns-clause-undo
returns-clause-undo g c = λ versioned undoable.
    undone-put c.put-put.result c.args.commit c.args.change.now.key (record { number = c.args.commit; fields = c.args.change.now.fields }) c.args.self.now (record { own = true; rows = c.in_ok-page.page }) (record { own = true; rows = c.put-put.new.self }) refl
    (ap (λ (rows : VersionedRows _). record { own = true; rows = rows }) (c.in_ok-page.ensures.rows ∙ ap (λ (h : Held _). h.rows) c.self.view_is)) refl c.put-put.ensures.ok c.put-put.ensures.err versioned undoable

pub invariant_of-self-2 : goal.invariant_of-self-2
invariant_of-self-2 g c =
    let are = subst (IsWhole c.self.inside.whole) (sym c.in_ok-page.ensures.rows) c.self.invariant in
    let put = put_version c.args.change.now.key (record { number = c.args.commit; fields = c.args.change.now.fields }) c.in_ok-page.page in
    whole_either c.put-put.result c.whole_with-self-inside.result c.put-put.new.self put c.in_ok-page.page c.put-put.ensures.ok c.put-put.ensures.err (c.whole_with-self-inside.ensures.put c.in_ok-page.page are) (c.whole_with-self-inside.ensures.same c.in_ok-page.page are)
