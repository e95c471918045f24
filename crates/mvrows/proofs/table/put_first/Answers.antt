use Rattle.std.proofs.Common.{ap, true, ◌++◌, ◌∷◌, [], ◌∙◌}
use Rattle.mvrows.specs.Versions.{VersionedRows}
use Rattle.mvrows.specs.Installing.{first_version}
use Rattle.mvrows.proofs.LeavesLemmas.{first-ok, first-laid_out, first-undo, first-undoable}
use Rattle.mvrows.proofs.table.put_first.Goals as goal

pub returns-clause-ok : goal.returns-clause-ok
returns-clause-ok g c =
    first-ok c.args.change.now.key (record { number = c.args.commit; fields = c.args.change.now.fields }) c.args.leaves.now.items c.push.new.self.items c.requires
    (c.in_ok-push.ensures.items ∙ ap (λ h. c.args.leaves.now.items ++ h ∷ []) (c.of.ensures ∙ ap (λ (p : VersionedRows _). record { own = true; rows = p }) c.in_ok-page.ensures.ok))

pub returns-clause-laid_out : goal.returns-clause-laid_out
returns-clause-laid_out g c =
    first-laid_out c.args.change.now.key (record { number = c.args.commit; fields = c.args.change.now.fields }) c.args.leaves.now.items c.push.new.self.items c.requires
    (c.in_ok-push.ensures.items ∙ ap (λ h. c.args.leaves.now.items ++ h ∷ []) (c.of.ensures ∙ ap (λ (p : VersionedRows _). record { own = true; rows = p }) c.in_ok-page.ensures.ok))

pub returns-clause-undo : goal.returns-clause-undo
returns-clause-undo g c =
    first-undo c.args.commit c.args.change.now.key c.args.change.now.fields c.args.leaves.now.items c.push.new.self.items c.requires
    (c.in_ok-push.ensures.items ∙ ap (λ h. c.args.leaves.now.items ++ h ∷ []) (c.of.ensures ∙ ap (λ (p : VersionedRows _). record { own = true; rows = p }) c.in_ok-page.ensures.ok))

pub returns-clause-undoable : goal.returns-clause-undoable
returns-clause-undoable g c =
    first-undoable c.args.commit c.args.leaves.now.items c.push.new.self.items (first_version c.args.change.now.key (record { number = c.args.commit; fields = c.args.change.now.fields }) ∷ []) c.requires
    (c.in_ok-push.ensures.items ∙ ap (λ h. c.args.leaves.now.items ++ h ∷ []) (c.of.ensures ∙ ap (λ (p : VersionedRows _). record { own = true; rows = p }) c.in_ok-page.ensures.ok))
