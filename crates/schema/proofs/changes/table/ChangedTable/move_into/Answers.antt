use Rattle.std.proofs.Common.{[], ◌∷◌, ◌++◌, ap, sym, ◌∙◌, append_assoc, append-nil}
use Rattle.schema.specs.Changing.{changes_in}
use Rattle.schema.specs.KeyedChange.{shown_changes}
use Rattle.schema.proofs.changes.table.ChangedTable.move_into.Goals as goal

pub loop-key-init : goal.loop-key-init
loop-key-init g c = ap (λ cs. c.args.list.now.items ++ changes_in c.args.table cs) (ap shown_changes c.into_iter-key-iterator.ensures.into_iter_gives.0 ∙ c.self.view_is)

pub loop-key-preserved : goal.loop-key-preserved
loop-key-preserved g c =
    let left = changes_in c.args.table (shown_changes c.next.new.self) in
    let pushed = c.in_ok-push.ensures.items ∙ ap (λ x. c.loop-key.list.items ++ x ∷ []) c.change_of.ensures in
    ap (λ xs. xs ++ left) pushed
    ∙ append_assoc c.loop-key.list.items (_ ∷ []) left
    ∙ ap (λ es. c.loop-key.list.items ++ changes_in c.args.table (shown_changes es)) (sym c.in-Some.ensures.steps)
    ∙ c.loop-key.invariant

pub returns-clause-ok : goal.returns-clause-ok
returns-clause-ok g c =
    sym (append-nil c.loop-key.list.items) ∙ ap (λ es. c.loop-key.list.items ++ changes_in c.args.table (shown_changes es)) (sym c.in-None.ensures.steps.0) ∙ c.loop-key.invariant
