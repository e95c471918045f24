use Rattle.std.proofs.Common.{◌∙◌, ap, subst, sym, false}
use Rattle.conflict.specs.Undo.{AreSorted, taken_back}
use Rattle.conflict.proofs.Places.{sorted_in, taken_back-push}
use Rattle.conflict.proofs.edges.note_in.Goals as goal

pub returns-then-branch-clause-back : goal.returns-then-branch-clause-back
returns-then-branch-clause-back g c =
    ap (λ xs. taken_back xs c.add_in.new.parties.items) c.push_reserved.ensures.items
    ∙ taken_back-push c.reserve.new.self.items (false, c.args.reader, c.args.writer) c.add_in.new.parties.items
    ∙ ap (taken_back c.reserve.new.self.items) (c.in_ok-add_in.ensures.new c.if-branch.true)
    ∙ ap (λ xs. taken_back xs c.args.parties.now.items) c.reserve.ensures.items

pub returns-then-branch-clause-sorted : goal.returns-then-branch-clause-sorted
returns-then-branch-clause-sorted g c = subst AreSorted (sym c.in_ok-add_in.ensures.ok) (sorted_in c.args.begun c.args.reader c.args.writer c.args.parties.now.items c.requires)
