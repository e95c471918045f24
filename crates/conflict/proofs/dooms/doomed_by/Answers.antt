use Rattle.std.proofs.Common.{◌∙◌, ◌≤◌, ap, fold, length, [], subst, sym}
use Rattle.std.specs.List.{filter}
use Rattle.value.specs.Isolation.{is_live}
use Rattle.conflict.specs.Tracked.{node, reads}
use Rattle.conflict.specs.Walks.{found, with_walked}
use Rattle.conflict.proofs.WalkedDooms.{dooms_walked, few_found}
use Rattle.conflict.proofs.dooms.doomed_by.Goals as goal

pub walked_dooms-requires-clause-rising : goal.walked_dooms-requires-clause-rising
walked_dooms-requires-clause-rising g c = c.requires.among.0

pub walked_dooms-requires-clause-few : goal.walked_dooms-requires-clause-few
walked_dooms-requires-clause-few g c =
    subst (λ ns. length (filter (is_live node reads c.args.committer.now) (found ns c.args.parties.now)) ≤ 63) (sym c.ins.ensures)
    (few_found c.args.parties.now c.args.committer.now c.requires.among c.requires.few)

pub returns : goal.returns
returns g c =
    c.walked_dooms.ensures
    ∙ ap (λ ns. fold (with_walked c.args.parties.now c.args.committer.now) [] (found ns c.args.parties.now)) c.ins.ensures
    ∙ dooms_walked c.args.parties.now c.args.committer.now c.requires.among
