use Rattle.std.proofs.Common.{◌∙◌, ◌&&◌, ap}
use Rattle.std.specs.List.{list_any}
use Rattle.conflict.specs.Tracked.{is_recent}
use Rattle.conflict.specs.Walks.{found, is_unseen}
use Rattle.conflict.proofs.Forgetting.{held_is}
use Rattle.conflict.proofs.parties.is_held.Goals as goal

pub returns : goal.returns
returns g c =
    c.is_held_by.ensures
    ∙ ap (λ ns. list_any (λ q. is_recent c.args.oldest q && is_unseen q c.args.party.now) (found ns c.args.parties.now)) c.ins.ensures
    ∙ held_is c.args.oldest c.args.party.now c.args.parties.now c.requires.rising c.requires.known
