use Rattle.std.proofs.Common.{◌∙◌, ap}
use Rattle.std.specs.List.{filter}
use Rattle.std.specs.Option.{option_map}
use Rattle.value.specs.Isolation.{earliest}
use Rattle.conflict.specs.Tracked.{edge, node}
use Rattle.conflict.specs.Walks.{found, is_unseen}
use Rattle.conflict.proofs.WalkedCause.{unseen_is}
use Rattle.conflict.proofs.parties.first_unseen.Goals as goal

pub returns : goal.returns
returns g c =
    c.first_written.ensures
    ∙ ap (λ ns. option_map node (earliest node edge (filter (is_unseen c.args.reader.now) (found ns c.args.parties.now)))) c.outs.ensures
    ∙ ap (λ qs. option_map node (earliest node edge qs)) (unseen_is c.args.reader.now c.args.parties.now c.requires.sorted c.requires.rising)
