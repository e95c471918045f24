use Rattle.std.proofs.Common.{◌∙◌, ap, not}
use Rattle.std.specs.List.{filter}
use Rattle.certificate.specs.Cells.{same_spot}
use Rattle.certificate.proofs.recording.Recording.others.Goals as goal

pub returns-clause-list : goal.returns-clause-list
returns-clause-list g c =
    c.in_ok-list.ensures.ok
    ∙ ap (filter (λ u. not (same_spot c.args.spot.now u))) (c.as_slice.ensures.value ∙ c.in_ok-spots.ensures.list)
