use Rattle.std.proofs.lemmas.Result.{IfOk-weaker}
use Rattle.explore.specs.Interleavings.{interleavings}
use Rattle.library.proofs.ExploreLemmas.{are_listed}
use Rattle.library.proofs.exploring.outcomes_text.Goals as goal

pub returns : goal.returns
returns g c =
    IfOk-weaker c.listing_text.result _ _
    (λ text listed. are_listed c.args.plan.now c.len.result (interleavings c.args.all.now) c.in_ok-found.found.items text.items c.len.ensures c.requires c.in_ok-found.ensures.outcomes listed)
    c.listing_text.ensures
