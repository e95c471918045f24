use Rattle.std.proofs.Common.{◌≡◌, ◌∙◌, ap, subst, length, take, ◌≤◌, ◌<◌, ◌+◌, Fits, w64, arith}
use Rattle.std.proofs.lemmas.Int.{ints}
use Rattle.std.proofs.lemmas.List.{length-take-le}
use Rattle.std.proofs.lemmas.List.Sums.{length-filter, count_by-le-length}
use Rattle.std.specs.List.{filter, count_by}
use Rattle.certificate.specs.Recorded.{board}
use Rattle.certificate.specs.Sums.{may_count}
use Rattle.certificate.proofs.recording.Recording.at_most.Goals as goal

pub overflow_add-count : goal.overflow_add-count
overflow_add-count g c =
    let p = may_count (board c.args.self.now) c.args.known.now c.args.place c.args.statement in
    let so_far = take c.loop-spot.spot-index c.args.spots.now in
    let few = count_by-le-length p so_far in
    let counted = length-filter p so_far in
    let told = length-take-le c.loop-spot.spot-index c.args.spots.now (omega (arith, c.loop-spot-test.true)) in
    omega (arith, ints, c.loop-spot.invariant, few, counted, told, c.loop-spot-test.true, c.loop-spot.auto.spot-index-end)
