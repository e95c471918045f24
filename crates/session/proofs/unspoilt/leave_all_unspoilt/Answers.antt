use Rattle.std.proofs.Common.{◌∙◌, ◌<◌, ap, arith, length, get_or}
use Rattle.std.proofs.lemmas.List.{get_or_default}
use Rattle.std.proofs.lemmas.List.Edits.{map_over_more}
use Rattle.std.proofs.Math.ListN.{set}
use Rattle.session.specs.Unspoilt.{parts, unspoilt_in_place}
use Rattle.session.proofs.unspoilt.leave_all_unspoilt.Goals as goal

pub loop-snapshot-preserved : goal.loop-snapshot-preserved
loop-snapshot-preserved c =
    let xs = c.loop-snapshot.snapshots in
    let i = c.loop-snapshot.snapshot-index in
    let within : i < length xs = omega arith in
    ap (set xs i) c.leave_unspoilt.ensures
    ∙ map_over_more (unspoilt_in_place (parts c.args.key) c.args.commits) c.args.snapshots.now xs i (get_or xs i 0) (omega arith) c.loop-snapshot.invariant (get_or_default xs i 0 (get_or xs i 0) within)
