use Rattle.std.proofs.Common.{◌≡◌, ◌++◌}
use Rattle.std.specs.List.{filter}
use Rattle.certificate.specs.Knowledge.{may_be_from, places_below, sources}
use Rattle.certificate.specs.Recorded.{board}
use Rattle.certificate.specs.Views.{asking}
use Rattle.certificate.proofs.sources.CellView.sources.Given as goal

-- those so far, and those below the place
abbrev pub invariant-loop-place : goal.invariant-loop-place
invariant-loop-place g l =
    l.sources.items ++ filter (may_be_from (board l.self.recording) l.self.known (asking l.self l.asked) l.self.cell l.reader) (places_below l.place)
    ≡ sources (board l.self.recording) l.self.known (asking l.self l.asked) l.self.cell l.reader

abbrev pub decreases-loop-place : goal.decreases-loop-place
decreases-loop-place g l = l.place
