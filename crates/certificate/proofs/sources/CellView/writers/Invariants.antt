use Rattle.std.proofs.Common.{◌≡◌, ◌&&◌, ◌++◌}
use Rattle.std.specs.List.{filter}
use Rattle.certificate.specs.Knowledge.{comes_before, is_writer, places_below, writers}
use Rattle.certificate.specs.Recorded.{board}
use Rattle.certificate.proofs.sources.CellView.writers.Given as goal

-- those so far, and those below the place
abbrev pub invariant-loop-place : goal.invariant-loop-place
invariant-loop-place g l =
    l.writers.items ++ filter (λ z. comes_before (board l.self.recording) l.self.known z l.reader && is_writer (board l.self.recording) l.self.known l.self.cell z) (places_below l.place)
    ≡ writers (board l.self.recording) l.self.known l.self.cell l.reader

abbrev pub decreases-loop-place : goal.decreases-loop-place
decreases-loop-place g l = l.place
