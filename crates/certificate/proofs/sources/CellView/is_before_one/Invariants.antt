use Rattle.std.proofs.Common.{◌≡◌, false, take}
use Rattle.std.specs.List.{list_any}
use Rattle.certificate.specs.Knowledge.{comes_before}
use Rattle.certificate.specs.Recorded.{board}
use Rattle.certificate.proofs.sources.CellView.is_before_one.Given as goal

-- so far none does
abbrev pub invariant-loop-writer : goal.invariant-loop-writer
invariant-loop-writer g l = list_any (λ z. comes_before (board l.self.recording) l.self.known l.place z) (take l.writer-index l.writers) ≡ false
