use Rattle.std.proofs.Common.{◌≡◌, drop}
use Rattle.std.specs.List.{list_any}
use Rattle.certificate.specs.Knowledge.{left_from}
use Rattle.certificate.specs.Recorded.{board}
use Rattle.certificate.specs.Views.{passes_at}
use Rattle.certificate.proofs.sources.CellView.one_passes.Given as goal

-- it is so of one if it is of one of the rest
abbrev pub invariant-loop-number : goal.invariant-loop-number
invariant-loop-number g l =
    list_any (λ w. passes_at l.self l.asked l.place w) (left_from (board l.self.recording) l.self.known l.place l.self.cell.spot 0 l.ways)
    ≡ list_any (λ w. passes_at l.self l.asked l.place w) (left_from (board l.self.recording) l.self.known l.place l.self.cell.spot l.number (drop l.number l.ways))
