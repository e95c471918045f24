use Rattle.std.proofs.Common.{◌≡◌, ◌||◌, not, drop}
use Rattle.std.specs.List.{list_all}
use Rattle.certificate.specs.Knowledge.{left_from}
use Rattle.certificate.specs.Recorded.{board}
use Rattle.certificate.specs.Views.{leaves_state, passes_at}
use Rattle.certificate.proofs.sources.CellView.all_leave.Given as goal

-- it is so of all if it is of the rest
abbrev pub invariant-loop-number : goal.invariant-loop-number
invariant-loop-number g l =
    list_all (λ w. not (passes_at l.self l.asked l.place w) || leaves_state l.self l.state l.place w) (left_from (board l.self.recording) l.self.known l.place l.self.cell.spot 0 l.ways)
    ≡ list_all (λ w. not (passes_at l.self l.asked l.place w) || leaves_state l.self l.state l.place w) (left_from (board l.self.recording) l.self.known l.place l.self.cell.spot l.number (drop l.number l.ways))
