use Rattle.std.proofs.Common.{◌≡◌, drop}
use Rattle.std.specs.List.{list_all}
use Rattle.certificate.specs.Board.{is_write}
use Rattle.certificate.specs.Knowledge.{left_from}
use Rattle.certificate.specs.Recorded.{board}
use Rattle.certificate.specs.Views.{effect_on}
use Rattle.certificate.proofs.sources.CellView.all_write.Given as goal

-- it is so of all if it is of the rest
abbrev pub invariant-loop-number : goal.invariant-loop-number
invariant-loop-number g l =
    list_all (λ w. is_write (effect_on l.self w)) (left_from (board l.self.recording) l.self.known l.place l.self.cell.spot 0 l.ways)
    ≡ list_all (λ w. is_write (effect_on l.self w)) (left_from (board l.self.recording) l.self.known l.place l.self.cell.spot l.number (drop l.number l.ways))
