use Rattle.std.proofs.Common.{◌≡◌, true, take}
use Rattle.std.specs.List.{list_all}
use Rattle.certificate.specs.Recorded.{board}
use Rattle.certificate.specs.Rules.{leaves_only}
use Rattle.certificate.specs.Views.{asking}
use Rattle.certificate.proofs.sources.CellView.all_leave_only.Given as goal

-- so far all do
abbrev pub invariant-loop-place : goal.invariant-loop-place
invariant-loop-place g l = list_all (λ z. leaves_only (board l.self.recording) l.self.known (asking l.self l.asked) l.state l.self.cell z) (take l.place-index l.places) ≡ true
