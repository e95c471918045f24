use Rattle.std.proofs.Common.{◌≡◌, ◌==◌, ◌&&◌, not, true, take}
use Rattle.std.specs.List.{list_all}
use Rattle.certificate.specs.Knowledge.{comes_before}
use Rattle.certificate.specs.Recorded.{board}
use Rattle.certificate.proofs.recording.Recording.all_before.Given as goal

-- so far all do
abbrev pub invariant-loop-place : goal.invariant-loop-place
invariant-loop-place g l = list_all (λ z. not (z == l.writer) && comes_before (board l.self) l.known z l.writer) (take l.place-index l.places) ≡ true
