use Rattle.std.proofs.Common.{◌≡◌, ◌==◌, ◌||◌, true, take}
use Rattle.std.specs.List.{list_all}
use Rattle.certificate.specs.Knowledge.{comes_before}
use Rattle.certificate.specs.Recorded.{board}
use Rattle.certificate.proofs.recording.Recording.is_before_all.Given as goal

-- so far it is
abbrev pub invariant-loop-place : goal.invariant-loop-place
invariant-loop-place g l = list_all (λ z. z == l.first || comes_before (board l.self) l.known l.first z) (take l.place-index l.places) ≡ true
