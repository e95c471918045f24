use Rattle.std.proofs.Common.{◌≡◌, ◌∙◌, ◌<◌, ℕ, subst, sym}
use Rattle.conflict.specs.Tracked.{Ascending}
use Rattle.conflict.specs.Undo.{IsPlace}
use Rattle.conflict.specs.Tracked.{without}
use Rattle.conflict.proofs.numbers.take_out.Goals as goal

pub position-requires : goal.position-requires
position-requires g c = subst Ascending (sym c.as_slice.ensures.value) c.requires

pub remove-requires : goal.remove-requires
remove-requires g c = subst (λ (n : ℕ). c.in-Some.place < n) (sym c.args.numbers.now.ok.0) (subst (IsPlace c.in-Some.place c.args.number) c.as_slice.ensures.value c.in-Some.ensures.some).0

pub returns-in-Some : goal.returns-in-Some
returns-in-Some g c = c.remove.ensures.items ∙ (subst (IsPlace c.in-Some.place c.args.number) c.as_slice.ensures.value c.in-Some.ensures.some).1

pub returns-in_default : goal.returns-in_default
returns-in_default g c = sym (subst (λ ns. without c.args.number ns ≡ ns) c.as_slice.ensures.value c.in_default.ensures.none)
