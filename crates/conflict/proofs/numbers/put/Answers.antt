use Rattle.std.proofs.Common.{◌≡◌, ◌∙◌, ◌≤◌, ℕ, ap, subst, sym}
use Rattle.conflict.specs.Tracked.{Ascending, put_in}
use Rattle.conflict.specs.Undo.{IsGap}
use Rattle.conflict.specs.Tracked.{without}
use Rattle.conflict.proofs.numbers.put.Goals as goal

pub gap-requires : goal.gap-requires
gap-requires g c = subst Ascending (sym c.as_slice.ensures.value) c.requires

pub insert-requires : goal.insert-requires
insert-requires g c = subst (λ (n : ℕ). c.in-Some.place ≤ n) (sym c.args.numbers.now.ok.0) (subst (IsGap c.in-Some.place c.args.number) c.as_slice.ensures.value c.in-Some.ensures.some).0

pub returns-in_default-clause-ok : goal.returns-in_default-clause-ok
returns-in_default-clause-ok g c = sym (subst (λ ns. put_in c.args.number ns ≡ ns) c.as_slice.ensures.value c.in_default.ensures.none)

pub returns-clause-ok : goal.returns-clause-ok
returns-clause-ok g c = c.in_ok-insert.ensures.items ∙ (subst (IsGap c.in-Some.place c.args.number) c.as_slice.ensures.value c.in-Some.ensures.some).1

pub returns-clause-new : goal.returns-clause-new
returns-clause-new g c = λ e. ap (without c.args.number) (c.in_ok-insert.ensures.items ∙ (subst (IsGap c.in-Some.place c.args.number) c.as_slice.ensures.value c.in-Some.ensures.some).1) ∙ (subst (IsGap c.in-Some.place c.args.number) c.as_slice.ensures.value c.in-Some.ensures.some).2
