use Rattle.std.proofs.Common.{◌≡◌, ◌<◌, ◌∙◌, ℕ, false, subst, sym}
use Rattle.conflict.specs.Tracked.{Rising}
use Rattle.conflict.specs.Walks.{IsAt}
use Rattle.conflict.specs.Undo.{is_tracked}
use Rattle.conflict.proofs.Places.{active_at, at_within, idle_stays, none_goes}
use Rattle.conflict.proofs.parties.remove.Goals as goal

pub place_of-requires : goal.place_of-requires
place_of-requires g c = subst Rising (sym c.as_slice.ensures.value) c.requires.0

pub index-requires : goal.index-requires
index-requires g c =
    subst (λ (n : ℕ). c.in-Some.place < n) (sym c.args.parties.now.ok.0)
    (at_within c.args.number c.args.parties.now.items c.in-Some.place (subst (IsAt c.in-Some.place c.args.number) c.as_slice.ensures.value c.in-Some.ensures.some))

pub remove_at-requires-clause-at : goal.remove_at-requires-clause-at
remove_at-requires-clause-at g c = subst (IsAt c.in-Some.place c.args.number) c.as_slice.ensures.value c.in-Some.ensures.some

pub remove_at-requires-clause-active : goal.remove_at-requires-clause-active
remove_at-requires-clause-active g c =
    active_at c.args.parties.now.items c.in-Some.place c.index.result.now
    (at_within c.args.number c.args.parties.now.items c.in-Some.place (subst (IsAt c.in-Some.place c.args.number) c.as_slice.ensures.value c.in-Some.ensures.some)) c.index.ensures (sym c.is_active.ensures ∙ c.if-is_active.true)

pub returns-else-is_active : goal.returns-else-is_active
returns-else-is_active g c =
    idle_stays c.args.number c.args.parties.now.items c.in-Some.place c.index.result.now c.requires.0 (subst (IsAt c.in-Some.place c.args.number) c.as_slice.ensures.value c.in-Some.ensures.some) c.index.ensures (sym c.is_active.ensures ∙ c.if-is_active.false)

pub returns-in_default : goal.returns-in_default
returns-in_default g c = none_goes c.args.number c.args.parties.now.items (subst (λ ps. is_tracked c.args.number ps ≡ false) c.as_slice.ensures.value c.in_default.ensures.none)
