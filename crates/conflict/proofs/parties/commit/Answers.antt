use Rattle.std.proofs.Common.{◌≡◌, ◌<◌, ℕ, false, subst, sym}
use Rattle.conflict.specs.Tracked.{Rising, with_commit}
use Rattle.conflict.specs.Walks.{IsAt}
use Rattle.conflict.proofs.Places.{at_within, none_map, other_commit, set_map}
use Rattle.conflict.specs.Undo.{is_tracked}
use Rattle.conflict.proofs.parties.commit.Goals as goal

pub place_of-requires : goal.place_of-requires
place_of-requires g c = subst Rising (sym c.as_slice.ensures.value) c.requires

pub index_mut-requires : goal.index_mut-requires
index_mut-requires g c =
    subst (λ (n : ℕ). c.in-Some.place < n) (sym c.args.parties.now.ok.0)
    (at_within c.args.number c.args.parties.now.items c.in-Some.place (subst (IsAt c.in-Some.place c.args.number) c.as_slice.ensures.value c.in-Some.ensures.some))

pub returns-in-Some : goal.returns-in-Some
returns-in-Some g c =
    set_map (with_commit c.args.number c.args.commit) c.args.number (other_commit c.args.number c.args.commit) c.args.parties.now.items c.in-Some.place c.index_mut.result.now c.commit.new.self c.requires
    (subst (IsAt c.in-Some.place c.args.number) c.as_slice.ensures.value c.in-Some.ensures.some) c.index_mut.ensures.value c.commit.ensures

pub returns-in_default : goal.returns-in_default
returns-in_default g c = none_map (with_commit c.args.number c.args.commit) c.args.number (other_commit c.args.number c.args.commit) c.args.parties.now.items (subst (λ ps. is_tracked c.args.number ps ≡ false) c.as_slice.ensures.value c.in_default.ensures.none)
