use Rattle.std.proofs.Common.{◌≡◌, ◌<◌, ◌∙◌, ℕ, false, ap, subst, sym}
use Rattle.conflict.specs.Tracked.{IsSorted, Rising}
use Rattle.conflict.specs.Undo.{is_tracked, without_out}
use Rattle.conflict.specs.Walks.{IsAt}
use Rattle.conflict.proofs.Places.{at_number, at_within, each_at, none_map, other_no_out, set_map}
use Rattle.conflict.proofs.parties.drop_out.Goals as goal

pub place_of-requires : goal.place_of-requires
place_of-requires g c = subst Rising (sym c.as_slice.ensures.value) c.requires.0

pub index_mut-requires : goal.index_mut-requires
index_mut-requires g c =
    subst (λ (n : ℕ). c.in-Some.place < n) (sym c.args.parties.now.ok.0)
    (at_within c.args.reader c.args.parties.now.items c.in-Some.place (subst (IsAt c.in-Some.place c.args.reader) c.as_slice.ensures.value c.in-Some.ensures.some))

pub unread-requires : goal.unread-requires
unread-requires g c =
    (each_at IsSorted c.args.parties.now.items c.in-Some.place c.index_mut.result.now c.requires.1 (at_within c.args.reader c.args.parties.now.items c.in-Some.place (subst (IsAt c.in-Some.place c.args.reader) c.as_slice.ensures.value c.in-Some.ensures.some)) c.index_mut.ensures.value).0

pub returns-in-Some : goal.returns-in-Some
returns-in-Some g c =
    set_map (without_out c.args.reader c.args.writer) c.args.reader (other_no_out c.args.reader c.args.writer) c.args.parties.now.items c.in-Some.place c.index_mut.result.now c.unread.new.self c.requires.0 (subst (IsAt c.in-Some.place c.args.reader) c.as_slice.ensures.value c.in-Some.ensures.some) c.index_mut.ensures.value
    (c.unread.ensures ∙ ap (λ n. without_out n c.args.writer c.index_mut.result.now) (at_number c.args.reader c.args.parties.now.items c.in-Some.place c.index_mut.result.now (subst (IsAt c.in-Some.place c.args.reader) c.as_slice.ensures.value c.in-Some.ensures.some) c.index_mut.ensures.value))

pub returns-in_default : goal.returns-in_default
returns-in_default g c = none_map (without_out c.args.reader c.args.writer) c.args.reader (other_no_out c.args.reader c.args.writer) c.args.parties.now.items (subst (λ ps. is_tracked c.args.reader ps ≡ false) c.as_slice.ensures.value c.in_default.ensures.none)
