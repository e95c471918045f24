use Rattle.std.proofs.Common.{◌≡◌, ◌<◌, ◌∙◌, ℕ, false, ap, subst, sym}
use Rattle.std.proofs.lemmas.Result.{on_ok_weaker, on_err_weaker}
use Rattle.conflict.specs.Tracked.{IsSorted, Party, Rising, with_in}
use Rattle.conflict.specs.Undo.{is_tracked, without_in}
use Rattle.conflict.specs.Walks.{IsAt}
use Rattle.conflict.proofs.Places.{at_number, at_within, each_at, if_ok, none_map, other_in, other_no_in, set_back, set_map, set_same}
use Rattle.conflict.proofs.parties.add_in.Goals as goal

pub place_of-requires : goal.place_of-requires
place_of-requires g c = subst Rising (sym c.as_slice.ensures.value) c.requires.0

pub index_mut-requires : goal.index_mut-requires
index_mut-requires g c =
    subst (λ (n : ℕ). c.in-Some.place < n) (sym c.args.parties.now.ok.0)
    (at_within c.args.writer c.args.parties.now.items c.in-Some.place (subst (IsAt c.in-Some.place c.args.writer) c.as_slice.ensures.value c.in-Some.ensures.some))

pub be_read-requires : goal.be_read-requires
be_read-requires g c =
    (each_at IsSorted c.args.parties.now.items c.in-Some.place c.index_mut.result.now c.requires.1 (at_within c.args.writer c.args.parties.now.items c.in-Some.place (subst (IsAt c.in-Some.place c.args.writer) c.as_slice.ensures.value c.in-Some.ensures.some)) c.index_mut.ensures.value).1

pub returns-in_default-clause-ok : goal.returns-in_default-clause-ok
returns-in_default-clause-ok g c = none_map (with_in c.args.begun c.args.reader c.args.writer) c.args.writer (other_in c.args.begun c.args.reader c.args.writer) c.args.parties.now.items (subst (λ ps. is_tracked c.args.writer ps ≡ false) c.as_slice.ensures.value c.in_default.ensures.none)

pub returns-clause-ok : goal.returns-clause-ok
returns-clause-ok g c =
    on_ok_weaker c.be_read.result
    (λ e. set_map (with_in c.args.begun c.args.reader c.args.writer) c.args.writer (other_in c.args.begun c.args.reader c.args.writer) c.args.parties.now.items c.in-Some.place c.index_mut.result.now c.be_read.new.self c.requires.0 (subst (IsAt c.in-Some.place c.args.writer) c.as_slice.ensures.value c.in-Some.ensures.some) c.index_mut.ensures.value
    (e ∙ ap (λ n. with_in c.args.begun c.args.reader n c.index_mut.result.now) (at_number c.args.writer c.args.parties.now.items c.in-Some.place c.index_mut.result.now (subst (IsAt c.in-Some.place c.args.writer) c.as_slice.ensures.value c.in-Some.ensures.some) c.index_mut.ensures.value)))
    c.be_read.ensures.ok

pub returns-clause-new : goal.returns-clause-new
returns-clause-new g c =
    if_ok c.be_read.result
    (λ x back e. set_back (without_in c.args.reader c.args.writer) c.args.writer (other_no_in c.args.reader c.args.writer) c.args.parties.now.items c.in-Some.place c.index_mut.result.now c.be_read.new.self c.requires.0 (subst (IsAt c.in-Some.place c.args.writer) c.as_slice.ensures.value c.in-Some.ensures.some) c.index_mut.ensures.value
    (ap (λ (p : Party). p.number) (back e)) (ap (λ n. without_in c.args.reader n c.be_read.new.self) (sym (at_number c.args.writer c.args.parties.now.items c.in-Some.place c.index_mut.result.now (subst (IsAt c.in-Some.place c.args.writer) c.as_slice.ensures.value c.in-Some.ensures.some) c.index_mut.ensures.value)) ∙ back e))
    c.be_read.ensures.new

pub returns-clause-same : goal.returns-clause-same
returns-clause-same g c =
    if_ok c.be_read.result
    (λ x same e. set_same c.args.writer c.args.parties.now.items c.in-Some.place c.index_mut.result.now c.be_read.new.self (subst (IsAt c.in-Some.place c.args.writer) c.as_slice.ensures.value c.in-Some.ensures.some) c.index_mut.ensures.value (same e))
    c.be_read.ensures.same

pub returns-clause-err : goal.returns-clause-err
returns-clause-err g c =
    on_err_weaker c.be_read.result
    (λ e. set_same c.args.writer c.args.parties.now.items c.in-Some.place c.index_mut.result.now c.be_read.new.self (subst (IsAt c.in-Some.place c.args.writer) c.as_slice.ensures.value c.in-Some.ensures.some) c.index_mut.ensures.value e)
    c.be_read.ensures.err
