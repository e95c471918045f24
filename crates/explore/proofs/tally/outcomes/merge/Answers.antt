use Rattle.std.proofs.Common.{◌≡◌, sym, ap, ◌∙◌, ◌+◌, ℕ, Some, None, set, arith}
use Rattle.std.specs.List.{position}
use Rattle.explore.specs.Outcomes.{Counted}
use Rattle.explore.proofs.Noted.{has, merged_found, merged_missed, more, room}
use Rattle.explore.proofs.tally.outcomes.merge.Goals as goal

pub add-requires : goal.add-requires
add-requires g c =
    let e : position (has c.args.outcome.text) c.args.found.now.items ≡ Some c.in-Some.place =
    ap (λ y. position (has y) c.args.found.now.items) (sym c.text.ensures) ∙ ap (λ x. position (has c.text.result.now) x) (sym c.as_slice.ensures.value) ∙ sym c.place_of.ensures ∙ c.in-Some.is in
    omega (arith, c.requires, c.runs.ensures, ap (λ (x : Counted). x.runs) c.index_mut.ensures.value, room c.args.found.now.items c.args.outcome c.in-Some.place c.index_mut.result.now e)

pub returns-in-Some : goal.returns-in-Some
returns-in-Some g c =
    let e : position (has c.args.outcome.text) c.args.found.now.items ≡ Some c.in-Some.place =
    ap (λ y. position (has y) c.args.found.now.items) (sym c.text.ensures) ∙ ap (λ x. position (has c.text.result.now) x) (sym c.as_slice.ensures.value) ∙ sym c.place_of.ensures ∙ c.in-Some.is in
    ap (λ x. set c.args.found.now.items c.in-Some.place x) (c.add.ensures ∙ ap (λ (k : ℕ). more k c.index_mut.result.now) c.runs.ensures ∙ ap (more c.args.outcome.runs) c.index_mut.ensures.value)
    ∙ sym (merged_found c.args.found.now.items c.args.outcome c.in-Some.place c.index_mut.result.now e)

pub returns-in_ok-push-in-None : goal.returns-in_ok-push-in-None
returns-in_ok-push-in-None g c =
    let e : position (has c.args.outcome.text) c.args.found.now.items ≡ None =
    ap (λ y. position (has y) c.args.found.now.items) (sym c.text.ensures) ∙ ap (λ x. position (has c.text.result.now) x) (sym c.as_slice.ensures.value) ∙ sym c.place_of.ensures ∙ c.in-None.is in
    c.in_ok-push-in-None.ensures.items ∙ sym (merged_missed c.args.found.now.items c.args.outcome e)
