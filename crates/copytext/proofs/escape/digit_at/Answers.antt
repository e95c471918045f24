use Rattle.std.proofs.Common.{length, refl}
use Rattle.std.proofs.lemmas.Option.{slice_get_read, slice_get_past}
use Rattle.copytext.proofs.EscapeLemmas.{digit_below}
use Rattle.copytext.proofs.escape.digit_at.Goals as goal

pub returns-in-Some-clause-value : goal.returns-in-Some-clause-value
returns-in-Some-clause-value c =
    let text = c.args.text.now in
    let inside = c.in-Some.ensures.lookup.3.0 in
    rw (slice_get_read text (length text) c.args.place c.in-Some.byte.now refl inside c.in-Some.ensures.lookup.1) (rw c.from.ensures at (digit_below _ _ _ c.to_digit.ensures.value))

pub returns-in-None-clause-value : goal.returns-in-None-clause-value
returns-in-None-clause-value c = rw (slice_get_past c.args.text.now c.args.place c.in-None.ensures.lookup.3) refl
