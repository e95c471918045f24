use Rattle.std.proofs.Common.{◌+◌, ◌∙◌, ap, sym, arith}
use Rattle.std.specs.List.{slice_split}
use Rattle.script.proofs.LineLemmas.{ends_line}
use Rattle.transcript.specs.Places.{with_lines}
use Rattle.transcript.proofs.PlaceLemmas.{ends, goes_on}
use Rattle.transcript.proofs.places.read_places.Goals as goal

pub loop-line-preserved : goal.loop-line-preserved
loop-line-preserved g c =
    let cut = rw c.in-Some.is at c.cut.ensures.value in
    let shorter = rw c.in-Some.is at c.cut.ensures.shorter in
    let within = c.loop-line.invariant.0 in (
      omega (arith, shorter, within),
      ap (λ m. with_lines m (c.loop-line.number + 1) (slice_split ends_line c.in-Some.more.now)) c.in_ok-read_line.ensures.ok
          ∙ sym (goes_on c.loop-line.marks c.loop-line.number c.loop-line.rest.now c.in-Some.line.now c.in-Some.more.now cut) ∙ c.loop-line.invariant.1,
    )

pub returns-clause-ok : goal.returns-clause-ok
returns-clause-ok g c =
    c.into_places.ensures
    ∙ ap (λ m. m.places) (sym (ends c.loop-line.marks c.loop-line.number c.loop-line.rest.now (rw c.in_default.is at c.cut.ensures.value)) ∙ c.loop-line.invariant.1)
