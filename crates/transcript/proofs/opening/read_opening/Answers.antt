use Rattle.std.proofs.Common.{◌∙◌, ap, sym, inl, inr, arith}
use mathlib.Core.Logic.{⊎_elim}
use Rattle.script.proofs.LineLemmas.{some_part}
use Rattle.script.proofs.CutLemmas.{counted}
use Rattle.transcript.specs.Opening.{with_line, without_end}
use Rattle.transcript.specs.Reasons.{reason_in}
use Rattle.transcript.proofs.ReadingLemmas.{ended, goes_on, is_faulty, unended}
use Rattle.transcript.proofs.opening.read_opening.Goals as goal

pub returns-in-Err-clause-line : goal.returns-in-Err-clause-line
returns-in-Err-clause-line g c =
    let left = some_part c.loop-line.rest.now in
    let counts = c.loop-line.invariant.0 in
    let first = c.loop-line.invariant.2 in
    (first, omega (arith, left, counts))

pub returns-in-Err-clause-reads : goal.returns-in-Err-clause-reads
returns-in-Err-clause-reads g c =
    let faulty = is_faulty (λ o n line. with_line o line) c.loop-line.opening c.loop-line.number c.loop-line.rest.now c.in-Some.line.now c.in-Some.more.now c.in-Err.error (rw c.in-Some.is at c.cut.ensures.value) (rw c.in-Err.is at c.read_line.ensures.err) in
    ⊎_elim (λ m. inl (c.of_line.ensures ∙ ap (reason_in c.in-Some.line.now) (c.reason.ensures ∙ m))) (λ e. inr (ap without_end (sym c.loop-line.invariant.3 ∙ e))) faulty

pub loop-line-preserved : goal.loop-line-preserved
loop-line-preserved g c =
    let cut = rw c.in-Some.is at c.cut.ensures.value in
    let fewer = counted c.loop-line.rest.now c.in-Some.line.now c.in-Some.more.now cut in
    let shorter = rw c.in-Some.is at c.cut.ensures.shorter in
    let counts = c.loop-line.invariant.0 in
    let within = c.loop-line.invariant.1 in (
      omega (arith, fewer, counts),
      omega (arith, shorter, within),
      omega (arith),
      sym (goes_on (λ o n line. with_line o line) c.loop-line.opening c.read_line.new.self c.loop-line.number c.loop-line.rest.now c.in-Some.line.now c.in-Some.more.now cut (rw c.in_default-read_line.is at c.read_line.ensures.ok)) ∙ c.loop-line.invariant.3,
    )

pub returns-else-is_empty-clause-line : goal.returns-else-is_empty-clause-line
returns-else-is_empty-clause-line g c =
    let left = some_part c.loop-line.rest.now in
    let counts = c.loop-line.invariant.0 in
    let first = c.loop-line.invariant.2 in
    (first, omega (arith, left, counts))

pub returns-else-is_empty-clause-reads : goal.returns-else-is_empty-clause-reads
returns-else-is_empty-clause-reads g c =
    inr (ap without_end (sym c.loop-line.invariant.3
    ∙ unended (λ o n line. with_line o line) c.loop-line.opening c.loop-line.number c.loop-line.rest.now (rw c.in_default.is at c.cut.ensures.value) (sym c.is_empty.ensures ∙ c.if-is_empty.false)))

pub returns-then-is_empty-clause-reads : goal.returns-then-is_empty-clause-reads
returns-then-is_empty-clause-reads g c =
    ap without_end (sym c.loop-line.invariant.3
    ∙ ended (λ o n line. with_line o line) c.loop-line.opening c.loop-line.number c.loop-line.rest.now (rw c.in_default.is at c.cut.ensures.value) (sym c.is_empty.ensures ∙ c.if-is_empty.true))
