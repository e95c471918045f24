use Rattle.std.proofs.Common.{◌∙◌, ap, sym, inr, arith}
use Rattle.script.proofs.LineLemmas.{some_part}
use Rattle.script.proofs.CutLemmas.{counted}
use Rattle.transcript.specs.Reading.{with_line}
use Rattle.transcript.specs.Reasons.{reason_in}
use Rattle.transcript.proofs.ReadingLemmas.{ended, goes_on, is_faulty, names_it, names_or_lacks, unended}
use Rattle.transcript.proofs.traces.read_lines.Goals as goal

pub returns-in-Err-clause-line : goal.returns-in-Err-clause-line
returns-in-Err-clause-line g c =
    let left = some_part c.loop-line.rest.now in
    let counts = c.loop-line.invariant.0 in
    let first = c.loop-line.invariant.2 in
    let at = c.at.ensures.line in
    (omega (arith, at, first), omega (arith, at, left, counts))

pub returns-in-Err-clause-reads : goal.returns-in-Err-clause-reads
returns-in-Err-clause-reads g c =
    let faulty = is_faulty (with_line c.args.catalog.now) c.loop-line.reader c.loop-line.number c.loop-line.rest.now c.in-Some.line.now c.in-Some.more.now c.in-Err.error (rw c.in-Some.is at c.cut.ensures.value) (rw c.in-Err.is at c.read_line.ensures.err) in
    names_or_lacks _ _ c.loop-line.number c.at.result.line c.loop-line.invariant.3 c.at.ensures.line c.in-Err.error c.at.result.reason (λ m. c.at.ensures.reason ∙ c.of_line.ensures ∙ ap (reason_in c.in-Some.line.now) (c.reason.ensures ∙ m)) faulty

pub loop-line-preserved : goal.loop-line-preserved
loop-line-preserved g c =
    let cut = rw c.in-Some.is at c.cut.ensures.value in
    let fewer = counted c.loop-line.rest.now c.in-Some.line.now c.in-Some.more.now cut in
    let shorter = rw c.in-Some.is at c.cut.ensures.shorter in
    let counts = c.loop-line.invariant.0 in
    let within = c.loop-line.invariant.1 in (
      omega (arith, fewer, counts),
      omega (arith, shorter, within),
      omega (arith),
      sym (goes_on (with_line c.args.catalog.now) c.loop-line.reader c.read_line.new.self c.loop-line.number c.loop-line.rest.now c.in-Some.line.now c.in-Some.more.now cut (rw c.in_default-read_line.is at c.read_line.ensures.ok)) ∙ c.loop-line.invariant.3,
    )

pub returns-else-is_empty-clause-line : goal.returns-else-is_empty-clause-line
returns-else-is_empty-clause-line g c =
    let left = some_part c.loop-line.rest.now in
    let counts = c.loop-line.invariant.0 in
    let first = c.loop-line.invariant.2 in
    let at = c.at-else-is_empty.ensures.line in
    (omega (arith, at, first), omega (arith, at, left, counts))

pub returns-else-is_empty-clause-reads : goal.returns-else-is_empty-clause-reads
returns-else-is_empty-clause-reads g c =
    inr (names_it _ _ c.loop-line.number c.at-else-is_empty.result.line c.loop-line.invariant.3 c.at-else-is_empty.ensures.line
    (unended (with_line c.args.catalog.now) c.loop-line.reader c.loop-line.number c.loop-line.rest.now (rw c.in_default.is at c.cut.ensures.value) (sym c.is_empty.ensures ∙ c.if-is_empty.false)))

pub returns-then-is_empty-clause-end : goal.returns-then-is_empty-clause-end
returns-then-is_empty-clause-end g c =
    let left = some_part c.loop-line.rest.now in
    let counts = c.loop-line.invariant.0 in
    let first = c.loop-line.invariant.2 in
    (first, omega (arith, left, counts))

pub returns-then-is_empty-clause-reads : goal.returns-then-is_empty-clause-reads
returns-then-is_empty-clause-reads g c =
    sym c.loop-line.invariant.3
    ∙ ended (with_line c.args.catalog.now) c.loop-line.reader c.loop-line.number c.loop-line.rest.now (rw c.in_default.is at c.cut.ensures.value) (sym c.is_empty.ensures ∙ c.if-is_empty.true)
