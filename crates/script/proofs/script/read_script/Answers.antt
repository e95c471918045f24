use Rattle.std.proofs.Common.{◌≡◌, ◌⊎◌, ℕ, Err, inl, inr, sym, subst, ◌∙◌, arith}
use mathlib.Core.Logic.{⊎_elim}
use Rattle.script.specs.Scripts.{said}
use Rattle.script.proofs.SaidLemmas.{ended, goes_on, is_faulty, unended}
use Rattle.script.proofs.script.read_script.Goals as goal

pub returns-in-Err : goal.returns-in-Err
returns-in-Err g c =
    let faulty = is_faulty c.args.schedule c.loop-line.script c.loop-line.number c.loop-line.rest.now c.in-Some.line.now c.in-Some.more.now c.in-Err.error (rw c.in-Some.is at c.cut.ensures.value) (rw c.in-Err.is at c.read_line.ensures.err) in
    subst (λ (n : ℕ). (n ≡ 0) ⊎ (said c.args.schedule c.args.text.now ≡ Err n)) (sym c.fault_of.ensures)
    (⊎_elim inl (λ e. inr (sym c.loop-line.invariant.0 ∙ e)) faulty)

pub returns-then-is_empty : goal.returns-then-is_empty
returns-then-is_empty g c =
    sym c.loop-line.invariant.0 ∙ ended c.args.schedule c.loop-line.script c.loop-line.number c.loop-line.rest.now (rw c.in_default.is at c.cut.ensures.value) (sym c.is_empty.ensures ∙ c.if-is_empty.true)

pub loop-line-preserved : goal.loop-line-preserved
loop-line-preserved g c =
    let cut = rw c.in-Some.is at c.cut.ensures.value in
    let shorter = rw c.in-Some.is at c.cut.ensures.shorter in
    let counted = c.loop-line.invariant.1 in
    (sym (goes_on c.args.schedule c.loop-line.script c.read_line.new.self c.loop-line.number c.loop-line.rest.now c.in-Some.line.now c.in-Some.more.now cut (rw c.in_default-read_line.is at c.read_line.ensures.ok)) ∙ c.loop-line.invariant.0, omega (arith, shorter, counted))

pub returns-else-is_empty : goal.returns-else-is_empty
returns-else-is_empty g c =
    inr (sym c.loop-line.invariant.0 ∙ unended c.args.schedule c.loop-line.script c.loop-line.number c.loop-line.rest.now (rw c.in_default.is at c.cut.ensures.value) (sym c.is_empty.ensures ∙ c.if-is_empty.false))
