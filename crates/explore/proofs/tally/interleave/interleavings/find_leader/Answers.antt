use Rattle.std.proofs.Common.{◌≡◌, ◌<◌, ◌≤◌, ◌+◌, ◌-◌, ◌∙◌, [], ap, subst, sym, length, get_or, arith, ℕ}
use Rattle.explore.specs.Interleavings.{interleavings}
use Rattle.explore.proofs.Leading.{from, led, start, has_line, leads-number, taken, passed, passed-within}
use Rattle.explore.proofs.tally.interleave.interleavings.find_leader.Goals as goal

pub loop-session-init : goal.loop-session-init
loop-session-init c =
    let e : interleavings c.args.lines.now ≡ from c.args.lines.now c.args.all 0 = start c.args.lines.now c.args.all c.requires.all c.requires.some in
    (omega (arith, ap length e), ap (λ x. get_or x c.args.place []) e)

pub returns-then-number-led-clause-led : goal.returns-then-number-led-clause-led
returns-then-number-led-clause-led c =
    let h : c.loop-session.session < length c.args.lines.now = omega arith in
    c.share_of-led.ensures ∙ leads-number c.args.lines.now c.args.all c.loop-session.session c.requires.all h
    (has_line c.args.lines.now c.args.all c.loop-session.session (omega (arith, c.share_of-led.ensures)))

pub returns-then-number-led-clause-has : goal.returns-then-number-led-clause-has
returns-then-number-led-clause-has c = has_line c.args.lines.now c.args.all c.loop-session.session (omega (arith, c.share_of-led.ensures))

pub returns-then-number-led-clause-order : goal.returns-then-number-led-clause-order
returns-then-number-led-clause-order c =
    c.loop-session.invariant.1 ∙ taken c.args.lines.now c.args.all c.loop-session.session c.loop-session.number c.requires.all (omega arith) (omega (arith, c.share_of-led.ensures))

pub loop-session-preserved : goal.loop-session-preserved
loop-session-preserved c =
    let h : c.loop-session.session < length c.args.lines.now = omega arith in
    let n : length (led c.args.lines.now c.args.all c.loop-session.session) ≤ c.loop-session.number = omega (arith, c.share_of-led.ensures) in
    let P : ℕ → Type 0 = λ x. (c.loop-session.number - x < length (from c.args.lines.now c.args.all (c.loop-session.session + 1))) × (get_or (interleavings c.args.lines.now) c.args.place [] ≡ get_or (from c.args.lines.now c.args.all (c.loop-session.session + 1)) (c.loop-session.number - x) []) in
    subst P (sym c.share_of-led.ensures) (
      passed-within c.args.lines.now c.args.all c.loop-session.session c.loop-session.number h n c.loop-session.invariant.0,
      c.loop-session.invariant.1 ∙ passed c.args.lines.now c.args.all c.loop-session.session c.loop-session.number h n,
    )
