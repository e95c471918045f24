use Rattle.std.proofs.Common.{◌≡◌, ◌+◌, ◌<◌, ℕ, arith, length, subst}
use Rattle.siread.specs.Adding.{Settles}
use Rattle.siread.proofs.InnerLemmas.{next_within, settles_itself, settles_next}
use Rattle.siread.proofs.held.settle.Goals as goal

pub loop-init : goal.loop-init
loop-init g c =
    let none : c.args.settled ≡ c.args.settled + 0 = omega arith in (
      subst (λ (n : ℕ). Settles c.args.kept.now.items n c.args.kept.now.items c.args.settled) none
          (settles_itself c.args.kept.now.items c.args.settled (omega (arith, c.requires.within)) c.requires.once c.requires.few),
      omega arith,
    )

pub take_in-left-requires-clause-within : goal.take_in-left-requires-clause-within
take_in-left-requires-clause-within g c =
    let lt : c.args.settled + c.loop.counter < length c.args.kept.now.items = omega (arith, c.requires.within, c.loop-test.true) in
    next_within c.args.kept.now.items c.loop.kept.items (c.args.settled + c.loop.counter) c.loop.left lt c.loop.invariant.0

pub take_in-left-requires-clause-once : goal.take_in-left-requires-clause-once
take_in-left-requires-clause-once g c = c.loop.invariant.0.once

pub take_in-left-requires-clause-few : goal.take_in-left-requires-clause-few
take_in-left-requires-clause-few g c = c.loop.invariant.0.before

pub loop-preserved : goal.loop-preserved
loop-preserved g c =
    let lt : c.args.settled + c.loop.counter < length c.args.kept.now.items = omega (arith, c.requires.within, c.loop-test.true) in
    let next : c.args.settled + c.loop.counter + 1 ≡ c.args.settled + (c.loop.counter + 1) = omega arith in (
      subst (λ (n : ℕ). Settles c.args.kept.now.items n c.take_in-left.new.kept.items c.take_in-left.result) next
          (settles_next c.args.kept.now.items c.loop.kept.items c.take_in-left.new.kept.items (c.args.settled + c.loop.counter) c.loop.left c.take_in-left.result lt c.loop.invariant.0 c.take_in-left.ensures),
      omega (arith, c.loop-test.true),
    )

pub returns : goal.returns
returns g c =
    let all : c.loop.counter ≡ c.args.more = omega (arith, c.loop-test.false, c.loop.invariant.1) in
    subst (λ (n : ℕ). Settles c.args.kept.now.items (c.args.settled + n) c.loop.kept.items c.loop.left) all c.loop.invariant.0
