use Rattle.std.proofs.Common.{◌≡◌, ◌∙◌, ◌<◌, ◌-◌, ℕ, suc, ap, subst, sym, length, arith}
use Rattle.conflict.specs.Tracked.{Rising, is_needed}
use Rattle.conflict.specs.Walks.{KnowsReaders}
use Rattle.conflict.proofs.Forgetting.{all_looked_at, goes_next, knows_readers, looked_at, needed_same, next_one, none_looked_at, one_there, sound_removed, stays_next}
use Rattle.conflict.proofs.parties.forget.Goals as goal
use Rattle.conflict.proofs.parties.forget.Goals.{then-not-is_needed, else-not-is_needed}

pub loop-init : goal.loop-init
loop-init g c = (
  none_looked_at (is_needed c.args.oldest c.args.parties.now.items) c.args.parties.now.items c.len-count.result (omega (arith, c.len-count.ensures, c.args.parties.now.ok.0)),
  c.requires,
  omega arith,
  omega (arith, c.len-count.ensures, c.args.parties.now.ok.0),
)

pub index-requires : goal.index-requires
index-requires g c =
    let lt : c.loop.place - 1 < length c.args.parties.now.items = omega (arith, c.loop.invariant.2, c.loop.invariant.3, c.loop-test.true) in
    let one : c.loop.place ≡ suc (c.loop.place - 1) = omega (arith, c.loop.invariant.2, c.loop.invariant.3, c.loop-test.true) in
    subst (λ (n : ℕ). c.loop.place - 1 < n) (sym c.loop.parties.ok.0)
    (one_there (is_needed c.args.oldest c.args.parties.now.items) c.args.parties.now.items c.loop.parties.items (c.loop.place - 1) lt (c.loop.invariant.0 ∙ ap (λ n. looked_at (is_needed c.args.oldest c.args.parties.now.items) n c.args.parties.now.items) one))

pub remove-requires : goal.remove-requires
remove-requires g c =
    let lt : c.loop.place - 1 < length c.args.parties.now.items = omega (arith, c.loop.invariant.2, c.loop.invariant.3, c.loop-test.true) in
    let one : c.loop.place ≡ suc (c.loop.place - 1) = omega (arith, c.loop.invariant.2, c.loop.invariant.3, c.loop-test.true) in
    subst (λ (n : ℕ). c.loop.place - 1 < n) (sym c.loop.parties.ok.0)
    (one_there (is_needed c.args.oldest c.args.parties.now.items) c.args.parties.now.items c.loop.parties.items (c.loop.place - 1) lt (c.loop.invariant.0 ∙ ap (λ n. looked_at (is_needed c.args.oldest c.args.parties.now.items) n c.args.parties.now.items) one))

pub is_needed-requires-clause-rising : goal.is_needed-requires-clause-rising
is_needed-requires-clause-rising g c = subst Rising (sym c.as_slice.ensures.value) c.loop.invariant.1.0

pub is_needed-requires-clause-known : goal.is_needed-requires-clause-known
is_needed-requires-clause-known g c =
    let lt : c.loop.place - 1 < length c.args.parties.now.items = omega (arith, c.loop.invariant.2, c.loop.invariant.3, c.loop-test.true) in
    let one : c.loop.place ≡ suc (c.loop.place - 1) = omega (arith, c.loop.invariant.2, c.loop.invariant.3, c.loop-test.true) in
    subst (λ ps. KnowsReaders ps c.index.result.now) (sym c.as_slice.ensures.value)
    (knows_readers c.loop.parties.items (c.loop.place - 1) c.index.result.now c.loop.invariant.1
    (one_there (is_needed c.args.oldest c.args.parties.now.items) c.args.parties.now.items c.loop.parties.items (c.loop.place - 1) lt (c.loop.invariant.0 ∙ ap (λ n. looked_at (is_needed c.args.oldest c.args.parties.now.items) n c.args.parties.now.items) one))
    c.index.ensures)

pub loop-preserved : goal.loop-preserved
loop-preserved g c =
    let ps = c.args.parties.now.items in
    let k = is_needed c.args.oldest ps in
    let now = c.loop.parties.items in
    let i = c.loop.place - 1 in
    let p = c.index.result.now in
    let lt : i < length ps = omega (arith, c.loop.invariant.2, c.loop.invariant.3, c.loop-test.true) in
    let one : c.loop.place ≡ suc i = omega (arith, c.loop.invariant.2, c.loop.invariant.3, c.loop-test.true) in
    let is = c.loop.invariant.0 ∙ ap (λ n. looked_at k n ps) one in
    let at = next_one k ps now i p lt is c.index.ensures in
    let same = sym (needed_same c.args.oldest ps (suc i) p) ∙ ap (λ xs. is_needed c.args.oldest xs p) (sym (c.as_slice.ensures.value ∙ is)) ∙ sym c.is_needed.ensures in
    elim c.if-not-is_needed.branch [
      | then-not-is_needed w ↦ rw (w.parties-is) (goes_next k ps now w.remove.new.self.items i p lt is at (same ∙ w.if-not-is_needed.true) w.remove.ensures.items, sound_removed now w.remove.new.self.items i p c.loop.invariant.1 (one_there k ps now i lt is) c.index.ensures w.remove.ensures.items, omega (arith, c.loop.invariant.2, one), c.loop.invariant.3)
      | else-not-is_needed w ↦ rw (w.parties-is) (stays_next k ps now i p lt is at (same ∙ w.if-not-is_needed.false), c.loop.invariant.1, omega (arith, c.loop.invariant.2, one), c.loop.invariant.3)
    ]

pub returns : goal.returns
returns g c = all_looked_at (is_needed c.args.oldest c.args.parties.now.items) c.args.parties.now.items c.loop.parties.items c.loop.place (omega (arith, c.loop.invariant.2, c.loop.invariant.3, c.loop-test.false)) c.loop.invariant.0
