use Rattle.std.proofs.Common.{◌≡◌, ◌≤◌, sym, ap, subst, ℕ, length, map, sum, rules, arith}
use Rattle.std.specs.List.{All}
use Rattle.std.proofs.lemmas.List.{length-map}
use Rattle.std.proofs.lemmas.List.Elements.{All-weaker}
use Rattle.explore.specs.Outcomes.{AreOf, outcomes}
use Rattle.explore.specs.Sampling.{draws}
use Rattle.explore.specs.Explored.{outcome, turns_of}
use denote.Param.Send.{sendable}
use Rattle.explore.proofs.tally.sample.sampling.Sample.TheSendSync as drawn
use Rattle.explore.proofs.gated.GatedPlan.TheSendSync as gated
use Rattle.explore.proofs.trail.Trail.TheSendSync as trail
use Rattle.explore.proofs.exploring.explore_sample.Goals as goal

pub count_outcomes-requires : goal.count_outcomes-requires
count_outcomes-requires g c κs =
    let s = c.args.sample.now in
    let same : sum s.lines ≡ turns_of c.args.plan.now = ap sum c.requires in
    let shared = c.type_bounds.sync-A in
    let short : All (λ order. length order ≤ turns_of c.args.plan.now) (draws s) =
    All-weaker (λ order. length order ≡ sum s.lines) (λ order. length order ≤ turns_of c.args.plan.now) (λ order e. omega (arith, e, same)) (draws s) (c.draws_have_all_turns.ensures.turns s) in
    let send_a = c.type_bounds.send-A in
    let sync_t = c.type_bounds.sync-T in
    let frees_a = c.type_bounds.frees-A-Allocator in
    let gate_sync = c.type_bounds.sync-G in
    search (rules, sendable, gated.the_sync, drawn.the_sync, trail.the_send, short) depth 60 fits 1000

pub returns-clause-counted : goal.returns-clause-counted
returns-clause-counted g c =
    let orders = draws c.args.sample.now in
    let texts = map (outcome c.args.plan.now) orders in
    subst (AreOf (length orders)) (sym c.in_ok-found.ensures.outcomes)
    (subst (λ (n : ℕ). AreOf n (outcomes texts)) (length-map orders (outcome c.args.plan.now)) (c.outcomes_are_counted.ensures.all texts))
