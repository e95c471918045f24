use Rattle.std.proofs.Common.{◌≡◌, ◌≤◌, sym, ap, ◌∙◌, subst, List, ℕ, length, map, rules, arith}
use Rattle.std.specs.List.{All}
use Rattle.std.proofs.lemmas.List.{length-map}
use Rattle.std.proofs.lemmas.List.Elements.{All-weaker}
use Rattle.explore.specs.Outcomes.{AreOf, outcomes}
use Rattle.explore.specs.Interleavings.{interleavings}
use Rattle.explore.specs.Explored.{line_counts, outcome, sessions, turns_of}
use denote.Param.Send.{sendable}
use Rattle.explore.proofs.tally.interleave.interleavings.Interleavings.TheSendSync as all
use Rattle.explore.proofs.gated.GatedPlan.TheSendSync as gated
use Rattle.explore.proofs.trail.Trail.TheSendSync as trail
use Rattle.explore.proofs.exploring.explore.Goals as goal

pub count_outcomes-requires : goal.count_outcomes-requires
count_outcomes-requires g c κs =
    let shared = c.type_bounds.sync-A in
    let counts = line_counts c.args.plan.now.lines sessions in
    let short : All (λ order. length order ≤ turns_of c.args.plan.now) (interleavings c.args.all.now) =
    subst (λ (xs : List (List ℕ)). All (λ order. length order ≤ turns_of c.args.plan.now) xs) (sym c.requires)
    (All-weaker (λ order. length order ≡ turns_of c.args.plan.now) (λ order. length order ≤ turns_of c.args.plan.now) (λ order e. omega (arith, e)) (interleavings counts) (c.as_many_turns.ensures counts)) in
    let send_a = c.type_bounds.send-A in
    let sync_t = c.type_bounds.sync-T in
    let frees_a = c.type_bounds.frees-A-Allocator in
    let gate_sync = c.type_bounds.sync-G in
    search (rules, sendable, gated.the_sync, all.the_sync, trail.the_send, short) depth 60 fits 1000

pub returns-clause-outcomes : goal.returns-clause-outcomes
returns-clause-outcomes g c = c.in_ok-found.ensures.outcomes ∙ ap (λ (xs : List (List ℕ)). outcomes (map (outcome c.args.plan.now) xs)) c.requires

pub returns-clause-counted : goal.returns-clause-counted
returns-clause-counted g c =
    let orders = interleavings c.args.all.now in
    let texts = map (outcome c.args.plan.now) orders in
    subst (AreOf (length orders)) (sym c.in_ok-found.ensures.outcomes)
    (subst (λ (n : ℕ). AreOf n (outcomes texts)) (length-map orders (outcome c.args.plan.now)) (c.outcomes_are_counted.ensures.all texts))
