use Rattle.std.proofs.Common.{◌≡◌, ◌≤◌, sym, ap, ◌∙◌, subst, List, ℕ, length, map, arith}
use Rattle.std.specs.List.{All}
use Rattle.std.proofs.lemmas.List.{length-map}
use Rattle.std.proofs.lemmas.List.Elements.{All-weaker}
use Rattle.explore.specs.Outcomes.{AreOf, outcomes}
use Rattle.explore.specs.Interleavings.{interleavings}
use Rattle.explore.specs.Explored.{line_counts, outcome, sessions, turns_of}
use Rattle.explore.proofs.exploring.explore_in_turn.Goals as goal

pub count_in_turn-requires : goal.count_in_turn-requires
count_in_turn-requires g c =
    let counts = line_counts c.args.plan.now.lines sessions in
    subst (λ (xs : List (List ℕ)). All (λ order. length order ≤ turns_of c.args.plan.now) xs) (sym c.requires)
    (All-weaker (λ order. length order ≡ turns_of c.args.plan.now) (λ order. length order ≤ turns_of c.args.plan.now) (λ order e. omega (arith, e)) (interleavings counts) (c.as_many_turns.ensures counts))

pub returns-clause-outcomes : goal.returns-clause-outcomes
returns-clause-outcomes g c = c.in_ok-found.ensures.outcomes ∙ ap (λ (xs : List (List ℕ)). outcomes (map (outcome c.args.plan.now) xs)) c.requires

pub returns-clause-counted : goal.returns-clause-counted
returns-clause-counted g c =
    let orders = interleavings c.args.all.now in
    let texts = map (outcome c.args.plan.now) orders in
    subst (AreOf (length orders)) (sym c.in_ok-found.ensures.outcomes)
    (subst (λ (n : ℕ). AreOf n (outcomes texts)) (length-map orders (outcome c.args.plan.now)) (c.outcomes_are_counted.ensures.all texts))
