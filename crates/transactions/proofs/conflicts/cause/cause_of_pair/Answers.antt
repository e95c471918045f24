use Rattle.std.proofs.Common.{◌≡◌, refl, sym, ap, ◌∙◌, Bool, Option, Some, None}
use Rattle.std.specs.List.{filter}
use Rattle.std.specs.Option.{option_map}
use Rattle.value.specs.Isolation.{Node, caused, earliest, is_dangerous, structure}
use Rattle.history.specs.Transactions.{edge, node}
use Rattle.transactions.proofs.CauseLemmas.{caused-none}
use Rattle.transactions.proofs.conflicts.cause.cause_of_pair.Goals as goal

-- the structure, by what is known of the last
caused-map : {T : Type 0} (f : T → Node) (r : T → T → Bool) (a b : T) (o : Option T) → option_map (λ n. structure (f a) (f b) n) (option_map f o) ≡ caused f r a b o
caused-map f r a b None = refl
caused-map f r a b (Some c) = refl

pub returns-then-not-is_followed : goal.returns-then-not-is_followed
returns-then-not-is_followed g c =
    caused-none node edge c.args.first.now c.args.pivot.now c.args.all.now (sym c.is_followed.ensures ∙ c.if-not-is_followed.true)

pub returns-in-Some : goal.returns-in-Some
returns-in-Some g c =
    let first = c.args.first.now in
    let pivot = c.args.pivot.now in
    ap Some (c.structure.ensures ∙ ap (λ n. structure n c.facts-in-Some.result c.in-Some.last) c.facts.ensures ∙ ap (λ n. structure (node first) n c.in-Some.last) c.facts-in-Some.ensures)
    ∙ ap (option_map (λ n. structure (node first) (node pivot) n)) c.in-Some.ensures
    ∙ caused-map node edge first pivot (earliest node edge (filter (is_dangerous node edge first pivot) c.args.all.now))

pub returns-in-None : goal.returns-in-None
returns-in-None g c =
    let first = c.args.first.now in
    let pivot = c.args.pivot.now in
    ap (option_map (λ n. structure (node first) (node pivot) n)) c.in-None.ensures
    ∙ caused-map node edge first pivot (earliest node edge (filter (is_dangerous node edge first pivot) c.args.all.now))
