use Rattle.std.proofs.Common.{◌≡◌, refl, sym, ap, ◌∙◌, Bool, cond, Option, Some, None, find}
use Rattle.std.proofs.lemmas.Bool.{and_from}
use Rattle.std.specs.Option.{option_map}
use Rattle.value.specs.Isolation.{Node, cause_from, is_first, is_live, structure}
use Rattle.history.specs.Transactions.{node, reads_from}
use Rattle.transactions.proofs.conflicts.dooms.doom_of.Goals as goal

-- the structure, by what is known of the first
from-map : {T : Type 0} (f : T → Node) (r : T → T → Bool) (b c : T) (o : Option T) → option_map (λ n. structure n (f b) (f c)) (option_map f o) ≡ cause_from f r b c o
from-map f r b c None = refl
from-map f r b c (Some a) = refl

pub returns-in-Some : goal.returns-in-Some
returns-in-Some g c =
    let committer = c.args.committer.now in
    let pivot = c.args.pivot.now in
    let found = find (is_first node reads_from committer c.args.causes.now pivot) c.args.all.now in
    let doomed = and_from (is_live node reads_from committer pivot) (reads_from pivot committer) (sym c.is_live.ensures ∙ c.if-not-is_live.false) (sym c.reads_from.ensures ∙ c.if-not-reads_from.false) in
    ap Some (c.structure.ensures ∙ ap (λ n. structure c.in-Some.first n c.facts-in-Some.result) c.facts.ensures ∙ ap (λ n. structure c.in-Some.first (node pivot) n) c.facts-in-Some.ensures)
    ∙ ap (option_map (λ n. structure n (node pivot) (node committer))) c.in-Some.ensures
    ∙ from-map node reads_from pivot committer found
    ∙ sym (ap (λ b. cond b (cause_from node reads_from pivot committer found) None) doomed)

pub returns-in-None : goal.returns-in-None
returns-in-None g c =
    let committer = c.args.committer.now in
    let pivot = c.args.pivot.now in
    let found = find (is_first node reads_from committer c.args.causes.now pivot) c.args.all.now in
    let doomed = and_from (is_live node reads_from committer pivot) (reads_from pivot committer) (sym c.is_live.ensures ∙ c.if-not-is_live.false) (sym c.reads_from.ensures ∙ c.if-not-reads_from.false) in
    ap (option_map (λ n. structure n (node pivot) (node committer))) c.in-None.ensures
    ∙ from-map node reads_from pivot committer found
    ∙ sym (ap (λ b. cond b (cause_from node reads_from pivot committer found) None) doomed)
