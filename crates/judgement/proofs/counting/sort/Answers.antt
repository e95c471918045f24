use Rattle.std.proofs.lemmas.List.Sorted.{IsNonDecreasingBy-from_sort}
use Rattle.judgement.proofs.counting.sort.Goals as goal

pub returns-clause-ok : goal.returns-clause-ok
returns-clause-ok g c = IsNonDecreasingBy-from_sort (λ b. b) c.sort.new.self.items c.in_ok-sort.ensures.sorted
