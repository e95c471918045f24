use Rattle.std.proofs.Common.{subst, sym, ◌∙◌, []}
use Rattle.transactions.specs.Merged.{AreMerged}
use Rattle.transactions.proofs.MergedLemmas.{merged-all, merged-none}
use Rattle.transactions.proofs.statements.own.OwnChanges.merge.Goals as goal

pub merge_rest-requires-clause-merged : goal.merge_rest-requires-clause-merged
merge_rest-requires-clause-merged g c = subst (λ m. AreMerged m []) (sym c.new-merged.ensures) merged-none

pub returns-clause-ok : goal.returns-clause-ok
returns-clause-ok g c =
    subst (AreMerged c.merge_rest.new.merged) (c.as_slice.ensures.value ∙ c.self.view_is)
    (merged-all c.merge_rest.new.merged c.as_slice.result.now c.merge_rest.new.count c.in_ok-merge_rest.ensures.ok c.in_ok-merge_rest.ensures.merged)
