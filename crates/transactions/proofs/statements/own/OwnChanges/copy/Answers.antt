use Rattle.std.proofs.Common.{subst, sym, arith, [], true≢false}
use Rattle.transactions.specs.Merged.{AreMerged}
use Rattle.transactions.proofs.MergedLemmas.{merged-none}
use Rattle.transactions.proofs.statements.own.OwnChanges.copy.Goals as goal

pub invariant_of-result : goal.invariant_of-result
invariant_of-result g c = (omega arith, subst (λ m. AreMerged m []) (sym c.new.ensures) merged-none, λ e. absurd (true≢false (sym e)))
