use Rattle.std.proofs.Common.{sym, subst, arith, [], true≢false, ◌∙◌}
use Rattle.transactions.specs.Merged.{AreMerged}
use Rattle.transactions.proofs.MergedLemmas.{merged-none}
use Rattle.transactions.proofs.statements.own.OwnChanges.move_merged.Goals as goal

pub invariant_of-self-in_err-into_list : goal.invariant_of-self-in_err-into_list
invariant_of-self-in_err-into_list g c = (omega arith, subst (λ m. AreMerged m []) (sym (c.replace-merged.ensures.after ∙ c.new.ensures)) merged-none, λ e. absurd (true≢false (sym e)))

pub invariant_of-self-2 : goal.invariant_of-self-2
invariant_of-self-2 g c = (omega arith, subst (λ m. AreMerged m []) (sym (c.replace-merged.ensures.after ∙ c.new.ensures)) merged-none, λ e. absurd (true≢false (sym e)))
