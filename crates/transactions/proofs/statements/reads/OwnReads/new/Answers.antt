use Rattle.std.proofs.Common.{ap, sym, ◌∙◌}
use Rattle.std.specs.Prelude.{flat_map}
use Rattle.siread.specs.Reads.{all_of}
use Rattle.siread.proofs.AlikeLemmas.{alike_equal}
use Rattle.transactions.proofs.statements.reads.OwnReads.new.Goals as goal

pub invariant_of-result : goal.invariant_of-result
invariant_of-result g c = alike_equal (all_of c.new.result) (flat_map (λ v. v.items) c.new-2.result.items) (ap all_of c.new.ensures ∙ sym (ap (flat_map (λ v. v.items)) c.new-2.ensures))
