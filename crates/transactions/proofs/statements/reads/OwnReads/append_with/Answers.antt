use Rattle.std.proofs.Common.{ap, sym, subst, ◌∙◌, ◌++◌}
use Rattle.std.specs.Prelude.{flat_map}
use Rattle.siread.specs.Reads.{CoverAlike, all_of}
use Rattle.transactions.proofs.ReadLemmas.{locks-read, locks-undone, one_more}
use Rattle.transactions.proofs.statements.reads.OwnReads.append_with.Goals as goal

pub invariant_of-self-in-Err : goal.invariant_of-self-in-Err
invariant_of-self-in-Err g c =
    locks-undone c.self.inside.locks c.read.new.self c.undo.new.self (flat_map (λ v. v.items) c.self.inside.all.items) c.self.invariant c.in_ok-read.ensures.before c.undo.ensures

pub invariant_of-self-2 : goal.invariant_of-self-2
invariant_of-self-2 g c =
    subst (CoverAlike (all_of c.read.new.self)) (sym (one_more (λ v. v.items) c.self.inside.all.items c.and-self-inside.result.items c.args.reads.now c.and-self-inside.ensures))
    (locks-read c.self.inside.locks c.read.new.self (flat_map (λ v. v.items) c.self.inside.all.items) c.args.reads.now.items c.self.invariant
    (subst (λ rs. CoverAlike (all_of c.read.new.self) (all_of c.self.inside.locks ++ rs)) c.as_slice.ensures.value c.in_ok-read.ensures.read))

pub returns-clause-read : goal.returns-clause-read
returns-clause-read g c = one_more (λ v. v.items) c.self.inside.all.items c.and-self-inside.result.items c.args.reads.now c.and-self-inside.ensures ∙ ap (λ rs. rs ++ c.args.reads.now.items) c.self.view_is
