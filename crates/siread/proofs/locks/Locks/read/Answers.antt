use Rattle.std.proofs.Common.{◌∙◌, ap, sym, subst, Some, ◌++◌}
use Rattle.std.proofs.lemmas.Map.Steps.{set_value_same}
use Rattle.std.proofs.lemmas.Result.{on_ok_weaker, on_err_weaker}
use Rattle.std.specs.Prelude.{is_some}
use Rattle.siread.specs.Reads.{CoverAlike, all_of, held_by}
use Rattle.siread.proofs.LocksLemmas.{all-read, apart-tie, before-read, on_ok_of}
use Rattle.siread.proofs.locks.Locks.read.Goals as goal

pub returns-in-Some-clause-before : goal.returns-in-Some-clause-before
returns-in-Some-clause-before g c =
    let written = (c.get_mut.follows.holds c.read.new.self).3 (sym (ap is_some c.in-Some.ensures.value)) in
    on_ok_weaker c.read.result
    (before-read c.args.txn.0 c.args.self.now (c.get_mut.follows.lender c.read.new.self).entries c.in-Some.held.now c.read.new.self (c.in-Some.ensures.value ∙ ap (held_by c.args.txn.0) c.self.view_is) (sym written.1))
    c.read.ensures.before

pub returns-in-Some-clause-read : goal.returns-in-Some-clause-read
returns-in-Some-clause-read g c =
    let written = (c.get_mut.follows.holds c.read.new.self).3 (sym (ap is_some c.in-Some.ensures.value)) in
    on_ok_weaker c.read.result
    (λ a. all-read c.args.txn.0 c.args.self.now (c.get_mut.follows.lender c.read.new.self).entries c.in-Some.held.now c.read.new.self c.args.footprint.now (c.in-Some.ensures.value ∙ ap (held_by c.args.txn.0) c.self.view_is) (sym written.1)
    (subst (λ f. CoverAlike (all_of c.read.new.self) (all_of c.in-Some.held.now ++ f)) c.as_slice.ensures a))
    c.read.ensures.read

pub returns-in-Some-clause-others : goal.returns-in-Some-clause-others
returns-in-Some-clause-others g c =
    let written = (c.get_mut.follows.holds c.read.new.self).3 (sym (ap is_some c.in-Some.ensures.value)) in
    on_ok_of _ c.read.result (λ m apart. written.2 m (apart-tie c.args.txn.0 m apart) ∙ ap (held_by m) c.self.view_is)

pub returns-in-Some-clause-err : goal.returns-in-Some-clause-err
returns-in-Some-clause-err g c =
    on_err_weaker c.read.result
    (λ e. (c.get_mut.follows.holds c.read.new.self).0 ∙ set_value_same _ c.self.inside.held.entries c.read.new.self (sym c.in-Some.ensures.value ∙ ap Some (sym e)) ∙ c.self.view_is)
    c.read.ensures.err
