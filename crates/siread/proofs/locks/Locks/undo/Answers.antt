use Rattle.std.proofs.Common.{◌∙◌, ap, sym}
use Rattle.std.specs.Prelude.{is_some}
use Rattle.siread.specs.Reads.{held_by}
use Rattle.siread.proofs.LocksLemmas.{apart-tie}
use Rattle.siread.proofs.locks.Locks.undo.Goals as goal
use Rattle.siread.proofs.locks.Locks.undo.Goals.{in-Some, in_default}

pub returns-clause-others : goal.returns-clause-others
returns-clause-others g c = λ m apart. elim c.match-get_mut.branch [
  | in-Some w ↦
      rw w.self-inside-is
      (((c.get_mut.follows.holds w.undo.new.self).3 (sym (ap is_some w.in-Some.ensures.value))).2 m (apart-tie c.args.txn.0 m apart) ∙ ap (held_by m) c.self.view_is)
  | in_default w ↦ rw w.self-inside-is (ap (λ k. held_by m k.entries) c.get_mut.follows.holds-at-none ∙ ap (held_by m) c.self.view_is)
]
