use Rattle.std.proofs.Common.{◌≡◌, drop}
use Rattle.sqltext.specs.Resolving.{each, condition}
use Rattle.sqltext.proofs.EachLemmas.{front_with}
use Rattle.sqltext.proofs.resolve.conditions.Given as goal

abbrev pub invariant-loop-test : goal.invariant-loop-test
invariant-loop-test g l = front_with l.conditions.items (each (condition l.table.columns l.text) (drop l.test-index l.tests)) ≡ each (condition l.table.columns l.text) l.tests
