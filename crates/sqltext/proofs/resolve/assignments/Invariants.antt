use Rattle.std.proofs.Common.{◌≡◌, [], drop}
use Rattle.sqltext.specs.Resolving.{assignments}
use Rattle.sqltext.proofs.EachLemmas.{front_with}
use Rattle.sqltext.proofs.resolve.assignments.Given as goal

abbrev pub invariant-loop-setting : goal.invariant-loop-setting
invariant-loop-setting g l =
    front_with l.assignments.items (assignments l.table.columns l.text l.assignments.items (drop l.setting-index l.settings)) ≡ assignments l.table.columns l.text [] l.settings
