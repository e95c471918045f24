use Rattle.std.proofs.Common.{◌≡◌, drop}
use Rattle.sqltext.specs.Resolving.{values}
use Rattle.sqltext.proofs.EachLemmas.{front_with}
use Rattle.sqltext.proofs.resolve.values.Given as goal

abbrev pub invariant-loop-literal : goal.invariant-loop-literal
invariant-loop-literal g l = front_with l.values.items (values l.text l.left (drop l.literal-index l.literals)) ≡ values l.text l.columns l.literals
