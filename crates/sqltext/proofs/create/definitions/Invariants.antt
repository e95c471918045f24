use Rattle.std.proofs.Common.{◌≡◌, drop}
use Rattle.sqltext.specs.Resolving.{each}
use Rattle.sqltext.specs.Creating.{definition, definitions}
use Rattle.sqltext.proofs.EachLemmas.{front_with}
use Rattle.sqltext.proofs.create.definitions.Given as goal

abbrev pub invariant-loop-other : goal.invariant-loop-other
invariant-loop-other g l = front_with l.columns.items (each (definition l.text) (drop l.other-index l.others)) ≡ definitions l.text l.fn.first l.others
