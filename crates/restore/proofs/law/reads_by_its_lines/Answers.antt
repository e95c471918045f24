use Rattle.std.proofs.Common.{◌≡◌, Option, Some, None, Ok, Err, [], refl, ap}
use Rattle.schema.specs.Definition.{Catalog}
use Rattle.schema.specs.declared.tables.Tables.{Tables}
use Rattle.restore.specs.declared.error.RestoreFault.{RestoreFault}
use Rattle.restore.specs.Faults.{first_fault}
use Rattle.restore.specs.Reading.{lines_of, ended_lines, said_by, unless_faulty}
use Rattle.restore.proofs.faults.First.{is_first, first_is, none_is, is_none}
use Rattle.restore.proofs.law.reads_by_its_lines.Goals as goal

module _ {A : Type 0} where
  fault_told : (o : Option RestoreFault) (said : Catalog × Tables A) (f : RestoreFault) → unless_faulty o said ≡ Err f → o ≡ Some f
  fault_told (Some g) said f e = cc
  fault_told None said f e = absurd cc

  no_fault_told : (o : Option RestoreFault) (said : Catalog × Tables A) (c : Catalog) (X : Tables A) → unless_faulty o said ≡ Ok (c, X) → o ≡ None
  no_fault_told (Some g) said c X e = absurd cc
  no_fault_told None said c X e = refl

pub returns-clause-faulty : goal.returns-clause-faulty
returns-clause-faulty g c = λ dump f h. ap (λ (o : Option RestoreFault). unless_faulty o (said_by (ended_lines dump))) (is_first g.row.A.Denot (lines_of dump) f h)

pub returns-clause-only_faulty : goal.returns-clause-only_faulty
returns-clause-only_faulty g c = λ dump f e. first_is g.row.A.Denot (lines_of dump) f (fault_told (first_fault g.row.A.Denot [] (lines_of dump)) (said_by (ended_lines dump)) f e)

pub returns-clause-whole : goal.returns-clause-whole
returns-clause-whole g c = λ dump h. ap (λ (o : Option RestoreFault). unless_faulty o (said_by (ended_lines dump))) (none_is g.row.A.Denot (lines_of dump) h)

pub returns-clause-only_whole : goal.returns-clause-only_whole
returns-clause-only_whole g c = λ dump catalog X e. is_none g.row.A.Denot (lines_of dump) (no_fault_told (first_fault g.row.A.Denot [] (lines_of dump)) (said_by (ended_lines dump)) catalog X e)
