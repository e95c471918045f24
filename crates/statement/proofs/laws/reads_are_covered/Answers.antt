use Rattle.statement.proofs.CoverLemmas.{covers_reads, covers_values}
use Rattle.statement.proofs.laws.reads_are_covered.Goals as goal

pub returns-clause-keys : goal.returns-clause-keys
returns-clause-keys g c = λ rs t k r. covers_reads rs t k r

pub returns-clause-references : goal.returns-clause-references
returns-clause-references g c = λ rs t j k r. covers_values rs t j k r
