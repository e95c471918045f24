use Rattle.mvrows.proofs.VersionLemmas.{shown-hidden_install}
use Rattle.std.proofs.lemmas.Bool.{lt-leb}
use Rattle.mvrows.proofs.laws.later_changes_hide.Goals as goal

pub returns : goal.returns
returns g c = λ tables changes commit snapshot lt. shown-hidden_install snapshot commit changes tables (lt-leb commit snapshot lt)
