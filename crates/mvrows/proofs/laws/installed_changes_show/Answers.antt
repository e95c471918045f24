use Rattle.mvrows.proofs.VersionLemmas.{shown-installed}
use Rattle.std.proofs.lemmas.Bool.{le-leb}
use Rattle.mvrows.proofs.laws.installed_changes_show.Goals as goal

pub returns : goal.returns
returns g c = λ tables changes commit snapshot sorted le. shown-installed snapshot commit changes tables sorted (le-leb commit snapshot le)
