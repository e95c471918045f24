use Rattle.mvrows.proofs.VersionLemmas.{installed-in_order, installed-below}
use Rattle.mvrows.proofs.PruningLemmas.{pruned-in_order, pruned-below}
use Rattle.mvrows.proofs.SettlingLemmas.{settled-in_order, settled-below}
use Rattle.mvrows.proofs.laws.versions_stay_ordered.Goals as goal

pub returns-clause-order : goal.returns-clause-order
returns-clause-order g c = λ tables changes commit oldest needed sorted. (installed-in_order commit changes tables sorted, pruned-in_order oldest tables sorted, settled-in_order needed changes tables sorted)

pub returns-clause-below : goal.returns-clause-below
returns-clause-below g c = λ tables changes commit next oldest needed lt below. (installed-below next commit changes tables lt below, pruned-below next oldest tables below, settled-below next needed changes tables below)
