use Rattle.mvrows.proofs.PruningLemmas.{shown-pruned, pruned-pruned, newest-pruned}
use Rattle.mvrows.proofs.laws.pruning_is_hidden.Goals as goal

pub returns-clause-shown : goal.returns-clause-shown
returns-clause-shown g c = λ tables oldest snapshot le. shown-pruned oldest snapshot tables le

pub returns-clause-one : goal.returns-clause-one
returns-clause-one g c = λ tables oldest. pruned-pruned oldest tables

pub returns-clause-newest : goal.returns-clause-newest
returns-clause-newest g c = λ tables oldest t key sorted. newest-pruned oldest tables t key sorted
