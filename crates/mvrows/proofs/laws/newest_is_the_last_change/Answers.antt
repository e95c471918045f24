use Rattle.mvrows.proofs.NewestLemmas.{newest-opened, newest-installed, newest-last}
use Rattle.mvrows.proofs.laws.newest_is_the_last_change.Goals as goal

pub returns-clause-opening : goal.returns-clause-opening
returns-clause-opening g c = λ tables t key. newest-opened tables t key

pub returns-clause-installed : goal.returns-clause-installed
returns-clause-installed g c = λ tables changes commit t key lt. newest-installed commit changes tables t key lt

pub returns-clause-last : goal.returns-clause-last
returns-clause-last g c = λ tables commits first t key lt. newest-last first commits tables t key lt
