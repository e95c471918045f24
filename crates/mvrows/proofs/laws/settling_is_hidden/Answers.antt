use Rattle.mvrows.proofs.SettlingLemmas.{shown-settled, settled-one, settled-keys_few, newest-settled}
use Rattle.mvrows.proofs.laws.settling_is_hidden.Goals as goal

pub returns-clause-shown : goal.returns-clause-shown
returns-clause-shown g c = λ tables changes needed snapshot read. shown-settled needed snapshot changes tables read

pub returns-clause-one : goal.returns-clause-one
returns-clause-one g c = λ tables changes needed sorted. settled-one needed changes tables sorted

pub returns-clause-few : goal.returns-clause-few
returns-clause-few g c = λ tables changes needed sorted. settled-keys_few needed changes tables sorted

pub returns-clause-newest : goal.returns-clause-newest
returns-clause-newest g c = λ tables changes needed t key sorted. newest-settled needed changes tables t key sorted
