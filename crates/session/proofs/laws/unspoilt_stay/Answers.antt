use Rattle.session.proofs.UnspoiltLemmas.{one_more}
use Rattle.session.proofs.laws.unspoilt_stay.Goals as goal

pub returns : goal.returns
returns c = λ ks k commits ns h e. one_more ks k commits ns h e
