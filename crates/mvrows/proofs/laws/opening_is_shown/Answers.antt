use Rattle.mvrows.proofs.VersionLemmas.{shown-opened}
use Rattle.mvrows.proofs.HeldLemmas.{opened-all_in_order, opened-below}
use Rattle.mvrows.proofs.laws.opening_is_shown.Goals as goal

pub returns-clause-shown : goal.returns-clause-shown
returns-clause-shown g c = λ tables snapshot. shown-opened snapshot tables

pub returns-clause-first : goal.returns-clause-first
returns-clause-first g c = λ tables commit sorted positive. (opened-all_in_order tables sorted, opened-below commit tables positive)
