use Rattle.library.proofs.BackingLemmas.{none_viewed}
use Rattle.library.proofs.backing.dump_core.Goals as goal

pub returns-in-Err-View-clause-none : goal.returns-in-Err-View-clause-none
returns-in-Err-View-clause-none g c = none_viewed c.args.core.now c.args.session _ _ c.in-Err-View.field-0 c.in-Err-View.refusal _ _ c.in-Err-View.field-0-is c.in-Err-View.ensures.none
