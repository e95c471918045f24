use Rattle.certificate.proofs.AmongLemmas.{none-false}
use Rattle.certificate.proofs.sources.are_none.Goals as goal

pub returns-in-len1-up : goal.returns-in-len1-up
returns-in-len1-up c = none-false c.args.places.now c.in-len1-up.len_at_least
