use Rattle.certificate.proofs.AmongLemmas.{none-false}
use Rattle.certificate.proofs.rules.is_wayless.Goals as goal

pub returns-in-len1-up : goal.returns-in-len1-up
returns-in-len1-up g c = none-false c.args.ways.now c.in-len1-up.len_at_least
