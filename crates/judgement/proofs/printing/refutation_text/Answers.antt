use Rattle.judgement.proofs.PlaceLemmas.{by_certificate, by_stop}
use Rattle.judgement.proofs.printing.refutation_text.Goals as goal

pub returns-in-Some-default : goal.returns-in-Some-default
returns-in-Some-default g c = by_certificate c.certificate_text.result c.args.judgement.now.traces.names.items c.args.judgement.now.traces.transactions.items c.args.judgement.now.certificate c.in-Some-default.lines c.args.judgement.now.stop c.in-Some-default.is-0

pub returns-in-None-Some : goal.returns-in-None-Some
returns-in-None-Some g c = by_stop c.stop_text.result c.args.judgement.now.traces.names.items c.args.judgement.now.traces.transactions.items c.args.judgement.now.certificate c.args.judgement.now.stop c.in-None-Some.stop c.in-None-Some.is-0 c.in-None-Some.is-1 c.stop_text.ensures
