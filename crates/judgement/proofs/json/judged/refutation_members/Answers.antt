use Rattle.judgement.proofs.JudgedLemmas.{by_certificate, by_stop}
use Rattle.judgement.proofs.json.judged.refutation_members.Goals as goal

pub returns-in-Some-default : goal.returns-in-Some-default
returns-in-Some-default g c = by_certificate c.certificate_members.result c.args.judgement.now.traces.names.items c.args.judgement.now.traces.transactions.items c.args.judgement.now.certificate c.in-Some-default.lines c.args.judgement.now.stop c.in-Some-default.is-0 c.certificate_members.ensures

pub returns-in-None-Some : goal.returns-in-None-Some
returns-in-None-Some g c = by_stop c.stop_members.result c.args.judgement.now.traces.names.items c.args.judgement.now.traces.transactions.items c.args.judgement.now.certificate c.args.judgement.now.stop c.in-None-Some.stop c.in-None-Some.is-0 c.in-None-Some.is-1 c.stop_members.ensures
