use Rattle.judgement.proofs.JudgedLemmas.{by_order}
use Rattle.judgement.proofs.json.judged.reasons_members.Goals as goal

pub returns-in-Yes : goal.returns-in-Yes
returns-in-Yes g c = by_order c.order_members.result c.args.judgement.now.traces.names.items c.as_slice.result.now c.args.judgement.now.traces.transactions.items c.args.judgement.now.answer c.in-Yes.order c.as_slice-in-Yes.result.now c.args.judgement.now.certificate c.args.judgement.now.stop c.in-Yes.is c.as_slice.ensures.value c.as_slice-in-Yes.ensures.value c.order_members.ensures
