use Rattle.std.proofs.Common.{is_some, ap, sym}
use Rattle.mvrows.proofs.WholeLemmas.{whole_later, whole_put}
use Rattle.mvrows.proofs.leaf.whole_with.Goals as goal

pub returns-in-Some-clause-put : goal.returns-in-Some-clause-put
returns-in-Some-clause-put g c = λ rows are.
    whole_put c.raised.result c.args.whole c.args.change.now.key (record { number = c.args.commit; fields = c.args.change.now.fields }) rows c.raised.ensures.from c.raised.ensures.known c.raised.ensures.commit (ap is_some (sym c.in-Some.ensures)) are

pub returns-in-Some-clause-same : goal.returns-in-Some-clause-same
returns-in-Some-clause-same g c = λ rows are. whole_later c.raised.result c.args.whole rows c.raised.ensures.from c.raised.ensures.known are
