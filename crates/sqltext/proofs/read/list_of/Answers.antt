use Rattle.std.proofs.Common.{length}
use Rattle.std.proofs.lemmas.Result.{err_from_is_err_and}
use Rattle.sqltext.specs.Reading.{list_of}
use Rattle.sqltext.proofs.ListLemmas.{goes_on, fails, ends, is_done}
use Rattle.sqltext.proofs.read.list_of.Goals as goal

pub returns-in_default : goal.returns-in_default
returns-in_default g c =
    ends c.args.separator g.T.Item.reads c.loop.items (length c.in_ok-first.after_first.now) c.loop.counter c.loop.rest.now (list_of c.args.separator g.T.Item.reads c.args.tokens.now)
    c.loop-test.true c.in_default.ensures c.loop.invariant

pub returns-in_err-item : goal.returns-in_err-item
returns-in_err-item g c =
    let p = err_from_is_err_and c.from_residual-in_err-item.result c.from_residual-in_err-item.ensures.1 in
    rw (p.1, p.2) (fails c.args.separator g.T.Item.reads c.in_err-item.field-0.0 c.loop.items (length c.in_ok-first.after_first.now) c.loop.counter c.loop.rest.now c.in-Some.after.now (list_of c.args.separator g.T.Item.reads c.args.tokens.now)
    c.loop-test.true c.in-Some.ensures c.in_err-item.ensures c.loop.invariant)

pub loop-preserved : goal.loop-preserved
loop-preserved g c =
    rw c.in_ok-push-2.ensures.ok (goes_on c.args.separator g.T.Item.reads c.loop.items (length c.in_ok-first.after_first.now) c.loop.counter c.loop.rest.now c.in-Some.after.now c.in_ok-item.item c.in_ok-item.after.now
    (list_of c.args.separator g.T.Item.reads c.args.tokens.now) c.loop-test.true c.in-Some.ensures c.in_ok-item.ensures c.loop.invariant)

pub returns : goal.returns
returns g c =
    is_done c.args.separator g.T.Item.reads c.loop.items (length c.in_ok-first.after_first.now) c.loop.counter c.loop.rest.now (list_of c.args.separator g.T.Item.reads c.args.tokens.now)
    c.loop-test.false c.loop.invariant
