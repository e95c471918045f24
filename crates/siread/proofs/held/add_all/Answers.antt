use Rattle.std.proofs.Common.{sym, ◌++◌, [], append-nil}
use Rattle.siread.proofs.AlikeLemmas.{alike_equal}
use Rattle.siread.proofs.HeldLemmas.{alike_next, grows_itself, grows_then}
use Rattle.siread.proofs.held.add_all.Goals as goal

pub loop-reading-init : goal.loop-reading-init
loop-reading-init g c = (
  grows_itself c.args.settled c.args.kept.now.items c.requires.within c.requires.once c.requires.few,
  alike_equal c.args.kept.now.items (c.args.kept.now.items ++ []) (sym (append-nil c.args.kept.now.items)),
)

pub add-requires-clause-within : goal.add-requires-clause-within
add-requires-clause-within g c = c.loop-reading.invariant.0.within

pub add-requires-clause-once : goal.add-requires-clause-once
add-requires-clause-once g c = c.loop-reading.invariant.0.once

pub add-requires-clause-few : goal.add-requires-clause-few
add-requires-clause-few g c = c.loop-reading.invariant.0.last

pub returns-in_err-add-clause-kept : goal.returns-in_err-add-clause-kept
returns-in_err-add-clause-kept g c = grows_then c.args.settled c.args.kept.now.items c.loop-reading.kept.items c.add.new.kept.items c.loop-reading.invariant.0 c.in_err-add.ensures.kept

pub loop-reading-preserved : goal.loop-reading-preserved
loop-reading-preserved g c = (
  grows_then c.args.settled c.args.kept.now.items c.loop-reading.kept.items c.add.new.kept.items c.loop-reading.invariant.0 c.in_ok-add.ensures.kept,
  alike_next c.args.kept.now.items c.loop-reading.kept.items c.add.new.kept.items c.args.readings.now c.loop-reading.reading-index c.reading-item.result c.loop-reading-test.true c.reading-item.is c.loop-reading.invariant.1 c.in_ok-add.ensures.ok,
)
