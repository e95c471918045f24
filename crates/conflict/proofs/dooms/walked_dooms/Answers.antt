use Rattle.std.proofs.Common.{arith, []}
use Rattle.conflict.specs.Walks.{with_walked}
use Rattle.conflict.proofs.Found.{fold_next}
use Rattle.conflict.proofs.WalkedDooms.{lives_next, room_found}
use Rattle.conflict.proofs.dooms.walked_dooms.Goals as goal

pub push_found-requires-clause-room : goal.push_found-requires-clause-room
push_found-requires-clause-room g c = λ p at live. room_found c.args.parties.now c.args.committer.now c.args.numbers.now c.loop-reader.reader-index c.loop-reader.dooms p (omega arith) at live c.requires.few c.loop-reader.invariant.1

pub loop-reader-preserved : goal.loop-reader-preserved
loop-reader-preserved g c = (
  fold_next (with_walked c.args.parties.now c.args.committer.now) c.args.numbers.now c.loop-reader.reader-index c.args.parties.now [] c.loop-reader.dooms c.push_found.new.dooms (omega arith) c.loop-reader.invariant.0 c.push_found.ensures,
  lives_next c.args.parties.now c.args.committer.now c.args.numbers.now c.loop-reader.reader-index c.loop-reader.dooms c.push_found.new.dooms (omega arith) c.push_found.ensures c.loop-reader.invariant.1,
)
