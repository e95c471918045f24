use Rattle.std.proofs.Common.{[]}
use Rattle.restore.proofs.taking.Pieces.{read-next}
use Rattle.restore.proofs.rows.read_each.Goals as goal

pub loop-line-preserved : goal.loop-line-preserved
loop-line-preserved g c =
    read-next c.args.kinds.now c.loop-line.rows.items c.push.new.self.items c.args.lines.now c.loop-line.line-index (record { ref_ptr = (0, 0); now = [] }) c.row_of_line.result c.loop-line-test.true c.row_of_line.ensures c.in_ok-push.ensures.items c.loop-line.invariant
