use Rattle.std.proofs.Common.{IfOk, arith}
use Rattle.std.specs.Option.{option_copied}
use Rattle.restore.specs.Rows.{AreDrawn}
use Rattle.restore.proofs.taking.Drawn.{all_each}
use Rattle.restore.proofs.draws.PieceReader.draw_by_threads.Goals as goal

pub returns : goal.returns
returns g c =
    let all = c.in_ok-all.all in
    let count = c.in_ok-all.ensures.len in
    all_each (λ r. IfOk r (λ drawn. AreDrawn (option_copied c.args.self.now.known) c.args.self.now.columns.now c.args.self.now.kinds.now c.args.self.now.lines.now drawn.items)) all.items (λ i d lt. (c.in_ok-all.ensures.each i d (omega (arith, lt, count, all.ok.0))).1.met)
