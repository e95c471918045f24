use Rattle.std.proofs.Common.{IfOk}
use Rattle.std.specs.Option.{option_copied}
use Rattle.restore.specs.Rows.{AreDrawn}
use Rattle.restore.proofs.taking.Drawn.{all_push}
use Rattle.restore.proofs.draws.PieceReader.gather_both.Goals as goal

pub gather-requires : goal.gather-requires
gather-requires g c = (
  c.type_bounds.sync-G,
  all_push (λ r. IfOk r (λ drawn. AreDrawn (option_copied c.args.self.now.known) c.args.self.now.columns.now c.args.self.now.kinds.now c.args.self.now.lines.now drawn.items)) c.args.theirs.items c.push.new.self.items _ c.in_ok-push.ensures.items c.requires.mine c.requires.theirs,
)
