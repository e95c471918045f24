use Rattle.std.proofs.Common.{sym, ◌∙◌}
use Rattle.certificate.specs.Board.{is_write}
use Rattle.certificate.specs.Recorded.{board}
use Rattle.certificate.specs.Views.{effect_on}
use Rattle.certificate.proofs.LeftLemmas.{all-more}
use Rattle.certificate.proofs.sources.CellView.all_write.Goals as goal

pub loop-number-preserved : goal.loop-number-preserved
loop-number-preserved g c =
    c.loop-number.invariant
    ∙ all-more (board c.args.self.now.recording) c.args.self.now.known c.args.place c.args.self.now.cell.spot (λ w. is_write (effect_on c.args.self.now w)) c.args.ways.now c.loop-number.number c.index-ways-number.result c.loop-number-test.true c.index-ways-number.is (sym c.writes.ensures ∙ c.if-not-writes.false)
