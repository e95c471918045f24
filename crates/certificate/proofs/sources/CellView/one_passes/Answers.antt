use Rattle.std.proofs.Common.{sym, ◌∙◌}
use Rattle.certificate.specs.Recorded.{board}
use Rattle.certificate.specs.Views.{passes_at}
use Rattle.certificate.proofs.LeftLemmas.{any-more}
use Rattle.certificate.proofs.sources.CellView.one_passes.Goals as goal

pub loop-number-preserved : goal.loop-number-preserved
loop-number-preserved g c =
    c.loop-number.invariant
    ∙ any-more (board c.args.self.now.recording) c.args.self.now.known c.args.place c.args.self.now.cell.spot (λ w. passes_at c.args.self.now c.args.asked.now c.args.place w) c.args.ways.now c.loop-number.number c.index-ways-number.result c.loop-number-test.true c.index-ways-number.is (sym c.passes.ensures ∙ c.if-passes.false)
