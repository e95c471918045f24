use Rattle.std.proofs.Common.{sym, ◌∙◌, not, ◌||◌}
use Rattle.certificate.specs.Recorded.{board}
use Rattle.certificate.specs.Views.{leaves_state, passes_at}
use Rattle.certificate.proofs.LeftLemmas.{all-more}
use Rattle.certificate.proofs.sources.CellView.all_leave.Goals as goal

pub loop-number-preserved : goal.loop-number-preserved
loop-number-preserved g c =
    c.loop-number.invariant
    ∙ all-more (board c.args.self.now.recording) c.args.self.now.known c.args.place c.args.self.now.cell.spot (λ w. not (passes_at c.args.self.now c.args.asked.now c.args.place w) || leaves_state c.args.self.now c.args.state.now c.args.place w) c.args.ways.now c.loop-number.number c.index-ways-number.result c.loop-number-test.true c.index-ways-number.is (sym c.leaves.ensures ∙ c.if-not-leaves.false)
