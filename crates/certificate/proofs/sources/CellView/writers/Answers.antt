use Rattle.std.proofs.Common.{◌∙◌, ◌-◌, ◌&&◌, arith}
use Rattle.certificate.specs.Knowledge.{comes_before, is_writer}
use Rattle.certificate.specs.Recorded.{board}
use Rattle.certificate.proofs.LeftLemmas.{places-more}
use Rattle.certificate.proofs.sources.CellView.writers.Goals as goal

pub loop-place-preserved : goal.loop-place-preserved
loop-place-preserved g c =
    places-more (λ z. comes_before (board c.args.self.now.recording) c.args.self.now.known z c.args.reader && is_writer (board c.args.self.now.recording) c.args.self.now.known c.args.self.now.cell z) c.loop-place.place (c.loop-place.place - 1) c.in_ok-writes.writes c.loop-place.writers.items c.push_if.new.places.items (omega (arith, c.loop-place-test.true)) c.in_ok-writes.ensures.ok c.in_ok-push_if.ensures.ok
    ∙ c.loop-place.invariant
