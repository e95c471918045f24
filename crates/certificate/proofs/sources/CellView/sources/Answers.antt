use Rattle.std.proofs.Common.{◌∙◌, ◌-◌, arith}
use Rattle.certificate.specs.Knowledge.{may_be_from}
use Rattle.certificate.specs.Recorded.{board}
use Rattle.certificate.specs.Views.{asking}
use Rattle.certificate.proofs.LeftLemmas.{places-done, places-more}
use Rattle.certificate.proofs.sources.CellView.sources.Goals as goal

pub loop-place-preserved : goal.loop-place-preserved
loop-place-preserved g c =
    places-more (may_be_from (board c.args.self.now.recording) c.args.self.now.known (asking c.args.self.now c.args.asked.now) c.args.self.now.cell c.args.reader) c.loop-place.place (c.loop-place.place - 1) c.in_ok-may_be.may_be c.loop-place.sources.items c.push_if.new.places.items (omega (arith, c.loop-place-test.true)) c.in_ok-may_be.ensures.ok c.in_ok-push_if.ensures.ok
    ∙ c.loop-place.invariant

pub returns-clause-ok : goal.returns-clause-ok
returns-clause-ok g c = places-done (may_be_from (board c.args.self.now.recording) c.args.self.now.known (asking c.args.self.now c.args.asked.now) c.args.self.now.cell c.args.reader) c.loop-place.place c.loop-place.sources.items _ (omega (arith, c.loop-place-test.false)) c.loop-place.invariant
