use Rattle.std.proofs.Common.{◌∙◌, ap, ◌==◌, ◌&&◌, not}
use Rattle.std.specs.List.{list_all}
use Rattle.certificate.specs.Knowledge.{comes_before, is_present, surely_writes}
use Rattle.certificate.specs.Recorded.{board}
use Rattle.certificate.proofs.recording.Recording.is_later.Goals as goal

pub returns-clause-ok : goal.returns-clause-ok
returns-clause-ok g c =
    c.both_hold.ensures
    ∙ ap (λ p. p && c.all_before-before.result) c.in_ok-writes.ensures.ok
    ∙ ap (λ l. is_present (board c.args.self.now) c.args.known.now c.args.reader && surely_writes (board c.args.self.now) c.args.known.now c.args.writer c.args.cell.now && not (c.args.writer == c.args.reader) && l) (c.all_before-before.ensures ∙ ap (list_all (λ z. not (z == c.args.writer) && comes_before (board c.args.self.now) c.args.known.now z c.args.writer)) (c.as_slice.ensures.value ∙ c.in_ok-origin.ensures.sources))
