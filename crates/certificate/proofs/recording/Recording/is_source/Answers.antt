use Rattle.std.proofs.Common.{◌∙◌, ap, ◌==◌, ◌&&◌, not}
use Rattle.std.specs.List.{list_all}
use Rattle.certificate.specs.Knowledge.{asks, is_present, sources}
use Rattle.certificate.specs.Recorded.{board}
use Rattle.certificate.proofs.recording.Recording.is_source.Goals as goal

pub returns-clause-ok : goal.returns-clause-ok
returns-clause-ok g c =
    c.all_hold.ensures
    ∙ ap (λ p. p && c.are_all-only.result && not c.in_ok-origin.origin.is_opening) c.is_present-present.ensures
    ∙ ap (λ o. is_present (board c.args.self.now) c.args.known.now c.args.reader && o && not c.in_ok-origin.origin.is_opening) (c.are_all-only.ensures ∙ ap (list_all (λ z. z == c.args.source)) (c.as_slice.ensures.value ∙ c.in_ok-origin.ensures.sources))
    ∙ ap (λ f. is_present (board c.args.self.now) c.args.known.now c.args.reader && list_all (λ z. z == c.args.source) (sources (board c.args.self.now) c.args.known.now (asks (board c.args.self.now) c.args.known.now c.args.cell.now c.args.reader) c.args.cell.now c.args.reader) && not f) c.in_ok-origin.ensures.opening
