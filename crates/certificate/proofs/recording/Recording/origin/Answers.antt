use Rattle.std.proofs.Common.{◌≡◌, ◌∙◌, ap, subst, IfOk}
use Rattle.certificate.specs.Knowledge.{left, may_be_first, one_allows, sources}
use Rattle.certificate.specs.Recorded.{board}
use Rattle.certificate.proofs.recording.Recording.origin.Goals as goal

pub returns-clause-sources : goal.returns-clause-sources
returns-clause-sources g c =
    subst (λ ws. IfOk c.origin_of.result (λ o. o.sources.items ≡ sources (board c.args.self.now) c.args.known.now (one_allows (board c.args.self.now) c.args.known.now ws c.args.cell.now.column) c.args.cell.now c.args.reader)) (c.as_slice.ensures.value ∙ c.in_ok-asked.ensures.ok ∙ ap (λ d. left (board c.args.self.now) c.args.known.now c.args.reader d.spot) c.cell.view_is) c.origin_of.ensures.sources

pub returns-clause-opening : goal.returns-clause-opening
returns-clause-opening g c =
    subst (λ ws. IfOk c.origin_of.result (λ o. o.is_opening ≡ may_be_first (board c.args.self.now) c.args.known.now (one_allows (board c.args.self.now) c.args.known.now ws c.args.cell.now.column) c.args.cell.now c.args.reader)) (c.as_slice.ensures.value ∙ c.in_ok-asked.ensures.ok ∙ ap (λ d. left (board c.args.self.now) c.args.known.now c.args.reader d.spot) c.cell.view_is) c.origin_of.ensures.opening
