use Rattle.std.proofs.Common.{◌≡◌, ◌∙◌, ap, subst, IfOk, ◌&&◌, ◌||◌, not}
use Rattle.std.specs.List.{list_all}
use Rattle.certificate.specs.Knowledge.{left, may_be_first, one_allows, sources}
use Rattle.certificate.specs.Recorded.{board}
use Rattle.certificate.specs.Rules.{leaves_only}
use Rattle.certificate.proofs.recording.Recording.is_found.Goals as goal

pub returns-clause-ok : goal.returns-clause-ok
returns-clause-ok g c =
    subst (λ ws. IfOk c.is_found_by.result (λ b. b ≡ (list_all (λ z. leaves_only (board c.args.self.now) c.args.known.now (one_allows (board c.args.self.now) c.args.known.now ws c.args.cell.now.column) c.args.state.now c.args.cell.now z) (sources (board c.args.self.now) c.args.known.now (one_allows (board c.args.self.now) c.args.known.now ws c.args.cell.now.column) c.args.cell.now c.args.reader) && (not (may_be_first (board c.args.self.now) c.args.known.now (one_allows (board c.args.self.now) c.args.known.now ws c.args.cell.now.column) c.args.cell.now c.args.reader) || (board c.args.self.now).same_state ((board c.args.self.now).opening c.args.cell.now.spot c.args.cell.now.column) c.args.state.now)))) (c.as_slice.ensures.value ∙ c.in_ok-asked.ensures.ok ∙ ap (λ d. left (board c.args.self.now) c.args.known.now c.args.reader d.spot) c.cell.view_is) c.is_found_by.ensures.ok
