use Rattle.std.proofs.Common.{◌∙◌, ap, sym, ◌&&◌, ◌||◌, not}
use Rattle.std.specs.List.{list_all}
use Rattle.certificate.specs.Knowledge.{may_be_first, one_allows}
use Rattle.certificate.specs.Recorded.{board}
use Rattle.certificate.specs.Rules.{leaves_only}
use Rattle.certificate.proofs.recording.Recording.is_found_by.Goals.{then-leave, else-leave}
use Rattle.certificate.proofs.recording.Recording.is_found_by.Goals as goal

pub returns-clause-ok : goal.returns-clause-ok
returns-clause-ok g c =
    let leave = c.in_ok-leave.ensures.ok ∙ ap (list_all (λ z. leaves_only (board c.args.self.now) c.args.known.now (one_allows (board c.args.self.now) c.args.known.now c.args.asked.now c.args.cell.now.column) c.args.state.now c.args.cell.now z)) (c.as_slice-sources.ensures.value ∙ c.in_ok-origin.ensures.sources) in
    let opened = c.in_ok-opened.ensures.ok ∙ ap (λ t. not t || (board c.args.self.now).same_state ((board c.args.self.now).opening c.args.cell.now.spot c.args.cell.now.column) c.args.state.now) c.in_ok-origin.ensures.opening in
    elim c.if-leave.branch [
      | then-leave w ↦ w.result-is ∙ opened ∙ sym (ap (λ t. t && (not (may_be_first (board c.args.self.now) c.args.known.now (one_allows (board c.args.self.now) c.args.known.now c.args.asked.now c.args.cell.now.column) c.args.cell.now c.args.reader) || (board c.args.self.now).same_state ((board c.args.self.now).opening c.args.cell.now.spot c.args.cell.now.column) c.args.state.now)) (sym leave ∙ w.if-leave.true))
      | else-leave w ↦ w.result-is ∙ w.if-leave.false ∙ sym (ap (λ t. t && (not (may_be_first (board c.args.self.now) c.args.known.now (one_allows (board c.args.self.now) c.args.known.now c.args.asked.now c.args.cell.now.column) c.args.cell.now c.args.reader) || (board c.args.self.now).same_state ((board c.args.self.now).opening c.args.cell.now.spot c.args.cell.now.column) c.args.state.now)) (sym leave ∙ w.if-leave.false))
    ]
