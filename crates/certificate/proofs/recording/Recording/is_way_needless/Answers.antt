use Rattle.std.proofs.Common.{◌≡◌, ◌∙◌, subst, IfOk, ◌&&◌, not, false}
use Rattle.std.specs.List.{list_all}
use Rattle.certificate.specs.Knowledge.{may_be_first, one_allows, sources}
use Rattle.certificate.specs.Recorded.{board}
use Rattle.certificate.proofs.recording.Recording.is_way_needless.Goals as goal

pub returns-clause-ok : goal.returns-clause-ok
returns-clause-ok g c =
    subst (λ ws. IfOk c.is_needless.result (λ b. b ≡ (list_all (λ z. false) (sources (board c.args.self.now) c.args.known.now (one_allows (board c.args.self.now) c.args.known.now ws c.args.cell.now.column) c.args.cell.now c.args.reader) && not (may_be_first (board c.args.self.now) c.args.known.now (one_allows (board c.args.self.now) c.args.known.now ws c.args.cell.now.column) c.args.cell.now c.args.reader)))) (c.as_slice.ensures.value ∙ c.in_ok-asked.ensures.ok) c.is_needless.ensures.ok
