use Rattle.std.proofs.Common.{◌≡◌, subst, IfOk}
use Rattle.certificate.specs.Knowledge.{may_be_first, sources}
use Rattle.certificate.specs.Recorded.{board}
use Rattle.certificate.specs.Views.{asking}
use Rattle.certificate.proofs.recording.Recording.origin_of.Goals as goal

pub returns-clause-sources : goal.returns-clause-sources
returns-clause-sources g c =
    subst (λ v. IfOk c.origin.result (λ o. o.sources.items ≡ sources (board v.recording) v.known (asking v c.args.asked.now) v.cell c.args.reader)) c.in_ok-view.ensures.ok c.origin.ensures.sources

pub returns-clause-opening : goal.returns-clause-opening
returns-clause-opening g c =
    subst (λ v. IfOk c.origin.result (λ o. o.is_opening ≡ may_be_first (board v.recording) v.known (asking v c.args.asked.now) v.cell c.args.reader)) c.in_ok-view.ensures.ok c.origin.ensures.opening
