use Rattle.std.proofs.Common.{◌≡◌, subst, IfOk}
use Rattle.std.specs.List.{list_all}
use Rattle.certificate.specs.Recorded.{board}
use Rattle.certificate.specs.Rules.{leaves_only}
use Rattle.certificate.specs.Views.{asking}
use Rattle.certificate.proofs.recording.Recording.all_leave_only.Goals as goal

pub returns-clause-ok : goal.returns-clause-ok
returns-clause-ok g c =
    subst (λ v. IfOk c.all_leave_only.result (λ b. b ≡ list_all (λ z. leaves_only (board v.recording) v.known (asking v c.args.asked.now) c.args.state.now v.cell z) c.args.places.now)) c.in_ok-view.ensures.ok c.all_leave_only.ensures.ok
