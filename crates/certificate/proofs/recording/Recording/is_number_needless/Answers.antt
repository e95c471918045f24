use Rattle.std.proofs.Common.{◌≡◌, ◌∙◌, ap, subst, IfOk, false, slice_get}
use Rattle.std.specs.Option.{option_map_or}
use Rattle.certificate.specs.Recorded.{board}
use Rattle.certificate.specs.Rules.{is_needless}
use Rattle.certificate.proofs.recording.Recording.is_number_needless.Goals as goal

pub returns-in-Some-clause-ok : goal.returns-in-Some-clause-ok
returns-in-Some-clause-ok g c =
    subst (λ o. IfOk c.is_way_needless.result (λ b. b ≡ option_map_or (λ w. is_needless (board c.args.self.now) c.args.known.now w c.args.cell.now c.args.reader) o false)) (c.in-Some.ensures ∙ ap (λ ws. slice_get ws c.args.number) (c.as_slice.ensures.value ∙ c.in_ok-ways.ensures.ok ∙ ap (λ d. (board c.args.self.now).ways c.args.reader d.spot) c.cell.view_is)) c.is_way_needless.ensures.ok

pub returns-clause-ok : goal.returns-clause-ok
returns-clause-ok g c =
    ap (λ o. option_map_or (λ w. is_needless (board c.args.self.now) c.args.known.now w c.args.cell.now c.args.reader) o false) (c.in-None.ensures ∙ ap (λ ws. slice_get ws c.args.number) (c.as_slice.ensures.value ∙ c.in_ok-ways.ensures.ok ∙ ap (λ d. (board c.args.self.now).ways c.args.reader d.spot) c.cell.view_is))
