use Rattle.std.proofs.Common.{◌∙◌, ◌++◌, ap}
use Rattle.judgement.specs.JsonTold.{told}
use Rattle.judgement.proofs.json.judged.certificate_members.Goals as goal

pub returns : goal.returns
returns g c = (c.in_ok-told.told, c.in_ok-append_told.ensures ∙ ap (λ t. t ++ told c.in_ok-told.told) c.new-text.ensures.items)
