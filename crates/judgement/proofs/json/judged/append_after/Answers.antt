use Rattle.std.proofs.Common.{sym}
use Rattle.judgement.specs.Json.{number_member}
use Rattle.judgement.proofs.json.judged.append_after.Goals as goal

pub returns : goal.returns
unfolding number_member
returns g c = rw (sym c.number_at.ensures) c.append.ensures
