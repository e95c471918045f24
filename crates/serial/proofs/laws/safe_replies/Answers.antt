use Rattle.serial.proofs.safe.Reply.{safe_reply}
use Rattle.serial.proofs.laws.safe_replies.Goals as goal

pub returns : goal.returns
returns g c = λ o es s n more l. safe_reply o es s n more l
