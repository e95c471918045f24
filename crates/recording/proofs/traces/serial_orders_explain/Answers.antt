use Rattle.recording.proofs.ExplainsLemmas.{serial_explains}
use Rattle.recording.proofs.traces.serial_orders_explain.Goals as goal

pub returns : goal.returns
returns g c = λ o es l order h. serial_explains o es l order h
