use Rattle.certificate.proofs.PlayLemmas.{play-of, turns_of}
use Rattle.certificate.proofs.laws.explained_is_played.Goals as goal

pub returns : goal.returns
returns g c = λ catalog X ts order fit sound h. (turns_of catalog ts order X h.in_turn, play-of catalog ts X order fit sound h)
