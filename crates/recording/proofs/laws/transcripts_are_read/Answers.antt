use Rattle.recording.proofs.RecordingLemmas.{is_read}
use Rattle.recording.proofs.laws.transcripts_are_read.Goals as goal

pub returns : goal.returns
returns g c = λ script o es text has_time legal is hears. is_read script o es text has_time legal is hears
