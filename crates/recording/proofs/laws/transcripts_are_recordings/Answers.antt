use Rattle.recording.proofs.RecordingLemmas.{is_recording}
use Rattle.recording.proofs.laws.transcripts_are_recordings.Goals as goal
use Rattle.recording.proofs.ExplainsLemmas.{never_no}

pub returns-clause-recording : goal.returns-clause-recording
returns-clause-recording g c = λ script o es text has_time rs names legal is e. is_recording script o es text has_time rs names legal is e

pub returns-clause-explained : goal.returns-clause-explained
returns-clause-explained g c = λ script o es text has_time rs names legal is e. never_no o es legal rs (is_recording script o es text has_time rs names legal is e)
