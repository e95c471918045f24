use Rattle.recording.proofs.PrintedLemmas.{the_done, the_stopped}
use Rattle.recording.proofs.laws.printed_transcripts_are_recordings.Goals as goal

pub returns-clause-done : goal.returns-clause-done
returns-clause-done g c = λ held input rows path way p q asks run. the_done c.the_first_fault_is_refused.ensures _ held input rows path way p q asks run

pub returns-clause-stopped : goal.returns-clause-stopped
returns-clause-stopped g c = λ held input rows path way f p q asks run. the_stopped c.the_first_fault_is_refused.ensures _ held input rows path way f p q asks run
