use Rattle.history.specs.Events.{world_of}
use Rattle.recording.proofs.ExplainsLemmas.{all_fitting, is_recording, never_no}
use Rattle.recording.proofs.traces.recordings_are_explained.Goals as goal

pub returns-clause-explained : goal.returns-clause-explained
returns-clause-explained g c = λ o es l rs told none. never_no o es l rs told none

pub returns-clause-fit : goal.returns-clause-fit
returns-clause-fit g c = λ o es l rs told. all_fitting o es l rs told

pub returns-clause-exact : goal.returns-clause-exact
returns-clause-exact g c = λ o es l. is_recording (world_of o es)
