use Rattle.recording.proofs.OpeningLemmas.{begins_so}
use Rattle.recording.proofs.laws.transcripts_begin_with_their_tables.Goals as goal

pub returns : goal.returns
returns g c = λ script o es text legal is. begins_so script o es text legal is
