use Rattle.copytext.proofs.RoundTrip.{line_values-line_text}
use Rattle.copytext.proofs.law.reads_what_is_written.Goals as goal

pub returns : goal.returns
returns g c = line_values-line_text
