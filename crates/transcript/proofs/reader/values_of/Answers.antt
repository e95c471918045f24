use Rattle.std.proofs.Common.{sym, subst}
use Rattle.transcript.specs.Outcomes.{Lacks}
use Rattle.transcript.specs.Reading.{values_of}
use Rattle.copytext.specs.Reading.{line_values}
use Rattle.transcript.proofs.GatherLemmas.{not_read}
use Rattle.transcript.proofs.reader.values_of.Goals as goal

pub returns-in-Err : goal.returns-in-Err
returns-in-Err g c =
    subst (λ e. Lacks e (values_of {A = g.row.A.Denot} c.args.kinds.now c.args.text.now)) (sym c.error_of.ensures)
    (not_read (line_values c.args.kinds.now c.args.text.now) c.in-Err.refusal _ c.in-Err.ensures.err)
