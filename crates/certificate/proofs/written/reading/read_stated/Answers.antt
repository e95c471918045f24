use Rattle.std.proofs.Common.{sym, subst, [], ◌∷◌}
use Rattle.copytext.specs.Reading.{line_values}
use Rattle.certificate.specs.Outcomes.{Lacks}
use Rattle.certificate.specs.Reading.{key_and_state}
use Rattle.certificate.proofs.LineLemmas.{not_stated}
use Rattle.certificate.proofs.written.reading.read_stated.Goals as goal

pub returns-in-Err : goal.returns-in-Err
returns-in-Err g c =
    subst (λ e. Lacks e (key_and_state {A = g.row.A.Denot} c.args.kind c.args.column c.args.text.now)) (sym c.error_of.ensures)
    (not_stated (line_values (c.args.kind ∷ c.args.column ∷ []) c.args.text.now) _ c.in-Err.ensures.err)
