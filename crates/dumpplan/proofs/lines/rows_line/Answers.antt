use Rattle.std.proofs.Common.{◌++◌, List, ℕ, ap, ◌∙◌, codes}
use Rattle.dumpplan.proofs.LineLemmas.{decimal-number_text}
use Rattle.dumpplan.proofs.lines.rows_line.Goals as goal

pub returns-clause-ok : goal.returns-clause-ok
returns-clause-ok g c =
    c.in_ok-extend_from_slice-2.ensures.items
    ∙ ap (λ (t : List ℕ). t ++ c.as_bytes.result.now) (c.in_ok-extend_from_slice.ensures.items ∙ ap (λ (t : List ℕ). t ++ codes "-- rows ") c.new-text.ensures.items)
    ∙ ap (λ (t : List ℕ). codes "-- rows " ++ t) (c.as_bytes.ensures.value ∙ c.format.ensures.text ∙ decimal-number_text c.args.rows c.ranges.rows.fits)
