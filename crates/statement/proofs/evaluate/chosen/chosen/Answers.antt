use Rattle.std.proofs.Common.{◌≡◌, Some, ap, map, sym, ◌∙◌}
use Rattle.schema.specs.Plain.{rows_of}
use Rattle.statement.specs.Footprint.{Nothing, Span, intersection}
use Rattle.statement.proofs.WalkLemmas.{all_within, nothing_within}
use Rattle.statement.proofs.evaluate.chosen.chosen.Goals as goal

pub chosen_within-requires-clause-within : goal.chosen_within-requires-clause-within
chosen_within-requires-clause-within g c =
    let rows = rows_of (g.R.SnapshotReader.tables c.args.reader.now) c.args.table in
    let is : intersection c.args.conditions.now ≡ Some (Span c.in-Some-Span.low c.in-Some-Span.high) = sym c.in_ok-intersection.ensures.ok ∙ c.in-Some-Span.is ∙ ap Some c.in-Some-Span.field-0-is in
    all_within c.args.conditions.now c.in-Some-Span.low c.in-Some-Span.high rows is c.requires.readable.each

pub returns-in-Some-Nothing-clause-ok : goal.returns-in-Some-Nothing-clause-ok
returns-in-Some-Nothing-clause-ok g c =
    let rows = rows_of (g.R.SnapshotReader.tables c.args.reader.now) c.args.table in
    let is : intersection c.args.conditions.now ≡ Some Nothing = sym c.in_ok-intersection.ensures.ok ∙ c.in-Some-Nothing.is ∙ ap Some c.in-Some-Nothing.field-0-is in
    ap (map (λ row. row.now)) c.new.ensures.items ∙ sym (nothing_within c.args.conditions.now rows is c.requires.readable.each)
