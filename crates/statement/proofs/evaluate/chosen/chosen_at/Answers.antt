use Rattle.std.proofs.Common.{◌++◌, map, ap, ◌∙◌}
use Rattle.std.specs.List.{filter}
use Rattle.std.specs.Option.{option_copied}
use Rattle.schema.specs.Plain.{rows_of}
use Rattle.statement.specs.Conditions.{satisfies}
use Rattle.statement.specs.Walk.{listed}
use Rattle.statement.proofs.WalkLemmas.{found_columns, at_key}
use Rattle.statement.proofs.evaluate.chosen.chosen_at.Goals as goal

pub push_found-requires : goal.push_found-requires
push_found-requires g c =
    let rows = rows_of (g.R.SnapshotReader.tables c.args.reader.now) c.args.table in
    found_columns c.args.conditions.now c.args.key.now rows c.get-found.result c.get-found.ensures c.requires.at

pub returns-clause-ok : goal.returns-clause-ok
returns-clause-ok g c =
    let rows = rows_of (g.R.SnapshotReader.tables c.args.reader.now) c.args.table in
    let cs = c.args.conditions.now in
    c.in_ok-push_found.ensures.ok
    ∙ ap (λ zs. map (λ row. row.now) zs ++ filter (satisfies cs) (listed (option_copied c.get-found.result))) c.new-chosen.ensures.items
    ∙ ap (λ o. filter (satisfies cs) (listed o)) c.get-found.ensures
    ∙ at_key cs c.args.key.now rows c.requires.sorted c.requires.at
