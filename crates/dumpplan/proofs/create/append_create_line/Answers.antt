use Rattle.std.proofs.Common.{◌++◌, List, ℕ, ap, ◌∙◌, map, codes}
use Rattle.schema.specs.Definition.{Column}
use Rattle.dumpplan.specs.Lines.{comma_separated, column_texts, written_column}
use Rattle.dumpplan.proofs.TextLemmas.{five_on}
use Rattle.dumpplan.proofs.create.append_create_line.Goals as goal

pub returns-clause-ok : goal.returns-clause-ok
returns-clause-ok g c =
    let catalog = c.args.catalog.now in
    let old : List ℕ = c.args.text.now.items in
    let name : List ℕ = c.args.table.now.name in
    let columns : List ℕ = comma_separated (column_texts (map (written_column catalog) c.args.table.now.columns)) in
    c.in_ok-extend_from_slice-4.ensures.items
    ∙ ap (λ (t : List ℕ). t ++ codes ");") (c.in_ok-append_columns.ensures.ok
    ∙ ap (λ (ds : List Column). c.extend_from_slice-3.new.self.items ++ comma_separated (column_texts (map (written_column catalog) ds))) c.columns.ensures.columns
    ∙ ap (λ (t : List ℕ). t ++ columns) (c.in_ok-extend_from_slice-3.ensures.items
    ∙ ap (λ (t : List ℕ). t ++ codes " (") (c.in_ok-extend_from_slice-2.ensures.items
    ∙ ap (λ (n : List ℕ). c.extend_from_slice.new.self.items ++ n) (c.as_bytes.ensures.value ∙ c.name.ensures)
    ∙ ap (λ (t : List ℕ). t ++ name) c.in_ok-extend_from_slice.ensures.items)))
    ∙ five_on old (codes "CREATE TABLE ") name (codes " (") columns (codes ");")
