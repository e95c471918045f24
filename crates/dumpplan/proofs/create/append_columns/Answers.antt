use Rattle.std.proofs.Common.{◌++◌, ◌∷◌, List, ℕ, ap, sym, ◌∙◌, append_assoc, map}
use Rattle.std.specs.List.{flat_map}
use Rattle.std.proofs.lemmas.Result.{on_ok_weaker}
use Rattle.schema.specs.Definition.{Column}
use Rattle.dumpplan.specs.Lines.{key_text, column_text, column_texts, comma_separated, written_column}
use Rattle.dumpplan.proofs.TextLemmas.{columns_text}
use Rattle.dumpplan.proofs.create.append_columns.Goals as goal

pub returns-clause-ok : goal.returns-clause-ok
returns-clause-ok g c =
    let catalog = c.args.catalog.now in
    let first : Column = c.in-Some.first.now in
    let others : List Column = c.in-Some.others.now in
    let old : List ℕ = c.args.text.now.items in
    let key : List ℕ = key_text (written_column catalog first) in
    let more : List ℕ = flat_map (λ (d : Column). 44 ∷ 32 ∷ column_text (written_column catalog d)) others in
    on_ok_weaker c.append_more_columns.result (λ h. h
    ∙ ap (λ (t : List ℕ). t ++ more) c.in_ok-append_key.ensures.ok
    ∙ append_assoc old key more
    ∙ ap (λ (t : List ℕ). old ++ t) (sym (columns_text catalog first others) ∙ ap (λ (ds : List Column). comma_separated (column_texts (map (written_column catalog) ds))) (sym c.in-Some.ensures.cases.0))) c.append_more_columns.ensures.ok
