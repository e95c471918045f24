use Rattle.std.proofs.Common.{◌++◌, ◌∷◌, List, ℕ, ap, ◌∙◌, codes}
use Rattle.std.specs.Prelude.{option_and_then}
use Rattle.std.proofs.lemmas.Result.{on_ok_weaker}
use Rattle.dumpplan.specs.Lines.{name_of_table, space, kind_word, reference_text}
use Rattle.dumpplan.proofs.TextLemmas.{three_on}
use Rattle.dumpplan.proofs.create.append_key.Goals as goal

pub returns-clause-ok : goal.returns-clause-ok
returns-clause-ok g c =
    let d = c.args.column.now in
    let named : List ℕ = d.name ++ space ∷ kind_word d.kind in
    let referenced : List ℕ = reference_text (option_and_then (name_of_table c.args.catalog.now) d.references) in
    on_ok_weaker c.append_reference.result (λ h. h
    ∙ ap (λ o. c.extend_from_slice.new.self.items ++ reference_text o) c.referenced_name.ensures
    ∙ ap (λ (t : List ℕ). t ++ referenced) (c.in_ok-extend_from_slice.ensures.items ∙ ap (λ (t : List ℕ). t ++ codes " PRIMARY KEY") c.in_ok-append_name_and_kind.ensures.ok)
    ∙ three_on c.args.text.now.items named (codes " PRIMARY KEY") referenced) c.append_reference.ensures.ok
