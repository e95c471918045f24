use Rattle.std.proofs.Common.{◌≡◌, List, ℕ, ◌∷◌, ◌++◌, map, refl, sym, ap, ◌∙◌, append_assoc}
use Rattle.std.specs.List.{flat_map}
use Rattle.std.proofs.lemmas.Result.{IfOk-equal}
use Rattle.std.proofs.lemmas.Slice.{pushed}
use Rattle.schema.specs.Definition.{Column}
use Rattle.dumpplan.specs.Lines.{comma_separated}
use Rattle.dumpplan.proofs.LineLemmas.{comma_separated-cons}
use Rattle.dumpplan.proofs.lines.append_names.Goals as goal

pub returns-clause-ok : goal.returns-clause-ok
returns-clause-ok g c =
    let first : Column = c.in-Some.first.now in
    let others : List Column = c.in-Some.others.now in
    let text : List ℕ = c.args.text.now.items in
    let more : List ℕ = flat_map (λ (d : Column). 44 ∷ 32 ∷ d.name) others in
    let named : c.extend_from_slice.new.self.items ≡ text ++ first.name =
    pushed c.as_bytes.result.now refl c.in_ok-extend_from_slice.was c.extend_from_slice.ensures.items ∙ ap (λ (name : List ℕ). text ++ name) (c.as_bytes.ensures.value ∙ c.name.ensures) in
    IfOk-equal _ _ _ _ c.append_more_names.ensures.ok
    (ap (λ (before : List ℕ). before ++ more) named ∙ append_assoc text first.name more
    ∙ ap (λ (names : List ℕ). text ++ names) (sym (comma_separated-cons (λ (d : Column). d.name) first others) ∙ ap (λ (ds : List Column). comma_separated (map (λ d. d.name) ds)) (sym c.in-Some.ensures.cases.0)))
