use Rattle.std.proofs.Common.{ap, ◌++◌, ◌∷◌, [], ◌∙◌, append_assoc, List, ℕ, take, arith}
use Rattle.std.specs.List.{flat_map}
use Rattle.std.proofs.lemmas.List.{take_all}
use Rattle.copytext.specs.Writing.{tab, field_text}
use Rattle.copytext.proofs.WritingLemmas.{left_with, left_by}
use Rattle.copytext.proofs.writing.append_more.Goals as goal

pub returns-in_err-push-clause-err : goal.returns-in_err-push-clause-err
returns-in_err-push-clause-err g c =
    left_with _ c.args.out.now.items (flat_map (λ v. tab ∷ field_text v) (take c.loop-value.value-index c.args.values.now)) _ (c.in_err-push.ensures.items ∙ c.loop-value.invariant)

pub returns-in_err-append_field-clause-err : goal.returns-in_err-append_field-clause-err
returns-in_err-append_field-clause-err g c =
    left_by _ c.args.out.now.items (flat_map (λ v. tab ∷ field_text v) (take c.loop-value.value-index c.args.values.now) ++ tab ∷ []) _ _
    (c.in_ok-push.ensures.items ∙ ap (λ (text : List ℕ). text ++ tab ∷ []) c.loop-value.invariant ∙ append_assoc c.args.out.now.items _ (tab ∷ [])) c.in_err-append_field.ensures.err

pub returns-clause-ok : goal.returns-clause-ok
returns-clause-ok g c =
    c.loop-value.invariant ∙ ap (λ values. c.args.out.now.items ++ flat_map (λ v. tab ∷ field_text v) values) (take_all c.loop-value.value-index c.args.values.now (omega arith))
