use Rattle.std.proofs.Common.{ap, sym, ◌++◌, ◌∷◌, [], ◌∙◌, append_assoc, List, ℕ}
use Rattle.std.specs.List.{flat_map}
use Rattle.copytext.specs.Writing.{tab, newline, field_text}
use Rattle.copytext.proofs.WritingLemmas.{left_with, row_text-cons}
use Rattle.copytext.proofs.writing.append_row.Goals as goal

pub returns-in_err-push-clause-err : goal.returns-in_err-push-clause-err
returns-in_err-push-clause-err g c =
    left_with _ c.args.out.now.items (field_text c.args.first.now ++ flat_map (λ v. tab ∷ field_text v) c.args.others.now) _
    (c.in_err-push.ensures.items ∙ c.in_ok-append_more.ensures.ok ∙ ap (λ (text : List ℕ). text ++ flat_map (λ v. tab ∷ field_text v) c.args.others.now) c.in_ok-append_field.ensures.ok ∙ append_assoc c.args.out.now.items _ _)

pub returns-clause-ok : goal.returns-clause-ok
returns-clause-ok g c =
    let old = c.args.out.now.items in
    let first = field_text c.args.first.now in
    let others = flat_map (λ v. tab ∷ field_text v) c.args.others.now in
    c.in_ok-push.ensures.items
    ∙ ap (λ (text : List ℕ). text ++ newline ∷ []) (c.in_ok-append_more.ensures.ok ∙ ap (λ (text : List ℕ). text ++ others) c.in_ok-append_field.ensures.ok ∙ append_assoc old first others)
    ∙ append_assoc old (first ++ others) (newline ∷ [])
    ∙ ap (λ (text : List ℕ). old ++ text) (sym (row_text-cons c.args.first.now c.args.others.now))
