use Rattle.std.proofs.Common.{◌<◌, ◌+◌, ◌∷◌, List, ℕ, length, drop, ap, sym, ◌∙◌, arith}
use Rattle.std.proofs.lemmas.List.{take_rest, drop-drop}
use Rattle.copytext.specs.Reading.{cut}
use Rattle.copytext.proofs.fields.first_field.Goals as goal

pub returns-in-len1-up-clause-fields : goal.returns-in-len1-up-clause-fields
returns-in-len1-up-clause-fields c =
    let text = c.args.text.now in
    let n = c.field_len.result in
    let inside : n < length text = omega arith in
    c.field_len.ensures.parted inside
    ∙ ap (λ (raw : List ℕ). raw ∷ cut (drop (n + 1) text)) (sym c.split_at.ensures.front)
    ∙ ap (λ (more : List ℕ). c.split_at.result.0.now ∷ cut more) (sym (take_rest c.split_at.result.1.now 1 ∙ ap (drop 1) c.split_at.ensures.back ∙ drop-drop 1 n text))
