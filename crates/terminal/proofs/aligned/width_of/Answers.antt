use Rattle.std.proofs.Common.{◌∙◌, ap, chars, cond, false, sym}
use Rattle.std.proofs.lemmas.Str.{is_utf8-from_IsUtf8}
use Rattle.unicode_width.specs.Width.{str_width}
use Rattle.terminal.specs.Tables.{characters}
use Rattle.terminal.proofs.WidthLemmas.{not_text}
use Rattle.terminal.proofs.aligned.width_of.Goals as goal

pub returns-in-Ok : goal.returns-in-Ok
returns-in-Ok c =
    let f = c.args.field.now in
    c.columns_of.ensures ∙ ap (λ t. str_width false (chars t)) c.in-Ok.ensures.cases.0
    ∙ sym (ap (λ b. cond b (str_width false (chars f)) (characters f)) (is_utf8-from_IsUtf8 f c.in-Ok.ensures.cases.1))

pub returns-in-Err : goal.returns-in-Err
returns-in-Err c =
    let f = c.args.field.now in
    c.count_characters.ensures ∙ sym (ap (λ b. cond b (str_width false (chars f)) (characters f)) (not_text f c.in-Err.ensures.cases.0))
