use Rattle.std.proofs.Common.{◌∙◌, ap, length, sym, None}
use Rattle.std.specs.List.{last_or}
use Rattle.command_shell.specs.Asides.{refused_after, refused_from}
use Rattle.command_shell.proofs.RefusedLemmas.{last_behind}
use Rattle.command_shell.proofs.prompt.refused.last_behind.Goals as goal

pub returns-in-Some : goal.returns-in-Some
returns-in-Some g c =
    let es = c.args.history.now.records in
    let last = c.in-Some.ensures.some in
    let this = ap (last_or None) last.1 ∙ last_behind None last.0 c.in-Some.last.now in
    c.or_by.ensures ∙ ap (λ n. refused_after n c.in-Some.last.now c.args.before) (ap length c.records.ensures) ∙ sym (ap (λ o. refused_from (length es) o c.args.before) this)
