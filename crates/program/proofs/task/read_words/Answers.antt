use Rattle.std.proofs.Common.{◌∙◌, rules, sym}
use Rattle.std.proofs.lemmas.Result.{err_from_is_err_and}
use Rattle.program.proofs.AskedLemmas.{clashing, no_faults, of_words, parse_fails}
use Rattle.program.proofs.task.read_words.Goals as goal

pub returns-in_err-matches-clause-fails : goal.returns-in_err-matches-clause-fails
returns-in_err-matches-clause-fails c =
    let p = err_from_is_err_and c.from_residual.result c.from_residual.ensures.1 in
    rw (p.1, p.2) (parse_fails c.args.words.now c.in_err-matches.field-0.0 (search rules) c.in_err-matches.ensures.fails)

pub returns-in-Some-clause-fails : goal.returns-in-Some-clause-fails
returns-in-Some-clause-fails c = clashing c.args.words.now _ c.in-Some.clash c.in_ok-error_of.field-0 (search rules) c.in_ok-matches.ensures.fails c.in_ok-matches.ensures.command (sym c.clash_in.ensures ∙ c.in-Some.is) c.in_ok-error_of.ensures

pub returns-clause-asked : goal.returns-clause-asked
returns-clause-asked c = of_words c.args.words.now _ c.task_of.result (search rules) c.in_ok-matches.ensures.command c.task_of.ensures

pub returns-clause-fails : goal.returns-clause-fails
returns-clause-fails c = no_faults c.args.words.now _ (search rules) c.in_ok-matches.ensures.fails c.in_ok-matches.ensures.command (sym c.clash_in.ensures ∙ c.in_default.is)
