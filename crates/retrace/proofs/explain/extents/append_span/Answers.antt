use Rattle.std.proofs.Common.{ap, ◌∙◌, ◌++◌, codes, option_copied}
use Rattle.std.proofs.lemmas.Result.{on_ok_weaker}
use Rattle.retrace.specs.Holds.{greatest_key, least_key}
use Rattle.retrace.specs.Words.{ends_told}
use Rattle.retrace.proofs.WordLemmas.{then_word}
use Rattle.retrace.proofs.explain.extents.append_span.Goals as goal

pub returns-clause-done : goal.returns-clause-done
returns-clause-done g c =
    let mid = c.append_word.new.text.items in
    let least = least_key c.args.table c.args.readings.now in
    on_ok_weaker c.append_ends.result
    (λ e. then_word c.args.text.now.items mid c.append_ends.new.text.items (codes ", which count as the range ") (ends_told least (greatest_key c.args.table c.args.readings.now))
    (e ∙ ap (λ k. mid ++ ends_told k (option_copied c.greatest_key.result)) c.least_key.ensures ∙ ap (λ l. mid ++ ends_told least l) c.greatest_key.ensures)
    c.in_ok-append_word.ensures.ok)
    c.append_ends.ensures.done
