use Rattle.std.proofs.Common.{ap, ◌∙◌, ◌++◌, codes}
use Rattle.std.proofs.lemmas.Result.{on_ok_weaker}
use Rattle.std.specs.Fmt.{decimal}
use Rattle.retrace.specs.Explained.{number_of}
use Rattle.retrace.proofs.WordLemmas.{then_word}
use Rattle.retrace.proofs.explain.account.Account.append_number.Goals as goal

pub returns-clause-done : goal.returns-clause-done
returns-clause-done g c =
    on_ok_weaker c.append_number.result
    (λ e. then_word c.args.text.now.items c.append_word.new.text.items c.append_number.new.text.items (codes "transaction ") (decimal (number_of c.args.self.now c.args.run.now))
    (e ∙ ap (λ n. c.append_word.new.text.items ++ decimal n) c.number.ensures) c.in_ok-append_word.ensures.ok)
    c.append_number.ensures.ok
