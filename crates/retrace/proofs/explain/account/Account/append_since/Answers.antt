use Rattle.std.proofs.Common.{codes}
use Rattle.std.proofs.lemmas.Result.{on_ok_weaker}
use Rattle.retrace.specs.Explained.{introduced_told}
use Rattle.retrace.proofs.WordLemmas.{then_word}
use Rattle.retrace.proofs.explain.account.Account.append_since.Goals as goal

pub returns-clause-done : goal.returns-clause-done
returns-clause-done g c =
    on_ok_weaker c.append_introduced.result
    (λ e. then_word c.args.text.now.items c.append_word.new.text.items c.append_introduced.new.text.items (codes " and has committed since the snapshot of ")
    (introduced_told c.args.self.now c.args.run.now) e c.in_ok-append_word.ensures.ok)
    c.append_introduced.ensures.done
