use Rattle.std.proofs.Common.{◌∙◌, ◌++◌, ap, option_to_list, arith}
use Rattle.std.proofs.lemmas.List.{take_all}
use Rattle.std.specs.List.{flat_map}
use Rattle.orders.specs.Counts.{inserted_key}
use Rattle.certificate.proofs.numbers.push_inserted.Goals as goal

pub returns-clause-ok : goal.returns-clause-ok
returns-clause-ok g c =
    c.loop-answered.invariant
    ∙ ap (λ qs. c.args.keys.now.items ++ flat_map (λ a. option_to_list (inserted_key c.args.table a.statement)) qs) (take_all c.loop-answered.answered-index c.args.statements.now (omega (arith, c.loop-answered-test.false)))
