use Rattle.std.proofs.Common.{◌∙◌, ap, sym, is_some}
use Rattle.value.proofs.Basics.{IfOk_then}
use Rattle.shell.proofs.OpeningLemmas.{opens-by}
use Rattle.shell.specs.Answering.{answer_text}
use Rattle.shell.proofs.shell.Shell.open_said.Goals as goal

pub returns-clause-told : goal.returns-clause-told
returns-clause-told g c =
    let none = ap (λ o. is_some o) (sym c.into_parts-catalog.ensures.opens) ∙ (sym c.is_some.ensures ∙ c.if-is_some.false) in
    let steps = c.as_slice-steps.ensures.value ∙ c.into_parts-catalog.ensures.lines in
    IfOk_then c.open_by.result c.open_by.ensures.told (λ a told. opens-by c.args.self.now.created c.args.whole.items c.args.self.now.most c.args.script c.open_by.new.self (answer_text a) _ _ _ none c.into_parts-catalog.ensures.catalog steps c.is_empty.ensures told)
