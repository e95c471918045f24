use Rattle.std.proofs.Common.{◌∙◌, ap, arith, length, subst, sym, take}
use Rattle.std.proofs.lemmas.List.{take_all}
use Rattle.history.specs.Events.{world}
use Rattle.retrace.specs.Past.{Bygone, followed_to}
use Rattle.retrace.specs.Told.{TellAll}
use Rattle.retrace.proofs.told.Histories.{told}
use Rattle.retrace.proofs.past.retrace.Goals as goal

pub returns-clause-ok : goal.returns-clause-ok
returns-clause-ok g c =
    let es = c.args.history.now.records in
    let o = c.args.history.now.opening in
    let all = ap (λ l. take (length l) es) c.records.ensures ∙ take_all (length es) es (omega arith) in
    c.into_runs.ensures
    ∙ ap (λ (p : Bygone _). p.runs) (c.in_ok-follow.ensures.ok ∙ ap (λ l. followed_to o l c.in_ok-past.past) all ∙ ap (followed_to o es) c.in_ok-past.ensures.ok)

pub returns-clause-told : goal.returns-clause-told
returns-clause-told g c = λ legal. subst (λ gs. TellAll c.args.history.now.opening.base gs (world c.args.history.now).txns) (sym (returns-clause-ok g c)) (told c.args.history.now.opening c.args.history.now.records legal)
