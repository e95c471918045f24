use Rattle.std.proofs.Common.{◌∷◌, ◌++◌, [], sym, ap, ◌∙◌}
use Rattle.std.proofs.lemmas.List.{append-nil}
use Rattle.dumpplan.proofs.CuttingLemmas.{first_key-none, first_key-some}
use Rattle.dumpplan.proofs.cutting.push_cut.Goals as goal

pub returns-in_ok-push-in-Some-clause-ok : goal.returns-in_ok-push-in-Some-clause-ok
returns-in_ok-push-in-Some-clause-ok g c =
    c.in_ok-push-in-Some.ensures.items
    ∙ ap (λ ks. c.args.keys.now.items ++ ks) (ap (λ k. k ∷ []) (c.in_ok-copy-in-Some.ensures.ok ∙ c.key.ensures) ∙ sym (first_key-some c.args.rows.now c.in-Some.first.now c.in-Some.ensures.value))

pub returns-in-None-clause-ok : goal.returns-in-None-clause-ok
returns-in-None-clause-ok g c = sym (ap (λ ks. c.args.keys.now.items ++ ks) (first_key-none c.args.rows.now c.in-None.ensures.value) ∙ append-nil c.args.keys.now.items)
