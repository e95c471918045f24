use Rattle.std.proofs.Common.{ap, subst, ◌∙◌, ◌≤◌, ◌++◌, ◌∷◌, [], drop}
use Rattle.siread.specs.declared.extent.Form.TheVariants as form
use Rattle.siread.specs.Adding.{IsSpare}
use Rattle.siread.specs.Bounds.{count_in}
use Rattle.siread.proofs.AlikeLemmas.{alike_equal}
use Rattle.siread.proofs.HeldLemmas.{alike_spare, grows_push, grows_spare, once_behind}
use Rattle.siread.proofs.held.push.Goals as goal

pub inner_key-requires : goal.inner_key-requires
inner_key-requires g c =
    rw (c.behind.ensures ∙ ap (drop c.args.settled) c.as_slice.ensures.value)
    (once_behind c.args.settled c.args.kept.now.items c.push_reserved.new.self.items c.args.reading c.push_reserved.ensures.items c.requires.once c.requires.new)

pub returns-in-Some-clause-kept : goal.returns-in-Some-clause-kept
returns-in-Some-clause-kept g c =
    grows_spare c.args.settled c.in-Some.place c.args.kept.now.items c.push_reserved.new.self.items c.remove.new.self.items c.args.reading c.push_reserved.ensures.items c.requires.within c.requires.once c.requires.few c.requires.new
    (subst (λ ks. IsSpare ks c.args.reading.table c.in-Some.place) (c.behind.ensures ∙ ap (drop c.args.settled) c.as_slice.ensures.value) c.in-Some.ensures.some) c.remove.ensures.by_index.2

pub returns-in-Some-clause-alike : goal.returns-in-Some-clause-alike
returns-in-Some-clause-alike g c =
    alike_spare c.args.settled c.in-Some.place c.args.kept.now.items c.push_reserved.new.self.items c.remove.new.self.items c.args.reading c.push_reserved.ensures.items c.requires.within c.requires.once c.requires.few c.requires.new
    (subst (λ ks. IsSpare ks c.args.reading.table c.in-Some.place) (c.behind.ensures ∙ ap (drop c.args.settled) c.as_slice.ensures.value) c.in-Some.ensures.some) c.remove.ensures.by_index.2

pub returns-in_default-clause-kept : goal.returns-in_default-clause-kept
returns-in_default-clause-kept g c =
    grows_push c.args.settled c.args.kept.now.items c.push_reserved.new.self.items c.args.reading c.push_reserved.ensures.items c.requires.within c.requires.once c.requires.few c.requires.new
    (subst (λ ks. count_in c.args.reading.table form.Key ks ≤ 9) (c.behind.ensures ∙ ap (drop c.args.settled) c.as_slice.ensures.value) c.in_default.ensures.none)

pub returns-in_default-clause-alike : goal.returns-in_default-clause-alike
returns-in_default-clause-alike g c = alike_equal c.push_reserved.new.self.items (c.args.kept.now.items ++ c.args.reading ∷ []) c.push_reserved.ensures.items
