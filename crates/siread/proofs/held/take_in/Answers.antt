use Rattle.std.proofs.Common.{ap, subst, ◌∙◌, ◌+◌, ◌≤◌, take}
use Rattle.siread.specs.declared.extent.Form.TheVariants as form
use Rattle.siread.specs.Adding.{IsSpare}
use Rattle.siread.specs.Bounds.{count_in}
use Rattle.siread.proofs.AlikeLemmas.{once-take}
use Rattle.siread.proofs.InnerLemmas.{settles_more, settles_one}
use Rattle.siread.proofs.held.take_in.Goals as goal

pub inner_key-requires : goal.inner_key-requires
inner_key-requires g c = rw (c.first.ensures ∙ ap (take (c.args.settled + 1)) c.as_slice.ensures.value) (once-take (c.args.settled + 1) c.args.kept.now.items c.requires.once)

pub returns-in-Some : goal.returns-in-Some
returns-in-Some g c =
    settles_one c.args.kept.now.items c.remove.new.self.items c.args.settled c.in-Some.place c.index.result.now c.requires.within c.index.ensures c.requires.once c.requires.few
    (subst (λ ks. IsSpare ks c.index.result.now.table c.in-Some.place) (c.first.ensures ∙ ap (take (c.args.settled + 1)) c.as_slice.ensures.value) c.in-Some.ensures.some) c.remove.ensures.by_index.2

pub returns-in-None : goal.returns-in-None
returns-in-None g c =
    settles_more c.args.kept.now.items c.args.settled c.index.result.now c.requires.within c.index.ensures c.requires.once c.requires.few
    (subst (λ ks. count_in c.index.result.now.table form.Key ks ≤ 9) (c.first.ensures ∙ ap (take (c.args.settled + 1)) c.as_slice.ensures.value) c.in-None.ensures.none)
