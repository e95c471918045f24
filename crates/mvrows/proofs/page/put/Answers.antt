use Rattle.std.proofs.Common.{ap, sym, ◌∙◌}
use Rattle.std.proofs.lemmas.Result.{on_ok_weaker}
use Rattle.mvrows.proofs.PageLemmas.{put-at, put-inserted}
use Rattle.std.specs.Prelude.{slice_get, false}
use Rattle.std.specs.Option.{option_map_or}
use Rattle.schema.specs.Plain.{same}
use Rattle.mvrows.specs.Versions.{KeyVersions}
use Rattle.mvrows.specs.Installing.{newer}
use Rattle.mvrows.proofs.page.put.Goals as goal

pub returns-then-is_at-clause-ok : goal.returns-then-is_at-clause-ok
returns-then-is_at-clause-ok g c =
    let at = ap (λ rs. option_map_or (λ (k : KeyVersions _). same c.args.change.now.key k.key) (slice_get rs c.args.place) false) (sym c.as_slice.ensures.value) ∙ ap (λ x. option_map_or (λ (k : KeyVersions _). same x k.key) (slice_get c.as_slice.result.now c.args.place) false) (sym (c.value.ensures.value ∙ c.key.ensures)) ∙ sym c.if-is_at.ensures in
    on_ok_weaker c.put.result
    (λ made. put-at c.args.change.now.key (record { number = c.args.number; fields = c.args.change.now.fields }) c.args.place c.args.chains.now.items c.index_mut-chain.result.now c.put.new.self c.requires.before c.index_mut-chain.ensures.value at (made ∙ ap (λ f. newer (record { number = c.args.number; fields = f }) c.index_mut-chain.result.now) c.fields.ensures))
    c.put.ensures.ok

pub returns-in_ok-insert-clause-ok : goal.returns-in_ok-insert-clause-ok
returns-in_ok-insert-clause-ok g c =
    let isnt = ap (λ rs. option_map_or (λ (k : KeyVersions _). same c.args.change.now.key k.key) (slice_get rs c.args.place) false) (sym c.as_slice.ensures.value) ∙ ap (λ x. option_map_or (λ (k : KeyVersions _). same x k.key) (slice_get c.as_slice.result.now c.args.place) false) (sym (c.value.ensures.value ∙ c.key.ensures)) ∙ sym c.if-is_at.ensures in
    put-inserted c.args.change.now.key (record { number = c.args.number; fields = c.args.change.now.fields }) c.args.place c.args.chains.now.items c.insert.new.self.items c.in_ok-chain.chain c.requires.before c.requires.within isnt c.in_ok-chain.ensures.ok c.in_ok-insert.ensures.items
