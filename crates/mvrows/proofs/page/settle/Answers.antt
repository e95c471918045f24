use Rattle.std.proofs.Common.{ap, sym, arith, false, length, ◌<◌, ◌∙◌}
use Rattle.std.specs.Prelude.{slice_get}
use Rattle.std.specs.Option.{option_map_or}
use Rattle.value.proofs.Basics.{below-passed}
use Rattle.schema.specs.Plain.{same}
use Rattle.mvrows.specs.Versions.{KeyVersions}
use Rattle.mvrows.proofs.SettledPageLemmas.{settle-none, settle-kept, settle-gone}
use Rattle.mvrows.proofs.page.settle.Goals as goal

pub returns-then-not-is_at : goal.returns-then-not-is_at
returns-then-not-is_at g c =
    settle-none (record { oldest = c.args.oldest; snapshots = c.args.snapshots.now }) c.args.key.now c.args.place c.args.chains.now.items c.requires.before c.requires.within
    (ap (λ rs. option_map_or (λ (k : KeyVersions _). same c.args.key.now k.key) (slice_get rs c.args.place) false) (sym c.as_slice.ensures.value) ∙ ap (λ x. option_map_or (λ (k : KeyVersions _). same x k.key) (slice_get c.as_slice.result.now c.args.place) false) (sym c.value.ensures.value) ∙ sym c.is_at.ensures ∙ c.if-not-is_at.true)

pub index_mut-chain-requires : goal.index_mut-chain-requires
index_mut-chain-requires g c =
    let at = ap (λ rs. option_map_or (λ (k : KeyVersions _). same c.args.key.now k.key) (slice_get rs c.args.place) false) (sym c.as_slice.ensures.value) ∙ ap (λ x. option_map_or (λ (k : KeyVersions _). same x k.key) (slice_get c.as_slice.result.now c.args.place) false) (sym c.value.ensures.value) ∙ sym c.is_at.ensures ∙ c.if-not-is_at.false in
    let lt : c.args.place < length c.args.chains.now.items = below-passed (λ (k : KeyVersions _). same c.args.key.now k.key) c.args.chains.now.items c.args.place at in
    omega (arith, lt, c.args.chains.now.ok)

pub remove-requires : goal.remove-requires
remove-requires g c =
    let at = ap (λ rs. option_map_or (λ (k : KeyVersions _). same c.args.key.now k.key) (slice_get rs c.args.place) false) (sym c.as_slice.ensures.value) ∙ ap (λ x. option_map_or (λ (k : KeyVersions _). same x k.key) (slice_get c.as_slice.result.now c.args.place) false) (sym c.value.ensures.value) ∙ sym c.is_at.ensures ∙ c.if-not-is_at.false in
    let lt : c.args.place < length c.args.chains.now.items = below-passed (λ (k : KeyVersions _). same c.args.key.now k.key) c.args.chains.now.items c.args.place at in
    omega (arith, lt, c.args.chains.now.ok)

pub returns-then-not-has_version : goal.returns-then-not-has_version
returns-then-not-has_version g c =
    let at = ap (λ rs. option_map_or (λ (k : KeyVersions _). same c.args.key.now k.key) (slice_get rs c.args.place) false) (sym c.as_slice.ensures.value) ∙ ap (λ x. option_map_or (λ (k : KeyVersions _). same x k.key) (slice_get c.as_slice.result.now c.args.place) false) (sym c.value.ensures.value) ∙ sym c.is_at.ensures ∙ c.if-not-is_at.false in
    settle-gone (record { oldest = c.args.oldest; snapshots = c.args.snapshots.now }) c.args.key.now c.args.place c.args.chains.now.items c.remove.new.self.items c.index_mut-chain.result.now c.settle.new.self c.requires.before c.index_mut-chain.ensures.value at c.settle.ensures (sym c.has_version.ensures ∙ c.if-not-has_version.true) c.remove.ensures.items

pub returns-else-not-has_version : goal.returns-else-not-has_version
returns-else-not-has_version g c =
    let at = ap (λ rs. option_map_or (λ (k : KeyVersions _). same c.args.key.now k.key) (slice_get rs c.args.place) false) (sym c.as_slice.ensures.value) ∙ ap (λ x. option_map_or (λ (k : KeyVersions _). same x k.key) (slice_get c.as_slice.result.now c.args.place) false) (sym c.value.ensures.value) ∙ sym c.is_at.ensures ∙ c.if-not-is_at.false in
    settle-kept (record { oldest = c.args.oldest; snapshots = c.args.snapshots.now }) c.args.key.now c.args.place c.args.chains.now.items c.index_mut-chain.result.now c.settle.new.self c.requires.before c.index_mut-chain.ensures.value at c.settle.ensures (sym c.has_version.ensures ∙ c.if-not-has_version.false)
