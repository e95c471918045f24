use Rattle.std.proofs.Common.{◌≡◌, ◌∙◌, ◌++◌, ◌<◌, length, sym, ap, subst, true, false, Some, None, Option, List, ℕ, arith, ◌+◌}
use Rattle.std.specs.Prelude.{slice_index_or, slice_set}
use Rattle.collector.specs.Written.{BeginsWith}
use Rattle.collector.specs.Gathered.{IsInTurn, Gathering}
use Rattle.collector.specs.Sequenced.{gathering}
use Rattle.collector.proofs.GatheredLemmas.{wrote_piece, failed_piece, read_here}
use Rattle.collector.proofs.sequence.Sequence.write_next.Goals as goal

pub invariant_of-self-in-Ok : goal.invariant_of-self-in-Ok
invariant_of-self-in-Ok g c =
    let i = c.self.inside in
    let j : Gathering = gathering g.R.SnapshotReader.tables g.W.Device.taken g.W.Device.failures i in
    let going : i.failed ≡ false = ap (λ (v : Gathering). v.failed) c.self.view_is ∙ c.requires.open in
    let more : i.next < length j.texts = subst (λ (v : Gathering). v.next < length v.texts) (sym c.self.view_is) c.requires.more in
    let place : i.next < length i.waiting.items = omega (arith, c.self.invariant.places) in
    let here : slice_index_or i.waiting.items i.next None ≡ Some c.in-Some.piece = read_here i.waiting.items i.next c.index_mut.result.now place c.index_mut.ensures.value ∙ sym c.in-Some.ensures.value in
    let w = c.in-Ok.ensures.ok in
    subst (λ (x : Option (List ℕ)). IsInTurn (record j { taken = g.W.Device.taken c.write_all.new.device; failures = g.W.Device.failures c.write_all.new.device; waiting = slice_set i.waiting.items i.next x; next = i.next + 1 })) (sym c.in-Some.ensures.after)
    (wrote_piece j c.self.invariant going more c.in-Some.piece here (g.W.Device.taken c.write_all.new.device) (g.W.Device.failures c.write_all.new.device) (w.0 ∙ ap (λ (l : List ℕ). g.W.Device.taken i.device.now ++ l) c.as_slice.ensures) w.1)

pub invariant_of-self-in-Err : goal.invariant_of-self-in-Err
invariant_of-self-in-Err g c =
    let i = c.self.inside in
    let j : Gathering = gathering g.R.SnapshotReader.tables g.W.Device.taken g.W.Device.failures i in
    let going : i.failed ≡ false = ap (λ (v : Gathering). v.failed) c.self.view_is ∙ c.requires.open in
    let more : i.next < length j.texts = subst (λ (v : Gathering). v.next < length v.texts) (sym c.self.view_is) c.requires.more in
    let place : i.next < length i.waiting.items = omega (arith, c.self.invariant.places) in
    let here : slice_index_or i.waiting.items i.next None ≡ Some c.in-Some.piece = read_here i.waiting.items i.next c.index_mut.result.now place c.index_mut.ensures.value ∙ sym c.in-Some.ensures.value in
    let w = c.in-Err.ensures.err in
    subst (λ (x : Option (List ℕ)). IsInTurn (record j { taken = g.W.Device.taken c.write_all.new.device; failures = g.W.Device.failures c.write_all.new.device; waiting = slice_set i.waiting.items i.next x; failed = true })) (sym c.in-Some.ensures.after)
    (failed_piece j c.self.invariant going more c.in-Some.piece here (g.W.Device.taken c.write_all.new.device) (g.W.Device.failures c.write_all.new.device) w.0.0 w.0.1 (subst (λ (l : List ℕ). BeginsWith l w.0.0) c.as_slice.ensures w.0.2) w.1)
