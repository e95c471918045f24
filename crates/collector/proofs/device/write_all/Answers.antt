use Rattle.std.proofs.Common.{◌≡◌, ◌∙◌, ◌+◌, ◌-◌, ◌++◌, length, take, drop, sym, ap, arith, append_assoc, length-drop}
use Rattle.std.proofs.Math.Seq.{take-add}
use Rattle.std.proofs.lemmas.List.{take-append-drop, take_all}
use Rattle.collector.proofs.device.write_all.Goals as goal

pub loop-from-preserved : goal.loop-from-preserved
loop-from-preserved g c =
    let i = c.loop-from.invariant in
    let t = c.in-Ok.ensures.taken in
    let s = c.in-Ok.ensures.some in
    let from = c.loop-from.from in
    let bytes = c.args.bytes.now in
    let old = g.W.Device.taken c.args.device.now in
    let more = s.0 in
    let rest : take (length bytes - from) (drop from bytes) ≡ drop from bytes = take_all (length bytes - from) (drop from bytes) (omega (arith, length-drop from bytes)) in (
      (let inside = i.0 in let size : length (take (length bytes - from) (drop from bytes)) ≡ length bytes - from = ap length rest ∙ length-drop from bytes in omega arith),
      t.0 ∙ ap (λ l. g.W.Device.taken c.loop-from.device ++ take c.in-Ok.n l) rest ∙ ap (λ l. l ++ take c.in-Ok.n (drop from bytes)) i.1 ∙ append_assoc old (take from bytes) (take c.in-Ok.n (drop from bytes)) ∙ ap (λ l. old ++ l) (sym (take-add from c.in-Ok.n bytes)),
      t.1 ∙ i.2,
    )

pub returns-in-Err-clause-err : goal.returns-in-Err-clause-err
returns-in-Err-clause-err g c =
    let i = c.loop-from.invariant in
    let f = c.in-Err.ensures.failed in
    let from = c.loop-from.from in
    let bytes = c.args.bytes.now in
    ((take from bytes, f.0 ∙ i.1, (drop from bytes, take-append-drop from bytes)), f.1 ∙ ap (λ n. n + 1) i.2)
