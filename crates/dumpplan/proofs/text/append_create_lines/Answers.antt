use Rattle.std.proofs.Common.{◌++◌, ◌∷◌, [], List, ℕ, ap, sym, ◌∙◌, map, take, arith}
use Rattle.dumpplan.specs.Lines.{written, create_line}
use Rattle.dumpplan.specs.Parts.{ended}
use Rattle.dumpplan.proofs.TextLemmas.{three_on, one_more_table}
use Rattle.dumpplan.proofs.text.append_create_lines.Goals as goal

pub loop-place-preserved : goal.loop-place-preserved
loop-place-preserved g c =
    let catalog = c.args.catalog.now in
    let line = create_line (written catalog c.table.result.now) in
    let before = ended (map (λ d. create_line (written catalog d)) (take c.loop-place.place catalog)) in
    c.in_ok-push.ensures.items
    ∙ ap (λ (t : List ℕ). t ++ 10 ∷ []) (c.in_ok-append_create_line.ensures.ok ∙ ap (λ (t : List ℕ). t ++ line) c.loop-place.invariant)
    ∙ three_on c.args.text.now.items before line (10 ∷ [])
    ∙ ap (λ (t : List ℕ). c.args.text.now.items ++ t) (sym (one_more_table catalog (λ d. create_line (written catalog d)) c.loop-place.place c.table.result.now (omega arith) (rw (← c.at.ensures) c.table.ensures.table)))
