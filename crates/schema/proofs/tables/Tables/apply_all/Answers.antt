use Rattle.std.proofs.Common.{[], ◌∷◌, ◌++◌, ap, sym, ◌∙◌, take, arith}
use Rattle.std.proofs.lemmas.List.{take_more}
use Rattle.schema.specs.Plain.{put_in, put_all}
use Rattle.schema.proofs.PlainLemmas.{put_all-append}
use Rattle.schema.proofs.tables.Tables.apply_all.Goals as goal

pub loop-change-preserved : goal.loop-change-preserved
loop-change-preserved g c =
    let xs = c.args.changes.now in
    let i = c.loop-change.change-index in
    let x = c.change-item.result in
    c.in_ok-put_in.ensures.ok ∙ ap (put_in x) c.loop-change.invariant
    ∙ sym (put_all-append (take i xs) (x ∷ []) c.args.self.now)
    ∙ ap (λ ys. put_all ys c.args.self.now) (sym (take_more xs i x (omega arith) ∙ ap (λ y. take i xs ++ y ∷ []) (sym c.change-item.is)))
