use Rattle.std.proofs.Common.{◌∙◌, ◌++◌, ap, arith}
use Rattle.std.proofs.lemmas.List.{take_all}
use Rattle.std.specs.List.{flat_map}
use Rattle.retrace.specs.Runs.{Going}
use Rattle.retrace.specs.Arrows.{arrows_from}
use Rattle.retrace.proofs.DrawnLemmas.{arrows_more}
use Rattle.retrace.proofs.drawing.arrow.arrows.Goals as goal

pub loop-reader-preserved : goal.loop-reader-preserved
loop-reader-preserved g c = arrows_more _ c.args.runs.now c.loop-reader.reader-index c.reader-item.result c.loop-reader.made.items c.push_arrows.new.made.items (omega arith) c.reader-item.is c.loop-reader.invariant
    (c.in_ok-push_arrows.ensures.ok ∙ ap (λ (h : Going _). c.loop-reader.made.items ++ arrows_from c.args.runs.now h.trace) c.reader.view_is)

pub returns-clause-ok : goal.returns-clause-ok
returns-clause-ok g c = c.loop-reader.invariant ∙ ap (λ l. flat_map (λ (h : Going _). arrows_from c.args.runs.now h.trace) l) (take_all c.loop-reader.reader-index c.args.runs.now (omega arith))
