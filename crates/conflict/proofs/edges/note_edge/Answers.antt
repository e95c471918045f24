use Rattle.std.proofs.Common.{◌∙◌, ap, map}
use Rattle.std.proofs.lemmas.Result.{on_ok_weaker}
use Rattle.conflict.specs.Tracked.{with_in}
use Rattle.conflict.proofs.Places.{both_maps}
use Rattle.conflict.proofs.edges.note_edge.Goals as goal

pub returns-clause-ok : goal.returns-clause-ok
returns-clause-ok g c =
    on_ok_weaker c.note_in.result
    (λ e. e ∙ ap (map (with_in c.args.begun c.args.reader c.args.writer)) c.in_ok-note_out.ensures.ok ∙ both_maps c.args.begun c.args.reader c.args.writer c.args.parties.now.items)
    c.note_in.ensures.ok
