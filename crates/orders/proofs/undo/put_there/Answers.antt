use Rattle.std.proofs.lemmas.Result.{on_ok_weaker}
use Rattle.orders.proofs.UndoLemmas.{put-kept}
use Rattle.orders.proofs.undo.put_there.Goals as goal

pub returns-clause-back : goal.returns-clause-back
returns-clause-back g c =
    on_ok_weaker c.apply.result (λ put. put-kept c.args.change.now c.in_ok-earlier.earlier c.args.tables.now c.apply.new.self c.args.back.now.items c.push.new.self.items c.requires.sorted
    c.in_ok-earlier.ensures.ok put c.in_ok-push.ensures.items) c.apply.ensures.ok
