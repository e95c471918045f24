use Rattle.std.proofs.lemmas.Result.{on_ok_weaker}
use Rattle.orders.proofs.PopLemmas.{put-tables}
use Rattle.orders.proofs.walk.Walk.put_back.Goals as goal

pub returns-clause-ok : goal.returns-clause-ok
returns-clause-ok g c = on_ok_weaker c.take_back.result (λ e. put-tables c.args.self.now c.take_back.new.tables c.args.back.now c.self.view_is e) c.take_back.ensures.ok
