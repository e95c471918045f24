use Rattle.std.proofs.Common.{subst}
use Rattle.std.specs.Option.{option_map}
use Rattle.orders.specs.Undone.{HasRun}
use Rattle.orders.proofs.WalkLemmas.{gone-so, stayed-so}
use Rattle.orders.proofs.walk.Walk.go.Goals as goal

pub returns-in_ok-push-in-Some-clause-ok : goal.returns-in_ok-push-in-Some-clause-ok
returns-in_ok-push-in-Some-clause-ok g c =
    gone-so c.args.catalog.now c.args.transaction.now c.args.self.now c.run.new.self c.push.new.self c.args.place c.in-Some.back.items
    (subst (λ o. HasRun c.args.catalog.now c.args.transaction.now.statements c.args.self.now.tables (option_map (λ v. v.items) o) c.run.new.self.tables) c.in-Some.is c.in_ok-turn.ensures.ok) c.in_ok-turn.ensures.others c.in_ok-push-in-Some.ensures.ok

pub returns-in-None-clause-ok : goal.returns-in-None-clause-ok
returns-in-None-clause-ok g c =
    stayed-so c.args.catalog.now c.args.transaction.now c.args.self.now c.run.new.self c.args.place
    (subst (λ o. HasRun c.args.catalog.now c.args.transaction.now.statements c.args.self.now.tables (option_map (λ v. v.items) o) c.run.new.self.tables) c.in-None.is c.in_ok-turn.ensures.ok) c.in_ok-turn.ensures.others
