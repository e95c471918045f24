use Rattle.std.proofs.Common.{ap, sym, ◌∙◌}
use Rattle.explore.specs.Explored.{after_turns}
use Rattle.explore.proofs.Beginnings.{has_room, is_unbegun}
use Rattle.explore.proofs.EachOnce.{same_catalog}
use Rattle.explore.proofs.Gathering.{moved_prepared}
use Rattle.explore.proofs.plan.Plan.run_order.Goals as goal

pub do_turns-requires : goal.do_turns-requires
do_turns-requires g c = record {
  unbegun = is_unbegun c.args.self.now c.in_ok-core.core c.in_ok-core.ensures;
  prepared = moved_prepared c.args.self.now.setup.opening.catalog c.in_ok-core.core.opening.catalog c.args.self.now.lines c.lines.result.now c.events.result.now (sym (same_catalog c.args.self.now c.in_ok-core.core c.in_ok-core.ensures)) (sym c.lines.ensures) c.events.ensures;
  room = has_room c.args.self.now c.in_ok-core.core c.args.order.now c.in_ok-core.ensures c.requires;
}

pub returns-clause-ran : goal.returns-clause-ran
returns-clause-ran g c = (c.in_ok-core.core, c.in_ok-core.ensures, c.in_ok-do_turns.ensures ∙ ap (λ ls. after_turns ls c.in_ok-core.core c.args.order.now) c.lines.ensures)
