use Rattle.terminal.proofs.HeaderLemmas.{headed}
use Rattle.terminal.proofs.header.last_header.Goals as goal

pub returns-in-Some-clause-header : goal.returns-in-Some-clause-header
returns-in-Some-clause-header g c = headed _ _ c.action_header.result c.args.history.now.records c.in-Some.ensures.some.0 c.in-Some.last.now c.action_header.ensures.header c.catalog.ensures c.in-Some.ensures.some.1
