use Rattle.std.proofs.Common.{◌+◌}
use Rattle.mvrows.proofs.NearLemmas.{stands_before, stands_behind}
use Rattle.mvrows.proofs.page.place_near.Goals as goal

pub returns-then-is_behind-clause-before : goal.returns-then-is_behind-clause-before
returns-then-is_behind-clause-before g c = stands_before c.args.key.now c.args.chains.now (c.args.near + 1) c.requires (c.is_behind.ensures.at c.if-is_behind.true)

pub returns-then-is_behind-clause-within : goal.returns-then-is_behind-clause-within
returns-then-is_behind-clause-within g c = stands_behind c.args.key.now c.args.chains.now (c.args.near + 1) c.requires (c.is_behind.ensures.at c.if-is_behind.true)
