use Rattle.std.proofs.Common.{rules}
use Rattle.sqltext.specs.Tokens.{same_kind}
use Rattle.sqltext.proofs.token.same_kind.Goals as goal

pub returns : goal.returns
unfolding same_kind
returns c = search rules
