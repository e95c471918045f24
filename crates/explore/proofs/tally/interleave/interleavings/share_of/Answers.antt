use Rattle.std.proofs.Common.{arith}
use Rattle.explore.proofs.Leading.{is_some_below, value_of}
use Rattle.explore.proofs.tally.interleave.interleavings.share_of.Goals as goal

pub unwrap-requires : goal.unwrap-requires
unwrap-requires c = is_some_below c.args.lines.now c.args.all c.args.total c.args.session c.from.result c.scaled-share.result c.from.ensures c.requires.all c.requires.some c.requires.total c.requires.session (omega arith) c.scaled-share.ensures.none

pub returns : goal.returns
returns c = value_of c.args.lines.now c.args.all c.args.total c.args.session c.from.result c.scaled-share.result c.unwrap.result c.from.ensures c.requires.all c.requires.some c.requires.total c.requires.session c.unwrap.ensures c.scaled-share.ensures.some
