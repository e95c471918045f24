use Rattle.restore.proofs.words.Texts.{split-whole, split-parted}
use Rattle.restore.proofs.text.first_part.Goals as goal

pub returns-in-Some-clause-parts : goal.returns-in-Some-clause-parts
returns-in-Some-clause-parts c = split-parted 44 c.args.text.now c.in-Some.part.now c.in-Some.more.now c.in-Some.ensures.parts

pub returns-in-None-clause-parts : goal.returns-in-None-clause-parts
returns-in-None-clause-parts c = split-whole 44 c.args.text.now c.in-None.ensures.parts
