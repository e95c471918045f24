use Rattle.restore.proofs.words.Texts.{parted-position, parted-no_position}
use Rattle.restore.proofs.text.parted.Goals as goal

pub returns-in-Some-clause-parts : goal.returns-in-Some-clause-parts
returns-in-Some-clause-parts c = rw (c.around.ensures.before, c.around.ensures.behind) (parted-position c.args.byte c.in-Some.place c.args.text.now c.in-Some.ensures.place)

pub returns-in-None-clause-parts : goal.returns-in-None-clause-parts
returns-in-None-clause-parts c = parted-no_position c.args.byte c.args.text.now c.in-None.ensures.place
