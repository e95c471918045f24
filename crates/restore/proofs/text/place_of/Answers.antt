use Rattle.restore.proofs.words.Bytes.{first_place}
use Rattle.restore.proofs.text.place_of.Goals as goal

pub returns-clause-place : goal.returns-clause-place
returns-clause-place c = first_place c.args.byte c.args.text.now c.memchr.result c.memchr.ensures
