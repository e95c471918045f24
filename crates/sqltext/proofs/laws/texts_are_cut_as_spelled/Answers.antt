use Rattle.sqltext.proofs.lexemes.Cut.{cuts_as_spelled}
use Rattle.sqltext.proofs.laws.texts_are_cut_as_spelled.Goals as goal

pub returns : goal.returns
returns c = cuts_as_spelled
