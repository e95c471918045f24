use Rattle.pass.proofs.Moves.{begins}
use Rattle.pass.proofs.word.HistoryWord.new.Goals as goal

pub of_words-requires : goal.of_words-requires
of_words-requires g c = begins _
