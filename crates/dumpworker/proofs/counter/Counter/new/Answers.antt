use Rattle.dumpworker.proofs.CounterLemmas.{begins}
use Rattle.dumpworker.proofs.counter.Counter.new.Goals as goal

pub of_words-requires : goal.of_words-requires
of_words-requires g c = begins
