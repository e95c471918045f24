use Rattle.sqltext.proofs.TextLemmas.{parses_what_is_spelled, refuses_what_is_not}
use Rattle.sqltext.proofs.laws.texts_are_parsed_as_spelled.Goals as goal

pub returns-clause-parses : goal.returns-clause-parses
returns-clause-parses g c = parses_what_is_spelled _

pub returns-clause-refuses : goal.returns-clause-refuses
returns-clause-refuses g c = refuses_what_is_not _
