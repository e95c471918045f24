use Rattle.library.proofs.CheckLemmas.{ends_judged}
use Rattle.library.proofs.checking.tables_output.Goals as goal

pub returns-in-Ok : goal.returns-in-Ok
returns-in-Ok g c =
    ends_judged c.args.catalog c.args.tables c.args.traces c.in-Ok.judgement _ _ c.requires.empty c.in-Ok.ensures.kept.2 c.in-Ok.ensures.tells c.judgement_output.ensures
