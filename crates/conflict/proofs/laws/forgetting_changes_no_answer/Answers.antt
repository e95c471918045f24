use Rattle.conflict.proofs.Alike.{alike_answers, alike_chain, alike_itself, alike_later, alike_told, forgets_alike}
use Rattle.conflict.proofs.laws.forgetting_changes_no_answer.Goals as goal

pub returns-clause-forget : goal.returns-clause-forget
returns-clause-forget c = forgets_alike

pub returns-clause-told : goal.returns-clause-told
returns-clause-told c = alike_told

pub returns-clause-later : goal.returns-clause-later
returns-clause-later c = alike_later

pub returns-clause-chain : goal.returns-clause-chain
returns-clause-chain c = alike_chain

pub returns-clause-itself : goal.returns-clause-itself
returns-clause-itself c = alike_itself

pub returns-clause-answers : goal.returns-clause-answers
returns-clause-answers c = alike_answers
