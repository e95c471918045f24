use Rattle.certificate.proofs.RuleLemmas.{common-holds, earlier-holds, found-holds, joined-holds, later-holds, needless-excluded, source-before, source-there}
use Rattle.certificate.proofs.laws.rules_hold.Goals as goal

pub returns-clause-joined : goal.returns-clause-joined
returns-clause-joined g c = λ b exact order turns play k valid x y z h. joined-holds b exact order turns play k valid x y z h

pub returns-clause-source : goal.returns-clause-source
returns-clause-source g c = λ b exact order turns play k valid x y cell h. (source-there b exact order turns play k valid x y cell h, source-before b exact order turns play k valid x y cell h)

pub returns-clause-later : goal.returns-clause-later
returns-clause-later g c = λ b exact order turns play k valid y x cell h. later-holds b exact order turns play k valid y x cell h

pub returns-clause-earlier : goal.returns-clause-earlier
returns-clause-earlier g c = λ b exact order turns play k valid x z y cell h. earlier-holds b exact order turns play k valid x z y cell h

pub returns-clause-common : goal.returns-clause-common
returns-clause-common g c = λ b exact order turns play k valid x y cell h. common-holds b exact order turns play k valid x y cell h

pub returns-clause-needless : goal.returns-clause-needless
returns-clause-needless g c = λ b exact order turns play k valid w n s column y at h. needless-excluded b exact order turns play k valid w n s column y at h

pub returns-clause-found : goal.returns-clause-found
returns-clause-found g c = λ b exact order turns play k valid v cell y h. found-holds b exact order turns play k valid v cell y h
