use Rattle.certificate.proofs.SumLemmas.{lacking-excluded, not-lacking, not-overfull, overfilling-excluded}
use Rattle.certificate.proofs.laws.numbers_hold.Goals as goal

pub returns-clause-overfull : goal.returns-clause-overfull
returns-clause-overfull g c = λ b exact order turns play k valid y j n s ss h. not-overfull b exact order turns play k valid y j n s ss h

pub returns-clause-lacking : goal.returns-clause-lacking
returns-clause-lacking g c = λ b exact order turns play k valid y j n s ss h. not-lacking b exact order turns play k valid y j n s ss h

pub returns-clause-more : goal.returns-clause-more
returns-clause-more g c = λ b exact order turns play k valid w m y j n s ss at h. overfilling-excluded b exact order turns play k valid w m y j n s ss at h

pub returns-clause-fewer : goal.returns-clause-fewer
returns-clause-fewer g c = λ b exact order turns play k valid w m y j n s ss at h. lacking-excluded b exact order turns play k valid w m y j n s ss at h
