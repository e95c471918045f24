use Rattle.transcript.specs.Reading.{traces}
use Rattle.commands.proofs.JudgeLemmas.{fit_of, read_of, told_of}
use Rattle.commands.proofs.check.judge.judged_text.Goals as goal

pub returns-in-Some-clause-fit : goal.returns-in-Some-clause-fit
returns-in-Some-clause-fit g c = fit_of c.judged_by.result c.args.catalog c.args.tables c.in_ok-traces.traces c.judged_by.ensures.kept c.in_ok-traces.ensures.fit

pub returns-in-Some-clause-reads : goal.returns-in-Some-clause-reads
returns-in-Some-clause-reads g c = read_of c.judged_by.result c.args.catalog c.args.tables c.in_ok-traces.traces (traces c.args.catalog c.args.task.has_time c.args.text.now) c.judged_by.ensures.kept c.in_ok-traces.ensures.reads

pub returns-in-Some-clause-tells : goal.returns-in-Some-clause-tells
returns-in-Some-clause-tells g c = told_of c.judged_by.result c.args.catalog c.args.tables c.in_ok-traces.traces c.judged_by.ensures.kept c.judged_by.ensures.tells

pub returns-in-None-clause-fit : goal.returns-in-None-clause-fit
returns-in-None-clause-fit g c = fit_of c.judged.result c.args.catalog c.args.tables c.in_ok-traces.traces c.judged.ensures.kept c.in_ok-traces.ensures.fit

pub returns-in-None-clause-reads : goal.returns-in-None-clause-reads
returns-in-None-clause-reads g c = read_of c.judged.result c.args.catalog c.args.tables c.in_ok-traces.traces (traces c.args.catalog c.args.task.has_time c.args.text.now) c.judged.ensures.kept c.in_ok-traces.ensures.reads

pub returns-in-None-clause-tells : goal.returns-in-None-clause-tells
returns-in-None-clause-tells g c = told_of c.judged.result c.args.catalog c.args.tables c.in_ok-traces.traces c.judged.ensures.kept c.judged.ensures.tells
