use Rattle.std.proofs.Common.{true, false, sym, ◌∙◌}
use Rattle.dumpplan.specs.Lines.{dump_of}
use Rattle.restore.proofs.again.Dump.{dump_again}
use Rattle.restore.proofs.faults.Whole.{dump_agrees}
use Rattle.restore.proofs.law.reads_what_is_dumped.Goals as goal

pub returns-clause-counted : goal.returns-clause-counted
returns-clause-counted g c = λ catalog X well sound. sym (dump_agrees (dump_of true catalog X)) ∙ dump_again true catalog X well sound

pub returns-clause-uncounted : goal.returns-clause-uncounted
returns-clause-uncounted g c = λ catalog X well sound. sym (dump_agrees (dump_of false catalog X)) ∙ dump_again false catalog X well sound
