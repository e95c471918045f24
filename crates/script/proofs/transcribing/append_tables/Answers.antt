use Rattle.script.specs.Transcribing.{table_asked}
use Rattle.script.proofs.CutLemmas.{told_all, told_more}
use Rattle.script.proofs.transcribing.append_tables.Goals as goal

pub loop-line-preserved : goal.loop-line-preserved
loop-line-preserved g c =
    told_more table_asked c.loop-line.rest.now c.in-Some.line.now c.in-Some.more.now c.loop-line.text.items c.append_table.new.text.items _ (rw c.in-Some.is at c.cut.ensures.value) c.in_ok-append_table.ensures.ok c.loop-line.invariant

pub returns : goal.returns
returns g c = record { ok = told_all table_asked c.loop-line.rest.now c.loop-line.text.items _ (rw c.in_default.is at c.cut.ensures.value) c.loop-line.invariant }
