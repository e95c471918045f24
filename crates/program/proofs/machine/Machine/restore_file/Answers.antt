use Rattle.std.proofs.Common.{◌≡◌, Ok, subst}
use Rattle.restore.specs.Reading.{read_dump}
use Rattle.restore.specs.Steps.{no_memory}
use Rattle.std.proofs.lemmas.Result.{IfErr-weaker}
use Rattle.program.proofs.RestoredLemmas.{on_ok, was_read}
use Rattle.program.proofs.StopLemmas.{unwritten}
use Rattle.program.proofs.machine.Machine.restore_file.Goals as goal

pub returns-clause-done : goal.returns-clause-done
returns-clause-done g c =
    on_ok c.write_and_tell-told.result _ _ _ _
    (λ written printed flushed. (
      c.in_ok-bytes.bytes.items,
      c.in_ok-catalog.catalog,
      c.in_ok-catalog.tables,
      c.in_ok-bytes.ensures.read,
      subst (λ b. read_dump b ≡ Ok (c.in_ok-catalog.catalog, c.in_ok-catalog.tables)) c.as_slice.ensures.value (was_read _ (read_dump c.as_slice.result.now) no_memory c.in_ok-catalog.ensures.read),
      written,
      printed,
      flushed,
    ))
    c.write_and_tell-told.ensures.written c.write_and_tell-told.ensures.printed c.write_and_tell-told.ensures.flushed

pub returns-clause-fault : goal.returns-clause-fault
returns-clause-fault g c = IfErr-weaker c.write_and_tell-told.result _ _ (λ f e. unwritten _ _ _ _ f c.write_and_tell-told.new.printer e) c.write_and_tell-told.ensures.fault
