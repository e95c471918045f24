use Rattle.std.proofs.Common.{◌≡◌, Ok, inl, inr, subst}
use Rattle.script.specs.Scripts.{said}
use Rattle.script.specs.declared.schedule.Schedule.TheVariants.{Free}
use Rattle.program.specs.Files.{read_of}
use Rattle.program.specs.Ends.{script_fault}
use Rattle.program.proofs.PrintLemmas.{prints_none}
use Rattle.program.proofs.StopLemmas.{no_script, unread}
use Rattle.program.proofs.free.Machine+F+T+Global.run_free.Goals as goal

pub returns-in-Ok-read_script-clause-done : goal.returns-in-Ok-read_script-clause-done
returns-in-Ok-read_script-clause-done g c told = (
  c.in-Ok.bytes.items,
  c.in-Ok-read_script.script,
  c.in-Ok.ensures.read,
  subst (λ b. said Free b ≡ Ok c.in-Ok-read_script.script) c.as_slice-text.ensures.value c.in-Ok-read_script.ensures,
  c.serve_script.ensures.done told,
)

pub returns-in-Err-clause-stopped : goal.returns-in-Err-clause-stopped
returns-in-Err-clause-stopped g c other = (c.in-Err.fault, c.tell.ensures.kind, (inl (unread _ Free _ _ c.in-Err.fault c.in-Err.ensures.fault), prints_none c.args.printer.now))

pub returns-in-Ok-read_script-clause-stopped : goal.returns-in-Ok-read_script-clause-stopped
returns-in-Ok-read_script-clause-stopped g c other =
    let s = c.serve_script.ensures.stopped other in
    (s.0, s.1, (inr (c.in-Ok.bytes.items, c.in-Ok-read_script.script, c.in-Ok.ensures.read, subst (λ b. said Free b ≡ Ok c.in-Ok-read_script.script) c.as_slice-text.ensures.value c.in-Ok-read_script.ensures, s.2.0), s.2.1))

pub returns-clause-stopped : goal.returns-clause-stopped
returns-clause-stopped g c other = (script_fault c.in-Err-read_script.fault.line, c.tell_line.ensures, (inl (no_script _ Free (read_of (g.F.Stored.held c.args.self.now.files.now) (g.F.Stored.input c.args.self.now.files.now) c.args.path.now) c.args.path.now c.in-Ok.bytes.items c.as_slice-text.result.now c.in-Err-read_script.fault.line c.in-Ok.ensures.read c.as_slice-text.ensures.value c.in-Err-read_script.ensures), prints_none c.args.printer.now))
