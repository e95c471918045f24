use Rattle.std.proofs.Common.{inl, inr, refl, subst, sym}
use Rattle.script.specs.declared.schedule.Schedule.TheVariants.{InOrder}
use Rattle.program.specs.Files.{IsAllOf, read_of}
use Rattle.program.specs.Ends.{script_fault}
use Rattle.program.proofs.StopLemmas.{no_script, unread}
use Rattle.program.proofs.machine.Machine.run_file.Goals as goal

pub returns-in-Ok-read_script-clause-done : goal.returns-in-Ok-read_script-clause-done
returns-in-Ok-read_script-clause-done g c told = (
  c.as_slice-text.result.now,
  c.in-Ok-read_script.script,
  subst (λ b. IsAllOf (read_of (g.F.Stored.held c.args.self.now.files.now) (g.F.Stored.input c.args.self.now.files.now) c.args.path.now) b) (sym c.as_slice-text.ensures.value) c.in-Ok.ensures.read,
  c.in-Ok-read_script.ensures,
  c.do_read.ensures.done told,
)

pub returns-in-Err-clause-stopped : goal.returns-in-Err-clause-stopped
returns-in-Err-clause-stopped g c other = (c.in-Err.fault, c.tell.ensures.kind, inl (unread _ InOrder _ _ c.in-Err.fault c.in-Err.ensures.fault, refl))

pub returns-in-Ok-read_script-clause-stopped : goal.returns-in-Ok-read_script-clause-stopped
returns-in-Ok-read_script-clause-stopped g c other =
    let s = c.do_read.ensures.stopped other in
    (s.0, s.1, inr (c.as_slice-text.result.now, c.in-Ok-read_script.script, subst (λ b. IsAllOf (read_of (g.F.Stored.held c.args.self.now.files.now) (g.F.Stored.input c.args.self.now.files.now) c.args.path.now) b) (sym c.as_slice-text.ensures.value) c.in-Ok.ensures.read, c.in-Ok-read_script.ensures, s.2))

pub returns-clause-stopped : goal.returns-clause-stopped
returns-clause-stopped g c other = (script_fault c.in-Err-read_script.fault.line, c.tell_line.ensures, inl (no_script g.row.A.Denot InOrder (read_of (g.F.Stored.held c.args.self.now.files.now) (g.F.Stored.input c.args.self.now.files.now) c.args.path.now) c.args.path.now c.in-Ok.bytes.items c.as_slice-text.result.now c.in-Err-read_script.fault.line c.in-Ok.ensures.read c.as_slice-text.ensures.value c.in-Err-read_script.ensures, refl))
