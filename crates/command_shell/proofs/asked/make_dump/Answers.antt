use Rattle.std.proofs.Common.{◌≡◌, ◌⊎◌, ◌∙◌, ap, subst, inl, inr, ℕ, List, Err, Bor}
use Rattle.std.proofs.lemmas.Result.{IfOk-weaker}
use Rattle.history.specs.Opening.{Recorded}
use Rattle.backup.specs.declared.fault.SafeDumpFault.TheVariants.{Dump}
use Rattle.dumpworker.specs.declared.fault.DumpFault.TheVariants.{Device}
use Rattle.program.specs.Dumps.{IsDumpedAt}
use Rattle.program.specs.Files.{IsFileFault, Writing, writing_of}
use Rattle.program.specs.declared.fault.Fault.{Fault}
use Rattle.program.specs.declared.fault.Fault.TheVariants as fault
use Rattle.shell.specs.declared.told.SessionDump.{SessionDump}
use Rattle.command_shell.specs.Serves.{TellsSessionDump, dump_device_text}
use Rattle.command_shell.proofs.asked.make_dump.Goals as goal

-- The file that has failed is the dump's.
failed : {A : Type 0} (writes : Writing) (h : Recorded A) (d : SessionDump A) (f : Fault) (path : Bor (List ℕ)) (text : List ℕ) → f ≡ fault.Device path
    → ((f ≡ fault.ScriptOutOfMemory) ⊎ (IsFileFault d.request.path f × IsDumpedAt writes h d.session d.request.path (Err (Dump Device)))) → text ≡ dump_device_text d.session path.now → TellsSessionDump writes h d text
failed writes h d f path text is why told = go (subst (λ g. (g ≡ fault.ScriptOutOfMemory) ⊎ (IsFileFault d.request.path g × IsDumpedAt writes h d.session d.request.path (Err (Dump Device)))) is why)
  where
    go : ((fault.Device path ≡ fault.ScriptOutOfMemory) ⊎ (IsFileFault d.request.path (fault.Device path) × IsDumpedAt writes h d.session d.request.path (Err (Dump Device)))) → TellsSessionDump writes h d text
    go (inl e) = cc
    go (inr (same, dumped)) = inr (told ∙ ap (dump_device_text d.session) same, dumped)

pub returns-in-Err-Device-clause-told : goal.returns-in-Err-Device-clause-told
returns-in-Err-Device-clause-told g c =
    IfOk-weaker c.dump_device_text.result _ _
    (λ text told. failed (writing_of g.F.Out.OutFile.path g.F.Out.Placed.kept g.F.Out.Device.failures) c.args.core.now c.args.dump.now c.in-Err-Device.field-0 c.in-Err-Device.path text.items c.in-Err-Device.field-0-is c.in-Err-Device.ensures.fault told)
    c.dump_device_text.ensures.text
