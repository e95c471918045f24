-- Dumps whose file is kept.
use Rattle.std.proofs.Common.{◌≡◌, ◌≢◌, ◌⊎◌, ℕ, List, [], Some, Result, Ok, Err, OnOk, inl, inr, refl, sym, subst, true≢false, ap}
use Rattle.std.specs.Result.{is_ok}
use Rattle.history.specs.Opening.{Recorded}
use Rattle.backup.specs.Backed.{IsWhole}
use Rattle.backup.specs.declared.fault.SafeDumpFault.{SafeDumpFault}
use Rattle.backup.specs.declared.fault.SafeDumpFault.TheVariants.{Dump, View}
use Rattle.dumpworker.specs.declared.fault.DumpFault.TheVariants.{Device, Memory}
use Rattle.program.specs.Dumps.{IsDumped, IsDumpedAt, TellsDumpAt, dump_text}
use Rattle.program.specs.Files.{IsFileFault, Writing, writing_of}
use Rattle.program.specs.declared.fault.Fault.{Fault}
use Rattle.program.specs.declared.fault.Fault.TheVariants as fault

module _ {A : Type 0} where
  -- a dump that was whole, and of which it is known whether it was kept for the path that its file was made for
  pub dumped_at : {Out : Type 0} (path_of kept : Out → List ℕ) (failures : Out → ℕ) (h : Recorded A) (s : ℕ) (path : List ℕ) (d r : Result (Unit {0}) SafeDumpFault) (made file : Out) (taken : List ℕ)
      → path_of made ≡ path → kept made ≡ [] → failures made ≡ 0 → IsDumped h s d → OnOk d (IsWhole h s [] taken) → OnOk r (kept file ≡ taken) → (r ≡ d) ⊎ (d ≡ Ok tt) × (r ≡ Err (Dump Device)) → (r ≡ Err (Dump Device) → failures file ≢ 0) → IsDumpedAt (writing_of path_of kept failures) h s path r
  dumped_at path_of kept failures h s path d r made file taken at empty sound dumped whole now how fails = go d r dumped whole now how fails
    where
      go : (d r : Result (Unit {0}) SafeDumpFault) → IsDumped h s d → OnOk d (IsWhole h s [] taken) → OnOk r (kept file ≡ taken) → (r ≡ d) ⊎ (d ≡ Ok tt) × (r ≡ Err (Dump Device)) → (r ≡ Err (Dump Device) → failures file ≢ 0) → IsDumpedAt (writing_of path_of kept failures) h s path r
      go (Ok x) (Ok y) dumped whole now how fails = (taken, whole, (made, at, empty, file, now))
      go (Err f) (Ok y) dumped whole now (inl same) fails = absurd (true≢false (ap is_ok same))
      go (Err f) (Ok y) dumped whole now (inr failed) fails = absurd (true≢false (sym (ap is_ok failed.0)))
      go d (Err (View e)) dumped whole now (inl same) fails = subst (λ z. IsDumped h s z) (sym same) dumped
      go d (Err (View e)) dumped whole now (inr failed) fails = cc
      go d (Err (Dump Memory)) dumped whole now how fails = tt
      go d (Err (Dump Device)) dumped whole now (inl same) fails = (subst (λ z. IsDumped h s z) (sym same) dumped, (made, at, sound, file, fails refl))
      go (Ok x) (Err (Dump Device)) dumped whole now (inr failed) fails = (inr (taken, whole), (made, at, sound, file, fails refl))
      go (Err f) (Err (Dump Device)) dumped whole now (inr failed) fails = absurd (true≢false (sym (ap is_ok failed.0)))

  -- a dump ends its script where its file has failed
  pub dump_ends : (writes : Writing) (h : Recorded A) (s : ℕ) (path : List ℕ) (d : Result (Unit {0}) SafeDumpFault) (f g : Fault)
      → IsDumpedAt writes h s path d → IsFileFault path g → (f ≡ fault.ScriptOutOfMemory) ⊎ (f ≡ g) × (d ≡ Err (Dump Device)) → (f ≡ fault.ScriptOutOfMemory) ⊎ (IsFileFault path f × IsDumpedAt writes h s path (Err (Dump Device)))
  dump_ends writes h s path d f g dumped at (inl memory) = inl memory
  dump_ends writes h s path d f g dumped at (inr device) = inr (subst (IsFileFault path) (sym device.0) at, subst (λ z. IsDumpedAt writes h s path z) device.1 dumped)

  -- where only the dump is reported
  pub dump_ends_it : (writes : Writing) (h : Recorded A) (s : ℕ) (path : List ℕ) (d : Result (Unit {0}) SafeDumpFault) (f g : Fault)
      → IsDumpedAt writes h s path d → IsFileFault path g → (f ≡ fault.ScriptOutOfMemory) ⊎ (f ≡ g) × (d ≡ Err (Dump Device)) → (f ≡ fault.ScriptOutOfMemory) ⊎ (IsFileFault path f × IsDumped h s (Err (Dump Device)))
  dump_ends_it writes h s path d f g dumped at why = elim (dump_ends writes h s path d f g dumped at why) [
    | inl memory ↦ inl memory
    | inr failed ↦ inr (failed.0, failed.1.0)
  ]

  -- the result of a dump, and what is printed of it
  pub dump_is_told : (writes : Writing) (h : Recorded A) (s t : ℕ) (path text : List ℕ) (d : Result (Unit {0}) SafeDumpFault) → t ≡ s → IsDumpedAt writes h t path d → dump_text s d ≡ Some text → TellsDumpAt writes h s path text
  dump_is_told writes h s t path text d same dumped told = (d, subst (λ n. IsDumpedAt writes h n path d) same dumped, told)
