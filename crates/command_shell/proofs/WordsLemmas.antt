-- Words that ask for no shell.
use Rattle.std.proofs.Common.{◌≡◌, ◌⊎◌, ℕ, ◌≤◌, List, Option, Result, Ok, Err, IfErr, IfOk, arith, inl, inr, refl, sym}
use Rattle.clap.specs.Words.{HasKind, Kinds, Text, kind_of}
use Rattle.clap.specs.declared.error.Error.{Error}
use Rattle.clap.specs.declared.error.ErrorKind.TheVariants.{DisplayHelp, DisplayVersion, OutOfMemory}
use Rattle.program.specs.CommandLine.{IsMistake, MayBeMistaken}
use Rattle.program.proofs.EndLemmas.{among, help_of, refused_is_no_device, refused_is_not_done}
use Rattle.program.specs.Ends.{code, status}
use Rattle.program.specs.declared.fault.Status.{Status}
use Rattle.program.specs.declared.fault.Status.TheVariants.{Done, Refused, Usage, Device}
use Rattle.program.specs.declared.fault.Fault.{Fault}
use Rattle.program.specs.declared.fault.Fault.TheVariants as fault
use Rattle.command_shell.specs.Serves.{Over}
use Rattle.command_shell.specs.Words.{AsksFor, Begins, EndsUnbegun, HasBegun, IsUnbegunBy, IsWithoutTask}

-- how the command ends where its words have a fault
pub without : (ks : Kinds) (e : Error) (s : Status) (n : ℕ) → n ≡ code s → HasKind ks e → (s ≡ Usage → IsMistake (kind_of e)) → (kind_of e ≡ OutOfMemory → s ≡ Refused) → ((s ≡ Done) ⊎ (s ≡ Device) → (kind_of e ≡ DisplayHelp) ⊎ (kind_of e ≡ DisplayVersion)) → IsWithoutTask ks n
without ks e Done n is has mistake memory help = inr (inr (help_of ks e has (λ m. refused_is_not_done (sym (memory m))) (help (inl refl)), inl is))
without ks e Refused n is has mistake memory help = inr (inl is)
without ks e Usage n is has mistake memory help = inl ((kind_of e, among ks e has (mistake refl).0, mistake refl), is)
without ks e Device n is has mistake memory help = inr (inr (help_of ks e has (λ m. refused_is_no_device (sym (memory m))) (help (inr refl)), inr is))

-- an exit status that no mistaken words have
of_fault : (f : Fault) (n : ℕ) → n ≡ code (status f) → (n ≡ 1) ⊎ (n ≡ 3)
of_fault (fault.Script line) n is = inl is
of_fault (fault.Dump line c) n is = inl is
of_fault (fault.Device path) n is = inr is
of_fault fault.ScriptOutOfMemory n is = inl is
of_fault fault.DumpOutOfMemory n is = inl is

-- a shell has begun as the words ask for it
pub begun_of : {F A : Type 0} (held : F → List ℕ → Option (List ℕ)) (files : F) (words : List Text) (path : Option Text) (most : ℕ) (r : Result (Over F A) ℕ) → AsksFor words path most → IfOk r (λ p. p.files ≡ files) → IfOk r (λ p. Begins (held files) most path p.shell) → IfOk r (λ p. HasBegun held files words p)
begun_of held files words path most (Ok p) asks same begins = (path, most, asks, same, begins)
begun_of held files words path most (Err n) asks same begins = same

-- no shell has begun, by the exit status: it is one that no mistaken words have
unbegun_status : (A : Type 0) (held : List ℕ → Option (List ℕ)) (path : Option (List ℕ)) (n : ℕ) → EndsUnbegun A held path n → (n ≡ 1) ⊎ (n ≡ 3)
unbegun_status A held path n (inl one) = inl one
unbegun_status A held path n (inr u) = of_fault u.0 n u.2

unbegun_within : (A : Type 0) (held : List ℕ → Option (List ℕ)) (path : Option (List ℕ)) (n : ℕ) → EndsUnbegun A held path n → n ≤ 3
unbegun_within A held path n u = elim (unbegun_status A held path n u) [
  | inl one ↦ omega (arith, one)
  | inr three ↦ omega (arith, three)
]

unbegun_no_usage : (A : Type 0) (held : List ℕ → Option (List ℕ)) (path : Option (List ℕ)) (n : ℕ) → EndsUnbegun A held path n → n ≡ 2 → ⊥
unbegun_no_usage A held path n u two = elim (unbegun_status A held path n u) [
  | inl one ↦ absurd (omega (arith, one, two))
  | inr three ↦ absurd (omega (arith, three, two))
]

-- where no shell has begun, nothing else is said of the exit status than that
pub all_within : {F A : Type 0} (held : List ℕ → Option (List ℕ)) (path : Option (List ℕ)) (r : Result (Over F A) ℕ) → IfErr r (λ n. EndsUnbegun A held path n) → IfErr r (λ n. n ≤ 3)
all_within held path (Ok p) u = u
all_within held path (Err n) u = unbegun_within _ held path n u

pub none_mistaken : {F A : Type 0} (ks : Kinds) (held : List ℕ → Option (List ℕ)) (path : Option (List ℕ)) (r : Result (Over F A) ℕ) → IfErr r (λ n. EndsUnbegun A held path n) → IfErr r (λ n. n ≡ 2 → MayBeMistaken ks)
none_mistaken ks held path (Ok p) u = u
none_mistaken ks held path (Err n) u = λ two. absurd (unbegun_no_usage _ held path n u two)

pub unbegun_by : {F A : Type 0} (held : List ℕ → Option (List ℕ)) (words : List Text) (path : Option Text) (most : ℕ) (r : Result (Over F A) ℕ) → AsksFor words path most → IfErr r (λ n. EndsUnbegun A held path n) → IfErr r (λ n. IsUnbegunBy A held words n)
unbegun_by held words path most (Ok p) asks u = u
unbegun_by held words path most (Err n) asks u = inr (path, most, asks, u)
