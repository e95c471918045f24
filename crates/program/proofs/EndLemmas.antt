-- How the program ends where its words are mistaken.
use Rattle.std.proofs.Common.{◌≡◌, ◌⊎◌, ◌∙◌, ℕ, List, Option, Result, Ok, Err, IfErr, OnErr, OnOk, inl, inr, refl, sym, ap, subst, arith, codes}
use Rattle.clap.specs.Words.{HasKind, IsAmong, Kinds, Text, kind_of}
use Rattle.clap.specs.declared.error.Error.{Error}
use Rattle.clap.specs.declared.error.ErrorKind.TheVariants.{DisplayHelp, DisplayVersion, OutOfMemory}
use Rattle.program.specs.CommandLine.{IsMistake, faults}
use Rattle.program.specs.Ends.{EndsFor, code, end, status}
use Rattle.program.specs.Files.{Writing}
use Rattle.program.specs.Outcomes.{AreHelp, EndsAs}
use Rattle.program.specs.Outcomes.Ending.{Mistaken, Fails}
use Rattle.program.specs.declared.fault.Fault.{Fault}
use Rattle.program.specs.declared.fault.Fault.TheVariants as fault
use Rattle.program.specs.declared.fault.Status.{Status}
use Rattle.program.specs.declared.fault.Status.TheVariants.{Done, Refused, Usage, Device}

-- the status 2 is that of a mistake alone
pub only_usage : (s : Status) → code s ≡ 2 → s ≡ Usage
only_usage Done e = absurd (omega (arith, e))
only_usage Refused e = absurd (omega (arith, e))
only_usage Usage e = refl
only_usage Device e = absurd (omega (arith, e))

-- the status 0 is that of what is done alone
pub only_done : (s : Status) → code s ≡ 0 → s ≡ Done
only_done Done e = refl
only_done Refused e = absurd (omega (arith, e))
only_done Usage e = absurd (omega (arith, e))
only_done Device e = absurd (omega (arith, e))

-- an error other than out of memory is one of the faults
pub among : (ks : Kinds) (e : Error) → HasKind ks e → (kind_of e ≡ OutOfMemory → ⊥) → IsAmong (kind_of e) ks
among ks e (inl memory) other = absurd (other memory)
among ks e (inr here) other = here

pub refused_is_not_done : Refused ≡ Done → ⊥
refused_is_not_done e = let n : 1 ≡ 0 = ap code e in absurd (omega (arith, n))

pub refused_is_no_device : Refused ≡ Device → ⊥
refused_is_no_device e = let n : 1 ≡ 3 = ap code e in absurd (omega (arith, n))

-- the words are a call for help, or for the version, by an error of this kind
pub help_of : (ks : Kinds) (e : Error) → HasKind ks e → (kind_of e ≡ OutOfMemory → ⊥) → (kind_of e ≡ DisplayHelp) ⊎ (kind_of e ≡ DisplayVersion) → AreHelp ks
help_of ks e has other (inl is) = inl (subst (λ k. IsAmong k ks) is (among ks e has other))
help_of ks e has other (inr is) = inr (subst (λ k. IsAmong k ks) is (among ks e has other))

-- what is done though the words have a fault is a call for help, or for the version
pub are_help : (ks : Kinds) (e : Error) (s : Status) → HasKind ks e → (kind_of e ≡ OutOfMemory → s ≡ Refused) → (kind_of e ≡ DisplayHelp) ⊎ (kind_of e ≡ DisplayVersion) → s ≡ Done → AreHelp ks
are_help ks e s has memory help done = help_of ks e has (λ m. refused_is_not_done (sym (memory m) ∙ done)) help

-- the failure of standard output
abbrev stdout_fails : Fault
stdout_fails = fault.Device (record { ref_ptr = (0, 0); now = codes "-" })

-- how the program ends where its words have a fault, and it prints no help
pub without_task : (A G : Type 0) (writes : Writing) (held : List ℕ → Option (List ℕ)) (input : Option (List ℕ)) (words : List Text) (e : Error) (s : Status) (before after : Option (List ℕ)) → HasKind (faults words) e → (s ≡ Usage → IsMistake (kind_of e)) → (kind_of e ≡ OutOfMemory → s ≡ Refused) → ((s ≡ Done) ⊎ (s ≡ Device) → (kind_of e ≡ DisplayHelp) ⊎ (kind_of e ≡ DisplayVersion)) → (s ≡ Refused → after ≡ before) → (s ≡ Done → ⊥) → EndsAs A G writes held input words s before after
without_task A G writes held input words e Done before after has mistake memory help silent other = absurd (other refl)
without_task A G writes held input words e Refused before after has mistake memory help silent other = (Fails fault.ScriptOutOfMemory, refl, inl (inl (refl, silent refl)))
without_task A G writes held input words e Usage before after has mistake memory help silent other = (Mistaken, refl, (kind_of e, among (faults words) e has (mistake refl).0, mistake refl))
without_task A G writes held input words e Device before after has mistake memory help silent other = (Fails stdout_fails, refl, inl (inr (help_of (faults words) e has (λ m. refused_is_no_device (sym (memory m))) (help (inr refl)), refl)))

-- a fault doesn't end as what is done
pub not_done : (f : Fault) → status f ≡ Done → ⊥
not_done (fault.Script line) e = let n : 1 ≡ 0 = ap code e in absurd (omega (arith, n))
not_done (fault.Dump line c) e = let n : 1 ≡ 0 = ap code e in absurd (omega (arith, n))
not_done (fault.Device path) e = let n : 3 ≡ 0 = ap code e in absurd (omega (arith, n))
not_done fault.ScriptOutOfMemory e = let n : 1 ≡ 0 = ap code e in absurd (omega (arith, n))
not_done fault.DumpOutOfMemory e = let n : 1 ≡ 0 = ap code e in absurd (omega (arith, n))

-- what ends as done was done
pub was_done : (d : Result (Unit {0}) Fault) (s : Status) (P : Type 0) → s ≡ end d → OnOk d P → s ≡ Done → P
was_done (Ok x) s P e p is = p
was_done (Err f) s P e p is = absurd (not_done f (sym e ∙ is))

-- what doesn't end as done has ended by its fault
pub was_stopped : (d : Result (Unit {0}) Fault) (s : Status) (P : Fault → Type 0) → s ≡ end d → IfErr d P → (s ≡ Done → ⊥) → EndsFor s P
was_stopped (Ok x) s P e p other = absurd (other e)
was_stopped (Err f) s P e p other = (f, e, p)

-- of two facts of an error a third
pub of_both_errors : {T E : Type 0} (r : Result T E) (P : E → Type 0) (Q : Type 0) → IfErr r P → OnErr r Q → IfErr r (λ e. P e × Q)
of_both_errors (Ok x) P Q p q = tt
of_both_errors (Err e) P Q p q = (p, q)
