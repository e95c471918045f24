-- What the prompt says of a picture.
use Rattle.std.proofs.Common.{◌≡◌, ℕ, Bool, true, false, List, Result, Ok, Err, IfOk, inl, inr, refl, subst, sym}
use Rattle.program.specs.Files.{IsWritten}
use Rattle.terminal.specs.declared.attended.Aside.{Aside}
use Rattle.terminal.specs.declared.attended.Aside.TheVariants as aside
use Rattle.command_shell.specs.Asides.{Seen, Tells, TellsDrawing, TellsOn, picture_told}

-- of one that was written, or wasn't
pub tells : {Out X E : Type 0} {path_of kept : Out → List ℕ} (path bytes : List ℕ) (r : Result X E) (items : X → List ℕ) (b : Bool) → (b ≡ true → IsWritten path_of kept path bytes) → IfOk r (λ t. items t ≡ picture_told b path) → IfOk r (λ t. TellsDrawing path_of kept path (items t))
tells path bytes (Ok t) items true written text = inl (bytes, written refl, text)
tells path bytes (Ok t) items false written text = inr text
tells path bytes (Err e) items b written text = text

-- of the shell of a prompt, which is as it was
pub drawing_told : {F A Out X E : Type 0} (path_of kept : Out → List ℕ) (p : Seen F A) (a : Aside) (path : List ℕ) (r : Result X E) (next : X → Seen F A) (items : X → List ℕ) → a ≡ aside.Drawing
    → IfOk r (λ x. next x ≡ p) → IfOk r (λ x. TellsOn path_of kept p.over.shell.core path (items x)) → IfOk r (λ x. Tells path_of kept p a path (next x) (items x))
drawing_told {X = X} {E = E} path_of kept p a path r next items drawing same told = subst (λ (b : Aside). IfOk r (λ x. Tells path_of kept p b path (next x) (items x))) (sym drawing) (both r same told)
  where
    both : (q : Result X E) → IfOk q (λ x. next x ≡ p) → IfOk q (λ x. TellsOn path_of kept p.over.shell.core path (items x)) → IfOk q (λ x. Tells path_of kept p aside.Drawing path (next x) (items x))
    both (Ok x) s t = (s, t)
    both (Err e) s t = s
