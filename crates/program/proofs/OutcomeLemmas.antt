-- What has been done where the program ends with 0, and why it ends otherwise.
use Rattle.std.proofs.Common.{◌≡◌, ◌∙◌, ℕ, List, [], Option, Bor, sym, subst}
use Rattle.clap.specs.Words.{Text}
use Rattle.program.specs.Ends.{EndsFor}
use Rattle.program.specs.Files.{Writing}
use Rattle.program.specs.Freely.{PathHasRunFreely}
use Rattle.program.specs.Printed.{Printed, Prints, unprinted}
use Rattle.program.specs.Outcomes.{HasDoneTask, IsDoneOn, IsStoppedOn}
use Rattle.program.specs.Stops.{HasStoppedTask, PathEndsFreely}
use Rattle.program.specs.declared.fault.Status.{Status}
use Rattle.program.specs.declared.free.FreeWay.{FreeWay}
use Rattle.program.specs.declared.task.Task.{Task}
use Rattle.program.specs.declared.task.Task.TheVariants as task

-- a task that was done by a printer that had printed nothing yet
pub task_done : (A G : Type 0) (writes : Writing) (held : List ℕ → Option (List ℕ)) (input : Option (List ℕ)) (r s : Task) (before after : Option (List ℕ)) (stream : ℕ) (p q last : Printed)
    → r ≡ s → p ≡ unprinted stream before → last ≡ q → HasDoneTask A G writes held input s p q → last.out ≡ after → IsDoneOn A G writes held input r before after
task_done A G writes held input r s before after stream p q last is new same done out = (
  stream,
  last,
  subst (λ x. HasDoneTask A G writes held input x (unprinted stream before) last) (sym is) (subst (λ x. HasDoneTask A G writes held input s x last) new (subst (λ x. HasDoneTask A G writes held input s p x) (sym same) done)),
  out,
)

-- a task that has stopped, by a printer that had printed nothing yet
pub task_stopped : (A G : Type 0) (writes : Writing) (held : List ℕ → Option (List ℕ)) (input : Option (List ℕ)) (r s : Task) (status x : Status) (before after : Option (List ℕ)) (stream : ℕ) (p q last : Printed)
    → r ≡ s → p ≡ unprinted stream before → last ≡ q → status ≡ x → EndsFor x (λ f. HasStoppedTask A G writes held input s f p q) → last.out ≡ after → EndsFor status (λ f. IsStoppedOn A G writes held input r f before after)
task_stopped A G writes held input r s status x before after stream p q last is new same told ends out =
    let done = subst (λ y. HasStoppedTask A G writes held input y ends.0 (unprinted stream before) last) (sym is) (subst (λ y. HasStoppedTask A G writes held input s ends.0 y last) new (subst (λ y. HasStoppedTask A G writes held input s ends.0 p y) (sym same) ends.2)) in
    (ends.0, told ∙ ends.1, (stream, last, done, out))

-- sessions have run freely over the same files
pub free_done : (A G : Type 0) {Files : Type 0} (writes : Writing) (held : Files → List ℕ → Option (List ℕ)) (input : Files → Option (List ℕ)) (path : Bor Text) (way : FreeWay) (f h : Files) (p q : Printed)
    → f ≡ h → PathHasRunFreely G writes (held f) (input f) way path.now p q → HasDoneTask A G writes (held h) (input h) (task.Free path way) p q
free_done A G writes held input path way f h p q same done = subst (λ x. PathHasRunFreely G writes (held x) (input x) way path.now p q) same done

-- sessions have been ended over the same files
pub free_stopped : (A G : Type 0) {Files : Type 0} (writes : Writing) (held : Files → List ℕ → Option (List ℕ)) (input : Files → Option (List ℕ)) (path : Bor Text) (way : FreeWay) (x : Status) (f h : Files) (p q : Printed)
    → f ≡ h → EndsFor x (λ e. PathEndsFreely G (held f) (input f) way path.now e q × Prints p q []) → EndsFor x (λ e. HasStoppedTask A G writes (held h) (input h) (task.Free path way) e p q)
free_stopped A G writes held input path way x f h p q same ends = (ends.0, ends.1, (subst (λ y. PathEndsFreely G (held y) (input y) way path.now ends.0 q) same ends.2.0, ends.2.1))
