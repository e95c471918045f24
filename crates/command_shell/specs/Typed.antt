-- The result of `shell` at a terminal.
use Rattle.std.specs.Prelude.{◌≡◌, ◌⊎◌, ℕ, true, false, List, [], ◌∷◌, ◌++◌, Option}
use Rattle.clap.specs.Words.{Text}
use Rattle.program.specs.Files.{writing_of}
use Rattle.shell.specs.Turns.{Converses, Turn}
use Rattle.shell.specs.Turns.Turn.{Told}
use Rattle.shell.specs.declared.conversation.conversing.End.{End}
use Rattle.terminal.specs.Terminals.{At, Types, behind}
use Rattle.command_shell.specs.Serves.{Over}
use Rattle.command_shell.specs.Asides.{Replies, Seen, Tells, unasked}
use Rattle.command_shell.specs.Words.{HasBegun, IsUnbegunBy, end_status}

-- a terminal at the prompt of session 1
abbrev pub at_first : {F A : Type 0} → F → Over F A → At (Seen F A)
at_first files p = record { attended = unasked files p; session = 1; is_timed = false; is_auto = true; has_quit = false; begun = [] }

-- There was no prompt: it couldn't be written, or out of memory for it.
abbrev pub IsMute : ℕ → List Turn → List Turn → Type 0
IsMute n before after = ((n ≡ 1) ⊎ (n ≡ 3)) × (after ≡ before)

-- From p on, all that was printed is the answers to all lines that were read, each before the next, until the conversation has ended in the way that this exit status says.
abbrev pub HasTalked : {H : Type 0} → (H → List ℕ → H → List ℕ → Type 0) → H → ℕ → List Turn → List Turn → Type 0
HasTalked answers p n before after = (e : End) × Converses answers p before e after × (n ≡ end_status e)

-- what is shown before the first line
abbrev pub greeting : {F A : Type 0} → At (Seen F A) → List ℕ
greeting p = behind (λ k. k.over.shell) true p

module _ {F A Out : Type 0} (held : F → List ℕ → Option (List ℕ)) (path_of kept : Out → List ℕ) (failures : Out → ℕ) where
  -- What is typed at a terminal over such files, is answered so.
  abbrev pub TypesOver : At (Seen F A) → List ℕ → At (Seen F A) → List ℕ → Type 0
  TypesOver = Types (Replies (writing_of path_of kept failures) held) (λ p. p.over.shell) (Tells path_of kept) (λ p path. held p.files path)

  -- From p on, the prompt was shown, and then what is shown of all lines that were typed, each before the next, until the conversation has ended in the way that this exit status says.
  abbrev pub HasTypedOn : At (Seen F A) → ℕ → List Turn → List Turn → Type 0
  HasTypedOn p n before after = HasTalked TypesOver p n (before ++ Told (greeting p) ∷ []) after

  -- What was typed of a shell over files was answered; or there was no prompt.
  abbrev pub HasTyped : F → Over F A → ℕ → List Turn → List Turn → Type 0
  HasTyped files p n before after = IsMute n before after ⊎ HasTypedOn (at_first files p) n before after

-- No shell has begun, and nothing was heard; or what was typed was answered from its beginning on.
abbrev pub HasDone : (A : Type 0) → {F Out : Type 0} → (F → List ℕ → Option (List ℕ)) → (Out → List ℕ) → (Out → List ℕ) → (Out → ℕ) → F → List Text → ℕ → List Turn → List Turn → Type 0
HasDone A {F} held path_of kept failures files words n before after = (IsUnbegunBy A (held files) words n × (after ≡ before)) ⊎ ((p : Over F A) × HasBegun held files words p × HasTyped held path_of kept failures files p n before after)
