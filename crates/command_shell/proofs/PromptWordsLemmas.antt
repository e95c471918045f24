-- What was typed at the prompt of session 1.
use Rattle.std.proofs.Common.{◌≡◌, ℕ, List, [], ◌∷◌, ◌++◌, Option, inr, subst, sym}
use Rattle.shell.specs.Turns.{Turn}
use Rattle.shell.specs.Turns.Turn.{Told}
use Rattle.terminal.specs.Terminals.{At}
use Rattle.command_shell.specs.Serves.{Over}
use Rattle.command_shell.specs.Asides.{Seen}
use Rattle.command_shell.specs.Typed.{HasTalked, HasTyped, IsMute, TypesOver, at_first, greeting}

-- the prompt was shown, and what was typed after it was answered
pub typed : {F A Out : Type 0} (held : F → List ℕ → Option (List ℕ)) (path_of kept : Out → List ℕ) (failures : Out → ℕ) (files : F) (p : Over F A) (q : At (Seen F A)) (n : ℕ) (before between after : List Turn) → q ≡ at_first files p → between ≡ before ++ Told (greeting q) ∷ [] → HasTalked (TypesOver held path_of kept failures) q n between after → HasTyped held path_of kept failures files p n before after
typed held path_of kept failures files p q n before between after first told talked =
    let from : HasTalked (TypesOver held path_of kept failures) q n (before ++ Told (greeting q) ∷ []) after = subst (λ (turns : List Turn). HasTalked (TypesOver held path_of kept failures) q n turns after) told talked in
    inr (subst (λ (t : At (Seen _ _)). HasTalked (TypesOver held path_of kept failures) t n (before ++ Told (greeting t) ∷ []) after) first from)

-- there was no prompt, as this exit status says
pub mute : (n k : ℕ) (before after : List Turn) → n ≡ k → IsMute k before after → IsMute n before after
mute n k before after is none = subst (λ m. IsMute m before after) (sym is) none
