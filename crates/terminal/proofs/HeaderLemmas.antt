-- The header of the rows that the last of some events shows.
use Rattle.std.proofs.Common.{◌≡◌, ◌∙◌, List, [], ◌∷◌, ◌++◌, Option, Some, None, Result, Ok, Err, IfOk, ap, refl, sym}
use Rattle.std.specs.List.{last_or}
use Rattle.value.specs.declared.refusal.Refusal.{Refusal}
use Rattle.schema.specs.Definition.{Catalog}
use Rattle.history.specs.declared.event.Record.{Record}
use Rattle.terminal.specs.Drawn.{Header}
use Rattle.terminal.specs.Headers.{action_names, headed_by, header_from, last_header}

last_behind : {X : Type 0} (o : Option X) (before : List X) (x : X) → last_or o (before ++ x ∷ []) ≡ Some x
last_behind o [] x = refl
last_behind o (y ∷ ys) x = last_behind (Some y) ys x

-- what the last event shows, where that is the event e
pub headed : {A : Type 0} (c d : Catalog) (r : Result (Option Header) Refusal) (es before : List (Record A)) (e : Record A)
    → IfOk r (λ h. h ≡ headed_by e.session (action_names d e.action)) → d ≡ c → es ≡ before ++ e ∷ [] → IfOk r (λ h. h ≡ last_header c es)
headed {A} c d (Ok h) es before e is same last =
    is ∙ ap (λ (k : Catalog). header_from k (Some e)) same ∙ sym (ap (λ (o : Option (Record A)). header_from c o) (ap (last_or None) last ∙ last_behind None before e))
headed c d (Err x) es before e is same last = is
