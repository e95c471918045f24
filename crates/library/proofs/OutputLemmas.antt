-- How a script ends, by its parts.
use Rattle.std.proofs.Common.{◌≡◌, ◌⊎◌, ℕ, Bool, List, is_some, subst}
use Rattle.schema.specs.Definition.{Catalog}
use Rattle.script.specs.declared.script.Line.{Line}
use Rattle.script.specs.Scripts.{Said}
use Rattle.library.specs.declared.ending.End.{End}
use Rattle.library.specs.declared.manner.Manner.{Manner}
use Rattle.library.specs.Memory.{RanOut}
use Rattle.library.specs.Scripts.{EndsOpened}

module _ {A : Type 0} where
  -- a script of which these are the parts
  pub ends_by_parts : (m : Manner) (s : Said A) (opens : Bool) (c : Catalog) (lines : List (Line A)) (e : End) (text : List ℕ) → opens ≡ is_some s.opens → c ≡ s.catalog → lines ≡ s.lines
      → RanOut e text ⊎ EndsOpened m opens c lines e text → RanOut e text ⊎ EndsOpened m (is_some s.opens) s.catalog s.lines e text
  ends_by_parts m s opens c lines e text opened created lined ends =
      subst (λ (o : Bool). RanOut e text ⊎ EndsOpened m o s.catalog s.lines e text) opened
      (subst (λ (d : Catalog). RanOut e text ⊎ EndsOpened m opens d s.lines e text) created
      (subst (λ (ls : List (Line A)). RanOut e text ⊎ EndsOpened m opens c ls e text) lined ends))
