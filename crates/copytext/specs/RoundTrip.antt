-- Values that a line of these kinds can hold.
use Rattle.std.specs.Prelude.{Bool, true, false, ◌&&◌, List, [], ◌∷◌}
use Rattle.value.specs.declared.kind.Kind.{Kind}
use Rattle.value.specs.declared.value.Value.{Value}
use Rattle.schema.specs.Plain.{has_kind}

module _ {A : Type 0} where
  -- one value for each kind: null, or of that kind
  abbrev pub fit_kinds : List Kind → List (Value A) → Bool
  fit_kinds [] [] = true
  fit_kinds (kind ∷ kinds) (value ∷ values) = has_kind kind value && fit_kinds kinds values
  fit_kinds _ _ = false
