-- How the catalog keeps its tables: each beside its name.
use Rattle.std.specs.Prelude.{◌≡◌, List, map}
use Rattle.std.specs.Map.{keys_of, values_of}
use Rattle.std.specs.String.{string_bytes}
use Rattle.std.specs.declared.string.String.{String}
use Rattle.schema.specs.Definition.{TableSchema}

-- each key is the name of the table beside it
abbrev pub IsByName : {A : Type 0} → List (String A × TableSchema) → Type 0
IsByName entries = map (λ k. string_bytes k) (keys_of entries) ≡ map (λ d. d.name) (values_of entries)
