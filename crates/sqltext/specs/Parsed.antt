-- What a text says: a statement of the catalog's tables, or the first refusal.
use Rattle.std.specs.Prelude.{ℕ, nat_lt, false, if◌then◌else◌, List, length, Result, Err}
use Rattle.value.specs.declared.refusal.Refusal.{Refusal}
use Rattle.value.specs.declared.refusal.Code.TheVariants.{ProgramLimitExceeded}
use Rattle.value.specs.Refusals.{of_code}
use Rattle.schema.specs.Definition.{Catalog}
use Rattle.statement.specs.declared.statement.Statement.{Statement}
use Rattle.sqltext.specs.Tokens.{tokens}
use Rattle.sqltext.specs.Reading.{◌>>=◌}
use Rattle.sqltext.specs.Grammar.{whole}
use Rattle.sqltext.specs.Source.{in_small_letters}
use Rattle.sqltext.specs.Resolving.{resolved}

module _ {A : Type 0} where
  -- what a text in small letters says
  unfoldable pub parsed_small : Catalog → List ℕ → Result (Statement A) Refusal
  parsed_small catalog text = whole {A = A} (tokens text) >>= λ tree. resolved catalog text tree

  -- a text of at most 65536 bytes: first its grammar, and then its names and literals
  unfoldable pub parsed : Catalog → List ℕ → Result (Statement A) Refusal
  parsed catalog text = if nat_lt 65536 (length text) then Err (of_code ProgramLimitExceeded) else parsed_small catalog (in_small_letters false text)
