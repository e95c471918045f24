-- How a handle comes to keep a server.
use Rattle.std.proofs.Common.{ℕ, Option, inl, inr}
use Rattle.library_c.specs.Opening.{Begins}
use Rattle.library_c.specs.declared.kept.Kept.{Kept}

-- what is true of the server that a handle keeps
pub begins_as : (is also : Kept → Type 0) (w : Option Kept) (status : ℕ) → ((k : Kept) → is k → also k) → Begins is w status → Begins also w status
begins_as is also w status so (inl (k, kept, it, none, no_lines, done)) = inl (k, kept, so k it, none, no_lines, done)
begins_as is also w status so (inr shut) = inr shut
