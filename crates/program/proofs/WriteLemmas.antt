-- Writers that are written to after they have failed.
use Rattle.std.proofs.Common.{ℕ, List, Option, Some, None, ◌++◌, ◌∙◌, refl, ap}
use Rattle.std.specs.Io.KnownBytes.{Appends, Keeps}

-- what was kept stays as it was
pub keeps_same : (a : Option (List ℕ)) → Keeps a a
keeps_same None = tt
keeps_same (Some xs) = refl

-- what was kept twice was kept
pub keeps_twice : (a b c : Option (List ℕ)) → Keeps a b → Keeps b c → Keeps a c
keeps_twice None b c first second = tt
keeps_twice (Some xs) None c first second = absurd first
keeps_twice (Some xs) (Some ys) None first second = absurd second
keeps_twice (Some xs) (Some ys) (Some zs) first second = second ∙ first

-- what was kept, and then grew, has grown
pub keeps_and_appends : (a b c : Option (List ℕ)) (bs : List ℕ) → Keeps a b → Appends b c bs → Appends a c bs
keeps_and_appends None b c bs first second = tt
keeps_and_appends (Some xs) None c bs first second = absurd first
keeps_and_appends (Some xs) (Some ys) None bs first second = absurd second
keeps_and_appends (Some xs) (Some ys) (Some zs) bs first second = second ∙ ap (λ l. l ++ bs) first
