-- The transaction of a list that committed first, found from its front.
use Rattle.std.specs.Prelude.{nat_lt, Option, Some, None, if◌then◌else◌}
use Rattle.value.specs.Isolation.{Node}

-- the first to commit of those before and this one; the one before, where both are one commit
abbrev pub first_of : Option Node → Node → Node
first_of None n = n
first_of (Some m) n = if nat_lt n.commit m.commit then n else m

-- the first to commit of those before and those behind
abbrev pub first_of_both : Option Node → Option Node → Option Node
first_of_both m None = m
first_of_both m (Some n) = Some (first_of m n)
