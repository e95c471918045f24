-- The transaction of a list that committed first, found from its front.
use Rattle.std.specs.Prelude.{nat_lt, Option, Some, None, if◌then◌else◌}
use Rattle.value.specs.Isolation.{Node}

-- the first to commit of those before and this one; the one before, where both are one commit
abbrev pub first_of : Option Node → Node → Node
first_of None n = n
first_of (Some m) n = if nat_lt n.commit m.commit then n else m
