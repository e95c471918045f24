-- What is found out from the numbers that a transaction knows, one after the other.
use Rattle.std.specs.Prelude.{◌≡◌, ℕ, zero, suc, false, ◌==◌, nat_lt, nat_le, ◌&&◌, ◌||◌, not, if◌then◌else◌, Bool, Option, Some, None, List, [], ◌∷◌, ◌++◌}
use Rattle.std.specs.List.{filter, find}
use Rattle.std.specs.Option.{option_map, option_to_list}
use Rattle.value.specs.declared.refusal.Cause.{Cause}
use Rattle.value.specs.Isolation.{Node, bound, cause_from, earliest, edge_of, first_some, is_doomed, is_live, is_other, structure}
use Rattle.conflict.specs.Earliest.{first_of}
use Rattle.conflict.specs.Through.{IsThrough}
use Rattle.conflict.specs.Tracked.{AreEdges, Ascending, Each, Party, Rising, is_among, is_recent, node, node_after, reads}

-- t is the one at the place
abbrev pub IsAt : ℕ → ℕ → List Party → Type 0
IsAt i t [] = ⊥
IsAt zero t (p ∷ ps) = p.number ≡ t
IsAt (suc i) t (p ∷ ps) = IsAt i t ps

-- the transactions of these numbers that are there
abbrev pub found : List ℕ → List Party → List Party
found [] ps = []
found (n ∷ ns) ps = option_to_list (find (λ (p : Party). p.number == n) ps) ++ found ns ps

-- ---- with one that was found

-- the first to commit of those so far and of this one, if it passes
abbrev pub first_with : (Party → Node) → (Party → Bool) → Option Node → Option Party → Option Node
first_with node test o None = o
first_with node test o (Some p) = if test p then Some (first_of o (node p)) else o

-- what f gives of it
abbrev pub given : (Party → Option Cause) → Option Party → Option Cause
given f None = None
given f (Some p) = f p

-- it, if it passes
abbrev pub passing : (Party → Bool) → Option Party → Option Party
passing test None = None
passing test (Some p) = if test p then Some p else None

-- what f makes of it and of the causes so far
abbrev pub folded : (List Cause → Party → List Cause) → List Cause → Option Party → List Cause
folded f causes None = causes
folded f causes (Some p) = f causes p

-- ---- the first conflict out

-- q committed after p's snapshot
abbrev pub is_unseen : Party → Party → Bool
is_unseen p q = is_other node reads p q && nat_lt p.snapshot q.commit

-- ---- what holds a transaction

-- a transaction was found, and is recent, and doesn't see what p wrote
abbrev pub is_holding : ℕ → Party → Option Party → Bool
is_holding o p None = false
is_holding o p (Some q) = is_recent o q && is_unseen q p

-- p knows those that have read what it wrote
abbrev pub KnowsReaders : List Party → Party → Type 0
KnowsReaders ps p = Ascending p.ins × Each (λ (q : Party). reads q p ≡ is_among q.number p.ins) ps

-- ---- the structure that the commit of t as n would make

-- c may close a structure of which b is the pivot, where b has read what c wrote
abbrev pub is_last : ℕ → ℕ → Party → Party → Bool
is_last t n b c =
    (node_after t n c).committed && is_other (node_after t n) reads b c
    && nat_lt (node_after t n b).snapshot (node_after t n c).commit && nat_lt (node_after t n c).commit (node_after t n b).commit

-- the first to commit that may close one of which b is the pivot
abbrev pub last_of : ℕ → ℕ → List Party → Party → Option Node
last_of t n ps b = option_map (node_after t n) (earliest (node_after t n) (edge_of (node_after t n) reads) (filter (is_last t n b) (found b.outs ps)))

-- a and b may be the first two of one, where a has read what b wrote
abbrev pub is_pair : ℕ → ℕ → Party → Party → Bool
is_pair t n a b = (node_after t n a).committed && (node_after t n b).committed && is_other (node_after t n) reads a b && nat_lt (node_after t n a).snapshot (node_after t n b).commit

-- the structure of these two and the one that closes it
abbrev pub closed_by : ℕ → ℕ → Party → Party → Option Node → Option Cause
closed_by t n a b None = None
closed_by t n a b (Some c) = if is_pair t n a b && nat_le c.commit (bound (node_after t n) (edge_of (node_after t n) reads) a) then Some (structure (node_after t n a) (node_after t n b) c) else None

-- the structure of another transaction and the committer x
abbrev pub from_other : ℕ → ℕ → Party → Option Node → Party → Option Cause
from_other t n x last a = if a.number == t then None else closed_by t n a x last

-- the structure of the committer and b
abbrev pub from_own : ℕ → ℕ → List Party → Party → Party → Option Cause
from_own t n ps x b = closed_by t n x b (last_of t n ps b)

-- the structure whose first transaction is less, where the second's is t
abbrev pub sooner : ℕ → Option Cause → Option Cause → Option Cause
sooner t None o = o
sooner t (Some c) None = Some c
sooner t (Some c) (Some d) = if nat_lt c.a.0 t then Some c else Some d

-- of those that have read what x wrote, and of x itself
abbrev pub walked_cause : ℕ → ℕ → List Party → Party → Option Cause
walked_cause t n ps x = sooner t (first_some (from_other t n x (last_of t n ps x)) (found x.ins ps)) (first_some (from_own t n ps x) (found x.outs ps))

-- x is one of them, and each edge is known on both sides
abbrev pub IsAmong : List Party → Party → Type 0
IsAmong ps x = Rising ps × AreEdges ps × (find (λ (p : Party). p.number == x.number) ps ≡ Some x)

-- x is the committer t among them, each number of a commit is below n, and there is no dangerous structure without it.
abbrev pub IsCommitter : ℕ → ℕ → Party → List Party → Type 0
IsCommitter t n x ps = IsAmong ps x × (x.number ≡ t) × Each (IsThrough t n ps x) ps

-- ---- dooms

-- a may stand first before b, where it has read what b wrote
abbrev pub may_be_first : Party → List Cause → Party → Party → Bool
may_be_first c causes b a = is_other node reads a b && (not (is_other node reads a c) || is_live node reads c a && not (is_doomed node reads causes a))

-- the cause by which the commit of c dooms b, where b has read what c wrote
abbrev pub walked_doom : List Party → Party → List Cause → Party → Option Cause
walked_doom ts c causes b = if is_live node reads c b then cause_from node reads b c (find (may_be_first c causes b) (found b.ins ts)) else None

abbrev pub with_walked : List Party → Party → List Cause → Party → List Cause
with_walked ts c causes b = causes ++ option_to_list (walked_doom ts c causes b)
