-- Commits worked by hand, on the definitions.
use Rattle.std.proofs.Common.{◌≡◌, refl, ℕ, Bool, true, false, List, [], ◌∷◌}
use Rattle.std.specs.Prelude.{◌==◌}
use Rattle.std.specs.List.{list_any}
use Rattle.value.specs.declared.refusal.Cause.{Cause}
use Rattle.value.specs.Isolation.{Node, dooms}

-- A transaction, and the numbers of those that wrote what it has read.
record Txn : Type 0 where
  node : Node
  reads : List ℕ

abbrev live : ℕ → List ℕ → Txn
live n reads = record { node = record { number = n; read_write = true; snapshot = 1; active = true; committed = false; commit = 0; place = 0 }; reads = reads }

-- the second commit
abbrev commits : ℕ → List ℕ → Txn
commits n reads = record { node = record { number = n; read_write = true; snapshot = 1; active = false; committed = true; commit = 2; place = 9 }; reads = reads }

abbrev node_of : Txn → Node
node_of t = t.node

abbrev reads_of : Txn → Txn → Bool
reads_of t u = list_any (λ n. n == u.node.number) t.reads

abbrev cause : ℕ → ℕ → ℕ → Cause
cause a b c = record { a = record { 0 = a }; b = record { 0 = b }; c = record { 0 = c } }

abbrev dooms_of : List Txn → Txn → List Cause
dooms_of ts c = dooms node_of reads_of ts c

-- Write skew: each of two has read what the other wrote. The first to commit dooms the other, and is itself the first of the structure.
write_skew : let first = commits 2 (3 ∷ []) in dooms_of (first ∷ live 3 (2 ∷ []) ∷ []) first ≡ cause 2 3 2 ∷ []
write_skew = refl

-- Three in a row: the third commits, and the one in the middle is doomed, not the first.
pivot_first : let last = commits 4 [] in dooms_of (live 2 (3 ∷ []) ∷ live 3 (4 ∷ []) ∷ last ∷ []) last ≡ cause 2 3 4 ∷ []
pivot_first = refl

-- One that has read what the committer wrote, and whose own writes no transaction has read, is left alone.
no_first : let last = commits 4 [] in dooms_of (live 2 [] ∷ live 3 (4 ∷ []) ∷ last ∷ []) last ≡ []
no_first = refl

-- Two that have read what the committer and each other wrote: the one with the less number is doomed, and then serves no more as a first.
doomed_serves_no_more : let last = commits 4 [] in dooms_of (live 2 (3 ∷ 4 ∷ []) ∷ live 3 (2 ∷ 4 ∷ []) ∷ last ∷ []) last ≡ cause 3 2 4 ∷ []
doomed_serves_no_more = refl

-- The least that may stand first is named.
least_first : let last = commits 5 (4 ∷ []) in dooms_of (live 2 (4 ∷ []) ∷ live 3 (4 ∷ []) ∷ live 4 (5 ∷ []) ∷ last ∷ []) last ≡ cause 2 4 5 ∷ []
least_first = refl
