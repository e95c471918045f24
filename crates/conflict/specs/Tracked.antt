-- What is tracked of transactions that may be part of a dangerous structure (Ports and Grittner, "Serializable Snapshot Isolation in PostgreSQL", VLDB 2012, sections 3.2 and 5.3): their numbers, and for each those whose writes it has read.
-- Structures, and those that a commit dooms, are of these as Isolation defines them of any transactions.
use Rattle.std.specs.Prelude.{◌≡◌, ℕ, ◌+◌, ◌==◌, ◌<◌, ◌≤◌, nat_lt, nat_le, Bool, true, false, not, ◌&&◌, ◌||◌, if◌then◌else◌, Option, Some, None, List, [], ◌∷◌, ◌++◌, map}
use Rattle.std.specs.List.{count_by, filter, find, list_any}
use Rattle.std.specs.Option.{option_map}
use Rattle.value.specs.declared.refusal.Mode.{Mode}
use Rattle.value.specs.declared.refusal.Mode.TheVariants.{ReadWrite}
use Rattle.value.specs.declared.refusal.Cause.{Cause}
use Rattle.value.specs.declared.refusal.TxnNo.{TxnNo}
use Rattle.value.specs.Isolation.{Node, bound, dooms, earliest, edge_of, first_cause}

-- A transaction that is active, or has committed.
pub record Party : Type 0 where
  pub number : ℕ  -- in the order in which transactions began
  pub read_write : Bool
  pub snapshot : ℕ  -- it sees the commits up to this number
  pub active : Bool  -- it hasn't committed yet
  pub commit : ℕ  -- the number of its commit; 0 where it has none
  pub outs : List ℕ  -- the numbers of those that wrote what it has read, in their order
  pub ins : List ℕ  -- the numbers of those that have read what it wrote, in their order

pub record Tracked : Type 0 where
  pub begun : ℕ  -- the number of the last transaction that began
  pub commits : ℕ  -- the number of the last commit
  pub parties : List Party  -- by number

-- ---- numbers

abbrev pub is_among : ℕ → List ℕ → Bool
is_among n ns = list_any (λ m. m == n) ns

-- put in its place, where it isn't there
abbrev pub put_in : ℕ → List ℕ → List ℕ
put_in n [] = n ∷ []
put_in n (m ∷ ms) = if nat_lt m n then m ∷ put_in n ms else if m == n then m ∷ ms else n ∷ m ∷ ms

abbrev pub without : ℕ → List ℕ → List ℕ
without n ns = filter (λ m. not (m == n)) ns

-- ---- conflicts

-- what isolation knows of a transaction
abbrev pub node : Party → Node
node p = record { number = p.number; read_write = p.read_write; snapshot = p.snapshot; active = p.active; committed = not p.active; commit = p.commit; place = 0 }

-- q wrote what p has read
abbrev pub reads : Party → Party → Bool
reads p q = is_among q.number p.outs

-- p -> q: q wrote what p has read, and committed after p's snapshot
abbrev pub edge : Party → Party → Bool
edge = edge_of node reads

-- ---- what is reported

abbrev pub may_write : Mode → Bool
may_write ReadWrite = true
may_write _ = false

-- a transaction at its BEGIN
abbrev pub opened : ℕ → Mode → ℕ → Party
opened t m n = record { number = t; read_write = may_write m; snapshot = n; active = true; commit = 0; outs = []; ins = [] }

-- transaction t has begun
abbrev pub after_begin : ℕ → Mode → ℕ → Tracked → Tracked
after_begin t m n s = record { begun = t; commits = s.commits; parties = s.parties ++ opened t m n ∷ [] }

-- t has read what u wrote, of the first b that began: what t knows of it, and what u does
abbrev pub with_out : ℕ → ℕ → ℕ → Party → Party
with_out b t u p = record p { outs = if p.number == t && nat_le u b then put_in u p.outs else p.outs }

abbrev pub with_in : ℕ → ℕ → ℕ → Party → Party
with_in b t u p = record p { ins = if p.number == u && nat_le t b then put_in t p.ins else p.ins }

abbrev pub with_edge : ℕ → ℕ → ℕ → Party → Party
with_edge b t u p = with_in b t u (with_out b t u p)

abbrev pub after_edge : ℕ → ℕ → Tracked → Tracked
after_edge t u s = record s { parties = map (with_edge s.begun t u) s.parties }

-- with an edge of each pair, a reader and a writer
abbrev pub with_edges : ℕ → List (TxnNo × TxnNo) → List Party → List Party
with_edges b [] ps = ps
with_edges b (e ∷ es) ps = with_edges b es (map (with_edge b e.0.0 e.1.0) ps)

abbrev pub after_edges : List (TxnNo × TxnNo) → Tracked → Tracked
after_edges es s = record s { parties = with_edges s.begun es s.parties }

-- t, while it is active
abbrev pub is_active : ℕ → Party → Bool
is_active t p = p.number == t && p.active

-- t has another snapshot, if it is active
abbrev pub with_snapshot : ℕ → ℕ → Party → Party
with_snapshot t n p = record p { snapshot = if is_active t p then n else p.snapshot }

abbrev pub after_move : ℕ → ℕ → Tracked → Tracked
after_move t n s = record s { parties = map (with_snapshot t n) s.parties }

-- t, while it is active and may write
abbrev pub is_writer : ℕ → Party → Bool
is_writer t p = is_active t p && p.read_write

-- t has committed, as commit n if it may write
abbrev pub with_commit : ℕ → ℕ → Party → Party
with_commit t n p = record p { active = not (p.number == t) && p.active; commit = if is_writer t p then n else p.commit }

-- the number that t's commit would have, if it may write
abbrev pub next_commit : ℕ → Tracked → Option ℕ
next_commit t s = if list_any (is_writer t) s.parties then Some (s.commits + 1) else None

abbrev pub after_commit : ℕ → Tracked → Tracked
after_commit t s = record {
  begun = s.begun;
  commits = if list_any (is_writer t) s.parties then s.commits + 1 else s.commits;
  parties = map (with_commit t (s.commits + 1)) s.parties;
}

-- the transaction p without what it knows of t, where t goes
abbrev pub forgetful : Bool → ℕ → Party → Party
forgetful goes t p = record p { outs = if goes then without t p.outs else p.outs; ins = if goes then without t p.ins else p.ins }

-- t goes, if it is active, and the others don't know it
abbrev pub without_active : ℕ → List Party → List Party
without_active t ps = map (forgetful (list_any (is_active t) ps) t) (filter (λ p. not (is_active t p)) ps)

-- t is over and hasn't committed
abbrev pub after_drop : ℕ → Tracked → Tracked
after_drop t s = record s { parties = without_active t s.parties }

-- what isolation will know of a transaction once t has committed as n
abbrev pub node_after : ℕ → ℕ → Party → Node
node_after t n p = node (with_commit t n p)

abbrev pub edge_after : ℕ → ℕ → Party → Party → Bool
edge_after t n = edge_of (node_after t n) reads

-- ---- what is asked

abbrev pub party_of : ℕ → Tracked → Option Party
party_of t s = find (λ p. p.number == t) s.parties

-- the dangerous structure that t's commit would make
abbrev pub cause_of : ℕ → Tracked → Option Cause
cause_of t s = first_cause node edge (after_commit t s).parties

-- the number of the first commit of these to which p has an edge
abbrev pub least_out : List Party → Party → Option ℕ
least_out ps p = option_map (λ (q : Party). q.commit) (earliest node edge (filter (edge p) ps))

-- that to which t has one
abbrev pub out_from : Tracked → Option Party → Option ℕ
out_from s None = None
out_from s (Some p) = least_out s.parties p

abbrev pub first_out : ℕ → Tracked → Option ℕ
first_out t s = out_from s (party_of t s)

-- the others that may still write
abbrev pub is_rival : ℕ → Party → Bool
is_rival t p = not (p.number == t) && p.active && p.read_write

-- how many of them there are
abbrev pub rivals : ℕ → Tracked → ℕ
rivals t s = count_by (is_rival t) s.parties

-- the causes by which t's commit dooms those that are active
abbrev pub dooms_from : Tracked → Option Party → List Cause
dooms_from s None = []
dooms_from s (Some p) = dooms node reads s.parties p

abbrev pub dooms_of : ℕ → Tracked → List Cause
dooms_of t s = dooms_from s (party_of t s)

-- the snapshot of p, where it is active and that is below n
abbrev pub lesser : ℕ → Party → ℕ
lesser n p = if p.active && nat_lt p.snapshot n then p.snapshot else n

-- ---- what may be forgotten, once no snapshot is taken below o any more

-- A transaction is active, or a commit above o may still close a structure that begins at it.
abbrev pub is_recent : ℕ → Party → Bool
is_recent o p = p.active || nat_lt o (bound node edge p)

-- a transaction is recent, or a recent one has an edge to it
abbrev pub is_needed : ℕ → List Party → Party → Bool
is_needed o ps p = is_recent o p || list_any (λ q. is_recent o q && edge q p) ps

abbrev pub after_forget : ℕ → Tracked → Tracked
after_forget o s = record s { parties = filter (is_needed o s.parties) s.parties }

-- ---- what is always so

-- a property holds of each element
abbrev pub Each : {X : Type 0} → (X → Type 0) → List X → Type 0
Each P [] = Unit {0}
Each P (x ∷ xs) = P x × Each P xs

-- each number above those before it
abbrev pub Rising : List Party → Type 0
Rising [] = Unit {0}
Rising (p ∷ ps) = Each (λ (q : Party). p.number < q.number) ps × Rising ps

-- each number above those before it
abbrev pub Ascending : List ℕ → Type 0
Ascending [] = Unit {0}
Ascending (n ∷ ns) = Each (λ m. n < m) ns × Ascending ns

abbrev pub IsSorted : Party → Type 0
IsSorted p = Ascending p.outs × Ascending p.ins

-- The numbers that each knows stand in their order, and what one knows of another the other knows of it.
pub record AreEdges (ps : List Party) : Type 0 where
  pub sorted : Each IsSorted ps
  pub both : Each (λ (p : Party). Each (λ (q : Party). is_among q.number p.outs ≡ is_among p.number q.ins) ps) ps

-- Its numbers are not above those of the last BEGIN and commit, and it has a commit number only once it has written and committed.
pub record IsNumbered (begun commits : ℕ) (p : Party) : Type 0 where
  pub number : p.number ≤ begun
  pub snapshot : p.snapshot ≤ commits
  pub commit : p.commit ≤ commits
  pub active : p.active ≡ true → p.commit ≡ 0
  pub reader : p.read_write ≡ false → p.commit ≡ 0
  pub outs : Each (λ n. n ≤ begun) p.outs
  pub ins : Each (λ n. n ≤ begun) p.ins

-- The transactions stand by their numbers, each edge is known on both sides, and no dangerous structure is among them.
pub record IsProper (s : Tracked) : Type 0 where
  pub rising : Rising s.parties
  pub numbered : Each (IsNumbered s.begun s.commits) s.parties
  pub edges : AreEdges s.parties
  pub none : first_cause node edge s.parties ≡ None
