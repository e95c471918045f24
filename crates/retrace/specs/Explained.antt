-- What `run --why` says of a refusal: remarks, in words.
use Rattle.std.specs.Prelude.{ℕ, ◌+◌, ◌-◌, ◌==◌, nat_le, min, ◌^◌, Bool, true, false, not, ◌&&◌, ◌||◌, if◌then◌else◌, Option, Some, None, List, [], ◌∷◌, ◌++◌, codes, slice_get}
use Rattle.std.specs.Fmt.{decimal}
use Rattle.std.specs.List.{fold}
use Rattle.value.specs.declared.refusal.Cause.{Cause}
use Rattle.value.specs.declared.refusal.Place.{Place}
use Rattle.value.specs.declared.refusal.Place.TheVariants.{None as Nowhere, Byte, Column, Table, Row, Cause as At}
use Rattle.value.specs.declared.refusal.Refusal.{Refusal}
use Rattle.schema.specs.Definition.{Catalog}
use Rattle.schema.specs.declared.changes.Change.{Change}
use Rattle.retrace.specs.Remarks.{remark_lines}
use Rattle.retrace.specs.Runs.{Going}
use Rattle.retrace.specs.Trails.{Trail, read_by}
use Rattle.retrace.specs.Why.{danger_of, numbered, rival, taken}
use Rattle.retrace.specs.Words.{hold_told, item_told, key_told}
use Rattle.retrace.specs.declared.explain.danger.Danger.{Danger}
use Rattle.retrace.specs.declared.witness.edge.Edge.{Edge}
use Rattle.retrace.specs.declared.witness.trace.Moment.{Moment}

-- A history up to a refusal, as it is explained.
pub record Account (A : Type 0) : Type 0 where
  pub catalog : Catalog
  pub base : ℕ  -- how many transactions came before its first
  pub runs : List (Going A)  -- its transactions
  pub lines : List ℕ  -- for each of its events the line of the script that asked for it

abbrev pub or_zero : Option ℕ → ℕ
or_zero None = 0
or_zero (Some n) = n

-- a transaction, a word and another transaction
abbrev pub before_told : ℕ → List ℕ → ℕ → List ℕ
before_told m word n = decimal m ++ word ++ decimal n

abbrev pub chain_told : Cause → List ℕ
chain_told k = codes "so " ++ before_told k.a.0 (codes " comes before ") k.b.0 ++ codes " and " ++ before_told k.b.0 (codes " before ") k.c.0 ++ codes ", but "

-- in which order the transactions of a structure would have to come
abbrev pub order_told : Cause → List ℕ
order_told k = if k.a.0 == k.c.0 then codes "so each would have to come before the other; " else chain_told k

abbrev pub snapshot_told : ℕ → List ℕ
snapshot_told n = decimal n ++ codes "'s snapshot."

abbrev pub seen_told : Cause → List ℕ
seen_told k = codes " had committed before " ++ snapshot_told k.a.0

module _ {A : Type 0} where
  -- ---- transactions

  -- the line of the event at a place, counted from 1; 0 where it isn't known
  abbrev pub line_of : Account A → ℕ → ℕ
  line_of a p = if p == 0 then 0 else or_zero (slice_get a.lines (p - 1))

  abbrev pub line_told : Account A → ℕ → List ℕ
  line_told a p = codes "line " ++ decimal (line_of a p)

  abbrev pub at_told : Account A → Moment → List ℕ
  at_told a m = codes " (" ++ line_told a m.place ++ codes ")"

  -- a transaction's number, counted with those before the base
  unfoldable pub number_of : Account A → Going A → ℕ
  number_of a g = min (a.base + g.trace.number) (2 ^ 64 - 1)

  abbrev pub transaction_told : Account A → Going A → List ℕ
  transaction_told a g = codes "transaction " ++ decimal (number_of a g)

  abbrev pub begin_told : Account A → Going A → List ℕ
  begin_told a g = codes ", " ++ line_told a g.trace.begin ++ codes ")"

  abbrev pub session_told : Account A → Going A → List ℕ
  session_told a g = codes " (session " ++ decimal g.trace.session ++ begin_told a g

  -- with its session, and the line of its BEGIN
  abbrev pub introduced_told : Account A → Going A → List ℕ
  introduced_told a g = transaction_told a g ++ session_told a g

  abbrev pub party_told : Account A → Bool → Going A → List ℕ
  party_told a is_introduced g = if is_introduced then introduced_told a g else transaction_told a g

  -- the transaction that a session has, or had last
  abbrev pub later_of : ℕ → Option (Going A) → Going A → Option (Going A)
  later_of s found g = if g.trace.session == s then Some g else found

  abbrev pub last_of : List (Going A) → ℕ → Option (Going A)
  last_of gs s = fold (later_of s) None gs

  abbrev pub again_so : Account A → Option (Going A) → List ℕ
  again_so a None = []
  again_so a (Some g) = codes " Run " ++ transaction_told a g ++ codes " again."

  abbrev pub again_told : Account A → ℕ → List ℕ
  again_told a s = again_so a (last_of a.runs s)

  -- ---- a conflict

  abbrev pub read_told : Account A → Trail A → Edge A → List ℕ
  read_told a t e = codes " read " ++ hold_told a.catalog e.item.table (read_by t e.read) e.hold ++ at_told a e.read

  abbrev pub reader_told : Account A → Bool → Going A → Edge A → List ℕ
  reader_told a is_introduced g e = party_told a is_introduced g ++ read_told a g.trace e

  abbrev pub written_told : Account A → Edge A → List ℕ
  written_told a e = codes " wrote " ++ item_told a.catalog e.item ++ at_told a e.written

  abbrev pub writer_told : Account A → Bool → Going A → Edge A → List ℕ
  writer_told a is_introduced g e = party_told a is_introduced g ++ written_told a e

  -- which transaction read what, and which wrote it
  abbrev pub conflict_told : Account A → Bool → Bool → Going A → Going A → Edge A → List ℕ
  conflict_told a r w g h e = reader_told a r g e ++ codes "; " ++ writer_told a w h e

  -- nothing where there is no such transaction, or it isn't one
  abbrev pub conflict_so : Account A → Bool → Bool → Option (Going A) → Option (Going A) → Option (Edge A) → List (List ℕ)
  conflict_so a r w (Some g) (Some h) (Some e) = conflict_told a r w g h e ∷ []
  conflict_so a r w None h e = []
  conflict_so a r w (Some g) None e = []
  conflict_so a r w (Some g) (Some h) None = []

  abbrev pub conflict_remarks : Account A → Bool → Bool → ℕ → ℕ → Option (Edge A) → List (List ℕ)
  conflict_remarks a r w m n e = conflict_so a r w (numbered a.base m a.runs) (numbered a.base n a.runs) e

  -- ---- a dangerous structure

  abbrev pub sees : Option (Going A) → Option (Going A) → Bool
  sees None h = false
  sees (Some g) None = false
  sees (Some g) (Some h) = not (h.trace.commit == 0) && nat_le h.trace.commit g.trace.snapshot

  -- its last transaction had committed when its first took its snapshot
  abbrev pub is_seen : Account A → Cause → Bool
  is_seen a k = sees (numbered a.base k.a.0 a.runs) (numbered a.base k.c.0 a.runs)

  abbrev pub committed_told : Account A → Cause → List ℕ
  committed_told a k = if k.a.0 == k.c.0 || not (is_seen a k) then codes " committed first." else seen_told k

  abbrev pub first_told : Account A → Cause → List ℕ
  first_told a k = decimal k.c.0 ++ committed_told a k

  abbrev pub consequence_told : Account A → ℕ → Cause → List ℕ
  consequence_told a s k = order_told k ++ first_told a k ++ again_told a s

  -- Where the first transaction is also the last, the first conflict introduces both.
  abbrev pub danger_remarks : Account A → Danger A → List (List ℕ)
  danger_remarks a d = conflict_remarks a true true d.cause.a.0 d.cause.b.0 d.first ++ conflict_remarks a false (not (d.cause.a.0 == d.cause.c.0)) d.cause.b.0 d.cause.c.0 d.second

  abbrev pub cause_remarks : Account A → ℕ → Cause → List (List ℕ)
  cause_remarks a s k = danger_remarks a (danger_of a.base a.runs k) ++ consequence_told a s k ∷ []

  -- ---- a row that another transaction has written

  abbrev pub since_told : Account A → Going A → List ℕ
  since_told a g = codes " and has committed since the snapshot of " ++ introduced_told a g

  abbrev pub state_told : Account A → Going A → Going A → List ℕ
  state_told a g r = if r.trace.commit == 0 then codes " and hasn't ended" else since_told a g

  abbrev pub holder_told : Account A → Going A → Going A → Change A → List ℕ
  holder_told a g r x = introduced_told a r ++ codes " has written " ++ key_told a.catalog x.table x.key ++ state_told a g r

  abbrev pub rival_remarks : Account A → Going A → Change A → Option (Going A) → List (List ℕ)
  rival_remarks a g x None = []
  rival_remarks a g x (Some r) = holder_told a g r x ∷ []

  abbrev pub change_remarks : Account A → Going A → Option (Change A) → List (List ℕ)
  change_remarks a g None = []
  change_remarks a g (Some x) = rival_remarks a g x (rival a.runs g.trace x)

  abbrev pub holder_remarks : Account A → Option (Going A) → List (List ℕ)
  holder_remarks a None = []
  holder_remarks a (Some g) = change_remarks a g (taken a.runs g)

  abbrev pub first_updater_told : Account A → ℕ → List ℕ
  first_updater_told a s = codes "so the first to write the row goes on." ++ again_told a s

  abbrev pub row_remarks : Account A → ℕ → List (List ℕ)
  row_remarks a s = holder_remarks a (last_of a.runs s) ++ first_updater_told a s ∷ []

  -- ---- a refusal

  -- none where other transactions aren't the reason
  abbrev pub remarks_at : Account A → ℕ → Place → List (List ℕ)
  remarks_at a s (At k) = cause_remarks a s k
  remarks_at a s Row = row_remarks a s
  remarks_at a s Nowhere = []
  remarks_at a s (Byte n) = []
  remarks_at a s (Column n) = []
  remarks_at a s (Table n) = []

  -- why the transaction of session s was refused, in words
  abbrev pub why_told : Account A → ℕ → Refusal → List ℕ
  why_told a s e = remark_lines s (remarks_at a s e.place)
