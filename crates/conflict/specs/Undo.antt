-- What was noted of edges, and is taken back where memory was refused for a further one.
use Rattle.std.specs.Prelude.{◌≡◌, ℕ, zero, suc, ◌<◌, ◌≤◌, ◌==◌, Bool, true, if◌then◌else◌, List, [], ◌∷◌, length, map}
use Rattle.std.specs.List.{insert, list_any, remove}
use Rattle.conflict.specs.Tracked.{AreEdges, Each, IsSorted, Party, Rising, is_among, put_in, without}

-- the one at a place changed
abbrev pub changed_at : ℕ → (Party → Party) → List Party → List Party
changed_at i f [] = []
changed_at zero f (p ∷ ps) = f p ∷ ps
changed_at (suc i) f (p ∷ ps) = p ∷ changed_at i f ps

-- n stands there
abbrev pub IsPlace : ℕ → ℕ → List ℕ → Type 0
IsPlace i n ns = (i < length ns) × (remove ns i ≡ without n ns)

-- n isn't there, and is put in there
abbrev pub IsGap : ℕ → ℕ → List ℕ → Type 0
IsGap i n ns = (i ≤ length ns) × (insert ns i n ≡ put_in n ns) × (without n (put_in n ns) ≡ ns)

-- the one at the place is active
abbrev pub IsActiveAt : ℕ → List Party → Type 0
IsActiveAt i [] = ⊥
IsActiveAt zero (p ∷ ps) = p.active ≡ true
IsActiveAt (suc i) (p ∷ ps) = IsActiveAt i ps

-- t doesn't know that it has read what u wrote
abbrev pub without_out : ℕ → ℕ → Party → Party
without_out t u p = record p { outs = if p.number == t then without u p.outs else p.outs }

-- u doesn't know that t has read what it wrote
abbrev pub without_in : ℕ → ℕ → Party → Party
without_in t u p = record p { ins = if p.number == u then without t p.ins else p.ins }

-- what a reader knows, or what a writer knows, of the two
abbrev pub without_note : Bool × ℕ × ℕ → List Party → List Party
without_note n ps = if n.0 then map (without_out n.1 n.2) ps else map (without_in n.1 n.2) ps

-- what was noted, the last first
abbrev pub taken_back : List (Bool × ℕ × ℕ) → List Party → List Party
taken_back [] ps = ps
taken_back (n ∷ ns) ps = without_note n (taken_back ns ps)

abbrev pub is_tracked : ℕ → List Party → Bool
is_tracked t ps = list_any (λ (p : Party). p.number == t) ps

-- the transactions stand by their numbers, and so do those that each knows
abbrev pub AreSorted : List Party → Type 0
AreSorted ps = Rising ps × Each IsSorted ps

-- the transactions stand by their numbers, and each edge is known on both sides
abbrev pub AreSound : List Party → Type 0
AreSound ps = Rising ps × AreEdges ps

-- t hasn't read what any of these wrote, as they know
abbrev pub unread_by : ℕ → List ℕ → Party → Party
unread_by t ws p = record p { ins = if is_among p.number ws then without t p.ins else p.ins }

-- none of these has read what t wrote, as they know
abbrev pub unreading : ℕ → List ℕ → Party → Party
unreading t rs p = record p { outs = if is_among p.number rs then without t p.outs else p.outs }
