-- Dangerous structures among the transactions around a stretch are those among all.
use Rattle.std.proofs.Common.{◌≡◌, refl, sym, ap, ◌∙◌, ℕ, zero, suc, ◌<◌, ◌≤◌, Bool, true, false, cond, List, [], ◌∷◌, ◌++◌, length, get_or, None, arith}
use Rattle.std.proofs.lemmas.Bool.{and_right}
use Rattle.std.specs.List.{AllByRecursion, filter}
use Rattle.std.proofs.lemmas.List.Elements.{filter-append}
use Rattle.value.specs.Isolation.{bound, is_dangerous}
use Rattle.history.specs.Transactions.{Txn, edge, is_read_write, node, reads_from}
use Rattle.transactions.specs.Ledger.{txn_at}
use Rattle.transactions.specs.Stretches.{IsAround, IsPast}
use Rattle.transactions.specs.Structures.{BeginHold, begun_cause, closed_pair}
use Rattle.transactions.proofs.CauseLemmas.{bounded-none, caused-none, none_closed, only-through}
use Rattle.transactions.proofs.StretchLemmas.{past-edge}

module _ {A : Type 0} where
  edges-none : (t : Txn A) (place : ℕ) (us : List (Txn A)) → AllByRecursion (IsPast t.snapshot place) us → AllByRecursion (λ u. edge t u ≡ false) us
  edges-none t place [] all = tt
  edges-none t place (u ∷ us) all = (past-edge t place u all.0, edges-none t place us all.1)

  -- what the middle one's snapshot shows closes nothing
  pub pair-filter : (ts front back : List (Txn A)) (a b : Txn A) (place : ℕ) → IsAround b.snapshot place ts front back
      → filter (is_dangerous node edge a b) front ++ filter (is_dangerous node edge a b) back ≡ filter (is_dangerous node edge a b) ts
  pair-filter ts front back a b place r =
      sym (ap (filter (is_dangerous node edge a b)) r.whole ∙ filter-append (is_dangerous node edge a b) front (r.between ++ back)
      ∙ ap (λ ys. filter (is_dangerous node edge a b) front ++ ys) (filter-append (is_dangerous node edge a b) r.between back
      ∙ ap (λ ys. ys ++ filter (is_dangerous node edge a b) back) (none_closed node edge a b r.between (edges-none b place r.between r.past))))

  -- what the first one's snapshot shows is in the middle of nothing
  pub pivots-none : (a : Txn A) (place : ℕ) (ts bs : List (Txn A)) → AllByRecursion (IsPast a.snapshot place) bs → AllByRecursion (λ b. closed_pair node edge ts a b ≡ None) bs
  pivots-none a place ts [] all = tt
  pivots-none a place ts (b ∷ bs) all = (sym (caused-none node edge a b ts (and_right (node a).committed (edge a b) (past-edge a place b all.0))), pivots-none a place ts bs all.1)

  bound-past : (n place : ℕ) (a : Txn A) → IsPast n place a → bound node edge a ≤ n
  bound-past n place a h = go (is_read_write a.mode)
    where
      go : (b : Bool) → cond b a.commit a.snapshot ≤ n
      go true = h.seen
      go false = h.begun

  pub at-place : (ts : List (Txn A)) (i : ℕ) → i < length ts → txn_at ts i ≡ get_or ts i (txn_at ts i)
  at-place [] i lt = absurd (omega arith)
  at-place (t ∷ ts) zero lt = refl
  at-place (t ∷ ts) (suc i) lt = at-place ts i (omega arith)

  -- what was over before the committer, and whose numbers its snapshot shows, begins nothing
  pub firsts-none : (ts : List (Txn A)) (at : ℕ) → at < length ts → (firsts : List (Txn A)) → AllByRecursion (IsPast (txn_at ts at).snapshot (txn_at ts at).end) firsts
      → AllByRecursion (λ a. BeginHold node edge (txn_at ts at) a ts) firsts → AllByRecursion (λ a. begun_cause node edge ts a ≡ None) firsts
  firsts-none ts at within [] past holds = tt
  firsts-none ts at within (a ∷ firsts) past holds = (
    sym (bounded-none node reads_from a (txn_at ts at) ts (bound-past (txn_at ts at).snapshot (txn_at ts at).end a past.0)
        ∙ only-through node edge ts at (txn_at ts at) a within (at-place ts at within) holds.0 other),
    firsts-none ts at within firsts past.1 holds.1,
  )
    where
      other : a ≡ txn_at ts at → ⊥
      other e = let p = ap (λ (t : Txn A). t.end) e in let q = past.0.ended in omega arith
