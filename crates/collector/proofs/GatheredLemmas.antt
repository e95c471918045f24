-- Pieces that are written one after another.
use Rattle.std.proofs.Common.{◌≡◌, ℕ, zero, suc, ◌+◌, ◌-◌, ◌≤◌, ◌<◌, nat_lt, Bool, true, false, ◌||◌, List, [], ◌∷◌, ◌++◌, length, take, set, get_or, Option, Some, None, refl, sym, ap, ◌∙◌, subst, arith, append_assoc, length-set, length-append}
use Rattle.std.specs.Prelude.{slice_index_or, slice_set, is_some}
use Rattle.std.proofs.lemmas.Bool.Decides.{nat_tests}
use Rattle.std.proofs.lemmas.List.{append-nil}
use Rattle.dumpplan.specs.Pieces.{joined}
use Rattle.collector.specs.Written.{BeginsWith, Began, WroteAll}
use Rattle.collector.specs.Gathered.{Gathering, IsInTurn, NoneWaits, LacksNext, is_given}
use Rattle.collector.specs.Offers.{IsLeastMissing}

-- ---- the texts of the first pieces

joined_suc : (ts : List (List ℕ)) (n : ℕ) → n < length ts → joined (take (suc n) ts) ≡ joined (take n ts) ++ slice_index_or ts n []
joined_suc [] n h = absurd (omega arith)
joined_suc (t ∷ ts) zero h = append-nil t
joined_suc (t ∷ ts) (suc n) h = ap (λ (l : List ℕ). t ++ l) (joined_suc ts n (omega arith)) ∙ sym (append_assoc t (joined (take n ts)) (slice_index_or ts n []))

joined_next : (ts : List (List ℕ)) (n : ℕ) → n < length ts → joined (take (n + 1) ts) ≡ joined (take n ts) ++ slice_index_or ts n []
joined_next ts n h = let e : n + 1 ≡ suc n = omega arith in ap (λ (k : ℕ). joined (take k ts)) e ∙ joined_suc ts n h

pub joined_rest : (ts : List (List ℕ)) (n : ℕ) → BeginsWith (joined ts) (joined (take n ts))
joined_rest [] zero = ([], refl)
joined_rest [] (suc n) = ([], refl)
joined_rest (t ∷ ts) zero = (t ++ joined ts, refl)
joined_rest (t ∷ ts) (suc n) = let r = joined_rest ts n in (r.0, append_assoc t (joined (take n ts)) r.0 ∙ ap (λ (l : List ℕ). t ++ l) r.1)

begins_trans : (front mid whole : List ℕ) → BeginsWith mid front → BeginsWith whole mid → BeginsWith whole front
begins_trans front mid whole p q = (p.0 ++ q.0, sym (append_assoc front p.0 q.0) ∙ (ap (λ (w : List ℕ). w ++ q.0) p.1 ∙ q.1))

-- a beginning of the next piece
joined_part : (ts : List (List ℕ)) (n : ℕ) (w : List ℕ) → n < length ts → BeginsWith (slice_index_or ts n []) w → BeginsWith (joined ts) (joined (take n ts) ++ w)
joined_part ts n w h p =
    let part : BeginsWith (joined (take (n + 1) ts)) (joined (take n ts) ++ w) = (p.0, append_assoc (joined (take n ts)) w p.0 ∙ ap (λ (l : List ℕ). joined (take n ts) ++ l) p.1 ∙ sym (joined_next ts n h)) in
    begins_trans (joined (take n ts) ++ w) (joined (take (n + 1) ts)) (joined ts) part (joined_rest ts (n + 1))

pub joined_whole : (ts : List (List ℕ)) (n : ℕ) → length ts ≤ n → joined (take n ts) ≡ joined ts
joined_whole [] zero h = refl
joined_whole [] (suc n) h = refl
joined_whole (t ∷ ts) zero h = absurd (omega arith)
joined_whole (t ∷ ts) (suc n) h = ap (λ (l : List ℕ). t ++ l) (joined_whole ts n (omega arith))

-- ---- places

none_set : {A : Type 0} (xs : List (Option A)) (i k : ℕ) (b : A) → get_or (set xs i None) k None ≡ Some b → get_or xs k None ≡ Some b
none_set [] i k b e = e
none_set (x ∷ xs) zero zero b e = absurd (cc e)
none_set (x ∷ xs) zero (suc k) b e = e
none_set (x ∷ xs) (suc i) zero b e = e
none_set (x ∷ xs) (suc i) (suc k) b e = none_set xs i k b e

get_push : {A : Type 0} (xs : List (Option A)) (k : ℕ) → ((j : ℕ) → get_or xs j None ≡ None) → get_or (xs ++ None ∷ []) k None ≡ None
get_push [] zero h = refl
get_push [] (suc k) h = refl
get_push (x ∷ xs) zero h = h zero
get_push (x ∷ xs) (suc k) h = get_push xs k (λ j. h (suc j))

pub none_waits_push : (n : ℕ) (xs : List (Option (List ℕ))) → NoneWaits n xs → NoneWaits (n + 1) (xs ++ None ∷ [])
none_waits_push n xs h = (omega (arith, length-append xs (None ∷ []), h.0), λ k. get_push xs k h.1)

pub read_here : {A : Type 0} (xs : List (Option A)) (i : ℕ) (v : Option A) → i < length xs → v ≡ get_or xs i v → get_or xs i None ≡ v
read_here [] i v h e = absurd (omega arith)
read_here (x ∷ xs) zero v h e = sym e
read_here (x ∷ xs) (suc i) v h e = read_here xs i v (omega arith) e

-- ---- a step

module _ (c : Gathering) (s : IsInTurn c) (is_going : c.failed ≡ false) (more : c.next < length c.texts) (b : List ℕ) (here : slice_index_or c.waiting c.next None ≡ Some b) (taken : List ℕ) (failures : ℕ) where
  -- the next piece was written
  pub wrote_piece : taken ≡ c.taken ++ b → failures ≡ c.failures → IsInTurn (record c { taken = taken; failures = failures; waiting = slice_set c.waiting c.next None; next = c.next + 1 })
  wrote_piece t f =
      let g = s.going is_going in
      let is : b ≡ slice_index_or c.texts c.next [] = s.pieces c.next b here in
      let places = s.places in
      record {
        places = length-set c.waiting c.next None ∙ s.places;
        next_in = omega arith;
        pieces = λ k d e. s.pieces k d (none_set c.waiting c.next k d e);
        going = λ _. (t ∙ ap (λ (l : List ℕ). l ++ b) g.0 ∙ append_assoc c.before (joined (take c.next c.texts)) b ∙ ap (λ (l : List ℕ). c.before ++ (joined (take c.next c.texts) ++ l)) is ∙ ap (λ (l : List ℕ). c.before ++ l) (sym (joined_next c.texts c.next more)), f ∙ g.1);
        stopped = λ x. let no : true ≡ false = sym x ∙ is_going in absurd (cc no);
      }

  -- a part of it, and the device failed
  pub failed_piece : (w : List ℕ) → taken ≡ c.taken ++ w → BeginsWith b w → failures ≡ c.failures + 1 → IsInTurn (record c { taken = taken; failures = failures; waiting = slice_set c.waiting c.next None; failed = true })
  failed_piece w t p f =
      let g = s.going is_going in
      let is : b ≡ slice_index_or c.texts c.next [] = s.pieces c.next b here in
      record {
        places = length-set c.waiting c.next None ∙ s.places;
        next_in = s.next_in;
        pieces = λ k d e. s.pieces k d (none_set c.waiting c.next k d e);
        going = λ x. absurd (cc x);
        stopped = λ _. ((joined (take c.next c.texts) ++ w, t ∙ ap (λ (l : List ℕ). l ++ w) g.0 ∙ append_assoc c.before (joined (take c.next c.texts)) w, joined_part c.texts c.next w more (subst (λ (l : List ℕ). BeginsWith l w) is p)), f ∙ ap (λ (n : ℕ). n + 1) g.1);
      }

-- a beginning was written
pub begun : (c : Gathering) → IsInTurn c → c.failed ≡ false → Began c.before (joined c.texts) c.taken
begun c s live = (joined (take c.next c.texts), (s.going live).0, joined_rest c.texts c.next)

-- the first piece that isn't here
pub least_missing : (c : Gathering) → c.failed ≡ false → c.next < length c.texts → LacksNext c → IsLeastMissing c (c.next + 1)
least_missing c live inside lacks =
    let last : c.next + 1 - 1 ≡ c.next = omega arith in (
      omega arith,
      omega arith,
      (λ k lt. let below : nat_lt k c.next ≡ true = grind (arith, nat_tests) in ap (λ (b : Bool). b || is_some (slice_index_or c.waiting k None)) below),
      (let here : nat_lt c.next c.next ≡ false = grind (arith, nat_tests) in
          ap (λ (k : ℕ). is_given c k) last ∙ ap (λ (b : Bool). b || is_some (slice_index_or c.waiting c.next None)) here ∙ lacks live),
    )

-- all pieces were written
pub all_written : (c : Gathering) → IsInTurn c → c.failed ≡ false → length c.texts ≤ c.next → WroteAll c.before c.failures_before (joined c.texts) c.taken c.failures
all_written c s live past = ((s.going live).0 ∙ ap (λ (t : List ℕ). c.before ++ t) (joined_whole c.texts c.next past), (s.going live).1)
