-- The first of the open transactions that may write, and who waits for one.
use Rattle.std.proofs.Common.{◌≡◌, refl, ap, ◌∙◌, ℕ, ◌<◌, ◌≤◌, min, Bool, true, false, cond, ◌&&◌, ◌||◌, List, [], ◌∷◌, fold, nat_lt, arith}
use Rattle.std.proofs.Math.Bool.{and-false}
use Rattle.std.proofs.lemmas.Bool.{or_right, ltb-false, le-ltb}
use Rattle.std.specs.List.{AllByRecursion, list_any}
use Rattle.value.proofs.Basics.{all-weaker}
use Rattle.history.specs.Transactions.{Txn, is_open, is_read_write}
use Rattle.transactions.specs.Active.{before_active, first_active}
use Rattle.transactions.specs.Ledger.{is_awaited, is_pending_at}
use Rattle.transactions.specs.Stretches.{IsPast}
use Rattle.transactions.proofs.StretchLemmas.{past-not_open}

module _ {A : Type 0} where
  -- ---- what is past is none of them

  past_before : (n p : ℕ) (u : Txn A) → IsPast n p u → (place : ℕ) → before_active place u ≡ place
  past_before n p u h place = ap (λ b. cond b (min u.begin place) place) (ap (λ b. is_read_write u.mode && b) (past-not_open n p u h) ∙ and-false (is_read_write u.mode))

  pub active-none : (n p : ℕ) (us : List (Txn A)) → AllByRecursion (IsPast n p) us → AllByRecursion (λ (u : Txn A). (place : ℕ) → before_active place u ≡ place) us
  active-none n p us all = all-weaker (IsPast n p) (λ (u : Txn A). (place : ℕ) → before_active place u ≡ place) (past_before n p) us all

  -- ---- who waits for one

  first_most : (n : ℕ) (ts : List (Txn A)) → fold before_active n ts ≤ n
  first_most n [] = omega arith
  first_most n (t ∷ ts) = go (is_read_write t.mode && is_open t.standing) (first_most (before_active n t) ts)
    where
      go : (b : Bool) → fold before_active (cond b (min t.begin n) n) ts ≤ cond b (min t.begin n) n → fold before_active (cond b (min t.begin n) n) ts ≤ n
      go true h = omega arith
      go false h = h

  not_awaited : (n taken : ℕ) (t : Txn A) → taken ≤ before_active n t → is_awaited taken t ≡ false
  not_awaited n taken t h = go (is_read_write t.mode) (is_open t.standing) h
    where
      go : (a o : Bool) → taken ≤ cond (a && o) (min t.begin n) n → (((a && nat_lt t.begin taken) && (o || nat_lt taken t.end)) && o) ≡ false
      go false o l = refl
      go true false l = and-false (nat_lt t.begin taken && nat_lt taken t.end)
      go true true l = ap (λ b. (b && true) && true) (le-ltb t.begin taken (omega arith))

  none_awaited : (n taken : ℕ) (ts : List (Txn A)) → taken ≤ fold before_active n ts → list_any (is_awaited taken) ts ≡ false
  none_awaited n taken [] h = refl
  none_awaited n taken (t ∷ ts) h =
      ap (λ b. b || list_any (is_awaited taken) ts) (not_awaited n taken t (let p = first_most (before_active n t) ts in omega (arith, h, p)))
      ∙ none_awaited (before_active n t) taken ts h

  some_awaited : (n taken : ℕ) (ts : List (Txn A)) → fold before_active n ts < taken → taken ≤ n → list_any (is_awaited taken) ts ≡ true
  some_awaited n taken [] h le = absurd (omega arith)
  some_awaited n taken (t ∷ ts) h le = go (is_read_write t.mode) (is_open t.standing) h (λ m l k. some_awaited m taken ts l k)
    where
      rest : Bool
      rest = list_any (is_awaited taken) ts

      early : (b : Bool) → nat_lt t.begin taken ≡ b → fold before_active (min t.begin n) ts < taken → ((m : ℕ) → fold before_active m ts < taken → taken ≤ m → list_any (is_awaited taken) ts ≡ true)
          → ((((true && b) && (true || nat_lt taken t.end)) && true) || rest) ≡ true
      early true e l more = refl
      early false e l more = more (min t.begin n) l (let p = ltb-false t.begin taken e in omega arith)

      go : (a o : Bool) → fold before_active (cond (a && o) (min t.begin n) n) ts < taken → ((m : ℕ) → fold before_active m ts < taken → taken ≤ m → list_any (is_awaited taken) ts ≡ true)
          → ((((a && nat_lt t.begin taken) && (o || nat_lt taken t.end)) && o) || rest) ≡ true
      go false o l more = more n l le
      go true false l more = or_right _ rest (more n l le)
      go true true l more = early (nat_lt t.begin taken) refl l more

  -- nobody, where the snapshot was taken before the first began
  pub none_pending : (ts : List (Txn A)) (taken : ℕ) → taken ≤ first_active ts → is_pending_at ts taken ≡ false
  none_pending ts taken h = none_awaited 18446744073709551615 taken ts h

  pub one_pending : (ts : List (Txn A)) (taken : ℕ) → first_active ts < taken → taken ≤ 18446744073709551615 → is_pending_at ts taken ≡ true
  one_pending ts taken h le = some_awaited 18446744073709551615 taken ts h le
