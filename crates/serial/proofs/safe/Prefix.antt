-- A snapshot that is known to be safe has a prefix of the serial order.
use Rattle.std.proofs.Common.{◌≡◌, refl, sym, ap, subst, ◌∙◌, ℕ, ◌<◌, ◌≤◌, Bool, true, false, true≢false, not, ◌&&◌, ◌||◌, ◌⊎◌, inl, inr, List, [], ◌∷◌, nat_le, arith}
use Rattle.std.proofs.lemmas.Bool.{and_parts, ltb-true, le-leb, leb-true}
use Rattle.std.proofs.lemmas.Bool.Decides.{nat_tests}
use Rattle.std.specs.Cmp.{both_ways}
use Rattle.std.specs.List.{list_all, AllByRecursion}
use Rattle.value.proofs.IsolationLemmas.{In, first_part-above, first_part-least, write-0, read-0, f}
use Rattle.value.proofs.Basics.{cases_le}
use Rattle.history.specs.declared.event.Record.{Record}
use Rattle.history.specs.Opening.{Opening}
use Rattle.history.specs.Transactions.{Txn, World, node, edge, is_done, is_read_write}
use Rattle.history.specs.Events.{world_of}
use Rattle.history.specs.Serial.{committed, key, is_safe_at, IsSafe, HasCommits, HasEarlier, SafeAreSafe}
use Rattle.history.proofs.Alone.{IsIsolatedWorld, In-filter, prefix_begins, prefix_runs}
use Rattle.history.specs.Answer.{Legal}
use Rattle.serial.proofs.legal.InTime.{Shows}
use Rattle.serial.proofs.safe.Stamps.{Stamp, Stands, stamp}
use Rattle.serial.proofs.order.SerialTheorem.{IsGood, good_world, isolated_world}

pub all_by : {T : Type 0} (P : T → Type 0) (xs : List T) → ((x : T) → In x xs → P x) → AllByRecursion P xs
all_by P [] f = tt
all_by P (x ∷ xs) f = (f x (inl refl), all_by P xs (λ y i. f y (inr i)))

pub by_all : {T : Type 0} (P : T → Type 0) (xs : List T) (x : T) → AllByRecursion P xs → In x xs → P x
by_all P [] x a i = absurd i
by_all P (y ∷ xs) x a (inl p) = subst P (sym p) a.0
by_all P (y ∷ xs) x a (inr i) = by_all P xs x a.1 i

list_all_by : {T : Type 0} (p : T → Bool) (xs : List T) → ((x : T) → In x xs → p x ≡ true) → list_all p xs ≡ true
list_all_by p [] f = refl
list_all_by p (x ∷ xs) f = ap (λ b. b && list_all p xs) (f x (inl refl)) ∙ list_all_by p xs (λ y i. f y (inr i))

not_so : (b : Bool) → (b ≡ true → ⊥) → not b ≡ true
not_so true f = absurd (f refl)
not_so false f = refl

module _ {A : Type 0} (w : World A) (g : IsGood w) where
  iso : IsIsolatedWorld w
  iso = isolated_world w g

  done : (u : Txn A) → In u (committed w) → In u w.txns × (is_done u.standing ≡ true)
  done u i = In-filter (λ (t : Txn A). is_done t.standing) w.txns u i

  first_is : (u : Txn A) → is_read_write u.mode ≡ true → (key w u).0 ≡ f node edge u (committed w)
  first_is u r = write-0 node edge u (committed w) r

  module _ (p : Stamp) (stands : Stands w p) (based : w.base.commits ≤ p.snapshot) (known : p.known ≡ true) where
    abbrev s : ℕ
    s = p.snapshot

    front : (u : Txn A) → In u (committed w) → (node u).read_write ≡ true → nat_le (key w u).0 s ≡ true → u.commit ≤ s
    front u i r e = go (cases_le u.commit s)
      where
        go : (u.commit ≤ s) ⊎ (s < u.commit) → u.commit ≤ s
        go (inl h) = h
        go (inr h) = absurd (let n = above in let k = leb-true (key w u).0 s e in let q = first_is u r in omega arith)
          where
            each : (v : Txn A) → In v (committed w) → edge u v ≡ true → v.commit < u.commit → s < v.commit
            each v j d l = side (cases_le v.commit s)
              where
                side : (v.commit ≤ s) ⊎ (s < v.commit) → s < v.commit
                side (inl m) = absurd (stands.safe known u v (iso.log_all u i r) (iso.log_all v j (iso.isolated.writes u v j d)) h m d)
                side (inr m) = m

            above : s < f node edge u (committed w)
            above = first_part-above node edge u (committed w) s h each

    all : (u : Txn A) → In u (committed w) → (node u).read_write ≡ true → u.commit ≤ s → nat_le (key w u).0 s ≡ true
    all u i r h = le-leb (key w u).0 s (let q = first_is u r in let l = first_part-least node edge u (committed w) in omega arith)

    safe_at : is_safe_at w s ≡ true
    safe_at = list_all_by _ w.log (λ u i. by_commit u i (nat_le u.commit s) refl)
      where
        by_commit : (u : Txn A) → In u w.log → (b : Bool) → nat_le u.commit s ≡ b → (nat_le u.commit s || list_all (λ v. not (edge u v && nat_le v.commit s)) w.log) ≡ true
        by_commit u i true e = ap (λ b. b || list_all (λ v. not (edge u v && nat_le v.commit s)) w.log) e
        by_commit u i false e = ap (λ b. b || list_all (λ v. not (edge u v && nat_le v.commit s)) w.log) e ∙ list_all_by _ w.log (λ v j. not_so (edge u v && nat_le v.commit s)
            (λ d. let q = and_parts (edge u v) (nat_le v.commit s) d in stands.safe known u v i j (above u.commit e) (leb-true v.commit s q.1) q.0))
          where
            above : (n : ℕ) → nat_le n s ≡ false → s < n
            above n q = grind (arith, nat_tests)

    has_commits : HasCommits w s
    has_commits = all_by _ (committed w) (λ u i r. both_ways (nat_le (key w u).0 s) (nat_le u.commit s) (λ e. le-leb u.commit s (front u i r e)) (λ e. all u i r (leb-true u.commit s e)))

    pub is_safe : IsSafe w s
    is_safe = record { safe_at = safe_at; is_beginning = prefix_begins w iso s based front all; has_commits = has_commits; runs_to = prefix_runs w iso s based front all }

  pub has_earlier : (t : Txn A) → In t w.txns → t.imported ≡ false → HasEarlier w t
  has_earlier t i m = all_by _ (committed w) (λ u j p. each u j (ltb-true u.end t.begin p))
    where
      each : (u : Txn A) → In u (committed w) → u.end < t.begin → nat_le (key w u).0 t.snapshot ≡ true
      each u j p = go (is_read_write u.mode) refl
        where
          h : Shows u t
          h = g.time.shows u t (done u j).0 i (done u j).1 p m

          go : (b : Bool) → is_read_write u.mode ≡ b → nat_le (key w u).0 t.snapshot ≡ true
          go true r = le-leb (key w u).0 t.snapshot (let q = first_is u r in let l = first_part-least node edge u (committed w) in let m = h.0 in omega arith)
          go false r = le-leb (key w u).0 t.snapshot (let q = read-0 node edge u (committed w) r in let m = h.1 (no_commit (g.numbered.kind u (done u j).0)) in omega arith)
            where
              no_commit : In u w.log ⊎ (u.commit ≡ 0) × (is_done u.standing ≡ true → is_read_write u.mode ≡ false) → u.commit ≡ 0
              no_commit (inl k) = absurd (true≢false (sym (g.numbered.logged u k).2 ∙ r))
              no_commit (inr k) = k.0

module _ {A : Type 0} where
  pub safe_are_safe : (o : Opening A) (es : List (Record A)) → Legal o es → SafeAreSafe (world_of o es)
  safe_are_safe o es l = all_by _ w.txns (λ t i k. (is_safe w g (stamp t) (g.stands.txns t i) (g.numbered.shown t i).0 k, has_earlier w g t i))
    where
      w : World A
      w = world_of o es

      g : IsGood w
      g = good_world o es l
