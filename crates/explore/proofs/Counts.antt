-- What is counted: each text once, with the number of its runs and the first of them.
use Rattle.std.proofs.Common.{◌≡◌, refl, sym, ap, ◌∙◌, subst, ℕ, ◌+◌, ◌<◌, ◌≤◌, Bool, true, false, cond, eqb, List, [], ◌∷◌, ◌++◌, length, arith}
use Rattle.std.specs.Prelude.{bytes_eq}
use Rattle.std.specs.List.{All, AllByRecursion}
use Rattle.std.proofs.lemmas.Bool.{eqb-true, eq-eqb, false_from_ne_true, true≢false}
use Rattle.std.proofs.lemmas.List.{append_assoc, length-append, get_or_append_left, get_or_at, take-append-le, take_at, append-nil}
use Rattle.std.proofs.lemmas.List.Elements.{All-from_recursion}
use Rattle.explore.specs.Interleavings.{occurrences, same_order}
use Rattle.explore.specs.Outcomes.{Counted, IsFirst, noted, noted_all, outcomes, outcomes_with, runs_to, single}
use Rattle.explore.proofs.Noted.{more}
use Rattle.explore.proofs.Joined.{same, equal}

-- ---- texts

same_order-itself : (a : List ℕ) → same_order a a ≡ 1
same_order-itself [] = refl
same_order-itself (x ∷ xs) = ap (λ b. cond b (same_order xs xs) 0) (eq-eqb x x refl) ∙ same_order-itself xs

same_order-other : (a b : List ℕ) → (b ≡ a → ⊥) → same_order a b ≡ 0
same_order-other [] [] n = absurd (n refl)
same_order-other [] (y ∷ ys) n = refl
same_order-other (x ∷ xs) [] n = refl
same_order-other (x ∷ xs) (y ∷ ys) n = go (eqb y x) refl (same_order-other xs ys)
  where
    go : (b : Bool) → eqb y x ≡ b → ((ys ≡ xs → ⊥) → same_order xs ys ≡ 0) → cond b (same_order xs ys) 0 ≡ 0
    go true e rest = let f : y ≡ x = eqb-true y x e in rest (λ g. n (ap (λ z. z ∷ ys) f ∙ ap (λ z. x ∷ z) g))
    go false e rest = refl

once : (t x : List ℕ) → same_order t x ≡ cond (bytes_eq x t) 1 0
once t x = go (bytes_eq x t) refl
  where
    go : (b : Bool) → bytes_eq x t ≡ b → same_order t x ≡ cond b 1 0
    go true e = ap (λ z. same_order t z) (same x t e) ∙ same_order-itself t
    go false e = same_order-other t x (λ f. true≢false (sym (ap (λ z. bytes_eq z t) f ∙ equal t) ∙ e))

-- ---- one more run

runs_to-noted : (t : List ℕ) (os : List Counted) (text : List ℕ) (n : ℕ) → runs_to t (noted os text n) ≡ runs_to t os + cond (bytes_eq text t) 1 0
runs_to-noted t [] text n = omega arith
runs_to-noted t (o ∷ os) text n = go (bytes_eq o.text text) refl (runs_to-noted t os text n)
  where
    one : (b : Bool) (k r : ℕ) → cond b (k + 1) 0 + r ≡ cond b k 0 + r + cond b 1 0
    one true k r = omega arith
    one false k r = omega arith

    go : (b : Bool) → bytes_eq o.text text ≡ b → runs_to t (noted os text n) ≡ runs_to t os + cond (bytes_eq text t) 1 0 →
        runs_to t (cond b (more 1 o ∷ os) (o ∷ noted os text n)) ≡ cond (bytes_eq o.text t) o.runs 0 + runs_to t os + cond (bytes_eq text t) 1 0
    go true e rest = one (bytes_eq o.text t) o.runs (runs_to t os) ∙ ap (λ z. cond (bytes_eq o.text t) o.runs 0 + runs_to t os + cond (bytes_eq z t) 1 0) (same o.text text e)
    go false e rest = omega (arith, rest)

with-noted_other : (t : List ℕ) (os : List Counted) (text : List ℕ) (n : ℕ) → bytes_eq text t ≡ false → outcomes_with t (noted os text n) ≡ outcomes_with t os
with-noted_other t [] text n e = ap (λ b. cond b 1 0 + 0) e
with-noted_other t (o ∷ os) text n e = go (bytes_eq o.text text) (with-noted_other t os text n e)
  where
    go : (b : Bool) → outcomes_with t (noted os text n) ≡ outcomes_with t os → outcomes_with t (cond b (more 1 o ∷ os) (o ∷ noted os text n)) ≡ cond (bytes_eq o.text t) 1 0 + outcomes_with t os
    go true rest = refl
    go false rest = ap (λ x. cond (bytes_eq o.text t) 1 0 + x) rest

with-noted : (t : List ℕ) (os : List Counted) (text : List ℕ) (n : ℕ) → outcomes_with t os ≤ 1 → outcomes_with t (noted os text n) ≤ 1
with-noted t [] text n h = go (bytes_eq text t)
  where
    go : (b : Bool) → cond b 1 0 + 0 ≤ 1
    go true = omega arith
    go false = omega arith
with-noted t (o ∷ os) text n h = go (bytes_eq o.text text) refl (with-noted t os text n)
  where
    apart : bytes_eq o.text text ≡ false → o.text ≡ t → bytes_eq text t ≡ false
    apart e f = false_from_ne_true (bytes_eq text t) (λ g. true≢false (sym (ap (λ z. bytes_eq o.text z) (same text t g ∙ sym f) ∙ equal o.text) ∙ e))

    other : bytes_eq o.text text ≡ false → (outcomes_with t os ≤ 1 → outcomes_with t (noted os text n) ≤ 1) → (c : Bool) → bytes_eq o.text t ≡ c → cond c 1 0 + outcomes_with t os ≤ 1 → cond c 1 0 + outcomes_with t (noted os text n) ≤ 1
    other e rest true f k = omega (arith, k, with-noted_other t os text n (apart e (same o.text t f)))
    other e rest false f k = omega (arith, rest (omega (arith, k)))

    go : (b : Bool) → bytes_eq o.text text ≡ b → (outcomes_with t os ≤ 1 → outcomes_with t (noted os text n) ≤ 1) → outcomes_with t (cond b (more 1 o ∷ os) (o ∷ noted os text n)) ≤ 1
    go true e rest = h
    go false e rest = other e rest (bytes_eq o.text t) refl h

-- ---- what holds of each outcome

each-noted : (P : Counted → Type 0) (os : List Counted) (text : List ℕ) (n : ℕ) → ((o : Counted) → P o → P (more 1 o)) → (outcomes_with text os ≡ 0 → P (single text n)) → AllByRecursion P os →
    AllByRecursion P (noted os text n)
each-noted P [] text n up fresh a = (fresh refl, a)
each-noted P (o ∷ os) text n up fresh a = go (bytes_eq o.text text) refl (each-noted P os text n up)
  where
    go : (b : Bool) → bytes_eq o.text text ≡ b → ((outcomes_with text os ≡ 0 → P (single text n)) → AllByRecursion P os → AllByRecursion P (noted os text n)) → AllByRecursion P (cond b (more 1 o ∷ os) (o ∷ noted os text n))
    go true e rest = (up o a.0, a.1)
    go false e rest = (a.0, rest (λ z. fresh (ap (λ b. cond b 1 0 + outcomes_with text os) e ∙ omega (arith, z))) a.1)

none_runs : (t : List ℕ) (os : List Counted) → outcomes_with t os ≡ 0 → runs_to t os ≡ 0
none_runs t [] e = refl
none_runs t (o ∷ os) e = go (bytes_eq o.text t) e (none_runs t os)
  where
    go : (b : Bool) → cond b 1 0 + outcomes_with t os ≡ 0 → (outcomes_with t os ≡ 0 → runs_to t os ≡ 0) → cond b o.runs 0 + runs_to t os ≡ 0
    go true f rest = absurd (omega (arith, f))
    go false f rest = omega (arith, rest (omega (arith, f)))

-- ---- many runs

runs_to-all : (t : List ℕ) (os : List Counted) (texts : List (List ℕ)) (n : ℕ) → runs_to t (noted_all os texts n) ≡ runs_to t os + occurrences t texts
runs_to-all t os [] n = omega arith
runs_to-all t os (x ∷ texts) n = omega (arith, runs_to-all t (noted os x n) texts (n + 1), runs_to-noted t os x n, once t x)

with-all : (t : List ℕ) (os : List Counted) (texts : List (List ℕ)) (n : ℕ) → outcomes_with t os ≤ 1 → outcomes_with t (noted_all os texts n) ≤ 1
with-all t os [] n h = h
with-all t os (x ∷ texts) n h = with-all t (noted os x n) texts (n + 1) (with-noted t os x n h)

some-all : (os : List Counted) (texts : List (List ℕ)) (n : ℕ) → AllByRecursion (λ o. 0 < o.runs) os → AllByRecursion (λ o. 0 < o.runs) (noted_all os texts n)
some-all os [] n a = a
some-all os (x ∷ texts) n a = some-all (noted os x n) texts (n + 1) (each-noted (λ o. 0 < o.runs) os x n (λ o h. omega (arith, h)) (λ e. omega arith) a)

-- ---- the first run

later : (done : List (List ℕ)) (x : List ℕ) (o : Counted) → IsFirst done o → IsFirst (done ++ x ∷ []) o
later done x o (a, b, c) = (
  omega (arith, a, length-append done (x ∷ [])),
  get_or_append_left done (x ∷ []) [] o.first a ∙ b,
  ap (λ z. occurrences o.text z) (take-append-le o.first done (x ∷ []) (omega (arith, a))) ∙ c,
)

each-later : (done : List (List ℕ)) (x : List ℕ) (os : List Counted) → AllByRecursion (IsFirst done) os → AllByRecursion (IsFirst (done ++ x ∷ [])) os
each-later done x [] a = a
each-later done x (o ∷ os) a = (later done x o a.0, each-later done x os a.1)

firsts : (done texts : List (List ℕ)) (os : List Counted) → AllByRecursion (IsFirst done) os → ((t : List ℕ) → runs_to t os ≡ occurrences t done) → AllByRecursion (IsFirst (done ++ texts)) (noted_all os texts (length done))
firsts done [] os a r = subst (λ z. AllByRecursion (IsFirst z) os) (sym (append-nil done)) a
firsts done (x ∷ texts) os a r =
    let n : length (done ++ x ∷ []) ≡ length done + 1 = length-append done (x ∷ []) ∙ omega arith in
    let e : (done ++ x ∷ []) ++ texts ≡ done ++ x ∷ texts = append_assoc done (x ∷ []) texts in
    subst (λ z. AllByRecursion (IsFirst z) (noted_all (noted os x (length done)) texts (length done + 1))) e
    (subst (λ z. AllByRecursion (IsFirst ((done ++ x ∷ []) ++ texts)) (noted_all (noted os x (length done)) texts z)) n
    (firsts (done ++ x ∷ []) texts (noted os x (length done)) here counts))
  where
    here : AllByRecursion (IsFirst (done ++ x ∷ [])) (noted os x (length done))
    here = each-noted (IsFirst (done ++ x ∷ [])) os x (length done) (λ o h. h)
        (λ z. (
          omega (arith, length-append done (x ∷ [])),
          get_or_at done x [] [] (length done) refl,
          ap (λ y. occurrences x y) (take_at done (x ∷ []) (length done) refl) ∙ sym (r x) ∙ none_runs x os z,
        ))
        (each-later done x os a)

    counts : (t : List ℕ) → runs_to t (noted os x (length done)) ≡ occurrences t (done ++ x ∷ [])
    counts t = runs_to-noted t os x (length done) ∙ added (r t)
      where
        push : (ys : List (List ℕ)) → occurrences t (ys ++ x ∷ []) ≡ occurrences t ys + same_order t x
        push [] = omega arith
        push (y ∷ ys) = omega (arith, push ys)

        added : runs_to t os ≡ occurrences t done → runs_to t os + cond (bytes_eq x t) 1 0 ≡ occurrences t (done ++ x ∷ [])
        added q = omega (arith, q, push done, once t x)

-- ---- the laws

pub counted : (texts : List (List ℕ)) (t : List ℕ) → runs_to t (outcomes texts) ≡ occurrences t texts
unfolding outcomes
counted texts t = runs_to-all t [] texts 0 ∙ omega arith

pub once_each : (texts : List (List ℕ)) (t : List ℕ) → outcomes_with t (outcomes texts) ≤ 1
unfolding outcomes
once_each texts t = with-all t [] texts 0 (omega arith)

pub some_each : (texts : List (List ℕ)) → All (λ o. 0 < o.runs) (outcomes texts)
unfolding outcomes
some_each texts = All-from_recursion (λ o. 0 < o.runs) (noted_all [] texts 0) (some-all [] texts 0 tt)

pub first_each : (texts : List (List ℕ)) → All (IsFirst texts) (outcomes texts)
unfolding outcomes
first_each texts = All-from_recursion (IsFirst texts) (noted_all [] texts 0) (firsts [] texts [] tt (λ t. refl))
