-- A replay of courses goes through exactly where their transactions are a serial order.
use Rattle.std.proofs.Common.{◌≡◌, refl, sym, ap, subst, ◌∙◌, ℕ, ◌-◌, ◌<◌, ◌≤◌, max, Bool, true, false, true≢false, cond, not, ◌&&◌, inl, inr, List, [], ◌∷◌, map, Option, Some, None, eqb, nat_lt, sum_by, arith}
use Rattle.std.proofs.lemmas.Bool.Decides.{nat_tests}
use Rattle.std.proofs.lemmas.Bool.{eq-eqb, eqb-true, ltb-true, not-true, and_parts}
use Rattle.std.specs.List.{filter, find, list_all}
use Rattle.std.specs.List.Sorted.{IsPermutation}
use Rattle.std.specs.Option.{option_map}
use Rattle.std.proofs.lemmas.List.Sums.{sum_by-cons}
use Rattle.std.proofs.lemmas.List.Sorted.{IsPermutation-refl, IsPermutation-cons, IsPermutation-trans, IsPermutation-middle, sum_by-IsPermutation}
use Rattle.value.proofs.IsolationLemmas.{In}
use Rattle.value.proofs.LastWriter.{Rising}
use Rattle.value.proofs.Basics.{and_from_three, find-In}
use Rattle.schema.specs.Definition.{Catalog}
use Rattle.schema.specs.declared.tables.Tables.{Tables}
use Rattle.statement.specs.declared.statement.Statement.{Statement}
use Rattle.statement.specs.declared.reply.Reply.{Reply}
use Rattle.statement.specs.Evaluation.{outcome, after}
use Rattle.history.specs.Transactions.{Txn, is_done}
use Rattle.history.specs.Answer.{is_refused}
use Rattle.history.specs.Serial.{Alone, InTurn, InTime, precedes}
use Rattle.history.proofs.Alone.{In-filter, filter-In}
use Rattle.serial.proofs.safe.Prefix.{all_by, by_all}
use Rattle.audit.specs.Course.{Track, course_of}
use Rattle.audit.specs.Same.{same_answer}
use Rattle.audit.specs.Replay.{answers_again, end_of, latest_with, goes_next, without, replays}
use Rattle.audit.proofs.SameLemmas.{same_answer-true, answers-itself}

at_least : (a b : ℕ) → not (nat_lt a b) ≡ true → b ≤ a
at_least a b e = let f = not-true (nat_lt a b) e in grind (arith, nat_tests)

not_below : (a b : ℕ) → b ≤ a → not (nat_lt a b) ≡ true
not_below a b h = grind (arith, nat_tests)

apart : (k m : ℕ) → (eqb k m ≡ true → ⊥) → eqb k m ≡ false
apart k m h = go (eqb k m) refl
  where
    go : (b : Bool) → eqb k m ≡ b → b ≡ false
    go true e = absurd (h e)
    go false e = refl

later_end : (late l k : ℕ) → late ≤ l → l ≤ k → late ≤ k
later_end late l k a b = omega arith

module _ {A : Type 0} where
  -- no reply of these is a refusal
  abbrev pub Answered : List (Statement A × Reply A) → Type 0
  Answered qs = list_all (λ q. not (is_refused q.1)) qs ≡ true

  -- how many have a number
  abbrev count_of : ℕ → Txn A → ℕ
  count_of k t = cond (eqb t.number k) 1 0

  count-none : (k : ℕ) (ts : List (Txn A)) → ((t : Txn A) → In t ts → eqb t.number k ≡ false) → sum_by (count_of k) ts ≡ 0
  count-none k [] h = refl
  count-none k (t ∷ ts) h =
      let e : count_of k t ≡ 0 = ap (λ b. cond b 1 0) (h t (inl refl)) in
      let r : sum_by (count_of k) ts ≡ 0 = count-none k ts (λ y i. h y (inr i)) in
      omega (arith, sum_by-cons (count_of k) t ts)

  count-some : (k : ℕ) (t : Txn A) (ts : List (Txn A)) → In t ts → t.number ≡ k → 1 ≤ sum_by (count_of k) ts
  count-some k t [] i e = absurd i
  count-some k t (u ∷ us) (inl q) e = let one : count_of k u ≡ 1 = ap (λ b. cond b 1 0) (eq-eqb u.number k (ap (λ (y : Txn A). y.number) (sym q) ∙ e)) in omega (arith, sum_by-cons (count_of k) u us)
  count-some k t (u ∷ us) (inr i) e = let r = count-some k t us i e in omega (arith, sum_by-cons (count_of k) u us)

module _ {A : Type 0} (c : Catalog) (n p : ℕ) where
  -- What is known of a committed transaction.
  pub record Fine (t : Txn A) : Type 0 where
    pub number : n < t.number
    pub begin : p < t.begin
    pub done : is_done t.standing ≡ true
    pub answered : Answered t.statements

  -- ---- statements done again

  alone-true : (qs : List (Statement A × Reply A)) (X : Tables A) → answers_again c qs X ≡ true → Alone c qs X (end_of c qs X)
  alone-true [] X e = refl
  alone-true (q ∷ qs) X e =
      let s = and_parts (same_answer (outcome c q.0 X).reply q.1) (answers_again c qs (after c q.0 X)) e in
      (same_answer-true (outcome c q.0 X).reply q.1 s.0, alone-true qs (after c q.0 X) s.1)

  alone-again : (qs : List (Statement A × Reply A)) (X Y : Tables A) → Answered qs → Alone c qs X Y → (answers_again c qs X ≡ true) × (Y ≡ end_of c qs X)
  alone-again [] X Y h a = (refl, a)
  alone-again (q ∷ qs) X Y h a =
      let s = and_parts (not (is_refused q.1)) (list_all (λ r. not (is_refused r.1)) qs) h in
      let unrefused : is_refused (outcome c q.0 X).reply ≡ false = ap is_refused a.0 ∙ not-true (is_refused q.1) s.0 in
      let rest = alone-again qs (after c q.0 X) Y s.1 a.1 in
      let same : same_answer (outcome c q.0 X).reply q.1 ≡ true = sym (ap (same_answer (outcome c q.0 X).reply) a.0) ∙ answers-itself c q.0 X unrefused in
      (ap (λ b. b && answers_again c qs (after c q.0 X)) same ∙ rest.0, rest.1)

  -- ---- transactions by their numbers

  -- those without the number, counted from the base
  abbrev others : ℕ → List (Txn A) → List (Txn A)
  others m ts = filter (λ t. not (eqb (t.number - n) m)) ts

  find-course : (m : ℕ) (ts : List (Txn A)) → find (λ y. eqb y.number m) (map (course_of n p) ts) ≡ option_map (course_of n p) (find (λ t. eqb (t.number - n) m) ts)
  find-course m [] = refl
  find-course m (t ∷ ts) = go (eqb (t.number - n) m) (find-course m ts)
    where
      go : (b : Bool) → find (λ y. eqb y.number m) (map (course_of n p) ts) ≡ option_map (course_of n p) (find (λ u. eqb (u.number - n) m) ts)
          → cond b (Some (course_of n p t)) (find (λ y. eqb y.number m) (map (course_of n p) ts)) ≡ option_map (course_of n p) (cond b (Some t) (find (λ u. eqb (u.number - n) m) ts))
      go true e = refl
      go false e = e

  others-course : (m : ℕ) (ts : List (Txn A)) → without m (map (course_of n p) ts) ≡ map (course_of n p) (others m ts)
  others-course m [] = refl
  others-course m (t ∷ ts) = go (eqb (t.number - n) m) (others-course m ts)
    where
      go : (b : Bool) → without m (map (course_of n p) ts) ≡ map (course_of n p) (others m ts)
          → cond (not b) (course_of n p t ∷ without m (map (course_of n p) ts)) (without m (map (course_of n p) ts)) ≡ map (course_of n p) (cond (not b) (t ∷ others m ts) (others m ts))
      go true e = e
      go false e = ap (λ cs. course_of n p t ∷ cs) e

  Rising-filter : (q : Txn A → Bool) (ts : List (Txn A)) → Rising (λ (t : Txn A). t.number) ts → Rising (λ (t : Txn A). t.number) (filter q ts)
  Rising-filter q [] r = tt
  Rising-filter q (t ∷ ts) r = go (q t) (Rising-filter q ts r.1)
    where
      go : (b : Bool) → Rising (λ (u : Txn A). u.number) (filter q ts) → Rising (λ (u : Txn A). u.number) (cond b (t ∷ filter q ts) (filter q ts))
      go true h = (λ y i. r.0 y (In-filter q ts y i).0, h)
      go false h = h

  others-none : (m : ℕ) (ts : List (Txn A)) → ((y : Txn A) → In y ts → eqb (y.number - n) m ≡ false) → others m ts ≡ ts
  others-none m [] h = refl
  others-none m (t ∷ ts) h = ap (λ b. cond (not b) (t ∷ others m ts) (others m ts)) (h t (inl refl)) ∙ ap (λ us. t ∷ us) (others-none m ts (λ y i. h y (inr i)))

  later_apart : (x y : Txn A) (m : ℕ) → n < x.number → x.number < y.number → x.number - n ≡ m → eqb (y.number - n) m ≡ false
  later_apart x y m a b e = apart (y.number - n) m (λ f. absurd (omega (arith, eqb-true (y.number - n) m f)))

  earlier_apart : (x y : Txn A) → n < x.number → x.number < y.number → eqb (x.number - n) (y.number - n) ≡ false
  earlier_apart x y a b = apart (x.number - n) (y.number - n) (λ f. absurd (omega (arith, eqb-true (x.number - n) (y.number - n) f)))

  take_out : (m : ℕ) (ts : List (Txn A)) (x : Txn A) → ((t : Txn A) → In t ts → Fine t) → Rising (λ (t : Txn A). t.number) ts → find (λ t. eqb (t.number - n) m) ts ≡ Some x → IsPermutation ts (x ∷ others m ts)
  take_out m [] x h r e = cc
  take_out m (u ∷ us) x h r e = go (eqb (u.number - n) m) refl (take_out m us x (λ t i. h t (inr i)) r.1) e
    where
      go : (b : Bool) → eqb (u.number - n) m ≡ b → (find (λ t. eqb (t.number - n) m) us ≡ Some x → IsPermutation us (x ∷ others m us)) → cond b (Some u) (find (λ t. eqb (t.number - n) m) us) ≡ Some x → IsPermutation (u ∷ us) (x ∷ cond (not b) (u ∷ others m us) (others m us))
      go true q rest f =
          let same : u ≡ x = cc in
          let none : others m us ≡ us = others-none m us (λ y i. later_apart u y m (h u (inl refl)).number (r.0 y i) (eqb-true (u.number - n) m q)) in
          subst (λ ys. IsPermutation (u ∷ us) ys) (ap (λ z. z ∷ us) same ∙ ap (λ zs. x ∷ zs) (sym none)) (IsPermutation-refl (u ∷ us))
      go false q rest f =
          IsPermutation-trans (u ∷ us) (u ∷ x ∷ others m us) (x ∷ u ∷ others m us)
          (IsPermutation-cons u us (x ∷ others m us) (rest f))
          (IsPermutation-middle (u ∷ []) x (others m us))

  find-in : (ts : List (Txn A)) (x : Txn A) → ((t : Txn A) → In t ts → Fine t) → Rising (λ (t : Txn A). t.number) ts → In x ts → find (λ t. eqb (t.number - n) (x.number - n)) ts ≡ Some x
  find-in [] x h r i = absurd i
  find-in (u ∷ us) x h r (inl q) = ap (λ b. cond b (Some u) (find (λ t. eqb (t.number - n) (x.number - n)) us)) (eq-eqb (u.number - n) (x.number - n) (ap (λ (y : Txn A). y.number - n) (sym q))) ∙ ap Some (sym q)
  find-in (u ∷ us) x h r (inr i) = ap (λ b. cond b (Some u) (find (λ t. eqb (t.number - n) (x.number - n)) us)) (earlier_apart u x (h u (inl refl)).number (r.0 x i)) ∙ find-in us x (λ t j. h t (inr j)) r.1 i

  -- ---- the latest BEGIN

  latest-kept : (late : ℕ) (y : Track A) → late ≤ latest_with late y
  latest-kept late y = go y.imported
    where
      go : (b : Bool) → late ≤ cond b late (max late y.begin)
      go true = omega arith
      go false = omega arith

  latest-new : (late : ℕ) (y : Track A) → y.imported ≡ false → y.begin ≤ latest_with late y
  latest-new late y e = subst (λ b. y.begin ≤ cond b late (max late y.begin)) (sym e) (omega arith)

  latest-least : (late k : ℕ) (y : Track A) → late ≤ k → (y.imported ≡ false → y.begin ≤ k) → latest_with late y ≤ k
  latest-least late k y h f = go y.imported refl
    where
      go : (b : Bool) → y.imported ≡ b → cond b late (max late y.begin) ≤ k
      go true e = h
      go false e = let g = f e in omega arith

  end_is : (t : Txn A) → Fine t → (course_of n p t).end ≡ t.end - p
  end_is t h = ap (λ b. cond b (t.end - p) 0) h.done

  in_time : (x t : Txn A) (late : ℕ) → Fine x → latest_with late (course_of n p x) ≤ t.end - p → precedes t x ≡ true → ⊥
  in_time x t late h l e =
      let s = and_parts (nat_lt t.end x.begin) (not x.imported) e in
      let begun : x.begin - p ≤ latest_with late (course_of n p x) = latest-new late (course_of n p x) (not-true x.imported s.1) in
      let before : t.end < x.begin = ltb-true t.end x.begin s.0 in
      let after_base : p < x.begin = h.begin in
      absurd (omega arith)

  begun_before : (x t : Txn A) → Fine x → (precedes t x ≡ true → ⊥) → x.imported ≡ false → x.begin - p ≤ t.end - p
  begun_before x t h f e = go (nat_lt t.end x.begin) refl
    where
      go : (b : Bool) → nat_lt t.end x.begin ≡ b → x.begin - p ≤ t.end - p
      go true q = absurd (f (ap (λ b. b && not x.imported) q ∙ ap not e))
      go false q = let l : x.begin ≤ t.end = at_least t.end x.begin (ap not q) in omega arith

  -- ---- an order that goes through

  -- A serial order of those left, by their numbers, none of which had ended before the latest BEGIN.
  pub record Found (from : ℕ) (left : List (Txn A)) (ns : List ℕ) (X : Tables A) : Type 0 where
    pub order : List (Txn A)
    pub numbers : map (λ (t : Txn A). t.number) order ≡ ns
    pub each : IsPermutation left order
    pub turn : InTurn c order X
    pub time : InTime order
    pub late : (t : Txn A) → In t order → from ≤ t.end - p

  pub goes-through : (ns : List ℕ) (late : ℕ) (left : List (Txn A)) (X : Tables A) → ((t : Txn A) → In t left → Fine t) → Rising (λ (t : Txn A). t.number) left
      → replays c n late (map (course_of n p) left) ns X ≡ true → Found late left ns X
  goes-through [] late [] X h r e = record { order = []; numbers = refl; each = IsPermutation-refl []; turn = tt; time = tt; late = λ t i. absurd i }
  goes-through [] late (x ∷ left) X h r e = absurd (true≢false (sym e))
  goes-through (m ∷ ns) late left X h r e = go (find (λ t. eqb (t.number - n) (m - n)) left) refl
      (sym (ap (λ o. goes_next c late X o (λ l Y. replays c n l (map (course_of n p) (others (m - n) left)) ns Y)) (find-course (m - n) left)) ∙ ap (λ us. goes_next c late X (find (λ y. eqb y.number (m - n)) (map (course_of n p) left)) (λ l Y. replays c n l us ns Y)) (sym (others-course (m - n) left)) ∙ e)
      (λ l Y g k. goes-through ns l (others (m - n) left) Y g (Rising-filter (λ t. not (eqb (t.number - n) (m - n))) left r) k)
    where
      go : (o : Option (Txn A)) → find (λ t. eqb (t.number - n) (m - n)) left ≡ o
          → goes_next c late X (option_map (course_of n p) o) (λ l Y. replays c n l (map (course_of n p) (others (m - n) left)) ns Y) ≡ true
          → ((l : ℕ) (Y : Tables A) → ((t : Txn A) → In t (others (m - n) left) → Fine t) → replays c n l (map (course_of n p) (others (m - n) left)) ns Y ≡ true → Found l (others (m - n) left) ns Y)
          → Found late left (m ∷ ns) X
      go None q f rest = absurd (true≢false (sym f))
      go (Some x) q f rest =
          let it = find-In (λ t. eqb (t.number - n) (m - n)) left x q in
          let fine = h x it.0 in
          let s = and_parts (not (nat_lt (course_of n p x).end late) && answers_again c x.statements X) (replays c n (latest_with late (course_of n p x)) (map (course_of n p) (others (m - n) left)) ns (end_of c x.statements X)) f in
          let u = and_parts (not (nat_lt (course_of n p x).end late)) (answers_again c x.statements X) s.0 in
          let ended : late ≤ x.end - p = subst (λ k. late ≤ k) (end_is x fine) (at_least (course_of n p x).end late u.0) in
          let more = rest (latest_with late (course_of n p x)) (end_of c x.statements X) (λ t i. h t (In-filter (λ v. not (eqb (v.number - n) (m - n))) left t i).0) s.1 in
          let above : n < x.number = fine.number in
          let number : x.number ≡ m = omega (arith, eqb-true (x.number - n) (m - n) it.1) in
          record {
            order = x ∷ more.order;
            numbers = ap (λ k. k ∷ map (λ (t : Txn A). t.number) more.order) number ∙ ap (λ ks. m ∷ ks) more.numbers;
            each = IsPermutation-trans left (x ∷ others (m - n) left) (x ∷ more.order) (take_out (m - n) left x h r q) (IsPermutation-cons x (others (m - n) left) more.order more.each);
            turn = (end_of c x.statements X, alone-true x.statements X u.1, more.turn);
            time = (all_by (λ (t : Txn A). precedes t x ≡ true → ⊥) more.order (λ t i. in_time x t late fine (more.late t i)), more.time);
            late = λ t i. elim i [ inl j ↦ subst (λ (y : Txn A). late ≤ y.end - p) (sym j) ended | inr j ↦ later_end late (latest_with late (course_of n p x)) (t.end - p) (latest-kept late (course_of n p x)) (more.late t j) ];
          }

  -- ---- a serial order goes through

  is_other : (x t : Txn A) (left : List (Txn A)) → n < x.number → ((u : Txn A) → In u left → n < u.number) → In t left → (t.number ≡ x.number → ⊥) → In t (others (x.number - n) left)
  is_other x t left a h i apart_from =
      let above = h t i in
      filter-In (λ u. not (eqb (u.number - n) (x.number - n))) left t i (ap not (apart (t.number - n) (x.number - n) (λ f. apart_from (omega (arith, eqb-true (t.number - n) (x.number - n) f)))))

  none_other : (x : Txn A) (left : List (Txn A)) (u : Txn A) → In u (others (x.number - n) left) → eqb u.number x.number ≡ false
  none_other x left u i = apart u.number x.number (λ f. absurd (true≢false (sym (eq-eqb (u.number - n) (x.number - n) (ap (λ k. k - n) (eqb-true u.number x.number f))) ∙ not-true (eqb (u.number - n) (x.number - n)) (In-filter (λ v. not (eqb (v.number - n) (x.number - n))) left u i).1)))

  pub goes-again : (order : List (Txn A)) (late : ℕ) (left : List (Txn A)) (X : Tables A) → ((t : Txn A) → In t left → Fine t) → Rising (λ (t : Txn A). t.number) left → ((t : Txn A) → In t order → In t left)
      → ((f : Txn A → ℕ) → sum_by f order ≡ sum_by f left) → InTurn c order X → InTime order → ((t : Txn A) → In t order → late ≤ t.end - p)
      → replays c n late (map (course_of n p) left) (map (λ (t : Txn A). t.number) order) X ≡ true
  goes-again [] late [] X h r sub same turn time after_all = refl
  goes-again [] late (y ∷ left) X h r sub same turn time after_all = let e = same (λ u. 1) in absurd (omega (arith, sum_by-cons (λ (u : Txn A). 1) y left))
  goes-again (x ∷ order) late left X h r sub same turn time after_all =
      let i = sub x (inl refl) in
      let fine = h x i in
      let q = find-in left x h r i in
      let m : ℕ = x.number - n in
      let rest : List (Txn A) = others m left in
      let perm = take_out m left x h r q in
      let counts : (f : Txn A → ℕ) → sum_by f order ≡ sum_by f rest = λ f. let e1 = sum_by-IsPermutation f left (x ∷ rest) perm in let e2 = same f in omega (arith, sum_by-cons f x rest, sum_by-cons f x order) in
      let apart_from : (t : Txn A) → In t order → (t.number ≡ x.number → ⊥) = λ t j e. let e1 = count-some x.number t order j e in let e2 = count-none x.number rest (none_other x left) in let e3 = counts (count_of x.number) in absurd (omega arith) in
      let again = alone-again x.statements X turn.0 fine.answered turn.1 in
      let late_x : late ≤ (course_of n p x).end = subst (λ k. late ≤ k) (sym (end_is x fine)) (after_all x (inl refl)) in
      let latest : ℕ = latest_with late (course_of n p x) in
      let more = goes-again order latest rest (end_of c x.statements X) (λ t j. h t (In-filter (λ v. not (eqb (v.number - n) m)) left t j).0) (Rising-filter (λ t. not (eqb (t.number - n) m)) left r)
      (λ t j. is_other x t left fine.number (λ u k. (h u k).number) (sub t (inr j)) (apart_from t j)) counts
      (subst (InTurn c order) again.1 turn.2) time.1
      (λ t j. latest-least late (t.end - p) (course_of n p x) (after_all t (inr j)) (λ e. begun_before x t fine (by_all (λ (u : Txn A). precedes u x ≡ true → ⊥) order t time.0 j) e)) in
      let ns : List ℕ = map (λ (t : Txn A). t.number) order in
      ap (λ o. goes_next c late X o (λ l Y. replays c n l (without m (map (course_of n p) left)) ns Y)) (find-course m left ∙ ap (option_map (course_of n p)) q)
      ∙ ap (λ us. goes_next c late X (Some (course_of n p x)) (λ l Y. replays c n l us ns Y)) (others-course m left)
      ∙ and_from_three (not (nat_lt (course_of n p x).end late)) (answers_again c x.statements X) (replays c n latest (map (course_of n p) rest) ns (end_of c x.statements X)) (not_below (course_of n p x).end late late_x) again.0 more
