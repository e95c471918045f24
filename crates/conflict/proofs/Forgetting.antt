-- Transactions that go one by one from the last, none of which another is needed for.
use Rattle.std.proofs.Common.{◌≡◌, refl, sym, ap, subst, ◌∙◌, ℕ, zero, suc, ◌+◌, ◌<◌, ◌≤◌, Bool, true, false, cond, not, ◌&&◌, ◌||◌, List, [], ◌∷◌, ◌++◌, Option, Some, None, length, take, drop, get_or, eqb, nat_lt, arith, append-nil, drop-cons, take-append-drop, drop_of_length-le}
use Rattle.std.proofs.lemmas.Bool.{and_parts, false_from_ne_true}
use Rattle.std.proofs.lemmas.List.{take_all}
use Rattle.std.proofs.lemmas.List.Folds.{list_any-append}
use Rattle.std.specs.List.{filter, list_any, remove}
use Rattle.value.proofs.IsolationLemmas.{In}
use Rattle.value.specs.Isolation.{is_other}
use Rattle.value.proofs.Basics.{eqb-self, lt-eqb, gt-eqb, take_next}
use Rattle.conflict.specs.Tracked.{Each, IsSorted, Party, Rising, edge, is_among, is_needed, is_recent, node, reads}
use Rattle.conflict.specs.Undo.{AreSound}
use Rattle.conflict.specs.Walks.{KnowsReaders, found, is_holding, is_unseen}
use Rattle.conflict.proofs.Found.{found_is, passes_one}
use Rattle.value.proofs.Lists.{clash}
use Rattle.conflict.proofs.EachOf.{Each-In, Each-all}
use Rattle.conflict.proofs.Places.{get-In}
use Rattle.conflict.proofs.Proper.{edges_filter, rising_filter}
use Rattle.conflict.proofs.Thinned.{needed_recent}

-- the list once those from the i-th on were looked at
abbrev pub looked_at : (Party → Bool) → ℕ → List Party → List Party
looked_at k i ps = take i ps ++ filter k (drop i ps)

any-kept : (f k : Party → Bool) (ps : List Party) → ((p : Party) → k p ≡ false → f p ≡ false) → list_any f (filter k ps) ≡ list_any f ps
any-kept f k [] h = refl
any-kept f k (p ∷ ps) h = go (k p) refl (any-kept f k ps h)
  where
    go : (b : Bool) → k p ≡ b → list_any f (filter k ps) ≡ list_any f ps → list_any f (cond b (p ∷ filter k ps) (filter k ps)) ≡ (f p || list_any f ps)
    go true e rest = ap (λ c. f p || c) rest
    go false e rest = rest ∙ sym (ap (λ c. c || list_any f ps) (h p e))

-- those that are gone make no other needed
pub needed_same : (o : ℕ) (ps : List Party) (i : ℕ) (p : Party) → is_needed o (looked_at (is_needed o ps) i ps) p ≡ is_needed o ps p
needed_same o ps i p = ap (λ b. is_recent o p || b) (
    list_any-append f (take i ps) (filter (is_needed o ps) (drop i ps))
    ∙ ap (λ b. list_any f (take i ps) || b) (any-kept f (is_needed o ps) (drop i ps) idle)
    ∙ sym (ap (list_any f) (sym (take-append-drop i ps)) ∙ list_any-append f (take i ps) (drop i ps)))
  where
    f : Party → Bool
    f q = is_recent o q && edge q p

    idle : (q : Party) → is_needed o ps q ≡ false → (is_recent o q && edge q p) ≡ false
    idle q e = false_from_ne_true (is_recent o q && edge q p) (λ d. clash (is_needed o ps q) (needed_recent o ps q (and_parts (is_recent o q) (edge q p) d).0) e)

-- ---- the next before those that were looked at

at_front : {X : Type 0} (xs ys : List X) (i : ℕ) (d : X) → i < length xs → get_or (take (suc i) xs ++ ys) i d ≡ get_or xs i d
at_front [] ys i d lt = absurd (omega arith)
at_front (x ∷ xs) ys zero d lt = refl
at_front (x ∷ xs) ys (suc i) d lt = at_front xs ys i d (omega arith)

pub next_one : (k : Party → Bool) (ps now : List Party) (i : ℕ) (p : Party) → i < length ps → now ≡ looked_at k (suc i) ps → p ≡ get_or now i p → p ≡ get_or ps i p
next_one k ps now i p lt is e = e ∙ ap (λ xs. get_or xs i p) is ∙ at_front ps (filter k (drop (suc i) ps)) i p lt

pub one_there : (k : Party → Bool) (ps now : List Party) (i : ℕ) → i < length ps → now ≡ looked_at k (suc i) ps → i < length now
one_there k ps now i lt is = let l = there ps (filter k (drop (suc i) ps)) i lt in let e = ap length is in omega (arith, l, e)
  where
    there : (xs ys : List Party) (j : ℕ) → j < length xs → j < length (take (suc j) xs ++ ys)
    there [] ys j l = absurd (omega arith)
    there (x ∷ xs) ys zero l = omega arith
    there (x ∷ xs) ys (suc j) l = let r = there xs ys j (omega arith) in omega (arith, r)

assoc : {X : Type 0} (xs : List X) (y : X) (zs : List X) → (xs ++ y ∷ []) ++ zs ≡ xs ++ y ∷ zs
assoc [] y zs = refl
assoc (x ∷ xs) y zs = ap (λ ws. x ∷ ws) (assoc xs y zs)

split_front : (k : Party → Bool) (ps : List Party) (i : ℕ) (p : Party) → i < length ps → p ≡ get_or ps i p → looked_at k (suc i) ps ≡ take i ps ++ p ∷ filter k (drop (suc i) ps)
split_front k ps i p lt e = ap (λ n. take n ps ++ filter k (drop (suc i) ps)) one ∙ ap (λ xs. xs ++ filter k (drop (suc i) ps)) (take_next ps i p lt e) ∙ assoc (take i ps) p (filter k (drop (suc i) ps))
  where
    one : suc i ≡ i + 1
    one = omega arith

-- it stays
pub stays_next : (k : Party → Bool) (ps now : List Party) (i : ℕ) (p : Party) → i < length ps → now ≡ looked_at k (suc i) ps → p ≡ get_or ps i p → k p ≡ true → now ≡ looked_at k i ps
stays_next k ps now i p lt is e passes =
    is ∙ split_front k ps i p lt e
    ∙ ap (λ xs. take i ps ++ xs) (sym (ap (filter k) (drop-cons ps i p lt ∙ ap (λ x. x ∷ drop (suc i) ps) (sym e)) ∙ ap (λ b. cond b (p ∷ filter k (drop (suc i) ps)) (filter k (drop (suc i) ps))) passes))

without_at : {X : Type 0} (xs : List X) (i : ℕ) (y : X) (ys : List X) → i < length xs → remove (take i xs ++ y ∷ ys) i ≡ take i xs ++ ys
without_at [] i y ys lt = absurd (omega arith)
without_at (x ∷ xs) zero y ys lt = refl
without_at (x ∷ xs) (suc i) y ys lt = ap (λ ws. x ∷ ws) (without_at xs i y ys (omega arith))

-- it goes
pub goes_next : (k : Party → Bool) (ps now new : List Party) (i : ℕ) (p : Party) → i < length ps → now ≡ looked_at k (suc i) ps → p ≡ get_or ps i p → k p ≡ false → new ≡ remove now i → new ≡ looked_at k i ps
goes_next k ps now new i p lt is e fails gone =
    gone ∙ ap (λ xs. remove xs i) (is ∙ split_front k ps i p lt e) ∙ without_at ps i p (filter k (drop (suc i) ps)) lt
    ∙ ap (λ xs. take i ps ++ xs) (sym (ap (filter k) (drop-cons ps i p lt ∙ ap (λ x. x ∷ drop (suc i) ps) (sym e)) ∙ ap (λ b. cond b (p ∷ filter k (drop (suc i) ps)) (filter k (drop (suc i) ps))) fails))

pub none_looked_at : (k : Party → Bool) (ps : List Party) (n : ℕ) → length ps ≤ n → ps ≡ looked_at k n ps
none_looked_at k ps n past = sym (ap (λ xs. xs ++ filter k (drop n ps)) (take_all n ps past) ∙ ap (λ xs. ps ++ filter k xs) (drop_of_length-le ps past) ∙ append-nil ps)

pub all_looked_at : (k : Party → Bool) (ps now : List Party) (i : ℕ) → i ≡ 0 → now ≡ looked_at k i ps → now ≡ filter k ps
all_looked_at k ps now i e is = is ∙ ap (λ n. looked_at k n ps) e

-- ---- what is left is sound

sound_filter : (k : Party → Bool) (ps : List Party) → AreSound ps → AreSound (filter k ps)
sound_filter k ps s = (rising_filter k ps s.0, edges_filter k ps s.1)

all_stay : (n : ℕ) (ps : List Party) → Each (λ (q : Party). n < q.number) ps → filter (λ (q : Party). not (eqb q.number n)) ps ≡ ps
all_stay n [] h = refl
all_stay n (p ∷ ps) h = ap (λ b. cond (not b) (p ∷ filter (λ (q : Party). not (eqb q.number n)) ps) (filter (λ (q : Party). not (eqb q.number n)) ps)) (gt-eqb n p.number h.0) ∙ ap (λ qs. p ∷ qs) (all_stay n ps h.1)

removed_number : (ps : List Party) (i : ℕ) (p : Party) → Rising ps → i < length ps → p ≡ get_or ps i p → remove ps i ≡ filter (λ (q : Party). not (eqb q.number p.number)) ps
removed_number [] i p r lt e = absurd (omega arith)
removed_number (x ∷ ps) zero p r lt e =
    sym (ap (λ (y : Party). filter (λ (q : Party). not (eqb q.number y.number)) (x ∷ ps)) e
    ∙ ap (λ b. cond (not b) (x ∷ filter (λ (q : Party). not (eqb q.number x.number)) ps) (filter (λ (q : Party). not (eqb q.number x.number)) ps)) (eqb-self x.number) ∙ all_stay x.number ps r.0)
removed_number (x ∷ ps) (suc i) p r lt e =
    ap (λ qs. x ∷ qs) (removed_number ps i p r.1 (omega arith) e)
    ∙ sym (ap (λ b. cond (not b) (x ∷ filter (λ (q : Party). not (eqb q.number p.number)) ps) (filter (λ (q : Party). not (eqb q.number p.number)) ps))
    (lt-eqb x.number p.number (subst (λ (y : Party). x.number < y.number) (sym e) (Each-In (λ (q : Party). x.number < q.number) ps (get_or ps i p) r.0 (get-In ps i p (omega arith))))))

pub sound_removed : (ps new : List Party) (i : ℕ) (p : Party) → AreSound ps → i < length ps → p ≡ get_or ps i p → new ≡ remove ps i → AreSound new
sound_removed ps new i p s lt e gone = subst AreSound (sym (gone ∙ removed_number ps i p s.0 lt e)) (sound_filter (λ (q : Party). not (eqb q.number p.number)) ps s)

pub knows_readers : (ps : List Party) (i : ℕ) (p : Party) → AreSound ps → i < length ps → p ≡ get_or ps i p → KnowsReaders ps p
knows_readers ps i p s lt e = ((Each-In IsSorted ps p s.1.sorted here).1, Each-all _ ps (λ q j. Each-In (λ (x : Party). is_among x.number q.outs ≡ is_among q.number x.ins) ps p (Each-In (λ (y : Party). Each (λ (x : Party). is_among x.number y.outs ≡ is_among y.number x.ins) ps) ps q s.1.both j) here))
  where
    here : In p ps
    here = subst (λ (x : Party). In x ps) (sym e) (get-In ps i p lt)

-- ---- which transactions hold one

any_both : (f k : Party → Bool) (ps : List Party) → list_any f (filter k ps) ≡ list_any (λ q. k q && f q) ps
any_both f k [] = refl
any_both f k (p ∷ ps) = go (k p) (any_both f k ps)
  where
    go : (b : Bool) → list_any f (filter k ps) ≡ list_any (λ q. k q && f q) ps → list_any f (cond b (p ∷ filter k ps) (filter k ps)) ≡ (b && f p || list_any (λ q. k q && f q) ps)
    go true rest = ap (λ b. f p || b) rest
    go false rest = rest

any_alike : (f g : Party → Bool) (ps : List Party) → Each (λ q. f q ≡ g q) ps → list_any f ps ≡ list_any g ps
any_alike f g [] h = refl
any_alike f g (p ∷ ps) h = ap (λ b. b || list_any f ps) h.0 ∙ ap (λ b. g p || b) (any_alike f g ps h.1)

parts : (m r o s : Bool) → (m && (r && (o && s))) ≡ (r && (o && s && m))
parts true true true true = refl
parts true true true false = refl
parts true true false s = refl
parts true false o s = refl
parts false true true true = refl
parts false true true false = refl
parts false true false s = refl
parts false false o s = refl

pub held_is : (o : ℕ) (p : Party) (ps : List Party) → Rising ps → KnowsReaders ps p → list_any (λ q. is_recent o q && is_unseen q p) (found p.ins ps) ≡ list_any (λ q. is_recent o q && edge q p) ps
held_is o p ps r k =
    ap (list_any (λ q. is_recent o q && is_unseen q p)) (found_is p.ins ps k.0 r)
    ∙ any_both (λ q. is_recent o q && is_unseen q p) (λ q. is_among q.number p.ins) ps
    ∙ any_alike (λ q. is_among q.number p.ins && (is_recent o q && is_unseen q p)) (λ q. is_recent o q && edge q p) ps
    (Each-all _ ps (λ q i. parts (is_among q.number p.ins) (is_recent o q) (is_other node reads q p) (nat_lt q.snapshot p.commit)
    ∙ ap (λ x. is_recent o q && (is_other node reads q p && nat_lt q.snapshot p.commit && x)) (sym (Each-In (λ (x : Party). reads x p ≡ is_among x.number p.ins) ps q k.1 i))))

pub holding_is : (o : ℕ) (p : Party) (x : Option Party) → is_holding o p x ≡ passes_one (λ q. is_recent o q && is_unseen q p) x
holding_is o p None = refl
holding_is o p (Some q) = refl
