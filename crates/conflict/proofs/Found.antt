-- What is found from the numbers that a transaction knows is what stands among all.
use Rattle.std.proofs.Common.{◌≡◌, refl, sym, ap, ◌∙◌, ℕ, suc, ◌+◌, ◌<◌, ◌≤◌, Bool, true, false, true≢false, cond, ◌||◌, List, [], ◌∷◌, ◌++◌, length, take, drop, get_or, fold, Option, Some, None, is_some, eqb, arith, append-nil, drop-cons, take-append-drop}
use Rattle.std.proofs.lemmas.Bool.{eqb-true}
use Rattle.std.proofs.lemmas.List.{take_more}
use Rattle.std.proofs.lemmas.List.Elements.{filter-append}
use Rattle.std.proofs.lemmas.List.Folds.{find-append}
use Rattle.std.proofs.lemmas.List.Sums.{fold-append}
use Rattle.std.specs.List.{filter, find, list_any}
use Rattle.std.specs.Option.{option_map, option_or, option_to_list}
use Rattle.value.specs.declared.refusal.Cause.{Cause}
use Rattle.value.specs.Isolation.{Node, earliest, first_some}
use Rattle.value.proofs.Basics.{lt-eqb, first_some-passes, eqb_comm}
use Rattle.conflict.specs.Earliest.{first_of}
use Rattle.conflict.specs.Tracked.{Ascending, Each, Party, Rising, is_among}
use Rattle.conflict.specs.Walks.{first_with, folded, found, given, passing}
use Rattle.conflict.proofs.CauseLemmas.{earliest-push}
use Rattle.value.proofs.Lists.{filter_alike}
use Rattle.conflict.proofs.EachOf.{Each-In}

abbrev pub one_of : ℕ → List Party → Option Party
one_of n ps = find (λ (p : Party). eqb p.number n) ps

-- ---- those of ascending numbers, in the order of all

none_above : (n m : ℕ) (ps : List Party) → n ≤ m → Each (λ (q : Party). m < q.number) ps → one_of n ps ≡ None
none_above n m [] le all = refl
none_above n m (p ∷ ps) le all =
    ap (λ b. cond b (Some p) (one_of n ps)) (eqb_comm p.number n ∙ lt-eqb n p.number (let a = all.0 in omega (arith, a, le)))
    ∙ none_above n m ps le all.1

-- with one more number, below those before
one_more : (n : ℕ) (f : Party → Bool) → ((p : Party) → f p ≡ true → n < p.number) → (ps : List Party) → Rising ps → option_to_list (one_of n ps) ++ filter f ps ≡ filter (λ p. eqb n p.number || f p) ps
one_more n f above [] r = refl
one_more n f above (p ∷ ps) r = go (eqb p.number n) refl (f p) refl (one_more n f above ps r.1)
  where
    after : n ≤ p.number → filter (λ q. eqb n q.number || f q) ps ≡ filter f ps
    after le = filter_alike (λ q. eqb n q.number || f q) f ps (λ q i. ap (λ b. b || f q) (lt-eqb n q.number (let a = Each-In (λ (x : Party). p.number < x.number) ps q r.0 i in omega (arith, a, le))))

    go : (a : Bool) → eqb p.number n ≡ a → (b : Bool) → f p ≡ b → option_to_list (one_of n ps) ++ filter f ps ≡ filter (λ q. eqb n q.number || f q) ps
        → option_to_list (cond a (Some p) (one_of n ps)) ++ cond b (p ∷ filter f ps) (filter f ps) ≡ cond (eqb n p.number || f p) (p ∷ filter (λ q. eqb n q.number || f q) ps) (filter (λ q. eqb n q.number || f q) ps)
    go true e true d rest = absurd_lt (above p d) (eqb-true p.number n e)
      where
        absurd_lt : n < p.number → p.number ≡ n → p ∷ p ∷ filter f ps ≡ cond (eqb n p.number || f p) (p ∷ filter (λ q. eqb n q.number || f q) ps) (filter (λ q. eqb n q.number || f q) ps)
        absurd_lt l s = absurd (omega (arith, l, s))
    go true e false d rest =
        let s = eqb-true p.number n e in
        ap (λ qs. p ∷ qs) (sym (after (omega (arith, s))))
        ∙ sym (ap (λ b. cond (b || f p) (p ∷ filter (λ q. eqb n q.number || f q) ps) (filter (λ q. eqb n q.number || f q) ps)) (eqb_comm n p.number ∙ e))
    go false e true d rest =
        let l = above p d in
        ap (λ o. option_to_list o ++ p ∷ filter f ps) (none_above n p.number ps (omega (arith, l)) r.0)
        ∙ ap (λ qs. p ∷ qs) (sym (after (omega (arith, l))))
        ∙ sym (ap (λ b. cond (b || f p) (p ∷ filter (λ q. eqb n q.number || f q) ps) (filter (λ q. eqb n q.number || f q) ps)) (eqb_comm n p.number ∙ e)
        ∙ ap (λ b. cond b (p ∷ filter (λ q. eqb n q.number || f q) ps) (filter (λ q. eqb n q.number || f q) ps)) d)
    go false e false d rest =
        rest
        ∙ sym (ap (λ b. cond (b || f p) (p ∷ filter (λ q. eqb n q.number || f q) ps) (filter (λ q. eqb n q.number || f q) ps)) (eqb_comm n p.number ∙ e)
        ∙ ap (λ b. cond b (p ∷ filter (λ q. eqb n q.number || f q) ps) (filter (λ q. eqb n q.number || f q) ps)) d)

none_passes : (ps : List Party) → filter (λ (p : Party). is_among p.number []) ps ≡ []
none_passes [] = refl
none_passes (p ∷ ps) = none_passes ps

above_all : (n : ℕ) (ns : List ℕ) → Each (λ m. n < m) ns → (p : Party) → is_among p.number ns ≡ true → n < p.number
above_all n [] all p e = absurd (true≢false (sym e))
above_all n (m ∷ ns) all p e = go (eqb m p.number) refl e (above_all n ns all.1 p)
  where
    go : (b : Bool) → eqb m p.number ≡ b → (b || is_among p.number ns) ≡ true → (is_among p.number ns ≡ true → n < p.number) → n < p.number
    go true d h rest = let s = eqb-true m p.number d in let a = all.0 in omega (arith, s, a)
    go false d h rest = rest h

pub found_is : (ns : List ℕ) (ps : List Party) → Ascending ns → Rising ps → found ns ps ≡ filter (λ (p : Party). is_among p.number ns) ps
found_is [] ps a r = sym (none_passes ps)
found_is (n ∷ ns) ps a r =
    ap (λ qs. option_to_list (one_of n ps) ++ qs) (found_is ns ps a.1 r)
    ∙ one_more n (λ (p : Party). is_among p.number ns) (above_all n ns a.0) ps r

-- ---- one more number

append_assoc : {X : Type 0} (xs ys zs : List X) → xs ++ (ys ++ zs) ≡ (xs ++ ys) ++ zs
append_assoc [] ys zs = refl
append_assoc (x ∷ xs) ys zs = ap (λ ws. x ∷ ws) (append_assoc xs ys zs)

found-append : (ns ms : List ℕ) (ps : List Party) → found (ns ++ ms) ps ≡ found ns ps ++ found ms ps
found-append [] ms ps = refl
found-append (n ∷ ns) ms ps = ap (λ qs. option_to_list (one_of n ps) ++ qs) (found-append ns ms ps) ∙ append_assoc (option_to_list (one_of n ps)) (found ns ps) (found ms ps)

pub found_next : (ns : List ℕ) (i : ℕ) (ps : List Party) → i < length ns → found (take (i + 1) ns) ps ≡ found (take i ns) ps ++ option_to_list (one_of (get_or ns i 0) ps)
found_next ns i ps lt =
    ap (λ ms. found ms ps) (take_more ns i 0 lt)
    ∙ found-append (take i ns) (get_or ns i 0 ∷ []) ps
    ∙ ap (λ qs. found (take i ns) ps ++ qs) (append-nil (option_to_list (one_of (get_or ns i 0) ps)))

-- those so far, the next, and the rest
pub found_split : (ns : List ℕ) (i : ℕ) (ps : List Party) → i < length ns → found ns ps ≡ found (take i ns) ps ++ (option_to_list (one_of (get_or ns i 0) ps) ++ found (drop (suc i) ns) ps)
found_split ns i ps lt =
    ap (λ ms. found ms ps) (sym (take-append-drop i ns) ∙ ap (λ ms. take i ns ++ ms) (drop-cons ns i 0 lt))
    ∙ found-append (take i ns) (get_or ns i 0 ∷ drop (suc i) ns) ps

-- ---- the first to commit

module _ (node : Party → Node) (edge : Party → Party → Bool) (test : Party → Bool) where
  with_one : (xs : List Party) (o : Option Party) → first_with node test (option_map node (earliest node edge (filter test xs))) o ≡ option_map node (earliest node edge (filter test (xs ++ option_to_list o)))
  with_one xs None = sym (ap (λ ys. option_map node (earliest node edge (filter test ys))) (append-nil xs))
  with_one xs (Some q) = go (test q) ∙ sym (ap (λ ys. option_map node (earliest node edge ys)) (filter-append test xs (q ∷ [])))
    where
      go : (b : Bool) → cond b (Some (first_of (option_map node (earliest node edge (filter test xs))) (node q))) (option_map node (earliest node edge (filter test xs)))
          ≡ option_map node (earliest node edge (filter test xs ++ cond b (q ∷ []) []))
      go true = sym (earliest-push node edge (filter test xs) q)
      go false = sym (ap (λ ys. option_map node (earliest node edge ys)) (append-nil (filter test xs)))

  pub first_next : (ns : List ℕ) (i : ℕ) (ps : List Party) (last new : Option Node) → i < length ns → last ≡ option_map node (earliest node edge (filter test (found (take i ns) ps)))
      → new ≡ first_with node test last (one_of (get_or ns i 0) ps) → new ≡ option_map node (earliest node edge (filter test (found (take (i + 1) ns) ps)))
  first_next ns i ps last new lt so_far e =
      e ∙ ap (λ o. first_with node test o (one_of (get_or ns i 0) ps)) so_far
      ∙ with_one (found (take i ns) ps) (one_of (get_or ns i 0) ps)
      ∙ ap (λ qs. option_map node (earliest node edge (filter test qs))) (sym (found_next ns i ps lt))

-- ---- the first that a function gives

module _ (f : Party → Option Cause) where
  of_list : (o : Option Party) → given f o ≡ first_some f (option_to_list o)
  of_list None = refl
  of_list (Some p) = go (f p)
    where
      go : (x : Option Cause) → x ≡ cond (is_some x) x None
      go None = refl
      go (Some d) = refl

  first_front : (o : Option Party) (qs : List Party) (c : Option Cause) → c ≡ given f o → is_some c ≡ true → c ≡ first_some f (option_to_list o ++ qs)
  first_front None qs c e s = absurd (true≢false (sym s ∙ ap is_some e))
  first_front (Some p) qs c e s = e ∙ ap (λ b. cond b (f p) (first_some f qs)) (sym (ap is_some (sym e) ∙ s))

  pub some_here : (ns : List ℕ) (i : ℕ) (ps : List Party) (c : Option Cause) → i < length ns → first_some f (found (take i ns) ps) ≡ None → c ≡ given f (one_of (get_or ns i 0) ps) → is_some c ≡ true → c ≡ first_some f (found ns ps)
  some_here ns i ps c lt none e s =
      first_front (one_of (get_or ns i 0) ps) (found (drop (suc i) ns) ps) c e s
      ∙ sym (first_some-passes f (found (take i ns) ps) (option_to_list (one_of (get_or ns i 0) ps) ++ found (drop (suc i) ns) ps) none)
      ∙ ap (first_some f) (sym (found_split ns i ps lt))

  none_of : (c : Option Cause) → is_some c ≡ false → c ≡ None
  none_of None e = refl
  none_of (Some d) e = absurd (true≢false e)

  pub none_so_far : (ns : List ℕ) (i : ℕ) (ps : List Party) (c : Option Cause) → i < length ns → first_some f (found (take i ns) ps) ≡ None → c ≡ given f (one_of (get_or ns i 0) ps) → is_some c ≡ false → first_some f (found (take (i + 1) ns) ps) ≡ None
  none_so_far ns i ps c lt none e s =
      ap (first_some f) (found_next ns i ps lt)
      ∙ first_some-passes f (found (take i ns) ps) (option_to_list (one_of (get_or ns i 0) ps)) none
      ∙ sym (of_list (one_of (get_or ns i 0) ps)) ∙ sym e ∙ none_of c s

-- ---- the first that passes

module _ (test : Party → Bool) (node : Party → Node) where
  find_front : (o : Option Party) (qs : List Party) (c : Option Node) → c ≡ option_map node (passing test o) → is_some c ≡ true → c ≡ option_map node (find test (option_to_list o ++ qs))
  find_front None qs c e s = absurd (true≢false (sym s ∙ ap is_some e))
  find_front (Some p) qs c e s = go (test p) e
    where
      go : (b : Bool) → c ≡ option_map node (cond b (Some p) None) → c ≡ option_map node (cond b (Some p) (find test qs))
      go true d = d
      go false d = absurd (true≢false (sym s ∙ ap is_some d))

  pub found_here : (ns : List ℕ) (i : ℕ) (ps : List Party) (c : Option Node) → i < length ns → find test (found (take i ns) ps) ≡ None → c ≡ option_map node (passing test (one_of (get_or ns i 0) ps)) → is_some c ≡ true
      → c ≡ option_map node (find test (found ns ps))
  found_here ns i ps c lt none e s =
      find_front (one_of (get_or ns i 0) ps) (found (drop (suc i) ns) ps) c e s
      ∙ ap (option_map node) (
      sym (ap (λ o. option_or o (find test (option_to_list (one_of (get_or ns i 0) ps) ++ found (drop (suc i) ns) ps))) none)
      ∙ sym (find-append test (found (take i ns) ps) (option_to_list (one_of (get_or ns i 0) ps) ++ found (drop (suc i) ns) ps))
      ∙ ap (find test) (sym (found_split ns i ps lt)))

  pub found_none : (ns : List ℕ) (i : ℕ) (ps : List Party) (c : Option Node) → i < length ns → find test (found (take i ns) ps) ≡ None → c ≡ option_map node (passing test (one_of (get_or ns i 0) ps)) → is_some c ≡ false
      → find test (found (take (i + 1) ns) ps) ≡ None
  found_none ns i ps c lt none e s =
      ap (find test) (found_next ns i ps lt) ∙ find-append test (found (take i ns) ps) (option_to_list (one_of (get_or ns i 0) ps))
      ∙ ap (λ o. option_or o (find test (option_to_list (one_of (get_or ns i 0) ps)))) none
      ∙ go (one_of (get_or ns i 0) ps) e
    where
      go : (o : Option Party) → c ≡ option_map node (passing test o) → find test (option_to_list o) ≡ None
      go None d = refl
      go (Some p) d = pick (test p) d
        where
          pick : (b : Bool) → c ≡ option_map node (cond b (Some p) None) → cond b (Some p) None ≡ None
          pick true x = absurd (true≢false (sym (ap is_some x) ∙ s))
          pick false x = refl

-- ---- whether any passes

any_append : (f : Party → Bool) (xs ys : List Party) → list_any f (xs ++ ys) ≡ (list_any f xs || list_any f ys)
any_append f [] ys = refl
any_append f (x ∷ xs) ys = ap (λ b. f x || b) (any_append f xs ys) ∙ grouped (f x) (list_any f xs) (list_any f ys)
  where
    grouped : (a b c : Bool) → (a || (b || c)) ≡ ((a || b) || c)
    grouped true b c = refl
    grouped false b c = refl

module _ (f : Party → Bool) where
  -- the one that was found
  abbrev pub passes_one : Option Party → Bool
  passes_one None = false
  passes_one (Some p) = f p

  any_front : (o : Option Party) (qs : List Party) → passes_one o ≡ true → list_any f (option_to_list o ++ qs) ≡ true
  any_front None qs e = absurd (true≢false (sym e))
  any_front (Some p) qs e = ap (λ b. b || list_any f qs) e

  any_none : (o : Option Party) → passes_one o ≡ false → list_any f (option_to_list o) ≡ false
  any_none None e = refl
  any_none (Some p) e = ap (λ b. b || false) e

  pub any_here : (ns : List ℕ) (i : ℕ) (ps : List Party) → i < length ns → list_any f (found (take i ns) ps) ≡ false → passes_one (one_of (get_or ns i 0) ps) ≡ true → true ≡ list_any f (found ns ps)
  any_here ns i ps lt none e =
      sym (ap (list_any f) (found_split ns i ps lt)
      ∙ any_append f (found (take i ns) ps) (option_to_list (one_of (get_or ns i 0) ps) ++ found (drop (suc i) ns) ps)
      ∙ ap (λ b. b || list_any f (option_to_list (one_of (get_or ns i 0) ps) ++ found (drop (suc i) ns) ps)) none
      ∙ any_front (one_of (get_or ns i 0) ps) (found (drop (suc i) ns) ps) e)

  pub any_next : (ns : List ℕ) (i : ℕ) (ps : List Party) → i < length ns → list_any f (found (take i ns) ps) ≡ false → passes_one (one_of (get_or ns i 0) ps) ≡ false → list_any f (found (take (i + 1) ns) ps) ≡ false
  any_next ns i ps lt none e =
      ap (list_any f) (found_next ns i ps lt) ∙ any_append f (found (take i ns) ps) (option_to_list (one_of (get_or ns i 0) ps))
      ∙ ap (λ b. b || list_any f (option_to_list (one_of (get_or ns i 0) ps))) none ∙ any_none (one_of (get_or ns i 0) ps) e

-- ---- one after the other

module _ (f : List Cause → Party → List Cause) where
  fold_list : (b : List Cause) (o : Option Party) → folded f b o ≡ fold f b (option_to_list o)
  fold_list b None = refl
  fold_list b (Some p) = refl

  pub fold_next : (ns : List ℕ) (i : ℕ) (ps : List Party) (b now new : List Cause) → i < length ns → now ≡ fold f b (found (take i ns) ps) → new ≡ folded f now (one_of (get_or ns i 0) ps) → new ≡ fold f b (found (take (i + 1) ns) ps)
  fold_next ns i ps b now new lt so_far e =
      e ∙ ap (λ x. folded f x (one_of (get_or ns i 0) ps)) so_far ∙ fold_list (fold f b (found (take i ns) ps)) (one_of (get_or ns i 0) ps)
      ∙ sym (ap (fold f b) (found_next ns i ps lt) ∙ fold-append f b (found (take i ns) ps) (option_to_list (one_of (get_or ns i 0) ps)))
