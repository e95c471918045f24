-- A commit dooms the same sessions' transactions in alike worlds.
use Rattle.std.proofs.Common.{◌≡◌, refl, sym, ap, ◌∙◌, Bool, true, false, cond, not, ◌&&◌, ◌||◌, ◌⊎◌, inl, inr, List, [], ◌∷◌, ◌++◌, map, Option, Some, None, is_some, eqb, fold}
use Rattle.std.proofs.lemmas.Bool.{and_parts, eqb-true, eq-eqb, or_cases}
use Rattle.std.proofs.lemmas.List.{append-nil}
use Rattle.std.specs.List.{filter, find, list_any}
use Rattle.std.specs.Option.{option_to_list}
use Rattle.value.specs.declared.refusal.Cause.{Cause}
use Rattle.value.specs.Isolation.{cause_from, doom_of, dooms, is_doomed, is_first, is_live, is_other, with_doom}
use Rattle.value.proofs.IsolationLemmas.{In}
use Rattle.value.proofs.Lists.{In-filter, fold-kept}
use Rattle.history.specs.Transactions.{Txn, World, is_open, is_read_write, node, reads_from}
use Rattle.alike.specs.Worlds.{Alike, is_writer}
use Rattle.alike.proofs.Sides.{and2, any_moves, none_passes, not_both, open_owed, same_bool}
use Rattle.alike.proofs.Orderly.{IsOrderly}
use Rattle.alike.proofs.Edges.{reads_alike}
use Rattle.alike.proofs.Twins.{IsPair, alike_back, pair, pair_back, pair_of}

any_append : {X : Type 0} (p : X → Bool) (xs ys : List X) → list_any p (xs ++ ys) ≡ (list_any p xs || list_any p ys)
any_append p [] ys = refl
any_append p (x ∷ xs) ys = ap (λ b. p x || b) (any_append p xs ys) ∙ turn (p x) (list_any p xs) (list_any p ys)
  where
    turn : (a b c : Bool) → (a || (b || c)) ≡ ((a || b) || c)
    turn true b c = refl
    turn false b c = refl

found_any : {X : Type 0} (p : X → Bool) (xs : List X) → is_some (find p xs) ≡ list_any p xs
found_any p [] = refl
found_any {X} p (x ∷ xs) = go (p x) (found_any p xs)
  where
    go : (b : Bool) → is_some (find p xs) ≡ list_any p xs → is_some (cond b (Some x) (find p xs)) ≡ (b || list_any p xs)
    go true e = refl
    go false e = e

module _ {A : Type 0} where
  -- the same open transactions are in the middle of causes
  abbrev pub DoomAlike : World A → World A → List Cause → List Cause → Type 0
  DoomAlike w v cs ds = (x y : Txn A) → IsPair w v x y → is_doomed node reads_from cs x ≡ is_doomed node reads_from ds y

  pub numbers_move : (w v : World A) → IsOrderly w → IsOrderly v → (b d x y : Txn A) → IsPair w v b d → IsPair w v x y → eqb b.number x.number ≡ true → eqb d.number y.number ≡ true
  numbers_move w v g f b d x y p q e = eq-eqb d.number y.number (ap (λ (z : Txn A). z.number) (f.one d y p.there q.there (open_owed d.standing p.opens) (open_owed y.standing q.opens)
      (sym p.session ∙ ap (λ (z : Txn A). z.session) (g.unique b x p.here q.here (eqb-true b.number x.number e)) ∙ q.session)))

  pub numbers_alike : (w v : World A) → IsOrderly w → IsOrderly v → (b d x y : Txn A) → IsPair w v b d → IsPair w v x y → eqb b.number x.number ≡ eqb d.number y.number
  numbers_alike w v g f b d x y p q = same_bool (eqb b.number x.number) (eqb d.number y.number) (numbers_move w v g f b d x y p q) (numbers_move v w f g d b y x (pair_back p) (pair_back q))

  -- one by one
  abbrev Both : World A → World A → List (Txn A) → List (Txn A) → Type 0
  Both w v [] [] = Unit {0}
  Both w v (x ∷ xs) (y ∷ ys) = IsPair w v x y × Both w v xs ys
  Both w v [] (y ∷ ys) = ⊥
  Both w v (x ∷ xs) [] = ⊥

  both_of : (w v : World A) → IsOrderly v → Alike w v → (xs ys : List (Txn A)) → map (λ (t : Txn A). t.session) xs ≡ map (λ (t : Txn A). t.session) ys
      → ((x : Txn A) → In x xs → In x w.txns × (is_writer x ≡ true)) → ((y : Txn A) → In y ys → In y v.txns × (is_writer y ≡ true)) → Both w v xs ys
  both_of w v f h [] [] e l r = tt
  both_of w v f h [] (y ∷ ys) e l r = cc
  both_of w v f h (x ∷ xs) [] e l r = cc
  both_of w v f h (x ∷ xs) (y ∷ ys) e l r = (
    pair w v h.there f x y (l x (inl refl)).0 (r y (inl refl)).0 (and_parts (is_open x.standing) (is_read_write x.mode) (l x (inl refl)).1).0 (and_parts (is_open y.standing) (is_read_write y.mode) (r y (inl refl)).1).0 first,
    both_of w v f h xs ys rest (λ z i. l z (inr i)) (λ z i. r z (inr i)),
  )
    where
      first : x.session ≡ y.session
      first = cc

      rest : map (λ (t : Txn A). t.session) xs ≡ map (λ (t : Txn A). t.session) ys
      rest = cc

  module _ (w v : World A) (g : IsOrderly w) (f : IsOrderly v) (h : Alike w v) (t u : Txn A) (p : IsPair w v t u) where
    live_alike : (x y : Txn A) → IsPair w v x y → is_live node reads_from t x ≡ is_live node reads_from u y
    live_alike x y q = ap (λ b. not b && is_open x.standing && is_read_write x.mode) (numbers_alike w v g f x y t u q p)
        ∙ ap (λ b. not (eqb y.number u.number) && b && is_read_write x.mode) (q.is_open ∙ sym q.opens)
        ∙ ap (λ m. not (eqb y.number u.number) && is_open y.standing && is_read_write m) q.did.mode

    first_alike : (cs ds : List Cause) → DoomAlike w v cs ds → (b d x y : Txn A) → IsPair w v b d → IsPair w v x y → is_first node reads_from t cs b x ≡ is_first node reads_from u ds d y
    first_alike cs ds k b d x y q r =
        ap (λ e. not e && (not (not (eqb x.number t.number)) || is_live node reads_from t x && not (is_doomed node reads_from cs x)) && reads_from x b) (numbers_alike w v g f x y b d r q)
        ∙ ap (λ e. not (eqb y.number d.number) && (not (not e) || is_live node reads_from t x && not (is_doomed node reads_from cs x)) && reads_from x b) (numbers_alike w v g f x y t u r p)
        ∙ ap (λ e. not (eqb y.number d.number) && (not (not (eqb y.number u.number)) || e && not (is_doomed node reads_from cs x)) && reads_from x b) (live_alike x y r)
        ∙ ap (λ e. not (eqb y.number d.number) && (not (not (eqb y.number u.number)) || is_live node reads_from u y && not e) && reads_from x b) (k x y r)
        ∙ ap (λ e. not (eqb y.number d.number) && (not (not (eqb y.number u.number)) || is_live node reads_from u y && not (is_doomed node reads_from ds y)) && e) (reads_alike x y b d r.did q.did)

  -- one that may stand first is open
  first_open : (w : World A) → IsOrderly w → (t : Txn A) → In t w.txns → is_open t.standing ≡ true → (cs : List Cause) (b x : Txn A) → In x w.txns → is_first node reads_from t cs b x ≡ true → is_open x.standing ≡ true
  first_open w g t i o cs b x j e = go (or_cases (not (is_other node reads_from x t)) (is_live node reads_from t x && not (is_doomed node reads_from cs x)) q.1)
    where
      q : (is_other node reads_from x b ≡ true) × ((not (is_other node reads_from x t) || is_live node reads_from t x && not (is_doomed node reads_from cs x)) ≡ true)
      q = and_parts (is_other node reads_from x b) (not (is_other node reads_from x t) || is_live node reads_from t x && not (is_doomed node reads_from cs x))
          (and_parts (is_other node reads_from x b && (not (is_other node reads_from x t) || is_live node reads_from t x && not (is_doomed node reads_from cs x))) (reads_from x b) e).0

      twice : (b : Bool) → not (not b) ≡ true → b ≡ true
      twice true e = refl
      twice false e = e

      go : (not (is_other node reads_from x t) ≡ true) ⊎ ((is_live node reads_from t x && not (is_doomed node reads_from cs x)) ≡ true) → is_open x.standing ≡ true
      go (inl r) = ap (λ (z : Txn A). is_open z.standing) (g.unique x t j i (eqb-true x.number t.number (twice (eqb x.number t.number) r))) ∙ o
      go (inr r) = (and_parts (not (eqb x.number t.number)) (is_open x.standing) (and_parts (not (eqb x.number t.number) && is_open x.standing) (is_read_write x.mode) (and_parts (is_live node reads_from t x) (not (is_doomed node reads_from cs x)) r).0).0).1

  module _ (w v : World A) (g : IsOrderly w) (f : IsOrderly v) (h : Alike w v) (t u : Txn A) (p : IsPair w v t u) where
    found_moves : (cs ds : List Cause) → DoomAlike w v cs ds → (b d : Txn A) → IsPair w v b d → list_any (is_first node reads_from t cs b) w.txns ≡ true → list_any (is_first node reads_from u ds d) v.txns ≡ true
    found_moves cs ds k b d q e = any_moves (is_first node reads_from t cs b) (is_first node reads_from u ds d) w.txns v.txns
        (λ x i r. let y = pair_of w v h.there x i (first_open w g t p.here p.is_open cs b x i r) in (y.0, y.1.there, sym (first_alike w v g f h t u p cs ds k b d x y.0 q y.1) ∙ r)) e

  -- what one pivot adds
  added : (t b x : Txn A) (live : Bool) (o : Option (Txn A)) → list_any (λ (z : Cause). eqb z.b.0 x.number) (option_to_list (cond live (cause_from node reads_from b t o) None)) ≡ (live && is_some o && eqb b.number x.number)
  added t b x true None = refl
  added t b x true (Some a) = or_false (eqb b.number x.number)
    where
      or_false : (c : Bool) → (c || false) ≡ c
      or_false true = refl
      or_false false = refl
  added t b x false o = refl

  module _ (w v : World A) (g : IsOrderly w) (f : IsOrderly v) (h : Alike w v) (t u : Txn A) (p : IsPair w v t u) where
    found_alike : (cs ds : List Cause) → DoomAlike w v cs ds → (b d : Txn A) → IsPair w v b d → is_some (find (is_first node reads_from t cs b) w.txns) ≡ is_some (find (is_first node reads_from u ds d) v.txns)
    found_alike cs ds k b d q = found_any (is_first node reads_from t cs b) w.txns
        ∙ same_bool (list_any (is_first node reads_from t cs b) w.txns) (list_any (is_first node reads_from u ds d) v.txns)
        (found_moves w v g f h t u p cs ds k b d q) (found_moves v w f g (alike_back w v h) u t (pair_back p) ds cs (λ x y r. sym (k y x (pair_back r))) d b (pair_back q))
        ∙ sym (found_any (is_first node reads_from u ds d) v.txns)

    next_alike : (cs ds : List Cause) → DoomAlike w v cs ds → (b d : Txn A) → IsPair w v b d → DoomAlike w v (with_doom node reads_from w.txns t cs b) (with_doom node reads_from v.txns u ds d)
    next_alike cs ds k b d q x y r =
        any_append (λ (z : Cause). eqb z.b.0 x.number) cs (option_to_list (doom_of node reads_from w.txns t cs b))
        ∙ ap (λ e. e || list_any (λ (z : Cause). eqb z.b.0 x.number) (option_to_list (doom_of node reads_from w.txns t cs b))) (k x y r)
        ∙ ap (λ e. is_doomed node reads_from ds y || e) one
        ∙ sym (any_append (λ (z : Cause). eqb z.b.0 y.number) ds (option_to_list (doom_of node reads_from v.txns u ds d)))
      where
        one : list_any (λ (z : Cause). eqb z.b.0 x.number) (option_to_list (doom_of node reads_from w.txns t cs b)) ≡ list_any (λ (z : Cause). eqb z.b.0 y.number) (option_to_list (doom_of node reads_from v.txns u ds d))
        one = added t b x (is_live node reads_from t b && reads_from b t) (find (is_first node reads_from t cs b) w.txns)
            ∙ ap (λ e. e && reads_from b t && is_some (find (is_first node reads_from t cs b) w.txns) && eqb b.number x.number) (live_alike w v g f h t u p b d q)
            ∙ ap (λ e. is_live node reads_from u d && e && is_some (find (is_first node reads_from t cs b) w.txns) && eqb b.number x.number) (reads_alike b d t u q.did p.did)
            ∙ ap (λ e. is_live node reads_from u d && reads_from d u && e && eqb b.number x.number) (found_alike cs ds k b d q)
            ∙ ap (λ e. is_live node reads_from u d && reads_from d u && is_some (find (is_first node reads_from u ds d) v.txns) && e) (numbers_alike w v g f b d x y q r)
            ∙ sym (added u d y (is_live node reads_from u d && reads_from d u) (find (is_first node reads_from u ds d) v.txns))

    folds_alike : (xs ys : List (Txn A)) → Both w v xs ys → (cs ds : List Cause) → DoomAlike w v cs ds → DoomAlike w v (fold (with_doom node reads_from w.txns t) cs xs) (fold (with_doom node reads_from v.txns u) ds ys)
    folds_alike [] [] b cs ds k = k
    folds_alike [] (y ∷ ys) b cs ds k = absurd b
    folds_alike (x ∷ xs) [] b cs ds k = absurd b
    folds_alike (x ∷ xs) (y ∷ ys) b cs ds k = folds_alike xs ys b.1 (with_doom node reads_from w.txns t cs x) (with_doom node reads_from v.txns u ds y) (next_alike cs ds k x y b.0)

  -- only those that may write are doomed
  of_writers : (w : World A) (t : Txn A) → fold (with_doom node reads_from w.txns t) [] (filter is_writer w.txns) ≡ dooms node reads_from w.txns t
  of_writers w t = fold-kept (with_doom node reads_from w.txns t) [] is_writer w.txns (λ cs x i e.
      ap (λ b. cs ++ option_to_list (cond (b && reads_from x t) (cause_from node reads_from x t (find (is_first node reads_from t cs x) w.txns)) None)) (idle x e) ∙ append-nil cs)
    where
      idle : (x : Txn A) → is_writer x ≡ false → is_live node reads_from t x ≡ false
      idle x e = none_passes (is_live node reads_from t x) (λ q.
          let r = and_parts (not (eqb x.number t.number) && is_open x.standing) (is_read_write x.mode) q in
          not_both (is_writer x) (and2 (is_open x.standing) (is_read_write x.mode) (and_parts (not (eqb x.number t.number)) (is_open x.standing) r.0).1 r.1) e)

  pub dooms_alike : (w v : World A) → IsOrderly w → IsOrderly v → Alike w v → (t u : Txn A) → IsPair w v t u → DoomAlike w v (dooms node reads_from w.txns t) (dooms node reads_from v.txns u)
  dooms_alike w v g f h t u p x y q =
      ap (λ cs. is_doomed node reads_from cs x) (sym (of_writers w t))
      ∙ folds_alike w v g f h t u p (filter is_writer w.txns) (filter is_writer v.txns)
      (both_of w v f h (filter is_writer w.txns) (filter is_writer v.txns) h.writers (λ z i. In-filter is_writer z w.txns i) (λ z i. In-filter is_writer z v.txns i)) [] [] (λ a b c. refl) x y q
      ∙ ap (λ cs. is_doomed node reads_from cs y) (of_writers v u)
