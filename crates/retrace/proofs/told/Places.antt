-- Two lists place by place: the transactions that are told beside those of the history.
use Rattle.std.proofs.Common.{◌≡◌, refl, sym, ap, subst, ◌∙◌, ℕ, zero, suc, ◌+◌, ◌<◌, ◌≤◌, Bool, true, false, cond, not, ◌&&◌, inl, inr, List, [], ◌∷◌, ◌++◌, length, map, Option, Some, None, eqb, nat_lt, arith}
use Rattle.std.proofs.lemmas.Bool.{eqb-true, eqb-false, eq-eqb, lt-ltb, le-ltb, ltb-true, ltb-false}
use Rattle.std.specs.List.{find, position, position_or_len}
use Rattle.std.specs.Option.{option_map, option_map_or}
use Rattle.value.proofs.IsolationLemmas.{In}
use Rattle.value.proofs.SerialLemmas.{NumberedFrom, NumberedFrom-above}
use Rattle.value.proofs.Basics.{find-In}
use Rattle.history.specs.declared.base.Base.{Base}
use Rattle.history.specs.Transactions.{Exported_snapshot, Txn, is_living, is_of}
use Rattle.history.specs.Events.{replaced}
use Rattle.retrace.specs.declared.past.Lent.{Lent}
use Rattle.retrace.specs.Runs.{Going, is_its}
use Rattle.retrace.specs.Past.{at_place, snapshot_of, turned_at}
use Rattle.retrace.specs.Told.{PlaceByPlace, Tells}

-- ---- any lists

pub places-length : {T U : Type 0} (R : T → U → Type 0) (xs : List T) (ys : List U) → PlaceByPlace R xs ys → length xs ≡ length ys
places-length R [] [] r = refl
places-length R [] (y ∷ ys) r = absurd r
places-length R (x ∷ xs) [] r = absurd r
places-length R (x ∷ xs) (y ∷ ys) r = ap suc (places-length R xs ys r.1)

pub places-push : {T U : Type 0} (R : T → U → Type 0) (xs : List T) (ys : List U) (x : T) (y : U) → PlaceByPlace R xs ys → R x y → PlaceByPlace R (xs ++ x ∷ []) (ys ++ y ∷ [])
places-push R [] [] x y r e = (e, tt)
places-push R [] (v ∷ ys) x y r e = absurd r
places-push R (u ∷ xs) [] x y r e = absurd r
places-push R (u ∷ xs) (v ∷ ys) x y r e = (r.0, places-push R xs ys x y r.1 e)

-- another relation, where it follows for the elements of the second list
pub places-by : {T U : Type 0} (R S : T → U → Type 0) (xs : List T) (ys : List U) → ((x : T) (y : U) → In y ys → R x y → S x y) → PlaceByPlace R xs ys → PlaceByPlace S xs ys
places-by R S [] [] f r = tt
places-by R S [] (y ∷ ys) f r = absurd r
places-by R S (x ∷ xs) [] f r = absurd r
places-by R S (x ∷ xs) (y ∷ ys) f r = (f x y (inl refl) r.0, places-by R S xs ys (λ u v i. f u v (inr i)) r.1)

pub places-map : {T U : Type 0} (R : T → U → Type 0) (f : T → T) (g : U → U) (xs : List T) (ys : List U) → ((x : T) (y : U) → R x y → R (f x) (g y)) → PlaceByPlace R xs ys → PlaceByPlace R (map f xs) (map g ys)
places-map R f g [] [] h r = tt
places-map R f g [] (y ∷ ys) h r = absurd r
places-map R f g (x ∷ xs) [] h r = absurd r
places-map R f g (x ∷ xs) (y ∷ ys) h r = (h x y r.0, places-map R f g xs ys h r.1)

-- ---- numbers above a base

pub eqb-above : (n a b : ℕ) → eqb (n + a) (n + b) ≡ eqb a b
eqb-above n a b = go (eqb a b) refl
  where
    other : (c : Bool) → eqb (n + a) (n + b) ≡ c → eqb a b ≡ false → c ≡ false
    other true e f = absurd (eqb-false a b f (let h : n + a ≡ n + b = eqb-true (n + a) (n + b) e in omega arith))
    other false e f = refl

    go : (c : Bool) → eqb a b ≡ c → eqb (n + a) (n + b) ≡ c
    go true e = eq-eqb (n + a) (n + b) (ap (λ m. n + m) (eqb-true a b e))
    go false e = other (eqb (n + a) (n + b)) refl e

pub ltb-above : (n a b : ℕ) → nat_lt (n + a) (n + b) ≡ nat_lt a b
ltb-above n a b = go (nat_lt a b) refl
  where
    go : (c : Bool) → nat_lt a b ≡ c → nat_lt (n + a) (n + b) ≡ c
    go true e = lt-ltb (n + a) (n + b) (let h = ltb-true a b e in omega arith)
    go false e = le-ltb (n + a) (n + b) (let h = ltb-false a b e in omega arith)

pub some-same : {X : Type 0} (x y : X) → Some x ≡ Some y → x ≡ y
some-same x y e = ap (λ (o : Option _). option_map_or (λ z. z) o x) e

-- ---- a session's transaction

position-cons : {X : Type 0} (p : X → Bool) (x : X) (xs : List X) → position p (x ∷ xs) ≡ cond (p x) (Some 0) (option_map suc (position p xs))
position-cons p x xs = go (p x)
  where
    inner : (b : Bool) (n : ℕ) → cond b (Some (suc n)) None ≡ option_map suc (cond b (Some n) None)
    inner true n = refl
    inner false n = refl

    lesser : (n m : ℕ) → nat_lt (1 + n) (suc m) ≡ nat_lt n m
    lesser n m = ap (λ k. nat_lt (1 + n) k) (let e : suc m ≡ 1 + m = omega arith in e) ∙ ltb-above 1 n m

    one : (n : ℕ) → 1 + n ≡ suc n
    one n = omega arith

    go : (b : Bool) → cond (nat_lt (cond (not b) (1 + position_or_len p xs) 0) (suc (length xs))) (Some (cond (not b) (1 + position_or_len p xs) 0)) None ≡ cond b (Some 0) (option_map suc (position p xs))
    go true = ap (λ b. cond b (Some 0) None) (lt-ltb 0 (suc (length xs)) (omega arith))
    go false = ap (λ b. cond b (Some (1 + position_or_len p xs)) None) (lesser (position_or_len p xs) (length xs)) ∙ ap (λ n. cond (nat_lt (position_or_len p xs) (length xs)) (Some n) None) (one (position_or_len p xs)) ∙ inner (nat_lt (position_or_len p xs) (length xs)) (position_or_len p xs)

-- ---- identifiers of snapshots

pub record Lends (b : Base) (l : Lent) (x : Exported_snapshot) : Type 0 where
  pub id : l.id ≡ x.id
  pub snapshot : b.commits + l.snapshot ≡ x.snapshot

abbrev pub Identified : ℕ → List Exported_snapshot → Type 0
Identified n xs = NumberedFrom (λ (x : Exported_snapshot). x.id) n xs

module _ {A : Type 0} where
  -- both lists have these at a place
  abbrev pub AtBoth : ℕ → Going A → Txn A → List (Going A) → List (Txn A) → Type 0
  AtBoth zero g t (h ∷ gs) (u ∷ ts) = (h ≡ g) × (u ≡ t)
  AtBoth (suc n) g t (h ∷ gs) (u ∷ ts) = AtBoth n g t gs ts
  AtBoth n g t _ _ = ⊥

  -- the session's transaction, in both
  pub data Current (b : Base) (gs : List (Going A)) (ts : List (Txn A)) : Option ℕ → Option (Txn A) → Type 0 where
    Nobody : Current b gs ts None None
    At : (i : ℕ) (g : Going A) (t : Txn A) → AtBoth i g t gs ts → Tells b g t → Current b gs ts (Some i) (Some t)

  its : (b : Base) (s : ℕ) (g : Going A) (t : Txn A) → Tells b g t → is_its s g ≡ is_of s t
  its b s g t k = ap (λ n. eqb n s && g.owed) k.session ∙ ap (λ o. eqb t.session s && o) k.owed

  later : (b : Base) (h : Going A) (u : Txn A) (gs : List (Going A)) (ts : List (Txn A)) (q : Option ℕ) (o : Option (Txn A)) → Current b gs ts q o → Current b (h ∷ gs) (u ∷ ts) (option_map suc q) o
  later b h u gs ts q o Nobody = Nobody
  later b h u gs ts q o (At i g t a k) = At (suc i) g t a k

  pub current_both : (b : Base) (s : ℕ) (gs : List (Going A)) (ts : List (Txn A)) → PlaceByPlace (Tells b) gs ts → Current b gs ts (position (is_its s) gs) (find (is_of s) ts)
  current_both b s [] [] r = Nobody
  current_both b s [] (t ∷ ts) r = absurd r
  current_both b s (g ∷ gs) [] r = absurd r
  current_both b s (g ∷ gs) (t ∷ ts) r = subst (λ q. Current b (g ∷ gs) (t ∷ ts) q (cond (is_of s t) (Some t) (find (is_of s) ts))) (sym (position-cons (is_its s) g gs))
      (subst (λ c. Current b (g ∷ gs) (t ∷ ts) (cond (is_its s g) (Some 0) (option_map suc (position (is_its s) gs))) (cond c (Some t) (find (is_of s) ts))) (its b s g t r.0)
      (go (is_its s g) (later b g t gs ts (position (is_its s) gs) (find (is_of s) ts) (current_both b s gs ts r.1))))
    where
      go : (c : Bool) → Current b (g ∷ gs) (t ∷ ts) (option_map suc (position (is_its s) gs)) (find (is_of s) ts) → Current b (g ∷ gs) (t ∷ ts) (cond c (Some 0) (option_map suc (position (is_its s) gs))) (cond c (Some t) (find (is_of s) ts))
      go true rest = At 0 g t (refl, refl) r.0
      go false rest = rest

  pub at_place-is : (i : ℕ) (g : Going A) (t : Txn A) (gs : List (Going A)) (ts : List (Txn A)) → AtBoth i g t gs ts → at_place i gs ≡ g
  at_place-is zero g t (h ∷ gs) (u ∷ ts) a = a.0
  at_place-is (suc i) g t (h ∷ gs) (u ∷ ts) a = at_place-is i g t gs ts a
  at_place-is zero g t [] ts a = absurd a
  at_place-is zero g t (h ∷ gs) [] a = absurd a
  at_place-is (suc i) g t [] ts a = absurd a
  at_place-is (suc i) g t (h ∷ gs) [] a = absurd a

  -- ---- the one at a place turned

  abbrev pub Numbered : ℕ → List (Txn A) → Type 0
  Numbered n ts = NumberedFrom (λ (t : Txn A). t.number) n ts

  at-number : (n i : ℕ) (g : Going A) (t : Txn A) (gs : List (Going A)) (ts : List (Txn A)) → Numbered n ts → AtBoth i g t gs ts → n < t.number
  at-number n zero g t (h ∷ gs) (u ∷ ts) m a = omega (arith, m.0, ap (λ (v : Txn A). v.number) a.1)
  at-number n (suc i) g t (h ∷ gs) (u ∷ ts) m a = let l = at-number (n + 1) i g t gs ts m.1 a in omega arith
  at-number n zero g t [] ts m a = absurd a
  at-number n zero g t (h ∷ gs) [] m a = absurd a
  at-number n (suc i) g t [] ts m a = absurd a
  at-number n (suc i) g t (h ∷ gs) [] m a = absurd a

  -- none of them has this number
  spared : (n : ℕ) (x : Txn A) (ts : List (Txn A)) → Numbered n ts → x.number ≤ n → replaced x ts ≡ ts
  spared n x [] m l = refl
  spared n x (t ∷ ts) m l = ap (λ us. cond (eqb t.number x.number) x t ∷ us) (spared (n + 1) x ts m.1 (omega arith)) ∙ ap (λ b. cond b x t ∷ ts) (other (eqb t.number x.number) refl)
    where
      other : (b : Bool) → eqb t.number x.number ≡ b → b ≡ false
      other true e = absurd (let p : t.number ≡ x.number = eqb-true t.number x.number e in omega (arith, m.0))
      other false e = refl

  pub places-turned : (R : Going A → Txn A → Type 0) (n i : ℕ) (g : Going A) (t x : Txn A) (f : Going A → Going A) (gs : List (Going A)) (ts : List (Txn A)) → PlaceByPlace R gs ts → Numbered n ts → AtBoth i g t gs ts → x.number ≡ t.number → R (f g) x
      → PlaceByPlace R (turned_at i f gs) (replaced x ts)
  places-turned R n zero g t x f (h ∷ gs) (u ∷ ts) r m a e k =
      let same : u.number ≡ x.number = ap (λ (v : Txn A). v.number) a.1 ∙ sym e in
      subst (λ us. PlaceByPlace R (f h ∷ gs) us) (sym (ap (λ b. cond b x u ∷ replaced x ts) (eq-eqb u.number x.number same) ∙ ap (λ us. x ∷ us) (spared (n + 1) x ts m.1 (omega (arith, m.0))))) (subst (λ v. R (f v) x) (sym a.0) k, r.1)
  places-turned R n (suc i) g t x f (h ∷ gs) (u ∷ ts) r m a e k =
      let l : n + 1 < t.number = at-number (n + 1) i g t gs ts m.1 a in
      subst (λ b. PlaceByPlace R (h ∷ turned_at i f gs) (cond b x u ∷ replaced x ts)) (sym (other (eqb u.number x.number) refl l)) (r.0, places-turned R (n + 1) i g t x f gs ts r.1 m.1 a e k)
    where
      other : (b : Bool) → eqb u.number x.number ≡ b → n + 1 < t.number → b ≡ false
      other true p l = absurd (let q : u.number ≡ x.number = eqb-true u.number x.number p in omega (arith, m.0))
      other false p l = refl
  places-turned R n zero g t x f [] ts r m a e k = absurd a
  places-turned R n zero g t x f (h ∷ gs) [] r m a e k = absurd a
  places-turned R n (suc i) g t x f [] ts r m a e k = absurd a
  places-turned R n (suc i) g t x f (h ∷ gs) [] r m a e k = absurd a

  -- numbers stay
  pub numbered-replaced : (n : ℕ) (x : Txn A) (ts : List (Txn A)) → Numbered n ts → Numbered n (replaced x ts)
  numbered-replaced n x [] m = tt
  numbered-replaced n x (t ∷ ts) m = (go (eqb t.number x.number) refl, numbered-replaced (n + 1) x ts m.1)
    where
      go : (b : Bool) → eqb t.number x.number ≡ b → (cond b x t).number ≡ n + 1
      go true e = sym (eqb-true t.number x.number e) ∙ m.0
      go false e = m.0

  pub numbered-map : (f : Txn A → Txn A) → ((t : Txn A) → (f t).number ≡ t.number) → (n : ℕ) (ts : List (Txn A)) → Numbered n ts → Numbered n (map f ts)
  numbered-map f h n [] m = tt
  numbered-map f h n (t ∷ ts) m = (h t ∙ m.0, numbered-map f h (n + 1) ts m.1)

  -- ---- an identifier that lives

  pub lent-found : (b : Base) (n i : ℕ) (ts : List (Txn A)) (ls : List Lent) (xs : List Exported_snapshot) (x : Exported_snapshot) → PlaceByPlace (Lends b) ls xs → Identified n xs
      → find (λ y. eqb y.id i && is_living ts y) xs ≡ Some x → b.commits + snapshot_of i ls ≡ x.snapshot
  lent-found b n i ts [] [] x r m e = cc
  lent-found b n i ts [] (y ∷ ys) x r m e = absurd r
  lent-found b n i ts (l ∷ ls) [] x r m e = absurd r
  lent-found b n i ts (l ∷ ls) (y ∷ ys) x r m e = go (eqb y.id i) refl (is_living ts y) (λ q. lent-found b (n + 1) i ts ls ys x r.1 m.1 q) e
    where
      Goal : Bool → Type 0
      Goal c = b.commits + option_map_or (λ (z : Lent). z.snapshot) (cond c (Some l) (find (λ (z : Lent). eqb z.id i) ls)) 0 ≡ x.snapshot

      here : (c : Bool) → eqb y.id i ≡ c → Goal c → b.commits + snapshot_of i (l ∷ ls) ≡ x.snapshot
      here c p k = subst Goal (sym (ap (λ j. eqb j i) r.0.id ∙ p)) k

      go : (c : Bool) → eqb y.id i ≡ c → (d : Bool) → (find (λ z. eqb z.id i && is_living ts z) ys ≡ Some x → b.commits + snapshot_of i ls ≡ x.snapshot) → cond (c && d) (Some y) (find (λ z. eqb z.id i && is_living ts z) ys) ≡ Some x → b.commits + snapshot_of i (l ∷ ls) ≡ x.snapshot
      go true p true rest q = here true p (r.0.snapshot ∙ ap (λ (z : Exported_snapshot). z.snapshot) (some-same y x q))
      go true p false rest q = absurd (clashes (find-In (λ z. eqb z.id i && is_living ts z) ys x q))
        where
          front : (u v : Bool) → (u && v) ≡ true → u ≡ true
          front true v f = refl
          front false v f = f

          clashes : In x ys × ((eqb x.id i && is_living ts x) ≡ true) → ⊥
          clashes f =
              let above : n + 1 < x.id = NumberedFrom-above (λ (z : Exported_snapshot). z.id) (n + 1) ys x m.1 f.0 in
              let same : x.id ≡ i = eqb-true x.id i (front (eqb x.id i) (is_living ts x) f.1) in
              let first : y.id ≡ i = eqb-true y.id i p in
              omega (arith, m.0)
      go false p d rest q = here false p (rest q)
