-- What stands in a list, and what some or all of it pass.
use Rattle.std.proofs.Common.{◌≡◌, ◌⊎◌, refl, sym, ap, subst, ◌∙◌, ◌<◌, ◌≤◌, ℕ, zero, suc, Bool, true, false, true≢false, if◌then◌else◌, inl, inr, List, [], ◌∷◌, length, find, Some, arith}
use Rattle.std.proofs.lemmas.Bool.{cases_eq, cases_Bool, or_cases, or_left, or_right, and_parts, cond_both}
use Rattle.std.proofs.lemmas.Option.{same_Some}
use Rattle.std.specs.List.{filter, list_all, list_any}
use Rattle.certificate.specs.Knowledge.{places_below}
use Rattle.certificate.specs.Order.{Among}

module _ {T : Type 0} (p : T → Bool) where
  pub any-one : (xs : List T) → list_any p xs ≡ true → (x : T) × Among x xs × (p x ≡ true)
  any-one [] e = absurd (true≢false (sym e))
  any-one (x ∷ xs) e = go (any-one xs) (or_cases (p x) (list_any p xs) e)
    where
      go : (list_any p xs ≡ true → (y : T) × Among y xs × (p y ≡ true)) → (p x ≡ true) ⊎ (list_any p xs ≡ true) → (y : T) × Among y (x ∷ xs) × (p y ≡ true)
      go more (inl h) = (x, inl refl, h)
      go more (inr h) = let r = more h in (r.0, inr r.1, r.2)

  pub one-any : (x : T) (xs : List T) → Among x xs → p x ≡ true → list_any p xs ≡ true
  one-any x [] a h = absurd a
  one-any x (y ∷ ys) (inl e) h = or_left (p y) (list_any p ys) (subst (λ z. p z ≡ true) e h)
  one-any x (y ∷ ys) (inr a) h = or_right (p y) (list_any p ys) (one-any x ys a h)

  pub all-each : (x : T) (xs : List T) → list_all p xs ≡ true → Among x xs → p x ≡ true
  all-each x [] h a = absurd a
  all-each x (y ∷ ys) h (inl e) = subst (λ z. p z ≡ true) (sym e) (and_parts (p y) (list_all p ys) h).0
  all-each x (y ∷ ys) h (inr a) = all-each x ys (and_parts (p y) (list_all p ys) h).1 a

  pub among-filter : (x : T) (xs : List T) → Among x xs → p x ≡ true → Among x (filter p xs)
  among-filter x [] a h = absurd a
  among-filter x (y ∷ ys) a h = let more = λ (g : Among x ys). among-filter x ys g h in cond_both (p y) (y ∷ filter p ys) (filter p ys) (λ l. Among x l) (λ t. here more a) (λ f. there more f a)
    where
      here : (Among x ys → Among x (filter p ys)) → Among x (y ∷ ys) → Among x (y ∷ filter p ys)
      here more (inl e) = inl e
      here more (inr g) = inr (more g)

      there : (Among x ys → Among x (filter p ys)) → p y ≡ false → Among x (y ∷ ys) → Among x (filter p ys)
      there more f (inl e) = absurd (true≢false (sym h ∙ ap p e ∙ f))
      there more f (inr g) = more g

module _ {T : Type 0} (p : T → Bool) where
  -- what stands in a filtered list stands in the whole one, and passes
  pub filter-among : (x : T) (xs : List T) → Among x (filter p xs) → p x ≡ true
  filter-among x [] a = absurd a
  filter-among x (y ∷ ys) a = go (filter-among x ys) (cases_Bool (p y))
    where
      go : (Among x (filter p ys) → p x ≡ true) → (p y ≡ true) ⊎ (p y ≡ false) → p x ≡ true
      go more (inl t) = here more (subst (λ l. Among x l) (ap (λ t. if t then y ∷ filter p ys else filter p ys) t) a)
        where
          here : (Among x (filter p ys) → p x ≡ true) → Among x (y ∷ filter p ys) → p x ≡ true
          here more (inl e) = ap p e ∙ t
          here more (inr g) = more g
      go more (inr t) = more (subst (λ l. Among x l) (ap (λ t. if t then y ∷ filter p ys else filter p ys) t) a)

module _ {T : Type 0} (p : T → Bool) where
  pub find-one : (xs : List T) (x : T) → find p xs ≡ Some x → Among x xs × (p x ≡ true)
  find-one [] x e = cc
  find-one (y ∷ ys) x e = go (find-one ys x) (cases_Bool (p y))
    where
      go : (find p ys ≡ Some x → Among x ys × (p x ≡ true)) → (p y ≡ true) ⊎ (p y ≡ false) → Among x (y ∷ ys) × (p x ≡ true)
      go more (inl t) = let same : y ≡ x = same_Some y x (sym (ap (λ b. if b then Some y else find p ys) t) ∙ e) in (inl (sym same), subst (λ z. p z ≡ true) same t)
      go more (inr t) = let r = more (sym (ap (λ b. if b then Some y else find p ys) t) ∙ e) in (inr r.0, r.1)

-- a list in which nothing stands
pub none-all : {T : Type 0} (xs : List T) → ((x : T) → Among x xs → ⊥) → list_all (λ z. false) xs ≡ true
none-all [] n = refl
none-all (x ∷ xs) n = absurd (n x (inl refl))

-- one in which something stands
pub none-false : {T : Type 0} (xs : List T) → 1 ≤ length xs → false ≡ list_all (λ z. false) xs
none-false [] l = absurd (omega (arith, l))
none-false (x ∷ xs) l = refl

pub among-places : (x n : ℕ) → x < n → Among x (places_below n)
among-places x zero l = absurd (omega (arith, l))
among-places x (suc n) l = go (among-places x n) (cases_eq x n)
  where
    go : (x < n → Among x (places_below n)) → (x ≡ n) ⊎ (x ≡ n → ⊥) → (x ≡ n) ⊎ Among x (places_below n)
    go more (inl e) = inl e
    go more (inr d) = inr (more (omega (arith, l, d)))
