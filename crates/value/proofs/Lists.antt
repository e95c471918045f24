-- Lists of which some elements go.
use Rattle.std.proofs.Common.{◌≡◌, refl, sym, ap, ◌∙◌, Bool, true, false, true≢false, cond, ◌⊎◌, inl, inr, List, [], ◌∷◌, ◌++◌, Option, Some, None, is_some, fold}
use Rattle.std.specs.List.{filter, find}
use Rattle.value.specs.Isolation.{first_some}
use Rattle.value.proofs.IsolationLemmas.{In}

-- ---- tests

pub clash : {X : Type 0} (b : Bool) → b ≡ true → b ≡ false → X
clash b e f = absurd (true≢false (sym e ∙ f))

-- ---- elements

module _ {X : Type 0} where
  pub In-filter : (p : X → Bool) (x : X) (xs : List X) → In x (filter p xs) → In x xs × (p x ≡ true)
  In-filter p x [] i = absurd i
  In-filter p x (y ∷ xs) i = go (p y) refl (In-filter p x xs) i
    where
      go : (b : Bool) → p y ≡ b → (In x (filter p xs) → In x xs × (p x ≡ true)) → In x (cond b (y ∷ filter p xs) (filter p xs)) → ((x ≡ y) ⊎ In x xs) × (p x ≡ true)
      go true e rest (inl q) = (inl q, ap p q ∙ e)
      go true e rest (inr j) = (inr (rest j).0, (rest j).1)
      go false e rest j = (inr (rest j).0, (rest j).1)

  pub In-append : (x : X) (xs ys : List X) → In x (xs ++ ys) → In x xs ⊎ In x ys
  In-append x [] ys i = inr i
  In-append x (y ∷ xs) ys (inl q) = inl (inl q)
  In-append x (y ∷ xs) ys (inr i) = elim (In-append x xs ys i) [ inl j ↦ inl (inr j) | inr j ↦ inr j ]

  pub filter_alike : (p q : X → Bool) (xs : List X) → ((x : X) → In x xs → p x ≡ q x) → filter p xs ≡ filter q xs
  filter_alike p q [] h = refl
  filter_alike p q (x ∷ xs) h =
      ap (λ b. cond b (x ∷ filter p xs) (filter p xs)) (h x (inl refl))
      ∙ ap (λ ys. cond (q x) (x ∷ ys) ys) (filter_alike p q xs (λ y i. h y (inr i)))

  -- those that pass are all there still
  pub filter-kept : (p k : X → Bool) (xs : List X) → ((x : X) → In x xs → p x ≡ true → k x ≡ true) → filter p (filter k xs) ≡ filter p xs
  filter-kept p k [] h = refl
  filter-kept p k (x ∷ xs) h = go (k x) refl (p x) refl (filter-kept p k xs (λ y i. h y (inr i)))
    where
      go : (b : Bool) → k x ≡ b → (d : Bool) → p x ≡ d → filter p (filter k xs) ≡ filter p xs → filter p (cond b (x ∷ filter k xs) (filter k xs)) ≡ cond (p x) (x ∷ filter p xs) (filter p xs)
      go true e d q rest = ap (λ ys. cond (p x) (x ∷ ys) ys) rest
      go false e true q rest = clash (k x) (h x (inl refl) q) e
      go false e false q rest = rest ∙ sym (ap (λ b. cond b (x ∷ filter p xs) (filter p xs)) q)

  -- two tests in either order
  pub filter-filter : (p k : X → Bool) (xs : List X) → filter p (filter k xs) ≡ filter k (filter p xs)
  filter-filter p k [] = refl
  filter-filter p k (x ∷ xs) = go (k x) refl (p x) refl (filter-filter p k xs)
    where
      go : (b : Bool) → k x ≡ b → (d : Bool) → p x ≡ d → filter p (filter k xs) ≡ filter k (filter p xs) → filter p (cond b (x ∷ filter k xs) (filter k xs)) ≡ filter k (cond d (x ∷ filter p xs) (filter p xs))
      go true e true q rest = ap (λ c. cond c (x ∷ filter p (filter k xs)) (filter p (filter k xs))) q ∙ ap (λ ys. x ∷ ys) rest ∙ sym (ap (λ c. cond c (x ∷ filter k (filter p xs)) (filter k (filter p xs))) e)
      go true e false q rest = ap (λ c. cond c (x ∷ filter p (filter k xs)) (filter p (filter k xs))) q ∙ rest
      go false e true q rest = rest ∙ sym (ap (λ c. cond c (x ∷ filter k (filter p xs)) (filter k (filter p xs))) e)
      go false e false q rest = rest

  -- what is found is there still
  pub find-kept : (p k : X → Bool) (xs : List X) (x : X) → find p xs ≡ Some x → k x ≡ true → find p (filter k xs) ≡ Some x
  find-kept p k [] x e h = e
  find-kept p k (y ∷ xs) x e h = go (k y) refl (p y) refl (find-kept p k xs x) e
    where
      go : (b : Bool) → k y ≡ b → (d : Bool) → p y ≡ d → (find p xs ≡ Some x → k x ≡ true → find p (filter k xs) ≡ Some x) → cond d (Some y) (find p xs) ≡ Some x → find p (cond b (y ∷ filter k xs) (filter k xs)) ≡ Some x
      go true q true r rest f = ap (λ c. cond c (Some y) (find p (filter k xs))) r ∙ f
      go true q false r rest f = ap (λ c. cond c (Some y) (find p (filter k xs))) r ∙ rest f h
      go false q true r rest f = let s : y ≡ x = cc in clash (k y) (ap k s ∙ h) q
      go false q false r rest f = rest f h

  -- none of those that go is sought
  pub find-alike : (p k : X → Bool) (xs : List X) → ((x : X) → In x xs → k x ≡ false → p x ≡ false) → find p (filter k xs) ≡ find p xs
  find-alike p k [] h = refl
  find-alike p k (x ∷ xs) h = go (k x) refl (find-alike p k xs (λ y i. h y (inr i)))
    where
      go : (b : Bool) → k x ≡ b → find p (filter k xs) ≡ find p xs → find p (cond b (x ∷ filter k xs) (filter k xs)) ≡ cond (p x) (Some x) (find p xs)
      go true e rest = ap (λ o. cond (p x) (Some x) o) rest
      go false e rest = rest ∙ sym (ap (λ c. cond c (Some x) (find p xs)) (h x (inl refl) e))

  pub fold-kept : {B : Type 0} (f : B → X → B) (b : B) (k : X → Bool) (xs : List X) → ((c : B) (x : X) → In x xs → k x ≡ false → f c x ≡ c) → fold f b (filter k xs) ≡ fold f b xs
  fold-kept f b k [] h = refl
  fold-kept {B = B} f b k (x ∷ xs) h = go (k x) refl (λ a. fold-kept f a k xs (λ c y i. h c y (inr i)))
    where
      go : (d : Bool) → k x ≡ d → ((a : B) → fold f a (filter k xs) ≡ fold f a xs) → fold f b (cond d (x ∷ filter k xs) (filter k xs)) ≡ fold f (f b x) xs
      go true e rest = rest (f b x)
      go false e rest = rest b ∙ ap (λ a. fold f a xs) (sym (h b x (inl refl) e))

  pub fold-alike : {B : Type 0} (f g : B → X → B) (b : B) (xs : List X) → ((c : B) (x : X) → f c x ≡ g c x) → fold f b xs ≡ fold g b xs
  fold-alike f g b [] h = refl
  fold-alike f g b (x ∷ xs) h = fold-alike f g (f b x) xs h ∙ ap (λ a. fold g a xs) (h b x)

  module _ {B : Type 0} where
    pub first_some-kept : (f : X → Option B) (k : X → Bool) (xs : List X) → ((x : X) → In x xs → k x ≡ false → f x ≡ None) → first_some f (filter k xs) ≡ first_some f xs
    first_some-kept f k [] h = refl
    first_some-kept f k (x ∷ xs) h = go (k x) refl (first_some-kept f k xs (λ y i. h y (inr i)))
      where
        go : (b : Bool) → k x ≡ b → first_some f (filter k xs) ≡ first_some f xs → first_some f (cond b (x ∷ filter k xs) (filter k xs)) ≡ cond (is_some (f x)) (f x) (first_some f xs)
        go true e rest = ap (λ o. cond (is_some (f x)) (f x) o) rest
        go false e rest = rest ∙ sym (ap (λ o. cond (is_some o) o (first_some f xs)) (h x (inl refl) e))
