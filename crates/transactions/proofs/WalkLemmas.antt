-- Walks over a list from its front.
use Rattle.std.proofs.Common.{◌≡◌, sym, ap, ◌∙◌, ℕ, ◌-◌, ◌<◌, ◌≤◌, Bool, true, false, cond, ◌&&◌, List, [], ◌∷◌, length, take, drop, get_or, min, ltb, arith, suc, ◌+◌, ◌++◌, Some, None, map}
use Rattle.std.proofs.lemmas.List.Folds.{find-append}
use Rattle.std.specs.List.{filter, find}
use Rattle.std.specs.Option.{option_or}
use Rattle.std.proofs.lemmas.List.{map-append}
use Rattle.std.proofs.lemmas.List.Elements.{filter-append}
use Rattle.value.specs.Isolation.{Node, first_part}
use Rattle.value.proofs.Basics.{split_at, take_next, first_and_rest}

-- what is made of those that pass, with one more element
pub chosen-next : {X Y : Type 0} (p : X → Bool) (f : X → Y) (xs : List X) (i : ℕ) (x : X) (made new : List Y) → i < length xs → x ≡ get_or xs i x → made ≡ map f (filter p (take i xs)) → new ≡ made ++ cond (p x) (f x ∷ []) []
    → new ≡ map f (filter p (take (i + 1) xs))
chosen-next {X} {Y} p f xs i x made new lt at e step =
    step ∙ ap (λ ys. ys ++ cond (p x) (f x ∷ []) []) e ∙ go (p x)
    ∙ ap (map f) (sym (ap (filter p) (take_next xs i x lt at) ∙ filter-append p (take i xs) (x ∷ [])))
  where
    go : (b : Bool) → map f (filter p (take i xs)) ++ cond b (f x ∷ []) [] ≡ map f (filter p (take i xs) ++ cond b (x ∷ []) [])
    go true = sym (map-append f (filter p (take i xs)) (x ∷ []))
    go false = sym (map-append f (filter p (take i xs)) [])

-- nothing is found before, and this element is what is sought
pub find-here : {X : Type 0} (p : X → Bool) (xs : List X) (i : ℕ) (x : X) → i < length xs → x ≡ get_or xs i x → find p (take i xs) ≡ None → p x ≡ true → find p xs ≡ Some x
find-here p xs i x lt at none e =
    ap (find p) (split_at xs i x lt at) ∙ find-append p (take i xs) (x ∷ drop (suc i) xs)
    ∙ ap (λ o. option_or o (find p (x ∷ drop (suc i) xs))) none
    ∙ ap (λ b. cond b (Some x) (find p (drop (suc i) xs))) e

module _ {T : Type 0} (node : T → Node) (edge : T → T → Bool) where
  at_most_own : (t : T) (us : List T) → first_part node edge t us ≤ (node t).commit
  at_most_own t [] = omega arith
  at_most_own t (u ∷ us) = go (edge t u && ltb (node u).commit (node t).commit) (at_most_own t us)
    where
      go : (b : Bool) → first_part node edge t us ≤ (node t).commit → cond b (min (node u).commit (first_part node edge t us)) (first_part node edge t us) ≤ (node t).commit
      go true h = omega arith
      go false h = h

  pub first_part-least : (t : T) (us : List T) → min (node t).commit (first_part node edge t us) ≡ first_part node edge t us
  first_part-least t us = omega (arith, at_most_own t us)

  pub lesser-least : (t u : T) (least new : ℕ) → new ≡ cond (edge t u && ltb (node u).commit (node t).commit) (min (node u).commit least) least → least ≤ (node t).commit → new ≤ (node t).commit
  lesser-least t u least new = go (edge t u && ltb (node u).commit (node t).commit)
    where
      go : (b : Bool) → new ≡ cond b (min (node u).commit least) least → least ≤ (node t).commit → new ≤ (node t).commit
      go true e h = omega arith
      go false e h = omega arith

  part_of_first : (t u : T) (us : List T) (least new : ℕ) → new ≡ cond (edge t u && ltb (node u).commit (node t).commit) (min (node u).commit least) least
      → min new (first_part node edge t us) ≡ min least (first_part node edge t (u ∷ us))
  part_of_first t u us least new = go (edge t u && ltb (node u).commit (node t).commit) (first_part node edge t us)
    where
      go : (b : Bool) (rest : ℕ) → new ≡ cond b (min (node u).commit least) least → min new rest ≡ min least (cond b (min (node u).commit rest) rest)
      go true rest e = omega arith
      go false rest e = omega arith

  pub first_part-step : (t : T) (us : List T) (u : T) → 1 ≤ length us → u ≡ get_or us 0 u → (least new : ℕ)
      → new ≡ cond (edge t u && ltb (node u).commit (node t).commit) (min (node u).commit least) least
      → min new (first_part node edge t (take (length us - 1) (drop 1 us))) ≡ min least (first_part node edge t us)
  first_part-step t us u long first least new e =
      part_of_first t u (take (length us - 1) (drop 1 us)) least new e ∙ ap (λ vs. min least (first_part node edge t vs)) (sym (first_and_rest us u long first))

  -- none are left
  pub first_part-end : (t : T) (us : List T) (least : ℕ) → length us < 1 → least ≤ (node t).commit → least ≡ min least (first_part node edge t us)
  first_part-end t [] least none h = omega arith
  first_part-end t (u ∷ us) least none h = absurd (omega arith)

  -- ---- the same, of those that pass a test

  pub passing_part-least : (p : T → Bool) (t u : T) (least new : ℕ) → new ≡ cond (p u) (cond (edge t u && ltb (node u).commit (node t).commit) (min (node u).commit least) least) least → least ≤ (node t).commit → new ≤ (node t).commit
  passing_part-least p t u least new = go (p u)
    where
      go : (b : Bool) → new ≡ cond b (cond (edge t u && ltb (node u).commit (node t).commit) (min (node u).commit least) least) least → least ≤ (node t).commit → new ≤ (node t).commit
      go true e h = lesser-least t u least new e h
      go false e h = omega arith

  pub passing_part-step : (p : T → Bool) (t : T) (us : List T) (u : T) → 1 ≤ length us → u ≡ get_or us 0 u → (least new : ℕ)
      → new ≡ cond (p u) (cond (edge t u && ltb (node u).commit (node t).commit) (min (node u).commit least) least) least
      → min new (first_part node edge t (filter p (take (length us - 1) (drop 1 us)))) ≡ min least (first_part node edge t (filter p us))
  passing_part-step p t us u long first least new e =
      go (p u) e ∙ ap (λ vs. min least (first_part node edge t (filter p vs))) (sym (first_and_rest us u long first))
    where
      rest : List T
      rest = filter p (take (length us - 1) (drop 1 us))

      go : (b : Bool) → new ≡ cond b (cond (edge t u && ltb (node u).commit (node t).commit) (min (node u).commit least) least) least
          → min new (first_part node edge t rest) ≡ min least (first_part node edge t (cond b (u ∷ rest) rest))
      go true q = part_of_first t u rest least new q
      go false q = ap (λ n. min n (first_part node edge t rest)) q

  pub passing_part-end : (p : T → Bool) (t : T) (us : List T) (least : ℕ) → length us < 1 → least ≤ (node t).commit → least ≡ min least (first_part node edge t (filter p us))
  passing_part-end p t [] least none h = omega arith
  passing_part-end p t (u ∷ us) least none h = absurd (omega arith)
