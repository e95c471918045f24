-- What one more transaction adds to a picture.
use Rattle.std.proofs.Common.{◌≡◌, ℕ, ◌+◌, ◌<◌, Bool, true, false, List, [], ◌∷◌, ◌++◌, length, take, get_or, filter, cond, refl, sym, ap, ◌∙◌, append_assoc}
use Rattle.std.proofs.lemmas.List.{append-nil, take_more}
use Rattle.std.specs.List.{flat_map}
use Rattle.history.specs.declared.event.Record.{Record}
use Rattle.retrace.specs.Runs.{Going}
use Rattle.retrace.specs.Arrows.{arrows_from}
use Rattle.retrace.specs.Lives.{bar_of, bars}
use Rattle.retrace.specs.declared.drawing.arrow.Arrow.{Arrow}
use Rattle.retrace.specs.declared.drawing.bar.Bar.{Bar}

-- one that doesn't pass is left out
pub filter_skips : {X : Type 0} (p : X → Bool) (xs : List X) (x : X) → p x ≡ false → filter p (xs ++ x ∷ []) ≡ filter p xs
filter_skips p [] x e = ap (λ b. cond b (x ∷ []) []) e
filter_skips p (y ∷ ys) x e = ap (λ l. cond (p y) (y ∷ l) l) (filter_skips p ys x e)

-- an element that passes comes after the others
pub filter_keeps : {X : Type 0} (p : X → Bool) (xs : List X) (x : X) → p x ≡ true → filter p (xs ++ x ∷ []) ≡ filter p xs ++ x ∷ []
filter_keeps p [] x e = ap (λ b. cond b (x ∷ []) []) e
filter_keeps p (y ∷ ys) x e = ap (λ l. cond (p y) (y ∷ l) l) (filter_keeps p ys x e) ∙ go (p y)
  where
    go : (b : Bool) → cond b (y ∷ (filter p ys ++ x ∷ [])) (filter p ys ++ x ∷ []) ≡ cond b (y ∷ filter p ys) (filter p ys) ++ x ∷ []
    go true = refl
    go false = refl

flat_append : {X Y : Type 0} (f : X → List Y) (xs : List X) (x : X) → flat_map f (xs ++ x ∷ []) ≡ flat_map f xs ++ f x
flat_append f [] x = append-nil (f x)
flat_append f (y ∷ ys) x = ap (λ l. f y ++ l) (flat_append f ys x) ∙ sym (append_assoc (f y) (flat_map f ys) (f x))

module _ {A : Type 0} where
  bars_append : (es : List (Record A)) (gs : List (Going A)) (g : Going A) → bars es (gs ++ g ∷ []) ≡ bars es gs ++ bar_of es g ∷ []
  bars_append es [] g = refl
  bars_append es (x ∷ xs) g = ap (λ l. bar_of es x ∷ l) (bars_append es xs g)

  pub bars_more : (es : List (Record A)) (gs : List (Going A)) (i : ℕ) (g : Going A) (made new : List Bar) (b : Bar) → i < length gs → g ≡ get_or gs i g → made ≡ bars es (take i gs) → b ≡ bar_of es g → new ≡ made ++ b ∷ [] → new ≡ bars es (take (i + 1) gs)
  bars_more es gs i g made new b lt at em eb en =
      en ∙ ap (λ m. m ++ b ∷ []) em ∙ ap (λ x. bars es (take i gs) ++ x ∷ []) eb ∙ sym (bars_append es (take i gs) g)
      ∙ ap (λ l. bars es l) (sym (take_more gs i g lt ∙ ap (λ y. take i gs ++ y ∷ []) (sym at)))

  pub arrows_more : (all gs : List (Going A)) (i : ℕ) (g : Going A) (made new : List (Arrow A)) → i < length gs → g ≡ get_or gs i g → made ≡ flat_map (λ (h : Going A). arrows_from all h.trace) (take i gs) → new ≡ made ++ arrows_from all g.trace → new ≡ flat_map (λ (h : Going A). arrows_from all h.trace) (take (i + 1) gs)
  arrows_more all gs i g made new lt at em en =
      let f : Going A → List (Arrow A) = λ h. arrows_from all h.trace in
      en ∙ ap (λ m. m ++ arrows_from all g.trace) em ∙ sym (flat_append f (take i gs) g)
      ∙ ap (λ l. flat_map f l) (sym (take_more gs i g lt ∙ ap (λ y. take i gs ++ y ∷ []) (sym at)))
