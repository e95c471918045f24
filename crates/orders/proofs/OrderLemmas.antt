-- An order explains what was recorded exactly where its transactions can come one after the other.
use Rattle.std.proofs.Common.{◌≡◌, ◌⊎◌, refl, sym, ap, ◌∙◌, subst, ℕ, zero, suc, map, Bool, true, false, true≢false, not, ◌&&◌, inl, inr, List, [], ◌∷◌, slice_get, slice_set, Option, Some, None, is_some}
use Rattle.std.proofs.lemmas.Bool.{cases_eq}
use Rattle.std.proofs.lemmas.Option.{same_Some}
use Rattle.std.specs.List.{AllByRecursion}
use Rattle.schema.specs.Definition.{Catalog}
use Rattle.schema.specs.declared.tables.Tables.{Tables}
use Rattle.orders.specs.Explains.{Trace, Explains, InTurn, InTime, MayFollow, AreApart, Stands, precedes, ended_before}
use Rattle.orders.specs.Turns.{MayCome}
use Rattle.orders.specs.Walks.{Goes, none_done}
use Rattle.orders.proofs.PlaceLemmas.{get-set, get-other, get-false, all_at, all_from}

endless : {A : Type 0} (a t : Trace A) → a.end ≡ None → precedes a t ≡ false
endless a t e = ap (λ o. ended_before o t.begin && not t.imported) e

none-true : {T : Type 0} (xs : List T) (i : ℕ) → slice_get (map (λ (_ : T). false) xs) i ≡ Some true → ⊥
none-true [] i e = cc
none-true (x ∷ xs) zero e = true≢false (same_Some true false (sym e))
none-true (x ∷ xs) (suc i) e = none-true xs i e

module _ {A : Type 0} (c : Catalog) (ts : List (Trace A)) where
  -- ---- from an order that explains

  turn-at : (order : List ℕ) (X : Tables A) (i : ℕ) → InTurn c ts order X → Stands i order → (t : Trace A) × (slice_get ts i ≡ Some t)
  turn-at [] X i h s = absurd s
  turn-at (j ∷ later) X i h (inl e) = (h.0, ap (slice_get ts) e ∙ h.2)
  turn-at (j ∷ later) X i h (inr s) = turn-at later h.1 i h.4 s

  -- each that is known to have committed is done or has still to come
  abbrev Whole : List Bool → List ℕ → Type 0
  Whole done order = (i : ℕ) (t : Trace A) → slice_get ts i ≡ Some t → is_some t.end ≡ true → (slice_get done i ≡ Some true) ⊎ Stands i order

  -- those that have still to come aren't done
  abbrev Fresh : List Bool → List ℕ → Type 0
  Fresh done order = (i : ℕ) → Stands i order → slice_get done i ≡ Some false

  clash : {B : Type 0} (done : List Bool) (i : ℕ) → slice_get done i ≡ Some true → slice_get done i ≡ Some false → B
  clash done i t f = absurd (true≢false (same_Some true false (sym t ∙ f)))

  fresh-next : (done : List Bool) (i : ℕ) (later : List ℕ) → Fresh done (i ∷ later) → AllByRecursion (λ j. j ≡ i → ⊥) later → Fresh (slice_set done i true) later
  fresh-next done i later f apart = λ k s. get-other done i k true (all_at (λ j. j ≡ i → ⊥) later k apart s) ∙ f k (inr s)

  whole-next : (done : List Bool) (i : ℕ) (later : List ℕ) → slice_get done i ≡ Some false → Whole done (i ∷ later) → Whole (slice_set done i true) later
  whole-next done i later l w = λ k t g e. go k (w k t g e) (cases_eq k i)
    where
      go : (k : ℕ) → (slice_get done k ≡ Some true) ⊎ Stands k (i ∷ later) → (k ≡ i) ⊎ (k ≡ i → ⊥) → (slice_get (slice_set done i true) k ≡ Some true) ⊎ Stands k later
      go k h (inl e) = inl (ap (slice_get (slice_set done i true)) e ∙ get-set done i false true l)
      go k (inl h) (inr n) = inl (get-other done i k true n ∙ h)
      go k (inr (inl e)) (inr n) = absurd (n e)
      go k (inr (inr s)) (inr n) = inr s

  timely : (done : List Bool) (i : ℕ) (later : List ℕ) (t : Trace A) → slice_get ts i ≡ Some t → Whole done (i ∷ later) → AllByRecursion (λ j. MayFollow ts i j) (i ∷ later)
      → (j : ℕ) (a : Trace A) → slice_get ts j ≡ Some a → slice_get done j ≡ Some false → precedes a t ≡ false
  timely done i later t g w h = λ j a ga l. go j a ga l (a.end) refl
    where
      go : (j : ℕ) (a : Trace A) → slice_get ts j ≡ Some a → slice_get done j ≡ Some false → (o : Option ℕ) → a.end ≡ o → precedes a t ≡ false
      go j a ga l None e = endless a t e
      go j a ga l (Some n) e = at (w j a ga (ap is_some e))
        where
          at : (slice_get done j ≡ Some true) ⊎ Stands j (i ∷ later) → precedes a t ≡ false
          at (inl d) = clash done j d l
          at (inr s) = all_at (λ j. MayFollow ts i j) (i ∷ later) j h s a t ga g

  to-goes : (order : List ℕ) (done : List Bool) (X : Tables A) → AreApart order → Fresh done order → Whole done order → InTurn c ts order X → InTime ts order → Goes c ts done X order
  to-goes [] done X apart f w turn time = λ i t g e. go i (w i t g e)
    where
      go : (i : ℕ) → (slice_get done i ≡ Some true) ⊎ ⊥ → slice_get done i ≡ Some true
      go i (inl h) = h
      go i (inr s) = absurd s
  to-goes (i ∷ later) done X apart f w turn time =
      let left = f i (inl refl) in
      let may : MayCome ts done i turn.0 = record { stands = turn.2; left = left; in_time = timely done i later turn.0 turn.2 w time.0 } in
      (turn.0, turn.1, may, turn.3, to-goes later (slice_set done i true) turn.1 apart.1 (fresh-next done i later f apart.0) (whole-next done i later left w) turn.4 time.1)

  pub explained-goes : (X : Tables A) (order : List ℕ) → Explains c X ts order → Goes c ts (none_done ts) X order
  explained-goes X order h =
      to-goes order (none_done ts) X h.apart (λ i s. let t = turn-at order X i h.in_turn s in get-false ts i t.0 t.1) (λ i t g e. inr (h.complete i t g e)) h.in_turn h.in_time

  -- ---- and to one

  goes-fresh : (order : List ℕ) (done : List Bool) (X : Tables A) → Goes c ts done X order → Fresh done order
  goes-fresh [] done X g = λ k s. absurd s
  goes-fresh (i ∷ later) done X g = λ k s. go (goes-fresh later (slice_set done i true) g.1 g.4) k s (cases_eq k i)
    where
      go : Fresh (slice_set done i true) later → (k : ℕ) → Stands k (i ∷ later) → (k ≡ i) ⊎ (k ≡ i → ⊥) → slice_get done k ≡ Some false
      go r k s (inl e) = ap (slice_get done) e ∙ g.2.left
      go r k (inl e) (inr n) = absurd (n e)
      go r k (inr s) (inr n) = sym (get-other done i k true n) ∙ r k s

  goes-apart : (order : List ℕ) (done : List Bool) (X : Tables A) → Goes c ts done X order → AreApart order
  goes-apart [] done X g = tt
  goes-apart (i ∷ later) done X g = (
    all_from (λ j. j ≡ i → ⊥) later (λ j s e. clash (slice_set done i true) i (get-set done i false true g.2.left) (sym (ap (slice_get (slice_set done i true)) e) ∙ goes-fresh later (slice_set done i true) g.1 g.4 j s)),
    goes-apart later (slice_set done i true) g.1 g.4,
  )

  goes-whole : (order : List ℕ) (done : List Bool) (X : Tables A) → Goes c ts done X order → Whole done order
  goes-whole [] done X g = λ i t h e. inl (g i t h e)
  goes-whole (i ∷ later) done X g = λ k t h e. go k (cases_eq k i) (goes-whole later (slice_set done i true) g.1 g.4 k t h e)
    where
      go : (k : ℕ) → (k ≡ i) ⊎ (k ≡ i → ⊥) → (slice_get (slice_set done i true) k ≡ Some true) ⊎ Stands k later → (slice_get done k ≡ Some true) ⊎ Stands k (i ∷ later)
      go k (inl e) h = inr (inl e)
      go k (inr n) (inl d) = inl (sym (get-other done i k true n) ∙ d)
      go k (inr n) (inr s) = inr (inr s)

  goes-turn : (order : List ℕ) (done : List Bool) (X : Tables A) → Goes c ts done X order → InTurn c ts order X
  goes-turn [] done X g = tt
  goes-turn (i ∷ later) done X g = (g.0, g.1, g.2.stands, g.3, goes-turn later (slice_set done i true) g.1 g.4)

  goes-time : (order : List ℕ) (done : List Bool) (X : Tables A) → Goes c ts done X order → InTime ts order
  goes-time [] done X g = tt
  goes-time (i ∷ later) done X g = (
    all_from (λ j. MayFollow ts i j) (i ∷ later) (λ j s a b ga gb.
        subst (λ u. precedes a u ≡ false) (same_Some g.0 b (sym g.2.stands ∙ gb)) (g.2.in_time j a ga (goes-fresh (i ∷ later) done X g j s))),
    goes-time later (slice_set done i true) g.1 g.4,
  )

  pub goes-explained : (X : Tables A) (order : List ℕ) → Goes c ts (none_done ts) X order → Explains c X ts order
  goes-explained X order g = record {
    apart = goes-apart order (none_done ts) X g;
    complete = λ i t h e. go i (goes-whole order (none_done ts) X g i t h e);
    in_turn = goes-turn order (none_done ts) X g;
    in_time = goes-time order (none_done ts) X g;
  }
    where
      go : (i : ℕ) → (slice_get (none_done ts) i ≡ Some true) ⊎ Stands i order → Stands i order
      go i (inl d) = absurd (none-true ts i d)
      go i (inr s) = s
