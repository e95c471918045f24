-- Suppositions are opened and closed, and what is known stays sound.
use Rattle.std.proofs.Common.{◌≡◌, ◌⊎◌, refl, sym, ap, subst, ◌∙◌, ◌<◌, ◌≤◌, ◌++◌, length, ℕ, zero, suc, true, false, ◌==◌, inl, inr, List, [], ◌∷◌, slice_get, Some, None, arith}
use Rattle.std.proofs.lemmas.Bool.{cases_eq, cases_order, eqb-false, not-true}
use Rattle.std.proofs.lemmas.Option.{same_Some}
use Rattle.certificate.specs.Board.{Board}
use Rattle.certificate.specs.Knowledge.{Known}
use Rattle.certificate.specs.Order.{Among, Turn, Play, Valid, IsBefore, IsThere}
use Rattle.certificate.specs.declared.certificate.Assumption.{Assumption}
use Rattle.certificate.specs.declared.certificate.Assumption.TheVariants.{Before, Present, Absent}
use Rattle.certificate.specs.Frames.{Frame, is_fair, supposed, contrary, IsSo, IsAssumed, AllAssumed, Sound}

pub among-more : {T : Type 0} (Q : T → Type 0) (x : T) (xs : List T) → Q x → ((y : T) → Among y xs → Q y) → (y : T) → Among y (xs ++ x ∷ []) → Q y
among-more Q x [] q all y (inl e) = subst Q (sym e) q
among-more Q x [] q all y (inr a) = absurd a
among-more Q x (z ∷ zs) q all y (inl e) = all y (inl e)
among-more Q x (z ∷ zs) q all y (inr a) = among-more Q x zs q (λ v h. all v (inr h)) y a

get-pushed : {T : Type 0} (xs : List T) (x : T) (i : ℕ) (y : T) → slice_get (xs ++ x ∷ []) i ≡ Some y → (slice_get xs i ≡ Some y) ⊎ ((i ≡ length xs) × (y ≡ x))
get-pushed [] x zero y e = inr (refl, sym (same_Some x y e))
get-pushed [] x (suc i) y e = cc
get-pushed (z ∷ zs) x zero y e = inl e
get-pushed (z ∷ zs) x (suc i) y e = go (get-pushed zs x i y e)
  where
    go : (slice_get zs i ≡ Some y) ⊎ ((i ≡ length zs) × (y ≡ x)) → (slice_get zs i ≡ Some y) ⊎ ((suc i ≡ suc (length zs)) × (y ≡ x))
    go (inl h) = inl h
    go (inr h) = inr (ap suc h.0, h.1)

pushed-get : {T : Type 0} (xs : List T) (x : T) (i : ℕ) (y : T) → slice_get xs i ≡ Some y → slice_get (xs ++ x ∷ []) i ≡ Some y
pushed-get [] x i y e = cc
pushed-get (z ∷ zs) x zero y e = e
pushed-get (z ∷ zs) x (suc i) y e = pushed-get zs x i y e

pub pushed-last : {T : Type 0} (xs : List T) (x : T) → slice_get (xs ++ x ∷ []) (length xs) ≡ Some x
pushed-last [] x = refl
pushed-last (z ∷ zs) x = pushed-last zs x

get-within : {T : Type 0} (xs : List T) (i : ℕ) (y : T) → slice_get xs i ≡ Some y → i < length xs
get-within [] i y e = cc
get-within (z ∷ zs) zero y e = omega arith
get-within (z ∷ zs) (suc i) y e = let l : i < length zs = get-within zs i y e in omega (arith, l)

module _ {W S P : Type 0} (b : Board W S P) (order : List ℕ) (turns : P → ℕ → Turn S) (play : Play b order turns) where
  there-or : (x : ℕ) → IsThere b order turns x ⊎ (IsThere b order turns x → ⊥)
  there-or x = look order
    where
      look : (xs : List ℕ) → ((i : ℕ) × (slice_get xs i ≡ Some x)) ⊎ ((i : ℕ) × (slice_get xs i ≡ Some x) → ⊥)
      look [] = inr (λ h. cc)
      look (z ∷ zs) = go (cases_eq z x) (look zs)
        where
          go : (z ≡ x) ⊎ (z ≡ x → ⊥) → ((i : ℕ) × (slice_get zs i ≡ Some x)) ⊎ ((i : ℕ) × (slice_get zs i ≡ Some x) → ⊥) → ((i : ℕ) × (slice_get (z ∷ zs) i ≡ Some x)) ⊎ ((i : ℕ) × (slice_get (z ∷ zs) i ≡ Some x) → ⊥)
          go (inl e) h = inl (zero, ap Some e)
          go (inr n) (inl h) = inl (suc h.0, h.1)
          go (inr n) (inr m) = inr (λ h. refute h.0 h.1)
            where
              refute : (i : ℕ) → slice_get (z ∷ zs) i ≡ Some x → ⊥
              refute zero e = n (same_Some z x e)
              refute (suc i) e = m (i, e)

  supposed-valid : (k : Known S P) (a : Assumption) → Valid b order turns k → IsSo b order turns a → Valid b order turns (supposed k a)
  supposed-valid k (Before x y) v so = record {
    pairs = among-more (λ p. IsBefore b order turns p.0 p.1) (x, y) k.pairs so v.pairs;
    excluded = v.excluded;
    findings = v.findings;
    present = v.present;
    absent = v.absent;
  }
  supposed-valid k (Present x) v so = record {
    present = among-more (IsThere b order turns) x k.present so v.present;
    pairs = v.pairs;
    excluded = v.excluded;
    findings = v.findings;
    absent = v.absent;
  }
  supposed-valid k (Absent x) v so = record {
    absent = among-more (λ y. IsThere b order turns y → ⊥) x k.absent so v.absent;
    pairs = v.pairs;
    excluded = v.excluded;
    findings = v.findings;
    present = v.present;
  }

  turned : (x y : ℕ) → (x == y) ≡ false → (IsBefore b order turns x y → ⊥) → IsBefore b order turns y x
  turned x y d refute i j at-y at-x = go (cases_order i j)
    where
      go : (i ≡ j) ⊎ ((i < j) ⊎ (j < i)) → i < j
      go (inl e) = absurd (eqb-false x y d (same_Some x y (sym at-x ∙ ap (slice_get order) (sym e) ∙ at-y)))
      go (inr (inl l)) = l
      go (inr (inr l)) = absurd (refute (λ m n at-m at-n.
          let p : m ≡ j = play.once m j x at-m at-x in
          let q : n ≡ i = play.once n i y at-n at-y in
          omega (arith, l, p, q)))

  contrary-valid : (k : Known S P) (a : Assumption) → is_fair a ≡ true → Valid b order turns k → (IsSo b order turns a → ⊥) → Valid b order turns (contrary k a)
  contrary-valid k (Before x y) fair v refute = record {
    pairs = among-more (λ p. IsBefore b order turns p.0 p.1) (y, x) k.pairs (turned x y (not-true (x == y) fair) refute) v.pairs;
    excluded = v.excluded;
    findings = v.findings;
    present = v.present;
    absent = v.absent;
  }
  contrary-valid k (Present x) fair v refute = record {
    absent = among-more (λ y. IsThere b order turns y → ⊥) x k.absent refute v.absent;
    pairs = v.pairs;
    excluded = v.excluded;
    findings = v.findings;
    present = v.present;
  }
  contrary-valid k (Absent x) fair v refute = record {
    present = among-more (IsThere b order turns) x k.present (go (there-or x)) v.present;
    pairs = v.pairs;
    excluded = v.excluded;
    findings = v.findings;
    absent = v.absent;
  }
    where
      go : IsThere b order turns x ⊎ (IsThere b order turns x → ⊥) → IsThere b order turns x
      go (inl t) = t
      go (inr n) = absurd (refute n)

  -- ---- frames

  -- what the last frame knows is changed, and stays valid where it was
  pub sound-told : (fs : List (Frame S P)) (f : Frame S P) (k : Known S P) → (Valid b order turns f.known → Valid b order turns k)
      → Sound b order turns (fs ++ f ∷ []) → Sound b order turns (fs ++ record f { known = k } ∷ [])
  sound-told fs f k told sound i g at all = go (get-pushed fs (record f { known = k }) i g at)
    where
      same : (n : ℕ) → AllAssumed b order turns (fs ++ record f { known = k } ∷ []) n → AllAssumed b order turns (fs ++ f ∷ []) n
      same n h j e l p = at-place (get-pushed fs f j e p)
        where
          at-place : (slice_get fs j ≡ Some e) ⊎ ((j ≡ length fs) × (e ≡ f)) → IsAssumed b order turns e.assumed
          at-place (inl q) = h j e l (pushed-get fs (record f { known = k }) j e q)
          at-place (inr q) = subst (λ z. IsAssumed b order turns z.assumed) (sym q.1) (h j (record f { known = k }) l (ap (slice_get (fs ++ record f { known = k } ∷ [])) q.0 ∙ pushed-last fs (record f { known = k })))

      go : (slice_get fs i ≡ Some g) ⊎ ((i ≡ length fs) × (g ≡ record f { known = k })) → Valid b order turns g.known
      go (inl q) = sound i g (pushed-get fs f i g q) (same i all)
      go (inr q) = subst (λ z. Valid b order turns z.known) (sym q.1) (told (sound i f (ap (slice_get (fs ++ f ∷ [])) q.0 ∙ pushed-last fs f) (same i all)))

  -- a frame fewer
  pub sound-fewer : (fs : List (Frame S P)) (f : Frame S P) → Sound b order turns (fs ++ f ∷ []) → Sound b order turns fs
  sound-fewer fs f sound i g at all = sound i g (pushed-get fs f i g at) (λ j e l p. here j e l (get-pushed fs f j e p))
    where
      here : (j : ℕ) (e : Frame S P) → j ≤ i → (slice_get fs j ≡ Some e) ⊎ ((j ≡ length fs) × (e ≡ f)) → IsAssumed b order turns e.assumed
      here j e l (inl q) = all j e l q
      here j e l (inr q) = let u : i < length fs = get-within fs i g at in absurd (omega (arith, l, u, q.0))

  -- one more, which supposes something
  pub sound-more : (fs : List (Frame S P)) (f : Frame S P) (a : Assumption) → Sound b order turns (fs ++ f ∷ [])
      → Sound b order turns ((fs ++ f ∷ []) ++ record { known = supposed f.known a; assumed = Some a } ∷ [])
  sound-more fs f a sound i g at all = go (get-pushed (fs ++ f ∷ []) new i g at)
    where
      new : Frame S P
      new = record { known = supposed f.known a; assumed = Some a }

      go : (slice_get (fs ++ f ∷ []) i ≡ Some g) ⊎ ((i ≡ length (fs ++ f ∷ [])) × (g ≡ record { known = supposed f.known a; assumed = Some a })) → Valid b order turns g.known
      go (inl q) = sound i g q (λ j e l p. all j e l (pushed-get (fs ++ f ∷ []) (record { known = supposed f.known a; assumed = Some a }) j e p))
      go (inr q) =
          let inner = sound (length fs) f (pushed-last fs f) (λ j e l p. all j e
          (let u : j < length (fs ++ f ∷ []) = get-within (fs ++ f ∷ []) j e p in omega (arith, u, q.0))
          (pushed-get (fs ++ f ∷ []) (record { known = supposed f.known a; assumed = Some a }) j e p)) in
          subst (λ z. Valid b order turns z.known) (sym q.1) (supposed-valid f.known a inner
          (all i (record { known = supposed f.known a; assumed = Some a }) (omega arith)
          (ap (slice_get ((fs ++ f ∷ []) ++ record { known = supposed f.known a; assumed = Some a } ∷ [])) q.0 ∙ pushed-last (fs ++ f ∷ []) (record { known = supposed f.known a; assumed = Some a }))))

  -- What the last frame supposes comes to a contradiction: so the one before it knows the contrary.
  pub sound-closed : (fs : List (Frame S P)) (f g : Frame S P) (a : Assumption) → g.assumed ≡ Some a → is_fair a ≡ true → (Valid b order turns g.known → ⊥)
      → Sound b order turns ((fs ++ f ∷ []) ++ g ∷ []) → Sound b order turns (fs ++ record f { known = contrary f.known a } ∷ [])
  sound-closed fs f g a assumed fair refute sound i e at all = go (get-pushed fs (record f { known = contrary f.known a }) i e at)
    where
      outer : Sound b order turns (fs ++ f ∷ [])
      outer = sound-fewer (fs ++ f ∷ []) g sound

      same : (n : ℕ) → AllAssumed b order turns (fs ++ record f { known = contrary f.known a } ∷ []) n → AllAssumed b order turns (fs ++ f ∷ []) n
      same n h j e l p = at-place (get-pushed fs f j e p)
        where
          at-place : (slice_get fs j ≡ Some e) ⊎ ((j ≡ length fs) × (e ≡ f)) → IsAssumed b order turns e.assumed
          at-place (inl q) = h j e l (pushed-get fs (record f { known = contrary f.known a }) j e q)
          at-place (inr q) = subst (λ z. IsAssumed b order turns z.assumed) (sym q.1) (h j (record f { known = contrary f.known a }) l (ap (slice_get (fs ++ record f { known = contrary f.known a } ∷ [])) q.0 ∙ pushed-last fs (record f { known = contrary f.known a })))

      refuted : AllAssumed b order turns (fs ++ f ∷ []) i → i ≡ length fs → IsSo b order turns a → ⊥
      refuted h last so = refute (sound (length (fs ++ f ∷ [])) g (pushed-last (fs ++ f ∷ []) g) (λ j e l p. at-place j e (get-pushed (fs ++ f ∷ []) g j e p)))
        where
          at-place : (j : ℕ) (e : Frame S P) → (slice_get (fs ++ f ∷ []) j ≡ Some e) ⊎ ((j ≡ length (fs ++ f ∷ [])) × (e ≡ g)) → IsAssumed b order turns e.assumed
          at-place j e (inl q) = h j e (early (get-pushed fs f j e q)) q
            where
              early : (slice_get fs j ≡ Some e) ⊎ ((j ≡ length fs) × (e ≡ f)) → j ≤ i
              early (inl r) = let u : j < length fs = get-within fs j e r in omega (arith, u, last)
              early (inr r) = omega (arith, r.0, last)
          at-place j e (inr q) = subst (λ z. IsAssumed b order turns z.assumed) (sym q.1) (subst (IsAssumed b order turns) (sym assumed) so)

      go : (slice_get fs i ≡ Some e) ⊎ ((i ≡ length fs) × (e ≡ record f { known = contrary f.known a })) → Valid b order turns e.known
      go (inl q) = outer i e (pushed-get fs f i e q) (same i all)
      go (inr q) = subst (λ z. Valid b order turns z.known) (sym q.1) (contrary-valid f.known a fair
          (outer i f (ap (slice_get (fs ++ f ∷ [])) q.0 ∙ pushed-last fs f) (same i all))
          (refuted (same i all) q.0))

  -- Where only the first frame is left, which supposes nothing, a contradiction is one.
  pub sound-first : (f : Frame S P) → f.assumed ≡ None → (Valid b order turns f.known → ⊥) → Sound b order turns (f ∷ []) → ⊥
  sound-first f none refute sound = refute (sound 0 f refl (λ j e l p. go j e l p))
    where
      go : (j : ℕ) (e : Frame S P) → j ≤ 0 → slice_get (f ∷ []) j ≡ Some e → IsAssumed b order turns e.assumed
      go zero e l p = subst (λ z. IsAssumed b order turns z.assumed) (same_Some f e p) (subst (IsAssumed b order turns) (sym none) tt)
      go (suc j) e l p = absurd (omega (arith, l))
