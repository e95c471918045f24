-- From whom a transaction has what it found in a cell: the one that wrote it last is among those that may be.
use Rattle.std.proofs.Common.{◌≡◌, ◌⊎◌, refl, sym, ap, subst, ◌∙◌, ◌<◌, ◌≤◌, ◌+◌, ℕ, zero, suc, Bool, true, false, true≢false, ◌&&◌, ◌==◌, inl, inr, List, [], ◌∷◌, find, slice_get, Option, Some, None, arith}
use Rattle.std.proofs.lemmas.Bool.{or_cases, or_right, and_parts, cond_both, eqb-true, false_from_ne_true}
use Rattle.std.proofs.lemmas.Option.{same_Some}
use Rattle.std.specs.List.{list_any}
use Rattle.std.specs.Option.{option_map}
use Rattle.certificate.specs.Board.{Board, Effect, Keeps, Leaves, Adds, Unknown, is_write}
use Rattle.certificate.specs.Knowledge as known
use Rattle.certificate.specs.Knowledge.{Cell, Excluded, Finding, Known}
use Rattle.certificate.specs.Order.{Among, Turn, Does, HasWay, Play, Exact, Valid, IsBefore, IsThere, AllKeep}
use Rattle.certificate.proofs.AmongLemmas.{any-one, all-each, find-one}

module _ {W S P : Type 0} (b : Board W S P) (exact : Exact b) (order : List ℕ) (turns : P → ℕ → Turn S) (play : Play b order turns) (k : Known S P) (valid : Valid b order turns k) where
  pub before-is : (x y : ℕ) → known.comes_before b k x y ≡ true → IsBefore b order turns x y
  before-is x y h i j at-x at-y = go (or_cases (b.precedes x y) (list_any (λ p. p.0 == x && p.1 == y) k.pairs) h)
    where
      go : (b.precedes x y ≡ true) ⊎ (list_any (λ p. p.0 == x && p.1 == y) k.pairs ≡ true) → i < j
      go (inl t) = play.timely i j x y at-x at-y t
      go (inr t) =
          let p = any-one (λ p. p.0 == x && p.1 == y) k.pairs t in
          let e = and_parts (p.0.0 == x) (p.0.1 == y) p.2 in
          valid.pairs p.0 p.1 i j (at-x ∙ ap Some (sym (eqb-true p.0.0 x e.0))) (at-y ∙ ap Some (sym (eqb-true p.0.1 y e.1)))

  pub there-is : (x : ℕ) → known.is_present b k x ≡ true → IsThere b order turns x
  there-is x h = go (or_cases (b.committed x) (known.is_among x k.present) h)
    where
      go : (b.committed x ≡ true) ⊎ (known.is_among x k.present ≡ true) → IsThere b order turns x
      go (inl t) = play.complete x t
      go (inr t) = let p = any-one (λ j. j == x) k.present t in subst (IsThere b order turns) (eqb-true p.0 x p.2) (valid.present p.0 p.1)

  -- a way that was taken isn't excluded
  not-excluded : (x i n : ℕ) (s : P) (w : W) → slice_get order i ≡ Some x → HasWay b x s (turns s i) n w → known.is_excluded b k x s n ≡ false
  not-excluded x i n s w at way = false_from_ne_true (known.is_excluded b k x s n) (λ t.
      let p = any-one (λ e. e.place == x && e.way == n && b.same_spot e.spot s) k.excluded t in
      let e = p.0 in
      let h = and_parts (e.place == x && e.way == n) (b.same_spot e.spot s) p.2 in
      let g = and_parts (e.place == x) (e.way == n) h.0 in
      let place : e.place ≡ x = eqb-true e.place x g.0 in
      let number : e.way ≡ n = eqb-true e.way n g.1 in
      let spot : e.spot ≡ s = exact.spot e.spot s h.1 in
      valid.excluded e p.1 i w (at ∙ ap Some (sym place))
      (subst (λ z. HasWay b z e.spot (turns e.spot i) e.way w) (sym place)
      (subst (λ z. HasWay b x z (turns z i) e.way w) (sym spot)
      (subst (λ z. HasWay b x s (turns s i) z w) (sym number) way))))

  left-among : (x : ℕ) (s : P) (ws : List W) (m n p : ℕ) (w : W) → slice_get ws n ≡ Some w → p ≡ m + n → known.is_excluded b k x s p ≡ false → Among w (known.left_from b k x s m ws)
  left-among x s [] m n p w e q f = cc
  left-among x s (v ∷ vs) m zero p w e q f =
      let at : p ≡ m = omega (arith, q) in
      cond_both (known.is_excluded b k x s m) (known.left_from b k x s (suc m) vs) (v ∷ known.left_from b k x s (suc m) vs) (λ l. Among w l)
      (λ t. absurd (true≢false (sym t ∙ ap (known.is_excluded b k x s) (sym at) ∙ f)))
      (λ t. inl (sym (same_Some v w e)))
  left-among x s (v ∷ vs) m (suc n) p w e q f =
      let r = left-among x s vs (suc m) n p w e (omega (arith, q)) f in
      cond_both (known.is_excluded b k x s m) (known.left_from b k x s (suc m) vs) (v ∷ known.left_from b k x s (suc m) vs) (λ l. Among w l)
      (λ t. r) (λ t. inr r)

  -- the way that was taken is among those that are left
  pub way-left : (x i n : ℕ) (s : P) (w : W) → slice_get order i ≡ Some x → HasWay b x s (turns s i) n w → Among w (known.left b k x s)
  way-left x i n s w at way = left-among x s (b.ways x s) 0 n n w way.way (omega arith) (not-excluded x i n s w at way)

  is-write-no : (e : Effect S) → is_write e ≡ true → e ≡ Keeps → ⊥
  is-write-no Keeps h q = absurd (true≢false (sym h))
  is-write-no (Leaves s) h q = cc
  is-write-no (Adds m d) h q = cc
  is-write-no Unknown h q = cc

  -- a sure writer is none of those that keep the cell
  pub sure-writer : (c : Cell P) (i j m x : ℕ) → AllKeep b order turns c i j → i ≤ m → m < j → slice_get order m ≡ Some x → known.surely_writes b k x c ≡ true → ⊥
  sure-writer c i j m x all l u at s =
      let r = all m x l u at in
      is-write-no (b.effect c.spot r.1 c.column) (all-each (λ w. is_write (b.effect c.spot w c.column)) r.1 (known.left b k x c.spot) s (way-left x m r.0 c.spot r.1 at r.2)) r.3

  pub no-writer : (c : Cell P) (i j m x : ℕ) → AllKeep b order turns c i j → i ≤ m → m < j → slice_get order m ≡ Some x → known.is_writer b k c x ≡ true → ⊥
  no-writer c i j m x all l u at h = sure-writer c i j m x all l u at (and_parts (known.is_present b k x) (known.surely_writes b k x c) h).1

  pub found-is : (x i m : ℕ) (s : P) (v : S) → slice_get order i ≡ Some x → known.found_in b k x s m ≡ Some v → (turns s i).before m ≡ v
  found-is x i m s v at e = go (find (λ f. f.place == x && f.cell.column == m && b.same_spot f.cell.spot s) k.findings) refl
    where
      go : (o : Option (Finding S P)) → find (λ f. f.place == x && f.cell.column == m && b.same_spot f.cell.spot s) k.findings ≡ o → (turns s i).before m ≡ v
      go None q = absurd (none-some (sym (ap (λ o. option_map (λ f. f.state) o) q) ∙ e))
        where
          none-some : None ≡ Some v → ⊥
          none-some p = cc
      go (Some f) q =
          let a = find-one (λ f. f.place == x && f.cell.column == m && b.same_spot f.cell.spot s) k.findings f q in
          let h = and_parts (f.place == x && f.cell.column == m) (b.same_spot f.cell.spot s) a.1 in
          let g = and_parts (f.place == x) (f.cell.column == m) h.0 in
          let column : f.cell.column ≡ m = eqb-true f.cell.column m g.1 in
          let spot : f.cell.spot ≡ s = exact.spot f.cell.spot s h.1 in
          let state : f.state ≡ v = same_Some f.state v (sym (ap (λ o. option_map (λ f. f.state) o) q) ∙ e) in
          let is = valid.findings f a.0 i (at ∙ ap Some (sym (eqb-true f.place x g.0))) in
          subst (λ z. (turns s i).before z ≡ v) column (subst (λ z. (turns z i).before f.cell.column ≡ v) spot (is ∙ state))

  -- what was left passes, where it passes what the next one found
  pub passes-effect : (may : S → Bool) (c : Cell P) (i x : ℕ) (e : Effect S) → slice_get order i ≡ Some x → may ((turns c.spot i).after c.column) ≡ true → (e ≡ Keeps → ⊥)
      → Does b (turns c.spot i).before c.column ((turns c.spot i).after c.column) e → known.passes b k may x c.spot e ≡ true
  passes-effect may c i x Keeps at m n d = absurd (n refl)
  passes-effect may c i x (Leaves s) at m n d = subst (λ z. may z ≡ true) d m
  passes-effect may c i x (Adds q z) at m n d = go (known.found_in b k x c.spot q) refl
    where
      go : (o : Option S) → known.found_in b k x c.spot q ≡ o → known.passes_sum b k may z o ≡ true
      go None e = refl
      go (Some v) e = or_right (b.overflows v z) (may (b.plus v z)) (subst (λ u. may u ≡ true) (d ∙ ap (λ u. b.plus u z) (found-is x i q c.spot v at e)) m)
  passes-effect may c i x Unknown at m n d = refl
