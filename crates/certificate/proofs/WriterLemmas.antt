-- Whoever wrote a cell last has left what the next one finds there.
use Rattle.std.proofs.Common.{◌≡◌, ◌⊎◌, refl, sym, ap, subst, ◌∙◌, ◌<◌, ◌≤◌, ℕ, zero, suc, inl, inr, List, [], ◌∷◌, slice_get, Some, arith}
use Rattle.std.proofs.lemmas.Bool.{cases_eq}
use Rattle.std.proofs.lemmas.Option.{same_Some}
use Rattle.certificate.specs.Board.{Board, Effect, Keeps, Leaves, Adds, Unknown}
use Rattle.certificate.specs.Knowledge.{Cell}
use Rattle.certificate.specs.Order.{Turn, Does, HasWay, Play, AllKeep, IsUnwritten, IsLeftBy}

pub below-suc : (m j : ℕ) → m < suc j → (m < j) ⊎ (m ≡ j)
below-suc m j l = go (cases_eq m j)
  where
    go : (m ≡ j) ⊎ (m ≡ j → ⊥) → (m < j) ⊎ (m ≡ j)
    go (inl e) = inr e
    go (inr n) = inl (omega (arith, n, l))

-- a place before one that there is, is there
pub place-before : (xs : List ℕ) (i j x : ℕ) → i < j → slice_get xs j ≡ Some x → (y : ℕ) × (slice_get xs i ≡ Some y)
place-before [] i j x l e = cc
place-before (z ∷ zs) zero j x l e = (z, refl)
place-before (z ∷ zs) (suc i) zero x l e = absurd (omega (arith, l))
place-before (z ∷ zs) (suc i) (suc j) x l e = place-before zs i j x (omega arith) e

keeps-or : {S : Type 0} (e : Effect S) → (e ≡ Keeps) ⊎ (e ≡ Keeps → ⊥)
keeps-or Keeps = inl refl
keeps-or (Leaves s) = inr (λ e. cc)
keeps-or (Adds m d) = inr (λ e. cc)
keeps-or Unknown = inr (λ e. cc)

module _ {W S P : Type 0} (b : Board W S P) (order : List ℕ) (turns : P → ℕ → Turn S) (play : Play b order turns) where
  kept-so : (before : ℕ → S) (n : ℕ) (after : S) (e : Effect S) → e ≡ Keeps → Does b before n after e → after ≡ before n
  kept-so before n after e k d = subst (λ f. Does b before n after f) k d

  keep-last : (c : Cell P) (i j x n : ℕ) (w : W) → AllKeep b order turns c i j → slice_get order j ≡ Some x → HasWay b x c.spot (turns c.spot j) n w → b.effect c.spot w c.column ≡ Keeps → AllKeep b order turns c i (suc j)
  keep-last c i j x n w all at way k = λ m y l u e. go m y l u e (below-suc m j u)
    where
      go : (m y : ℕ) → i ≤ m → m < suc j → slice_get order m ≡ Some y → (m < j) ⊎ (m ≡ j) → (q : ℕ) × (v : W) × HasWay b y c.spot (turns c.spot m) q v × (b.effect c.spot v c.column ≡ Keeps)
      go m y l u e (inl s) = all m y l s e
      go m y l u e (inr s) = let same : x ≡ y = same_Some x y (sym at ∙ ap (slice_get order) (sym s) ∙ e) in
          (n, w, subst (λ z. HasWay b z c.spot (turns c.spot m) n w) same (subst (λ z. HasWay b x c.spot (turns c.spot z) n w) (sym s) way), k)

  -- the last writer, or nobody
  pub left-by : (c : Cell P) (j x : ℕ) → slice_get order j ≡ Some x
      → IsUnwritten b order turns c j ⊎ ((i y n : ℕ) × (w : W) × IsLeftBy b order turns c j i y n w)
  left-by c zero x e = inl (record {
    kept = λ m y l u g. absurd (omega (arith, u));
    state = play.opened c.spot c.column;
  })
  left-by c (suc j) x e =
      let before = place-before order j (suc j) x (omega arith) e in
      let way = play.ways c.spot j before.0 before.1 in
      go before.0 before.1 way.0 way.1 way.2 (left-by c j before.0 before.1) (keeps-or (b.effect c.spot way.1 c.column))
    where
      go : (y : ℕ) → slice_get order j ≡ Some y → (n : ℕ) (w : W) → HasWay b y c.spot (turns c.spot j) n w
          → IsUnwritten b order turns c j ⊎ ((i z m : ℕ) × (v : W) × IsLeftBy b order turns c j i z m v)
          → (b.effect c.spot w c.column ≡ Keeps) ⊎ (b.effect c.spot w c.column ≡ Keeps → ⊥)
          → IsUnwritten b order turns c (suc j) ⊎ ((i z m : ℕ) × (v : W) × IsLeftBy b order turns c (suc j) i z m v)
      go y at n w way (inl h) (inl k) = inl (record {
        kept = keep-last c 0 j y n w h.kept at way k;
        state = play.joined c.spot j c.column ∙ kept-so (turns c.spot j).before c.column ((turns c.spot j).after c.column) (b.effect c.spot w c.column) k (way.does c.column) ∙ h.state;
      })
      go y at n w way (inr (i, z, m, v, h)) (inl k) = inr (
        i,
        z,
        m,
        v,
        record {
          earlier = (let l : i < j = h.earlier in omega arith);
          at = h.at;
          way = h.way;
          writes = h.writes;
          state = play.joined c.spot j c.column ∙ kept-so (turns c.spot j).before c.column ((turns c.spot j).after c.column) (b.effect c.spot w c.column) k (way.does c.column) ∙ h.state;
          kept = keep-last c (suc i) j y n w h.kept at way k;
        },
      )
      go y at n w way h (inr k) = inr (
        j,
        y,
        n,
        w,
        record {
          earlier = omega arith;
          at = at;
          way = way;
          writes = k;
          state = play.joined c.spot j c.column;
          kept = λ m z l u g. absurd (omega (arith, l, u));
        },
      )
