-- The sessions of the open transactions that may write, in their order, where each transaction becomes what it becomes.
use Rattle.std.proofs.Common.{◌≡◌, refl, ap, ◌∙◌, ℕ, Bool, true, false, cond, ◌&&◌, inl, inr, List, [], ◌∷◌, map}
use Rattle.std.specs.List.{filter}
use Rattle.value.proofs.IsolationLemmas.{In}
use Rattle.history.specs.Transactions.{Txn}
use Rattle.alike.specs.Worlds.{is_writer}

module _ {A : Type 0} where
  abbrev pub sessions : List (Txn A) → List ℕ
  sessions ts = map (λ (t : Txn A). t.session) ts

  -- those that stay writers
  pub writers_after : (d : Txn A → Txn A) (stays : Txn A → Bool) (ts : List (Txn A)) → ((t : Txn A) → In t ts → ((d t).session ≡ t.session) × (is_writer (d t) ≡ (is_writer t && stays t)))
      → sessions (filter is_writer (map d ts)) ≡ sessions (filter stays (filter is_writer ts))
  writers_after d stays [] h = refl
  writers_after d stays (t ∷ ts) h = ap (λ b. sessions (cond b (d t ∷ filter is_writer (map d ts)) (filter is_writer (map d ts)))) (h t (inl refl)).1
      ∙ go (is_writer t) (writers_after d stays ts (λ u i. h u (inr i)))
    where
      rest : List (Txn A)
      rest = filter is_writer (map d ts)

      at : (c : Bool) → sessions rest ≡ sessions (filter stays (filter is_writer ts)) → sessions (cond c (d t ∷ rest) rest) ≡ sessions (cond c (t ∷ filter stays (filter is_writer ts)) (filter stays (filter is_writer ts)))
      at true e = ap (λ n. n ∷ sessions rest) (h t (inl refl)).0 ∙ ap (λ ns. t.session ∷ ns) e
      at false e = e

      go : (b : Bool) → sessions rest ≡ sessions (filter stays (filter is_writer ts)) → sessions (cond (b && stays t) (d t ∷ rest) rest) ≡ sessions (filter stays (cond b (t ∷ filter is_writer ts) (filter is_writer ts)))
      go true e = at (stays t) e
      go false e = e

  -- of two lists of the same sessions, where those of one session stay in both or in neither
  pub same_stay : (p q : Txn A → Bool) (xs ys : List (Txn A)) → sessions xs ≡ sessions ys → ((x y : Txn A) → In x xs → In y ys → x.session ≡ y.session → p x ≡ q y) → sessions (filter p xs) ≡ sessions (filter q ys)
  same_stay p q [] [] e h = refl
  same_stay p q [] (y ∷ ys) e h = cc
  same_stay p q (x ∷ xs) [] e h = cc
  same_stay p q (x ∷ xs) (y ∷ ys) e h = ap (λ b. sessions (cond b (x ∷ filter p xs) (filter p xs))) (h x y (inl refl) (inl refl) first) ∙ go (q y) (same_stay p q xs ys rest (λ z u i j. h z u (inr i) (inr j)))
    where
      first : x.session ≡ y.session
      first = cc

      rest : sessions xs ≡ sessions ys
      rest = cc

      go : (b : Bool) → sessions (filter p xs) ≡ sessions (filter q ys) → sessions (cond b (x ∷ filter p xs) (filter p xs)) ≡ sessions (cond b (y ∷ filter q ys) (filter q ys))
      go true k = ap (λ n. n ∷ sessions (filter p xs)) first ∙ ap (λ ns. y.session ∷ ns) k
      go false k = k
