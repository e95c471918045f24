-- Stretches of schedules: one more of them, and two one after the other.
use Rattle.std.proofs.Common.{◌≡◌, sym, ap, ◌∙◌, ℕ, ◌+◌, ◌-◌, ◌<◌, ◌≤◌, min, List, [], ◌∷◌, ◌++◌, length, get_or, take, drop, map, slice_range, arith}
use Rattle.std.proofs.Math.Seq.{take-add}
use Rattle.std.proofs.lemmas.List.{take_more, map_push, map-append, length-map, length-take, length-drop, drop-drop, get_or-drop, take_all}
use Rattle.explore.specs.Outcomes.{Counted, all_runs, joined, noted, noted_all, outcomes, outcomes_from}
use Rattle.explore.proofs.Joined.{all_runs-noted_all, noted_all-push, stretches}

module _ (f : List ℕ → List ℕ) (orders : List (List ℕ)) where
  length-stretch : (n m : ℕ) → n ≤ m → m ≤ length orders → length (map f (slice_range orders n m)) ≡ m - n
  length-stretch n m a b = omega (arith, length-map (take (m - n) (drop n orders)) f, length-take (m - n) (drop n orders), length-drop n orders)

  -- a run for each order of the stretch
  pub runs_so_far : (n m : ℕ) → n ≤ m → m ≤ length orders → all_runs (noted_all [] (map f (take (m - n) (drop n orders))) n) ≡ m - n
  runs_so_far n m a b = omega (arith, all_runs-noted_all [] (map f (take (m - n) (drop n orders))) n, length-stretch n m a b)

  -- the next run of a stretch
  pub next_run : (n m : ℕ) → n ≤ m → m < length orders →
      noted_all [] (map f (take (m + 1 - n) (drop n orders))) n ≡ noted (noted_all [] (map f (take (m - n) (drop n orders))) n) (f (get_or orders m [])) m
  next_run n m a b =
      let k = m - n in
      let len : length (drop n orders) ≡ length orders - n = length-drop n orders in
      let so_far : length (map f (take k (drop n orders))) ≡ k = length-stretch n m a (omega (arith, b)) in
      let place : n + k ≡ m = omega (arith, a) in
      ap (λ (j : ℕ). noted_all [] (map f (take j (drop n orders))) n) (omega (arith, a))
      ∙ ap (λ x. noted_all [] (map f x) n) (take_more (drop n orders) k [] (omega (arith, len, a, b)))
      ∙ ap (λ x. noted_all [] x n) (map_push f (take k (drop n orders)) (get_or (drop n orders) k []))
      ∙ noted_all-push [] (map f (take k (drop n orders))) (f (get_or (drop n orders) k [])) n
      ∙ ap (λ x. noted (noted_all [] (map f (take k (drop n orders))) n) (f x) (n + length (map f (take k (drop n orders))))) (get_or-drop n orders k [] ∙ ap (λ (j : ℕ). get_or orders j []) place)
      ∙ ap (λ (j : ℕ). noted (noted_all [] (map f (take k (drop n orders))) n) (f (get_or orders m [])) j) (omega (arith, so_far, place))

  -- two stretches, one after the other
  pub both : (n m l : ℕ) → n ≤ m → m ≤ l → l ≤ length orders →
      joined (outcomes_from n (map f (slice_range orders n m))) (outcomes_from m (map f (slice_range orders m l))) ≡ outcomes_from n (map f (slice_range orders n l))
  both n m l a b c =
      let i = m - n in
      let j = l - m in
      stretches n m (map f (slice_range orders n m)) (map f (slice_range orders m l)) (omega (arith, length-stretch n m a (omega (arith, b, c)), a))
      ∙ ap (λ x. outcomes_from n x) (sym (map-append f (slice_range orders n m) (slice_range orders m l)))
      ∙ ap (λ x. outcomes_from n (map f x)) (ap (λ x. take i (drop n orders) ++ take j x) (ap (λ (k : ℕ). drop k orders) (omega (arith, a)) ∙ sym (drop-drop i n orders)) ∙ sym (take-add i j (drop n orders)) ∙ ap (λ (k : ℕ). take k (drop n orders)) (omega (arith, a, b)))

  -- there is room to count both
  pub room_for_both : (n m l : ℕ) → n ≤ m → m ≤ l → l ≤ length orders →
      all_runs (outcomes_from n (map f (slice_range orders n m))) + all_runs (outcomes_from m (map f (slice_range orders m l))) ≤ l
  room_for_both n m l a b c = omega (arith, runs_so_far n m a (omega (arith, b, c)), runs_so_far m l b c, a, b)

  -- all schedules
  pub whole : (l : ℕ) → l ≡ length orders → outcomes_from 0 (map f (slice_range orders 0 l)) ≡ outcomes (map f orders)
  unfolding outcomes
  whole l e = ap (λ x. outcomes_from 0 (map f x)) (take_all (l - 0) orders (omega (arith, e)))

-- every run is counted
pub every_run : (texts : List (List ℕ)) → all_runs (outcomes texts) ≡ length texts
unfolding outcomes
every_run texts = all_runs-noted_all [] texts 0 ∙ omega arith
