-- What is drawn: the turns of sessions in a row, and of what a shuffle makes of them.
use Rattle.std.proofs.Common.{◌≡◌, refl, sym, ap, ◌∙◌, subst, ℕ, zero, suc, ◌+◌, ◌-◌, ◌*◌, ◌<◌, ◌≤◌, ◌^◌, Bool, true, false, cond, eqb, nat_lt, List, [], ◌∷◌, ◌++◌, drop, map, length, get_or, sum, replicate, arith}
use Rattle.std.specs.List.{All, range_with_len, sum_by}
use Rattle.std.specs.List.Sorted.{IsPermutation}
use Rattle.std.proofs.lemmas.Bool.{eq-eqb, ne_eqb}
use Rattle.std.proofs.lemmas.List.{drop_more, length-append}
use Rattle.std.proofs.lemmas.List.Edits.{length-swap}
use Rattle.std.proofs.lemmas.List.Elements.{All-from_get_or}
use Rattle.std.proofs.lemmas.List.FromFn.{get_or-map-range_with_len, length-map-range_with_len}
use Rattle.std.proofs.lemmas.List.Recursion.{is_sum_by}
use Rattle.std.proofs.lemmas.List.Sorted.{sum_by-IsPermutation}
use Rattle.rand.specs.Shuffle.{Chooser, chooser_at, chooser_next, narrow_swaps, shuffled, wide_swaps}
use Rattle.rand_core.specs.Stream.{Stream}
use Rattle.rand_core.specs.Steps.{stream_of, steps_u64_low}
use Rattle.rand_pcg.specs.Pcg.{pcg64}
use Rattle.explore.specs.Interleavings.{IsInterleaving, turns}
use Rattle.explore.proofs.Factorials.{sum-cons}
use Rattle.explore.specs.Sampling.{Sampled, drawn, draws, generator_at, in_a_row}

-- ---- sessions in a row

length-turns : (n s : ℕ) → length (replicate n s) ≡ n
length-turns zero s = refl
length-turns (suc n) s = omega (arith, length-turns n s)

pub length-row : (s : ℕ) (ns : List ℕ) → length (in_a_row s ns) ≡ sum ns
length-row s [] = refl
length-row s (n ∷ ns) = omega (arith, length-append (replicate n s) (in_a_row (suc s) ns), length-turns n s, length-row (suc s) ns, sum-cons n ns)

-- the next session's turns, and those that are left
pub row-more : (lines : List ℕ) (s d : ℕ) → s < length lines → in_a_row s (drop s lines) ≡ replicate (get_or lines s d) s ++ in_a_row (s + 1) (drop (s + 1) lines)
row-more lines s d h = ap (in_a_row s) (drop_more lines s d h) ∙ ap (λ (j : ℕ). replicate (get_or lines s d) s ++ in_a_row j (drop (s + 1) lines)) (omega arith)

turns-append : (s : ℕ) (xs ys : List ℕ) → turns s (xs ++ ys) ≡ turns s xs + turns s ys
turns-append s [] ys = omega arith
turns-append s (x ∷ xs) ys = omega (arith, turns-append s xs ys)

turns-own : (n s : ℕ) → turns s (replicate n s) ≡ n
turns-own zero s = refl
turns-own (suc n) s = ap (λ b. cond b 1 0 + turns s (replicate n s)) (eq-eqb s s refl) ∙ omega (arith, turns-own n s)

turns-other : (n s t : ℕ) → (t ≡ s → ⊥) → turns s (replicate n t) ≡ 0
turns-other zero s t d = refl
turns-other (suc n) s t d = ap (λ b. cond b 1 0 + turns s (replicate n t)) (ne_eqb t s d) ∙ omega (arith, turns-other n s t d)

turns-before : (s k : ℕ) (ns : List ℕ) → s < k → turns s (in_a_row k ns) ≡ 0
turns-before s k [] h = refl
turns-before s k (n ∷ ns) h =
    turns-append s (replicate n k) (in_a_row (suc k) ns)
    ∙ omega (arith, turns-other n s k (λ e. omega (arith, e, h)), turns-before s (suc k) ns (omega (arith, h)))

turns-row : (s k j : ℕ) (ns : List ℕ) → s ≡ k + j → turns s (in_a_row k ns) ≡ get_or ns j 0
turns-row s k j [] e = refl
turns-row s k zero (n ∷ ns) e =
    let same : s ≡ k = omega (arith, e) in
    let own : turns s (replicate n k) ≡ n = subst (λ (t : ℕ). turns s (replicate n t) ≡ n) same (turns-own n s) in
    turns-append s (replicate n k) (in_a_row (suc k) ns) ∙ omega (arith, own, turns-before s (suc k) ns (omega (arith, e)))
turns-row s k (suc j) (n ∷ ns) e =
    turns-append s (replicate n k) (in_a_row (suc k) ns)
    ∙ omega (arith, turns-other n s k (λ d. omega (arith, d, e)), turns-row s (suc k) j ns (omega (arith, e)))

turns-sum : (s : ℕ) (xs : List ℕ) → turns s xs ≡ sum_by (λ x. cond (eqb x s) 1 0) xs
turns-sum s xs = is_sum_by (turns s) (λ x. cond (eqb x s) 1 0) refl (λ x ys. refl) xs

-- in whatever order, each session goes as often as it has lines
pub interleaves : (lines xs ys : List ℕ) → xs ≡ in_a_row 0 lines → IsPermutation xs ys → IsInterleaving lines ys
interleaves lines xs ys e p = λ s.
    turns-sum s ys
    ∙ sum_by-IsPermutation (λ x. cond (eqb x s) 1 0) xs ys p
    ∙ sym (turns-sum s xs)
    ∙ ap (turns s) e
    ∙ turns-row s 0 s lines (omega arith)

-- ---- a shuffle

length-narrow : (xs : List ℕ) (c : Chooser) (s : Stream) (k : ℕ) → length (narrow_swaps xs c s k).0 ≡ length xs
unfolding narrow_swaps
length-narrow xs c s zero = refl
length-narrow xs c s (suc k) =
    let p = narrow_swaps xs c s k in
    length-swap p.0 p.1.n (chooser_next p.1 p.2).0 ∙ length-narrow xs c s k

length-wide : (xs : List ℕ) (start : ℕ) (s : Stream) (k : ℕ) → length (wide_swaps xs start s k).0 ≡ length xs
unfolding wide_swaps
length-wide xs start s zero = refl
length-wide xs start s (suc k) = length-swap (wide_swaps xs start s k).0 (start + k) _ ∙ length-wide xs start s k

length-either : (b : Bool) (p : List ℕ × Chooser × Stream) (q : List ℕ × Stream) (n : ℕ) → length p.0 ≡ n → length q.0 ≡ n → length (cond b (p.0, p.2) q).0 ≡ n
length-either true p q n d e = d
length-either false p q n d e = e

length-shuffled : (xs : List ℕ) (s : Stream) → length (shuffled xs 0 s).0 ≡ length xs
length-shuffled xs s =
    length-either (nat_lt (length xs) (2 ^ 32 - 1)) (narrow_swaps xs (chooser_at 0) s (length xs - 0)) (wide_swaps xs 0 s (length xs - 0)) (length xs)
    (length-narrow xs (chooser_at 0) s (length xs - 0)) (length-wide xs 0 s (length xs - 0))

-- ---- what is drawn

pub length-drawn : (s : Sampled) (n : ℕ) → length (drawn s n) ≡ sum s.lines
unfolding drawn
length-drawn s n = length-shuffled (in_a_row 0 s.lines) (stream_of (steps_u64_low pcg64) (generator_at s.seed (sum s.lines) n)) ∙ length-row 0 s.lines

pub length-draws : (s : Sampled) → length (draws s) ≡ s.count
unfolding draws
length-draws s = length-map-range_with_len (drawn s) 0 s.count

pub draw-at : (s : Sampled) (n : ℕ) (d : List ℕ) → n < s.count → get_or (draws s) n d ≡ drawn s n
unfolding draws
draw-at s n d h = get_or-map-range_with_len (drawn s) 0 s.count n n d h (omega arith)

pub all_drawn : (s : Sampled) → All (λ order. length order ≡ sum s.lines) (draws s)
all_drawn s = All-from_get_or (λ order. length order ≡ sum s.lines) (draws s) [] (λ i h. ap length (draw-at s i [] (omega (arith, h, length-draws s))) ∙ length-drawn s i)

pub drawn_is : (s : Sampled) (n k : ℕ) → k ≡ sum s.lines → (shuffled (in_a_row 0 s.lines) 0 (stream_of (steps_u64_low pcg64) (generator_at s.seed k n))).0 ≡ drawn s n
unfolding drawn
drawn_is s n k e = ap (λ (j : ℕ). (shuffled (in_a_row 0 s.lines) 0 (stream_of (steps_u64_low pcg64) (generator_at s.seed j n))).0) e
