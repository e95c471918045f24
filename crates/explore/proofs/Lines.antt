-- The lines of a text, byte by byte; and sessions, one by one.
use Rattle.std.proofs.Common.{◌≡◌, refl, sym, ap, ◌∙◌, ℕ, zero, suc, ◌+◌, ◌-◌, ◌<◌, ◌≤◌, Bool, true, false, ◌||◌, cond, bytes_eq, List, [], ◌∷◌, ◌++◌, map, length, get_or, take, drop, slice_range, append_assoc, arith}
use Rattle.std.specs.Prelude.{slice_get}
use Rattle.std.specs.List.{filter, list_any, range_with_len}
use Rattle.std.proofs.lemmas.Bool.{eq-eqb, ne_eqb}
use Rattle.std.proofs.lemmas.List.{append-nil, drop_more, get_or-drop, length-append, length-drop, map_push, take_more}
use Rattle.std.proofs.lemmas.List.Elements.{filter-append}
use Rattle.std.proofs.lemmas.List.Folds.{list_any-append, list_any_at}
use Rattle.std.proofs.lemmas.List.FromFn.{get_or-range_with_len, length-range_with_len}
use denote.Ref.{Bor}
use Rattle.std.specs.Fmt.{decimal}
use Rattle.explore.specs.Refusals.{cause_reply, ends_so, is_told, lines, lines_from, may_refuse, refusals, refuses, row_reply, sessions}
use Rattle.explore.proofs.Joined.{same}

-- ---- lines

-- a newline ends a line
pub line_ends : (text : List ℕ) (start i : ℕ) (xs : List (List ℕ)) → i < length text → get_or text i 0 ≡ 10 →
    (xs ++ slice_range text start i ∷ []) ++ lines_from (slice_range text (i + 1) (i + 1)) (drop (i + 1) text) ≡ xs ++ lines_from (slice_range text start i) (drop i text)
line_ends text start i xs h e =
    let line = slice_range text start i in
    let rest = drop (i + 1) text in
    let next : lines_from line (drop i text) ≡ line ∷ lines_from [] rest =
    ap (lines_from line) (drop_more text i 0 h) ∙ ap (λ b. cond b (line ∷ lines_from [] rest) (lines_from (line ++ get_or text i 0 ∷ []) rest)) (eq-eqb (get_or text i 0) 10 e) in
    let none : (i + 1) - (i + 1) ≡ 0 = omega arith in
    ap (λ (k : ℕ). (xs ++ line ∷ []) ++ lines_from (take k rest) rest) none
    ∙ append_assoc xs (line ∷ []) (lines_from [] rest)
    ∙ ap (λ l. xs ++ l) (sym next)

-- another byte is the line's
pub line_goes_on : (text : List ℕ) (start i : ℕ) → start ≤ i → i < length text → (get_or text i 0 ≡ 10 → ⊥) →
    lines_from (slice_range text start (i + 1)) (drop (i + 1) text) ≡ lines_from (slice_range text start i) (drop i text)
line_goes_on text start i s h n =
    let line = slice_range text start i in
    let rest = drop (i + 1) text in
    let next : lines_from line (drop i text) ≡ lines_from (line ++ get_or text i 0 ∷ []) rest =
    ap (lines_from line) (drop_more text i 0 h) ∙ ap (λ b. cond b (line ∷ lines_from [] rest) (lines_from (line ++ get_or text i 0 ∷ []) rest)) (ne_eqb (get_or text i 0) 10 n) in
    let more : i + 1 - start ≡ i - start + 1 = omega (arith, s) in
    let place : start + (i - start) ≡ i = omega (arith, s) in
    let longer : slice_range text start (i + 1) ≡ line ++ get_or text i 0 ∷ [] =
    ap (λ (k : ℕ). take k (drop start text)) more ∙ take_more (drop start text) (i - start) 0 (omega (arith, length-drop start text, s, h))
    ∙ ap (λ (b : ℕ). line ++ b ∷ []) (get_or-drop start text (i - start) 0 ∙ ap (λ (k : ℕ). get_or text k 0) place) in
    ap (λ l. lines_from l rest) longer ∙ sym next

-- ---- sessions

range-more : (a n : ℕ) → range_with_len a (n + 1) ≡ range_with_len a n ++ (a + n) ∷ []
range-more a zero = let e : a ≡ a + 0 = omega arith in ap (λ (k : ℕ). k ∷ []) e
range-more a (suc n) =
    let e : suc n + 1 ≡ suc (n + 1) = omega arith in
    let f : a + 1 + n ≡ a + suc n = omega arith in
    ap (range_with_len a) e ∙ ap (λ l. a ∷ l) (range-more (a + 1) n ∙ ap (λ (k : ℕ). range_with_len (a + 1) n ++ k ∷ []) f)

next-session : (s : ℕ) → 0 < s → range_with_len 1 (s + 1 - 1) ≡ range_with_len 1 (s - 1) ++ s ∷ []
next-session s p =
    let e : s + 1 - 1 ≡ s - 1 + 1 = omega (arith, p) in
    let f : 1 + (s - 1) ≡ s = omega (arith, p) in
    ap (range_with_len 1) e ∙ range-more 1 (s - 1) ∙ ap (λ (k : ℕ). range_with_len 1 (s - 1) ++ k ∷ []) f

-- one more session, which passes or doesn't
pub one_more : (p : ℕ → Bool) (s : ℕ) → 0 < s → p s ≡ true → filter p (range_with_len 1 (s + 1 - 1)) ≡ filter p (range_with_len 1 (s - 1)) ++ s ∷ []
one_more p s h e = ap (filter p) (next-session s h) ∙ filter-append p (range_with_len 1 (s - 1)) (s ∷ []) ∙ ap (λ b. filter p (range_with_len 1 (s - 1)) ++ cond b (s ∷ []) []) e

pub none_more : (p : ℕ → Bool) (s : ℕ) → 0 < s → p s ≡ false → filter p (range_with_len 1 (s + 1 - 1)) ≡ filter p (range_with_len 1 (s - 1))
none_more p s h e = ap (filter p) (next-session s h) ∙ filter-append p (range_with_len 1 (s - 1)) (s ∷ []) ∙ ap (λ b. filter p (range_with_len 1 (s - 1)) ++ cond b (s ∷ []) []) e ∙ append-nil (filter p (range_with_len 1 (s - 1)))

pub all_filtered : (p : ℕ → Bool) (s : ℕ) → s ≡ 65 → filter p (range_with_len 1 (s - 1)) ≡ filter p sessions
unfolding sessions
all_filtered p s e = ap (λ (k : ℕ). filter p (range_with_len 1 (k - 1))) e

-- none so far, and one more
pub still_none : (p : ℕ → Bool) (s : ℕ) → 0 < s → list_any p (range_with_len 1 (s - 1)) ≡ false → p s ≡ false → list_any p (range_with_len 1 (s + 1 - 1)) ≡ false
still_none p s h e f =
    ap (list_any p) (next-session s h)
    ∙ list_any-append p (range_with_len 1 (s - 1)) (s ∷ [])
    ∙ ap (λ b. b || (p s || false)) e
    ∙ ap (λ b. b || false) f

pub none_of_all : (p : ℕ → Bool) (s : ℕ) → s ≡ 65 → list_any p (range_with_len 1 (s - 1)) ≡ false → list_any p sessions ≡ false
unfolding sessions
none_of_all p s e f = ap (λ (k : ℕ). list_any p (range_with_len 1 (k - 1))) (sym e) ∙ f

pub some_of_all : (p : ℕ → Bool) (s : ℕ) → 0 < s → s < 65 → p s ≡ true → list_any p sessions ≡ true
unfolding sessions
some_of_all p s low high e =
    let here : 1 + (s - 1) ≡ s = omega (arith, low) in
    list_any_at p (range_with_len 1 64) (s - 1) 0 (omega (arith, length-range_with_len 1 64, low, high))
    (ap p (get_or-range_with_len 1 64 (s - 1) 0 (omega (arith, low, high)) ∙ here) ∙ e)

-- ---- lines as references

abbrev pub texts : List (Bor (List ℕ)) → List (List ℕ)
texts found = map (λ l. l.now) found

any-map : (p : List ℕ → Bool) (found : List (Bor (List ℕ))) → list_any p (texts found) ≡ list_any (λ l. p l.now) found
any-map p [] = refl
any-map p (l ∷ found) = ap (λ b. p l.now || b) (any-map p found)

-- one of the lines is a reply to a session
pub told_is : (found : List (Bor (List ℕ))) (line reply : List ℕ) (s : ℕ) → line ≡ decimal s ++ reply → list_any (λ l. bytes_eq l.now line) found ≡ is_told reply (texts found) s
told_is found line reply s e =
    ap (λ (x : List ℕ). list_any (λ l. bytes_eq l.now x) found) e ∙ sym (any-map (λ l. bytes_eq l (decimal s ++ reply)) found)

-- the lines so far, once a newline has come
pub line_taken : (text : List ℕ) (start next i : ℕ) (xs ys : List (Bor (List ℕ))) (b : Bor (List ℕ)) → i < length text → get_or text i 0 ≡ 10 → next ≡ i + 1 → ys ≡ xs ++ b ∷ [] → b.now ≡ slice_range text start i →
    texts xs ++ lines_from (slice_range text start i) (drop i text) ≡ lines text → (next ≤ i + 1) × (texts ys ++ lines_from (slice_range text next (i + 1)) (drop (i + 1) text) ≡ lines text)
line_taken text start next i xs ys b h e n y l inv = (
  omega (arith, n),
  ap (λ (k : ℕ). texts ys ++ lines_from (slice_range text k (i + 1)) (drop (i + 1) text)) n
      ∙ ap (λ (z : List (List ℕ)). z ++ lines_from (slice_range text (i + 1) (i + 1)) (drop (i + 1) text)) (ap texts y ∙ map_push (λ (x : Bor (List ℕ)). x.now) xs b ∙ ap (λ (z : List ℕ). texts xs ++ z ∷ []) l)
      ∙ line_ends text start i (texts xs) h e
      ∙ inv,
)

-- the lines so far, once another byte has come
pub line_kept : (text : List ℕ) (start next i : ℕ) (xs ys : List (Bor (List ℕ))) → start ≤ i → i < length text → (get_or text i 0 ≡ 10 → ⊥) → next ≡ start → ys ≡ xs →
    texts xs ++ lines_from (slice_range text start i) (drop i text) ≡ lines text → (next ≤ i + 1) × (texts ys ++ lines_from (slice_range text next (i + 1)) (drop (i + 1) text) ≡ lines text)
line_kept text start next i xs ys s h d n y inv = (
  omega (arith, n, s),
  ap (λ (k : ℕ). texts ys ++ lines_from (slice_range text k (i + 1)) (drop (i + 1) text)) n
      ∙ ap (λ (z : List (Bor (List ℕ))). texts z ++ lines_from (slice_range text start (i + 1)) (drop (i + 1) text)) y
      ∙ ap (λ (z : List (List ℕ)). texts xs ++ z) (line_goes_on text start i s h d)
      ∙ inv,
)

-- ---- lines that may refuse

get-behind : (xs ys : List ℕ) (n : ℕ) → slice_get (xs ++ ys) (length xs + n) ≡ slice_get ys n
get-behind [] ys n = let none : 0 + n ≡ n = omega arith in ap (slice_get ys) none
get-behind (x ∷ xs) ys n = let next : suc (length xs) + n ≡ suc (length xs + n) = omega arith in ap (slice_get (x ∷ xs ++ ys)) next ∙ get-behind xs ys n

last-behind : (xs ys : List ℕ) (n : ℕ) → length ys ≡ suc n → slice_get (xs ++ ys) (length (xs ++ ys) - 1) ≡ slice_get ys n
last-behind xs ys n e =
    let end : length (xs ++ ys) - 1 ≡ length xs + n = omega (arith, length-append xs ys, e) in
    ap (slice_get (xs ++ ys)) end ∙ get-behind xs ys n

-- a reply that refuses is among them
may-row : (s : ℕ) (l : List ℕ) → bytes_eq l (decimal s ++ row_reply) ≡ true → may_refuse l ≡ true
may-row s l e = ap may_refuse (same l (decimal s ++ row_reply) e) ∙ ap ends_so (last-behind (decimal s) row_reply 15 refl)

may-cause : (s : ℕ) (l : List ℕ) → bytes_eq l (decimal s ++ cause_reply) ≡ true → may_refuse l ≡ true
may-cause s l e = ap may_refuse (same l (decimal s ++ cause_reply) e) ∙ ap ends_so (last-behind (decimal s) cause_reply 17 refl)

-- what is looked for is among what is left
any-among : (p q : List ℕ → Bool) (ls : List (List ℕ)) → ((l : List ℕ) → p l ≡ true → q l ≡ true) → list_any p (filter q ls) ≡ list_any p ls
any-among p q [] all = refl
any-among p q (l ∷ ls) all = go (q l) refl (any-among p q ls all)
  where
    never : (b : Bool) → p l ≡ b → q l ≡ false → list_any p ls ≡ (b || list_any p ls)
    never true e f = let both : true ≡ false = sym (all l e) ∙ f in cc
    never false e f = refl

    go : (b : Bool) → q l ≡ b → list_any p (filter q ls) ≡ list_any p ls → list_any p (cond b (l ∷ filter q ls) (filter q ls)) ≡ (p l || list_any p ls)
    go true e rest = ap (λ b. p l || b) rest
    go false e rest = rest ∙ never (p l) refl e

told-row : (ls : List (List ℕ)) (s : ℕ) → is_told row_reply (filter may_refuse ls) s ≡ is_told row_reply ls s
told-row ls s = any-among (λ l. bytes_eq l (decimal s ++ row_reply)) may_refuse ls (may-row s)

told-cause : (ls : List (List ℕ)) (s : ℕ) → is_told cause_reply (filter may_refuse ls) s ≡ is_told cause_reply ls s
told-cause ls s = any-among (λ l. bytes_eq l (decimal s ++ cause_reply)) may_refuse ls (may-cause s)

filter-same : (p q : ℕ → Bool) (xs : List ℕ) → ((x : ℕ) → p x ≡ q x) → filter p xs ≡ filter q xs
filter-same p q [] e = refl
filter-same p q (x ∷ xs) e = ap (λ b. cond b (x ∷ filter p xs) (filter p xs)) (e x) ∙ ap (λ l. cond (q x) (x ∷ l) l) (filter-same p q xs e)

any-same : (p q : ℕ → Bool) (xs : List ℕ) → ((x : ℕ) → p x ≡ q x) → list_any p xs ≡ list_any q xs
any-same p q [] e = refl
any-same p q (x ∷ xs) e = ap (λ b. b || list_any p xs) (e x) ∙ ap (λ b. q x || b) (any-same p q xs e)

refuses-same : (ls : List (List ℕ)) (s : ℕ) → refuses (filter may_refuse ls) s ≡ refuses ls s
refuses-same ls s = ap (λ b. b || is_told cause_reply (filter may_refuse ls) s) (told-row ls s) ∙ ap (λ b. is_told row_reply ls s || b) (told-cause ls s)

pub map-filter : (found : List (Bor (List ℕ))) → texts (filter (λ l. may_refuse l.now) found) ≡ filter may_refuse (texts found)
map-filter [] = refl
map-filter (l ∷ found) = go (may_refuse l.now) (map-filter found)
  where
    go : (b : Bool) → texts (filter (λ l. may_refuse l.now) found) ≡ filter may_refuse (texts found) → texts (cond b (l ∷ filter (λ l. may_refuse l.now) found) (filter (λ l. may_refuse l.now) found)) ≡ cond b (l.now ∷ filter may_refuse (texts found)) (filter may_refuse (texts found))
    go true rest = ap (λ ls. l.now ∷ ls) rest
    go false rest = rest

-- what is found in a text's lines that may refuse is what the text says
pub refusals_are : (text : List ℕ) (ls : List (List ℕ)) (ss : List ℕ) (r c : Bool) → ls ≡ filter may_refuse (lines text) → ss ≡ filter (refuses ls) sessions → r ≡ list_any (is_told row_reply ls) sessions → c ≡ list_any (is_told cause_reply ls) sessions →
    record { sessions = ss; by_row = r; by_cause = c } ≡ refusals text
refusals_are text ls ss r c e a b d =
    let all = lines text in
    let s : ss ≡ filter (refuses all) sessions = a ∙ ap (λ (x : List (List ℕ)). filter (refuses x) sessions) e ∙ filter-same (refuses (filter may_refuse all)) (refuses all) sessions (refuses-same all) in
    let p : r ≡ list_any (is_told row_reply all) sessions = b ∙ ap (λ (x : List (List ℕ)). list_any (is_told row_reply x) sessions) e ∙ any-same (is_told row_reply (filter may_refuse all)) (is_told row_reply all) sessions (told-row all) in
    let q : c ≡ list_any (is_told cause_reply all) sessions = d ∙ ap (λ (x : List (List ℕ)). list_any (is_told cause_reply x) sessions) e ∙ any-same (is_told cause_reply (filter may_refuse all)) (is_told cause_reply all) sessions (told-cause all) in
    λ i. record { sessions = s i; by_row = p i; by_cause = q i }
