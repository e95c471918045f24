-- The numbers of sessions' next lines, a turn at a time, and the texts of lines.
use Rattle.std.proofs.Common.{◌≡◌, ◌==◌, refl, sym, ap, ap₂, ◌∙◌, ℕ, ◌+◌, ◌<◌, ◌≤◌, Bool, true, false, cond, List, [], ◌∷◌, ◌++◌, append_assoc, drop, get_or, length, map, take, Option, Some}
use Rattle.std.specs.Prelude.{slice_get}
use Rattle.std.specs.List.{filter}
use Rattle.std.proofs.lemmas.List.{append-nil, drop_all, drop_more, map-append, take-map, take_all, take_more}
use Rattle.std.proofs.lemmas.List.Elements.{filter-append}
use Rattle.script.specs.Transcribing.{line_at, lines}
use Rattle.explore.specs.declared.setup.Turn.{Turn}
use Rattle.explore.specs.Ordered.{IsOrdered, numbers_from, own_numbers, text_of, times}

-- one more turn is looked at
pub own_more : (s : ℕ) (ts : List Turn) (i : ℕ) (t : Turn) (ns us : List ℕ) → i < length ts → t ≡ get_or ts i t → ns ≡ own_numbers s (take i ts) → us ≡ ns ++ cond (t.session == s) (t.number ∷ []) [] → us ≡ own_numbers s (take (i + 1) ts)
own_more s ts i t ns us lt at so_far more =
    more ∙ ap (λ (xs : List ℕ). xs ++ cond (t.session == s) (t.number ∷ []) []) so_far ∙ sym (next ∙ last (t.session == s))
  where
    is : Turn → Bool
    is x = x.session == s

    next : own_numbers s (take (i + 1) ts) ≡ own_numbers s (take i ts) ++ map (λ (x : Turn). x.number) (filter is (t ∷ []))
    next =
        ap (own_numbers s) (take_more ts i t lt ∙ ap (λ (x : Turn). take i ts ++ x ∷ []) (sym at))
        ∙ ap (map (λ (x : Turn). x.number)) (filter-append is (take i ts) (t ∷ []))
        ∙ map-append (λ (x : Turn). x.number) (filter is (take i ts)) (filter is (t ∷ []))

    last : (b : Bool) → own_numbers s (take i ts) ++ map (λ (x : Turn). x.number) (cond b (t ∷ []) []) ≡ own_numbers s (take i ts) ++ cond b (t.number ∷ []) []
    last true = refl
    last false = refl

-- all are
pub own_all : (s : ℕ) (ts : List Turn) (i : ℕ) (ns : List ℕ) → length ts ≤ i → ns ≡ own_numbers s (take i ts) → ns ≡ own_numbers s ts
own_all s ts i ns le is = is ∙ ap (own_numbers s) (take_all i ts le)

-- the session at this place has gone too
pub numbers_more : (ts : List Turn) (order ns us : List ℕ) (p x n : ℕ) → p < length order → x ≡ get_or order p x → slice_get (own_numbers x ts) (times x (take p order)) ≡ Some n → us ≡ ns ++ n ∷ []
    → numbers_from ts [] order ≡ map Some ns ++ numbers_from ts (take p order) (drop p order) → numbers_from ts [] order ≡ map Some us ++ numbers_from ts (take (p + 1) order) (drop (p + 1) order)
numbers_more ts order ns us p x n lt at found more so_far =
    so_far
    ∙ ap (λ (xs : List ℕ). map Some ns ++ numbers_from ts (take p order) xs) (drop_more order p x lt ∙ ap (λ (y : ℕ). y ∷ drop (p + 1) order) (sym at))
    ∙ ap (λ (o : Option ℕ). map Some ns ++ o ∷ rest (take p order ++ x ∷ [])) found
    ∙ ap (λ (xs : List ℕ). map Some ns ++ Some n ∷ rest xs) (sym (take_more order p x lt ∙ ap (λ (y : ℕ). take p order ++ y ∷ []) (sym at)))
    ∙ sym (append_assoc (map Some ns) (Some n ∷ []) (rest (take (p + 1) order)))
    ∙ ap (λ (os : List (Option ℕ)). os ++ rest (take (p + 1) order)) (sym (ap (map Some) more ∙ map-append Some ns (n ∷ [])))
  where
    rest : List ℕ → List (Option ℕ)
    rest before = numbers_from ts before (drop (p + 1) order)

-- all have
pub numbers_all : (ts : List Turn) (order ns : List ℕ) (p : ℕ) → length order ≤ p → numbers_from ts [] order ≡ map Some ns ++ numbers_from ts (take p order) (drop p order) → numbers_from ts [] order ≡ map Some ns
numbers_all ts order ns p le is = is ∙ ap (λ (xs : List ℕ). map Some ns ++ numbers_from ts (take p order) xs) (drop_all p order le) ∙ append-nil (map Some ns)

-- the lines of a setup, and those of the turns
pub ordered : {L : Type 0} (ls whole firsts : List L) (f : L → List ℕ) (script : List ℕ) (last : ℕ) (turns : List Turn) (order numbers ns a b c : List ℕ) → length order ≡ length turns → numbers_from turns [] order ≡ map Some numbers
    → map f ls ≡ lines script → whole ≡ ls → firsts ≡ take last ls → ns ≡ numbers → a ≡ [] → b ≡ a ++ text_of (map f firsts) → c ≡ b ++ text_of (map (line_at (map f whole)) ns) → IsOrdered script last turns order c
ordered {L} ls whole firsts f script last turns order numbers ns a b c long found all same first same_numbers none one two = (numbers, long, found, two ∙ ap₂ (λ (xs ys : List ℕ). xs ++ ys) setup rest)
  where
    setup : b ≡ text_of (take last (lines script))
    setup =
        one ∙ ap (λ (xs : List ℕ). xs ++ text_of (map f firsts)) none
        ∙ ap (λ (xs : List L). text_of (map f xs)) first
        ∙ ap text_of (sym (take-map f last ls) ∙ ap (take last) all)

    rest : text_of (map (line_at (map f whole)) ns) ≡ text_of (map (line_at (lines script)) numbers)
    rest =
        ap₂ (λ (xs : List L) (ms : List ℕ). text_of (map (line_at (map f xs)) ms)) same same_numbers
        ∙ ap (λ (xs : List (List ℕ)). text_of (map (line_at xs) numbers)) all
