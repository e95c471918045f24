-- How a line is cut from the left, and how a field's content goes on.
use Rattle.std.proofs.Common.{◌≡◌, ℕ, zero, suc, ◌+◌, ◌<◌, ◌≤◌, Bool, true, false, cond, ◌&&◌, not, eqb, List, [], ◌∷◌, ◌++◌, length, get_or, take, drop, Option, Some, refl, sym, ap, ◌∙◌, append_assoc}
use Rattle.std.specs.Option.{option_map}
use Rattle.std.proofs.lemmas.List.{append-nil, take_more, drop_more, take_all, drop_all}
use Rattle.copytext.specs.Reading.{onto_first, cut_after, cut, escape, content_after, content}

-- bytes in front of the first of some fields
abbrev pub behind : List ℕ → List (List ℕ) → List (List ℕ)
behind front [] = front ∷ []
behind front (field ∷ fields) = (front ++ field) ∷ fields

behind-onto : (front : List ℕ) (b : ℕ) (fields : List (List ℕ)) → behind front (onto_first b fields) ≡ behind (front ++ b ∷ []) fields
behind-onto front b [] = refl
behind-onto front b (field ∷ fields) = ap (λ (first : List ℕ). first ∷ fields) (sym (append_assoc front (b ∷ []) field))

nothing_onto : (b : ℕ) (fields : List (List ℕ)) → behind [] (onto_first b fields) ≡ onto_first b fields
nothing_onto b [] = refl
nothing_onto b (field ∷ fields) = refl

pub behind_nothing : (e : Bool) (line : List ℕ) → cut_after e line ≡ behind [] (cut_after e line)
behind_nothing e [] = refl
behind_nothing e (b ∷ line) =
    elim (not e && eqb b 9) as (λ t. cond t ([] ∷ cut_after false line) (onto_first b (cut_after (not e && eqb b 92) line)) ≡ behind [] (cond t ([] ∷ cut_after false line) (onto_first b (cut_after (not e && eqb b 92) line)))) [
      | true ↦ refl
      | false ↦ sym (nothing_onto b (cut_after (not e && eqb b 92) line))
    ]

pub cut_one : (e : Bool) (b : ℕ) (line : List ℕ) → (not e && eqb b 9) ≡ false → cut_after e (b ∷ line) ≡ onto_first b (cut_after (not e && eqb b 92) line)
cut_one e b line t = rw t refl

pub cut_tab : (e : Bool) (b : ℕ) (line : List ℕ) → (not e && eqb b 9) ≡ true → cut_after e (b ∷ line) ≡ [] ∷ cut_after false line
cut_tab e b line t = rw t refl

next_of : (line : List ℕ) (i b : ℕ) → i < length line → b ≡ get_or line i b → drop i line ≡ b ∷ drop (i + 1) line
next_of line i b lt at = drop_more line i b lt ∙ ap (λ (x : ℕ). x ∷ drop (i + 1) line) (sym at)

front_of : (line : List ℕ) (i b : ℕ) → i < length line → b ≡ get_or line i b → take i line ++ b ∷ [] ≡ take (i + 1) line
front_of line i b lt at = ap (λ (x : ℕ). take i line ++ x ∷ []) at ∙ sym (take_more line i b lt)

-- one more byte of the first field
pub cut_goes_on : (line : List ℕ) (fields : List (List ℕ)) (i : ℕ) (e : Bool) (b : ℕ) → i < length line → b ≡ get_or line i b → (not e && eqb b 9) ≡ false
    → fields ≡ behind (take i line) (cut_after e (drop i line)) → fields ≡ behind (take (i + 1) line) (cut_after (not e && eqb b 92) (drop (i + 1) line))
cut_goes_on line fields i e b lt at t so_far =
    so_far
    ∙ ap (λ (rest : List ℕ). behind (take i line) (cut_after e rest)) (next_of line i b lt at)
    ∙ ap (behind (take i line)) (cut_one e b (drop (i + 1) line) t)
    ∙ behind-onto (take i line) b (cut_after (not e && eqb b 92) (drop (i + 1) line))
    ∙ ap (λ (front : List ℕ). behind front (cut_after (not e && eqb b 92) (drop (i + 1) line))) (front_of line i b lt at)

-- the first field ends at a tab
pub cut_ends : (line : List ℕ) (fields : List (List ℕ)) (i : ℕ) (e : Bool) (b : ℕ) → i < length line → b ≡ get_or line i b → (not e && eqb b 9) ≡ true
    → fields ≡ behind (take i line) (cut_after e (drop i line)) → fields ≡ take i line ∷ cut (drop (i + 1) line)
cut_ends line fields i e b lt at t so_far =
    so_far
    ∙ ap (λ (rest : List ℕ). behind (take i line) (cut_after e rest)) (next_of line i b lt at)
    ∙ ap (behind (take i line)) (cut_tab e b (drop (i + 1) line) t)
    ∙ ap (λ (first : List ℕ). first ∷ cut (drop (i + 1) line)) (append-nil (take i line))

-- the line ends
pub cut_last : (line : List ℕ) (fields : List (List ℕ)) (i : ℕ) (e : Bool) → length line ≤ i → fields ≡ behind (take i line) (cut_after e (drop i line)) → fields ≡ line ∷ []
cut_last line fields i e le so_far =
    so_far
    ∙ ap (λ (rest : List ℕ). behind (take i line) (cut_after e rest)) (drop_all i line le)
    ∙ ap (λ (first : List ℕ). first ∷ []) (append-nil (take i line) ∙ take_all i line le)

-- ---- content

pub content_skip : (raw : List ℕ) (n : ℕ) → content_after raw n ≡ content_after (drop n raw) 0
content_skip [] zero = refl
content_skip [] (suc n) = refl
content_skip (b ∷ raw) zero = refl
content_skip (b ∷ raw) (suc n) = content_skip raw n

pub content_plain : (first : ℕ) (more : List ℕ) → eqb first 92 ≡ false → content (first ∷ more) ≡ option_map (λ (bytes : List ℕ). first ∷ bytes) (content more)
content_plain first more t = rw t refl

pub content_escape : (first : ℕ) (more : List ℕ) (b n : ℕ) → eqb first 92 ≡ true → Some (b, n) ≡ escape more → content (first ∷ more) ≡ option_map (λ (bytes : List ℕ). b ∷ bytes) (content (drop n more))
content_escape first more b n t e = rw (t, ← e) (ap (λ (o : Option (List ℕ)). option_map (λ (bytes : List ℕ). b ∷ bytes) o) (content_skip more n))
