-- The line that says how much was judged.
use Rattle.std.proofs.Common.{◌≡◌, ◌∙◌, ◌++◌, [], ℕ, List, ap, append_assoc, sym}

-- a word, and a number
more : (old new word number : List ℕ) → new ≡ old ++ (word ++ number) → new ≡ (old ++ word) ++ number
more old new word number e = e ∙ sym (append_assoc old word number)

-- four words, each with its number, and an end
pub whole : (a k b l c m d n e t u v w x y : List ℕ) → t ≡ [] → u ≡ t ++ (a ++ k) → v ≡ u ++ (b ++ l) → w ≡ v ++ (c ++ m) → x ≡ w ++ (d ++ n) → y ≡ x ++ e
    → y ≡ (((((((a ++ k) ++ b) ++ l) ++ c) ++ m) ++ d) ++ n) ++ e
whole a k b l c m d n e t u v w x y none first second third fourth end =
    let one : u ≡ a ++ k = first ∙ ap (λ s. s ++ (a ++ k)) none in
    let two : v ≡ ((a ++ k) ++ b) ++ l = more u v b l second ∙ ap (λ s. (s ++ b) ++ l) one in
    let three : w ≡ ((((a ++ k) ++ b) ++ l) ++ c) ++ m = more v w c m third ∙ ap (λ s. (s ++ c) ++ m) two in
    let four : x ≡ ((((((a ++ k) ++ b) ++ l) ++ c) ++ m) ++ d) ++ n = more w x d n fourth ∙ ap (λ s. (s ++ d) ++ n) three in
    end ∙ ap (λ s. s ++ e) four
