-- Parts of a text, by where they stand.
use Rattle.std.proofs.Common.{◌≡◌, ℕ, suc, ◌+◌, ◌<◌, ◌≤◌, ◌==◌, nat_lt, Bool, true, false, not, cond, if◌then◌else◌, List, [], ◌∷◌, ◌++◌, length, take, drop, Option, Some, None, refl, sym, ap, ◌∙◌, add-one, arith}
use Rattle.std.specs.List.{slice_split, onto_first, prefix_len, position}
use Rattle.std.specs.Option.{option_map}
use Rattle.std.proofs.lemmas.Bool.{eqb-true}
use Rattle.std.proofs.lemmas.Bool.Decides.{nat_tests}
use Rattle.value.proofs.Basics.{eqb-self}
use Rattle.restore.specs.CreateLine.{behind, parted}

-- ---- after some bytes

pub behind-append : (bytes rest : List ℕ) → behind bytes (bytes ++ rest) ≡ Some rest
behind-append [] rest = refl
behind-append (b ∷ bytes) rest = rw (eqb-self b) (behind-append bytes rest)

pub behind-none : (bytes text : List ℕ) → ((rest : List ℕ) → text ≡ bytes ++ rest → ⊥) → behind bytes text ≡ None
behind-none [] text h = absurd (h text refl)
behind-none (b ∷ bytes) [] h = refl
behind-none (b ∷ bytes) (c ∷ text) h = go (b == c) refl (behind-none bytes text)
  where
    go : (same : Bool) → (b == c) ≡ same → (((rest : List ℕ) → text ≡ bytes ++ rest → ⊥) → behind bytes text ≡ None) → cond same (behind bytes text) None ≡ None
    go false is more = refl
    go true is more = more (λ rest e. h rest (ap (λ (d : ℕ). d ∷ text) (sym (eqb-true b c is)) ∙ ap (λ (t : List ℕ). b ∷ t) e))

-- ---- before and after a byte

-- what stands before and after a byte, by whether it is the first
abbrev found_with : ℕ → List ℕ → Bool → Option (List ℕ × List ℕ) → Option (List ℕ × List ℕ)
found_with b text same found = if same then Some ([], text) else option_map (λ parts. (b ∷ parts.0, parts.1)) found

pub parted-at : (c : ℕ) (text : List ℕ) → prefix_len (λ b. not (b == c)) text < length text
    → parted c text ≡ Some (take (prefix_len (λ b. not (b == c)) text) text, drop (prefix_len (λ b. not (b == c)) text + 1) text)
parted-at c [] h = absurd (omega arith)
parted-at c (b ∷ text) h = go (b == c) (λ lt. parted-at c text lt) h
  where
    go : (same : Bool) → (prefix_len (λ b. not (b == c)) text < length text → parted c text ≡ Some (take (prefix_len (λ b. not (b == c)) text) text, drop (prefix_len (λ b. not (b == c)) text + 1) text))
        → cond (not same) (1 + prefix_len (λ b. not (b == c)) text) 0 < length (b ∷ text)
        → found_with b text same (parted c text)
        ≡ Some (take (cond (not same) (1 + prefix_len (λ b. not (b == c)) text) 0) (b ∷ text), drop (cond (not same) (1 + prefix_len (λ b. not (b == c)) text) 0 + 1) (b ∷ text))
    go true more lt = refl
    go false more lt =
        let n : ℕ = prefix_len (λ b. not (b == c)) text in
        let one : 1 + n ≡ suc n = omega arith in
        rw (more (omega arith), one, add-one (suc n), add-one n) refl

pub parted-nowhere : (c : ℕ) (text : List ℕ) → length text ≤ prefix_len (λ b. not (b == c)) text → parted c text ≡ None
parted-nowhere c [] h = refl
parted-nowhere c (b ∷ text) h = go (b == c) (λ le. parted-nowhere c text le) h
  where
    go : (same : Bool) → (length text ≤ prefix_len (λ b. not (b == c)) text → parted c text ≡ None) → length (b ∷ text) ≤ cond (not same) (1 + prefix_len (λ b. not (b == c)) text) 0
        → found_with b text same (parted c text) ≡ None
    go true more le = absurd (omega arith)
    go false more le = rw (more (omega arith)) refl

pub parted-position : (c i : ℕ) (text : List ℕ) → Some i ≡ position (λ b. b == c) text → parted c text ≡ Some (take i text, drop (i + 1) text)
parted-position c i text h = go (nat_lt (prefix_len (λ b. not (b == c)) text) (length text)) refl h
  where
    go : (within : Bool) → nat_lt (prefix_len (λ b. not (b == c)) text) (length text) ≡ within → Some i ≡ cond within (Some (prefix_len (λ b. not (b == c)) text)) None
        → parted c text ≡ Some (take i text, drop (i + 1) text)
    go true is e = let same : i ≡ prefix_len (λ b. not (b == c)) text = cc in rw same (parted-at c text (grind (arith, nat_tests)))
    go false is e = absurd cc

pub parted-no_position : (c : ℕ) (text : List ℕ) → None ≡ position (λ b. b == c) text → parted c text ≡ None
parted-no_position c text h = go (nat_lt (prefix_len (λ b. not (b == c)) text) (length text)) refl h
  where
    go : (within : Bool) → nat_lt (prefix_len (λ b. not (b == c)) text) (length text) ≡ within → None ≡ cond within (Some (prefix_len (λ b. not (b == c)) text)) None → parted c text ≡ None
    go true is e = absurd cc
    go false is e = parted-nowhere c text (grind (arith, nat_tests))

-- ---- a text cut at a byte

pub split-whole : (c : ℕ) (text : List ℕ) → parted c text ≡ None → slice_split (λ b. b == c) text ≡ text ∷ []
split-whole c [] h = refl
split-whole c (b ∷ text) h = go (b == c) (parted c text) (split-whole c text) h
  where
    go : (same : Bool) (found : Option (List ℕ × List ℕ)) → (found ≡ None → slice_split (λ b. b == c) text ≡ text ∷ []) → found_with b text same found ≡ None
        → cond same ([] ∷ slice_split (λ b. b == c) text) (onto_first b (slice_split (λ b. b == c) text)) ≡ (b ∷ text) ∷ []
    go true found more e = absurd cc
    go false (Some p) more e = absurd cc
    go false None more e = rw (more refl) refl

abbrev pair : List ℕ → List ℕ → List ℕ × List ℕ
pair x y = (x, y)

pub split-parted : (c : ℕ) (text before after : List ℕ) → parted c text ≡ Some (before, after) → slice_split (λ b. b == c) text ≡ before ∷ slice_split (λ b. b == c) after
split-parted c [] before after h = absurd cc
split-parted c (b ∷ text) before after h = go (b == c) (parted c text) (split-parted c text) h
  where
    go : (same : Bool) (found : Option (List ℕ × List ℕ)) → ((x y : List ℕ) → found ≡ Some (x, y) → slice_split (λ b. b == c) text ≡ x ∷ slice_split (λ b. b == c) y)
        → found_with b text same found ≡ Some (before, after)
        → cond same ([] ∷ slice_split (λ b. b == c) text) (onto_first b (slice_split (λ b. b == c) text)) ≡ before ∷ slice_split (λ b. b == c) after
    go true found more e =
        let same : pair [] text ≡ pair before after = cc in
        rw (← ap (λ p. p.0) same, ← ap (λ p. p.1) same) refl
    go false None more e = absurd cc
    go false (Some p) more e =
        let same : pair (b ∷ p.0) p.1 ≡ pair before after = cc in
        rw (more p.0 p.1 refl, ← ap (λ p. p.0) same, ← ap (λ p. p.1) same) refl
