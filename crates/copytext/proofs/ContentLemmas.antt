-- A field's content, read byte by byte.
use Rattle.std.proofs.Common.{◌≡◌, ℕ, ◌-◌, ◌<◌, ◌≤◌, List, [], ◌∷◌, ◌++◌, get_or, length, drop, take, Option, Some, None, refl, sym, ap, ◌∙◌, append_assoc, arith}
use Rattle.std.proofs.lemmas.List.{append-nil, take_all}
use Rattle.std.specs.Option.{is_some, option_map}
use Rattle.copytext.specs.Reading.{content}

-- the raw bytes after the first
abbrev pub behind_first : List ℕ → List ℕ
behind_first raw = take (length raw - 1) (drop 1 raw)

first_of : (raw : List ℕ) → 1 ≤ length raw → raw ≡ get_or raw 0 0 ∷ behind_first raw
first_of [] some = absurd (omega (arith, some))
first_of (b ∷ raw) some = ap (λ (rest : List ℕ). b ∷ rest) (sym (take_all (length (b ∷ raw) - 1) raw (omega arith)))

pub shorter : (raw after : List ℕ) → 1 ≤ length raw → length after ≤ length (behind_first raw) → length after < length raw
shorter raw after some le = let e = ap length (first_of raw some) in omega (arith, e, le)

-- what the raw bytes stand for is what is found at their first
pub found : (raw : List ℕ) (o : Option (List ℕ)) → 1 ≤ length raw → content (get_or raw 0 0 ∷ behind_first raw) ≡ o → content raw ≡ o
found raw o some is = ap content (first_of raw some) ∙ is

pub at_end : (raw : List ℕ) → length raw < 1 → content raw ≡ Some []
at_end [] none = refl
at_end (b ∷ raw) none = absurd (omega (arith, none))

-- ---- the bytes so far, in front of the content of the rest

abbrev pub in_front : List ℕ → Option (List ℕ) → Option (List ℕ)
in_front done o = option_map (λ (more : List ℕ). done ++ more) o

pub nothing_yet : (done : List ℕ) (o : Option (List ℕ)) → done ≡ [] → o ≡ in_front done o
nothing_yet done None is = refl
nothing_yet done (Some more) is = ap (λ (d : List ℕ). Some (d ++ more)) (sym is)

pub one_more : (done now : List ℕ) (b : ℕ) (o : Option (List ℕ)) → now ≡ done ++ b ∷ [] → in_front done (option_map (λ bytes. b ∷ bytes) o) ≡ in_front now o
one_more done now b None is = refl
one_more done now b (Some more) is = ap Some (sym (append_assoc done (b ∷ []) more)) ∙ ap (λ (d : List ℕ). Some (d ++ more)) (sym is)

pub all_read : (done : List ℕ) → in_front done (Some []) ≡ Some done
all_read done = ap Some (append-nil done)

pub some_on : (b : ℕ) (o : Option (List ℕ)) → is_some (option_map (λ bytes. b ∷ bytes) o) ≡ is_some o
some_on b None = refl
some_on b (Some more) = refl
