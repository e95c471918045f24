-- Bytes that a text lacks, where a text is cut, and texts of ASCII.
use Rattle.std.proofs.Common.{◌≡◌, ℕ, zero, suc, ◌+◌, ◌/◌, ◌%◌, ◌<◌, Bool, true, false, cond, eqb, ltb, ◌&&◌, List, [], ◌∷◌, ◌++◌, length, take, drop, Some, None, refl, ap, ◌∙◌, arith}
use Rattle.std.specs.Prelude.{nat_lt}
use Rattle.std.specs.Char.{is_ascii_digit}
use Rattle.std.specs.Fmt.{decimal, digits, digits_onto, digit_glyph}
use Rattle.std.specs.List.{list_all, list_any, position_or_len, slice_split}
use Rattle.std.specs.Str.{IsAscii, IsUtf8}
use Rattle.std.proofs.lemmas.Bool.{and_from, and_parts, lt-ltb, ltb-true, or_from, or_parts}
use Rattle.std.proofs.lemmas.Bool.Decides.{nat_tests}
use Rattle.std.proofs.lemmas.Grind.{common_steps}
use Rattle.std.proofs.lemmas.List.Splits.{slice_split-cons_no, slice_split-cons_yes}
use Rattle.std.proofs.lemmas.Str.{IsUtf8-from_ascii}
use Rattle.value.proofs.Basics.{eqb-self}
use Rattle.script.specs.Commands.{cut}

-- ---- bytes that a text lacks

abbrev pub Lacks : ℕ → List ℕ → Type 0
Lacks c text = list_any (λ b. eqb b c) text ≡ false

pub lacks-append : (c : ℕ) (a b : List ℕ) → Lacks c a → Lacks c b → Lacks c (a ++ b)
lacks-append c [] b h k = k
lacks-append c (x ∷ a) b h k =
    let p = or_parts (eqb x c) (list_any (λ y. eqb y c) a) h in
    or_from (eqb x c) (list_any (λ y. eqb y c) (a ++ b)) p.0 (lacks-append c a b p.1 k)

-- a text is split at the first of a byte
pub split_at : (c : ℕ) (text rest : List ℕ) → Lacks c text → slice_split (λ b. eqb b c) (text ++ c ∷ rest) ≡ text ∷ slice_split (λ b. eqb b c) rest
split_at c [] rest h = slice_split-cons_yes (λ b. eqb b c) c rest (eqb-self c)
split_at c (b ∷ text) rest h =
    let p = or_parts (eqb b c) (list_any (λ y. eqb y c) text) h in
    slice_split-cons_no (λ x. eqb x c) b (text ++ c ∷ rest) p.0 ∙ rw (split_at c text rest p.1) refl

-- ---- where a text is cut

place_at : (c : ℕ) (text rest : List ℕ) → Lacks c text → position_or_len (λ b. eqb b c) (text ++ c ∷ rest) ≡ length text
place_at c [] rest h = rw (eqb-self c) refl
place_at c (b ∷ text) rest h =
    let p = or_parts (eqb b c) (list_any (λ y. eqb y c) text) h in
    let next : 1 + length text ≡ suc (length text) = omega arith in
    rw p.0 (ap (λ n. 1 + n) (place_at c text rest p.1) ∙ next)

take_front : (a b : List ℕ) → take (length a) (a ++ b) ≡ a
take_front [] b = refl
take_front (x ∷ a) b = ap (λ (l : List ℕ). x ∷ l) (take_front a b)

drop_front : (a b : List ℕ) (c : ℕ) → drop (length a + 1) (a ++ c ∷ b) ≡ b
drop_front [] b c = refl
drop_front (x ∷ a) b c =
    let next : suc (length a) + 1 ≡ suc (length a + 1) = omega arith in
    ap (λ n. drop n (x ∷ a ++ c ∷ b)) next ∙ drop_front a b c

shorter : (a b : List ℕ) (c : ℕ) → length a < length (a ++ c ∷ b)
shorter [] b c = omega arith
shorter (x ∷ a) b c = let l : length a < length (a ++ c ∷ b) = shorter a b c in omega (arith, l)

-- a text is cut at the first of a byte
pub cut_at : (c : ℕ) (text rest : List ℕ) → Lacks c text → cut c (text ++ c ∷ rest) ≡ Some (text, rest)
cut_at c text rest h =
    ap (λ n. cond (nat_lt n (length all)) (Some (take n all, drop (n + 1) all)) None) (place_at c text rest h)
    ∙ ap (λ b. cond b (Some (take (length text) all, drop (length text + 1) all)) None) (lt-ltb (length text) (length all) (shorter text rest c))
    ∙ ap (λ (a : List ℕ). Some (a, drop (length text + 1) all)) (take_front text (c ∷ rest))
    ∙ ap (λ (b : List ℕ). Some (text, b)) (drop_front text rest c)
  where
    all : List ℕ
    all = text ++ c ∷ rest

-- ---- ASCII

abbrev pub is_plain : ℕ → Bool
is_plain b = ltb 31 b && ltb b 128

abbrev pub IsPlain : List ℕ → Type 0
IsPlain text = list_all is_plain text ≡ true

pub plain-append : (a b : List ℕ) → IsPlain a → IsPlain b → IsPlain (a ++ b)
plain-append [] b h k = k
plain-append (x ∷ a) b h k =
    let p = and_parts (is_plain x) (list_all is_plain a) h in
    and_from (is_plain x) (list_all is_plain (a ++ b)) p.0 (plain-append a b p.1 k)

plain_ascii : (text : List ℕ) → IsPlain text → IsAscii text
plain_ascii [] h i = omega arith
plain_ascii (b ∷ text) h zero = ltb-true b 128 (and_parts (ltb 31 b) (ltb b 128) (and_parts (is_plain b) (list_all is_plain text) h).0).1
plain_ascii (b ∷ text) h (suc i) = plain_ascii text (and_parts (is_plain b) (list_all is_plain text) h).1 i

pub IsUtf8-plain : (text : List ℕ) → IsPlain text → IsUtf8 text
IsUtf8-plain text h = IsUtf8-from_ascii text (plain_ascii text h)

pub plain_lacks : (text : List ℕ) → IsPlain text → Lacks 10 text
plain_lacks [] h = refl
plain_lacks (b ∷ text) h =
    let p = and_parts (is_plain b) (list_all is_plain text) h in
    let l : 31 < b = ltb-true 31 b (and_parts (ltb 31 b) (ltb b 128) p.0).0 in
    let apart : eqb b 10 ≡ false = grind (arith, nat_tests, common_steps) in
    or_from (eqb b 10) (list_any (λ x. eqb x 10) text) apart (plain_lacks text p.1)

-- ---- digits

abbrev pub AreDigits : List ℕ → Type 0
AreDigits text = list_all is_ascii_digit text ≡ true

pub digits_plain : (text : List ℕ) → AreDigits text → IsPlain text
digits_plain [] h = refl
digits_plain (b ∷ text) h =
    let p = and_parts (is_ascii_digit b) (list_all is_ascii_digit text) h in
    let first : is_plain b ≡ true = grind (arith, nat_tests, common_steps) in
    and_from (is_plain b) (list_all is_plain text) first (digits_plain text p.1)

pub digits_lack_space : (text : List ℕ) → AreDigits text → Lacks 32 text
digits_lack_space [] h = refl
digits_lack_space (b ∷ text) h =
    let p = and_parts (is_ascii_digit b) (list_all is_ascii_digit text) h in
    let apart : eqb b 32 ≡ false = grind (arith, nat_tests, common_steps) in
    or_from (eqb b 32) (list_any (λ x. eqb x 32) text) apart (digits_lack_space text p.1)

-- what is printed of any number, however long
glyph_plain : (d : ℕ) → d < 10 → is_plain (digit_glyph false d) ≡ true
glyph_plain d l = grind (arith, nat_tests, common_steps)

digit_more : (n : ℕ) (text : List ℕ) → IsPlain text → IsPlain (digit_glyph false (n % 10) ∷ text)
digit_more n text h =
    let l : n % 10 < 10 = omega arith in
    and_from (is_plain (digit_glyph false (n % 10))) (list_all is_plain text) (glyph_plain (n % 10) l) h

onto_plain : (k n : ℕ) (text : List ℕ) → IsPlain text → IsPlain (digits_onto k 10 false n text)
onto_plain zero n text h = h
onto_plain (suc k) n text h = go (eqb (n / 10) 0) (digit_more n text h) (onto_plain k (n / 10) (digit_glyph false (n % 10) ∷ text) (digit_more n text h))
  where
    go : (b : Bool) → IsPlain (digit_glyph false (n % 10) ∷ text) → IsPlain (digits_onto k 10 false (n / 10) (digit_glyph false (n % 10) ∷ text))
        → IsPlain (cond b (digit_glyph false (n % 10) ∷ text) (digits_onto k 10 false (n / 10) (digit_glyph false (n % 10) ∷ text)))
    go true first rest = first
    go false first rest = rest

pub decimal_plain : (n : ℕ) → IsPlain (decimal n)
unfolding digits
decimal_plain n = onto_plain 64 n [] refl
