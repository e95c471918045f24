-- What is written byte by byte is the field's text.
use Rattle.std.proofs.Common.{◌≡◌, ℕ, ◌/◌, ◌%◌, Bool, true, List, [], ◌∷◌, ◌++◌, get_or, map, Option, Some, None, refl, sym, ap, ◌∙◌, append_assoc}
use Rattle.std.proofs.Common.{subst, zero, suc, ◌+◌, ◌<◌, ◌≤◌, length, take, arith, Result, Ok, Err}
use Rattle.std.proofs.lemmas.Bool.{and_parts}
use Rattle.std.specs.Prelude.{OnErr}
use Rattle.value.specs.Printed.{bytea_text}
use Rattle.std.proofs.lemmas.List.{append-nil, take_at, take-take, take_more, length-append, flat_map_more}
use Rattle.std.specs.Option.{is_none}
use Rattle.std.specs.List.{flat_map, join_with_byte, list_all}
use Rattle.hex.specs.Hex.{encode_with, encode_lower, lower_digits}
use Rattle.copytext.specs.Writing.{tab, newline, letter_of, by_letter, escaped, field_text, row_text}
use Rattle.value.specs.declared.value.Value.{Value}

abbrev pub is_plain : ℕ → Bool
is_plain b = is_none (letter_of b)

plain_byte : (b : ℕ) (o : Option ℕ) → is_none o ≡ true → by_letter b o ≡ b ∷ []
plain_byte b None h = refl
plain_byte b (Some l) h = absurd cc

-- bytes none of which has a letter are written as they are
pub escaped-plain : (bytes : List ℕ) → list_all is_plain bytes ≡ true → escaped bytes ≡ bytes
escaped-plain [] h = refl
escaped-plain (b ∷ bytes) h =
    let parts = and_parts (is_plain b) (list_all is_plain bytes) h in
    rw (plain_byte b (letter_of b) parts.0, escaped-plain bytes parts.1) refl

plain_at : (bytes : List ℕ) (i : ℕ) → list_all is_plain bytes ≡ true → is_plain (get_or bytes i 0) ≡ true
plain_at [] i h = refl
plain_at (b ∷ bytes) zero h = (and_parts (is_plain b) (list_all is_plain bytes) h).0
plain_at (b ∷ bytes) (suc i) h = plain_at bytes i (and_parts (is_plain b) (list_all is_plain bytes) h).1

pub encode_lower-plain : (bytes : List ℕ) → list_all is_plain (encode_lower bytes) ≡ true
unfolding encode_with
encode_lower-plain [] = refl
encode_lower-plain (b ∷ bytes) = rw (plain_at lower_digits (b / 16) refl, plain_at lower_digits (b % 16) refl) (encode_lower-plain bytes)

-- a bytea's text after a second backslash
pub bytea_escaped : (bytes : List ℕ) → escaped (bytea_text bytes) ≡ 92 ∷ bytea_text bytes
bytea_escaped bytes = ap (λ (rest : List ℕ). 92 ∷ 92 ∷ 120 ∷ rest) (escaped-plain (encode_lower bytes) (encode_lower-plain bytes))

pub join_cons : {X : Type 0} (text : X → List ℕ) (c : ℕ) (x : X) (xs : List X) → join_with_byte c (map text (x ∷ xs)) ≡ text x ++ flat_map (λ y. c ∷ text y) xs
join_cons text c x [] = sym (append-nil (text x))
join_cons text c x (y ∷ ys) = ap (λ (rest : List ℕ). text x ++ c ∷ rest) (join_cons text c y ys)

module _ {A : Type 0} where
  -- a row by its first field and the others
  pub row_text-cons : (v : Value A) (vs : List (Value A)) → row_text (v ∷ vs) ≡ (field_text v ++ flat_map (λ w. tab ∷ field_text w) vs) ++ newline ∷ []
  row_text-cons v vs = ap (λ (line : List ℕ). line ++ newline ∷ []) (join_cons field_text tab v vs)

-- ---- what a refused growth leaves

pub on_err : {T E P : Type 0} (r : Result T E) → P → OnErr r P
on_err (Ok x) p = tt
on_err (Err e) p = p

pub starts : (old more : List ℕ) → take (length old) (old ++ more) ≡ old
starts old more = take_at old more (length old) refl

-- what begins with a longer list begins with its start
pub starts_by : (old more new : List ℕ) → take (length (old ++ more)) new ≡ old ++ more → take (length old) new ≡ old
starts_by old more new h =
    let le : length old ≤ length (old ++ more) = omega (arith, length-append old more) in
    sym (take-take (length old) (length (old ++ more)) new le) ∙ ap (take (length old)) h ∙ starts old more

-- one more field after a tab
pub one_more : {X : Type 0} (text : X → List ℕ) (c : ℕ) (old : List ℕ) (xs : List X) (i : ℕ) (x : X) → i < length xs → x ≡ get_or xs i x
    → ((old ++ flat_map (λ y. c ∷ text y) (take i xs)) ++ c ∷ []) ++ text x ≡ old ++ flat_map (λ y. c ∷ text y) (take (i + 1) xs)
one_more text c old xs i x lt at =
    append_assoc (old ++ flat_map (λ y. c ∷ text y) (take i xs)) (c ∷ []) (text x)
    ∙ flat_map_more (λ y. c ∷ text y) old (take i xs) x
    ∙ ap (λ ys. old ++ flat_map (λ y. c ∷ text y) ys) (ap (λ z. take i xs ++ z ∷ []) at ∙ sym (take_more xs i x lt))

pub left_with : {T E : Type 0} (r : Result T E) (old more new : List ℕ) → new ≡ old ++ more → OnErr r (take (length old) new ≡ old)
left_with r old more new h = on_err r (ap (take (length old)) h ∙ starts old more)

pub left_by : {T E : Type 0} (r : Result T E) (old more mid new : List ℕ) → mid ≡ old ++ more → take (length mid) new ≡ mid → OnErr r (take (length old) new ≡ old)
left_by r old more mid new h k = on_err r (starts_by old more new (subst (λ (m : List ℕ). take (length m) new ≡ m) h k))

-- one more byte, as it is written
pub one_more_escaped : (old bytes : List ℕ) (i : ℕ) → i < length bytes
    → (old ++ escaped (take i bytes)) ++ escaped (get_or bytes i 0 ∷ []) ≡ old ++ escaped (take (i + 1) bytes)
one_more_escaped old bytes i lt =
    let text : ℕ → List ℕ = λ b. by_letter b (letter_of b) in
    let byte : ℕ = get_or bytes i 0 in
    ap (λ (t : List ℕ). (old ++ escaped (take i bytes)) ++ t) (append-nil (text byte))
    ∙ flat_map_more text old (take i bytes) byte
    ∙ ap (λ (bs : List ℕ). old ++ escaped bs) (sym (take_more bytes i 0 lt))
