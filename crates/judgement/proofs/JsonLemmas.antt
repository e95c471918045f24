-- Texts that are appended one after the other.
use Rattle.std.proofs.Common.{◌≡◌, ◌∙◌, ◌<◌, ◌++◌, ◌+◌, ◌∷◌, [], ℕ, List, ap, append_assoc, codes, get_or, length, sym, take}
use Rattle.std.proofs.lemmas.List.{flat_map_more, take_more}
use Rattle.std.specs.List.{flat_map}
use Rattle.judgement.specs.Json.{after_comma}

pub two : (a b c l m : List ℕ) → b ≡ a ++ l → c ≡ b ++ m → c ≡ a ++ (l ++ m)
two a b c l m e f = f ∙ ap (λ t. t ++ m) e ∙ append_assoc a l m

pub three : (a b c d l m n : List ℕ) → b ≡ a ++ l → c ≡ b ++ m → d ≡ c ++ n → d ≡ a ++ (l ++ (m ++ n))
three a b c d l m n e f h = two a b d l (m ++ n) e (two b c d m n f h)

pub four : (a b c d x l m n o : List ℕ) → b ≡ a ++ l → c ≡ b ++ m → d ≡ c ++ n → x ≡ d ++ o → x ≡ a ++ (l ++ (m ++ (n ++ o)))
four a b c d x l m n o e f h i = two a b x l (m ++ (n ++ o)) e (three b c d x m n o f h i)

pub five : (a b c d x y l m n o p : List ℕ) → b ≡ a ++ l → c ≡ b ++ m → d ≡ c ++ n → x ≡ d ++ o → y ≡ x ++ p → y ≡ a ++ (l ++ (m ++ (n ++ (o ++ p))))
five a b c d x y l m n o p e f h i j = two a b y l (m ++ (n ++ (o ++ p))) e (four b c d x y m n o p f h i j)

pub six : (a b c d x y z l m n o p q : List ℕ) → b ≡ a ++ l → c ≡ b ++ m → d ≡ c ++ n → x ≡ d ++ o → y ≡ x ++ p → z ≡ y ++ q → z ≡ a ++ (l ++ (m ++ (n ++ (o ++ (p ++ q)))))
six a b c d x y z l m n o p q e f h i j k = two a b z l (m ++ (n ++ (o ++ (p ++ q)))) e (five b c d x y z m n o p q f h i j k)

-- one more element of a list, each of which stands behind a comma
pub listed_at_once : {X : Type 0} (f : X → List ℕ) (xs : List X) (i : ℕ) (x : X) (text new : List ℕ) → i < length xs → x ≡ get_or xs i x → text ≡ flat_map (λ y. after_comma (f y)) (take i xs)
    → new ≡ text ++ after_comma (f x) → new ≡ flat_map (λ y. after_comma (f y)) (take (i + 1) xs)
listed_at_once f xs i x text new within at so_far more =
    more ∙ ap (λ t. t ++ after_comma (f x)) so_far ∙ flat_map_more (λ y. after_comma (f y)) [] (take i xs) x
    ∙ ap (flat_map (λ y. after_comma (f y))) (ap (λ y. take i xs ++ y ∷ []) at ∙ sym (take_more xs i x within))

-- the same, where the comma comes first
pub listed : {X : Type 0} (f : X → List ℕ) (xs : List X) (i : ℕ) (x : X) (text comma new : List ℕ) → i < length xs → x ≡ get_or xs i x → text ≡ flat_map (λ y. after_comma (f y)) (take i xs)
    → comma ≡ text ++ codes "," → new ≡ comma ++ f x → new ≡ flat_map (λ y. after_comma (f y)) (take (i + 1) xs)
listed f xs i x text comma new within at so_far one more = listed_at_once f xs i x text new within at so_far (two text comma new (codes ",") (f x) one more)
