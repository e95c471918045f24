-- What std lacks of tests, numbers, orderings, options, results and lists.
use Rattle.std.proofs.Common.{◌≡◌, refl, sym, ap, subst, ◌∙◌, ℕ, zero, suc, ◌+◌, ◌-◌, ◌%◌, ◌^◌, ◌<◌, ◌≤◌, Bool, true, false, true≢false, T, not, cond, ◌&&◌, ◌||◌, ◌⊎◌, inl, inr, List, [], ◌∷◌, ◌++◌, map, length, get_or, set, take, drop, Option, Some, None, is_some, Result, Ok, Err, IfOk, bytes_eq, slice_get, slice_index, slice_set, fold, zip, eqb, nat_lt, arith, drop-cons}
use Rattle.std.proofs.lemmas.Bool.{and_parts, or_left, or_right}
use Rattle.std.proofs.lemmas.Bool.Decides.{nat_tests}
use Rattle.std.proofs.lemmas.List.{drop_more, take-append-drop, take_all, take_more}
use Rattle.std.proofs.lemmas.List.Folds.{find-append}
use Rattle.std.proofs.lemmas.Slice.Eq.{bytes_eq-Decides}
use Rattle.std.specs.Cmp.{nat_cmp_is}
use Rattle.std.specs.List.{AllByRecursion, AllWithin, filter, find, list_all, list_any}
use Rattle.std.specs.Option.{option_map, option_map_or, option_or}
use Rattle.std.specs.Ordering.{is_eq, is_le, is_lt, nat_cmp}
use Rattle.std.specs.declared.cmp.Ordering.{Ordering}
use Rattle.std.specs.declared.cmp.Ordering.TheVariants.{Less, Equal, Greater}
use Rattle.value.specs.Isolation.{first_some}
use Rattle.value.proofs.IsolationLemmas.{In}

-- ---- tests

pub true_from_T : (b : Bool) → T b → b ≡ true
true_from_T true t = refl
true_from_T false t = absurd t

pub and_from_three : (a b c : Bool) → a ≡ true → b ≡ true → c ≡ true → (a && b && c) ≡ true
and_from_three a b c p q r = cc

pub cond-not : {T : Type 0} (b : Bool) (x y : T) → cond (not b) x y ≡ cond b y x
cond-not true x y = refl
cond-not false x y = refl

-- ---- numbers

pub cases_le : (a b : ℕ) → (a ≤ b) ⊎ (b < a)
cases_le a b = grind arith

pub eqb-self : (a : ℕ) → eqb a a ≡ true
eqb-self a = grind (arith, nat_tests)

pub eqb_comm : (a b : ℕ) → eqb a b ≡ eqb b a
eqb_comm a b = go (eqb a b) refl
  where
    go : (x : Bool) → eqb a b ≡ x → x ≡ eqb b a
    go true e = yes_turned
      where
        yes_turned : true ≡ eqb b a
        yes_turned = grind (arith, nat_tests)
    go false e = no_turned
      where
        no_turned : false ≡ eqb b a
        no_turned = grind (arith, nat_tests)

pub lt-eqb : (a b : ℕ) → a < b → eqb a b ≡ false
lt-eqb a b h = grind (arith, nat_tests)

pub gt-eqb : (a b : ℕ) → a < b → eqb b a ≡ false
gt-eqb a b h = grind (arith, nat_tests)

pub nat_lt-trans : (a b c : ℕ) → nat_lt a b ≡ true → nat_lt b c ≡ true → nat_lt a c ≡ true
nat_lt-trans a b c p q = grind (arith, nat_tests)

pub not_nat_lt-trans : (a b c : ℕ) → nat_lt a b ≡ false → nat_lt b c ≡ false → nat_lt a c ≡ false
not_nat_lt-trans a b c p q = grind (arith, nat_tests)

pub nat_lt-zero : (n : ℕ) → nat_lt 0 (suc n) ≡ true
nat_lt-zero n = grind (arith, nat_tests)

pub nat_lt-suc : (m n : ℕ) → nat_lt (1 + m) (suc n) ≡ nat_lt m n
nat_lt-suc m n = grind (arith, nat_tests)

pub nat_cmp-self : (n : ℕ) → nat_cmp n n ≡ Equal
nat_cmp-self n = sym (nat_cmp_is n n Equal refl)

-- ---- orderings

pub Less-from_lt : (o : Ordering) → is_lt o ≡ true → o ≡ Less
Less-from_lt Less e = refl
Less-from_lt Equal e = cc
Less-from_lt Greater e = cc

pub Less-from_le : (o : Ordering) → is_le o ≡ true → is_eq o ≡ false → o ≡ Less
Less-from_le Less e f = refl
Less-from_le Equal e f = cc
Less-from_le Greater e f = cc

pub Equal-from_eq : (o : Ordering) → is_eq o ≡ true → o ≡ Equal
Equal-from_eq Less e = cc
Equal-from_eq Equal e = refl
Equal-from_eq Greater e = cc

pub Greater-from_le : (o : Ordering) → is_le o ≡ false → o ≡ Greater
Greater-from_le Less e = cc
Greater-from_le Equal e = cc
Greater-from_le Greater e = refl

pub le_from_lt : (o : Ordering) → is_lt o ≡ true → is_le o ≡ true
le_from_lt Less e = refl
le_from_lt Equal e = refl
le_from_lt Greater e = e

-- ---- options and results

pub None-from_some : {X : Type 0} (o : Option X) → is_some o ≡ false → o ≡ None
None-from_some None e = refl
None-from_some (Some x) e = absurd (true≢false e)

pub IfOk_then : {T E : Type 0} {P Q : T → Type 0} (r : Result T E) → IfOk r P → ((x : T) → P x → Q x) → IfOk r Q
IfOk_then (Ok x) h f = f x h
IfOk_then (Err e) h f = h

-- ---- the places of a list

pub bytes_eq-self : (text : List ℕ) → bytes_eq text text ≡ true
bytes_eq-self text = (bytes_eq-Decides text text).1 refl

-- a list that isn't empty is its first element and the rest
pub first_and_rest : {X : Type 0} (xs : List X) (x : X) → 1 ≤ length xs → x ≡ get_or xs 0 x → xs ≡ x ∷ take (length xs - 1) (drop 1 xs)
first_and_rest [] x long first = absurd (omega arith)
first_and_rest (y ∷ ys) x long first =
    let e : length (y ∷ ys) - 1 ≡ length ys = omega arith in
    ap (λ z. z ∷ ys) (sym first) ∙ ap (λ zs. x ∷ zs) (sym (ap (λ n. take n ys) e ∙ take_all (length ys) ys (omega arith)))

-- one more element
pub take_next : {X : Type 0} (xs : List X) (i : ℕ) (x : X) → i < length xs → x ≡ get_or xs i x → take (i + 1) xs ≡ take i xs ++ x ∷ []
take_next xs i x lt at = take_more xs i x lt ∙ ap (λ y. take i xs ++ y ∷ []) (sym at)

pub drop_next : {X : Type 0} (xs : List X) (i : ℕ) (x : X) → i < length xs → x ≡ get_or xs i x → drop i xs ≡ x ∷ drop (i + 1) xs
drop_next xs i x lt at = drop_more xs i x lt ∙ ap (λ y. y ∷ drop (i + 1) xs) (sym at)

-- an element, with those before and those after it
pub split_at : {X : Type 0} (xs : List X) (i : ℕ) (x : X) → i < length xs → x ≡ get_or xs i x → xs ≡ take i xs ++ x ∷ drop (suc i) xs
split_at xs i x lt at = sym (take-append-drop i xs) ∙ ap (λ ys. take i xs ++ ys) (drop-cons xs i x lt ∙ ap (λ y. y ∷ drop (suc i) xs) (sym at))

pub append_cons : {X : Type 0} (xs : List X) (y : X) (ys : List X) → xs ++ y ∷ ys ≡ (xs ++ y ∷ []) ++ ys
append_cons [] y ys = refl
append_cons (x ∷ xs) y ys = ap (λ zs. x ∷ zs) (append_cons xs y ys)

pub slice_get_item : {X : Type 0} (xs : List X) (i : ℕ) (x : X) → i < length xs → x ≡ get_or xs i x → slice_get xs i ≡ Some x
slice_get_item [] i x lt at = absurd (omega arith)
slice_get_item (y ∷ ys) zero x lt at = ap Some (sym at)
slice_get_item (y ∷ ys) (suc i) x lt at = slice_get_item ys i x (omega arith) at

pub slice_get-drop : {X : Type 0} (xs : List X) (i : ℕ) (x : X) → slice_get xs i ≡ Some x → drop i xs ≡ x ∷ drop (suc i) xs
slice_get-drop [] i x e = cc
slice_get-drop (y ∷ ys) zero x e = let same : y ≡ x = cc in ap (λ z. z ∷ ys) same
slice_get-drop (y ∷ ys) (suc i) x e = slice_get-drop ys i x e

pub slice_get-none : {X : Type 0} (xs : List X) (i : ℕ) → slice_get xs i ≡ None → drop i xs ≡ []
slice_get-none [] zero e = refl
slice_get-none [] (suc i) e = refl
slice_get-none (y ∷ ys) zero e = cc
slice_get-none (y ∷ ys) (suc i) e = slice_get-none ys i e

-- a test that holds of what stands at a place
pub below-passed : {X : Type 0} (p : X → Bool) (xs : List X) (i : ℕ) → option_map_or p (slice_get xs i) false ≡ true → i < length xs
below-passed p [] i e = cc
below-passed p (y ∷ ys) zero e = omega arith
below-passed p (y ∷ ys) (suc i) e = let lt : i < length ys = below-passed p ys i e in omega arith

pub zip_same : {X : Type 0} (f : X → X → Bool) → ((x y : X) → f x y ≡ true → x ≡ y) → (xs ys : List X) → length xs ≡ length ys → list_all (λ p. f p.0 p.1) (zip xs ys) ≡ true → xs ≡ ys
zip_same f h [] [] e a = refl
zip_same f h [] (y ∷ ys) e a = absurd (omega arith)
zip_same f h (x ∷ xs) [] e a = absurd (omega arith)
zip_same f h (x ∷ xs) (y ∷ ys) e a =
    let p = and_parts (f x y) (list_all (λ p. f p.0 p.1) (zip xs ys)) a in
    let l : length xs ≡ length ys = omega arith in
    ap (λ z. z ∷ xs) (h x y p.0) ∙ ap (λ zs. y ∷ zs) (zip_same f h xs ys l p.1)

-- a list of one number: what is read there, and one more written there
pub one_word : (ws : List ℕ) (n : ℕ) → ws ≡ n ∷ [] → slice_index ws 0 ≡ n
one_word ws n e = subst (λ (l : List ℕ). slice_index l 0 ≡ n) (sym e) refl

pub word_next : (ws : List ℕ) (n : ℕ) → ws ≡ n ∷ [] → n + 1 < 2 ^ 64 → slice_set ws 0 ((slice_index ws 0 + 1) % 2 ^ 64) ≡ (n + 1) ∷ []
word_next ws n e small =
    let m : (n + 1) % 2 ^ 64 ≡ n + 1 = omega arith in
    subst (λ (l : List ℕ). slice_set l 0 ((slice_index l 0 + 1) % 2 ^ 64) ≡ (n + 1) ∷ []) (sym e) (ap (λ (k : ℕ). k ∷ []) m)

-- ---- what holds of each element

pub all-weaker : {X : Type 0} (P Q : X → Type 0) → ((x : X) → P x → Q x) → (xs : List X) → AllByRecursion P xs → AllByRecursion Q xs
all-weaker P Q step [] all = tt
all-weaker P Q step (x ∷ xs) all = (step x all.0, all-weaker P Q step xs all.1)

pub all-append : {X : Type 0} (P : X → Type 0) (xs ys : List X) → AllByRecursion P xs → AllByRecursion P ys → AllByRecursion P (xs ++ ys)
all-append P [] ys first second = second
all-append P (x ∷ xs) ys first second = (first.0, all-append P xs ys first.1 second)

pub all-parts : {X : Type 0} (P : X → Type 0) (xs ys : List X) → AllByRecursion P (xs ++ ys) → AllByRecursion P xs × AllByRecursion P ys
all-parts P [] ys all = (tt, all)
all-parts P (x ∷ xs) ys all = let rest = all-parts P xs ys all.1 in ((all.0, rest.0), rest.1)

pub all-set : {X : Type 0} (P : X → Type 0) (xs : List X) (i : ℕ) (y : X) → P y → AllByRecursion P xs → AllByRecursion P (set xs i y)
all-set P [] i y p all = all
all-set P (x ∷ xs) zero y p all = (p, all.1)
all-set P (x ∷ xs) (suc i) y p all = (all.0, all-set P xs i y p all.1)

pub all-at : {X : Type 0} (P : X → Type 0) (xs : List X) (i : ℕ) (d : X) → i < length xs → AllByRecursion P xs → P (get_or xs i d)
all-at P [] i d lt all = absurd (omega arith)
all-at P (x ∷ xs) zero d lt all = all.0
all-at P (x ∷ xs) (suc i) d lt all = all-at P xs i d (omega arith) all.1

pub all-get : {X : Type 0} (P : X → Type 0) (xs : List X) (i : ℕ) (x : X) → i < length xs → x ≡ get_or xs i x → AllByRecursion P xs → P x
all-get P xs i x lt at all = subst P (sym at) (all-at P xs i x lt all)

pub all-filter : {X : Type 0} (P : X → Type 0) (p : X → Bool) (xs : List X) → AllByRecursion P xs → AllByRecursion P (filter p xs)
all-filter P p [] all = tt
all-filter P p (x ∷ xs) all = by_test (p x) (all-filter P p xs all.1)
  where
    by_test : (b : Bool) → AllByRecursion P (filter p xs) → AllByRecursion P (cond b (x ∷ filter p xs) (filter p xs))
    by_test true rest = (all.0, rest)
    by_test false rest = rest

pub all-take : {X : Type 0} (P : X → Type 0) (i : ℕ) (xs : List X) → i ≤ length xs → AllWithin P xs 0 i → AllByRecursion P (take i xs)
all-take P zero xs le h = tt
all-take P (suc i) [] le h = tt
all-take P (suc i) (x ∷ xs) le h = (h 0 x (omega arith) (omega arith), all-take P i xs (omega arith) (λ k d low high. h (suc k) d (omega arith) (omega arith)))

pub all-take_less : {X : Type 0} (P : X → Type 0) (i j : ℕ) (xs : List X) → i ≤ j → AllByRecursion P (take j xs) → AllByRecursion P (take i xs)
all-take_less P zero j xs le all = tt
all-take_less P (suc i) zero xs le all = absurd (omega arith)
all-take_less P (suc i) (suc j) [] le all = tt
all-take_less P (suc i) (suc j) (x ∷ xs) le all = (all.0, all-take_less P i j xs (omega arith) all.1)

pub all-drop : {X : Type 0} (P : X → Type 0) (i : ℕ) (xs : List X) → AllWithin P xs i (length xs) → AllByRecursion P (drop i xs)
all-drop P zero [] h = tt
all-drop P zero (x ∷ xs) h = (h 0 x (omega arith) (omega arith), all-drop P zero xs (λ k d low high. h (suc k) d (omega arith) (omega arith)))
all-drop P (suc i) [] h = tt
all-drop P (suc i) (x ∷ xs) h = all-drop P i xs (λ k d low high. h (suc k) d (omega arith) (omega arith))

-- ---- what some element passes, and what is found and folded

pub any-weaker : {X : Type 0} (p q : X → Bool) → ((x : X) → p x ≡ true → q x ≡ true) → (xs : List X) → list_any p xs ≡ true → list_any q xs ≡ true
any-weaker p q f [] e = e
any-weaker p q f (x ∷ xs) e = go (p x) refl (any-weaker p q f xs) e
  where
    go : (b : Bool) → p x ≡ b → (list_any p xs ≡ true → list_any q xs ≡ true) → (b || list_any p xs) ≡ true → (q x || list_any q xs) ≡ true
    go true h rest g = or_left (q x) _ (f x h)
    go false h rest g = or_right (q x) _ (rest g)

pub any-front : {X : Type 0} (p : X → Bool) (xs ys : List X) → list_any p xs ≡ true → list_any p (xs ++ ys) ≡ true
any-front p [] ys h = absurd (true≢false (sym h))
any-front p (x ∷ xs) ys h = go (p x) (any-front p xs ys) h
  where
    go : (b : Bool) → (list_any p xs ≡ true → list_any p (xs ++ ys) ≡ true) → (b || list_any p xs) ≡ true → (b || list_any p (xs ++ ys)) ≡ true
    go true rest e = refl
    go false rest e = rest e

pub any-back : {X : Type 0} (p : X → Bool) (xs ys : List X) → list_any p ys ≡ true → list_any p (xs ++ ys) ≡ true
any-back p [] ys h = h
any-back p (x ∷ xs) ys h = or_right (p x) (list_any p (xs ++ ys)) (any-back p xs ys h)

pub any-cases : {X : Type 0} (p : X → Bool) (xs ys : List X) → list_any p (xs ++ ys) ≡ true → (list_any p xs ≡ true) ⊎ (list_any p ys ≡ true)
any-cases p [] ys e = inr e
any-cases p (x ∷ xs) ys e = go (p x) (any-cases p xs ys) e
  where
    go : (b : Bool) → (list_any p (xs ++ ys) ≡ true → (list_any p xs ≡ true) ⊎ (list_any p ys ≡ true)) → (b || list_any p (xs ++ ys)) ≡ true → ((b || list_any p xs) ≡ true) ⊎ (list_any p ys ≡ true)
    go true rest f = inl refl
    go false rest f = rest f

pub any-neither : {X : Type 0} (p : X → Bool) (xs ys : List X) → list_any p xs ≡ false → list_any p ys ≡ false → list_any p (xs ++ ys) ≡ false
any-neither p [] ys e f = f
any-neither p (x ∷ xs) ys e f = go (p x) (λ h. any-neither p xs ys h f) e
  where
    go : (b : Bool) → (list_any p xs ≡ false → list_any p (xs ++ ys) ≡ false) → (b || list_any p xs) ≡ false → (b || list_any p (xs ++ ys)) ≡ false
    go true rest h = absurd (true≢false h)
    go false rest h = rest h

pub In-any : {X : Type 0} (p : X → Bool) (xs : List X) (x : X) → In x xs → p x ≡ true → list_any p xs ≡ true
In-any p [] x i e = absurd i
In-any p (y ∷ xs) x (inl q) e = or_left (p y) (list_any p xs) (sym (ap p q) ∙ e)
In-any p (y ∷ xs) x (inr i) e = or_right (p y) (list_any p xs) (In-any p xs x i e)

pub any-In : {X : Type 0} (p : X → Bool) (xs : List X) → list_any p xs ≡ true → (x : X) × In x xs × (p x ≡ true)
any-In p [] e = absurd (true≢false (sym e))
any-In {X} p (y ∷ xs) e = go (p y) refl (any-In p xs) e
  where
    go : (b : Bool) → p y ≡ b → (list_any p xs ≡ true → (x : X) × In x xs × (p x ≡ true)) → (b || list_any p xs) ≡ true → (x : X) × In x (y ∷ xs) × (p x ≡ true)
    go true q rest f = (y, inl refl, q)
    go false q rest f = let r = rest f in (r.0, inr r.1, r.2)

pub any-same : {X : Type 0} (p q : X → Bool) → ((x : X) → p x ≡ q x) → (xs : List X) → list_any p xs ≡ list_any q xs
any-same p q h [] = refl
any-same p q h (x ∷ xs) = ap (λ b. b || list_any p xs) (h x) ∙ ap (λ b. q x || b) (any-same p q h xs)

pub any-same_in : {X : Type 0} (p q : X → Bool) (xs : List X) → ((x : X) → In x xs → p x ≡ q x) → list_any p xs ≡ list_any q xs
any-same_in p q [] h = refl
any-same_in p q (x ∷ xs) h = ap (λ b. b || list_any p xs) (h x (inl refl)) ∙ ap (λ b. q x || b) (any-same_in p q xs (λ y i. h y (inr i)))

pub filter-In : {X : Type 0} (p : X → Bool) (x : X) (xs : List X) → In x xs → p x ≡ true → In x (filter p xs)
filter-In p x [] i e = absurd i
filter-In p x (y ∷ xs) i e = go (p y) refl (filter-In p x xs) i
  where
    go : (b : Bool) → p y ≡ b → (In x xs → p x ≡ true → In x (filter p xs)) → (x ≡ y) ⊎ In x xs → In x (cond b (y ∷ filter p xs) (filter p xs))
    go true d rest (inl q) = inl q
    go true d rest (inr j) = inr (rest j e)
    go false d rest (inl q) = absurd (true≢false (sym (ap p (sym q) ∙ e) ∙ d))
    go false d rest (inr j) = rest j e

pub filter_none : {X : Type 0} (p : X → Bool) (xs : List X) → ((x : X) → In x xs → p x ≡ false) → filter p xs ≡ []
filter_none p [] h = refl
filter_none p (x ∷ xs) h = ap (λ b. cond b (x ∷ filter p xs) (filter p xs)) (h x (inl refl)) ∙ filter_none p xs (λ y i. h y (inr i))

pub none_from_filter : {X : Type 0} (p : X → Bool) (xs : List X) (x : X) → filter p xs ≡ [] → In x xs → p x ≡ false
none_from_filter p [] x e i = absurd i
none_from_filter {X} p (y ∷ xs) x e i = go (p y) refl (none_from_filter p xs x) e i
  where
    go : (b : Bool) → p y ≡ b → (filter p xs ≡ [] → In x xs → p x ≡ false) → cond b (y ∷ filter p xs) (filter p xs) ≡ [] → (x ≡ y) ⊎ In x xs → p x ≡ false
    go true q rest h j = cc
    go false q rest h (inl r) = ap p r ∙ q
    go false q rest h (inr j) = rest h j

pub find-In : {X : Type 0} (p : X → Bool) (xs : List X) (x : X) → find p xs ≡ Some x → In x xs × (p x ≡ true)
find-In p [] x e = cc
find-In p (y ∷ xs) x e = go (p y) refl (find-In p xs x) e
  where
    go : (b : Bool) → p y ≡ b → (find p xs ≡ Some x → In x xs × (p x ≡ true)) → cond b (Some y) (find p xs) ≡ Some x → ((x ≡ y) ⊎ In x xs) × (p x ≡ true)
    go true d rest f = let q : y ≡ x = cc in (inl (sym q), ap p (sym q) ∙ d)
    go false d rest f = (inr (rest f).0, (rest f).1)

pub find-same_in : {X : Type 0} (p q : X → Bool) (xs : List X) → ((x : X) → In x xs → p x ≡ q x) → find p xs ≡ find q xs
find-same_in p q [] h = refl
find-same_in p q (x ∷ xs) h = ap (λ b. cond b (Some x) (find p xs)) (h x (inl refl)) ∙ ap (λ o. cond (q x) (Some x) o) (find-same_in p q xs (λ y i. h y (inr i)))

-- nothing is found before, and this element isn't what is sought either
pub find-next : {X : Type 0} (p : X → Bool) (xs : List X) (i : ℕ) (x : X) → i < length xs → x ≡ get_or xs i x → find p (take i xs) ≡ None → p x ≡ false → find p (take (i + 1) xs) ≡ None
find-next p xs i x lt at none e =
    ap (find p) (take_next xs i x lt at) ∙ find-append p (take i xs) (x ∷ [])
    ∙ ap (λ o. option_or o (find p (x ∷ []))) none
    ∙ ap (λ b. cond b (Some x) None) e

pub fold-same_in : {X B : Type 0} (f g : B → X → B) (b : B) (xs : List X) → ((c : B) (x : X) → In x xs → f c x ≡ g c x) → fold f b xs ≡ fold g b xs
fold-same_in f g b [] h = refl
fold-same_in f g b (x ∷ xs) h = fold-same_in f g (f b x) xs (λ c y i. h c y (inr i)) ∙ ap (λ a. fold g a xs) (h b x (inl refl))

pub first_some-passes : {A B : Type 0} (f : A → Option B) (xs ys : List A) → first_some f xs ≡ None → first_some f (xs ++ ys) ≡ first_some f ys
first_some-passes f [] ys none = refl
first_some-passes {A} {B} f (x ∷ xs) ys none = go (f x) (first_some-passes f xs ys) none
  where
    go : (o : Option B) → (first_some f xs ≡ None → first_some f (xs ++ ys) ≡ first_some f ys) → cond (is_some o) o (first_some f xs) ≡ None → cond (is_some o) o (first_some f (xs ++ ys)) ≡ first_some f ys
    go None rest e = rest e
    go (Some y) rest e = cc

pub first_some-In : {A B : Type 0} (f : A → Option B) (xs : List A) (x : A) → first_some f xs ≡ None → In x xs → f x ≡ None
first_some-In f [] x e i = absurd i
first_some-In {A} {B} f (y ∷ xs) x e i = go (f y) refl (first_some-In f xs x) e i
  where
    go : (o : Option B) → f y ≡ o → (first_some f xs ≡ None → In x xs → f x ≡ None) → cond (is_some o) o (first_some f xs) ≡ None → (x ≡ y) ⊎ In x xs → f x ≡ None
    go None q rest g (inl p) = ap f p ∙ q
    go None q rest g (inr j) = rest g j
    go (Some z) q rest g j = cc

pub first_some-none : {A B : Type 0} (f : A → Option B) (xs : List A) → ((x : A) → In x xs → f x ≡ None) → first_some f xs ≡ None
first_some-none f [] h = refl
first_some-none f (x ∷ xs) h = ap (λ o. cond (is_some o) o (first_some f xs)) (h x (inl refl)) ∙ first_some-none f xs (λ y i. h y (inr i))

pub first_some-same_in : {A B : Type 0} (f g : A → Option B) (xs : List A) → ((x : A) → In x xs → f x ≡ g x) → first_some f xs ≡ first_some g xs
first_some-same_in f g [] h = refl
first_some-same_in f g (x ∷ xs) h =
    ap (λ o. cond (is_some o) o (first_some f xs)) (h x (inl refl))
    ∙ ap (λ o. cond (is_some (g x)) (g x) o) (first_some-same_in f g xs (λ y i. h y (inr i)))

-- ---- lists whose elements are seen through a function

pub In-map : {X Y : Type 0} (f : X → Y) (y : Y) (xs : List X) → In y (map f xs) → (x : X) × In x xs × (y ≡ f x)
In-map f y [] i = absurd i
In-map f y (x ∷ xs) (inl q) = (x, inl refl, q)
In-map f y (x ∷ xs) (inr i) = let r = In-map f y xs i in (r.0, inr r.1, r.2)

pub In-mapped : {X Y : Type 0} (f : X → Y) (x : X) (xs : List X) → In x xs → In (f x) (map f xs)
In-mapped f x [] i = absurd i
In-mapped f x (y ∷ xs) (inl q) = inl (ap f q)
In-mapped f x (y ∷ xs) (inr i) = inr (In-mapped f x xs i)

pub find-map : {X Y : Type 0} (f : X → Y) (p : Y → Bool) (xs : List X) → find p (map f xs) ≡ option_map f (find (λ x. p (f x)) xs)
find-map f p [] = refl
find-map f p (x ∷ xs) = go (p (f x)) (find-map f p xs)
  where
    go : (b : Bool) → find p (map f xs) ≡ option_map f (find (λ z. p (f z)) xs) → cond b (Some (f x)) (find p (map f xs)) ≡ option_map f (cond b (Some x) (find (λ z. p (f z)) xs))
    go true e = refl
    go false e = e

pub filter-map : {X Y : Type 0} (f : X → Y) (p : Y → Bool) (xs : List X) → filter p (map f xs) ≡ map f (filter (λ x. p (f x)) xs)
filter-map f p [] = refl
filter-map f p (x ∷ xs) = go (p (f x)) (filter-map f p xs)
  where
    go : (b : Bool) → filter p (map f xs) ≡ map f (filter (λ z. p (f z)) xs) → cond b (f x ∷ filter p (map f xs)) (filter p (map f xs)) ≡ map f (cond b (x ∷ filter (λ z. p (f z)) xs) (filter (λ z. p (f z)) xs))
    go true e = ap (λ ys. f x ∷ ys) e
    go false e = e

pub first_some-map : {X Y B : Type 0} (f : X → Y) (g : Y → Option B) (xs : List X) → first_some g (map f xs) ≡ first_some (λ x. g (f x)) xs
first_some-map f g [] = refl
first_some-map f g (x ∷ xs) = ap (λ o. cond (is_some (g (f x))) (g (f x)) o) (first_some-map f g xs)
