-- Beginnings of one list, and what a session did in them.
use Rattle.std.proofs.Common.{◌≡◌, ◌≢◌, ◌⊎◌, ◌==◌, ℕ, zero, suc, ◌≤◌, Bool, true, false, if◌then◌else◌, nat_lt, List, [], ◌∷◌, ◌++◌, length, refl, ap, sym, ◌∙◌, inl, inr, ⊎_elim, arith, append_assoc, length-append, eq-eqb, ne_eqb}
use Rattle.std.proofs.lemmas.List.{append-nil}
use mathlib.Core.List.{IsPrefix}
use mathlib.Core.Option.{some, some-injective, some-ne-none}
use lib.ListN.{get_elem?}
use Rattle.statement.specs.declared.reply.Reply.{Reply}
use Rattle.history.specs.declared.event.Action.{Action}
use Rattle.history.specs.declared.event.Record.{Record}
use Rattle.history.specs.Answer.{of_session}
use Rattle.pass.specs.Knowing.{pick, longer}

pub prefix_self : {A : Type 0} (xs : List A) → IsPrefix xs xs
prefix_self xs = ([], append-nil xs)

pub prefix_more : {A : Type 0} (xs ys rest : List A) → IsPrefix xs ys → IsPrefix xs (ys ++ rest)
prefix_more xs ys rest p = (p.0 ++ rest, sym (append_assoc xs p.0 rest) ∙ ap (λ w. w ++ rest) p.1)

pub prefix_trans : {A : Type 0} (xs ys zs : List A) → IsPrefix xs ys → IsPrefix ys zs → IsPrefix xs zs
prefix_trans xs ys zs p q = (p.0 ++ q.0, sym (append_assoc xs p.0 q.0) ∙ (ap (λ w. w ++ q.0) p.1 ∙ q.1))

-- of two beginnings of one list the shorter begins the longer
pub prefix_shorter : {A : Type 0} (xs ys zs : List A) → IsPrefix xs zs → IsPrefix ys zs → length xs ≤ length ys → IsPrefix xs ys
prefix_shorter [] ys zs p q le = (ys, refl)
prefix_shorter (x ∷ xs) [] zs p q le = absurd (omega arith)
prefix_shorter (x ∷ xs) (y ∷ ys) [] p q le = absurd (cc (p.1))
prefix_shorter (x ∷ xs) (y ∷ ys) (z ∷ zs) p q le =
    let heads : x ≡ y = cc (p.1, q.1) in
    let rest = prefix_shorter xs ys zs (p.0, cc (p.1)) (q.0, cc (q.1)) (omega arith) in
    (rest.0, cc (heads, rest.1))

pick_append : {A : Type 0} (b : Bool) (x : A) (a c : List A) → (if b then x ∷ a else a) ++ c ≡ (if b then x ∷ (a ++ c) else (a ++ c))
pick_append true x a c = refl
pick_append false x a c = refl

pub of_session_append : {A : Type 0} (s : ℕ) (xs ys : List (Record A)) → of_session s (xs ++ ys) ≡ of_session s xs ++ of_session s ys
of_session_append {A} s [] ys = refl
of_session_append {A} s (e ∷ es) ys =
    ap (λ (l : List (Action A × Reply A)). if e.session == s then (e.action, e.reply) ∷ l else l) (of_session_append s es ys)
    ∙ sym (pick_append (e.session == s) (e.action, e.reply) (of_session s es) (of_session s ys))

pub of_session_own : {A : Type 0} (s : ℕ) (xs : List (Record A)) (e : Record A) → e.session ≡ s → of_session s (xs ++ e ∷ []) ≡ of_session s xs ++ (e.action, e.reply) ∷ []
of_session_own s xs e is =
    of_session_append s xs (e ∷ [])
    ∙ ap (λ (b : Bool). of_session s xs ++ (if b then (e.action, e.reply) ∷ [] else [])) (eq-eqb e.session s is)

pub of_session_other : {A : Type 0} (s : ℕ) (xs : List (Record A)) (e : Record A) → e.session ≢ s → of_session s (xs ++ e ∷ []) ≡ of_session s xs
of_session_other s xs e ne =
    of_session_append s xs (e ∷ [])
    ∙ ap (λ (b : Bool). of_session s xs ++ (if b then (e.action, e.reply) ∷ [] else [])) (ne_eqb e.session s ne)
    ∙ append-nil (of_session s xs)

empty_rest : {A : Type 0} (a r : List A) → length (a ++ r) ≤ length a → a ≡ a ++ r
empty_rest a [] le = sym (append-nil a)
empty_rest a (x ∷ r) le = absurd (omega (arith, length-append a (x ∷ r)))

-- what lies between two beginnings in which a session did the same has that of it too
pub squeeze : {A : Type 0} (s : ℕ) (xs ys zs : List (Record A)) → IsPrefix xs ys → IsPrefix ys zs → of_session s xs ≡ of_session s zs → of_session s xs ≡ of_session s ys
squeeze s xs ys zs p q same =
    let one : of_session s ys ≡ of_session s xs ++ of_session s p.0 = ap (of_session s) (sym p.1) ∙ of_session_append s xs p.0 in
    let two : of_session s zs ≡ of_session s ys ++ of_session s q.0 = ap (of_session s) (sym q.1) ∙ of_session_append s ys q.0 in
    let long : length (of_session s xs) ≡ length (of_session s zs) = ap length same in
    let a : length (of_session s ys) ≡ length (of_session s xs ++ of_session s p.0) = ap length one in
    let b : length (of_session s zs) ≡ length (of_session s ys ++ of_session s q.0) = ap length two in
    empty_rest (of_session s xs) (of_session s p.0) (omega (arith, length-append (of_session s ys) (of_session s q.0))) ∙ sym one

pub pick_either : {A : Type 0} (P : A → Type 0) (b : Bool) (x y : A) → P x → P y → P (pick b x y)
pick_either P true x y p q = p
pick_either P false x y p q = q

-- by cases on a comparison of two lengths
pub longer_cases : {A : Type 0} (xs ys : List (Record A)) (P : List (Record A) → Type 0) → (length xs ≤ length ys → P ys) → (length ys ≤ length xs → P xs) → P (longer xs ys)
longer_cases xs ys P up down = by (nat_lt (length xs) (length ys)) refl
  where
    by : (b : Bool) → nat_lt (length xs) (length ys) ≡ b → P (pick b ys xs)
    by true e = up (search arith)
    by false e = down (search arith)

pub at_end : {A : Type 0} (l : List A) (a b : A) (j : ℕ) → get_elem? (l ++ a ∷ []) j ≡ some b → (get_elem? l j ≡ some b) ⊎ ((j ≡ length l) × (a ≡ b))
at_end [] a b zero e = inr (refl, some-injective a b e)
at_end [] a b (suc j) e = absurd (some-ne-none b (sym e))
at_end (x ∷ xs) a b zero e = inl e
at_end (x ∷ xs) a b (suc j) e = ⊎_elim (λ t. inl t) (λ (t : (j ≡ length xs) × (a ≡ b)). inr (ap suc t.0, t.1)) (at_end xs a b j e)

-- a beginning as long as the whole is the whole
pub prefix_whole : {A : Type 0} (xs ys : List A) → IsPrefix xs ys → length ys ≤ length xs → xs ≡ ys
prefix_whole [] [] p le = refl
prefix_whole [] (y ∷ ys) p le = absurd (omega arith)
prefix_whole (x ∷ xs) [] p le = absurd (cc (p.1))
prefix_whole (x ∷ xs) (y ∷ ys) p le =
    let rest = prefix_whole xs ys (p.0, cc (p.1)) (omega arith) in cc (p.1, rest)

pub longer_whole : {A : Type 0} (xs ys : List (Record A)) → IsPrefix xs ys → longer xs ys ≡ ys
longer_whole xs ys p = longer_cases xs ys (λ l. l ≡ ys) (λ _. refl) (λ le. prefix_whole xs ys p le)

-- two lists that are one end in one element
pub snoc_last : {T : Type 0} (xs ys : List T) (x y : T) → xs ++ x ∷ [] ≡ ys ++ y ∷ [] → x ≡ y
snoc_last [] [] x y e = cc e
snoc_last [] (z ∷ []) x y e = absurd (cc e)
snoc_last [] (z ∷ w ∷ zs) x y e = absurd (cc e)
snoc_last (z ∷ []) [] x y e = absurd (cc e)
snoc_last (z ∷ w ∷ zs) [] x y e = absurd (cc e)
snoc_last (z ∷ zs) (w ∷ ws) x y e = snoc_last zs ws x y (cc e)
