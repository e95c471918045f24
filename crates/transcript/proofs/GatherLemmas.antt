-- Lists gathered one by one, and counts in lists that are sorted.
use Rattle.std.proofs.Common.{◌≡◌, ◌⊎◌, ℕ, zero, suc, ◌+◌, ◌<◌, ◌≤◌, Bool, true, false, cond, List, [], ◌∷◌, ◌++◌, append_assoc, append-nil, map, length, get_or, take, nat_le, Option, Some, None, Result, Ok, Err, inl, inr, refl, sym, ap, subst, ◌∙◌, arith}
use Rattle.std.specs.List.{cons_option, count_by, filter_map}
use Rattle.std.specs.List.Sorted.{IsPartitionPoint, IsPermutation}
use Rattle.std.specs.Result.{result_ok}
use Rattle.std.proofs.lemmas.List.{map-append, take_more}
use Rattle.std.proofs.lemmas.List.Elements.{filter_map-append}
use Rattle.std.proofs.lemmas.List.Sorted.{sum_by-IsPermutation}
use Rattle.std.proofs.lemmas.List.Sums.{sum_by-cons}
use Rattle.value.specs.declared.refusal.Code.{Code}
use Rattle.value.specs.declared.refusal.Refusal.{Refusal}
use Rattle.value.specs.declared.value.Value.{Value}
use Rattle.value.specs.Refusals.{out_of_memory, pointing_nowhere}
use Rattle.transcript.specs.Outcomes.{Lacks, error_of}
use Rattle.transcript.specs.Reading.{Named, name_of, named}
use Rattle.transcript.specs.declared.fault.LineError.{LineError}
use Rattle.transcript.specs.declared.fault.LineError.TheVariants.{Memory, Faulty}
use Rattle.transcript.specs.declared.fault.Reason.{Reason}
use Rattle.transcript.specs.declared.reader.Ended.{Ended}

-- one more is pushed
pub pushed_step : {X Y : Type 0} (f : X → Y) (kept new : List Y) (left rest : List X) (x : X) → left ≡ x ∷ rest → new ≡ kept ++ f x ∷ [] → new ++ map f rest ≡ kept ++ map f left
pushed_step f kept new left rest x e is = ap (λ ks. ks ++ map f rest) is ∙ append_assoc kept (f x ∷ []) (map f rest) ∙ ap (λ xs. kept ++ map f xs) (sym e)

optional : {Y : Type 0} (kept : List Y) (o : Option Y) (ys : List Y) → (kept ++ cons_option o []) ++ ys ≡ kept ++ cons_option o ys
optional kept None ys = ap (λ ks. ks ++ ys) (append-nil kept)
optional kept (Some y) ys = append_assoc kept (y ∷ []) ys

-- one more is pushed, or none
pub taken_step : {X Y : Type 0} (f : X → Option Y) (kept new : List Y) (left rest : List X) (x : X) → left ≡ x ∷ rest → new ≡ kept ++ cons_option (f x) [] → new ++ filter_map f rest ≡ kept ++ filter_map f left
taken_step f kept new left rest x e is = ap (λ ks. ks ++ filter_map f rest) is ∙ optional kept (f x) (filter_map f rest) ∙ ap (λ xs. kept ++ filter_map f xs) (sym e)

-- none is left
pub pushed_all : {X Y : Type 0} (f : X → Y) (kept all : List Y) (left : List X) → left ≡ [] → kept ++ map f left ≡ all → kept ≡ all
pushed_all f kept all left none so = sym (append-nil kept) ∙ ap (λ xs. kept ++ map f xs) (sym none) ∙ so

pub taken_all : {X Y : Type 0} (f : X → Option Y) (kept all : List Y) (left : List X) → left ≡ [] → kept ++ filter_map f left ≡ all → kept ≡ all
taken_all f kept all left none so = sym (append-nil kept) ∙ ap (λ xs. kept ++ filter_map f xs) (sym none) ∙ so

-- what comes of one more number: something, or nothing
pub looked_more : {Y : Type 0} (f : ℕ → Option Y) (xs : List ℕ) (i : ℕ) (kept new : List Y) (o : Option Y) → i < length xs → kept ≡ filter_map f (take i xs) → new ≡ kept ++ cons_option o [] → o ≡ f (get_or xs i 0)
    → new ≡ filter_map f (take (i + 1) xs)
looked_more f xs i kept new o below so is same =
    is ∙ ap (λ ks. ks ++ cons_option o []) so ∙ ap (λ p. filter_map f (take i xs) ++ cons_option p []) same ∙ sym (ap (filter_map f) (take_more xs i 0 below) ∙ filter_map-append f (take i xs) (get_or xs i 0 ∷ []))

-- one more is named
pub named_more : {X : Type 0} (f : X → Named) (old new : List X) (x : X) (n : Named) → new ≡ old ++ x ∷ [] → f x ≡ n → map f new ≡ map f old ++ n ∷ []
named_more f old new x n is same = ap (map f) is ∙ map-append f old (x ∷ []) ∙ ap (λ y. map f old ++ y ∷ []) same

-- nothing was read, for whatever reason
lacks_none : (Y : Type 0) (e : LineError) → Lacks {Y = Y} e None
lacks_none Y Memory = tt
lacks_none Y (Faulty r) = refl

-- what isn't read as values has none, or memory ran out
pub not_read : {A : Type 0} (r : Result (List (Value A)) Code) (e : Refusal) (why : Reason) → (e ≡ out_of_memory) ⊎ (pointing_nowhere r ≡ Err e) → Lacks (error_of e.code why) (result_ok r)
not_read {A} (Ok vs) e why (inl m) = subst (λ (x : Refusal). Lacks (error_of x.code why) (Some vs)) (sym m) tt
not_read {A} (Ok vs) e why (inr w) = absurd cc
not_read {A} (Err code) e why said = lacks_none (List (Value A)) (error_of e.code why)

-- ---- counts

-- as many pass as stand before the place from which none does
pub counted_by : (p : ℕ → Bool) (xs : List ℕ) (i : ℕ) → i ≤ length xs → IsPartitionPoint (λ y. p y ≡ true) (λ y. p y ≡ false) xs i → i ≡ count_by p xs
counted_by p [] i l parts = omega (arith, l)
counted_by p (x ∷ xs) zero l parts =
    let none : p x ≡ false = parts.1 0 x (omega arith) (omega arith) in
    let at : cond {A = ℕ} (p x) 1 0 ≡ 0 = ap (λ b. cond {A = ℕ} b 1 0) none in
    let more : 0 ≡ count_by p xs = counted_by p xs 0 (omega arith) (λ k d a b. absurd (omega (arith, b)), λ k d a b. parts.1 (suc k) d (omega arith) (omega (arith, b))) in
    let all : 0 ≡ cond {A = ℕ} (p x) 1 0 + count_by p xs = omega (arith, at, more) in
    all ∙ sym (sum_by-cons (λ y. cond {A = ℕ} (p y) 1 0) x xs)
counted_by p (x ∷ xs) (suc i) l parts =
    let one : p x ≡ true = parts.0 0 x (omega arith) (omega arith) in
    let at : cond {A = ℕ} (p x) 1 0 ≡ 1 = ap (λ b. cond {A = ℕ} b 1 0) one in
    let more : i ≡ count_by p xs = counted_by p xs i (omega (arith, l)) (λ k d a b. parts.0 (suc k) d (omega arith) (omega (arith, b)), λ k d a b. parts.1 (suc k) d (omega (arith, a)) (omega (arith, b))) in
    let all : suc i ≡ cond {A = ℕ} (p x) 1 0 + count_by p xs = omega (arith, at, more) in
    all ∙ sym (sum_by-cons (λ y. cond {A = ℕ} (p y) 1 0) x xs)

-- names are the same by the same lines in any order
pub names_same : {A : Type 0} (bs cs : List ℕ) → IsPermutation bs cs → (es : List (Ended A)) → map (name_of cs) es ≡ map (name_of bs) es
names_same bs cs same [] = refl
names_same bs cs same (e ∷ es) =
    ap (λ n. named n e.draft.session e.draft.lines ∷ map (name_of cs) es) (sum_by-IsPermutation (λ b. cond {A = ℕ} (nat_le b e.draft.begin) 1 0) bs cs same)
    ∙ ap (λ ns. name_of bs e ∷ ns) (names_same bs cs same es)
