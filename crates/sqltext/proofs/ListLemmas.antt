-- Reading items one after the other, as a loop does.
use Rattle.std.proofs.Common.{◌≡◌, ℕ, suc, ◌-◌, ◌+◌, ◌≤◌, ◌<◌, List, [], ◌∷◌, ◌++◌, length, Some, None, Result, Ok, Err, refl, sym, ap, ◌∙◌, append_assoc, arith}
use Rattle.std.proofs.lemmas.List.{append-nil}
use Rattle.value.specs.declared.refusal.Refusal.{Refusal}
use Rattle.sqltext.specs.declared.token.Token.{Token}
use Rattle.sqltext.specs.declared.token.TokenKind.{TokenKind}
use Rattle.sqltext.specs.declared.error.ParseError.{ParseError}
use Rattle.sqltext.specs.declared.error.ParseError.TheVariants as error
use Rattle.sqltext.specs.Reading.{◌>>=◌, Fails, past, more, list_of}

module _ {T : Type 0} where
  -- what was read before, and what is still read
  abbrev pub with_front : List T → Result (List T × List Token) Refusal → Result (List T × List Token) Refusal
  with_front front read = read >>= λ x. Ok (front ++ x.0, x.1)

  regroup : (front : List T) (x : T) (read : Result (List T × List Token) Refusal) → with_front front (read >>= λ xs. Ok (x ∷ xs.0, xs.1)) ≡ with_front (front ++ x ∷ []) read
  regroup front x (Ok xs) = ap (λ (all : List T). Ok (all, xs.1)) (simp append_assoc)
  regroup front x (Err e) = refl

  module _ (separator : TokenKind) (item : List Token → Result (T × List Token) Refusal) where
    pub begins : (first : T) (tokens after : List Token) → item tokens ≡ Ok (first, after) → with_front (first ∷ []) (more separator item (length after) after) ≡ list_of separator item tokens
    unfolding list_of
    begins first tokens after h = rw h (regrouped (more separator item (length after) after))
      where
        regrouped : (read : Result (List T × List Token) Refusal) → with_front (first ∷ []) read ≡ (read >>= λ xs. Ok (first ∷ xs.0, xs.1))
        regrouped (Ok xs) = refl
        regrouped (Err e) = refl

    pub fails_first : (e : ParseError) (tokens : List Token) → Fails e (item tokens) → Fails e (list_of separator item tokens)
    unfolding list_of
    fails_first error.Memory tokens h = tt
    fails_first (error.Refused r) tokens h = rw h refl

    one_more : (n : ℕ) (ts after : List Token) (x : T) (rest : List Token) → past separator ts ≡ Some after → item after ≡ Ok (x, rest)
        → more separator item (suc n) ts ≡ (more separator item n rest >>= λ xs. Ok (x ∷ xs.0, xs.1))
    unfolding more
    one_more n ts after x rest p h = rw (p, h) refl

    pub goes_on : (front : List T) (count i : ℕ) (ts after : List Token) (x : T) (rest : List Token) (total : Result (List T × List Token) Refusal) → i < count
        → past separator ts ≡ Some after → item after ≡ Ok (x, rest)
        → with_front front (more separator item (count - i) ts) ≡ total → with_front (front ++ x ∷ []) (more separator item (count - (i + 1)) rest) ≡ total
    goes_on front count i ts after x rest total lt p h so_far =
        let k : count - i ≡ suc (count - (i + 1)) = omega arith in
        let one : with_front front (more separator item (count - i) ts) ≡ with_front (front ++ x ∷ []) (more separator item (count - (i + 1)) rest) =
        rw (k, one_more (count - (i + 1)) ts after x rest p h) (regroup front x (more separator item (count - (i + 1)) rest)) in
        sym one ∙ so_far

    pub fails : (e : ParseError) (front : List T) (count i : ℕ) (ts after : List Token) (total : Result (List T × List Token) Refusal) → i < count
        → past separator ts ≡ Some after → Fails e (item after)
        → with_front front (more separator item (count - i) ts) ≡ total → Fails e total
    unfolding more
    fails error.Memory front count i ts after total lt p h so_far = tt
    fails (error.Refused r) front count i ts after total lt p h so_far =
        let k : count - i ≡ suc (count - (i + 1)) = omega arith in
        let one : with_front front (more separator item (count - i) ts) ≡ Err r = rw (k, p, h) refl in
        sym so_far ∙ one

    pub ends : (front : List T) (count i : ℕ) (ts : List Token) (total : Result (List T × List Token) Refusal) → i < count → past separator ts ≡ None
        → with_front front (more separator item (count - i) ts) ≡ total → total ≡ Ok (front, ts)
    unfolding more
    ends front count i ts total lt p so_far =
        let k : count - i ≡ suc (count - (i + 1)) = omega arith in
        let one : with_front front (more separator item (count - i) ts) ≡ Ok (front, ts) = rw (k, p) (ap (λ (xs : List T). Ok (xs, ts)) (append-nil front)) in
        sym so_far ∙ one

    pub is_done : (front : List T) (count i : ℕ) (ts : List Token) (total : Result (List T × List Token) Refusal) → count ≤ i
        → with_front front (more separator item (count - i) ts) ≡ total → total ≡ Ok (front, ts)
    unfolding more
    is_done front count i ts total le so_far =
        let k : count - i ≡ 0 = omega arith in
        let one : with_front front (more separator item (count - i) ts) ≡ Ok (front, ts) = rw k (ap (λ (xs : List T). Ok (xs, ts)) (append-nil front)) in
        sym so_far ∙ one
