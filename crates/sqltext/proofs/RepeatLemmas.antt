-- Readers of lists with separators.
use Rattle.std.proofs.Common.{◌≡◌, ℕ, zero, suc, ◌≤◌, Bool, true, false, cond, List, [], ◌∷◌, ◌++◌, inl, inr, length, Some, None, Result, Ok, Err, refl, sym, ap, subst, ◌∙◌, append_assoc, arith}
use Rattle.std.specs.Option.{option_map_or}
use Rattle.std.proofs.lemmas.List.{length-append}
use Rattle.value.specs.declared.refusal.Refusal.{Refusal}
use Rattle.sqltext.specs.declared.token.Token.{Token}
use Rattle.sqltext.specs.declared.token.TokenKind.{TokenKind}
use Rattle.sqltext.specs.Tokens.{same_kind}
use Rattle.sqltext.specs.Reading.{◌>>=◌, syntax_error, past, expect, more as more_of, list_of}
use Rattle.sqltext.specs.Spelling.{Phrase, word, ◌then◌, ◌or◌, more, separated}
use Rattle.sqltext.proofs.PhraseLemmas.{Answer, Reader, Took, At, Reads, at_same, at_as, reads_as, bind, Bound, bound_ok, at_bind, reads_bind, into, Made, into_ok, at_into, reads_into, Any}
use Rattle.sqltext.proofs.ChoiceLemmas.{begins, choice, at_choice, choice_other, choice_word, pure, Is, reads_pure}

-- what is left doesn't begin with one of a kind
abbrev pub Without : TokenKind → List Token → Type 0
Without k rest = begins k rest ≡ false

abbrev done : {A : Type 0} → A → Result A Refusal
done x = Ok x

ok_same : {A : Type 0} (x y : A) → done x ≡ done y → x ≡ y
ok_same x y e = cc

expect_shorter : (k : TokenKind) (ts us : List Token) (t : Token) → expect k ts ≡ Ok (t, us) → ts ≡ t ∷ us
unfolding expect
expect_shorter k [] us t e = absurd (cc)
expect_shorter k (u ∷ ts) us t e = go (same_kind u.kind k) e
  where
    go : (b : Bool) → cond {A = Answer Token} b (Ok (u, ts)) (Err (syntax_error (u ∷ ts))) ≡ Ok (t, us) → u ∷ ts ≡ t ∷ us
    go true h = ap (λ (p : Token × List Token). p.0 ∷ p.1) (ok_same (u, ts) (t, us) h)
    go false h = absurd (cc)

module _ {T : Type 0} (separator : TokenKind) (item : Reader T) where
  -- the reader of what comes after the first item
  abbrev pub others : Reader (List T)
  others ts = more_of separator item (length ts) ts

  -- a separator, an item, and what another reader reads; or nothing
  abbrev pub round : Reader (List T) → Reader (List T)
  round r = choice separator (bind item (λ x. into (λ xs. x ∷ xs) r)) (pure [])

  module _ (consumes : (ts : List Token) (x : T) (rest : List Token) → item ts ≡ Ok (x, rest) → length rest ≤ length ts) where
    same_rounds : (r q : Reader (List T)) (ts : List Token) → ((rest : List Token) → suc (length rest) ≤ length ts → r rest ≡ q rest) → round r ts ≡ round q ts
    unfolding past
    same_rounds r q [] same = refl
    same_rounds r q (t ∷ us) same = go (same_kind t.kind separator) (step (item us) refl)
      where
        step : (a : Answer T) → item us ≡ a → (a >>= λ p. into (λ xs. p.0 ∷ xs) r p.1) ≡ (a >>= λ p. into (λ xs. p.0 ∷ xs) q p.1)
        step (Err e) d = refl
        step (Ok p) d =
            let le : length p.1 ≤ length us = consumes us p.0 p.1 d in
            rw (same p.1 (omega arith)) refl

        go : (b : Bool) → bind item (λ x. into (λ xs. x ∷ xs) r) us ≡ bind item (λ x. into (λ xs. x ∷ xs) q) us
            → option_map_or (bind item (λ x. into (λ xs. x ∷ xs) r)) (cond b (Some us) None) (pure [] (t ∷ us))
            ≡ option_map_or (bind item (λ x. into (λ xs. x ∷ xs) q)) (cond b (Some us) None) (pure [] (t ∷ us))
        go true e = e
        go false e = refl

    enough : (n m : ℕ) (ts : List Token) → length ts ≤ n → length ts ≤ m → more_of separator item n ts ≡ more_of separator item m ts
    unfolding more_of past
    enough zero zero ts le le' = refl
    enough zero (suc m) [] le le' = refl
    enough zero (suc m) (t ∷ ts) le le' = absurd (omega arith)
    enough (suc n) zero [] le le' = refl
    enough (suc n) zero (t ∷ ts) le le' = absurd (omega arith)
    enough (suc n) (suc m) ts le le' = same_rounds (more_of separator item n) (more_of separator item m) ts (λ rest lt. enough n m rest (omega arith) (omega arith))

    pub unroll : (ts : List Token) → others ts ≡ round others ts
    unfolding more_of past
    unroll [] = refl
    unroll (t ∷ us) = same_rounds (more_of separator item (length us)) others (t ∷ us) (λ rest lt. enough (length us) (length rest) rest (omega arith) (omega arith))

-- no tokens, or this list of items with separators before them
abbrev pub Round : {T : Type 0} → TokenKind → (T → Phrase) → List T → Phrase
Round separator S xs = (λ us. (word separator then Bound S (λ x. Made (λ ys. x ∷ ys) (more separator S)) xs) us) or Is [] xs

round_says : {T : Type 0} (separator : TokenKind) (S : T → Phrase) (xs : List T) (us : List Token) → Round separator S xs us → more separator S xs us
round_says separator S xs us (inl s) =
    let (front, rest, first, second, all) = s in
    let (x, item_then) = second in
    let (a, b, says, made, both) = item_then in
    let (ys, same, others_say) = made in
    subst (λ zs. more separator S zs us) (sym same) (front, rest, first, (a, b, says, others_say, both), all)
round_says separator S xs us (inr s) = let (same, none) = s in subst (λ zs. more separator S zs us) (sym same) none

-- what follows the list doesn't go on with it, nor with an item
module _ {T : Type 0} (F G : List Token → Type 0) (separator : TokenKind) (item : Reader T) (S : T → Phrase) (ends : (us : List Token) → G us → Without separator us)
    (follows : (xs : List T) (front rest : List Token) → more separator S xs front → G rest → F (front ++ rest)) (h : Reads F item S) where
  consumes : (ts : List Token) (x : T) (rest : List Token) → item ts ≡ Ok (x, rest) → length rest ≤ length ts
  consumes ts x rest e =
      let o : Took item S ts x rest = h.at ts (Ok (x, rest)) e in
      let whole : length ts ≡ length (o.front ++ rest) = ap length o.all in
      omega (arith, length-append o.front rest)

  at_round : (ts : List Token) → ((us : List Token) → suc (length us) ≤ length ts → At (others separator item) (more separator S) us) → At (others separator item) (more separator S) ts
  at_round ts shorter = at_same (round separator item (others separator item)) (others separator item) (more separator S) ts (unroll separator item consumes)
      (at_as (round separator item (others separator item)) (Round separator S) (more separator S) ts (round_says separator S)
      (at_choice separator (bind item (λ x. into (λ xs. x ∷ xs) (others separator item))) (pure []) (Bound S (λ x. Made (λ ys. x ∷ ys) (more separator S))) (Is []) ts
      (let (x, front, says) = h.some in (x ∷ [], front ++ [], (x, (front, [], says, ([], refl, refl), refl))))
      inner ((reads_pure Any []).at ts)))
    where
      inner : (t : Token) (us : List Token) → expect separator ts ≡ Ok (t, us)
          → At (bind item (λ x. into (λ xs. x ∷ xs) (others separator item))) (Bound S (λ x. Made (λ ys. x ∷ ys) (more separator S))) us
      inner t us e = at_bind item (λ x. into (λ xs. x ∷ xs) (others separator item)) S (λ x. Made (λ ys. x ∷ ys) (more separator S)) us
          (λ x. (x ∷ [], [], ([], refl, refl))) (h.at us)
          (λ x rest d. at_into (λ xs. x ∷ xs) (others separator item) (more separator S) rest (shorter rest (
          let le : length rest ≤ length us = consumes us x rest d in
          let all : length ts ≡ suc (length us) = ap length (expect_shorter separator ts us t e) in
          omega arith)))

  at_others : (n : ℕ) (ts : List Token) → length ts ≤ n → At (others separator item) (more separator S) ts
  at_others zero ts le = at_round ts (λ us lt. absurd (omega arith))
  at_others (suc n) ts le = at_round ts (λ us lt. at_others n us (omega arith))

  gives_others : (xs : List T) (front rest : List Token) → more separator S xs front → G rest → others separator item (front ++ rest) ≡ Ok (xs, rest)
  gives_others [] front rest s w = subst (λ (us : List Token). others separator item (us ++ rest) ≡ Ok ([], rest)) (sym s)
      (unroll separator item consumes rest ∙ choice_other separator (bind item (λ x. into (λ xs. x ∷ xs) (others separator item))) (pure []) rest (Ok ([], rest)) (ends rest w) refl)
  gives_others (x ∷ xs) front rest s w =
      let (a, b, first, second, all) = s in
      let (t, fact) = first in
      let (c, d, says, others_say, both) = second in
      let same : t ∷ (c ++ (d ++ rest)) ≡ front ++ rest =
      sym (ap (λ (us : List Token). us ++ rest) (all ∙ ap (λ (us : List Token). us ++ b) fact.1 ∙ ap (λ (us : List Token). t ∷ us) both) ∙ ap (λ (us : List Token). t ∷ us) (append_assoc c d rest)) in
      subst (λ (us : List Token). others separator item us ≡ Ok (x ∷ xs, rest)) same
      (unroll separator item consumes (t ∷ (c ++ (d ++ rest)))
      ∙ choice_word separator (bind item (λ x. into (λ xs. x ∷ xs) (others separator item))) (pure []) t (c ++ (d ++ rest)) (Ok (x ∷ xs, rest)) fact.0
      (bound_ok item (λ x. into (λ xs. x ∷ xs) (others separator item)) (c ++ (d ++ rest)) (x, d ++ rest) (Ok (x ∷ xs, rest)) (h.gives x c (d ++ rest) says (follows xs d rest others_say w))
      (into_ok (λ ys. x ∷ ys) (others separator item) (d ++ rest) (xs, rest) (gives_others xs d rest others_say w))))

  reads_others : Reads G (others separator item) (more separator S)
  reads_others = record { at = λ ts. at_others (length ts) ts (omega arith); gives = gives_others; some = ([], [], refl) }

  pub reads_items : Reads G (list_of separator item) (separated separator S)
  unfolding list_of
  reads_items = reads_as G (list_of separator item) (Bound S (λ x. Made (λ ys. x ∷ ys) (more separator S))) (separated separator S) to from
      (reads_bind F G item (λ x. into (λ xs. x ∷ xs) (others separator item)) S (λ x. Made (λ ys. x ∷ ys) (more separator S)) (λ x y front rest s w. follows s.0 front rest s.2 w) h
      (λ x. reads_into G (λ ys. x ∷ ys) (others separator item) (more separator S) reads_others))
    where
      to : (xs : List T) (us : List Token) → Bound S (λ x. Made (λ ys. x ∷ ys) (more separator S)) xs us → separated separator S xs us
      to xs us s =
          let (x, item_then) = s in
          let (a, b, says, made, both) = item_then in
          let (ys, same, others_say) = made in
          subst (λ (zs : List T). separated separator S zs us) (sym same) (a, b, says, others_say, both)

      from : (xs : List T) (us : List Token) → separated separator S xs us → Bound S (λ x. Made (λ ys. x ∷ ys) (more separator S)) xs us
      from [] us s = absurd s
      from (x ∷ xs) us s = let (a, b, says, others_say, both) = s in (x, (a, b, says, (xs, refl, others_say), both))

-- where anything may follow an item
pub reads_list : {T : Type 0} (separator : TokenKind) (item : Reader T) (S : T → Phrase) → Reads Any item S → Reads (Without separator) (list_of separator item) (separated separator S)
reads_list separator item S h = reads_items Any (Without separator) separator item S (λ us w. w) (λ xs front rest s w. tt) h
