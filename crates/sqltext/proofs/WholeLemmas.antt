-- Where all of the tokens must be read: what is spelled is read, and a refusal is at the first fault.
use Rattle.std.proofs.Common.{◌≡◌, List, [], ◌∷◌, ◌++◌, Result, Ok, Err, refl, sym, ap, subst, ◌∙◌, append_assoc}
use Rattle.std.proofs.lemmas.List.{append-nil}
use Rattle.value.specs.declared.refusal.Refusal.{Refusal}
use Rattle.sqltext.specs.declared.token.Token.{Token}
use Rattle.sqltext.specs.Reading.{◌>>=◌, syntax_error, nothing_left}
use Rattle.sqltext.specs.Spelling.{Phrase}
use Rattle.sqltext.proofs.PhraseLemmas.{Answer, Reader, Kept, Took, Stopped, Reads, Any}

module _ {X : Type 0} where
  -- what was read, where nothing is left
  abbrev pub finish : X × List Token → Result X Refusal
  finish p = nothing_left p.1 >>= λ left. Ok p.0

  abbrev pub all_of : Reader X → List Token → Result X Refusal
  all_of r ts = r ts >>= finish

  -- other tokens complete these to a phrase
  abbrev pub Begin : (X → Phrase) → List Token → Type 0
  Begin S ts = (x : X) × (after : List Token) × S x (ts ++ after)

  -- with the next token none goes on
  abbrev pub NoneOn : (X → Phrase) → List Token → List Token → Type 0
  NoneOn S before [] = (x : X) → S x before → ⊥
  NoneOn S before (t ∷ ts) = Begin S (before ++ t ∷ []) → ⊥

  pub record FirstFault (S : X → Phrase) (ts : List Token) (e : Refusal) : Type 0 where
    pub before : List Token
    pub rest : List Token
    pub all : ts ≡ before ++ rest
    pub place : e ≡ syntax_error rest
    pub begun : Begin S before
    pub ends : NoneOn S before rest

  left_over : (x : X) (t : Token) (ts : List Token) → finish (x, t ∷ ts) ≡ Err (syntax_error (t ∷ ts))
  unfolding nothing_left
  left_over x t ts = refl

  none_left : (x : X) → finish (x, []) ≡ Ok x
  unfolding nothing_left
  none_left x = refl

  abbrev answered : X → Result X Refusal
  answered x = Ok x

  abbrev refused : Refusal → Result X Refusal
  refused e = Err e

  pub ok_same : (x y : X) → answered x ≡ answered y → x ≡ y
  ok_same x y e = cc

  never : (x : X) (e : Refusal) → answered x ≡ refused e → ⊥
  never x e h = cc

  module _ (r : Reader X) (S : X → Phrase) (reads : Reads Any r S) where
    by : (ts : List Token) (answer : Answer X) → r ts ≡ answer → all_of r ts ≡ (answer >>= finish)
    by ts answer d = ap (λ (a : Answer X). a >>= finish) d

    pub read_spelled : (ts : List Token) (x : X) → all_of r ts ≡ Ok x → S x ts
    read_spelled ts x h = go (r ts) refl
      where
        go : (answer : Answer X) → r ts ≡ answer → S x ts
        go (Err z) d = absurd (never x z (sym h ∙ by ts (Err z) d))
        go (Ok p) d = left p.0 p.1 d (reads.at ts (Ok p) d)
          where
            left : (y : X) (rest : List Token) → r ts ≡ Ok (y, rest) → Took r S ts y rest → S x ts
            left y [] k o = subst (λ us. S x us) (sym (o.all ∙ append-nil o.front)) (subst (λ z. S z o.front) (ok_same y x (sym (none_left y) ∙ sym (by ts (Ok (y, [])) k) ∙ h)) o.says)
            left y (t ∷ us) k o = absurd (never x (syntax_error (t ∷ us)) (sym h ∙ by ts (Ok (y, t ∷ us)) k ∙ left_over y t us))

    pub spelled_read : (ts : List Token) (x : X) → S x ts → all_of r ts ≡ Ok x
    spelled_read ts x s = subst (λ us. all_of r us ≡ Ok x) (append-nil ts) (by (ts ++ []) (Ok (x, [])) (reads.gives x ts [] s tt) ∙ none_left x)

    -- what is refused begins no phrase
    refused_ends : (before : List Token) (t : Token) (e : List Token → Refusal) → ((after : List Token) → all_of r (before ++ t ∷ after) ≡ Err (e after)) → Begin S (before ++ t ∷ []) → ⊥
    refused_ends before t e refuses s =
        let (x, after, says) = s in
        never x (e after) (sym (spelled_read (before ++ t ∷ after) x (subst (λ us. S x us) (append_assoc before (t ∷ []) after) says)) ∙ refuses after)

    pub first_fault : (ts : List Token) (e : Refusal) → all_of r ts ≡ Err e → FirstFault S ts e
    first_fault ts e h = go (r ts) refl
      where
        same : (z : Refusal) → refused z ≡ refused e → e ≡ z
        same z k = cc

        stopped : (z : Refusal) → e ≡ z → (o : Stopped r S ts z) (rest : List Token) → o.rest ≡ rest → FirstFault S ts e
        stopped z k o [] d = record {
          before = o.before;
          rest = [];
          all = o.all ∙ ap (λ (us : List Token). o.before ++ us) d;
          place = k ∙ o.place ∙ ap syntax_error d;
          begun = o.begun;
          ends = λ x says. never x e (sym (spelled_read o.before x says) ∙ ap (all_of r) (sym (o.all ∙ ap (λ (us : List Token). o.before ++ us) d ∙ append-nil o.before)) ∙ h);
        }
        stopped z k o (t ∷ us) d = record {
          before = o.before;
          rest = t ∷ us;
          all = o.all ∙ ap (λ (vs : List Token). o.before ++ vs) d;
          place = k ∙ o.place ∙ ap syntax_error d;
          begun = o.begun;
          ends = refused_ends o.before t (λ after. z) (λ after. by (o.before ++ t ∷ after) (Err z) ((subst (λ vs. Kept vs (λ more. r (o.before ++ more) ≡ Err z)) d o.again) after));
        }

        left : (x : X) (rest : List Token) → r ts ≡ Ok (x, rest) → Took r S ts x rest → FirstFault S ts e
        left x [] k o = absurd (never x e (sym (none_left x) ∙ sym (by ts (Ok (x, [])) k) ∙ h))
        left x (t ∷ us) k o = record {
          before = o.front;
          rest = t ∷ us;
          all = o.all;
          place = same (syntax_error (t ∷ us)) (sym (left_over x t us) ∙ sym (by ts (Ok (x, t ∷ us)) k) ∙ h);
          begun = (x, [], subst (λ vs. S x vs) (sym (append-nil o.front)) o.says);
          ends = refused_ends o.front t (λ after. syntax_error (t ∷ after)) (λ after. by (o.front ++ t ∷ after) (Ok (x, t ∷ after)) (o.again after) ∙ left_over x t after);
        }

        go : (answer : Answer X) → r ts ≡ answer → FirstFault S ts e
        go (Err z) d = stopped z (same z (sym (by ts (Err z) d) ∙ h)) (reads.at ts (Err z) d) ((reads.at ts (Err z) d).rest) refl
        go (Ok p) d = left p.0 p.1 d (reads.at ts (Ok p) d)
