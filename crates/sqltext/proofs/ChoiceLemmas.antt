-- Readers that choose by the next token.
use Rattle.std.proofs.Common.{◌≡◌, Bool, true, false, cond, List, [], ◌∷◌, ◌++◌, inl, inr, Option, Some, None, is_some, Ok, Err, refl, sym, ap, subst, ◌∙◌}
use Rattle.std.specs.Option.{option_map_or}
use Rattle.value.specs.declared.refusal.Refusal.{Refusal}
use Rattle.sqltext.specs.declared.token.Token.{Token}
use Rattle.sqltext.specs.declared.token.TokenKind.{TokenKind}
use Rattle.sqltext.specs.contracts.token.TokenKind.{the_type}
use denote.Enum.Bare.{same_true, true_same}
use Rattle.sqltext.specs.Tokens.{same_kind}
use Rattle.sqltext.specs.Reading.{◌>>=◌, syntax_error, past, expect}
use Rattle.sqltext.specs.Spelling.{Phrase, this, word, ◌then◌, ◌or◌}
use Rattle.sqltext.proofs.PhraseLemmas.{Answer, Reader, Kept, Stopped, Outcome, At, Reads, kept_both, at_same, at_as, reads_same, reads_as, bind, Bound, at_bind, reads_bind}

-- ---- the next token

-- the tokens begin with one of a kind
abbrev pub begins : TokenKind → List Token → Bool
begins k ts = is_some (past k ts)

pub begins_none : (k : TokenKind) → begins k [] ≡ false
unfolding past
begins_none k = refl

pub begins_head : (k : TokenKind) (t : Token) (ts : List Token) → begins k (t ∷ ts) ≡ same_kind t.kind k
unfolding past
begins_head k t ts = go (same_kind t.kind k)
  where
    go : (b : Bool) → is_some (cond b (Some ts) None) ≡ b
    go true = refl
    go false = refl

pub is_kind : (j k : TokenKind) → j ≡ k → same_kind j k ≡ true
unfolding same_kind
is_kind j k e = true_same the_type j k e

pub kind_is : (j k : TokenKind) → same_kind j k ≡ true → j ≡ k
unfolding same_kind
kind_is j k e = same_true the_type tt j k e

pub past_word : (k : TokenKind) (t : Token) (ts : List Token) → t.kind ≡ k → past k (t ∷ ts) ≡ Some ts
unfolding past
past_word k t ts d = rw (is_kind t.kind k d) refl

begins_kept : (k : TokenKind) (front rest : List Token) → Kept rest (λ more. begins k (front ++ more) ≡ begins k (front ++ rest))
begins_kept k [] [] = tt
begins_kept k [] (t ∷ ts) = λ after. begins_head k t after ∙ sym (begins_head k t ts)
begins_kept k (u ∷ us) [] = tt
begins_kept k (u ∷ us) (t ∷ ts) = λ after. begins_head k u (us ++ t ∷ after) ∙ sym (begins_head k u (us ++ t ∷ ts))

pub always : (P : List Token → Type 0) (rest : List Token) → ((more : List Token) → P more) → Kept rest P
always P [] h = tt
always P (t ∷ ts) h = λ after. h (t ∷ after)

-- ---- phrases that begin otherwise

-- a phrase has tokens, and the first isn't of a kind
abbrev pub Avoids : TokenKind → Phrase → Type 0
Avoids k p = (us : List Token) → p us → (t : Token) × (more : List Token) × (us ≡ t ∷ more) × (same_kind t.kind k ≡ false)

pub avoided : (k : TokenKind) (p : Phrase) → Avoids k p → (us rest : List Token) → p us → begins k (us ++ rest) ≡ false
avoided k p h us rest s =
    let (t, more, all, other) = h us s in
    subst (λ (vs : List Token). begins k (vs ++ rest) ≡ false) (sym all) (begins_head k t (more ++ rest) ∙ other)

pub this_avoids : (k j : TokenKind) (t : Token) → same_kind j k ≡ false → Avoids k (this j t)
this_avoids k j t h us s = (t, [], s.1, ap (λ (i : TokenKind). same_kind i k) s.0 ∙ h)

pub word_avoids : (k j : TokenKind) → same_kind j k ≡ false → Avoids k (word j)
word_avoids k j h us s = this_avoids k j s.0 h us s.1

pub then_avoids : (k : TokenKind) (p q : Phrase) → Avoids k p → Avoids k (p then q)
then_avoids k p q h us s =
    let (front, rest, first, second, all) = s in
    let (t, more, begun, other) = h front first in
    (t, more ++ rest, all ∙ ap (λ (vs : List Token). vs ++ rest) begun, other)

pub or_avoids : (k : TokenKind) (p q : Phrase) → Avoids k p → Avoids k q → Avoids k (p or q)
or_avoids k p q h g us (inl s) = h us s
or_avoids k p q h g us (inr s) = g us s

pub word_begins : (k : TokenKind) (p : Phrase) (us rest : List Token) → (word k then p) us → begins k (us ++ rest) ≡ true
word_begins k p us rest s =
    let (front, more, first, second, all) = s in
    let (t, fact) = first in
    subst (λ (vs : List Token). begins k (vs ++ rest) ≡ true) (sym (all ∙ ap (λ (vs : List Token). vs ++ more) fact.1)) (begins_head k t (more ++ rest) ∙ is_kind t.kind k fact.0)

pub this_begins : (k : TokenKind) (t : Token) (us rest : List Token) → this k t us → begins k (us ++ rest) ≡ true
this_begins k t us rest s = subst (λ (vs : List Token). begins k (vs ++ rest) ≡ true) (sym s.1) (begins_head k t rest ∙ is_kind t.kind k s.0)

-- ---- one token

module _ {X : Type 0} where
  -- reads a token of which something is made
  abbrev pub one : (Token → Option X) → Reader X
  one g [] = Err (syntax_error [])
  one g (t ∷ ts) = option_map_or (λ x. Ok (x, ts)) (g t) (Err (syntax_error (t ∷ ts)))

  pub reads_one : (F : List Token → Type 0) (g : Token → Option X) (S : X → Phrase) → ((t : Token) (x : X) → g t ≡ Some x → S x (t ∷ []))
      → ((x : X) (us : List Token) → S x us → (t : Token) × (us ≡ t ∷ []) × (g t ≡ Some x)) → ((x : X) × (front : List Token) × S x front) → Reads F (one g) S
  reads_one F g S to from some = record {
    at = at;
    gives = λ x front rest s f. let (t, all, made) = from x front s in subst (λ (us : List Token). one g (us ++ rest) ≡ Ok (x, rest)) (sym all) (rw made refl);
    some = some;
  }
    where
      read : (t : Token) (ts : List Token) (x : X) → g t ≡ Some x → one g (t ∷ ts) ≡ Ok (x, ts)
      read t ts x d = rw d refl

      refused : (t : Token) (ts : List Token) → g t ≡ None → one g (t ∷ ts) ≡ Err (syntax_error (t ∷ ts))
      refused t ts d = rw d refl

      stopped : (ts : List Token) (e : Refusal) → e ≡ syntax_error ts → Kept ts (λ more. one g more ≡ Err e) → Stopped (one g) S ts e
      stopped ts e place again = record { before = []; rest = ts; all = refl; place = place; begun = some; again = again }

      at : (ts : List Token) → At (one g) S ts
      at [] answer e = subst (Outcome (one g) S []) e (stopped [] (syntax_error []) refl tt)
      at (t ∷ ts) answer e = go (g t) refl
        where
          go : (o : Option X) → g t ≡ o → Outcome (one g) S (t ∷ ts) answer
          go (Some x) d = subst (Outcome (one g) S (t ∷ ts)) (sym (read t ts x d) ∙ e) (record {
            front = t ∷ [];
            all = refl;
            says = to t x d;
            again = always (λ more. one g (t ∷ more) ≡ Ok (x, more)) ts (λ more. read t more x d);
          })
          go None d = subst (Outcome (one g) S (t ∷ ts)) (sym (refused t ts d) ∙ e) (stopped (t ∷ ts) (syntax_error (t ∷ ts)) refl (λ after. refused t after d))

-- a token of a kind
abbrev pub of_kind : TokenKind → Token → Option Token
of_kind k t = cond (same_kind t.kind k) (Some t) None

expect_one : (k : TokenKind) (ts : List Token) → expect k ts ≡ one (of_kind k) ts
unfolding expect
expect_one k [] = refl
expect_one k (t ∷ ts) = go (same_kind t.kind k)
  where
    go : (b : Bool) → cond {A = Answer Token} b (Ok (t, ts)) (Err (syntax_error (t ∷ ts))) ≡ option_map_or (λ x. Ok (x, ts)) (cond b (Some t) None) (Err (syntax_error (t ∷ ts)))
    go true = refl
    go false = refl

pub reads_expect : (F : List Token → Type 0) (k : TokenKind) → Reads F (expect k) (this k)
reads_expect F k = reads_same F (one (of_kind k)) (expect k) (this k) (expect_one k) (reads_one F (of_kind k) (this k) to from (let t : Token = record { kind = k; start = 0; end = 0 } in (t, t ∷ [], (refl, refl))))
  where
    to : (t x : Token) → of_kind k t ≡ Some x → this k x (t ∷ [])
    to t x e = go (same_kind t.kind k) refl e
      where
        go : (b : Bool) → same_kind t.kind k ≡ b → cond b (Some t) None ≡ Some x → this k x (t ∷ [])
        go true d s = let same : t ≡ x = cc in (ap (λ (u : Token). u.kind) (sym same) ∙ kind_is t.kind k d, ap (λ (u : Token). u ∷ []) same)
        go false d s = absurd (cc)

    from : (x : Token) (us : List Token) → this k x us → (t : Token) × (us ≡ t ∷ []) × (of_kind k t ≡ Some x)
    from x us s = (x, s.1, rw (is_kind x.kind k s.0) refl)

-- ---- a word, and what is read after it

module _ {X : Type 0} where
  abbrev pub after : TokenKind → Reader X → Reader X
  after k r = bind (expect k) (λ w. r)

  pub at_after : (k : TokenKind) (r : Reader X) (S : X → Phrase) (ts : List Token) → ((x : X) × (front : List Token) × S x front)
      → ((t : Token) (us : List Token) → expect k ts ≡ Ok (t, us) → At r S us) → At (after k r) (λ x. word k then S x) ts
  at_after k r S ts some h = at_as (after k r) (Bound (this k) (λ w. S)) (λ x. word k then S x) ts
      (λ x us s. let (front, rest, first, second, all) = s.1 in (front, rest, (s.0, first), second, all))
      (at_bind (expect k) (λ w. r) (this k) (λ w. S) ts (λ w. some) ((reads_expect (λ us. Unit {0}) k).at ts) h)

  pub reads_after : (F : List Token → Type 0) (k : TokenKind) (r : Reader X) (S : X → Phrase) → Reads F r S → Reads F (after k r) (λ x. word k then S x)
  reads_after F k r S h = reads_as F (after k r) (Bound (this k) (λ w. S)) (λ x. word k then S x)
      (λ x us s. let (front, rest, first, second, all) = s.1 in (front, rest, (s.0, first), second, all))
      (λ x us s. let (front, rest, first, second, all) = s in (first.0, (front, rest, first.1, second, all)))
      (reads_bind (λ us. Unit {0}) F (expect k) (λ w. r) (this k) (λ w. S) (λ w x front rest s f. tt) (reads_expect (λ us. Unit {0}) k) (λ w. h))

-- ---- one of two

module _ {X : Type 0} where
  abbrev pub ahead : TokenKind → Reader X → Reader X → Reader X
  ahead k f g = λ ts. cond (begins k ts) (f ts) (g ts)

  chose : (k : TokenKind) (f g : Reader X) (ts : List Token) (answer : Answer X) → begins k ts ≡ true → f ts ≡ answer → ahead k f g ts ≡ answer
  chose k f g ts answer d e = rw d e

  chose_other : (k : TokenKind) (f g : Reader X) (ts : List Token) (answer : Answer X) → begins k ts ≡ false → g ts ≡ answer → ahead k f g ts ≡ answer
  chose_other k f g ts answer d e = rw d e

  pub at_ahead : (k : TokenKind) (f g : Reader X) (S T : X → Phrase) (ts : List Token) → (begins k ts ≡ true → At f S ts) → (begins k ts ≡ false → At g T ts)
      → At (ahead k f g) (λ x. S x or T x) ts
  at_ahead k f g S T ts hf hg answer e = go (begins k ts) refl
    where
      kept : (b : Bool) → begins k ts ≡ b → (front rest : List Token) → ts ≡ front ++ rest → Kept rest (λ more. begins k (front ++ more) ≡ b)
      kept b d front rest all = subst (λ (c : Bool). Kept rest (λ more. begins k (front ++ more) ≡ c)) (ap (begins k) (sym all) ∙ d) (begins_kept k front rest)

      left : begins k ts ≡ true → (answer : Answer X) → Outcome f S ts answer → Outcome (ahead k f g) (λ x. S x or T x) ts answer
      left d (Ok p) o = record {
        front = o.front;
        all = o.all;
        says = inl o.says;
        again = kept_both p.1 (kept true d o.front p.1 o.all) o.again (λ more a b. chose k f g (o.front ++ more) (Ok (p.0, more)) a b);
      }
      left d (Err z) o = record {
        before = o.before;
        rest = o.rest;
        all = o.all;
        place = o.place;
        begun = (o.begun.0, o.begun.1, inl o.begun.2);
        again = kept_both o.rest (kept true d o.before o.rest o.all) o.again (λ more a b. chose k f g (o.before ++ more) (Err z) a b);
      }

      right : begins k ts ≡ false → (answer : Answer X) → Outcome g T ts answer → Outcome (ahead k f g) (λ x. S x or T x) ts answer
      right d (Ok p) o = record {
        front = o.front;
        all = o.all;
        says = inr o.says;
        again = kept_both p.1 (kept false d o.front p.1 o.all) o.again (λ more a b. chose_other k f g (o.front ++ more) (Ok (p.0, more)) a b);
      }
      right d (Err z) o = record {
        before = o.before;
        rest = o.rest;
        all = o.all;
        place = o.place;
        begun = (o.begun.0, o.begun.1, inr o.begun.2);
        again = kept_both o.rest (kept false d o.before o.rest o.all) o.again (λ more a b. chose_other k f g (o.before ++ more) (Err z) a b);
      }

      go : (b : Bool) → begins k ts ≡ b → Outcome (ahead k f g) (λ x. S x or T x) ts answer
      go true d = left d answer (hf d answer (sym (chose k f g ts (f ts) d refl) ∙ e))
      go false d = right d answer (hg d answer (sym (chose_other k f g ts (g ts) d refl) ∙ e))

  pub reads_ahead : (F : List Token → Type 0) (k : TokenKind) (f g : Reader X) (S T : X → Phrase)
      → ((x : X) (front rest : List Token) → S x front → F rest → begins k (front ++ rest) ≡ true)
      → ((x : X) (front rest : List Token) → T x front → F rest → begins k (front ++ rest) ≡ false)
      → Reads F f S → Reads F g T → Reads F (ahead k f g) (λ x. S x or T x)
  reads_ahead F k f g S T one other hf hg = record {
    at = λ ts. at_ahead k f g S T ts (λ d. hf.at ts) (λ d. hg.at ts);
    gives = gives;
    some = (hf.some.0, hf.some.1, inl hf.some.2);
  }
    where
      gives : (x : X) (front rest : List Token) → (S x or T x) front → F rest → ahead k f g (front ++ rest) ≡ Ok (x, rest)
      gives x front rest (inl s) r = chose k f g (front ++ rest) (Ok (x, rest)) (one x front rest s r) (hf.gives x front rest s r)
      gives x front rest (inr s) r = chose_other k f g (front ++ rest) (Ok (x, rest)) (other x front rest s r) (hg.gives x front rest s r)

  abbrev pub choice : TokenKind → Reader X → Reader X → Reader X
  choice k f g = λ ts. option_map_or f (past k ts) (g ts)

  choice_ahead : (k : TokenKind) (f g : Reader X) (ts : List Token) → choice k f g ts ≡ ahead k (after k f) g ts
  unfolding past expect
  choice_ahead k f g [] = refl
  choice_ahead k f g (t ∷ ts) = go (same_kind t.kind k)
    where
      go : (b : Bool) → option_map_or f (cond b (Some ts) None) (g (t ∷ ts))
          ≡ cond (is_some (cond b (Some ts) None)) (cond {A = Answer Token} b (Ok (t, ts)) (Err (syntax_error (t ∷ ts))) >>= λ w. f w.1) (g (t ∷ ts))
      go true = refl
      go false = refl

  pub choice_other : (k : TokenKind) (f g : Reader X) (ts : List Token) (answer : Answer X) → begins k ts ≡ false → g ts ≡ answer → choice k f g ts ≡ answer
  choice_other k f g ts answer d e = choice_ahead k f g ts ∙ chose_other k (after k f) g ts answer d e

  pub choice_word : (k : TokenKind) (f g : Reader X) (t : Token) (ts : List Token) (answer : Answer X) → t.kind ≡ k → f ts ≡ answer → choice k f g (t ∷ ts) ≡ answer
  choice_word k f g t ts answer d e = rw (past_word k t ts d) e

  pub at_choice : (k : TokenKind) (f g : Reader X) (S T : X → Phrase) (ts : List Token) → ((x : X) × (front : List Token) × S x front)
      → ((t : Token) (us : List Token) → expect k ts ≡ Ok (t, us) → At f S us) → At g T ts → At (choice k f g) (λ x. (word k then S x) or T x) ts
  at_choice k f g S T ts some hf hg =
      at_same (ahead k (after k f) g) (choice k f g) (λ x. (word k then S x) or T x) ts (choice_ahead k f g)
      (at_ahead k (after k f) g (λ x. word k then S x) T ts (λ d. at_after k f S ts some hf) (λ d. hg))

  pub reads_choice : (F : List Token → Type 0) (k : TokenKind) (f g : Reader X) (S T : X → Phrase)
      → ((x : X) (front rest : List Token) → T x front → F rest → begins k (front ++ rest) ≡ false)
      → Reads F f S → Reads F g T → Reads F (choice k f g) (λ x. (word k then S x) or T x)
  reads_choice F k f g S T other hf hg =
      reads_same F (ahead k (after k f) g) (choice k f g) (λ x. (word k then S x) or T x) (choice_ahead k f g)
      (reads_ahead F k (after k f) g (λ x. word k then S x) T (λ x front rest s r. word_begins k (S x) front rest s) other (reads_after F k f S hf) hg)

  -- reads nothing
  abbrev pub pure : X → Reader X
  pure x = λ ts. Ok (x, ts)

  abbrev pub Is : X → X → Phrase
  Is x y ts = (y ≡ x) × (ts ≡ [])

  pub reads_pure : (F : List Token → Type 0) (x : X) → Reads F (pure x) (Is x)
  reads_pure F x = record {
    at = λ ts answer e. subst (Outcome (pure x) (Is x) ts) e (record { front = []; all = refl; says = (refl, refl); again = always (λ more. pure x more ≡ Ok (x, more)) ts (λ more. refl) });
    gives = λ y front rest s r. let (same, none) = s in subst (λ (us : List Token). pure x (us ++ rest) ≡ Ok (y, rest)) (sym none) (ap (λ (z : X). Ok (z, rest)) (sym same));
    some = (x, [], (refl, refl));
  }
