-- Readers of phrases: what they read, where they stop, and that they look no further.
use Rattle.std.proofs.Common.{◌≡◌, List, [], ◌∷◌, ◌++◌, Result, Ok, Err, refl, sym, ap, subst, ◌∙◌, append_assoc}
use Rattle.value.specs.declared.refusal.Refusal.{Refusal}
use Rattle.sqltext.specs.declared.token.Token.{Token}
use Rattle.sqltext.specs.Reading.{◌>>=◌, syntax_error}
use Rattle.sqltext.specs.Spelling.{Phrase, ◌then◌}

abbrev pub Answer : Type 0 → Type 0
Answer X = Result (X × List Token) Refusal

abbrev pub Reader : Type 0 → Type 0
Reader X = List Token → Answer X

-- what is left doesn't matter past its first token; at the end of the tokens nothing is said
abbrev pub Kept : List Token → (List Token → Type 0) → Type 0
Kept [] P = Unit {0}
Kept (t ∷ ts) P = (after : List Token) → P (t ∷ after)

module _ {X : Type 0} where
  -- a phrase was read, and what comes after the next token makes no difference
  pub record Took (r : Reader X) (S : X → Phrase) (ts : List Token) (x : X) (rest : List Token) : Type 0 where
    pub front : List Token
    pub all : ts ≡ front ++ rest
    pub says : S x front
    pub again : Kept rest (λ more. r (front ++ more) ≡ Ok (x, more))

  -- a phrase had begun, and with the next token none goes on
  pub record Stopped (r : Reader X) (S : X → Phrase) (ts : List Token) (e : Refusal) : Type 0 where
    pub before : List Token
    pub rest : List Token
    pub all : ts ≡ before ++ rest
    pub place : e ≡ syntax_error rest
    pub begun : (x : X) × (after : List Token) × S x (before ++ after)
    pub again : Kept rest (λ more. r (before ++ more) ≡ Err e)

  abbrev pub Outcome : Reader X → (X → Phrase) → List Token → Answer X → Type 0
  Outcome r S ts (Ok p) = Took r S ts p.0 p.1
  Outcome r S ts (Err e) = Stopped r S ts e

  -- at these tokens a reader takes a phrase or stops
  abbrev pub At : Reader X → (X → Phrase) → List Token → Type 0
  At r S ts = (answer : Answer X) → r ts ≡ answer → Outcome r S ts answer

  -- a reader reads a phrase where it may end
  pub record Reads (F : List Token → Type 0) (r : Reader X) (S : X → Phrase) : Type 0 where
    pub at : (ts : List Token) → At r S ts
    pub gives : (x : X) (front rest : List Token) → S x front → F rest → r (front ++ rest) ≡ Ok (x, rest)
    pub some : (x : X) × (front : List Token) × S x front

-- a phrase that may be followed by anything
abbrev pub Any : List Token → Type 0
Any rest = Unit {0}

-- ---- what is left

pub kept_map : {P Q : List Token → Type 0} (rest : List Token) → Kept rest P → ((more : List Token) → P more → Q more) → Kept rest Q
kept_map [] k f = tt
kept_map (t ∷ ts) k f = λ after. f (t ∷ after) (k after)

pub kept_both : {P Q R : List Token → Type 0} (rest : List Token) → Kept rest P → Kept rest Q → ((more : List Token) → P more → Q more → R more) → Kept rest R
kept_both [] k l f = tt
kept_both (t ∷ ts) k l f = λ after. f (t ∷ after) (k after) (l after)

pub kept_under : (P : List Token → Type 0) (front rest : List Token) → Kept (front ++ rest) P → Kept rest (λ more. P (front ++ more))
kept_under P [] rest k = k
kept_under P (t ∷ ts) [] k = tt
kept_under P (t ∷ ts) (u ∷ us) k = λ after. k (ts ++ u ∷ after)

-- ---- one reader by another

module _ {X : Type 0} where
  pub at_same : (r q : Reader X) (S : X → Phrase) (ts : List Token) → ((us : List Token) → q us ≡ r us) → At r S ts → At q S ts
  at_same r q S ts same h answer e = go answer (h answer (sym (same ts) ∙ e))
    where
      go : (answer : Answer X) → Outcome r S ts answer → Outcome q S ts answer
      go (Ok p) o = record { front = o.front; all = o.all; says = o.says; again = kept_map p.1 o.again (λ more k. same (o.front ++ more) ∙ k) }
      go (Err f) o = record { before = o.before; rest = o.rest; all = o.all; place = o.place; begun = o.begun; again = kept_map o.rest o.again (λ more k. same (o.before ++ more) ∙ k) }

  -- the same phrases in other words
  pub at_as : (r : Reader X) (S S' : X → Phrase) (ts : List Token) → ((x : X) (us : List Token) → S x us → S' x us) → At r S ts → At r S' ts
  at_as r S S' ts to h answer e = go answer (h answer e)
    where
      go : (answer : Answer X) → Outcome r S ts answer → Outcome r S' ts answer
      go (Ok p) o = record { front = o.front; all = o.all; says = to p.0 o.front o.says; again = o.again }
      go (Err f) o = record { before = o.before; rest = o.rest; all = o.all; place = o.place; begun = (o.begun.0, o.begun.1, to o.begun.0 (o.before ++ o.begun.1) o.begun.2); again = o.again }

  pub reads_same : (F : List Token → Type 0) (r q : Reader X) (S : X → Phrase) → ((us : List Token) → q us ≡ r us) → Reads F r S → Reads F q S
  reads_same F r q S same h = record {
    at = λ ts. at_same r q S ts same (h.at ts);
    gives = λ x front rest s f. same (front ++ rest) ∙ h.gives x front rest s f;
    some = h.some;
  }

  pub reads_as : (F : List Token → Type 0) (r : Reader X) (S S' : X → Phrase) → ((x : X) (us : List Token) → S x us → S' x us) → ((x : X) (us : List Token) → S' x us → S x us)
      → Reads F r S → Reads F r S'
  reads_as F r S S' to from h = record {
    at = λ ts. at_as r S S' ts to (h.at ts);
    gives = λ x front rest s f. h.gives x front rest (from x front s) f;
    some = (h.some.0, h.some.1, to h.some.0 h.some.1 h.some.2);
  }

  pub reads_where : (F G : List Token → Type 0) (r : Reader X) (S : X → Phrase) → ((us : List Token) → G us → F us) → Reads F r S → Reads G r S
  reads_where F G r S w h = record { at = h.at; gives = λ x front rest s g. h.gives x front rest s (w rest g); some = h.some }

-- ---- one after the other

module _ {X Y : Type 0} where
  abbrev pub bind : Reader X → (X → Reader Y) → Reader Y
  bind r f = λ ts. r ts >>= λ p. f p.0 p.1

  abbrev pub Bound : (X → Phrase) → (X → Y → Phrase) → Y → Phrase
  Bound S T y ts = (x : X) × (S x then T x y) ts

  pub bound_ok : (r : Reader X) (f : X → Reader Y) (ts : List Token) (p : X × List Token) (answer : Answer Y) → r ts ≡ Ok p → f p.0 p.1 ≡ answer → bind r f ts ≡ answer
  bound_ok r f ts p answer d e = rw d e

  bound_err : (r : Reader X) (f : X → Reader Y) (ts : List Token) (e : Refusal) → r ts ≡ Err e → bind r f ts ≡ Err e
  bound_err r f ts e d = rw d refl

  pub at_bind : (r : Reader X) (f : X → Reader Y) (S : X → Phrase) (T : X → Y → Phrase) (ts : List Token)
      → ((x : X) → (y : Y) × (front : List Token) × T x y front)
      → At r S ts → ((x : X) (rest : List Token) → r ts ≡ Ok (x, rest) → At (f x) (T x) rest) → At (bind r f) (Bound S T) ts
  at_bind r f S T ts some h g answer e = go (r ts) refl
    where
      second : (p : X × List Token) → r ts ≡ Ok p → (o : Took r S ts p.0 p.1) → (answer : Answer Y) → f p.0 p.1 ≡ answer → Outcome (f p.0) (T p.0) p.1 answer → Outcome (bind r f) (Bound S T) ts answer
      second p d o (Ok q) k n = record {
        front = o.front ++ n.front;
        all = o.all ∙ ap (λ (us : List Token). o.front ++ us) n.all ∙ sym (append_assoc o.front n.front q.1);
        says = (p.0, (o.front, n.front, o.says, n.says, refl));
        again = kept_both q.1 (kept_under (λ more. r (o.front ++ more) ≡ Ok (p.0, more)) n.front q.1 (subst (λ (us : List Token). Kept us (λ more. r (o.front ++ more) ≡ Ok (p.0, more))) n.all o.again)) n.again
            (λ more a b. rw append_assoc (bound_ok r f (o.front ++ (n.front ++ more)) (p.0, n.front ++ more) (Ok (q.0, more)) a b));
      }
      second p d o (Err z) k n = record {
        before = o.front ++ n.before;
        rest = n.rest;
        all = o.all ∙ ap (λ (us : List Token). o.front ++ us) n.all ∙ sym (append_assoc o.front n.before n.rest);
        place = n.place;
        begun = (n.begun.0, n.begun.1, (p.0, (o.front, n.before ++ n.begun.1, o.says, n.begun.2, append_assoc o.front n.before n.begun.1)));
        again = kept_both n.rest (kept_under (λ more. r (o.front ++ more) ≡ Ok (p.0, more)) n.before n.rest (subst (λ (us : List Token). Kept us (λ more. r (o.front ++ more) ≡ Ok (p.0, more))) n.all o.again)) n.again
            (λ more a b. rw append_assoc (bound_ok r f (o.front ++ (n.before ++ more)) (p.0, n.before ++ more) (Err z) a b));
      }

      first : (z : Refusal) → r ts ≡ Err z → Stopped r S ts z → Stopped (bind r f) (Bound S T) ts z
      first z d o =
          let n = some o.begun.0 in
          record {
            before = o.before;
            rest = o.rest;
            all = o.all;
            place = o.place;
            begun = (n.0, o.begun.1 ++ n.1, (o.begun.0, (o.before ++ o.begun.1, n.1, o.begun.2, n.2, sym (append_assoc o.before o.begun.1 n.1))));
            again = kept_map o.rest o.again (λ more a. bound_err r f (o.before ++ more) z a);
          }

      go : (middle : Answer X) → r ts ≡ middle → Outcome (bind r f) (Bound S T) ts answer
      go (Ok p) d = second p d (h (Ok p) d) answer (sym (bound_ok r f ts p (f p.0 p.1) d refl) ∙ e) (g p.0 p.1 d answer (sym (bound_ok r f ts p (f p.0 p.1) d refl) ∙ e))
      go (Err z) d = subst (Outcome (bind r f) (Bound S T) ts) (sym (bound_err r f ts z d) ∙ e) (first z d (h (Err z) d))

  pub reads_bind : (F G : List Token → Type 0) (r : Reader X) (f : X → Reader Y) (S : X → Phrase) (T : X → Y → Phrase)
      → ((x : X) (y : Y) (front rest : List Token) → T x y front → G rest → F (front ++ rest))
      → Reads F r S → ((x : X) → Reads G (f x) (T x)) → Reads G (bind r f) (Bound S T)
  reads_bind F G r f S T follows h g = record {
    at = λ ts. at_bind r f S T ts (λ x. (g x).some) (h.at ts) (λ x rest d. (g x).at rest);
    gives = λ y front rest s k.
        let (a, b, says, then_says, all) = s.1 in
        subst (λ (us : List Token). bind r f (us ++ rest) ≡ Ok (y, rest)) (sym all) (
        rw append_assoc (bound_ok r f (a ++ (b ++ rest)) (s.0, b ++ rest) (Ok (y, rest)) (h.gives s.0 a (b ++ rest) says (follows s.0 y b rest then_says k)) ((g s.0).gives y b rest then_says k)));
    some = let x = h.some in let y = (g x.0).some in (y.0, x.1 ++ y.1, (x.0, (x.1, y.1, x.2, y.2, refl)));
  }

  -- what is read, made into another thing
  abbrev pub into : (X → Y) → Reader X → Reader Y
  into make r = λ ts. r ts >>= λ p. Ok (make p.0, p.1)

  abbrev pub Made : (X → Y) → (X → Phrase) → Y → Phrase
  Made make S y ts = (x : X) × (y ≡ make x) × S x ts

  pub into_ok : (make : X → Y) (r : Reader X) (ts : List Token) (p : X × List Token) → r ts ≡ Ok p → into make r ts ≡ Ok (make p.0, p.1)
  into_ok make r ts p d = rw d refl

  into_err : (make : X → Y) (r : Reader X) (ts : List Token) (e : Refusal) → r ts ≡ Err e → into make r ts ≡ Err e
  into_err make r ts e d = rw d refl

  pub at_into : (make : X → Y) (r : Reader X) (S : X → Phrase) (ts : List Token) → At r S ts → At (into make r) (Made make S) ts
  at_into make r S ts h answer e = go (r ts) refl
    where
      go : (middle : Answer X) → r ts ≡ middle → Outcome (into make r) (Made make S) ts answer
      go (Ok p) d =
          let o = h (Ok p) d in
          subst (Outcome (into make r) (Made make S) ts) (sym (into_ok make r ts p d) ∙ e) (record {
            front = o.front;
            all = o.all;
            says = (p.0, refl, o.says);
            again = kept_map p.1 o.again (λ more a. into_ok make r (o.front ++ more) (p.0, more) a);
          })
      go (Err z) d =
          let o = h (Err z) d in
          subst (Outcome (into make r) (Made make S) ts) (sym (into_err make r ts z d) ∙ e) (record {
            before = o.before;
            rest = o.rest;
            all = o.all;
            place = o.place;
            begun = (make o.begun.0, o.begun.1, (o.begun.0, refl, o.begun.2));
            again = kept_map o.rest o.again (λ more a. into_err make r (o.before ++ more) z a);
          })

  pub reads_into : (F : List Token → Type 0) (make : X → Y) (r : Reader X) (S : X → Phrase) → Reads F r S → Reads F (into make r) (Made make S)
  reads_into F make r S h = record {
    at = λ ts. at_into make r S ts (h.at ts);
    gives = λ y front rest s k. into_ok make r (front ++ rest) (s.0, rest) (h.gives s.0 front rest s.2 k) ∙ ap (λ (z : Y). Ok (z, rest)) (sym s.1);
    some = (make h.some.0, h.some.1, (h.some.0, refl, h.some.2));
  }
