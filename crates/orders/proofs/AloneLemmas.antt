-- Statements done again, one after the other.
use Rattle.std.proofs.Common.{◌≡◌, refl, sym, ap, ◌∙◌, ℕ, zero, suc, eqb, slice_get, ◌-◌, ◌≤◌, Bool, true, false, cond, inl, inr, List, [], ◌∷◌, length, map, take, drop, get_or, Option, Some, None, Ok, arith}
use Rattle.std.proofs.lemmas.Bool.{eqb-true, and_parts}
use Rattle.std.specs.Option.{option_map}
use Rattle.value.specs.Refusals.{AnswersOrNoMemory}
use Rattle.value.proofs.Basics.{first_and_rest}
use Rattle.schema.specs.Definition.{Catalog}
use Rattle.schema.specs.declared.tables.Tables.{Tables}
use Rattle.schema.specs.declared.changes.Change.{Change}
use Rattle.schema.specs.Plain.{is_sound, put_all}
use Rattle.statement.specs.declared.statement.Statement.{Statement}
use Rattle.statement.specs.declared.reply.Reply.{Reply}
use Rattle.statement.specs.Evaluation.{outcome, after}
use Rattle.statement.specs.Fits.{fits}
use Rattle.statement.proofs.LawsLemmas.{sound_after}
use Rattle.orders.specs.Explains.{agrees, alone, are_fit}

pub answered-ok : {T : Type 0} (x a : T) → AnswersOrNoMemory (Ok x) (Ok a) → x ≡ a
answered-ok x a (inl e) = cc
answered-ok x a (inr e) = cc

module _ {A : Type 0} where
  -- what an answer that agrees changes, and none where it doesn't
  abbrev pub changes_of : Catalog → Statement A × Reply A → Tables A → Option (List (Change A))
  changes_of c q X = cond (agrees (outcome c q.0 X).reply q.1) (Some (outcome c q.0 X).changes) None

  changes-agree : (b : Bool) (x y : List (Change A)) → Some x ≡ cond b (Some y) None → (b ≡ true) × (x ≡ y)
  changes-agree true x y e = (refl, cc)
  changes-agree false x y e = cc

  none-differs : (b : Bool) (y : List (Change A)) → None ≡ cond b (Some y) None → b ≡ false
  none-differs true y e = cc
  none-differs false y e = refl

  -- the front statement is one that fits
  pub first-fits : {T : Type 0} (show : T → Statement A × Reply A) (c : Catalog) (qs : List T) (q : T) → 1 ≤ length qs → q ≡ get_or qs 0 q → are_fit c (map show qs) ≡ true → fits c (show q).0 ≡ true
  first-fits {T} show c qs q long first fit =
      let rest : List T = take (length qs - 1) (drop 1 qs) in
      (and_parts (fits c (show q).0) (are_fit c (map show rest)) (sym (ap (λ (xs : List T). are_fit c (map show xs)) (first_and_rest qs q long first)) ∙ fit)).0

  -- so do the others
  pub rest-fit : {T : Type 0} (show : T → Statement A × Reply A) (c : Catalog) (qs : List T) (q : T) → 1 ≤ length qs → q ≡ get_or qs 0 q → are_fit c (map show qs) ≡ true → are_fit c (map show (take (length qs - 1) (drop 1 qs))) ≡ true
  rest-fit {T} show c qs q long first fit =
      let rest : List T = take (length qs - 1) (drop 1 qs) in
      (and_parts (fits c (show q).0) (are_fit c (map show rest)) (sym (ap (λ (xs : List T). are_fit c (map show xs)) (first_and_rest qs q long first)) ∙ fit)).1

  -- it leaves sound tables
  pub redone-sound : (c : Catalog) (q : Statement A × Reply A) (X : Tables A) (xs : List (Change A)) → fits c q.0 ≡ true → is_sound c X ≡ true → Some xs ≡ changes_of c q X → is_sound c (put_all xs X) ≡ true
  redone-sound c q X xs fit sound e =
      ap (λ ys. is_sound c (put_all ys X)) (changes-agree (agrees (outcome c q.0 X).reply q.1) xs (outcome c q.0 X).changes e).1 ∙ sound_after c q.0 X fit sound

  -- it gets an answer that agrees, and the rest goes on
  pub alone-step : {T : Type 0} (show : T → Statement A × Reply A) (c : Catalog) (qs : List T) (q : T) (X : Tables A) (xs : List (Change A)) → 1 ≤ length qs → q ≡ get_or qs 0 q → are_fit c (map show qs) ≡ true → is_sound c X ≡ true
      → Some xs ≡ changes_of c (show q) X
      → let rest : List T = take (length qs - 1) (drop 1 qs) in (alone c (map show rest) (put_all xs X) ≡ alone c (map show qs) X) × (are_fit c (map show rest) ≡ true) × (is_sound c (put_all xs X) ≡ true)
  alone-step {T} show c qs q X xs long first fit sound e =
      let rest : List T = take (length qs - 1) (drop 1 qs) in
      let all : qs ≡ q ∷ rest = first_and_rest qs q long first in
      let parts = and_parts (fits c (show q).0) (are_fit c (map show rest)) (sym (ap (λ (ys : List T). are_fit c (map show ys)) all) ∙ fit) in
      let a = changes-agree (agrees (outcome c (show q).0 X).reply (show q).1) xs (outcome c (show q).0 X).changes e in
      let done : put_all xs X ≡ after c (show q).0 X = ap (λ ys. put_all ys X) a.1 in (
        ap (alone c (map show rest)) done ∙ sym (ap (λ b. cond b (alone c (map show rest) (after c (show q).0 X)) None) a.0) ∙ sym (ap (λ (ys : List T). alone c (map show ys) X) all),
        parts.1,
        ap (is_sound c) done ∙ sound_after c (show q).0 X parts.0 sound,
      )

  -- it gets another
  pub alone-stops : {T : Type 0} (show : T → Statement A × Reply A) (c : Catalog) (qs : List T) (q : T) (X : Tables A) → 1 ≤ length qs → q ≡ get_or qs 0 q → None ≡ changes_of c (show q) X → None ≡ alone c (map show qs) X
  alone-stops {T} show c qs q X long first e =
      let rest : List T = take (length qs - 1) (drop 1 qs) in
      sym (ap (λ (ys : List T). alone c (map show ys) X) (first_and_rest qs q long first)
      ∙ ap (λ b. cond b (alone c (map show rest) (after c (show q).0 X)) None) (none-differs (agrees (outcome c (show q).0 X).reply (show q).1) (outcome c (show q).0 X).changes e))

-- ---- options

pub some-is : {V T : Type 0} (f : V → T) (o : Option V) (v : V) (r : Option T) → o ≡ Some v → option_map f o ≡ r → Some (f v) ≡ r
some-is f o v r e h = sym (ap (λ p. option_map f p) e) ∙ h

pub none-is : {V T : Type 0} (f : V → T) (o : Option V) (r : Option T) → o ≡ None → option_map f o ≡ r → None ≡ r
none-is f o r e h = sym (ap (λ p. option_map f p) e) ∙ h

-- ---- elements

pub read-at : {T : Type 0} (xs : List T) (i : ℕ) (x y : T) → x ≡ get_or xs i x → slice_get xs i ≡ Some y → x ≡ y
read-at [] i x y e g = cc
read-at (z ∷ zs) zero x y e g = cc
read-at (z ∷ zs) (suc i) x y e g = read-at zs i x y e g

pub past-none : {T : Type 0} (xs : List T) (i : ℕ) (y : T) → length xs ≤ i → slice_get xs i ≡ Some y → ⊥
past-none [] i y l g = cc
past-none (z ∷ zs) zero y l g = absurd (omega (arith, l))
past-none (z ∷ zs) (suc i) y l g = past-none zs i y (omega (arith, l)) g

pub no-changes : {T : Type 0} (xs : List T) (n : ℕ) → n ≡ length xs → eqb n 0 ≡ true → xs ≡ []
no-changes [] n e h = refl
no-changes (x ∷ xs) n e h = absurd (omega (arith, e, eqb-true n 0 h))
