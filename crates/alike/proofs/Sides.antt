-- What std and the crates below lack of lists, tests and standings.
use Rattle.std.proofs.Common.{◌≡◌, refl, sym, ap, subst, ◌∙◌, Bool, true, false, true≢false, cond, not, ◌&&◌, ◌⊎◌, inl, inr, List, [], ◌∷◌, Some, None, is_some}
use Rattle.std.specs.List.{find, list_any}
use Rattle.value.proofs.IsolationLemmas.{In}
use Rattle.value.proofs.Basics.{In-any, any-In}
use Rattle.history.specs.Transactions.{Standing, Open, Doomed, Failed, Aborted, Done, is_done, is_open, is_owed}
use Rattle.alike.specs.Worlds.{SomeOf}

pub some_In : {X : Type 0} (P : X → Type 0) (xs : List X) → SomeOf P xs → (x : X) × In x xs × P x
some_In P [] s = absurd s
some_In P (x ∷ xs) (inl p) = (x, inl refl, p)
some_In P (x ∷ xs) (inr s) = let r = some_In P xs s in (r.0, inr r.1, r.2)

pub In_some : {X : Type 0} (P : X → Type 0) (xs : List X) (x : X) → In x xs → P x → SomeOf P xs
In_some P [] x i p = absurd i
In_some P (y ∷ ys) x (inl e) p = inl (subst P e p)
In_some P (y ∷ ys) x (inr i) p = inr (In_some P ys x i p)

-- where each that passes has one that passes
pub any_moves : {X Y : Type 0} (p : X → Bool) (q : Y → Bool) (xs : List X) (ys : List Y) → ((x : X) → In x xs → p x ≡ true → (y : Y) × In y ys × (q y ≡ true)) → list_any p xs ≡ true → list_any q ys ≡ true
any_moves p q xs ys h e = let f = any-In p xs e in let g = h f.0 f.1 f.2 in In-any q ys g.0 g.1 g.2

pub same_bool : (a b : Bool) → (a ≡ true → b ≡ true) → (b ≡ true → a ≡ true) → a ≡ b
same_bool true b f g = sym (f refl)
same_bool false true f g = g refl
same_bool false false f g = refl

pub and3 : (a b c : Bool) → a ≡ true → b ≡ true → c ≡ true → (a && b && c) ≡ true
and3 true true true p q r = refl
and3 false b c p q r = absurd (true≢false (sym p))
and3 true false c p q r = absurd (true≢false (sym q))
and3 true true false p q r = absurd (true≢false (sym r))

pub and2 : (a b : Bool) → a ≡ true → b ≡ true → (a && b) ≡ true
and2 true true p q = refl
and2 false b p q = absurd (true≢false (sym p))
and2 true false p q = absurd (true≢false (sym q))

pub not_true : (b : Bool) → not b ≡ true → b ≡ false
not_true true e = absurd (true≢false (sym e))
not_true false e = refl

pub true_not : (b : Bool) → b ≡ false → not b ≡ true
true_not true e = absurd (true≢false e)
true_not false e = refl

pub not_both : (b : Bool) → b ≡ true → b ≡ false → ⊥
not_both true p q = true≢false q
not_both false p q = true≢false (sym p)

-- a test that nothing passes
pub none_passes : (b : Bool) → (b ≡ true → ⊥) → b ≡ false
none_passes true f = absurd (f refl)
none_passes false f = refl

pub find_some : {X : Type 0} (p : X → Bool) (xs : List X) (x : X) → In x xs → p x ≡ true → (y : X) × (find p xs ≡ Some y)
find_some p [] x i e = absurd i
find_some {X} p (y ∷ ys) x i e = go (p y) refl i (λ j. find_some p ys x j e)
  where
    go : (b : Bool) → p y ≡ b → (x ≡ y) ⊎ In x ys → (In x ys → (z : X) × (find p ys ≡ Some z)) → (z : X) × (cond b (Some y) (find p ys) ≡ Some z)
    go true q j rest = (y, refl)
    go false q (inl j) rest = absurd (not_both (p x) e (ap p j ∙ q))
    go false q (inr j) rest = rest j

pub some_none : {Y : Type 0} (y : Y) → Some y ≡ None → ⊥
some_none y q = true≢false (ap is_some q)

pub find_none : {X : Type 0} (p : X → Bool) (xs : List X) → find p xs ≡ None → (x : X) → In x xs → p x ≡ false
find_none p xs e x i = none_passes (p x) (λ q. let r = find_some p xs x i q in some_none r.0 (sym r.1 ∙ e))

-- ---- standings

pub open_owed : (st : Standing) → is_open st ≡ true → is_owed st ≡ true
open_owed Open e = refl
open_owed (Doomed c) e = refl
open_owed Failed e = refl
open_owed Aborted e = absurd (true≢false (sym e))
open_owed Done e = absurd (true≢false (sym e))

pub owed_undone : (st : Standing) → is_owed st ≡ true → is_done st ≡ false
owed_undone Open e = refl
owed_undone (Doomed c) e = refl
owed_undone Failed e = refl
owed_undone Aborted e = refl
owed_undone Done e = absurd (true≢false (sym e))

pub done_closed : (st : Standing) → is_done st ≡ true → is_open st ≡ false
done_closed Open e = absurd (true≢false (sym e))
done_closed (Doomed c) e = refl
done_closed Failed e = refl
done_closed Aborted e = refl
done_closed Done e = refl

pub open_undone : (st : Standing) → is_open st ≡ true → is_done st ≡ false
open_undone st e = owed_undone st (open_owed st e)
