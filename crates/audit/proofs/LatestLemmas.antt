-- Where each session's latest transaction stands.
use Rattle.std.proofs.Common.{◌≡◌, refl, sym, ap, subst, ◌∙◌, ℕ, suc, zero, ◌<◌, ◌≤◌, Bool, true, false, true≢false, cond, ◌&&◌, ◌⊎◌, inl, inr, List, [], ◌∷◌, ◌++◌, length, take, set, get_or, slice_get, Option, Some, None, eqb, arith}
use Rattle.std.proofs.lemmas.Bool.{eqb-true}
use Rattle.std.proofs.lemmas.Grind.{common_steps}
use Rattle.std.proofs.lemmas.Option.{get_or_from_slice_get, slice_get_within}
use Rattle.std.specs.Cmp.{first_so}
use Rattle.std.specs.List.{find}
use Rattle.std.specs.Option.{IfNone}
use Rattle.std.specs.Ordering.{nat_cmp}
use Rattle.std.specs.BTreeMap.{BTreeMap, Updates, get}
use Rattle.statement.specs.declared.reply.Reply.{Reply}
use Rattle.history.specs.Answer.{is_refused}
use Rattle.history.specs.declared.event.Action.{Action}
use Rattle.history.specs.declared.event.Action.TheVariants.{Begin, Run, Broken, Poll, Export, Import, Commit, Rollback, Prune}
use Rattle.audit.specs.Course.{Track, AreLatest, course_begun, gone_on, is_committed, is_imported, is_its}

-- ---- elements by their places

-- none passes before a place
find-before : {T : Type 0} (p : T → Bool) (xs : List T) (i : ℕ) → ((k : ℕ) (x : T) → k < i → slice_get xs k ≡ Some x → p x ≡ true → ⊥) → find p (take i xs) ≡ None
find-before p [] zero h = refl
find-before p [] (suc i) h = refl
find-before p (x ∷ xs) zero h = refl
find-before {T} p (x ∷ xs) (suc i) h = go (p x) refl (find-before p xs i (λ k y lt e q. h (suc k) y (omega arith) e q))
  where
    go : (b : Bool) → p x ≡ b → find p (take i xs) ≡ None → cond b (Some x) (find p (take i xs)) ≡ None
    go true q rest = absurd (h 0 x (omega arith) refl q)
    go false q rest = rest

find-nowhere : {T : Type 0} (p : T → Bool) (xs : List T) → ((k : ℕ) (x : T) → slice_get xs k ≡ Some x → p x ≡ true → ⊥) → find p xs ≡ None
find-nowhere p [] h = refl
find-nowhere {T} p (x ∷ xs) h = go (p x) refl (find-nowhere p xs (λ k y e q. h (suc k) y e q))
  where
    go : (b : Bool) → p x ≡ b → find p xs ≡ None → cond b (Some x) (find p xs) ≡ None
    go true q rest = absurd (h 0 x refl q)
    go false q rest = rest

none-passes : {T : Type 0} (p : T → Bool) (xs : List T) (k : ℕ) (x : T) → find p xs ≡ None → slice_get xs k ≡ Some x → p x ≡ true → ⊥
none-passes p [] k x none e q = cc
none-passes {T} p (y ∷ ys) zero x none e q = go (p y) refl none
  where
    go : (b : Bool) → p y ≡ b → cond b (Some y) (find p ys) ≡ None → ⊥
    go true r n = cc
    go false r n = let same : y ≡ x = cc in absurd (true≢false (sym q ∙ ap p (sym same) ∙ r))
none-passes {T} p (y ∷ ys) (suc k) x none e q = go (p y) none (λ n. none-passes p ys k x n e q)
  where
    go : (b : Bool) → cond b (Some y) (find p ys) ≡ None → (find p ys ≡ None → ⊥) → ⊥
    go true n rest = cc
    go false n rest = rest n

pub set-at : {T : Type 0} (xs : List T) (i k : ℕ) (v y : T) → slice_get (set xs i v) k ≡ Some y → ((k ≡ i) × (y ≡ v)) ⊎ (slice_get xs k ≡ Some y)
set-at [] i k v y e = inr e
set-at (x ∷ xs) zero zero v y e = let same : y ≡ v = cc in inl (refl, same)
set-at (x ∷ xs) zero (suc k) v y e = inr e
set-at (x ∷ xs) (suc i) zero v y e = inr e
set-at {T} (x ∷ xs) (suc i) (suc k) v y e = go (set-at xs i k v y e)
  where
    go : ((k ≡ i) × (y ≡ v)) ⊎ (slice_get xs k ≡ Some y) → ((suc k ≡ suc i) × (y ≡ v)) ⊎ (slice_get xs k ≡ Some y)
    go (inl h) = inl (ap suc h.0, h.1)
    go (inr h) = inr h

push-at : {T : Type 0} (xs : List T) (k : ℕ) (v y : T) → slice_get (xs ++ v ∷ []) k ≡ Some y → ((k ≡ length xs) × (y ≡ v)) ⊎ (slice_get xs k ≡ Some y)
push-at [] zero v y e = let same : y ≡ v = cc in inl (refl, same)
push-at [] (suc k) v y e = inr e
push-at (x ∷ xs) zero v y e = inr e
push-at {T} (x ∷ xs) (suc k) v y e = go (push-at xs k v y e)
  where
    go : ((k ≡ length xs) × (y ≡ v)) ⊎ (slice_get xs k ≡ Some y) → ((suc k ≡ suc (length xs)) × (y ≡ v)) ⊎ (slice_get xs k ≡ Some y)
    go (inl h) = inl (ap suc h.0, h.1)
    go (inr h) = inr h

same_place : (i k : ℕ) → Some i ≡ Some k → i ≡ k
same_place i k e = cc

never_both : (a : Bool) → (a && false) ≡ true → ⊥
never_both true e = true≢false (sym e)
never_both false e = true≢false (sym e)

-- a map of numbers after a key is put in
kept-beside : (m n : BTreeMap ℕ ℕ) (s v : ℕ) → Updates nat_cmp m n s (Some v) → (q : ℕ) → eqb s q ≡ false → get nat_cmp n q ≡ get nat_cmp m q
kept-beside m n s v h q e = grind (arith, common_steps, h.0 q)

read-place : (m : BTreeMap ℕ ℕ) (s key i : ℕ) → key ≡ s → Some i ≡ get nat_cmp m key → get nat_cmp m s ≡ Some i
read-place m s key i same e = sym (e ∙ ap (get nat_cmp m) same)

-- what holds where there is nothing
pub if-none : {T P : Type 0} (o : Option T) → P → IfNone o P
if-none None h = h
if-none (Some x) h = tt

module _ {A : Type 0} where
  -- ---- the place tells which transaction a session has still to end

  its-before : (place : ℕ → Option ℕ) (cs : List (Track A)) (s i : ℕ) → AreLatest place cs → place s ≡ Some i → find (is_its s) (take i cs) ≡ None
  its-before place cs s i h at = find-before (is_its s) cs i (λ k x lt e q. let same : i ≡ k = same_place i k (sym at ∙ h s k x e q) in absurd (omega arith))

  its-nowhere : (place : ℕ → Option ℕ) (cs : List (Track A)) (s : ℕ) → AreLatest place cs → ((i : ℕ) (x : Track A) → place s ≡ Some i → slice_get cs i ≡ Some x → is_its s x ≡ true → ⊥) → find (is_its s) cs ≡ None
  its-nowhere place cs s h none = find-nowhere (is_its s) cs (λ k x e q. none k x (h s k x e q) e q)

  -- ---- what a map of those places tells

  pub its-first : (m : BTreeMap ℕ ℕ) (cs : List (Track A)) (s key i : ℕ) → AreLatest (get nat_cmp m) cs → key ≡ s → Some i ≡ get nat_cmp m key → find (is_its s) (take i cs) ≡ None
  its-first m cs s key i h same e = its-before (get nat_cmp m) cs s i h (read-place m s key i same e)

  pub its-absent : (m : BTreeMap ℕ ℕ) (cs : List (Track A)) (s key : ℕ) → AreLatest (get nat_cmp m) cs → key ≡ s → None ≡ get nat_cmp m key → find (is_its s) cs ≡ None
  its-absent m cs s key h same e = its-nowhere (get nat_cmp m) cs s h (λ i x at f q. let none : None ≡ get nat_cmp m s = e ∙ ap (get nat_cmp m) same in cc)

  pub its-past : (m : BTreeMap ℕ ℕ) (cs : List (Track A)) (s key i : ℕ) → AreLatest (get nat_cmp m) cs → key ≡ s → Some i ≡ get nat_cmp m key → length cs ≤ i → find (is_its s) cs ≡ None
  its-past m cs s key i h same e past =
      its-nowhere (get nat_cmp m) cs s h (λ k x at f q. let one : i ≡ k = same_place i k (sym (read-place m s key i same e) ∙ at) in let within = slice_get_within cs k x f in absurd (omega arith))

  pub its-other : (m : BTreeMap ℕ ℕ) (cs : List (Track A)) (s key i : ℕ) (x : Track A) → AreLatest (get nat_cmp m) cs → key ≡ s → Some i ≡ get nat_cmp m key → x ≡ get_or cs i x → is_its s x ≡ false → find (is_its s) cs ≡ None
  its-other m cs s key i x h same e read other =
      its-nowhere (get nat_cmp m) cs s h (λ k y at f q.
      let one : i ≡ k = same_place i k (sym (read-place m s key i same e) ∙ at) in
      let it : x ≡ y = read ∙ ap (λ j. get_or cs j x) one ∙ get_or_from_slice_get cs k y x f in
      absurd (true≢false (sym q ∙ ap (is_its s) (sym it) ∙ other)))

  -- ---- one goes on

  -- what goes on to be its session's was so before
  its-gone : (s place : ℕ) (a : Action A) (r : Reply A) (x : Track A) → is_its s (gone_on place a r x) ≡ true → is_its s x ≡ true
  its-gone s place (Run q) r x e = go (is_refused r) e
    where
      go : (b : Bool) → is_its s (cond b x (record x { statements = x.statements ++ (q, r) ∷ [] })) ≡ true → is_its s x ≡ true
      go true h = h
      go false h = h
  its-gone s place (Import i) r x e = go (is_imported r) e
    where
      go : (b : Bool) → is_its s (cond b (record x { imported = true }) x) ≡ true → is_its s x ≡ true
      go true h = h
      go false h = h
  its-gone s place Commit r x e = go (is_committed r) e
    where
      go : (b : Bool) → is_its s (cond b (record x { owed = false; committed = true; end = place }) (record x { owed = false })) ≡ true → is_its s x ≡ true
      go true h = absurd (never_both (eqb x.session s) h)
      go false h = absurd (never_both (eqb x.session s) h)
  its-gone s place Rollback r x e = absurd (never_both (eqb x.session s) e)
  its-gone s place (Begin m) r x e = e
  its-gone s place (Broken b) r x e = e
  its-gone s place Poll r x e = e
  its-gone s place Export r x e = e
  its-gone s place Prune r x e = e

  pub latest-gone : (latest : ℕ → Option ℕ) (cs new : List (Track A)) (i place : ℕ) (a : Action A) (r : Reply A) → AreLatest latest cs → i < length cs
      → ((x : Track A) → slice_get cs i ≡ Some x → new ≡ set cs i (gone_on place a r x)) → AreLatest latest new
  latest-gone latest cs new i place a r h lt gone = go (slice_get cs i) refl
    where
      go : (o : Option (Track A)) → slice_get cs i ≡ o → AreLatest latest new
      go None e = absurd (past cs i lt e)
        where
          past : (xs : List (Track A)) (j : ℕ) → j < length xs → slice_get xs j ≡ None → ⊥
          past [] j l n = absurd (omega arith)
          past (x ∷ xs) zero l n = cc
          past (x ∷ xs) (suc j) l n = past xs j (omega arith) n
      go (Some x) e = λ s k y f q. at s k y q (set-at cs i k (gone_on place a r x) y (subst (λ (zs : List (Track A)). slice_get zs k ≡ Some y) (gone x e) f))
        where
          at : (s k : ℕ) (y : Track A) → is_its s y ≡ true → ((k ≡ i) × (y ≡ gone_on place a r x)) ⊎ (slice_get cs k ≡ Some y) → latest s ≡ Some k
          at s k y q (inl u) = h s i x e (its-gone s place a r x (ap (is_its s) (sym u.1) ∙ q)) ∙ ap Some (sym u.0)
          at s k y q (inr u) = h s k y u q

  -- ---- one begins

  latest-begun : (latest new : ℕ → Option ℕ) (cs : List (Track A)) (s n place : ℕ) → AreLatest latest cs → find (is_its s) cs ≡ None → new s ≡ Some (length cs) → ((q : ℕ) → eqb s q ≡ false → new q ≡ latest q)
      → AreLatest new (cs ++ course_begun s n place ∷ [])
  latest-begun latest new cs s n place h none here others = λ q k y e i. at q k y i (push-at cs k (course_begun s n place) y e)
    where
      at : (q k : ℕ) (y : Track A) → is_its q y ≡ true → ((k ≡ length cs) × (y ≡ course_begun s n place)) ⊎ (slice_get cs k ≡ Some y) → new q ≡ Some k
      at q k y i (inl u) =
          let same : s ≡ q = eqb-true s q (first_so (eqb s q) true (ap (is_its q) (sym u.1) ∙ i)) in
          ap new (sym same) ∙ here ∙ ap Some (sym u.0)
      at q k y i (inr u) = go (eqb s q) refl
        where
          go : (b : Bool) → eqb s q ≡ b → new q ≡ Some k
          go true e = absurd (none-passes (is_its s) cs k y none u (ap (λ (t : ℕ). is_its t y) (eqb-true s q e) ∙ i))
          go false e = others q e ∙ h q k y u i

  pub begun-latest : (m n : BTreeMap ℕ ℕ) (cs new : List (Track A)) (s key count number place : ℕ) (c : Track A) → AreLatest (get nat_cmp m) cs → find (is_its s) cs ≡ None → key ≡ s → count ≡ length cs
      → Updates nat_cmp m n key (Some count) → c ≡ course_begun s number place → new ≡ cs ++ c ∷ [] → AreLatest (get nat_cmp n) new
  begun-latest m n cs new s key count number place c h none same long put one e =
      let put' : Updates nat_cmp m n s (Some count) = subst (λ (k : ℕ). Updates nat_cmp m n k (Some count)) same put in
      subst (AreLatest (get nat_cmp n)) (sym (e ∙ ap (λ d. cs ++ d ∷ []) one))
      (latest-begun (get nat_cmp m) (get nat_cmp n) cs s number place h none (put'.1 ∙ ap Some long) (kept-beside m n s count put'))
