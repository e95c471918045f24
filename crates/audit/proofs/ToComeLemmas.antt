-- Transactions still to come, each at the place before its number.
use Rattle.std.proofs.Common.{◌≡◌, refl, sym, ap, subst, ◌∙◌, ℕ, suc, zero, ◌+◌, ◌<◌, ◌≤◌, Bool, true, false, cond, not, ◌⊎◌, inl, inr, List, [], ◌∷◌, ◌++◌, append_assoc, length, map, set, get_or, slice_get, Option, Some, None, is_some, eqb, arith}
use Rattle.std.proofs.lemmas.Bool.{eq-eqb, ne_eqb}
use Rattle.std.proofs.lemmas.Option.{slice_get-get_or}
use Rattle.std.specs.List.{filter, find, list_any}
use Rattle.statement.specs.declared.reply.Reply.{Reply}
use Rattle.history.specs.Answer.{is_refused}
use Rattle.history.specs.declared.event.Action.{Action}
use Rattle.history.specs.declared.event.Action.TheVariants.{Begin, Run, Broken, Poll, Export, Import, Commit, Rollback, Prune}
use Rattle.history.specs.declared.event.Record.{Record}
use Rattle.audit.specs.Course.{Track, at_first, begins, course_begun, courses_after, gone_on, is_committed, is_imported, is_its, with_record}
use Rattle.audit.specs.Replay.{AreInPlace, if_committed, is_empty, present, without}
use Rattle.audit.proofs.LatestLemmas.{set-at}

-- one more is pushed
pub push-step : {X Y : Type 0} (f : X → Y) (kept new : List Y) (left rest : List X) (x : X) (y : Y) → left ≡ x ∷ rest → y ≡ f x → new ≡ kept ++ y ∷ [] → new ++ map f rest ≡ kept ++ map f left
push-step f kept new left rest x y e1 e2 e3 =
    ap (λ ks. ks ++ map f rest) e3 ∙ append_assoc kept (y ∷ []) (map f rest) ∙ ap (λ z. kept ++ z ∷ map f rest) e2 ∙ ap (λ xs. kept ++ map f xs) (sym e1)

module _ {A : Type 0} where
  -- each that is there stands at the place before its number, counted from m
  abbrev ArePlaced : ℕ → List (Option (Track A)) → Type 0
  ArePlaced m xs = (i : ℕ) (x : Track A) → slice_get xs i ≡ Some (Some x) → x.number ≡ m + i + 1

  tail_placed : (m : ℕ) (o : Option (Track A)) (xs : List (Option (Track A))) → ArePlaced m (o ∷ xs) → ArePlaced (m + 1) xs
  tail_placed m o xs h = λ i x e. let k : x.number ≡ m + suc i + 1 = h (suc i) x e in omega arith

  -- what stands at a place, if anything does
  abbrev pub at : List (Option (Track A)) → ℕ → Option (Track A)
  at [] i = None
  at (o ∷ xs) zero = o
  at (o ∷ xs) (suc i) = at xs i

  -- ---- the first has a number above those before its place

  find-none : (m k : ℕ) (xs : List (Option (Track A))) → ArePlaced m xs → k ≤ m → find (λ y. eqb y.number k) (present xs) ≡ None
  find-none m k [] h l = refl
  find-none m k (None ∷ xs) h l = find-none (m + 1) k xs (tail_placed m None xs h) (omega arith)
  find-none m k (Some x ∷ xs) h l =
      let n : x.number ≡ m + 0 + 1 = h 0 x refl in
      ap (λ b. cond b (Some x) (find (λ y. eqb y.number k) (present xs))) (ne_eqb x.number k (λ e. absurd (omega arith)))
      ∙ find-none (m + 1) k xs (tail_placed m (Some x) xs h) (omega arith)

  without-none : (m k : ℕ) (xs : List (Option (Track A))) → ArePlaced m xs → k ≤ m → without k (present xs) ≡ present xs
  without-none m k [] h l = refl
  without-none m k (None ∷ xs) h l = without-none (m + 1) k xs (tail_placed m None xs h) (omega arith)
  without-none m k (Some x ∷ xs) h l =
      let n : x.number ≡ m + 0 + 1 = h 0 x refl in
      ap (λ b. cond (not b) (x ∷ without k (present xs)) (without k (present xs))) (ne_eqb x.number k (λ e. absurd (omega arith)))
      ∙ ap (λ ys. x ∷ ys) (without-none (m + 1) k xs (tail_placed m (Some x) xs h) (omega arith))

  -- ---- the one with a number

  find-placed : (m i k : ℕ) (xs : List (Option (Track A))) → ArePlaced m xs → k ≡ m + i + 1 → find (λ y. eqb y.number k) (present xs) ≡ at xs i
  find-placed m i k [] h e = refl
  find-placed m zero k (None ∷ xs) h e = find-none (m + 1) k xs (tail_placed m None xs h) (omega arith)
  find-placed m zero k (Some x ∷ xs) h e =
      let n : x.number ≡ m + 0 + 1 = h 0 x refl in
      ap (λ b. cond b (Some x) (find (λ y. eqb y.number k) (present xs))) (eq-eqb x.number k (omega arith))
  find-placed m (suc i) k (None ∷ xs) h e = find-placed (m + 1) i k xs (tail_placed m None xs h) (omega arith)
  find-placed m (suc i) k (Some x ∷ xs) h e =
      let n : x.number ≡ m + 0 + 1 = h 0 x refl in
      ap (λ b. cond b (Some x) (find (λ y. eqb y.number k) (present xs))) (ne_eqb x.number k (λ f. absurd (omega arith)))
      ∙ find-placed (m + 1) i k xs (tail_placed m (Some x) xs h) (omega arith)

  without-placed : (m i k : ℕ) (xs : List (Option (Track A))) → ArePlaced m xs → k ≡ m + i + 1 → without k (present xs) ≡ present (set xs i None)
  without-placed m i k [] h e = refl
  without-placed m zero k (None ∷ xs) h e = without-none (m + 1) k xs (tail_placed m None xs h) (omega arith)
  without-placed m zero k (Some x ∷ xs) h e =
      let n : x.number ≡ m + 0 + 1 = h 0 x refl in
      ap (λ b. cond (not b) (x ∷ without k (present xs)) (without k (present xs))) (eq-eqb x.number k (omega arith))
      ∙ without-none (m + 1) k xs (tail_placed m (Some x) xs h) (omega arith)
  without-placed m (suc i) k (None ∷ xs) h e = without-placed (m + 1) i k xs (tail_placed m None xs h) (omega arith)
  without-placed m (suc i) k (Some x ∷ xs) h e =
      let n : x.number ≡ m + 0 + 1 = h 0 x refl in
      ap (λ b. cond (not b) (x ∷ without k (present xs)) (without k (present xs))) (ne_eqb x.number k (λ f. absurd (omega arith)))
      ∙ ap (λ ys. x ∷ ys) (without-placed (m + 1) i k xs (tail_placed m (Some x) xs h) (omega arith))

  -- ---- taken out

  placed : (xs : List (Option (Track A))) → AreInPlace xs → ArePlaced 0 xs
  placed xs h = λ i x e. let k : x.number ≡ i + 1 = h i x e in omega arith

  pub find-at : (xs : List (Option (Track A))) (i k : ℕ) → AreInPlace xs → k ≡ i + 1 → find (λ y. eqb y.number k) (present xs) ≡ at xs i
  find-at xs i k h e = find-placed 0 i k xs (placed xs h) (omega arith)

  pub without-at : (xs : List (Option (Track A))) (i k : ℕ) → AreInPlace xs → k ≡ i + 1 → without k (present xs) ≡ present (set xs i None)
  without-at xs i k h e = without-placed 0 i k xs (placed xs h) (omega arith)

  pub find-zero : (xs : List (Option (Track A))) (k : ℕ) → AreInPlace xs → k ≡ 0 → find (λ y. eqb y.number k) (present xs) ≡ None
  find-zero xs k h e = find-none 0 k xs (placed xs h) (omega arith)

  pub without-zero : (xs : List (Option (Track A))) (k : ℕ) → AreInPlace xs → k ≡ 0 → without k (present xs) ≡ present xs
  without-zero xs k h e = without-none 0 k xs (placed xs h) (omega arith)

  at-some : (xs : List (Option (Track A))) (i : ℕ) (o : Option (Track A)) → slice_get xs i ≡ Some o → at xs i ≡ o
  at-some [] i o e = cc
  at-some (y ∷ ys) zero o e = cc
  at-some (y ∷ ys) (suc i) o e = at-some ys i o e

  pub at-read : (xs : List (Option (Track A))) (i : ℕ) (o : Option (Track A)) → i < length xs → o ≡ get_or xs i o → at xs i ≡ o
  at-read xs i o lt e = at-some xs i o (slice_get-get_or xs i o lt ∙ ap Some (sym e))

  pub at-past : (xs : List (Option (Track A))) (i : ℕ) → length xs ≤ i → (at xs i ≡ None) × (set xs i None ≡ xs)
  at-past [] i l = (refl, refl)
  at-past (y ∷ ys) zero l = absurd (omega arith)
  at-past (y ∷ ys) (suc i) l = let h = at-past ys i (omega arith) in (h.0, ap (λ zs. y ∷ zs) h.1)

  pub taken-in_place : (xs : List (Option (Track A))) (i : ℕ) → AreInPlace xs → AreInPlace (set xs i None)
  taken-in_place xs i h = λ k x e. go k x (set-at xs i k None (Some x) e)
    where
      go : (k : ℕ) (x : Track A) → ((k ≡ i) × (Some x ≡ None)) ⊎ (slice_get xs k ≡ Some (Some x)) → x.number ≡ k + 1
      go k x (inl u) = let never : Some x ≡ None = u.1 in cc
      go k x (inr u) = h k x u

  -- ---- those that are there

  pub present-committed : (cs : List (Track A)) → present (map if_committed cs) ≡ filter (λ c. c.committed) cs
  present-committed [] = refl
  present-committed (c ∷ cs) = go c.committed (present-committed cs)
    where
      go : (b : Bool) → present (map if_committed cs) ≡ filter (λ d. d.committed) cs → present (cond b (Some c) None ∷ map if_committed cs) ≡ cond b (c ∷ filter (λ d. d.committed) cs) (filter (λ d. d.committed) cs)
      go true e = ap (λ ds. c ∷ ds) e
      go false e = e

  pub none-there : (xs : List (Option (Track A))) → not (list_any is_some xs) ≡ is_empty (present xs)
  none-there [] = refl
  none-there (None ∷ xs) = none-there xs
  none-there (Some x ∷ xs) = refl

  -- ---- the courses of records stand by their numbers

  abbrev AreNumbered : List (Track A) → Type 0
  AreNumbered cs = (i : ℕ) (c : Track A) → slice_get cs i ≡ Some c → c.number ≡ i + 1

  number-gone : (place : ℕ) (a : Action A) (r : Reply A) (x : Track A) → (gone_on place a r x).number ≡ x.number
  number-gone place (Run q) r x = go (is_refused r)
    where
      go : (b : Bool) → (cond b x (record x { statements = x.statements ++ (q, r) ∷ [] })).number ≡ x.number
      go true = refl
      go false = refl
  number-gone place (Import i) r x = go (is_imported r)
    where
      go : (b : Bool) → (cond b (record x { imported = true }) x).number ≡ x.number
      go true = refl
      go false = refl
  number-gone place Commit r x = go (is_committed r)
    where
      go : (b : Bool) → (cond b (record x { owed = false; committed = true; end = place }) (record x { owed = false })).number ≡ x.number
      go true = refl
      go false = refl
  number-gone place Rollback r x = refl
  number-gone place (Begin m) r x = refl
  number-gone place (Broken b) r x = refl
  number-gone place Poll r x = refl
  number-gone place Export r x = refl
  number-gone place Prune r x = refl

  number-first : (p : Track A → Bool) (f : Track A → Track A) → ((x : Track A) → (f x).number ≡ x.number) → (cs : List (Track A)) (i : ℕ) (y : Track A) → slice_get (at_first p f cs) i ≡ Some y → (x : Track A) × (slice_get cs i ≡ Some x) × (y.number ≡ x.number)
  number-first p f keeps [] i y e = cc
  number-first p f keeps (c ∷ cs) i y e = go (p c) i e (number-first p f keeps cs)
    where
      Rest : Type 0
      Rest = (j : ℕ) (z : Track A) → slice_get (at_first p f cs) j ≡ Some z → (x : Track A) × (slice_get cs j ≡ Some x) × (z.number ≡ x.number)

      go : (b : Bool) (j : ℕ) → slice_get (cond b (f c ∷ cs) (c ∷ at_first p f cs)) j ≡ Some y → ((k : ℕ) (z : Track A) → slice_get (at_first p f cs) k ≡ Some z → (x : Track A) × (slice_get cs k ≡ Some x) × (z.number ≡ x.number)) → (x : Track A) × (slice_get (c ∷ cs) j ≡ Some x) × (y.number ≡ x.number)
      go true zero q rest = let same : f c ≡ y = cc in (c, refl, ap (λ (t : Track A). t.number) (sym same) ∙ keeps c)
      go true (suc j) q rest = (y, q, refl)
      go false zero q rest = (y, q, refl)
      go false (suc j) q rest = rest j y q

  number-push : (cs : List (Track A)) (m s place i : ℕ) (y : Track A) → ((j : ℕ) (c : Track A) → slice_get cs j ≡ Some c → c.number ≡ m + j + 1) → slice_get (cs ++ course_begun s (m + length cs + 1) place ∷ []) i ≡ Some y → y.number ≡ m + i + 1
  number-push [] m s place zero y h e = let same : course_begun s (m + 0 + 1) place ≡ y = cc in ap (λ (t : Track A). t.number) (sym same)
  number-push [] m s place (suc i) y h e = cc
  number-push (c ∷ cs) m s place zero y h e = let same : c ≡ y = cc in ap (λ (t : Track A). t.number) (sym same) ∙ h 0 c refl
  number-push (c ∷ cs) m s place (suc i) y h e =
      let n : m + suc (length cs) + 1 ≡ m + 1 + length cs + 1 = omega arith in
      let k : y.number ≡ m + 1 + i + 1 = number-push cs (m + 1) s place i y (λ j d q. let l : d.number ≡ m + suc j + 1 = h (suc j) d q in omega arith) (subst (λ (z : ℕ). slice_get (cs ++ course_begun s z place ∷ []) i ≡ Some y) n e) in
      omega arith

  numbered-begins : (place s : ℕ) (a : Action A) (cs : List (Track A)) → AreNumbered cs → AreNumbered (begins place s a cs)
  numbered-begins place s (Begin m) cs h = λ i y e.
      let n : length cs + 1 ≡ 0 + length cs + 1 = omega arith in
      let k : y.number ≡ 0 + i + 1 = number-push cs 0 s place i y (λ j d q. let l : d.number ≡ j + 1 = h j d q in omega arith) (subst (λ (z : ℕ). slice_get (cs ++ course_begun s z place ∷ []) i ≡ Some y) n e) in
      omega arith
  numbered-begins place s _ cs h = h

  numbered-record : (place : ℕ) (e : Record A) (cs : List (Track A)) → AreNumbered cs → AreNumbered (with_record place e cs)
  numbered-record place e cs h = go (list_any (is_its e.session) cs)
    where
      go : (b : Bool) → AreNumbered (cond b (at_first (is_its e.session) (gone_on place e.action e.reply) cs) (begins place e.session e.action cs))
      go true = λ i y q. let x = number-first (is_its e.session) (gone_on place e.action e.reply) (number-gone place e.action e.reply) cs i y q in x.2 ∙ h i x.0 x.1
      go false = numbered-begins place e.session e.action cs h

  numbered-after : (place : ℕ) (es : List (Record A)) (cs : List (Track A)) → AreNumbered cs → AreNumbered (courses_after place es cs)
  numbered-after place [] cs h = h
  numbered-after place (e ∷ es) cs h = numbered-after (place + 1) es (with_record (place + 1) e cs) (numbered-record (place + 1) e cs h)

  committed-at : (cs : List (Track A)) (i : ℕ) (x : Track A) → slice_get (map if_committed cs) i ≡ Some (Some x) → slice_get cs i ≡ Some x
  committed-at [] i x e = cc
  committed-at (c ∷ cs) zero x e = go c.committed e
    where
      go : (b : Bool) → Some (cond b (Some c) None) ≡ Some (Some x) → Some c ≡ Some x
      go true q = cc
      go false q = cc
  committed-at (c ∷ cs) (suc i) x e = committed-at cs i x e

  pub courses-in_place : (es : List (Record A)) → AreInPlace (map if_committed (courses_after 0 es []))
  courses-in_place es = λ i x e. numbered-after 0 es [] (λ j c q. cc) i x (committed-at (courses_after 0 es []) i x e)
