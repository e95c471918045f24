-- A replay of a legal history's courses, and serial orders of it.
use Rattle.std.proofs.Common.{◌≡◌, refl, sym, ap, subst, ◌∙◌, ℕ, ◌+◌, ◌-◌, ◌<◌, Bool, true, false, true≢false, cond, not, ◌&&◌, inl, inr, List, [], ◌∷◌, ◌++◌, length, map, zero, suc, get_or, IsTrue, ◌↔◌, arith}
use Rattle.std.specs.List.{All, filter, list_all, list_any}
use Rattle.std.proofs.lemmas.List.Sorted.{All-permutation, sum_by-IsPermutation}
use Rattle.value.proofs.IsolationLemmas.{In}
use Rattle.value.proofs.LastWriter.{Rising}
use Rattle.value.proofs.Basics.{In-mapped}
use Rattle.schema.specs.Definition.{Catalog}
use Rattle.schema.specs.declared.tables.Tables.{Tables}
use Rattle.schema.specs.Plain.{is_sound}
use Rattle.statement.specs.declared.statement.Statement.{Statement}
use Rattle.statement.specs.declared.reply.Reply.{Reply}
use Rattle.statement.specs.declared.reading.Reading.{Reading}
use Rattle.statement.specs.declared.outcome.Mark.{Mark}
use Rattle.schema.specs.declared.changes.Change.{Change}
use Rattle.statement.specs.Evaluation.{after}
use Rattle.history.specs.declared.event.Action.{Action}
use Rattle.history.specs.declared.event.Action.TheVariants.{Begin, Run, Broken, Poll, Export, Import, Commit, Rollback, Prune}
use Rattle.history.specs.declared.event.Record.{Record}
use Rattle.history.specs.Opening.{Opening}
use Rattle.history.specs.declared.base.Base.{Base}
use Rattle.history.specs.Transactions.{Txn, World, is_done, tables_at}
use Rattle.history.specs.Serial.{InTurn, IsSerial, IsSerialList, committed}
use Rattle.history.specs.Events.{start, world_of}
use Rattle.history.specs.Answer.{Legal, is_refused}
use Rattle.history.proofs.Alone.{Along, In-filter}
use Rattle.serial.proofs.order.SerialTheorem.{IsGood, good_start, good_world, sound_proper}
use Rattle.audit.specs.Course.{Track, course_of, gone_on, is_its, is_committed, is_imported, course_begun, at_first, begins, with_record, courses_after}
use Rattle.serial.proofs.legal.Histories.{run-catalog}
use Rattle.audit.specs.Replay.{are_fit, replays}
use Rattle.audit.proofs.TrackLemmas.{all-courses, run-base}
use Rattle.audit.proofs.OrderLemmas.{Fine, Answered, goes-again, goes-through}

-- ---- what holds of every course

module _ {A : Type 0} where
  pub record IsSane (x : Track A) : Type 0 where
    pub begun : 0 < x.begin
    pub answered : Answered x.statements

  answered-push : (qs : List (Statement A × Reply A)) (q : Statement A × Reply A) → Answered qs → is_refused q.1 ≡ false → Answered (qs ++ q ∷ [])
  answered-push [] q h e = ap (λ b. not b && true) e
  answered-push (p ∷ qs) q h e = go (not (is_refused p.1)) h (λ k. answered-push qs q k e)
    where
      go : (b : Bool) → (b && list_all (λ r. not (is_refused r.1)) qs) ≡ true → (Answered qs → Answered (qs ++ q ∷ [])) → (b && list_all (λ r. not (is_refused r.1)) (qs ++ q ∷ [])) ≡ true
      go true k rest = rest k
      go false k rest = absurd (true≢false (sym k))

  sane-gone : (place : ℕ) (a : Action A) (r : Reply A) (x : Track A) → IsSane x → IsSane (gone_on place a r x)
  sane-gone place (Run q) r x h = go (is_refused r) refl
    where
      go : (b : Bool) → is_refused r ≡ b → IsSane (cond b x (record x { statements = x.statements ++ (q, r) ∷ [] }))
      go true e = h
      go false e = record { begun = h.begun; answered = answered-push x.statements (q, r) h.answered e }
  sane-gone place (Import i) r x h = go (is_imported r)
    where
      go : (b : Bool) → IsSane (cond b (record x { imported = true }) x)
      go true = record { begun = h.begun; answered = h.answered }
      go false = h
  sane-gone place Commit r x h = go (is_committed r)
    where
      go : (b : Bool) → IsSane (cond b (record x { owed = false; committed = true; end = place }) (record x { owed = false }))
      go true = record { begun = h.begun; answered = h.answered }
      go false = record { begun = h.begun; answered = h.answered }
  sane-gone place Rollback r x h = record { begun = h.begun; answered = h.answered }
  sane-gone place (Begin m) r x h = h
  sane-gone place (Broken e) r x h = h
  sane-gone place Poll r x h = h
  sane-gone place Export r x h = h
  sane-gone place Prune r x h = h

  abbrev AllSane : List (Track A) → Type 0
  AllSane xs = (x : Track A) → In x xs → IsSane x

  sane-at_first : (test : Track A → Bool) (f : Track A → Track A) → ((x : Track A) → IsSane x → IsSane (f x)) → (xs : List (Track A)) → AllSane xs → AllSane (at_first test f xs)
  sane-at_first test f keeps [] h x i = absurd i
  sane-at_first test f keeps (y ∷ ys) h x i = go (test y) i (sane-at_first test f keeps ys (λ z j. h z (inr j)) x)
    where
      go : (b : Bool) → In x (cond b (f y ∷ ys) (y ∷ at_first test f ys)) → (In x (at_first test f ys) → IsSane x) → IsSane x
      go true (inl e) rest = subst IsSane (sym e) (keeps y (h y (inl refl)))
      go true (inr j) rest = h x (inr j)
      go false (inl e) rest = h x (inl e)
      go false (inr j) rest = rest j

  sane-push : (xs : List (Track A)) (y : Track A) → AllSane xs → IsSane y → AllSane (xs ++ y ∷ [])
  sane-push [] y h k x (inl e) = subst IsSane (sym e) k
  sane-push [] y h k x (inr j) = absurd j
  sane-push (z ∷ xs) y h k x (inl e) = h x (inl e)
  sane-push (z ∷ xs) y h k x (inr j) = sane-push xs y (λ v i. h v (inr i)) k x j

  sane-begins : (place s : ℕ) (a : Action A) (xs : List (Track A)) → 0 < place → AllSane xs → AllSane (begins place s a xs)
  sane-begins place s (Begin m) xs l h = sane-push xs (course_begun s (length xs + 1) place) h (record { begun = l; answered = refl })
  sane-begins place s _ xs l h = h

  sane-record : (place : ℕ) (e : Record A) (xs : List (Track A)) → 0 < place → AllSane xs → AllSane (with_record place e xs)
  sane-record place e xs l h = go (list_any (is_its e.session) xs)
    where
      go : (b : Bool) → AllSane (cond b (at_first (is_its e.session) (gone_on place e.action e.reply) xs) (begins place e.session e.action xs))
      go true = sane-at_first (is_its e.session) (gone_on place e.action e.reply) (sane-gone place e.action e.reply) xs h
      go false = sane-begins place e.session e.action xs l h

  pub sane-courses : (place : ℕ) (es : List (Record A)) (xs : List (Track A)) → AllSane xs → AllSane (courses_after place es xs)
  sane-courses place [] xs h = h
  sane-courses place (e ∷ es) xs h = sane-courses (place + 1) es (with_record (place + 1) e xs) (sane-record (place + 1) e xs (omega arith) h)

  -- ---- courses of a legal history

  committed-courses : (n p : ℕ) (ts : List (Txn A)) → filter (λ c. c.committed) (map (course_of n p) ts) ≡ map (course_of n p) (filter (λ t. is_done t.standing) ts)
  committed-courses n p [] = refl
  committed-courses n p (t ∷ ts) = go (is_done t.standing) (committed-courses n p ts)
    where
      go : (b : Bool) → filter (λ c. c.committed) (map (course_of n p) ts) ≡ map (course_of n p) (filter (λ u. is_done u.standing) ts)
          → cond b (course_of n p t ∷ filter (λ c. c.committed) (map (course_of n p) ts)) (filter (λ c. c.committed) (map (course_of n p) ts)) ≡ map (course_of n p) (cond b (t ∷ filter (λ u. is_done u.standing) ts) (filter (λ u. is_done u.standing) ts))
      go true e = ap (λ cs. course_of n p t ∷ cs) e
      go false e = e

  along-fit : (c : Catalog) (qs : List (Statement A × Reply A)) (B : Tables A) (rs : List (Reading A)) (xs : List (Change A)) (ms : List (Mark A)) → Along c qs B rs xs ms → are_fit c qs ≡ true
  along-fit c [] B rs xs ms a = refl
  along-fit c (q ∷ qs) B rs xs ms a = ap (λ b. b && are_fit c qs) a.3 ∙ along-fit c qs (after c q.0 B) a.0 a.1 a.2 a.8

module _ {A : Type 0} (o : Opening A) (es : List (Record A)) (l : Legal o es) where
  abbrev n : ℕ
  n = o.base.transactions

  abbrev p : ℕ
  p = o.base.events

  abbrev w : World A
  w = world_of o es

  good : IsGood w
  good = good_world o es l

  legal-courses : courses_after 0 es [] ≡ map (course_of n p) w.txns
  unfolding Legal
  legal-courses = all-courses n p (start o) es 0 l.1 (good_start o (sound_proper o.catalog o.tables l.0)) refl (omega arith) (omega arith)

  pub opening_sound : is_sound o.catalog o.tables ≡ true
  unfolding Legal
  opening_sound = l.0

  sane : (t : Txn A) → In t w.txns → IsSane (course_of n p t)
  sane t i = sane-courses 0 es [] (λ x j. absurd j) (course_of n p t) (subst (In (course_of n p t)) (sym legal-courses) (In-mapped (course_of n p) t w.txns i))

  fine : (t : Txn A) → In t (committed w) → Fine o.catalog n p t
  fine t i =
      let j = In-filter (λ u. is_done u.standing) w.txns t i in
      let s = sane t j.0 in
      let begun : 0 < t.begin - p = s.begun in
      let above : w.base.transactions < t.number = good.numbered.above t j.0 in
      let same : w.base.transactions ≡ n = ap (λ (b : Base). b.transactions) (run-base n p (start o) es).0 in
      record { number = omega arith; begin = omega arith; done = j.1; answered = s.answered }

  Rising-filter : (q : Txn A → Bool) (ts : List (Txn A)) → Rising (λ (t : Txn A). t.number) ts → Rising (λ (t : Txn A). t.number) (filter q ts)
  Rising-filter q [] r = tt
  Rising-filter q (t ∷ ts) r = go (q t) (Rising-filter q ts r.1)
    where
      go : (b : Bool) → Rising (λ (u : Txn A). u.number) (filter q ts) → Rising (λ (u : Txn A). u.number) (cond b (t ∷ filter q ts) (filter q ts))
      go true h = (λ y i. r.0 y (In-filter q ts y i).0, h)
      go false h = h

  rising : Rising (λ (t : Txn A). t.number) (committed w)
  rising = Rising-filter (λ u. is_done u.standing) w.txns good.rising.rising

  pub left-courses : filter (λ c. c.committed) (courses_after 0 es []) ≡ map (course_of n p) (committed w)
  left-courses = ap (filter (λ c. c.committed)) legal-courses ∙ committed-courses n p w.txns

  fit_of : (ts : List (Txn A)) → ((t : Txn A) → In t ts → In t w.txns) → list_all (λ x. are_fit w.catalog x.statements) (map (course_of n p) ts) ≡ true
  fit_of [] h = refl
  fit_of (t ∷ ts) h =
      let a = good.faithful.each t (h t (inl refl)) in
      ap (λ b. b && list_all (λ x. are_fit w.catalog x.statements) (map (course_of n p) ts)) (along-fit w.catalog t.statements (tables_at w t.snapshot) t.reads t.changes t.marks a.along) ∙ fit_of ts (λ u i. h u (inr i))

  pub courses_fit : list_all (λ x. are_fit o.catalog x.statements) (filter (λ c. c.committed) (courses_after 0 es [])) ≡ true
  courses_fit =
      subst (λ (c : Catalog). list_all (λ x. are_fit c x.statements) (filter (λ x. x.committed) (courses_after 0 es [])) ≡ true) (run-catalog (start o) es)
      (ap (list_all (λ x. are_fit w.catalog x.statements)) left-courses ∙ fit_of (committed w) (λ t i. (In-filter (λ u. is_done u.standing) w.txns t i).0))

  all_in : (ts : List (Txn A)) → All (λ (t : Txn A). In t ts) ts
  all_in ts = λ k d lt. at ts k d lt
    where
      at : (us : List (Txn A)) (k : ℕ) (d : Txn A) → k < length us → In (get_or us k d) us
      at [] k d lt = absurd (omega arith)
      at (u ∷ us) zero d lt = inl refl
      at (u ∷ us) (suc k) d lt = inr (at us k d (omega arith))

  each_of : (P : Txn A → Type 0) (ts : List (Txn A)) → All P ts → (t : Txn A) → In t ts → P t
  each_of P [] a t i = absurd i
  each_of P (u ∷ us) a t (inl e) = subst P (sym e) (a 0 u (omega arith))
  each_of P (u ∷ us) a t (inr i) = each_of P us (λ k d lt. a (suc k) d (omega arith)) t i

  pub order-answer : (ns : List ℕ) (b : Bool) → b ≡ replays o.catalog n 0 (filter (λ c. c.committed) (courses_after 0 es [])) ns o.tables → IsTrue b ↔ IsSerialList w ns
  order-answer ns b e = (there, back)
    where
      shown : b ≡ replays o.catalog n 0 (map (course_of n p) (committed w)) ns o.tables
      shown = e ∙ ap (λ cs. replays o.catalog n 0 cs ns o.tables) left-courses

      catalog : w.catalog ≡ o.catalog
      catalog = run-catalog (start o) es

      opening : w.opening ≡ o.tables
      opening = (run-base n p (start o) es).1

      there : IsTrue b → IsSerialList w ns
      there t =
          let f = goes-through o.catalog n p ns 0 (committed w) o.tables fine rising (sym shown ∙ t) in
          (f.order, f.numbers, record { each_once = f.each; in_turn = subst (λ (c : Catalog). InTurn c f.order w.opening) (sym catalog) (subst (InTurn o.catalog f.order) (sym opening) f.turn); in_time = f.time })

      back : IsSerialList w ns → IsTrue b
      back s =
          let order : List (Txn A) = s.0 in
          let serial : IsSerial w order = s.2 in
          shown ∙ ap (λ ks. replays o.catalog n 0 (map (course_of n p) (committed w)) ks o.tables) (sym s.1)
          ∙ goes-again o.catalog n p order 0 (committed w) o.tables fine rising
          (each_of (λ t. In t (committed w)) order (All-permutation (λ t. In t (committed w)) (committed w) order serial.each_once (all_in (committed w))))
          (λ f. sum_by-IsPermutation f (committed w) order serial.each_once)
          (subst (λ (c : Catalog). InTurn c order o.tables) catalog (subst (InTurn w.catalog order) opening serial.in_turn)) serial.in_time (λ t i. omega arith)
