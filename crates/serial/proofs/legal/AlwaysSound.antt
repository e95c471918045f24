-- The tables of each commit are sound.
use Rattle.std.proofs.Common.{◌≡◌, refl, sym, ap, subst, ◌∙◌, ℕ, zero, suc, ◌+◌, ◌-◌, ◌<◌, ◌≤◌, Bool, true, false, cond, not, ◌⊎◌, inl, inr, List, [], ◌∷◌, ◌++◌, length, take, slice_get, Some, nat_le, arith}
use Rattle.std.proofs.lemmas.Bool.{le-leb}
use Rattle.std.specs.Cmp.{first_so}
use Rattle.std.specs.FinMap.{is_sorted}
use Rattle.value.specs.Order.{value_cmp}
use Rattle.value.proofs.IsolationLemmas.{In, first_part-least, write-0, f}
use Rattle.value.proofs.SerialLemmas.{NumberedFrom}
use Rattle.value.proofs.SortLemmas.{In-sorted}
use Rattle.value.proofs.Basics.{cases_le, true_from_T}
use Rattle.statement.specs.declared.outcome.Mark.{Mark}
use Rattle.schema.specs.Definition.{Catalog, TableSchema}
use Rattle.schema.specs.declared.row.Row.{Row}
use Rattle.schema.specs.declared.changes.Change.{Change}
use Rattle.schema.specs.declared.tables.Tables.{Tables}
use Rattle.schema.specs.Plain.{is_null, rows_of, is_sound, fits_columns}
use Rattle.schema.proofs.PlainLemmas.{rows_of-past}
use Rattle.statement.specs.declared.statement.Statement.{Statement}
use Rattle.statement.specs.declared.reply.Reply.{Reply}
use Rattle.statement.specs.declared.reading.Reading.{Reading}
use Rattle.statement.specs.Evaluation.{after}
use Rattle.statement.specs.Fits.{Fits}
use Rattle.schema.proofs.SoundLemmas.{Sound, found_row, sound_from, sound_to}
use Rattle.statement.proofs.SoundSteps.{outcome_sound}
use Rattle.history.specs.declared.event.Record.{Record}
use Rattle.history.specs.Opening.{Opening}
use Rattle.history.specs.declared.base.Base.{Base}
use Rattle.history.specs.Transactions.{Txn, World, Exported_snapshot, node, edge, is_done, is_read_write, commits, tables_at, with_all}
use Rattle.history.specs.Events.{numbered, start, follows, run, world_of}
use Rattle.history.specs.Serial.{committed, key, serial_order, prefix, Alone, RunsTo}
use Rattle.history.proofs.Alone.{Along, IsIsolatedWorld, In-filter, prefix_runs}
use Rattle.history.specs.Answer.{reply_in, Legal, IsAnswered}
use Rattle.serial.proofs.legal.Legal.{Move, Stays, Fails, Aborts, Commits, Runs, Asks, Polls, Learns, Imports, Step, Nothing, Begins, Moves, Settles, Dooms, Steps, One, Two, legal_steps}
use Rattle.serial.proofs.order.SerialTheorem.{IsGood, good_step, good_steps, good_start, good_world, isolated_world, sound_proper}
use Rattle.serial.proofs.legal.Faithful.{IsFaithful}
use Rattle.serial.proofs.legal.DoneFromSnapshot.{along_replies}

module _ {A : Type 0} where
  -- no row has a null key
  keyed : (c : Catalog) (X : Tables A) → Sound c X → (r : Row A) (t : ℕ) → In r (rows_of X t) → not (is_null r.0) ≡ true
  keyed c X s r t i = go (cases_le (length X) t)
    where
      there : (n : ℕ) (b : Catalog) → n < length b → (d : TableSchema) × (slice_get b n ≡ Some d)
      there n [] l = absurd (omega arith)
      there zero (d ∷ b) l = (d, refl)
      there (suc n) (d ∷ b) l = there n b (omega arith)

      go : (length X ≤ t) ⊎ (t < length X) → not (is_null r.0) ≡ true
      go (inl l) = absurd (subst (In r) (rows_of-past X t l) i)
      go (inr l) =
          let d = there t c (omega (arith, s.count)) in
          first_so (not (is_null r.0)) (fits_columns X d.0.columns (r.0 ∷ r.1)) (s.rows t d.0 d.1 r.0 r.1 (found_row (rows_of X t) r (true_from_T (is_sorted value_cmp (rows_of X t)) (s.ordered.each t)) i))

  abbrev AllFit : Catalog → List (Statement A × Reply A) → Type 0
  AllFit c [] = Unit {0}
  AllFit c (q ∷ qs) = Fits c q.0 × AllFit c qs

  all_fit : (c : Catalog) (qs : List (Statement A × Reply A)) (B : Tables A) (rs : List (Reading A)) (xs : List (Change A)) (ms : List (Mark A)) → Along c qs B rs xs ms → AllFit c qs
  all_fit c [] B rs xs ms a = tt
  all_fit c (q ∷ qs) B rs xs ms a = (a.3, all_fit c qs (after c q.0 B) a.0 a.1 a.2 a.8)

  alone_sound : (c : Catalog) (qs : List (Statement A × Reply A)) (X Y : Tables A) → AllFit c qs → Alone c qs X Y → Sound c X → Sound c Y
  alone_sound c [] X Y f a s = subst (Sound c) (sym a) s
  alone_sound c (q ∷ qs) X Y f a s = alone_sound c qs (after c q.0 X) Y f.1 a.1 (outcome_sound c q.0 X f.0 s (keyed c X s))

  runs_sound : (c : Catalog) (ts : List (Txn A)) (X Z : Tables A) → ((t : Txn A) → In t ts → AllFit c t.statements) → RunsTo c ts X Z → Sound c X → Sound c Z
  runs_sound c [] X Z f r s = subst (Sound c) (sym r) s
  runs_sound c (t ∷ ts) X Z f r s = runs_sound c ts r.0 Z (λ u i. f u (inr i)) r.2 (alone_sound c t.statements X r.0 (f t (inl refl)) r.1 s)

  -- the tables of all commits so far
  sound_now : (w : World A) → IsGood w → Sound w.catalog w.opening → Sound w.catalog (tables_at w (commits w))
  sound_now w g s = runs_sound w.catalog (prefix w (commits w)) w.opening (tables_at w (commits w)) fit (prefix_runs w iso (commits w) (omega arith) (λ u i r e. by u i) all) s
    where
      iso : IsIsolatedWorld w
      iso = isolated_world w g

      by : (u : Txn A) → In u (committed w) → u.commit ≤ commits w
      by u i = go (g.numbered.kind u (In-filter (λ (t : Txn A). is_done t.standing) w.txns u i).0)
        where
          upto : (n : ℕ) (ts : List (Txn A)) → NumberedFrom (λ (y : Txn A). y.commit) n ts → In u ts → u.commit ≤ n + length ts
          upto n [] h k = absurd k
          upto n (y ∷ ts) h (inl p) = omega (arith, h.0, ap (λ (z : Txn A). z.commit) p)
          upto n (y ∷ ts) h (inr k) = omega (arith, upto (n + 1) ts h.1 k)

          go : In u w.log ⊎ (u.commit ≡ 0) × (is_done u.standing ≡ true → is_read_write u.mode ≡ false) → u.commit ≤ commits w
          go (inl j) = omega (arith, upto w.base.commits w.log g.numbered.in_order j)
          go (inr k) = omega (arith, k.0)

      all : (u : Txn A) → In u (committed w) → (node u).read_write ≡ true → u.commit ≤ commits w → nat_le (key w u).0 (commits w) ≡ true
      all u i r h = le-leb (key w u).0 (commits w) (let q = write-0 node edge u (committed w) r in let l = first_part-least node edge u (committed w) in omega arith)

      fit : (t : Txn A) → In t (prefix w (commits w)) → AllFit w.catalog t.statements
      fit t i = all_fit w.catalog t.statements (tables_at w t.snapshot) t.reads t.changes t.marks
          (iso.along t (In-sorted (key w) t (committed w) (In-filter (λ y. nat_le (key w y).0 (commits w)) (serial_order w) t i).0))

  -- ---- one event

  record Adds_one (u v : World A) : Type 0 where
    catalog : v.catalog ≡ u.catalog
    opening : v.opening ≡ u.opening
    base : v.base ≡ u.base
    log : (rest : List (Txn A)) × (v.log ≡ u.log ++ rest)
    one : length v.log ≤ length u.log + 1

  nil : (ts : List (Txn A)) → ts ≡ ts ++ []
  nil [] = refl
  nil (t ∷ ts) = ap (λ us. t ∷ us) (nil ts)

  pushed : (ts : List (Txn A)) (x : Txn A) → length (ts ++ x ∷ []) ≡ length ts + 1
  pushed [] x = refl
  pushed (y ∷ ts) x = omega (arith, pushed ts x)

  move_log : (w : World A) (t x : Txn A) (log : List (Txn A)) (exports : List Exported_snapshot) → Move w t x log exports → ((rest : List (Txn A)) × (log ≡ w.log ++ rest)) × (length log ≤ length w.log + 1)
  move_log w t x log exports Stays = (([], nil w.log), omega arith)
  move_log w t x log exports Fails = (([], nil w.log), omega arith)
  move_log w t x log exports Aborts = (([], nil w.log), omega arith)
  move_log w t x log exports (Commits c) = go (is_read_write t.mode)
    where
      go : (b : Bool) → ((rest : List (Txn A)) × (cond b (w.log ++ numbered w t ∷ []) w.log ≡ w.log ++ rest)) × (length (cond b (w.log ++ numbered w t ∷ []) w.log) ≤ length w.log + 1)
      go true = ((numbered w t ∷ [], refl), omega (arith, pushed w.log (numbered w t)))
      go false = (([], nil w.log), omega arith)
  move_log w t x log exports (Runs q fits a b d) = (([], nil w.log), omega arith)
  move_log w t x log exports (Asks a) = (([], nil w.log), omega arith)
  move_log w t x log exports (Polls d k) = (([], nil w.log), omega arith)
  move_log w t x log exports (Learns d k e) = (([], nil w.log), omega arith)
  move_log w t x log exports (Imports i y d a e) = (([], nil w.log), omega arith)

  adds_one : (u v : World A) → Step u v → Adds_one u v
  adds_one u v Nothing = record { catalog = refl; opening = refl; base = refl; log = ([], nil u.log); one = omega arith }
  adds_one u v (Begins s m) = record { catalog = refl; opening = refl; base = refl; log = ([], nil u.log); one = omega arith }
  adds_one u v (Moves s t x log exports c o move) = record { catalog = refl; opening = refl; base = refl; log = (move_log u t x log exports move).0; one = (move_log u t x log exports move).1 }
  adds_one u v (Settles s t st c o d o' d') = record { catalog = refl; opening = refl; base = refl; log = ([], nil u.log); one = omega arith }
  adds_one u v (Dooms cs) = record { catalog = refl; opening = refl; base = refl; log = ([], nil u.log); one = omega arith }

  record AllSound (w : World A) : Type 0 where
    opening : Sound w.catalog w.opening
    each : (n : ℕ) → n ≤ commits w → Sound w.catalog (tables_at w n)

  same_take : (n : ℕ) (xs ys : List (Txn A)) → n ≤ length xs → take n (xs ++ ys) ≡ take n xs
  same_take zero xs ys h = refl
  same_take (suc n) [] ys h = absurd (omega arith)
  same_take (suc n) (x ∷ xs) ys h = ap (λ zs. x ∷ zs) (same_take n xs ys (omega arith))

  all_sound_step : (u v : World A) → AllSound u → IsGood v → Step u v → AllSound v
  all_sound_step u v s g step = record { opening = opened; each = λ n h. go n h (cases_le n (commits u)) }
    where
      a : Adds_one u v
      a = adds_one u v step

      opened : Sound v.catalog v.opening
      opened = subst (λ c. Sound c v.opening) (sym a.catalog) (subst (Sound u.catalog) (sym a.opening) s.opening)

      same_tables : (n : ℕ) → n ≤ commits u → tables_at v n ≡ tables_at u n
      same_tables n l = ap (λ (b : Base). with_all (take (n - b.commits) v.log) v.opening) a.base ∙ ap (λ X. with_all (take (n - u.base.commits) v.log) X) a.opening
          ∙ ap (λ ts. with_all ts u.opening) (ap (take (n - u.base.commits)) a.log.1 ∙ same_take (n - u.base.commits) u.log a.log.0 (omega (arith, l)))

      go : (n : ℕ) → n ≤ commits v → (n ≤ commits u) ⊎ (commits u < n) → Sound v.catalog (tables_at v n)
      go n h (inl l) = subst (λ c. Sound c (tables_at v n)) (sym a.catalog) (subst (Sound u.catalog) (sym (same_tables n l)) (s.each n l))
      go n h (inr l) = subst (λ m. Sound v.catalog (tables_at v m)) (last (omega (arith, a.one, ap (λ (b : Base). b.commits) a.base))) (sound_now v g opened)
        where
          last : commits v ≤ n → commits v ≡ n
          last m = omega arith

  all_sound_steps : (u v : World A) → IsGood u → AllSound u → Steps u v → AllSound v
  all_sound_steps u v g s (One v' r) = all_sound_step u v s (good_step u v g r) r
  all_sound_steps u v g s (Two m v' r q) = all_sound_step m v (all_sound_step u m s (good_step u m g r) r) (good_step m v (good_step u m g r) q) q

  all_sound_run : (w : World A) (es : List (Record A)) → IsGood w → AllSound w → IsAnswered w es → AllSound (run w es)
  all_sound_run w [] g s l = s
  all_sound_run w (e ∷ es) g s l = all_sound_run (follows w e) es next.0 next.1 l.2
    where
      now : World A
      now = follows w (record { session = e.session; action = e.action; reply = reply_in w e.session e.action })

      step : Steps w now
      step = legal_steps w e.session e.action l.0

      next : IsGood (follows w e) × AllSound (follows w e)
      next = subst (λ r. IsGood (follows w (record { session = e.session; action = e.action; reply = r })) × AllSound (follows w (record { session = e.session; action = e.action; reply = r }))) (sym l.1)
          (good_steps w now g step, all_sound_steps w now g s step)

  take_nil : (n : ℕ) → take {A = Txn A} n [] ≡ []
  take_nil zero = refl
  take_nil (suc n) = refl

  all_sounds : (o : Opening A) (es : List (Record A)) → Legal o es → AllSound (world_of o es)
  unfolding Legal
  all_sounds o es l = all_sound_run (start o) es (good_start o proper) first l.1
    where
      proper : Rattle.history.proofs.Alone.Proper o.tables
      proper = sound_proper o.catalog o.tables l.0

      opened : Sound o.catalog o.tables
      opened = sound_from o.catalog o.tables proper.ordered l.0

      first : AllSound (start o)
      first = record { opening = opened; each = λ k e. subst (λ ts. Sound o.catalog (with_all ts o.tables)) (sym (take_nil (k - o.base.commits))) opened }

  pub always_sound : (o : Opening A) (es : List (Record A)) → Legal o es → (n : ℕ) → n ≤ commits (world_of o es) → is_sound (world_of o es).catalog (tables_at (world_of o es) n) ≡ true
  always_sound o es l n m = sound_to (world_of o es).catalog (tables_at (world_of o es) n) ((all_sounds o es l).each n m)

  -- A transaction's own tables are sound.
  pub own_sound : (o : Opening A) (es : List (Record A)) → Legal o es → (t : Txn A) → In t (world_of o es).txns → is_sound (world_of o es).catalog t.own ≡ true
  own_sound o es l t i = sound_to w.catalog t.own (alone_sound w.catalog t.statements B t.own (all_fit w.catalog t.statements B t.reads t.changes t.marks a.along)
      (subst (Alone w.catalog t.statements B) (sym a.own) (along_replies w.catalog t.statements B t.reads t.changes t.marks a.along)) ((all_sounds o es l).each t.snapshot (g.numbered.shown t i).1))
    where
      w : World A
      w = world_of o es

      g : IsGood w
      g = good_world o es l

      B : Tables A
      B = tables_at w t.snapshot

      a : IsFaithful w.catalog B t
      a = g.faithful.each t i
