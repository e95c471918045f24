-- Conflicts stay, whatever is done later: a transaction that goes on covers more, and writes more.
use Rattle.std.proofs.Common.{◌≡◌, refl, sym, ap, subst, ◌∙◌, ℕ, ◌+◌, ◌<◌, ◌≤◌, Bool, true, false, true≢false, cond, not, ◌&&◌, ◌||◌, ◌⊎◌, inl, inr, List, [], ◌∷◌, ◌++◌, length, Some, if◌then◌else◌, ◌==◌, eqb, nat_lt, arith}
use Rattle.std.proofs.lemmas.Bool.{and_from, and_parts, eq-eqb, eqb-true, lt-ltb, ltb-true, or_cases, or_left, or_right}
use Rattle.std.proofs.lemmas.Cmp.{tied_itself}
use Rattle.std.proofs.lemmas.List.{append-nil}
use Rattle.std.specs.Ordering.{is_ge, is_le}
use Rattle.std.specs.List.{list_any}
use Rattle.value.specs.declared.value.Value.{Value}
use Rattle.value.specs.Order.{value_cmp, value_cmp-total}
use Rattle.value.proofs.IsolationLemmas.{In}
use Rattle.value.proofs.SerialLemmas.{In-left}
use Rattle.value.proofs.Basics.{any-weaker}
use Rattle.schema.specs.declared.changes.Change.{Change}
use Rattle.schema.specs.Plain.{same}
use Rattle.schema.proofs.PlainLemmas.{same_value}
use Rattle.statement.specs.declared.outcome.Mark.{Mark}
use Rattle.statement.specs.declared.reading.Extent.{Extent}
use Rattle.statement.specs.declared.reading.Extent.TheVariants.{Whole, One, Range, Referencing}
use Rattle.statement.specs.declared.reading.Reading.{Reading}
use Rattle.statement.specs.Cover.{among, covers, covers_key, covers_reference, covers_value, covers_whole, distinct, extents_in, has_key, has_many_keys, has_many_ranges, has_many_references, has_reference, is_whole, keys_of, ranges_of, references_read, same_extent}
use Rattle.statement.specs.Laws.{HasSameReadings, same_reading}
use Rattle.statement.proofs.CoverSet.{covers_by_set, covers_value_by_set}
use Rattle.statement.specs.Evaluation.{outcome}
use Rattle.statement.specs.Footprint.{footprint}
use Rattle.history.specs.Transactions.{Aborted, Done, Doomed, Failed, Txn, World, Exported_snapshot, commits, edge, is_read_write, must_wait, reads_from}
use Rattle.history.specs.Events.{begun, doomed_by, ended, import, numbered, replaced, with_snapshot}
use Rattle.serial.proofs.legal.Faithful.{waits}
use Rattle.serial.proofs.legal.Legal.{Move, Stays, Fails, Aborts, Commits, Runs, Asks, Polls, Learns, Imports, Step, Nothing, Begins, Moves, Settles, Dooms, One, current_in}
use Rattle.serial.proofs.legal.Numbers.{IsNumbered, adds, no_commit, polled_keeps, replaced-In, replaced-new}
use Rattle.serial.proofs.order.SerialTheorem.{IsGood}
use Rattle.serial.proofs.structures.Dooms.{Fate, Over, Spared, doomed-In, fate}
use Rattle.retrace.specs.Told.{committing_now}

-- ---- any tests

pub any-append : {X : Type 0} (p : X → Bool) (xs ys : List X) → list_any p (xs ++ ys) ≡ (list_any p xs || list_any p ys)
any-append p [] ys = refl
any-append {X} p (x ∷ xs) ys = go (p x) (any-append p xs ys)
  where
    go : (b : Bool) → list_any p (xs ++ ys) ≡ (list_any p xs || list_any p ys) → (b || list_any p (xs ++ ys)) ≡ ((b || list_any p xs) || list_any p ys)
    go true e = refl
    go false e = e

-- behind others, the same tests pass
behind : {X : Type 0} (p : X → Bool) (xs ys : List X) → list_any p ys ≡ true → list_any p (xs ++ ys) ≡ true
behind p xs ys e = any-append p xs ys ∙ or_right (list_any p xs) (list_any p ys) e

or_turned : (a b : Bool) → (a || b) ≡ (b || a)
or_turned true true = refl
or_turned true false = refl
or_turned false true = refl
or_turned false false = refl

above_less : (n a b : ℕ) → a ≤ b → nat_lt n a ≡ true → nat_lt n b ≡ true
above_less n a b l e = lt-ltb n b (let m : n < a = ltb-true n a e in omega arith)

length-append : {X : Type 0} (xs ys : List X) → length ys ≤ length (xs ++ ys)
length-append [] ys = omega arith
length-append (x ∷ xs) ys = let l = length-append xs ys in omega arith

module _ {A : Type 0} where
  -- ---- what is covered stays so

  extents_in-append : (t : ℕ) (rs qs : List (Reading A)) → extents_in t (rs ++ qs) ≡ extents_in t rs ++ extents_in t qs
  extents_in-append t [] qs = refl
  extents_in-append t (r ∷ rs) qs = go (eqb r.table t) (extents_in-append t rs qs)
    where
      go : (b : Bool) → extents_in t (rs ++ qs) ≡ extents_in t rs ++ extents_in t qs → cond b (r.extent ∷ extents_in t (rs ++ qs)) (extents_in t (rs ++ qs)) ≡ cond b (r.extent ∷ extents_in t rs) (extents_in t rs) ++ extents_in t qs
      go true e = ap (λ es. r.extent ∷ es) e
      go false e = e

  distinct-behind : (es ds : List (Extent A)) → (front : List (Extent A)) × (distinct (es ++ ds) ≡ front ++ distinct ds)
  distinct-behind [] ds = ([], refl)
  distinct-behind (e ∷ es) ds = go (list_any (same_extent e) (es ++ ds)) (distinct-behind es ds)
    where
      go : (b : Bool) → (front : List (Extent A)) × (distinct (es ++ ds) ≡ front ++ distinct ds) → (front : List (Extent A)) × (cond b (distinct (es ++ ds)) (e ∷ distinct (es ++ ds)) ≡ front ++ distinct ds)
      go true r = r
      go false r = (e ∷ r.0, ap (λ xs. e ∷ xs) r.1)

  keys_of-append : (es ds : List (Extent A)) → keys_of (es ++ ds) ≡ keys_of es ++ keys_of ds
  keys_of-append [] ds = refl
  keys_of-append (One v ∷ es) ds = ap (λ vs. v ∷ vs) (keys_of-append es ds)
  keys_of-append (Whole ∷ es) ds = keys_of-append es ds
  keys_of-append (Range a b ∷ es) ds = keys_of-append es ds
  keys_of-append (Referencing j v ∷ es) ds = keys_of-append es ds

  ranges_of-append : (es ds : List (Extent A)) → ranges_of (es ++ ds) ≡ ranges_of es ++ ranges_of ds
  ranges_of-append [] ds = refl
  ranges_of-append (Range a b ∷ es) ds = ap (λ xs. Range a b ∷ xs) (ranges_of-append es ds)
  ranges_of-append (Whole ∷ es) ds = ranges_of-append es ds
  ranges_of-append (One v ∷ es) ds = ranges_of-append es ds
  ranges_of-append (Referencing j v ∷ es) ds = ranges_of-append es ds

  references_read-append : (es ds : List (Extent A)) → references_read (es ++ ds) ≡ references_read es ++ references_read ds
  references_read-append [] ds = refl
  references_read-append (Referencing j v ∷ es) ds = ap (λ xs. Referencing j v ∷ xs) (references_read-append es ds)
  references_read-append (Whole ∷ es) ds = references_read-append es ds
  references_read-append (One v ∷ es) ds = references_read-append es ds
  references_read-append (Range a b ∷ es) ds = references_read-append es ds

  many_keys : (vs ws : List (Value A)) → has_many_keys ws ≡ true → has_many_keys (vs ++ ws) ≡ true
  many_keys vs ws e = above_less 8 (length ws) (length (vs ++ ws)) (length-append vs ws) e

  among_more : (vs ws : List (Value A)) (k : Value A) → among ws k ≡ true → among (vs ++ ws) k ≡ true
  among_more vs ws k e = go (has_many_keys ws) refl (has_many_keys (vs ++ ws)) refl e
    where
      Ends : List (Value A) → Type 0
      Ends us = (list_any (λ v. is_le (value_cmp v k)) us && list_any (λ v. is_ge (value_cmp v k)) us) ≡ true

      more : Ends ws → Ends (vs ++ ws)
      more h = let p = and_parts (list_any (λ v. is_le (value_cmp v k)) ws) (list_any (λ v. is_ge (value_cmp v k)) ws) h in
          and_from (list_any (λ v. is_le (value_cmp v k)) (vs ++ ws)) (list_any (λ v. is_ge (value_cmp v k)) (vs ++ ws)) (behind (λ v. is_le (value_cmp v k)) vs ws p.0) (behind (λ v. is_ge (value_cmp v k)) vs ws p.1)

      tied_le : (v : Value A) → same v k ≡ true → is_le (value_cmp v k) ≡ true
      tied_le v h = ap (λ u. is_le (value_cmp u k)) (same_value v k h) ∙ ap is_le (tied_itself value_cmp-total k)

      tied_ge : (v : Value A) → same v k ≡ true → is_ge (value_cmp v k) ≡ true
      tied_ge v h = ap (λ u. is_ge (value_cmp u k)) (same_value v k h) ∙ ap is_ge (tied_itself value_cmp-total k)

      ends : list_any (λ v. same v k) (vs ++ ws) ≡ true → Ends (vs ++ ws)
      ends h = and_from (list_any (λ v. is_le (value_cmp v k)) (vs ++ ws)) (list_any (λ v. is_ge (value_cmp v k)) (vs ++ ws))
          (any-weaker (λ v. same v k) (λ v. is_le (value_cmp v k)) tied_le (vs ++ ws) h) (any-weaker (λ v. same v k) (λ v. is_ge (value_cmp v k)) tied_ge (vs ++ ws) h)

      Is : Bool → List (Value A) → Type 0
      Is c us = cond c (list_any (λ v. is_le (value_cmp v k)) us && list_any (λ v. is_ge (value_cmp v k)) us) (list_any (λ v. same v k) us) ≡ true

      go : (c : Bool) → has_many_keys ws ≡ c → (d : Bool) → has_many_keys (vs ++ ws) ≡ d → Is c ws → Is d (vs ++ ws)
      go true p true q h = more h
      go true p false q h = absurd (true≢false (sym (many_keys vs ws p) ∙ q))
      go false p true q h = ends (behind (λ v. same v k) vs ws h)
      go false p false q h = behind (λ v. same v k) vs ws h

  one_if_many : (vs ws : List (Value A)) → (if has_many_keys ws then 1 else 0) ≤ (if has_many_keys (vs ++ ws) then 1 else 0)
  one_if_many vs ws = go (has_many_keys ws) refl (has_many_keys (vs ++ ws)) refl
    where
      go : (c : Bool) → has_many_keys ws ≡ c → (d : Bool) → has_many_keys (vs ++ ws) ≡ d → cond c 1 0 ≤ cond d 1 0
      go true p true q = omega arith
      go true p false q = absurd (true≢false (sym (many_keys vs ws p) ∙ q))
      go false p true q = omega arith
      go false p false q = omega arith

  whole_more : (es ds : List (Extent A)) → covers_whole ds ≡ true → covers_whole (es ++ ds) ≡ true
  whole_more es ds e = go (or_cases (list_any is_whole ds || has_many_ranges ds) (has_many_references ds) e)
    where
      ranges : has_many_ranges ds ≡ true → has_many_ranges (es ++ ds) ≡ true
      ranges h = above_less 4 (length (ranges_of ds) + (if has_many_keys (keys_of ds) then 1 else 0)) (length (ranges_of (es ++ ds)) + (if has_many_keys (keys_of (es ++ ds)) then 1 else 0))
          (let a : length (ranges_of ds) ≤ length (ranges_of (es ++ ds)) = subst (λ xs. length (ranges_of ds) ≤ length xs) (sym (ranges_of-append es ds)) (length-append (ranges_of es) (ranges_of ds)) in
          let b : (if has_many_keys (keys_of ds) then 1 else 0) ≤ (if has_many_keys (keys_of (es ++ ds)) then 1 else 0) = subst (λ vs. (if has_many_keys (keys_of ds) then 1 else 0) ≤ (if has_many_keys vs then 1 else 0)) (sym (keys_of-append es ds)) (one_if_many (keys_of es) (keys_of ds)) in
          omega arith) h

      references : has_many_references ds ≡ true → has_many_references (es ++ ds) ≡ true
      references h = above_less 8 (length (references_read ds)) (length (references_read (es ++ ds))) (subst (λ xs. length (references_read ds) ≤ length xs) (sym (references_read-append es ds)) (length-append (references_read es) (references_read ds))) h

      inner : (list_any is_whole ds ≡ true) ⊎ (has_many_ranges ds ≡ true) → (list_any is_whole (es ++ ds) || has_many_ranges (es ++ ds)) ≡ true
      inner (inl h) = or_left (list_any is_whole (es ++ ds)) (has_many_ranges (es ++ ds)) (behind is_whole es ds h)
      inner (inr h) = or_right (list_any is_whole (es ++ ds)) (has_many_ranges (es ++ ds)) (ranges h)

      go : ((list_any is_whole ds || has_many_ranges ds) ≡ true) ⊎ (has_many_references ds ≡ true) → covers_whole (es ++ ds) ≡ true
      go (inl h) = or_left (list_any is_whole (es ++ ds) || has_many_ranges (es ++ ds)) (has_many_references (es ++ ds)) (inner (or_cases (list_any is_whole ds) (has_many_ranges ds) h))
      go (inr h) = or_right (list_any is_whole (es ++ ds) || has_many_ranges (es ++ ds)) (has_many_references (es ++ ds)) (references h)

  key_more : (es ds : List (Extent A)) (k : Value A) → covers_key ds k ≡ true → covers_key (es ++ ds) k ≡ true
  key_more es ds k e = go (or_cases (covers_whole ds || list_any (has_key k) (ranges_of ds)) (among (keys_of ds) k) e)
    where
      inner : (covers_whole ds ≡ true) ⊎ (list_any (has_key k) (ranges_of ds) ≡ true) → (covers_whole (es ++ ds) || list_any (has_key k) (ranges_of (es ++ ds))) ≡ true
      inner (inl h) = or_left (covers_whole (es ++ ds)) (list_any (has_key k) (ranges_of (es ++ ds))) (whole_more es ds h)
      inner (inr h) = or_right (covers_whole (es ++ ds)) (list_any (has_key k) (ranges_of (es ++ ds))) (ap (list_any (has_key k)) (ranges_of-append es ds) ∙ behind (has_key k) (ranges_of es) (ranges_of ds) h)

      go : ((covers_whole ds || list_any (has_key k) (ranges_of ds)) ≡ true) ⊎ (among (keys_of ds) k ≡ true) → covers_key (es ++ ds) k ≡ true
      go (inl h) = or_left (covers_whole (es ++ ds) || list_any (has_key k) (ranges_of (es ++ ds))) (among (keys_of (es ++ ds)) k) (inner (or_cases (covers_whole ds) (list_any (has_key k) (ranges_of ds)) h))
      go (inr h) = or_right (covers_whole (es ++ ds) || list_any (has_key k) (ranges_of (es ++ ds))) (among (keys_of (es ++ ds)) k) (ap (λ vs. among vs k) (keys_of-append es ds) ∙ among_more (keys_of es) (keys_of ds) k h)

  reference_more : (es ds : List (Extent A)) (j : ℕ) (k : Value A) → covers_reference ds j k ≡ true → covers_reference (es ++ ds) j k ≡ true
  reference_more es ds j k e = go (or_cases (covers_whole ds) (list_any (has_reference j k) ds) e)
    where
      go : (covers_whole ds ≡ true) ⊎ (list_any (has_reference j k) ds ≡ true) → covers_reference (es ++ ds) j k ≡ true
      go (inl h) = or_left (covers_whole (es ++ ds)) (list_any (has_reference j k) (es ++ ds)) (whole_more es ds h)
      go (inr h) = or_right (covers_whole (es ++ ds)) (list_any (has_reference j k) (es ++ ds)) (behind (has_reference j k) es ds h)

  turned_round : (rs more : List (Reading A)) → HasSameReadings (rs ++ more) (more ++ rs)
  turned_round rs more r = any-append (same_reading r) rs more ∙ or_turned (list_any (same_reading r) rs) (list_any (same_reading r) more) ∙ sym (any-append (same_reading r) more rs)

  covers_more : (rs more : List (Reading A)) (t : ℕ) (k : Value A) → covers rs t k ≡ true → covers (rs ++ more) t k ≡ true
  covers_more rs more t k e =
      let d = distinct-behind (extents_in t more) (extents_in t rs) in
      covers_by_set (rs ++ more) (more ++ rs) (turned_round rs more) t k
      ∙ ap (λ es. covers_key es k) (ap distinct (extents_in-append t more rs) ∙ d.1)
      ∙ key_more d.0 (distinct (extents_in t rs)) k e

  covers_value_more : (rs more : List (Reading A)) (t j : ℕ) (k : Value A) → covers_value rs t j k ≡ true → covers_value (rs ++ more) t j k ≡ true
  covers_value_more rs more t j k e =
      let d = distinct-behind (extents_in t more) (extents_in t rs) in
      covers_value_by_set (rs ++ more) (more ++ rs) (turned_round rs more) t j k
      ∙ ap (λ es. covers_reference es j k) (ap distinct (extents_in-append t more rs) ∙ d.1)
      ∙ reference_more d.0 (distinct (extents_in t rs)) j k e

  -- ---- conflicts stay

  -- What has become of a transaction: it has its number, and of all else it has more.
  pub record Grew (w : World A) (x y : Txn A) : Type 0 where
    pub number : y.number ≡ x.number
    pub snapshot : (y.snapshot ≡ x.snapshot) ⊎ (x.reads ≡ [])
    pub commit : (y.commit ≡ x.commit) ⊎ (x.commit ≡ 0) × (y.commit ≡ commits w + 1)
    pub reads : (more : List (Reading A)) × (y.reads ≡ x.reads ++ more)
    pub changes : (more : List (Change A)) × (y.changes ≡ x.changes ++ more)
    pub marks : (more : List (Mark A)) × (y.marks ≡ x.marks ++ more)

  -- the number of its commit, where it counts as committing now
  abbrev pub commit_now : World A → Txn A → ℕ
  commit_now w u = if u.commit == 0 then commits w + 1 else u.commit

  pub edge-now : (w : World A) (t u : Txn A) → edge t (committing_now w u) ≡ (not (eqb t.number u.number) && nat_lt t.snapshot (commit_now w u) && reads_from t u)
  edge-now w t u = go (eqb u.commit 0)
    where
      go : (b : Bool) → edge t (cond b (record u { commit = commits w + 1 }) u) ≡ (not (eqb t.number u.number) && nat_lt t.snapshot (cond b (commits w + 1) u.commit) && reads_from t u)
      go true = refl
      go false = refl

  unread : (t u : Txn A) → t.reads ≡ [] → reads_from t u ≡ false
  unread t u e = ap (λ rs. list_any (λ (x : Change A). covers rs x.table x.key) u.changes || list_any (λ (m : Mark A). covers_value rs m.table m.column m.key) u.marks) e
      ∙ ap (λ b. b || list_any (λ (m : Mark A). covers_value [] m.table m.column m.key) u.marks) (keys u.changes) ∙ marks u.marks
    where
      keys : (xs : List (Change A)) → list_any (λ (x : Change A). covers [] x.table x.key) xs ≡ false
      keys [] = refl
      keys (x ∷ xs) = keys xs

      marks : (ms : List (Mark A)) → list_any (λ (m : Mark A). covers_value [] m.table m.column m.key) ms ≡ false
      marks [] = refl
      marks (m ∷ ms) = marks ms

  module _ (w v : World A) (far : commits w ≤ commits v) (a a' b b' : Txn A) (ga : Grew w a a') (gb : Grew w b b') where
    commit-grew : commit_now w b ≤ commit_now v b'
    commit-grew = go (eqb b.commit 0) refl (eqb b'.commit 0) refl gb.commit
      where
        go : (c : Bool) → eqb b.commit 0 ≡ c → (d : Bool) → eqb b'.commit 0 ≡ d → (b'.commit ≡ b.commit) ⊎ (b.commit ≡ 0) × (b'.commit ≡ commits w + 1) → cond c (commits w + 1) b.commit ≤ cond d (commits v + 1) b'.commit
        go true p true q h = omega arith
        go true p false q (inl e) = absurd (true≢false (sym (ap (λ n. eqb n 0) e ∙ p) ∙ q))
        go true p false q (inr h) = omega (arith, h.1)
        go false p true q (inl e) = absurd (true≢false (sym (ap (λ n. eqb n 0) (sym e) ∙ q) ∙ p))
        go false p true q (inr h) = absurd (true≢false (sym (eq-eqb b.commit 0 h.0) ∙ p))
        go false p false q (inl e) = omega (arith, e)
        go false p false q (inr h) = absurd (true≢false (sym (eq-eqb b.commit 0 h.0) ∙ p))

    reads-grew : reads_from a b ≡ true → reads_from a' b' ≡ true
    reads-grew e = go (or_cases (list_any (λ (x : Change A). covers a.reads x.table x.key) b.changes) (list_any (λ (m : Mark A). covers_value a.reads m.table m.column m.key) b.marks) e)
      where
        key : (x : Change A) → covers a.reads x.table x.key ≡ true → covers a'.reads x.table x.key ≡ true
        key x h = ap (λ rs. covers rs x.table x.key) ga.reads.1 ∙ covers_more a.reads ga.reads.0 x.table x.key h

        mark : (m : Mark A) → covers_value a.reads m.table m.column m.key ≡ true → covers_value a'.reads m.table m.column m.key ≡ true
        mark m h = ap (λ rs. covers_value rs m.table m.column m.key) ga.reads.1 ∙ covers_value_more a.reads ga.reads.0 m.table m.column m.key h

        go : (list_any (λ (x : Change A). covers a.reads x.table x.key) b.changes ≡ true) ⊎ (list_any (λ (m : Mark A). covers_value a.reads m.table m.column m.key) b.marks ≡ true) → reads_from a' b' ≡ true
        go (inl h) = or_left (list_any (λ (x : Change A). covers a'.reads x.table x.key) b'.changes) (list_any (λ (m : Mark A). covers_value a'.reads m.table m.column m.key) b'.marks)
            (ap (list_any (λ (x : Change A). covers a'.reads x.table x.key)) gb.changes.1 ∙ any-append (λ (x : Change A). covers a'.reads x.table x.key) b.changes gb.changes.0
            ∙ or_left (list_any (λ (x : Change A). covers a'.reads x.table x.key) b.changes) (list_any (λ (x : Change A). covers a'.reads x.table x.key) gb.changes.0)
            (any-weaker (λ (x : Change A). covers a.reads x.table x.key) (λ (x : Change A). covers a'.reads x.table x.key) key b.changes h))
        go (inr h) = or_right (list_any (λ (x : Change A). covers a'.reads x.table x.key) b'.changes) (list_any (λ (m : Mark A). covers_value a'.reads m.table m.column m.key) b'.marks)
            (ap (list_any (λ (m : Mark A). covers_value a'.reads m.table m.column m.key)) gb.marks.1 ∙ any-append (λ (m : Mark A). covers_value a'.reads m.table m.column m.key) b.marks gb.marks.0
            ∙ or_left (list_any (λ (m : Mark A). covers_value a'.reads m.table m.column m.key) b.marks) (list_any (λ (m : Mark A). covers_value a'.reads m.table m.column m.key) gb.marks.0)
            (any-weaker (λ (m : Mark A). covers_value a.reads m.table m.column m.key) (λ (m : Mark A). covers_value a'.reads m.table m.column m.key) mark b.marks h))

    pub edge-grew : edge a (committing_now w b) ≡ true → edge a' (committing_now v b') ≡ true
    edge-grew e =
        let p = and_parts (not (eqb a.number b.number) && nat_lt a.snapshot (commit_now w b)) (reads_from a b) (sym (edge-now w a b) ∙ e) in
        let q = and_parts (not (eqb a.number b.number)) (nat_lt a.snapshot (commit_now w b)) p.0 in
        edge-now v a' b'
        ∙ and_from (not (eqb a'.number b'.number) && nat_lt a'.snapshot (commit_now v b')) (reads_from a' b')
        (and_from (not (eqb a'.number b'.number)) (nat_lt a'.snapshot (commit_now v b')) (ap (λ n. not (eqb n b'.number)) ga.number ∙ ap (λ n. not (eqb a.number n)) gb.number ∙ q.0) (seen q.1 p.1 ga.snapshot))
        (reads-grew p.1)
      where
        seen : nat_lt a.snapshot (commit_now w b) ≡ true → reads_from a b ≡ true → (a'.snapshot ≡ a.snapshot) ⊎ (a.reads ≡ []) → nat_lt a'.snapshot (commit_now v b') ≡ true
        seen l r (inl h) = ap (λ n. nat_lt n (commit_now v b')) h ∙ above_less a.snapshot (commit_now w b) (commit_now v b') commit-grew l
        seen l r (inr h) = absurd (true≢false (sym r ∙ unread a b h))

  -- ---- one event

  grew-itself : (w : World A) (x : Txn A) → Grew w x x
  grew-itself w x = record { number = refl; snapshot = inl refl; commit = inl refl; reads = ([], sym (append-nil x.reads)); changes = ([], sym (append-nil x.changes)); marks = ([], sym (append-nil x.marks)) }

  -- it differs in none of this
  grew-alike : (w : World A) (x y : Txn A) → y.number ≡ x.number → (y.snapshot ≡ x.snapshot) ⊎ (x.reads ≡ []) → (y.commit ≡ x.commit) ⊎ (x.commit ≡ 0) × (y.commit ≡ commits w + 1) → y.reads ≡ x.reads → y.changes ≡ x.changes → y.marks ≡ x.marks → Grew w x y
  grew-alike w x y n s c r h m = record { number = n; snapshot = s; commit = c; reads = ([], r ∙ sym (append-nil x.reads)); changes = ([], h ∙ sym (append-nil x.changes)); marks = ([], m ∙ sym (append-nil x.marks)) }

  grew-move : (w : World A) (t x : Txn A) (log : List (Txn A)) (exports : List Exported_snapshot) → ((must_wait t ≡ true) ⊎ (t.asked ≡ false) → t.reads ≡ []) → t.commit ≡ 0 → Move w t x log exports → Grew w t x
  grew-move w t x log exports fresh z Stays = grew-itself w t
  grew-move w t x log exports fresh z Fails = grew-alike w t (ended w Failed t) refl (inl refl) (inl refl) refl refl refl
  grew-move w t x log exports fresh z Aborts = grew-alike w t (ended w Aborted t) refl (inl refl) (inl refl) refl refl refl
  grew-move w t x log exports fresh z (Commits e) = go (is_read_write t.mode)
    where
      go : (b : Bool) → Grew w t (cond b (record (ended w Done t) { commit = commits w + 1 }) (ended w Done t))
      go true = grew-alike w t (record (ended w Done t) { commit = commits w + 1 }) refl (inl refl) (inr (z, refl)) refl refl refl
      go false = grew-alike w t (ended w Done t) refl (inl refl) (inl refl) refl refl refl
  grew-move w t x log exports fresh z (Runs q fits a b d) = record { number = refl; snapshot = inl refl; commit = inl refl; reads = (footprint w.catalog q, refl); changes = ((outcome w.catalog q t.own).changes, refl); marks = ((outcome w.catalog q t.own).marks, refl) }
  grew-move w t x log exports fresh z (Asks a) = grew-alike w t (record t { asked = true }) refl (inl refl) (inl refl) refl refl refl
  grew-move w t x log exports fresh z (Polls d k) = polled_keeps (λ y. Grew w t y) w t (grew-itself w t) (grew-alike w t (with_snapshot w (commits w) (w.place + 1) t) refl (inr (fresh (inl (waits t d k)))) (inl refl) refl refl refl)
  grew-move w t x log exports fresh z (Learns d k n) = polled_keeps (λ y. Grew w t (record y { known = true })) w t
      (grew-alike w t (record t { known = true }) refl (inl refl) (inl refl) refl refl refl) (grew-alike w t (record (with_snapshot w (commits w) (w.place + 1) t) { known = true }) refl (inr (fresh (inl (waits t d k)))) (inl refl) refl refl refl)
  grew-move w t x log exports fresh z (Imports i y r k e) = grew-alike w t (import (Some y) w t) refl (inr (fresh (inr k))) (inl refl) refl refl refl

  -- Each transaction of a world has become one of another's.
  pub record AllGrew (w v : World A) : Type 0 where
    pub far : commits w ≤ commits v
    pub each : (x : Txn A) → In x w.txns → (y : Txn A) × In y v.txns × Grew w x y

  replaced-grew : (w : World A) (t x : Txn A) → IsNumbered w → In t w.txns → x.number ≡ t.number → Grew w t x → (u : Txn A) → In u w.txns → (y : Txn A) × In y (replaced x w.txns) × Grew w u y
  replaced-grew w t x n i e g u j = go (eqb u.number x.number) refl
    where
      go : (b : Bool) → eqb u.number x.number ≡ b → (y : Txn A) × In y (replaced x w.txns) × Grew w u y
      go true p = (x, replaced-new t x w.txns i (sym e), subst (λ z. Grew w z x) (sym (n.unique u t j i (eqb-true u.number x.number p ∙ e))) g)
      go false p = (u, replaced-In u x w.txns j p, grew-itself w u)

  move-far : (w : World A) (t x : Txn A) (log : List (Txn A)) (exports : List Exported_snapshot) → Move w t x log exports → length w.log ≤ length log
  move-far w t x log exports Stays = omega arith
  move-far w t x log exports Fails = omega arith
  move-far w t x log exports Aborts = omega arith
  move-far w t x log exports (Commits e) = go (is_read_write t.mode)
    where
      longer : (xs : List (Txn A)) (y : Txn A) → length xs ≤ length (xs ++ y ∷ [])
      longer [] y = omega arith
      longer (z ∷ xs) y = let l = longer xs y in omega arith

      go : (b : Bool) → length w.log ≤ length (cond b (w.log ++ numbered w t ∷ []) w.log)
      go true = longer w.log (numbered w t)
      go false = omega arith
  move-far w t x log exports (Runs q fits a b d) = omega arith
  move-far w t x log exports (Asks a) = omega arith
  move-far w t x log exports (Polls d k) = omega arith
  move-far w t x log exports (Learns d k n) = omega arith
  move-far w t x log exports (Imports i y r k e) = omega arith

  pub grew-step : (w v : World A) → IsGood w → Step w v → AllGrew w v
  grew-step w v g Nothing = record { far = omega arith; each = λ x i. (x, i, grew-itself w x) }
  grew-step w v g (Begins s m) = record { far = omega arith; each = λ x i. (x, In-left (λ (_ : Txn A). (0, 0, 0)) x w.txns (begun w s m ∷ []) i, grew-itself w x) }
  grew-step w v g (Moves s t x log exports c o move) =
      let i = (current_in w s t c).0 in
      let z : t.commit ≡ 0 = no_commit w g.numbered t i o in
      record {
        far = (let l = move-far w t x log exports move in omega arith);
        each = replaced-grew w t x g.numbered i (adds w t x log exports g.numbered o z (g.numbered.shown t i) move).number (grew-move w t x log exports (λ f. ((g.faithful.each t i).fresh f).1) z move);
      }
  grew-step w v g (Settles s t st c o d o' d') = record { far = omega arith; each = replaced-grew w t (record t { standing = st }) g.numbered (current_in w s t c).0 refl (grew-alike w t (record t { standing = st }) refl (inl refl) (inl refl) refl refl refl) }
  grew-step w v g (Dooms cs) = record { far = omega arith; each = λ x i. (doomed_by w.place cs x, doomed-In w.place cs x w.txns i, go x (doomed_by w.place cs x) (fate w.place cs x)) }
    where
      go : (x y : Txn A) → Fate w.place x y → Grew w x y
      go x y Spared = grew-itself w x
      go x y (Over k o) = grew-alike w x (record x { standing = Doomed k; end = w.place }) refl (inl refl) (inl refl) refl refl refl
