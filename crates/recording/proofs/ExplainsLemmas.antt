-- Each order that is serial for a legal history explains whatever is recorded of what it committed.
use Rattle.std.proofs.Common.{◌≡◌, refl, sym, ap, subst, ◌∙◌, ℕ, zero, suc, ◌<◌, ◌≤◌, Bool, true, false, true≢false, not, ◌&&◌, ◌⊎◌, inl, inr, List, [], ◌∷◌, map, nat_lt, slice_get, Option, Some, None, IfSome, is_some, arith}
use Rattle.std.proofs.Math.Bool.{and-false}
use Rattle.std.proofs.lemmas.Bool.{ltb-false, le-ltb}
use Rattle.std.proofs.lemmas.List.Sorted.{IsPermutation-refl, IsPermutation-sym, IsPermutation-trans}
use Rattle.std.specs.List.{AllByRecursion}
use Rattle.std.specs.List.Sorted.{IsPermutation}
use Rattle.value.proofs.IsolationLemmas.{In}
use Rattle.schema.specs.Definition.{Catalog}
use Rattle.schema.specs.declared.changes.Change.{Change}
use Rattle.schema.specs.declared.tables.Tables.{Tables}
use Rattle.statement.specs.declared.outcome.Mark.{Mark}
use Rattle.statement.specs.declared.reading.Reading.{Reading}
use Rattle.statement.specs.declared.reply.Reply.{Reply}
use Rattle.statement.specs.declared.statement.Statement.{Statement}
use Rattle.statement.specs.Evaluation.{after}
use Rattle.history.specs.Answer.{Legal}
use Rattle.history.specs.Events.{start, world_of}
use Rattle.history.specs.Opening.{Opening}
use Rattle.history.specs.Serial.{IsSerial, committed, serial_order}
use Rattle.history.specs.Serial as history
use Rattle.history.specs.Transactions.{Txn, World, is_done, tables_at}
use Rattle.history.specs.declared.event.Record.{Record}
use Rattle.history.proofs.Alone.{Along, In-filter}
use Rattle.orders.specs.Explains.{Explains, InTime, InTurn, MayFollow, Trace, Unexplained, all_fit, alone, are_fit, ended_before, precedes}
use Rattle.serial.proofs.order.SerialTheorem.{IsGood, good_world, legal_serial}
use Rattle.recording.proofs.AnswersLemmas.{alone_agrees}
use Rattle.recording.proofs.PlacesLemmas.{In-permuted, In-standing, Placed, heads, placed, stand_without_gaps, standing, standing_all}
use Rattle.recording.proofs.RecordedLemmas.{AllAnswered, run_answered}
use Rattle.recording.specs.Traces.{AreToldOf, IsExplainedBy, IsRecording, IsToldBy, IsToldOf, trace_of, traces}

module _ {A : Type 0} where
  -- ---- what is recorded, place by place

  -- what is recorded of the transaction at a place
  told_at : (c : Catalog) (clock : ℕ → ℕ) (os : List (Option (Txn A))) (rs : List (Trace A)) → AreToldOf c clock os rs → (i : ℕ) (t : Txn A) → slice_get os i ≡ Some (Some t)
      → (r : Trace A) × (slice_get rs i ≡ Some r) × IsToldBy clock t r
  told_at c clock [] rs a i t e = cc
  told_at c clock (o ∷ os) [] a i t e = absurd a
  told_at c clock (o ∷ os) (r ∷ rs) a zero t e = let same : o ≡ Some t = cc in (r, refl, subst (λ x. IsToldOf c clock x r) same a.0)
  told_at c clock (o ∷ os) (r ∷ rs) a (suc i) t e = told_at c clock os rs a.1 i t e

  -- what is recorded with an end is of a committed transaction
  ended_at : (c : Catalog) (clock : ℕ → ℕ) (os : List (Option (Txn A))) (rs : List (Trace A)) → AreToldOf c clock os rs → (i : ℕ) (r : Trace A) → slice_get rs i ≡ Some r → is_some r.end ≡ true
      → (t : Txn A) × (slice_get os i ≡ Some (Some t))
  ended_at c clock [] [] a i r e known = cc
  ended_at c clock [] (x ∷ rs) a i r e known = absurd a
  ended_at c clock (o ∷ os) [] a i r e known = absurd a
  ended_at c clock (Some t ∷ os) (x ∷ rs) a zero r e known = (t, refl)
  ended_at c clock (None ∷ os) (x ∷ rs) a zero r e known =
      let same : x ≡ r = cc in
      let none : r.end ≡ None = subst (λ (y : Trace A). y.end ≡ None) same a.0.0 in
      absurd (true≢false (sym known ∙ ap is_some none))
  ended_at c clock (o ∷ os) (x ∷ rs) a (suc i) r e known = ended_at c clock os rs a.1 i r e known

  pub are_told : (c : Catalog) (ts : List (Txn A)) → AreToldOf c (λ n. n) (map Some ts) (map trace_of ts)
  are_told c [] = tt
  are_told c (t ∷ ts) = (record { begin = omega arith; end = omega arith; imported = λ e. e; statements = refl }, are_told c ts)

  -- ---- time

  -- A transaction that had not ended before another began, or that this may follow by its import, isn't recorded as if it had.
  told_late : (clock : ℕ → ℕ) → ((m n : ℕ) → m ≤ n → clock m ≤ clock n) → (t u : Txn A) (b a : Trace A) → IsToldBy clock t b → IsToldBy clock u a → (t.begin ≤ u.end) ⊎ (t.imported ≡ true) → precedes a b ≡ false
  told_late clock steady t u b a tb ua (inr m) = ap (λ x. ended_before a.end b.begin && not x) (tb.imported m) ∙ and-false (ended_before a.end b.begin)
  told_late clock steady t u b a tb ua (inl l) = go a.end refl ua.end
    where
      go : (o : Option ℕ) → a.end ≡ o → IfSome o (λ e. clock u.end ≤ e) → precedes a b ≡ false
      go None e h = ap (λ o. ended_before o b.begin && not b.imported) e
      go (Some n) e h =
          let before : clock t.begin ≤ clock u.end = steady t.begin u.end l in
          let sent : b.begin ≤ clock t.begin = tb.begin in
          ap (λ o. ended_before o b.begin && not b.imported) e ∙ ap (λ x. x && not b.imported) (le-ltb n b.begin (omega (arith, before, sent, h)))

  late : (t u : Txn A) → (history.precedes u t ≡ true → ⊥) → (t.begin ≤ u.end) ⊎ (t.imported ≡ true)
  late t u n = go (nat_lt u.end t.begin) t.imported refl refl n
    where
      go : (b m : Bool) → nat_lt u.end t.begin ≡ b → t.imported ≡ m → ((b && not m) ≡ true → ⊥) → (t.begin ≤ u.end) ⊎ (t.imported ≡ true)
      go false m e f h = inl (ltb-false u.end t.begin e)
      go true true e f h = inr f
      go true false e f h = absurd (h refl)

  -- ---- what explains a recording

  module _ (w : World A) (good : IsGood w) (answered : AllAnswered w) (rs : List (Trace A)) (told : IsRecording w rs) where
    abbrev At : ℕ → Txn A → Type 0
    At i t = slice_get told.told i ≡ Some (Some t)

    member : (i : ℕ) (t : Txn A) → At i t → In t w.txns × (is_done t.standing ≡ true)
    member i t e = In-filter (λ u. is_done u.standing) w.txns t (In-permuted (committed w) (standing told.told) t told.each_once (In-standing told.told i t e))

    turns : (places : List ℕ) (order : List (Txn A)) (X : Tables A) → map (slice_get told.told) places ≡ map Some (map Some order) → history.InTurn w.catalog order X → InTurn w.catalog rs places X
    turns [] order X e h = tt
    turns (i ∷ places) [] X e h = cc
    turns (i ∷ places) (t ∷ order) X e h =
        let at = heads (slice_get told.told i) (map (slice_get told.told) places) (Some t) (map Some order) e in
        let r = told_at w.catalog told.clock told.told rs told.each i t at.0 in
        let ends : alone w.catalog t.statements X ≡ Some h.0 = alone_agrees w.catalog t.statements X h.0 (answered t (member i t at.0).0) h.1 in
        (r.0, h.0, r.1, ap (λ qs. alone w.catalog qs X) r.2.statements ∙ ends, turns places order h.0 at.1 h.2)

    may_follow : (i j : ℕ) (t u : Txn A) → At i t → At j u → (t.begin ≤ u.end) ⊎ (t.imported ≡ true) → MayFollow rs i j
    may_follow i j t u ti uj l a b aj bi =
        let x = told_at w.catalog told.clock told.told rs told.each j u uj in
        let y = told_at w.catalog told.clock told.told rs told.each i t ti in
        let first : a ≡ x.0 = same a x.0 (sym aj ∙ x.1) in
        let second : b ≡ y.0 = same b y.0 (sym bi ∙ y.1) in
        ap (λ z. precedes z b) first ∙ ap (precedes x.0) second ∙ told_late told.clock told.steady t u y.0 x.0 y.2 x.2 l
      where
        same : (p q : Trace A) → Some p ≡ Some q → p ≡ q
        same p q e = cc

    itself : (i : ℕ) (t : Txn A) → At i t → MayFollow rs i i
    itself i t e =
        let m = member i t e in
        let l : t.begin < t.end = good.time.later t m.0 m.1 in
        may_follow i i t t e e (inl (omega (arith, l)))

    follow : (i : ℕ) (t : Txn A) → At i t → (places : List ℕ) (later : List (Txn A)) → map (slice_get told.told) places ≡ map Some (map Some later)
        → AllByRecursion (λ a. history.precedes a t ≡ true → ⊥) later → AllByRecursion (λ j. MayFollow rs i j) places
    follow i t ti [] later e h = tt
    follow i t ti (j ∷ places) [] e h = cc
    follow i t ti (j ∷ places) (u ∷ later) e h =
        let at = heads (slice_get told.told j) (map (slice_get told.told) places) (Some u) (map Some later) e in
        (may_follow i j t u ti at.0 (late t u h.0), follow i t ti places later at.1 h.1)

    times : (places : List ℕ) (order : List (Txn A)) → map (slice_get told.told) places ≡ map Some (map Some order) → history.InTime order → InTime rs places
    times [] order e h = tt
    times (i ∷ places) [] e h = cc
    times (i ∷ places) (t ∷ order) e h =
        let at = heads (slice_get told.told i) (map (slice_get told.told) places) (Some t) (map Some order) e in
        ((itself i t at.0, follow i t at.0 places order at.1 h.0), times places order at.1 h.1)

    explains : (order : List (Txn A)) → IsSerial w order → (p : Placed told.told order) → Explains w.catalog w.opening rs p.places
    explains order h p = record {
      apart = p.are_apart;
      complete = λ i r e known. let t = ended_at w.catalog told.clock told.told rs told.each i r e known in p.each i t.0 t.1;
      in_turn = turns p.places order w.opening p.stand h.in_turn;
      in_time = times p.places order p.stand h.in_time;
    }

    in_places : (order : List (Txn A)) → IsSerial w order → Placed told.told order
    in_places order h = placed told.told order (IsPermutation-trans (standing told.told) (committed w) order (IsPermutation-sym (committed w) (standing told.told) told.each_once) h.each_once)

  -- ---- statements that fit

  along_fits : (c : Catalog) (qs : List (Statement A × Reply A)) (B : Tables A) (rs : List (Reading A)) (xs : List (Change A)) (ms : List (Mark A)) → Along c qs B rs xs ms → are_fit c qs ≡ true
  along_fits c [] B rs xs ms a = refl
  along_fits c (q ∷ qs) B rs xs ms a = ap (λ b. b && are_fit c qs) a.3 ∙ along_fits c qs (after c q.0 B) a.0 a.1 a.2 a.8

  told_fit : (c : Catalog) (clock : ℕ → ℕ) (os : List (Option (Txn A))) (rs : List (Trace A)) → AreToldOf c clock os rs → ((t : Txn A) → In t (standing os) → are_fit c t.statements ≡ true) → all_fit c rs ≡ true
  told_fit c clock [] [] a h = refl
  told_fit c clock [] (r ∷ rs) a h = absurd a
  told_fit c clock (o ∷ os) [] a h = absurd a
  told_fit c clock (None ∷ os) (r ∷ rs) a h = ap (λ b. b && all_fit c rs) a.0.1 ∙ told_fit c clock os rs a.1 h
  told_fit c clock (Some t ∷ os) (r ∷ rs) a h = ap (λ b. b && all_fit c rs) (ap (are_fit c) a.0.statements ∙ h t (inl refl)) ∙ told_fit c clock os rs a.1 (λ u i. h u (inr i))

  -- ---- of legal histories

  abbrev pub is_recording : (w : World A) → IsRecording w (traces w)
  is_recording w = record {
    clock = λ n. n;
    steady = λ m n l. l;
    told = map Some (committed w);
    each_once = subst (IsPermutation (committed w)) (sym (standing_all (committed w))) (IsPermutation-refl (committed w));
    each = are_told w.catalog (committed w);
  }

  module _ (o : Opening A) (es : List (Record A)) (l : Legal o es) where
    answered_after : AllAnswered (world_of o es)
    answered_after = run_answered (start o) es (λ t i. absurd i)

    pub serial_explains : (order : List (Txn A)) → IsSerial (world_of o es) order → IsExplainedBy (world_of o es) order
    serial_explains order h =
        let w = world_of o es in
        let p = in_places w (good_world o es l) answered_after (traces w) (is_recording w) order h in
        record { places = p.places; stand = stand_without_gaps (committed w) p.places order p.stand; explains = explains w (good_world o es l) answered_after (traces w) (is_recording w) order h p }

    pub never_no : (rs : List (Trace A)) → IsRecording (world_of o es) rs → Unexplained (world_of o es).catalog (world_of o es).opening rs → ⊥
    never_no rs told none =
        let w = world_of o es in
        let h = legal_serial o es l in
        let p = in_places w (good_world o es l) answered_after rs told (serial_order w) h in
        none p.places (explains w (good_world o es l) answered_after rs told (serial_order w) h p)

    pub all_fitting : (rs : List (Trace A)) → IsRecording (world_of o es) rs → all_fit (world_of o es).catalog rs ≡ true
    all_fitting rs told =
        let w = world_of o es in
        told_fit w.catalog told.clock told.told rs told.each (λ t i.
        let m = In-filter (λ u. is_done u.standing) w.txns t (In-permuted (committed w) (standing told.told) t told.each_once i) in
        along_fits w.catalog t.statements (tables_at w t.snapshot) t.reads t.changes t.marks ((good_world o es l).faithful.each t m.0).along)
