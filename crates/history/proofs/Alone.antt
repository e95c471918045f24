-- A transaction that meets on its reads the rows that it met, run alone, gets its replies.
use Rattle.std.proofs.Common.{◌≡◌, refl, sym, ap, subst, ◌∙◌, ℕ, suc, ◌-◌, ◌<◌, ◌≤◌, Bool, true, false, true≢false, ◌≢◌, cond, not, ◌&&◌, ◌||◌, ◌⊎◌, inl, inr, List, [], ◌∷◌, ◌++◌, length, take, Option, Some, None, is_some, unwrap_or, if◌then◌else◌, eqb, nat_le, arith}
use Rattle.std.specs.List.{list_any, filter, AllByRecursion}
use Rattle.std.specs.FinMap.{find}
use Rattle.std.specs.FinMap.Entries.{same_entries}
use Rattle.value.specs.Order.{value_cmp, value_cmp-total}
use Rattle.schema.specs.declared.row.Row.{Row}
use Rattle.value.specs.declared.value.Value.{Value}
use Rattle.value.proofs.IsolationLemmas.{In, Below, IsIsolated}
use Rattle.value.proofs.SortLemmas.{InOrder, Apart, Below-asym, In-sorted, sorted-In, sorted-InOrder, sorted-permutes}
use Rattle.value.proofs.LastWriter.{after_all}
use Rattle.value.proofs.MarkedWriters.{marked_left, IsMarked, same_showing}
use Rattle.value.proofs.SerialLemmas.{IsRead, IsWritten, NumberedFrom, same_row, same_prefix, beginning, In-right, In-left, In-take, InOrder-front}
use Rattle.value.proofs.Basics.{append_cons, any-neither, any-cases, and_from_three, any-back, any-front}
use Rattle.schema.specs.declared.changes.Change.{Change}
use Rattle.schema.specs.Definition.{Catalog}
use Rattle.schema.specs.declared.tables.Tables.{Tables}
use Rattle.std.proofs.lemmas.Bool.{eqb-true, lt-ltb, or_right, or_left, and_parts}
use Rattle.schema.specs.Plain.{row_at, rows_of, put_all, same, is_null}
use Rattle.std.proofs.lemmas.Bool.Decides.{eqb_tells}
use Rattle.schema.proofs.PlainLemmas.{IsOrdered, put_all-ordered, put_all-append, length-put_all, row_at-put_all, row_at-both, left_by, left_by-change, touches, same_value, rows_of-past}
use Rattle.statement.specs.declared.statement.Statement.{Statement}
use Rattle.statement.specs.declared.reading.Reading.{Reading}
use Rattle.statement.specs.declared.reply.Reply.{Reply}
use Rattle.statement.specs.Evaluation.{outcome, after}
use Rattle.statement.specs.Footprint.{footprint}
use Rattle.statement.specs.Cover.{covers, covers_value}
use Rattle.statement.specs.declared.outcome.Mark.{Mark}
use Rattle.statement.specs.Marks.{is_mark, marks_reference}
use Rattle.statement.specs.Agreement.{reads_key, reads_value, if_naming, row_naming, Agree}
use Rattle.statement.specs.Fits.{Fits}
use Rattle.statement.proofs.CoverLemmas.{covers_reads, covers_values}
use Rattle.statement.proofs.MarksLemmas.{refers}
use Rattle.statement.proofs.WritesLemmas.{marks_before, marks_after, footprint_names}
use Rattle.statement.proofs.RowsLemmas.{HasKeys, value_exact}
use Rattle.statement.proofs.Suffices.{suffices, WithKeys, outcome_keys, put_all-keys}
use Rattle.history.specs.Transactions.{Txn, World, node, edge, reads_key_of, reads_mark_of, tables_at, with_all}
use Rattle.history.specs.Serial.{committed, serial_order, key, Alone, InTurn, InTime, IsSerial, precedes, prefix, RunsTo}

none_part : {A : Type 0} (p : A → Bool) (xs ys : List A) → list_any p (xs ++ ys) ≡ false → (list_any p xs ≡ false) × (list_any p ys ≡ false)
none_part p [] ys e = (refl, e)
none_part p (x ∷ xs) ys e = go (p x) (none_part p xs ys) e
  where
    go : (b : Bool) → (list_any p (xs ++ ys) ≡ false → (list_any p xs ≡ false) × (list_any p ys ≡ false)) → (b || list_any p (xs ++ ys)) ≡ false → ((b || list_any p xs) ≡ false) × (list_any p ys ≡ false)
    go true rest f = absurd (true≢false f)
    go false rest f = rest f

no_some : {A : Type 0} (o : Option A) → (is_some o ≡ true → ⊥) → o ≡ None
no_some None f = refl
no_some (Some x) f = absurd (f refl)

module _ {A : Type 0} where
  -- Done from B, the statements get these replies, read there, and change and mark this.
  abbrev pub Along : Catalog → List (Statement A × Reply A) → Tables A → List (Reading A) → List (Change A) → List (Mark A) → Type 0
  Along c [] B rs xs ms = (rs ≡ []) × (xs ≡ []) × (ms ≡ [])
  Along c (q ∷ qs) B rs xs ms =
      (more : List (Reading A)) × (later : List (Change A)) × (marked : List (Mark A)) × Fits c q.0 × ((outcome c q.0 B).reply ≡ q.1)
      × (rs ≡ footprint c q.0 ++ more) × (xs ≡ (outcome c q.0 B).changes ++ later) × (ms ≡ (outcome c q.0 B).marks ++ marked) × Along c qs (after c q.0 B) more later marked

  -- Tables in order, with no null key.
  pub record Proper (X : Tables A) : Type 0 where
    pub ordered : IsOrdered X
    pub keys : HasKeys X

  pub put_all-proper : (xs : List (Change A)) (X : Tables A) → WithKeys xs → Proper X → Proper (put_all xs X)
  put_all-proper xs X h p = record { ordered = put_all-ordered xs X p.ordered; keys = put_all-keys xs X h p.keys }

  -- the same changes keep what rows name
  naming-both : (xs : List (Change A)) (X Y : Tables A) (t j : ℕ) (k p : Value A) → length X ≡ length Y → row_naming X t j k p ≡ row_naming Y t j k p → row_naming (put_all xs X) t j k p ≡ row_naming (put_all xs Y) t j k p
  naming-both xs X Y t j k p len e = side (two_ways (length X) t)
    where
      two_ways : (m n : ℕ) → (m ≤ n) ⊎ (n < m)
      two_ways m n = grind arith

      by_last : (o : Option (Option (List (Value A)))) → if_naming j k p (unwrap_or o (row_at X t p)) ≡ if_naming j k p (unwrap_or o (row_at Y t p))
      by_last None = e
      by_last (Some v) = refl

      side : (length X ≤ t) ⊎ (t < length X) → row_naming (put_all xs X) t j k p ≡ row_naming (put_all xs Y) t j k p
      side (inl h) = ap (λ rows. if_naming j k p (find value_cmp p rows)) (rows_of-past (put_all xs X) t (rw length-put_all h) ∙ sym (rows_of-past (put_all xs Y) t (rw length-put_all (omega (arith, h, len)))))
      side (inr h) = ap (if_naming j k p) (row_at-put_all xs X t p h) ∙ by_last (left_by t p xs) ∙ sym (ap (if_naming j k p) (row_at-put_all xs Y t p (omega (arith, h, len))))

  module _ (c : Catalog) where
    pub alone_from : (qs : List (Statement A × Reply A)) (B X : Tables A) (rs : List (Reading A)) (xs : List (Change A)) (ms : List (Mark A)) → Proper X → Proper B → length X ≡ length B
        → Along c qs B rs xs ms → Agree rs X B → Alone c qs X (put_all xs X)
    alone_from [] B X rs xs ms ox ob len a agree = ap (λ ys. put_all ys X) a.1
    alone_from (q ∷ qs) B X rs xs ms ox ob len a agree = (
      ap (λ o. o.reply) same ∙ a.4,
      subst (λ ys. Alone c qs (after c q.0 X) (put_all ys X)) (sym a.6) (rw put_all-append (subst (λ o. Alone c qs (put_all o.changes X) (put_all a.1 (put_all (outcome c q.0 B).changes X))) (sym same)
          (alone_from qs (after c q.0 B) (put_all (outcome c q.0 B).changes X) a.0 a.1 a.2 (put_all-proper changes X keyed ox) (put_all-proper changes B keyed ob) (length-put_all changes X ∙ len ∙ sym (length-put_all changes B)) a.8 rest))),
    )
      where
        changes : List (Change A)
        changes = (outcome c q.0 B).changes

        keyed : WithKeys changes
        keyed = outcome_keys c q.0 B a.3 ob.keys

        here : Agree (footprint c q.0) X B
        here = record {
          at = λ t k h. agree.at t k (subst (λ rs'. reads_key rs' t k ≡ true) (sym a.5) (any-front _ (footprint c q.0) a.0 h));
          naming = λ t j k h p. agree.naming t j k (subst (λ rs'. reads_value rs' t j k ≡ true) (sym a.5) (any-front _ (footprint c q.0) a.0 h)) p;
        }

        same : outcome c q.0 X ≡ outcome c q.0 B
        same = suffices c q.0 X B a.3 ox.ordered ob.ordered ox.keys ob.keys len here

        rest : Agree a.0 (put_all (outcome c q.0 B).changes X) (after c q.0 B)
        rest = record {
          at = λ t k h. row_at-both changes X B t k len (agree.at t k (subst (λ rs'. reads_key rs' t k ≡ true) (sym a.5) (any-back _ (footprint c q.0) a.0 h)));
          naming = λ t j k h p. naming-both changes X B t j k p len (agree.naming t j k (subst (λ rs'. reads_value rs' t j k ≡ true) (sym a.5) (any-back _ (footprint c q.0) a.0 h)) p);
        }

  -- ---- many transactions

  pub row_at-with_all : (ts : List (Txn A)) (X : Tables A) (t : ℕ) (k : Value A) → t < length X → row_at (with_all ts X) t k ≡ after_all (λ u. left_by t k u.changes) ts (row_at X t k)
  row_at-with_all [] X t k h = refl
  row_at-with_all (u ∷ us) X t k h =
      row_at-with_all us (put_all u.changes X) t k (rw (length-put_all u.changes X) h)
      ∙ ap (after_all (λ u. left_by t k u.changes) us) (row_at-put_all u.changes X t k h)

  pub length-with_all : (ts : List (Txn A)) (X : Tables A) → length (with_all ts X) ≡ length X
  length-with_all [] X = refl
  length-with_all (u ∷ us) X = length-with_all us (put_all u.changes X) ∙ length-put_all u.changes X

  pub with_all-proper : (ts : List (Txn A)) (X : Tables A) → ((t : Txn A) → In t ts → WithKeys t.changes) → Proper X → Proper (with_all ts X)
  with_all-proper [] X h o = o
  with_all-proper (u ∷ us) X h o = with_all-proper us (put_all u.changes X) (λ t i. h t (inr i)) (put_all-proper u.changes X (h u (inl refl)) o)

  pub with_all-push : (ts : List (Txn A)) (u : Txn A) (X : Tables A) → with_all (ts ++ u ∷ []) X ≡ put_all u.changes (with_all ts X)
  with_all-push [] u X = refl
  with_all-push (t ∷ ts) u X = with_all-push ts u (put_all t.changes X)

  -- changes of other keys leave nothing at a key
  untouched : (n : ℕ) (p : Value A) (xs : List (Change A)) → list_any (touches n p) xs ≡ false → left_by n p xs ≡ None
  untouched n p [] e = refl
  untouched n p (x ∷ xs) e = go (touches n p x) (untouched n p xs) e
    where
      go : (b : Bool) → (list_any (touches n p) xs ≡ false → left_by n p xs ≡ None) → (b || list_any (touches n p) xs) ≡ false → cond (is_some (left_by n p xs)) (left_by n p xs) (cond b (Some x.fields) None) ≡ None
      go true rest f = absurd (true≢false f)
      go false rest f = ap (λ (o : Option (Option (List (Value A)))). cond (is_some o) o None) (rest f)

  -- some mark of a reference that is covered
  marked_any : (rs : List (Reading A)) (n j : ℕ) (k : Value A) (ms : List (Mark A)) → covers_value rs n j k ≡ true → marks_reference ms n j k ≡ true → list_any (λ m. covers_value rs m.table m.column m.key) ms ≡ true
  marked_any rs n j k [] h e = absurd (true≢false (sym e))
  marked_any rs n j k (m ∷ ms) h e = go (is_mark n j k m) refl (marked_any rs n j k ms h) e
    where
      same_mark : is_mark n j k m ≡ true → covers_value rs m.table m.column m.key ≡ true
      same_mark f =
          let a = and_parts (eqb m.table n && eqb m.column j) (same m.key k) f in
          let b = and_parts (eqb m.table n) (eqb m.column j) a.0 in
          ap (λ t. covers_value rs t m.column m.key) (eqb-true m.table n b.0) ∙ ap (λ i. covers_value rs n i m.key) (eqb-true m.column j b.1) ∙ ap (covers_value rs n j) (same_value m.key k a.1) ∙ h

      go : (b : Bool) → is_mark n j k m ≡ b → (marks_reference ms n j k ≡ true → list_any (λ x. covers_value rs x.table x.column x.key) ms ≡ true) → (b || marks_reference ms n j k) ≡ true
          → (covers_value rs m.table m.column m.key || list_any (λ x. covers_value rs x.table x.column x.key) ms) ≡ true
      go true f rest g = or_left (covers_value rs m.table m.column m.key) _ (same_mark f)
      go false f rest g = or_right (covers_value rs m.table m.column m.key) _ (rest g)

  -- the columns and keys of the references that statements read
  along_names : (c : Catalog) (qs : List (Statement A × Reply A)) (B : Tables A) (rs : List (Reading A)) (xs : List (Change A)) (ms : List (Mark A)) (n j : ℕ) (k : Value A)
      → Along c qs B rs xs ms → reads_value rs n j k ≡ true → (refers c n j ≡ true) × (is_null k ≡ false)
  along_names c [] B rs xs ms n j k a r = absurd (true≢false (sym r ∙ ap (λ zs. reads_value zs n j k) a.0))
  along_names c (q ∷ qs) B rs xs ms n j k a r = side (any-cases _ (footprint c q.0) a.0 (sym (ap (λ zs. reads_value zs n j k) a.5) ∙ r)) (λ h. along_names c qs (after c q.0 B) a.0 a.1 a.2 n j k a.8 h)
    where
      side : (reads_value (footprint c q.0) n j k ≡ true) ⊎ (reads_value a.0 n j k ≡ true) → (reads_value a.0 n j k ≡ true → (refers c n j ≡ true) × (is_null k ≡ false)) → (refers c n j ≡ true) × (is_null k ≡ false)
      side (inl h) rest = footprint_names c q.0 n j k h
      side (inr h) rest = rest h

  -- A statement that changes a key and doesn't mark a reference found no row with it there, and left none.
  along_marks : (c : Catalog) (qs : List (Statement A × Reply A)) (B : Tables A) (rs : List (Reading A)) (xs : List (Change A)) (ms : List (Mark A)) (n j : ℕ) (k p : Value A)
      → n < length B → refers c n j ≡ true → is_null k ≡ false → Along c qs B rs xs ms → list_any (touches n p) xs ≡ true → marks_reference ms n j k ≡ false
      → (row_naming B n j k p ≡ None) × (row_naming (put_all xs B) n j k p ≡ None)
  along_marks c [] B rs xs ms n j k p l f z a h m = absurd (true≢false (sym h ∙ ap (list_any (touches n p)) a.1))
  along_marks c (q ∷ qs) B rs xs ms n j k p l f z a h m = go (list_any (touches n p) changes) refl (list_any (touches n p) a.1) refl (λ t. along_marks c qs Y a.0 a.1 a.2 n j k p (rw length-put_all l) f z a.8 t parts.1)
    where
      changes : List (Change A)
      changes = (outcome c q.0 B).changes

      Y : Tables A
      Y = after c q.0 B

      parts : (marks_reference (outcome c q.0 B).marks n j k ≡ false) × (marks_reference a.2 n j k ≡ false)
      parts = none_part (is_mark n j k) (outcome c q.0 B).marks a.2 (sym (ap (λ zs. marks_reference zs n j k) a.7) ∙ m)

      Goal : Type 0
      Goal = (row_naming B n j k p ≡ None) × (row_naming (put_all xs B) n j k p ≡ None)

      ends : row_naming (put_all a.1 Y) n j k p ≡ None → row_naming (put_all xs B) n j k p ≡ None
      ends e = ap (λ zs. row_naming (put_all zs B) n j k p) a.6 ∙ ap (λ Z. row_naming Z n j k p) (put_all-append changes a.1 B) ∙ e

      -- where none of these changes is of the key
      kept : (zs : List (Change A)) (Z : Tables A) → n < length Z → list_any (touches n p) zs ≡ false → row_naming (put_all zs Z) n j k p ≡ row_naming Z n j k p
      kept zs Z d t = ap (if_naming j k p) (row_at-put_all zs Z n p d ∙ ap (λ o. unwrap_or o (row_at Z n p)) (untouched n p zs t))

      here : list_any (touches n p) changes ≡ true → (row_naming B n j k p ≡ None) × (row_naming Y n j k p ≡ None)
      here t = (
        no_some (row_naming B n j k p) (λ e. true≢false (sym (marks_before c q.0 B n j k p t f z e) ∙ parts.0)),
        no_some (row_naming Y n j k p) (λ e. true≢false (sym (marks_after c q.0 B n j k p t f z e) ∙ parts.0)),
      )

      go : (d : Bool) → list_any (touches n p) changes ≡ d → (e : Bool) → list_any (touches n p) a.1 ≡ e → (list_any (touches n p) a.1 ≡ true → (row_naming Y n j k p ≡ None) × (row_naming (put_all a.1 Y) n j k p ≡ None)) → Goal
      go true d true e rest = ((here d).0, ends (rest e).1)
      go true d false e rest = ((here d).0, ends (kept a.1 Y (rw length-put_all l) e ∙ (here d).1))
      go false d true e rest = (sym (kept changes B l d) ∙ (rest e).0, ends (rest e).1)
      go false d false e rest = absurd (true≢false (sym h ∙ ap (list_any (touches n p)) a.6 ∙ any-neither (touches n p) changes a.1 d e))

  -- What is known of a world after a legal history.
  pub record IsIsolatedWorld (w : World A) : Type 0 where
    pub isolated : IsIsolated node edge (committed w)
    pub writes : (u : Txn A) (t : ℕ) (k : Value A) → In u (committed w) → is_some (left_by t k u.changes) ≡ true → (node u).read_write ≡ true
    pub first_updater : (t : ℕ) (k : Value A) (u v : Txn A) → In u (committed w) → In v (committed w) → is_some (left_by t k u.changes) ≡ true → is_some (left_by t k v.changes) ≡ true → u.commit < v.commit → u.commit ≤ v.snapshot
    pub unique : (t u : Txn A) → In t (committed w) → In u (committed w) → eqb t.number u.number ≡ true → u ≡ t
    pub along : (t : Txn A) → In t (committed w) → Along w.catalog t.statements (tables_at w t.snapshot) t.reads t.changes t.marks
    pub numbered : NumberedFrom (λ t. (node t).commit) w.base.commits w.log
    pub based : (t : Txn A) → In t (committed w) → w.base.commits ≤ t.snapshot
    pub logged : (t : Txn A) → In t w.log → In t (committed w) × ((node t).read_write ≡ true)
    pub log_all : (t : Txn A) → In t (committed w) → (node t).read_write ≡ true → In t w.log
    pub keys_apart : Apart (key w) (committed w)
    pub opening : Proper w.opening
    pub keys : (t : Txn A) → In t (committed w) → WithKeys t.changes
    pub time : (a b : Txn A) → In a (committed w) → In b (committed w) → precedes a b ≡ true → Below (key w a) (key w b)

  touched : (rs : List (Reading A)) (t : ℕ) (k : Value A) (xs : List (Change A)) → covers rs t k ≡ true → list_any (touches t k) xs ≡ true → list_any (λ x. covers rs x.table x.key) xs ≡ true
  touched rs t k [] h e = absurd (true≢false (sym e))
  touched rs t k (x ∷ xs) h e = go (eqb_tells x.table t) (same k x.key) refl (touched rs t k xs h) e
    where
      go : (eqb x.table t ≡ true) × (x.table ≡ t) ⊎ (eqb x.table t ≡ false) × (x.table ≢ t) → (b : Bool) → same k x.key ≡ b → (list_any (touches t k) xs ≡ true → list_any (λ y. covers rs y.table y.key) xs ≡ true)
          → (touches t k x || list_any (touches t k) xs) ≡ true → (covers rs x.table x.key || list_any (λ y. covers rs y.table y.key) xs) ≡ true
      go (inl p) true q rest f = ap (λ b. b || list_any (λ y. covers rs y.table y.key) xs) (ap (λ n. covers rs n x.key) p.1 ∙ ap (covers rs t) (sym (same_value k x.key q)) ∙ h)
      go (inl p) false q rest f = or_right (covers rs x.table x.key) _ (rest (ap (λ b. b || list_any (touches t k) xs) (sym (ap (λ b. b && same k x.key) p.0 ∙ q)) ∙ f))
      go (inr p) b q rest f = or_right (covers rs x.table x.key) _ (rest (ap (λ a. (a && same k x.key) || list_any (touches t k) xs) (sym p.0) ∙ f))

  -- tables with the same rows in each
  same_tables : (X Y : Tables A) → length X ≡ length Y → ((n : ℕ) → rows_of X n ≡ rows_of Y n) → X ≡ Y
  same_tables [] [] e f = refl
  same_tables [] (y ∷ Y) e f = absurd (omega (arith, e))
  same_tables (x ∷ X) [] e f = absurd (omega (arith, e))
  same_tables (x ∷ X) (y ∷ Y) e f = ap (λ rows. rows ∷ X) (f 0) ∙ ap (λ Z. y ∷ Z) (same_tables X Y (omega (arith, e)) (λ n. f (suc n)))

  pub In-filter : (p : Txn A → Bool) (xs : List (Txn A)) (x : Txn A) → In x (filter p xs) → In x xs × (p x ≡ true)
  In-filter p [] x i = absurd i
  In-filter p (y ∷ ys) x i = go (p y) refl (In-filter p ys x) i
    where
      go : (b : Bool) → p y ≡ b → (In x (filter p ys) → In x ys × (p x ≡ true)) → In x (cond b (y ∷ filter p ys) (filter p ys)) → ((x ≡ y) ⊎ In x ys) × (p x ≡ true)
      go true e rest (inl q) = (inl q, ap p q ∙ e)
      go true e rest (inr j) = (inr (rest j).0, (rest j).1)
      go false e rest j = (inr (rest j).0, (rest j).1)

  pub filter-In : (p : Txn A → Bool) (xs : List (Txn A)) (x : Txn A) → In x xs → p x ≡ true → In x (filter p xs)
  filter-In p [] x i e = absurd i
  filter-In p (y ∷ ys) x (inl q) e = subst (λ b. In x (cond b (y ∷ filter p ys) (filter p ys))) (sym (sym (ap p q) ∙ e)) (inl q)
  filter-In p (y ∷ ys) x (inr i) e = go (p y) (filter-In p ys x i e)
    where
      go : (b : Bool) → In x (filter p ys) → In x (cond b (y ∷ filter p ys) (filter p ys))
      go true j = inr j
      go false j = j

  -- ---- the serial order

  abbrev find_in : Value A → List (Row A) → Option (List (Value A))
  find_in k rows = find value_cmp k rows

  in_time : (w : World A) (order : List (Txn A)) → IsIsolatedWorld w → ((x : Txn A) → In x order → In x (committed w)) → InOrder (key w) order → InTime order
  in_time w [] iso sub o = tt
  in_time w (b ∷ later) iso sub o = (each later (λ x i. i), in_time w later iso (λ x i. sub x (inr i)) o.1)
    where
      each : (xs : List (Txn A)) → ((x : Txn A) → In x xs → In x later) → AllByRecursion (λ a. precedes a b ≡ true → ⊥) xs
      each [] f = tt
      each (a ∷ xs) f = (λ p. Below-asym (key w b) (key w a) (o.0 a (f a (inl refl))) (iso.time a b (sub a (inr (f a (inl refl)))) (sub b (inl refl)) p), each xs (λ x i. f x (inr i)))

  module _ (w : World A) (iso : IsIsolatedWorld w) where
    -- of the writers of a place that a committed transaction read
    is_read : (t : Txn A) → In t (committed w) → (n : ℕ) (k : Value A) → reads_key t.reads n k ≡ true → IsRead node edge (committed w) (λ u. left_by n k u.changes) t
    is_read t i n k r = record {
      writes = λ u j h. iso.writes u n k j h;
      first_updater = λ u v j l h g lt. iso.first_updater n k u v j l h g lt;
      covered = covered;
    }
      where
        covered : (u : Txn A) → In u (committed w) → is_some (left_by n k u.changes) ≡ true → t.snapshot < u.commit → (u ≡ t) ⊎ (edge t u ≡ true)
        covered u j h lt = go (eqb t.number u.number) refl
          where
            go : (b : Bool) → eqb t.number u.number ≡ b → (u ≡ t) ⊎ (edge t u ≡ true)
            go true e = inl (iso.unique t u i j e)
            go false e = inr (and_from_three _ _ _ (ap not e) (lt-ltb t.snapshot u.commit lt)
                (or_left (reads_key_of t u) (reads_mark_of t u) (touched t.reads n k u.changes (covers_reads t.reads n k r) (left_by-change n k u.changes h))))

    -- of the writers of any place
    is_written : (n : ℕ) (k : Value A) → IsWritten node edge (committed w) (λ u. left_by n k u.changes)
    is_written n k = record { writes = λ u j h. iso.writes u n k j h; first_updater = λ u v j l h g lt. iso.first_updater n k u v j l h g lt }

    -- a reference that a transaction read is one by its column, and not null
    names : (t : Txn A) → In t (committed w) → (n j : ℕ) (k : Value A) → reads_value t.reads n j k ≡ true → (refers w.catalog n j ≡ true) × (is_null k ≡ false)
    names t i n j k r = along_names w.catalog t.statements (tables_at w t.snapshot) t.reads t.changes t.marks n j k (iso.along t i) r

    -- of the writers of a key that mark a reference which a committed transaction read
    reads_marked : (t : Txn A) → In t (committed w) → (n j : ℕ) (k p : Value A) → reads_value t.reads n j k ≡ true → IsRead node edge (committed w) (marked_left (λ u. left_by n p u.changes) (λ u. marks_reference u.marks n j k) (if_naming j k p)) t
    reads_marked t i n j k p r = record {
      writes = λ u l h. iso.writes u n p l (both u h).0;
      first_updater = λ u v l m h g lt. iso.first_updater n p u v l m (both u h).0 (both v g).0 lt;
      covered = covered;
    }
      where
        both : (u : Txn A) → is_some (if marks_reference u.marks n j k then left_by n p u.changes else None) ≡ true → (is_some (left_by n p u.changes) ≡ true) × (marks_reference u.marks n j k ≡ true)
        both u h = go (marks_reference u.marks n j k) refl h
          where
            go : (b : Bool) → marks_reference u.marks n j k ≡ b → is_some (if b then left_by n p u.changes else None) ≡ true → (is_some (left_by n p u.changes) ≡ true) × (marks_reference u.marks n j k ≡ true)
            go true m h = (h, m)
            go false m h = absurd (true≢false (sym h))

        covered : (u : Txn A) → In u (committed w) → is_some (if marks_reference u.marks n j k then left_by n p u.changes else None) ≡ true → t.snapshot < u.commit → (u ≡ t) ⊎ (edge t u ≡ true)
        covered u l h lt = go (eqb t.number u.number) refl
          where
            go : (b : Bool) → eqb t.number u.number ≡ b → (u ≡ t) ⊎ (edge t u ≡ true)
            go true e = inl (iso.unique t u i l e)
            go false e = inr (and_from_three _ _ _ (ap not e) (lt-ltb t.snapshot u.commit lt)
                (or_right (reads_key_of t u) (reads_mark_of t u) (marked_any t.reads n j k u.marks (covers_values t.reads n j k r) (both u h).1)))

    -- of the writers of a key that don't mark a reference
    is_marked : (n j : ℕ) (k p : Value A) → n < length w.opening → (refers w.catalog n j ≡ true) × (is_null k ≡ false)
        → IsMarked node edge (committed w) (λ u. left_by n p u.changes) (λ u. marks_reference u.marks n j k) (if_naming j k p) w.base.commits w.log (row_at w.opening n p)
    is_marked n j k p h r = record {
      leaves = λ u i v m q. let s = along_marks w.catalog u.statements (tables_at w u.snapshot) u.reads u.changes u.marks n j k p (rw (length-with_all (take (u.snapshot - w.base.commits) w.log) w.opening) h) r.0 r.1 (iso.along u i) (left_by-change n p u.changes v) m in left_naming u v q s;
      finds = λ u i v m. sym (ap (if_naming j k p) (row_at-with_all (take (u.snapshot - w.base.commits) w.log) w.opening n p h)) ∙ (along_marks w.catalog u.statements (tables_at w u.snapshot) u.reads u.changes u.marks n j k p (rw (length-with_all (take (u.snapshot - w.base.commits) w.log) w.opening) h) r.0 r.1 (iso.along u i) (left_by-change n p u.changes v) m).0;
      based = iso.based;
    }
      where
        left_naming : (u : Txn A) → is_some (left_by n p u.changes) ≡ true → (q : Option (List (Value A))) → (row_naming (tables_at w u.snapshot) n j k p ≡ None) × (row_naming (put_all u.changes (tables_at w u.snapshot)) n j k p ≡ None) → if_naming j k p (unwrap_or (left_by n p u.changes) q) ≡ None
        left_naming u v q s = ap (if_naming j k p) (any_rest (left_by n p u.changes) v q (row_at (tables_at w u.snapshot) n p)) ∙ sym (ap (if_naming j k p) (row_at-put_all u.changes (tables_at w u.snapshot) n p (rw (length-with_all (take (u.snapshot - w.base.commits) w.log) w.opening) h))) ∙ s.1
          where
            any_rest : (o : Option (Option (List (Value A)))) → is_some o ≡ true → (a b : Option (List (Value A))) → unwrap_or o a ≡ unwrap_or o b
            any_rest None f a b = absurd (true≢false (sym f))
            any_rest (Some x) f a b = refl

    in_turn : (order pre post : List (Txn A)) → order ≡ pre ++ post → InOrder (key w) order → ((x : Txn A) → In x (committed w) → In x order) → ((x : Txn A) → In x order → In x (committed w))
        → InTurn w.catalog post (with_all pre w.opening)
    in_turn order pre [] e o f g = tt
    in_turn order pre (t ∷ post) e o f g = (
      put_all t.changes X,
      alone_from w.catalog t.statements B X t.reads t.changes t.marks (with_all-proper pre w.opening pre_keys iso.opening) (with_all-proper shown w.opening shown_keys iso.opening) (length-with_all pre w.opening ∙ sym (length-with_all shown w.opening)) (iso.along t t_in) agree,
      subst (InTurn w.catalog post) (with_all-push pre t w.opening) (in_turn order (pre ++ t ∷ []) post (e ∙ append_cons pre t post) o f g),
    )
      where
        shown : List (Txn A)
        shown = take (t.snapshot - w.base.commits) w.log

        X : Tables A
        X = with_all pre w.opening

        B : Tables A
        B = with_all shown w.opening

        pre_keys : (x : Txn A) → In x pre → WithKeys x.changes
        pre_keys x i = iso.keys x (g x (subst (In x) (sym e) (In-left (key w) x pre (t ∷ post) i)))

        shown_keys : (x : Txn A) → In x shown → WithKeys x.changes
        shown_keys x i = iso.keys x (iso.logged x (In-take (λ (y : Txn A). y.commit) w.base.commits (t.snapshot - w.base.commits) w.log x iso.numbered i).0).0

        t_in : In t (committed w)
        t_in = g t (subst (In t) (sym e) (In-right (key w) t pre (t ∷ post) (inl refl)))

        agree : Agree t.reads X B
        agree = record { at = λ n k r. row n k r (two_ways (length w.opening) n); naming = λ n j k r p. naming n j k r p (two_ways (length w.opening) n) }
          where
            two_ways : (m n : ℕ) → (m ≤ n) ⊎ (n < m)
            two_ways m n = grind arith

            row : (n : ℕ) (k : Value A) → reads_key t.reads n k ≡ true → (length w.opening ≤ n) ⊎ (n < length w.opening) → row_at X n k ≡ row_at B n k
            row n k r (inl h) = ap (find_in k) (rows_of-past X n (rw (length-with_all pre w.opening) h) ∙ sym (rows_of-past B n (rw (length-with_all shown w.opening) h)))
            row n k r (inr h) =
                row_at-with_all pre w.opening n k h
                ∙ same_row node edge (committed w) (λ u. left_by n k u.changes) t iso.isolated (is_read t t_in n k r) w.base.commits (iso.based t t_in) pre post w.log (subst (InOrder (key w)) e o) (λ x i. subst (In x) e (f x i)) (λ x i. g x (subst (In x) (sym e) i))
                iso.numbered iso.logged iso.log_all (row_at w.opening n k)
                ∙ sym (row_at-with_all shown w.opening n k h)

            naming : (n j : ℕ) (k : Value A) → reads_value t.reads n j k ≡ true → (p : Value A) → (length w.opening ≤ n) ⊎ (n < length w.opening) → row_naming X n j k p ≡ row_naming B n j k p
            naming n j k r p (inl h) = ap (λ rows. if_naming j k p (find_in p rows)) (rows_of-past X n (rw (length-with_all pre w.opening) h) ∙ sym (rows_of-past B n (rw (length-with_all shown w.opening) h)))
            naming n j k r p (inr h) =
                ap (if_naming j k p) (row_at-with_all pre w.opening n p h)
                ∙ same_showing node edge (committed w) (λ u. left_by n p u.changes) (λ u. marks_reference u.marks n j k) (if_naming j k p) w.base.commits w.log (row_at w.opening n p)
                (is_written n p) (is_marked n j k p h (names t t_in n j k r)) iso.numbered iso.logged iso.log_all iso.isolated.later t iso.isolated (reads_marked t t_in n j k p r) t_in pre post (subst (InOrder (key w)) e o) (λ x i. subst (In x) e (f x i)) (λ x i. g x (subst (In x) (sym e) i))
                ∙ sym (ap (if_naming j k p) (row_at-with_all shown w.opening n p h))

    -- one of the serial order, from the tables that those before it leave to those that it leaves
    alone_at : (order pre : List (Txn A)) (t : Txn A) (post : List (Txn A)) → order ≡ pre ++ t ∷ post → InOrder (key w) order → ((x : Txn A) → In x (committed w) → In x order) → ((x : Txn A) → In x order → In x (committed w))
        → Alone w.catalog t.statements (with_all pre w.opening) (put_all t.changes (with_all pre w.opening))
    unfolding in_turn
    alone_at order pre t post e o f g = (in_turn order pre (t ∷ post) e o f g).1

    -- A part of it runs to what it leaves.
    runs_to : (order pre mid post : List (Txn A)) → order ≡ pre ++ (mid ++ post) → InOrder (key w) order → ((x : Txn A) → In x (committed w) → In x order) → ((x : Txn A) → In x order → In x (committed w))
        → RunsTo w.catalog mid (with_all pre w.opening) (with_all mid (with_all pre w.opening))
    runs_to order pre [] post e o f g = refl
    runs_to order pre (t ∷ mid) post e o f g = (
      put_all t.changes (with_all pre w.opening),
      alone_at order pre t (mid ++ post) e o f g,
      subst (λ X. RunsTo w.catalog mid X (with_all mid X)) (with_all-push pre t w.opening) (runs_to order (pre ++ t ∷ []) mid post (e ∙ append_cons pre t (mid ++ post)) o f g),
    )

    pub in_order : InOrder (key w) (serial_order w)
    in_order = sorted-InOrder (key w) (committed w) iso.keys_apart

    -- of a prefix that has, of those that may write, the commits up to s
    module _ (s : ℕ) (based : w.base.commits ≤ s) (front : (t : Txn A) → In t (committed w) → (node t).read_write ≡ true → nat_le (key w t).0 s ≡ true → t.commit ≤ s)
        (all : (t : Txn A) → In t (committed w) → (node t).read_write ≡ true → t.commit ≤ s → nat_le (key w t).0 s ≡ true) where
      abbrev pre : List (Txn A)
      pre = prefix w s

      begins : (rest : List (Txn A)) × (serial_order w ≡ pre ++ rest)
      begins = beginning (key w) s (serial_order w) in_order

      sub : (x : Txn A) → In x pre → In x (committed w) × (nat_le (key w x).0 s ≡ true)
      sub x i = let j = In-filter (λ y. nat_le (key w y).0 s) (serial_order w) x i in (In-sorted (key w) x (committed w) j.0, j.1)

      abbrev shown : List (Txn A)
      shown = take (s - w.base.commits) w.log

      shown_keys : (x : Txn A) → In x shown → WithKeys x.changes
      shown_keys x i = iso.keys x (iso.logged x (In-take (λ (y : Txn A). y.commit) w.base.commits (s - w.base.commits) w.log x iso.numbered i).0).0

      proper_pre : Proper (with_all pre w.opening)
      proper_pre = with_all-proper pre w.opening (λ x i. iso.keys x (sub x i).0) iso.opening

      proper_shown : Proper (with_all shown w.opening)
      proper_shown = with_all-proper shown w.opening shown_keys iso.opening

      same_at : (n : ℕ) (k : Value A) → row_at (with_all pre w.opening) n k ≡ row_at (with_all shown w.opening) n k
      same_at n k = go (two_ways (length w.opening) n)
        where
          two_ways : (m n : ℕ) → (m ≤ n) ⊎ (n < m)
          two_ways m n = grind arith

          go : (length w.opening ≤ n) ⊎ (n < length w.opening) → row_at (with_all pre w.opening) n k ≡ row_at (with_all shown w.opening) n k
          go (inl h) = ap (find_in k) (rows_of-past (with_all pre w.opening) n (rw (length-with_all pre w.opening) h) ∙ sym (rows_of-past (with_all shown w.opening) n (rw (length-with_all shown w.opening) h)))
          go (inr h) =
              row_at-with_all pre w.opening n k h
              ∙ same_prefix node edge (committed w) (λ u. left_by n k u.changes) s iso.isolated (is_written n k) w.base.commits based pre w.log (InOrder-front (key w) pre begins.0 (subst (InOrder (key w)) begins.1 in_order)) (λ x i. (sub x i).0)
              iso.numbered iso.logged iso.log_all (λ x i r. front x (sub x i).0 r (sub x i).1)
              (λ x i r l. filter-In (λ y. nat_le (key w y).0 s) (serial_order w) x (sorted-In (key w) x (committed w) i) (all x i r l)) (row_at w.opening n k)
              ∙ sym (row_at-with_all shown w.opening n k h)

      -- The tables after the prefix are those that the snapshot shows.
      prefix_tables : with_all pre w.opening ≡ tables_at w s
      prefix_tables = same_tables (with_all pre w.opening) (with_all shown w.opening) (length-with_all pre w.opening ∙ sym (length-with_all shown w.opening))
          (λ n. same_entries value_cmp value_cmp-total value_exact (rows_of (with_all pre w.opening) n) (rows_of (with_all shown w.opening) n) (proper_pre.ordered.each n) (proper_shown.ordered.each n) (same_at n))

      pub prefix_runs : RunsTo w.catalog pre w.opening (tables_at w s)
      prefix_runs = subst (RunsTo w.catalog pre w.opening) prefix_tables
          (runs_to (serial_order w) [] pre begins.0 begins.1 in_order (λ x i. sorted-In (key w) x (committed w) i) (λ x i. In-sorted (key w) x (committed w) i))

      pub prefix_begins : (rest : List (Txn A)) × (serial_order w ≡ pre ++ rest)
      prefix_begins = begins

    -- The serial order is one.
    pub serial : IsSerial w (serial_order w)
    serial = record {
      each_once = sorted-permutes (key w) (committed w);
      in_turn = in_turn (serial_order w) [] (serial_order w) refl in_order (λ x i. sorted-In (key w) x (committed w) i) (λ x i. In-sorted (key w) x (committed w) i);
      in_time = in_time w (serial_order w) iso (λ x i. In-sorted (key w) x (committed w) i) in_order;
    }
      where
        in_order : InOrder (key w) (serial_order w)
        in_order = sorted-InOrder (key w) (committed w) iso.keys_apart
