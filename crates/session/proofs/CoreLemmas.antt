-- A step of the core, from what it keeps.
use Rattle.std.proofs.Common.{◌≡◌, ◌==◌, refl, sym, ap, subst, ◌∙◌, ℕ, suc, ◌+◌, ◌^◌, ◌<◌, ◌≤◌, true, Bool, false, cond, not, ◌&&◌, ◌||◌, nat_le, true≢false, inl, inr, Result, Ok, Err, List, [], ◌∷◌, ◌++◌, length, map, arith}
use Rattle.std.specs.List.{filter, list_all}
use Rattle.std.specs.Option.{option_to_list}
use Rattle.std.proofs.lemmas.List.Folds.{list_all-map}
use Rattle.std.proofs.lemmas.Bool.{le-leb, and_parts, false_from_ne_true}
use Rattle.std.proofs.lemmas.Bool.Decides.{nat_tests}
use Rattle.std.proofs.lemmas.List.{length_push}
use Rattle.value.specs.declared.refusal.Refusal.{Refusal}
use Rattle.value.specs.declared.refusal.TxnNo.{TxnNo}
use Rattle.value.specs.declared.refusal.Code.TheVariants as code
use Rattle.value.specs.Refusals.{AnswersOrNoMemory, of_code}
use Rattle.value.proofs.IsolationLemmas.{In}
use Rattle.value.proofs.Lists.{clash}
use Rattle.schema.specs.Plain.{is_sound}
use Rattle.schema.specs.Definition.{Catalog}
use Rattle.schema.specs.declared.tables.Tables.{Tables}
use Rattle.statement.specs.declared.reply.Reply.{Reply}
use Rattle.statement.specs.Walk.{are_of}
use Rattle.statement.proofs.HeldLemmas.{held_sound}
use Rattle.history.specs.declared.base.Base.{Base}
use Rattle.history.specs.declared.event.Action.{Action}
use Rattle.history.specs.declared.event.Record.{Record}
use Rattle.history.specs.declared.key.SerialKey.{SerialKey}
use Rattle.history.specs.Opening.{Opening, Recorded}
use Rattle.history.specs.Transactions.{Txn, World, commits, is_owed, is_quiet, tables_at}
use Rattle.history.specs.Events.{follows, run, start, world}
use Rattle.history.specs.Checkpoint.{base_after, opening_after}
use Rattle.history.specs.Serial.{keys_by_commit}
use Rattle.history.specs.Answer.{Allowed, answer, checkpoint_answer, reply_in}
use Rattle.history.specs.Needed.{kept_of}
use Rattle.serial.proofs.legal.Histories.{Legal-push, Legal-start}
use Rattle.serial.proofs.legal.AlwaysSound.{always_sound}
use Rattle.serial.proofs.needed.Replies.{owed_stays}
use Rattle.mvrows.specs.Versions.{VersionedRows, shown, shown_rows}
use Rattle.transactions.specs.declared.answers.answered.Answered.{Answered}
use Rattle.transactions.specs.Ledger.{Ledger, committed_by, kept, kept_after, kept_current, ready_for, world_on}
use Rattle.transactions.specs.Keys.{committed_at, keyed}
use Rattle.transactions.specs.Steps.{IsStepped}
use Rattle.transactions.specs.Versions.{StayShown, is_owed_at, versions_at}
use Rattle.transactions.specs.Views.{are_quiet}
use Rattle.session.specs.Core.{HoldsKeys, HoldsRows, IsKept, is_commit, recorded}
use Rattle.session.specs.Kept.{Represents}
use Rattle.session.proofs.CommitAlone.{none_committed}
use Rattle.session.proofs.CommitOrder.{keys_push}
use Rattle.session.proofs.Followed.{After, comes_after, follows_place}
use Rattle.session.proofs.Kept.{length_map}
use Rattle.session.proofs.Lent.{catalog_is, good, has_own, r, reply_is, w}
use Rattle.session.proofs.RowsNext.{shown_next}

pub answered_ok : {T : Type 0} (x : T) (r : Result T Refusal) → AnswersOrNoMemory (Ok x) r → r ≡ Ok x
answered_ok x r (inl e) = sym e
answered_ok x r (inr e) = cc

pub counts_so : (a : Bool) (p m : ℕ) → (a || nat_le (2 ^ 64) (p + m)) ≡ false → p + m < 2 ^ 64
counts_so true p m e = absurd (true≢false e)
counts_so false p m e = grind (arith, nat_tests)

all_kept : {X : Type 0} (p q : X → Bool) (xs : List X) → ((x : X) → In x xs → q x ≡ false → p x ≡ true) → list_all p (filter q xs) ≡ list_all p xs
all_kept p q [] h = refl
all_kept p q (x ∷ xs) h = go (q x) refl (all_kept p q xs (λ y i. h y (inr i)))
  where
    go : (b : Bool) → q x ≡ b → list_all p (filter q xs) ≡ list_all p xs → list_all p (cond b (x ∷ filter q xs) (filter q xs)) ≡ (p x && list_all p xs)
    go true e rest = ap (λ b. p x && b) rest
    go false e rest = rest ∙ sym (ap (λ b. b && list_all p xs) (h x (inl refl) e))

module _ {A : Type 0} where
  -- a catalog and its tables are equally many
  lengths : (c : Catalog) (X : Tables A) → are_of c X ≡ true → length c ≡ length X
  lengths [] [] e = refl
  lengths [] (rows ∷ X) e = absurd (true≢false (sym e))
  lengths (d ∷ c) [] e = absurd (true≢false (sym e))
  lengths (d ∷ c) (rows ∷ X) e = ap suc (lengths c X (and_parts _ (are_of c X) e).1)

  run_place : (w : World A) (es : List (Record A)) → (run w es).place ≡ w.place + length es
  run_place w [] = omega arith
  run_place w (e ∷ es) = omega (arith, run_place (follows w e) es, follows_place w e)

  run_push : (w : World A) (es : List (Record A)) (e : Record A) → run w (es ++ e ∷ []) ≡ follows (run w es) e
  run_push w [] e = refl
  run_push w (d ∷ es) e = run_push (follows w d) es e

  -- ---- a step

  module _ (h : Recorded A) (l : Ledger A) (k : IsKept h l) where
    place_is : l.place ≡ (w h l k).place
    place_is = (r h l k).place

    pub step_room : length h.records < h.most → l.place + 1 < 2 ^ 64
    step_room m = let p = run_place (start h.opening) h.records in let q = place_is in let e = k.room in omega (arith, m, p, q, e)

    module _ (rows : List (VersionedRows A)) (held : HoldsRows h l rows) (s : ℕ) (a : Action A) (c : Catalog) (p : c ≡ h.opening.catalog) (fits : Allowed h.opening.catalog a) where
      abbrev pub event : Reply A → Record A
      event g = record { session = s; action = a; reply = g }

      -- what a step of the world answers and leaves
      module _ (given : Answered A) (m : Ledger A) (more : List (VersionedRows A)) (stepped : IsStepped c s a (kept_current c [] l s) l rows given m more) where
        pub replied : given.reply ≡ answer h.opening h.records s a
        replied = ap (λ (y : Answered A). y.reply) (stepped.reply []) ∙ reply_is h l k rows held c [] p s a

        pub recorded_so : given.recorded ≡ given.reply
        recorded_so = ap (λ (y : Answered A). y.recorded) (stepped.reply []) ∙ sym (ap (λ (y : Answered A). y.reply) (stepped.reply []))

        pub due : given.reply ≡ reply_in (w h l k) s a
        unfolding answer
        due = replied

        pub world_is : world (recorded h s a given.recorded) ≡ follows (w h l k) (event (reply_in (w h l k) s a))
        world_is = run_push (start h.opening) h.records (event given.recorded) ∙ ap (λ g. follows (w h l k) (event g)) (recorded_so ∙ due)

        after : After h l k s a fits m
        after = subst (After h l k s a fits) (sym (stepped.world [] ∙ ap (λ g. kept_after (world_on c [] l) s a g (ready_for (versions_at rows) a (kept_current c [] l s))) due))
            (comes_after h l k s a fits c [] p (versions_at rows) (λ t e. has_own h l k rows held s t e))

        pub kept_now : IsKept (recorded h s a given.recorded) m
        kept_now = record {
          legal = Legal-push h.opening h.records s a given.recorded k.legal fits (recorded_so ∙ replied);
          represents = subst (λ (v : World A). Represents v m) (sym world_is) after.0;
          room = k.room;
        }

        -- the versions
        pub rows_now : HoldsRows (recorded h s a given.recorded) m more
        rows_now = record {
          current = stepped.versions.current;
          shown = λ n above. shown_next h l k s a fits rows held m more after.0 c [] p
              (subst (λ g. StayShown l rows (committed_by a g (kept_current c [] l s)) m more) due stepped.versions) n above ∙ sym (ap (λ (v : World A). tables_at v n) world_is);
        }

        -- what the event committed
        last_is : committed_at m.place m.txns ≡ committed_at (world (recorded h s a given.recorded)).place (world (recorded h s a given.recorded)).txns
        last_is = after.1 ∙ sym (ap (λ (v : World A). committed_at v.place v.txns) world_is)

        -- where it wasn't a COMMIT, it committed none
        by_commit : cond (is_commit a) (option_to_list (committed_at m.place m.txns)) [] ≡ option_to_list (committed_at m.place m.txns)
        by_commit = go (is_commit a) refl
          where
            go : (b : Bool) → is_commit a ≡ b → cond b (option_to_list (committed_at m.place m.txns)) [] ≡ option_to_list (committed_at m.place m.txns)
            go true e = refl
            go false e = sym (ap option_to_list (after.1 ∙ ap (λ n. committed_at n (follows (w h l k) (event (reply_in (w h l k) s a))).txns) (follows_place (w h l k) (event (reply_in (w h l k) s a)))
                ∙ none_committed (w h l k) (good h l k) (event (reply_in (w h l k) s a)) e))

        -- the keys with that of what it committed
        pub keys_now : (ks js : List (TxnNo × SerialKey)) (room capacity : ℕ) → HoldsKeys h ks room → length h.records < h.most
            → map keyed js ≡ map keyed ks ++ cond (is_commit a) (option_to_list (committed_at m.place m.txns)) [] → length js ≤ length ks + 1 → capacity ≡ room → HoldsKeys (recorded h s a given.recorded) js capacity
        keys_now ks js room capacity keys few e n q = record {
          keys = e ∙ ap (λ xs. map keyed ks ++ xs) by_commit ∙ ap (λ xs. xs ++ option_to_list (committed_at m.place m.txns)) keys.keys ∙ ap (λ o. keys_by_commit (w h l k) ++ option_to_list o) last_is
              ∙ sym (keys_push h.opening h.records (event given.recorded) kept_now.legal (ap (λ (v : World A). v.place) world_is ∙ follows_place (w h l k) (event (reply_in (w h l k) s a))));
          few = let i : length (h.records ++ event given.recorded ∷ []) ≡ length h.records + 1 = length_push h.records (event given.recorded) in let j = keys.few in omega (arith, i, j, n);
          room = let j = keys.room in omega (arith, j, q);
        }

    pub keys_room : (ks : List (TxnNo × SerialKey)) (room : ℕ) → HoldsKeys h ks room → length h.records < h.most → length ks < room
    keys_room ks room held few = let p = held.few in let q = held.room in omega (arith, p, q, few)

    -- ---- checkpoints

    quiet_is : are_quiet l.txns ≡ is_quiet (w h l k)
    quiet_is =
        ap are_quiet (r h l k).txns ∙ list_all-map (λ (t : Txn A). not (is_owed t.standing)) kept (kept_of (r h l k).keep (w h l k).txns)
        ∙ all_kept (λ (t : Txn A). not (is_owed t.standing)) (λ u. (r h l k).keep u.number) (w h l k).txns
        (λ t i e. ap not (false_from_ne_true (is_owed t.standing) (λ o. clash ((r h l k).keep t.number) (owed_stays (w h l k) (r h l k).oldest (r h l k).keep (r h l k).keeps t i o) e)))

    counted_is : record { transactions = l.base.transactions + length l.txns; commits = l.base.commits; identifiers = l.base.identifiers + length l.exports; events = l.place } ≡ base_after (w h l k)
    counted_is =
        ap (λ n. record { transactions = n; commits = l.base.commits; identifiers = l.base.identifiers + length l.exports; events = l.place }) (r h l k).transactions
        ∙ ap (λ n. record (base_after (w h l k)) { commits = n; identifiers = l.base.identifiers + length l.exports; events = l.place }) (r h l k).commits
        ∙ ap (λ n. record (base_after (w h l k)) { identifiers = n; events = l.place }) (r h l k).identifiers
        ∙ ap (λ n. record (base_after (w h l k)) { events = n }) place_is

    checkpoint_with : (most : ℕ) (b : Bool) → are_quiet l.txns ≡ b
        → checkpoint_answer h.opening h.records most ≡ cond {A = Result (Opening A) Refusal} (not b) (Err (of_code code.ObjectNotInPrerequisiteState)) (cond (most == 0 || nat_le (2 ^ 64) (l.place + most)) (Err (of_code code.ProgramLimitExceeded)) (Ok (opening_after (w h l k))))
    checkpoint_with most b e =
        ap (λ q. cond {A = Result (Opening A) Refusal} (not q) (Err (of_code code.ObjectNotInPrerequisiteState)) (cond (most == 0 || nat_le (2 ^ 64) ((w h l k).place + most)) (Err (of_code code.ProgramLimitExceeded)) (Ok (opening_after (w h l k))))) (sym quiet_is ∙ e)
        ∙ ap (λ n. cond {A = Result (Opening A) Refusal} (not b) (Err (of_code code.ObjectNotInPrerequisiteState)) (cond (most == 0 || nat_le (2 ^ 64) (n + most)) (Err (of_code code.ProgramLimitExceeded)) (Ok (opening_after (w h l k))))) (sym place_is)

    pub checkpoint_busy : (most : ℕ) → are_quiet l.txns ≡ false → checkpoint_answer h.opening h.records most ≡ Err (of_code code.ObjectNotInPrerequisiteState)
    checkpoint_busy most e = checkpoint_with most false e

    pub checkpoint_many : (most : ℕ) → are_quiet l.txns ≡ true → (most == 0 || nat_le (2 ^ 64) (l.place + most)) ≡ true → checkpoint_answer h.opening h.records most ≡ Err (of_code code.ProgramLimitExceeded)
    checkpoint_many most e f = checkpoint_with most true e ∙ ap (λ b. cond {A = Result (Opening A) Refusal} b (Err (of_code code.ProgramLimitExceeded)) (Ok (opening_after (w h l k)))) f

    module _ (rows : List (VersionedRows A)) (held : HoldsRows h l rows) where
      pub tables_now : shown l.base.commits rows ≡ tables_at (w h l k) (commits (w h l k))
      tables_now = held.shown l.base.commits (ap (λ b. b || is_owed_at l.base.commits l.txns) (le-leb l.base.commits l.base.commits (omega arith))) ∙ ap (tables_at (w h l k)) (r h l k).commits

      opening_is : (c : Catalog) (X : Tables A) (b : Base) → c ≡ h.opening.catalog → b ≡ record { transactions = l.base.transactions + length l.txns; commits = l.base.commits; identifiers = l.base.identifiers + length l.exports; events = l.place }
          → X ≡ shown b.commits rows → opening_after (w h l k) ≡ record { catalog = c; tables = X; base = b }
      opening_is c X b p q e =
          let based : b ≡ base_after (w h l k) = q ∙ counted_is in
          let same : X ≡ tables_at (w h l k) (commits (w h l k)) = e ∙ ap (λ (y : Base). shown y.commits rows) q ∙ tables_now in
          ap (λ d. record { catalog = d; tables = tables_at (w h l k) (commits (w h l k)); base = base_after (w h l k) }) (catalog_is h l k ∙ sym p)
          ∙ ap (λ (Y : Tables A). record { catalog = c; tables = Y; base = base_after (w h l k) }) (sym same)
          ∙ ap (λ d. record { catalog = c; tables = X; base = d }) (sym based)

      pub checkpoint_is : (most : ℕ) (c : Catalog) (X : Tables A) (b : Base) → are_quiet l.txns ≡ true → (most == 0 || nat_le (2 ^ 64) (l.place + most)) ≡ false → c ≡ h.opening.catalog
          → b ≡ record { transactions = l.base.transactions + length l.txns; commits = l.base.commits; identifiers = l.base.identifiers + length l.exports; events = l.place } → X ≡ shown b.commits rows
          → checkpoint_answer h.opening h.records most ≡ Ok (record { catalog = c; tables = X; base = b })
      checkpoint_is most c X b e f p q g =
          checkpoint_with most true e ∙ ap (λ d. cond {A = Result (Opening A) Refusal} d (Err (of_code code.ProgramLimitExceeded)) (Ok (opening_after (w h l k)))) f
          ∙ ap Ok (opening_is c X b p q g)

      pub checkpoint_sound : (c : Catalog) (X : Tables A) (b : Base) → c ≡ h.opening.catalog
          → b ≡ record { transactions = l.base.transactions + length l.txns; commits = l.base.commits; identifiers = l.base.identifiers + length l.exports; events = l.place } → X ≡ shown b.commits rows → is_sound c X ≡ true
      checkpoint_sound c X b p q g = subst (λ (o : Opening A). is_sound o.catalog o.tables ≡ true) (opening_is c X b p q g) (always_sound h.opening h.records k.legal (commits (w h l k)) (omega arith))

      -- the versions are of the catalog's tables
      pub as_many : (c : Catalog) → c ≡ h.opening.catalog → length c ≡ length rows
      as_many c p =
          ap length (p ∙ sym (catalog_is h l k))
          ∙ lengths (w h l k).catalog (tables_at (w h l k) (commits (w h l k))) (held_sound (w h l k).catalog (tables_at (w h l k) (commits (w h l k))) (always_sound h.opening h.records k.legal (commits (w h l k)) (omega arith)))
          ∙ ap length (sym tables_now) ∙ length_map (shown_rows l.base.commits) rows

  -- ---- an opening

  pub holds_none : (h : Recorded A) (b : Base) (c : Catalog) (X : Tables A) (most : ℕ) → h ≡ record { opening = record { catalog = c; tables = X; base = b }; records = []; most = most }
      → (ks : List (TxnNo × SerialKey)) → ks ≡ [] → (capacity : ℕ) → most ≤ capacity → HoldsKeys h ks capacity
  holds_none h b c X most e ks none capacity room = subst (λ (v : Recorded A). HoldsKeys v ks capacity) (sym e)
      (subst (λ (xs : List (TxnNo × SerialKey)). HoldsKeys (record { opening = record { catalog = c; tables = X; base = b }; records = []; most = most }) xs capacity) (sym none) (record { keys = refl; few = omega arith; room = room }))

  -- nothing is kept of nothing
  starts : (o : Opening A) → Represents (start o) (record { base = o.base; txns = []; exports = []; place = o.base.events })
  starts o = record {
    oldest = o.base.commits;
    keep = λ _. true;
    keeps = record { oldest = tt; needed = tt };
    seen = omega arith;
    txns = refl;
    exports = refl;
    exporters = tt;
    transactions = refl;
    commits = omega arith;
    identifiers = refl;
    place = refl;
  }

  pub kept_on : (h : Recorded A) (l : Ledger A) (b : Base) (c : Catalog) (X : Tables A) (most : ℕ) → h ≡ record { opening = record { catalog = c; tables = X; base = b }; records = []; most = most }
      → l ≡ record { base = b; txns = []; exports = []; place = b.events } → is_sound c X ≡ true → b.events + most < 2 ^ 64 → IsKept h l
  kept_on h l b c X most e f sound few = subst (λ (v : Recorded A). IsKept v l) (sym e) (subst (IsKept (record { opening = record { catalog = c; tables = X; base = b }; records = []; most = most })) (sym f) (record {
    legal = Legal-start (record { catalog = c; tables = X; base = b }) sound;
    represents = starts (record { catalog = c; tables = X; base = b });
    room = few;
  }))
