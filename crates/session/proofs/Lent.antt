-- What is kept of a legal history's world answers as the world does.
use Rattle.std.proofs.Common.{◌≡◌, refl, sym, ap, subst, ◌∙◌, ℕ, ◌+◌, true, false, true≢false, cond, ◌&&◌, ◌⊎◌, inl, inr, Result, Ok, Err, List, [], map, eqb, Option, Some, None, arith}
use Rattle.std.proofs.lemmas.Bool.{and_right, and_parts, or_right}
use Rattle.std.specs.List.{filter, find}
use Rattle.std.specs.Option.{option_map}
use Rattle.value.specs.declared.refusal.Code.TheVariants as code
use Rattle.value.specs.declared.refusal.Refusal.{Refusal}
use Rattle.value.specs.Refusals.{AnswersOrNoMemory, of_code}
use Rattle.value.specs.Isolation.{is_dangerous}
use Rattle.value.proofs.IsolationLemmas.{In}
use Rattle.value.proofs.Basics.{filter-In, In-mapped, In-map}
use Rattle.value.proofs.Lists.{In-filter, find-alike}
use Rattle.schema.specs.Definition.{Catalog}
use Rattle.schema.specs.declared.tables.Tables.{Tables}
use Rattle.schema.specs.Plain.{put_all}
use Rattle.statement.specs.declared.statement.Statement.{Statement}
use Rattle.statement.specs.declared.reply.Reply.{Reply}
use Rattle.statement.specs.Walk.{are_of}
use Rattle.statement.proofs.HeldLemmas.{held_sound}
use Rattle.history.specs.declared.event.Action.{Action}
use Rattle.history.specs.declared.event.Action.TheVariants.{Run}
use Rattle.history.specs.Opening.{Recorded}
use Rattle.history.specs.Transactions.{Standing, Open, Doomed, Failed, Aborted, Done, Txn, World, Exported_snapshot, current, edge, is_living, is_open, is_owed, must_wait, node, tables_at}
use Rattle.history.specs.Events.{numbered, replaced, start, world}
use Rattle.history.specs.Answer.{answer, committing, reader_answer, reader_from, reader_of, reply_of, view_answer, view_from, view_of}
use Rattle.history.specs.Needed.{HoldCommitter, kept_of, thin}
use Rattle.serial.proofs.legal.Legal.{current_in}
use Rattle.serial.proofs.legal.AlwaysSound.{own_sound}
use Rattle.serial.proofs.legal.Histories.{run-catalog}
use Rattle.serial.proofs.safe.Prefix.{all_by, by_all}
use Rattle.serial.proofs.order.SerialTheorem.{IsGood, good_world}
use Rattle.serial.proofs.needed.Cause.{hold_committer, kept_replaced}
use Rattle.serial.proofs.needed.Replies.{current_of_kept, living_of_kept, owed_stays}
use Rattle.serial.proofs.needed.World.{replies_kept}
use Rattle.mvrows.specs.Versions.{VersionedRows, shown}
use Rattle.transactions.specs.Ledger.{Ledger, kept, kept_current, ready_for, with_own, world_on}
use Rattle.transactions.specs.Runs.{HoldsCommitter, HoldsCurrent, IsFoundFor}
use Rattle.transactions.specs.Versions.{versions_at}
use Rattle.transactions.proofs.InstallLemmas.{owed-is_read}
use Rattle.transactions.specs.Views.{reader_on, view_at, view_on}
use Rattle.session.specs.Core.{HoldsRows, IsFoundReply, IsKept}
use Rattle.session.specs.Kept.{Represents}
use Rattle.session.proofs.Kept.{IsLike, find_same, living_kept, on, replaced_kept, same_current, same_numbered, same_ready, same_reply}

module _ {A : Type 0} where
  -- its statements don't matter for what it reads
  same_reader : (st : Standing) (t : Txn A) → reader_from st (record t { statements = [] }) ≡ reader_from st t
  same_reader Open t = refl
  same_reader (Doomed c) t = refl
  same_reader Failed t = refl
  same_reader Aborted t = refl
  same_reader Done t = refl

  -- an open transaction that needn't wait reads its own tables
  open_reads : (st : Standing) (t : Txn A) → is_open st ≡ true → must_wait t ≡ false → reader_from st t ≡ Ok t.own
  open_reads Open t o m = ap (λ b. cond {A = Result (Tables A) Refusal} b (Err (of_code code.ObjectNotInPrerequisiteState)) (Ok t.own)) m
  open_reads (Doomed c) t o m = absurd (true≢false (sym o))
  open_reads Failed t o m = absurd (true≢false (sym o))
  open_reads Aborted t o m = absurd (true≢false (sym o))
  open_reads Done t o m = absurd (true≢false (sym o))

  module _ (h : Recorded A) (l : Ledger A) (k : IsKept h l) where
    abbrev pub w : World A
    w = world h

    abbrev pub r : Represents w l
    r = k.represents

    abbrev pub thinned : World A
    thinned = thin r.keep w

    -- the world of what is kept
    abbrev pub lent : Tables A → World A
    lent X = on thinned X l.base l.exports

    pub good : IsGood w
    good = good_world h.opening h.records k.legal

    pub catalog_is : w.catalog ≡ h.opening.catalog
    catalog_is = run-catalog (start h.opening) h.records

    pub lent_is : (c : Catalog) (X : Tables A) → c ≡ h.opening.catalog → world_on c X l ≡ lent X
    lent_is c X e =
        ap (λ d. world_on d X l) (e ∙ sym catalog_is)
        ∙ ap (λ ts. record { catalog = w.catalog; opening = X; base = l.base; log = []; txns = ts; exports = l.exports; place = l.place }) r.txns
        ∙ ap (λ p. record { catalog = w.catalog; opening = X; base = l.base; log = []; txns = map kept (kept_of r.keep w.txns); exports = l.exports; place = p }) r.place

    pub living_is : (x : Exported_snapshot) → is_living (map kept (kept_of r.keep w.txns)) x ≡ is_living w.txns x
    living_is x = living_kept (kept_of r.keep w.txns) x ∙ living_of_kept w r.oldest r.keep r.keeps x

    -- only those that live are found
    sought : (n : ℕ) (xs : List Exported_snapshot) → find (λ x. eqb x.id n && is_living w.txns x) (filter (is_living w.txns) xs) ≡ find (λ x. eqb x.id n && is_living w.txns x) xs
    sought n xs = find-alike (λ x. eqb x.id n && is_living w.txns x) (is_living w.txns) xs (λ x i e. and_right (eqb x.id n) (is_living w.txns x) e)

    pub like : (X : Tables A) → IsLike thinned (lent X)
    like X = record {
      commits = omega (arith, r.commits);
      next = ap (λ n. n + 1) r.identifiers;
      exported = λ n.
          find_same _ _ (λ x. ap (λ b. eqb x.id n && b) (living_is x)) l.exports
          ∙ sym (sought n l.exports) ∙ ap (find (λ x. eqb x.id n && is_living w.txns x)) r.exports ∙ sought n w.exports
          ∙ sym (find_same (λ x. eqb x.id n && is_living (kept_of r.keep w.txns) x) (λ x. eqb x.id n && is_living w.txns x) (λ x. ap (λ b. eqb x.id n && b) (living_of_kept w r.oldest r.keep r.keeps x)) w.exports);
    }

    pub thinned_current : (s : ℕ) → current thinned s ≡ current w s
    thinned_current s = current_of_kept w r.oldest r.keep r.keeps s

    pub lent_current : (X : Tables A) (s : ℕ) → current (lent X) s ≡ option_map kept (current w s)
    lent_current X s = same_current thinned X l.base l.exports (λ n. X) (like X) s ∙ ap (option_map kept) (thinned_current s)

    -- whose session has still to end it is kept
    pub owed_in : (t : Txn A) → In t w.txns → is_owed t.standing ≡ true → In (kept t) l.txns
    owed_in t i o = subst (In (kept t)) (sym r.txns) (In-mapped kept t (kept_of r.keep w.txns) (filter-In (λ u. r.keep u.number) t w.txns i (owed_stays w r.oldest r.keep r.keeps t i o)))

    pub owed_of : (s : ℕ) (t : Txn A) → current w s ≡ Some t → In t w.txns × (is_owed t.standing ≡ true)
    owed_of s t e = let i = current_in w s t e in (i.0, (and_parts (eqb t.session s) (is_owed t.standing) i.1).1)

    module _ (rows : List (VersionedRows A)) (held : HoldsRows h l rows) where
      pub at_snapshot : (s : ℕ) (t : Txn A) → current w s ≡ Some t → shown t.snapshot rows ≡ tables_at w t.snapshot
      at_snapshot s t e = let i = owed_of s t e in held.shown t.snapshot (or_right _ _ (owed-is_read l.txns (kept t) (owed_in t i.0 i.1) i.1))

      pub has_own : (s : ℕ) (t : Txn A) → current w s ≡ Some t → t.own ≡ put_all t.changes (shown t.snapshot rows)
      has_own s t e = (good.faithful.each t (current_in w s t e).0).own ∙ ap (put_all t.changes) (sym (at_snapshot s t e))

      -- ---- replies

      pub reply_is : (c : Catalog) (X : Tables A) → c ≡ h.opening.catalog → (s : ℕ) (a : Action A)
          → reply_of (world_on c X l) (ready_for (versions_at rows) a (kept_current c X l s)) a ≡ answer h.opening h.records s a
      unfolding answer
      reply_is c X p s a =
          ap (λ (v : World A). reply_of v (ready_for (versions_at rows) a (current v s)) a) (lent_is c X p)
          ∙ same_reply thinned X l.base l.exports (versions_at rows) (like X) s a (λ t e. has_own s t (sym (thinned_current s) ∙ e))
          ∙ replies_kept h.opening h.records k.legal r.oldest r.keep r.keeps s a

      -- the tables of the session's transaction, with its own changes, are the catalog's
      held_of : (c : Catalog) → c ≡ h.opening.catalog → (s : ℕ) (o : Option (Txn A)) → current w s ≡ o → HoldsCurrent c (versions_at rows) (option_map kept o)
      held_of c p s None e t f = cc
      held_of c p s (Some u) e t f =
          let same : kept u ≡ t = cc in
          subst (λ (y : Txn A). are_of c (with_own (versions_at rows) y).own ≡ true) same
          (subst (λ (Y : Tables A). are_of c Y ≡ true) (has_own s u e)
          (subst (λ d. are_of d u.own ≡ true) (catalog_is ∙ sym p) (held_sound w.catalog u.own (own_sound h.opening h.records k.legal u (current_in w s u e).0))))

      pub rows_held : (c : Catalog) (X : Tables A) → c ≡ h.opening.catalog → (s : ℕ) → HoldsCurrent c (versions_at rows) (kept_current c X l s)
      rows_held c X p s = subst (HoldsCurrent c (versions_at rows)) (sym (ap (λ (v : World A). current v s) (lent_is c X p) ∙ lent_current X s)) (held_of c p s (current w s) refl)

      -- ---- views and readers

      view_of_one : (s : ℕ) (o : Option (Txn A)) → current w s ≡ o → view_on (versions_at rows) (option_map kept o) ≡ view_of w o
      view_of_one s None e = refl
      view_of_one s (Some t) e = go t.standing
        where
          go : (st : Standing) → view_at st (versions_at rows) (kept t) ≡ view_from st w t
          go Failed = refl
          go _ = ap (λ (Y : Tables A). cond t.known (Ok Y) (Err (of_code code.ObjectNotInPrerequisiteState))) (at_snapshot s t e)

      view_is : (c : Catalog) (X : Tables A) → c ≡ h.opening.catalog → (s : ℕ) → view_on (versions_at rows) (kept_current c X l s) ≡ view_answer h.opening h.records s
      view_is c X p s = ap (λ (v : World A). view_on (versions_at rows) (current v s)) (lent_is c X p) ∙ ap (view_on (versions_at rows)) (lent_current X s) ∙ view_of_one s (current w s) refl

      pub viewed : (s : ℕ) (g : Result (Tables A) Refusal) → ((c : Catalog) (X : Tables A) → AnswersOrNoMemory g (view_on (versions_at rows) (kept_current c X l s))) → AnswersOrNoMemory g (view_answer h.opening h.records s)
      viewed s g e = subst (AnswersOrNoMemory g) (view_is h.opening.catalog h.opening.tables refl s) (e h.opening.catalog h.opening.tables)

      reader_of_one : (s : ℕ) (o : Option (Txn A)) → current w s ≡ o → reader_on (versions_at rows) (option_map kept o) ≡ reader_of o
      reader_of_one s None e = refl
      reader_of_one s (Some t) e = ap (λ (x : Txn A). reader_of (Some x)) (same_ready thinned [] l.base l.exports (versions_at rows) (like []) t (has_own s t e)) ∙ same_reader t.standing t

      reader_is : (c : Catalog) (X : Tables A) → c ≡ h.opening.catalog → (s : ℕ) → reader_on (versions_at rows) (kept_current c X l s) ≡ reader_answer h.opening h.records s
      reader_is c X p s = ap (λ (v : World A). reader_on (versions_at rows) (current v s)) (lent_is c X p) ∙ ap (reader_on (versions_at rows)) (lent_current X s) ∙ reader_of_one s (current w s) refl

      pub read : (s : ℕ) (g : Result (Tables A) Refusal) → ((c : Catalog) (X : Tables A) → AnswersOrNoMemory g (reader_on (versions_at rows) (kept_current c X l s))) → AnswersOrNoMemory g (reader_answer h.opening h.records s)
      read s g e = subst (AnswersOrNoMemory g) (reader_is h.opening.catalog h.opening.tables refl s) (e h.opening.catalog h.opening.tables)

      -- a reply that was found on what the reader gave is the statement's
      pub found : (s : ℕ) (q : Statement A) (g : Reply A) → IsFoundReply h.opening h.records s q g → IsFoundFor h.opening.catalog (ready_for (versions_at rows) (Run q) (kept_current h.opening.catalog [] l s)) (Run q) g
      found s q g is = go (kept_current h.opening.catalog [] l s) refl
        where
          go : (o : Option (Txn A)) → kept_current h.opening.catalog [] l s ≡ o → IsFoundFor h.opening.catalog (ready_for (versions_at rows) (Run q) o) (Run q) g
          go None e = tt
          go (Some t) e = λ active ready. is (with_own (versions_at rows) t).own
              (sym (reader_is h.opening.catalog [] refl s) ∙ ap (reader_on (versions_at rows)) e ∙ open_reads t.standing (with_own (versions_at rows) t) active ready)

    -- ---- structures hold the committer

    committed_all : (X : Tables A) (t : Txn A) → committing (lent X) (kept t) ≡ map kept (kept_of r.keep (committing w t))
    committed_all X t =
        ap (λ x. replaced x (map kept (kept_of r.keep w.txns))) (same_numbered thinned X l.base l.exports (λ n. X) (like X) t)
        ∙ replaced_kept (numbered w t) (kept_of r.keep w.txns) ∙ ap (map kept) (sym (kept_replaced r.keep (numbered w t) w.txns))

    one_holds : (X : Tables A) (s : ℕ) (t : Txn A) → current w s ≡ Some t → is_open t.standing ≡ true → HoldCommitter (lent X) (kept t)
    one_holds X s t e o = all_by _ cs (λ a i. all_by _ cs (λ b j. all_by _ cs (λ c m q. go a b c (from a i) (from b j) (from c m) q)))
      where
        cs : List (Txn A)
        cs = committing (lent X) (kept t)

        Whole : Txn A → Type 0
        Whole a = (u : Txn A) × In u (committing w t) × (a ≡ kept u)

        from : (a : Txn A) → In a cs → Whole a
        from a i =
            let m = In-map kept a (kept_of r.keep (committing w t)) (subst (In a) (committed_all X t) i) in
            (m.0, (In-filter (λ u. r.keep u.number) m.0 (committing w t) m.1).0, m.2)

        is_it : (a u : Txn A) → a ≡ kept u → u ≡ numbered w t → a ≡ numbered (lent X) (kept t)
        is_it a u p q = p ∙ ap kept q ∙ sym (same_numbered thinned X l.base l.exports (λ n. X) (like X) t)

        go : (a b c : Txn A) → Whole a → Whole b → Whole c → is_dangerous node edge a b c ≡ true → (a ≡ numbered (lent X) (kept t)) ⊎ (b ≡ numbered (lent X) (kept t))
        go a b c x y z q = last (whole x.0 y.0 z.0 x.1 y.1 z.1 danger)
          where
            danger : is_dangerous node edge x.0 y.0 z.0 ≡ true
            danger = sym (ap (λ u. is_dangerous node edge u b c) x.2 ∙ ap (λ u. is_dangerous node edge (kept x.0) u c) y.2 ∙ ap (λ u. is_dangerous node edge (kept x.0) (kept y.0) u) z.2) ∙ q

            law : HoldCommitter w t
            law = hold_committer h.opening h.records k.legal s t (e, o)

            whole : (u v d : Txn A) → In u (committing w t) → In v (committing w t) → In d (committing w t) → is_dangerous node edge u v d ≡ true → (u ≡ numbered w t) ⊎ (v ≡ numbered w t)
            whole u v d i j m = by_all _ (committing w t) d (by_all _ (committing w t) v (by_all _ (committing w t) u law i) j) m

            last : (x.0 ≡ numbered w t) ⊎ (y.0 ≡ numbered w t) → (a ≡ numbered (lent X) (kept t)) ⊎ (b ≡ numbered (lent X) (kept t))
            last (inl p) = inl (is_it a x.0 x.2 p)
            last (inr p) = inr (is_it b y.0 y.2 p)

    holds_of : (X : Tables A) (s : ℕ) (o : Option (Txn A)) → current w s ≡ o → HoldsCommitter (lent X) (option_map kept o)
    holds_of X s None e t f a = cc
    holds_of X s (Some u) e t f a =
        let same : kept u ≡ t = cc in
        subst (HoldCommitter (lent X)) same (one_holds X s u e (ap (λ (y : Txn A). is_open y.standing) same ∙ a))

    pub committer_held : (c : Catalog) (X : Tables A) → c ≡ h.opening.catalog → (s : ℕ) → HoldsCommitter (world_on c X l) (kept_current c X l s)
    committer_held c X p s = subst (λ (v : World A). HoldsCommitter v (current v s)) (sym (lent_is c X p))
        (subst (HoldsCommitter (lent X)) (sym (lent_current X s)) (holds_of X s (current w s) refl))
