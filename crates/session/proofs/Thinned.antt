-- What is left after forgetting represents the same world.
use Rattle.std.proofs.Common.{◌≡◌, sym, ap, subst, refl, ◌∙◌, ℕ, ◌+◌, ◌≤◌, max, Bool, true, false, cond, not, ◌&&◌, ◌||◌, ◌⊎◌, inl, inr, List, [], ◌∷◌, length, map, eqb, nat_le, arith}
use Rattle.std.proofs.Math.Nat.{le-max_left, le-max_right}
use Rattle.std.specs.List.{filter, list_any}
use Rattle.std.proofs.lemmas.Bool.{eqb-true, eq-eqb, leb-true, and_parts, and_from, or_cases, or_left, or_right}
use Rattle.std.specs.Cmp.{both_ways}
use Rattle.value.specs.declared.refusal.TxnNo.{TxnNo}
use Rattle.value.proofs.IsolationLemmas.{In}
use Rattle.value.proofs.Basics.{filter-In, any-In, In-any, filter-map}
use Rattle.value.proofs.Lists.{In-filter, clash, filter-kept, filter_alike}
use Rattle.history.specs.declared.key.SerialKey.{SerialKey}
use Rattle.history.specs.Opening.{Recorded}
use Rattle.history.specs.Transactions.{Txn, World, Exported_snapshot, edge, is_done, is_living, is_open, is_owed, is_pending, is_read_write, is_spoilt}
use Rattle.history.specs.Needed.{IsOldest, Keeps, is_late_reader, is_needed, is_recent, is_safe_reader, is_settled, kept_of, needed_numbers}
use Rattle.serial.proofs.needed.Cause.{oldest_is, open_owed}
use Rattle.serial.proofs.needed.Questions.{any-kept, pending_of_kept}
use Rattle.serial.proofs.needed.Raised.{needed_too, raised}
use Rattle.serial.proofs.safe.Prefix.{all_by, by_all}
use Rattle.serial.proofs.order.SerialTheorem.{good_world}
use Rattle.mvrows.specs.Versions.{VersionedRows, TablesAreBelow}
use Rattle.transactions.specs.Active.{first_active}
use Rattle.transactions.specs.Forgetting.{IsThinned, holds_back, is_left, is_safe_from, number_before, oldest}
use Rattle.transactions.specs.Keys.{keyed}
use Rattle.transactions.specs.Ledger.{Ledger, is_awaited, is_pending_at, kept}
use Rattle.transactions.specs.Versions.{is_owed_at, may_be_read}
use Rattle.transactions.proofs.ActiveLemmas.{none_pending}
use Rattle.transactions.proofs.InstallLemmas.{owed-is_read, read-is_owed}
use Rattle.session.specs.Unspoilt.{AreUnspoilt}
use Rattle.session.proofs.UnspoiltLemmas.{one_unspoilt}
use Rattle.session.specs.Core.{HoldsKeys, HoldsRows, IsKept}
use Rattle.session.specs.Kept.{Represents}
use Rattle.session.proofs.Kept.{any_map}
use Rattle.session.proofs.Least.{least_most, least_of}
use Rattle.session.proofs.Lent.{living_is, owed_in, r, w}
use Rattle.session.proofs.Polls.{by_keys}

-- those that pass one test, and of these those that pass another
filter-both : {X : Type 0} (p q : X → Bool) (xs : List X) → filter q (filter p xs) ≡ filter (λ x. p x && q x) xs
filter-both p q [] = refl
filter-both {X} p q (x ∷ xs) = go (p x) (filter-both p q xs)
  where
    go : (b : Bool) → filter q (filter p xs) ≡ filter (λ y. p y && q y) xs → filter q (cond b (x ∷ filter p xs) (filter p xs)) ≡ cond (b && q x) (x ∷ filter (λ y. p y && q y) xs) (filter (λ y. p y && q y) xs)
    go true e = ap (λ ys. cond (q x) (x ∷ ys) ys) e
    go false e = e

max_below : (a b c : ℕ) → a ≤ c → b ≤ c → max a b ≤ c
max_below a b c l m = grind arith

module _ {A : Type 0} where
  -- what matters of transactions doesn't depend on what is left out of them
  needed_kept : (n : ℕ) (ts : List (Txn A)) (u : Txn A) → is_needed n (map kept ts) (kept u) ≡ is_needed n ts u
  needed_kept n ts u = ap (λ b. is_owed u.standing || is_recent n u || is_late_reader n u || (is_done u.standing && b)) (any_map kept (λ v. is_recent n v && edge v (kept u)) ts)

  module _ (h : Recorded A) (l : Ledger A) (k : IsKept h l) (ks : List (TxnNo × SerialKey)) (room : ℕ) (keys : HoldsKeys h ks room) (ns : List ℕ) (unspoilt : AreUnspoilt (map keyed ks) ns) (m : Ledger A) (t : IsThinned ns l m) where
    abbrev n : ℕ
    n = oldest ns l

    abbrev old : World A
    old = w h l k

    abbrev ts : List (Txn A)
    ts = kept_of (r h l k).keep old.txns

    -- whose snapshot no commit has spoilt, and was taken before the first of the open ones began that may write, is a safe reader
    settled : (u : Txn A) → In u old.txns → (nat_le u.taken (first_active l.txns) && list_any (λ i. eqb i u.snapshot) ns) ≡ true → is_settled old.txns u ≡ true
    settled u i e = and_from _ _ (ap not pending) (ap not spoilt)
      where
        p : (nat_le u.taken (first_active l.txns) ≡ true) × (list_any (λ i. eqb i u.snapshot) ns ≡ true)
        p = and_parts (nat_le u.taken (first_active l.txns)) (list_any (λ i. eqb i u.snapshot) ns) e

        pending : is_pending old.txns u ≡ false
        pending =
            sym (pending_of_kept old (r h l k).oldest (r h l k).keep (r h l k).keeps u) ∙ sym (any_map kept (is_awaited u.taken) ts) ∙ sym (ap (λ us. is_pending_at us u.taken) (r h l k).txns)
            ∙ none_pending l.txns u.taken (leb-true u.taken (first_active l.txns) p.0)

        spoilt : is_spoilt old.txns u ≡ false
        spoilt = by_keys h l k ks room keys u i ∙ one_unspoilt (map keyed ks) u.snapshot ns unspoilt p.1

    safe_from : (u : Txn A) → In u old.txns → is_safe_from ns (first_active l.txns) u ≡ true → is_safe_reader old.txns u ≡ true
    safe_from u i e = and_from _ _ p.0 (safe (or_cases u.known (nat_le u.taken (first_active l.txns) && list_any (λ i. eqb i u.snapshot) ns) p.1))
      where
        p : (not (is_read_write u.mode) ≡ true) × ((u.known || nat_le u.taken (first_active l.txns) && list_any (λ i. eqb i u.snapshot) ns) ≡ true)
        p = and_parts (not (is_read_write u.mode)) (u.known || nat_le u.taken (first_active l.txns) && list_any (λ i. eqb i u.snapshot) ns) e

        safe : (u.known ≡ true) ⊎ ((nat_le u.taken (first_active l.txns) && list_any (λ i. eqb i u.snapshot) ns) ≡ true) → (u.known || is_settled old.txns u) ≡ true
        safe (inl q) = or_left u.known _ q
        safe (inr q) = or_right u.known _ (settled u i q)

    -- a transaction that doesn't hold back is a safe reader
    from_computed : (u : Txn A) → In u old.txns → is_open u.standing ≡ true → is_safe_reader old.txns u ≡ false → n ≤ u.snapshot
    from_computed u i o s = by_test (is_safe_from ns (first_active l.txns) u) refl
      where
        by_test : (b : Bool) → is_safe_from ns (first_active l.txns) u ≡ b → n ≤ u.snapshot
        by_test false e = least_of (holds_back ns (first_active l.txns)) l.base.commits l.txns (kept u) (owed_in h l k u i (open_owed u.standing o)) (and_from (is_open u.standing) (not (is_safe_from ns (first_active l.txns) u)) o (ap not e))
        by_test true e = clash (is_safe_reader old.txns u) (safe_from u i e) s

    -- the oldest snapshot never falls
    abbrev top : ℕ
    top = max (r h l k).oldest n

    is_oldest : IsOldest old top
    is_oldest = all_by _ old.txns (λ u i o s. max_below (r h l k).oldest n u.snapshot
        (oldest_is old (good_world h.opening h.records k.legal) u i o (r h l k).oldest (r h l k).keep (r h l k).keeps s) (from_computed u i o s))

    still : Keeps old top (r h l k).keep
    still = raised old (r h l k).oldest top (r h l k).keep (r h l k).keeps (le-max_left (r h l k).oldest n) is_oldest

    -- ---- those that are left: of those that were kept the ones that matter, and some from the front

    abbrev last : ℕ
    last = number_before t.passed (map kept ts)

    abbrev left : ℕ → Bool
    left i = nat_le i last || needed_numbers n ts i

    abbrev stays : ℕ → Bool
    stays i = (r h l k).keep i && left i

    kept_in : (u : Txn A) → In u ts → In u old.txns
    kept_in u i = (In-filter (λ (x : Txn A). (r h l k).keep x.number) u old.txns i).0

    matters : (u : Txn A) → In u ts → is_needed n ts u ≡ true → needed_numbers n ts u.number ≡ true
    matters u j e = In-any (λ v. eqb v.number u.number && is_needed n ts v) ts u j (and_from _ _ (eq-eqb u.number u.number refl) e)

    told : (u : Txn A) → In u ts → needed_numbers n ts u.number ≡ is_needed n ts u
    told u j = both_ways _ _ (λ e. found (any-In (λ v. eqb v.number u.number && is_needed n ts v) ts e)) (matters u j)
      where
        found : (y : Txn A) × In y ts × ((eqb y.number u.number && is_needed n ts y) ≡ true) → is_needed n ts u ≡ true
        found y = let q = and_parts (eqb y.0.number u.number) (is_needed n ts y.0) y.2 in
            ap (is_needed n ts) ((good_world h.opening h.records k.legal).numbered.unique u y.0 (kept_in u j) (kept_in y.0 y.1) (sym (eqb-true y.0.number u.number q.0))) ∙ q.1

    -- what is kept shows what matters
    met : (u : Txn A) → list_any (λ v. is_recent top v && edge v u) ts ≡ list_any (λ v. is_recent top v && edge v u) old.txns
    met u = any-kept (λ v. is_recent top v && edge v u) (λ v. (r h l k).keep v.number) old.txns
        (λ v j e. by_all (λ x. is_needed top old.txns x ≡ true → (r h l k).keep x.number ≡ true) old.txns v still.needed j
        (or_left _ _ (or_left _ _ (or_right (is_owed v.standing) _ (and_parts (is_recent top v) (edge v u) e).0))))

    alike : (u : Txn A) → In u ts → is_left t.passed n (map kept ts) (kept u) ≡ left u.number
    alike u i = ap (λ b. nat_le u.number last || b) (needed_kept n ts u ∙ sym (told u i))

    -- and what matters from the oldest snapshot on matters among what is kept, from the one that was computed on
    needed_among : (u : Txn A) → is_needed top old.txns u ≡ true → is_needed n ts u ≡ true
    needed_among u e = needed_too n top ts u (le-max_right (r h l k).oldest n)
        (ap (λ b. is_owed u.standing || is_recent top u || is_late_reader top u || (is_done u.standing && b)) (met u) ∙ e)

    keeps_left : Keeps old top stays
    keeps_left = record {
      oldest = is_oldest;
      needed = all_by _ old.txns (λ u j e.
          let q = by_all (λ x. is_needed top old.txns x ≡ true → (r h l k).keep x.number ≡ true) old.txns u still.needed j e in
          and_from _ _ q (or_right (nat_le u.number last) _ (matters u (filter-In (λ (x : Txn A). (r h l k).keep x.number) u old.txns j q) (needed_among u e))));
    }

    pub represents_thinned : Represents old m
    represents_thinned = record {
      oldest = top;
      keep = stays;
      keeps = keeps_left;
      seen = max_below (r h l k).oldest n _ (r h l k).seen (let p = least_most (holds_back ns (first_active l.txns)) l.base.commits l.txns in let q = (r h l k).commits in omega (arith, p, q));
      txns =
          t.txns ∙ ap (λ us. filter (is_left t.passed n us) us) (r h l k).txns ∙ filter-map kept (is_left t.passed n (map kept ts)) ts
          ∙ ap (map kept) (filter_alike (λ u. is_left t.passed n (map kept ts) (kept u)) (λ u. left u.number) ts alike ∙ filter-both (λ (u : Txn A). (r h l k).keep u.number) (λ u. left u.number) old.txns);
      exports =
          ap (filter (is_living old.txns)) (t.exports ∙ filter_alike (is_living l.txns) (is_living old.txns) l.exports (λ x i. lives x))
          ∙ filter-kept (is_living old.txns) (is_living old.txns) l.exports (λ x i e. e) ∙ (r h l k).exports;
      exporters = all_by _ m.exports (λ x i. by_all (λ y. y.exporter ≤ old.base.transactions + length old.txns) l.exports x (r h l k).exporters (In-filter (is_living l.txns) x l.exports (subst (In x) t.exports i)).0);
      transactions = t.transactions ∙ (r h l k).transactions;
      commits = t.commits ∙ (r h l k).commits;
      identifiers = t.identifiers ∙ (r h l k).identifiers;
      place = t.place ∙ (r h l k).place;
    }
      where
        lives : (x : Exported_snapshot) → is_living l.txns x ≡ is_living old.txns x
        lives x = ap (λ us. is_living us x) (r h l k).txns ∙ living_is h l k x

    pub kept_thinned : IsKept h m
    kept_thinned = record { legal = k.legal; represents = represents_thinned; room = k.room }

    pub rows_thinned : (rows : List (VersionedRows A)) → HoldsRows h l rows → HoldsRows h m rows
    rows_thinned rows held = record {
      current = record { order = held.current.order; below = subst (λ c. TablesAreBelow (c + 1) rows) (sym t.commits) held.current.below };
      shown = λ i read. held.shown i (left_read i read);
    }
      where
        from_left : (i : ℕ) → (u : Txn A) × In u m.txns × (is_owed u.standing ≡ true) × (u.snapshot ≡ i) → is_owed_at i l.txns ≡ true
        from_left i u = subst (λ n. is_owed_at n l.txns ≡ true) u.3 (owed-is_read l.txns u.0 (In-filter (is_left t.passed n l.txns) u.0 l.txns (subst (In u.0) t.txns u.1)).0 u.2)

        left_read : (i : ℕ) → may_be_read m i ≡ true → may_be_read l i ≡ true
        left_read i read = go (nat_le l.base.commits i) (ap (λ c. nat_le c i || is_owed_at i m.txns) (sym t.commits) ∙ read)
          where
            go : (b : Bool) → (b || is_owed_at i m.txns) ≡ true → (b || is_owed_at i l.txns) ≡ true
            go true e = refl
            go false e = from_left i (read-is_owed i m.txns e)
