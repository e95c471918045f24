-- What is kept after an event represents the world after it.
use Rattle.std.proofs.Common.{◌≡◌, refl, sym, ap, subst, ◌∙◌, ℕ, ◌+◌, ◌≤◌, Bool, true, false, ◌||◌, inl, inr, ◌⊎◌, ◌++◌, length, length-append, map, eqb, Option, Some, None, arith}
use Rattle.std.proofs.lemmas.Bool.{eqb-true, eq-eqb, or_left, or_right, false_from_ne_true}
use Rattle.std.proofs.lemmas.List.Elements.{filter-append}
use Rattle.std.specs.List.{filter}
use Rattle.std.specs.Option.{option_map}
use Rattle.value.proofs.IsolationLemmas.{In}
use Rattle.value.proofs.Lists.{In-append, filter-kept, filter_alike}
use Rattle.schema.specs.Definition.{Catalog}
use Rattle.schema.specs.declared.tables.Tables.{Tables}
use Rattle.schema.specs.Plain.{put_all}
use Rattle.statement.specs.declared.reply.Reply.{Reply}
use Rattle.history.specs.declared.event.Action.{Action}
use Rattle.history.specs.declared.event.Record.{Record}
use Rattle.history.specs.Opening.{Recorded}
use Rattle.history.specs.Transactions.{Txn, World, Exported_snapshot, current, is_living}
use Rattle.history.specs.Events.{follows, followed, without_transaction}
use Rattle.history.specs.declared.event.Action.TheVariants.{Begin}
use Rattle.statement.specs.declared.reply.Reply.TheVariants.{Begun}
use Rattle.history.specs.Answer.{Allowed, reply_in}
use Rattle.history.specs.Needed.{Keeps, is_needed, kept_of}
use Rattle.serial.proofs.needed.Lowest.{HasBegun, commits_later, exporters_begun, lived_before}
use Rattle.serial.proofs.needed.From.{oldest_later}
use Rattle.serial.proofs.needed.Keys.{good_next, last_kept}
use Rattle.serial.proofs.needed.Later.{needed_later}
use Rattle.serial.proofs.safe.Prefix.{all_by, by_all}
use Rattle.transactions.specs.Keys.{committed_at}
use Rattle.transactions.specs.Ledger.{Ledger, kept, kept_after, kept_current, ready_for, world_on}
use Rattle.session.specs.Core.{IsKept}
use Rattle.session.specs.Kept.{Represents}
use Rattle.session.proofs.Becomes.{Becomes, becomes}
use Rattle.session.proofs.KeysKept.{at-kept, committed_alike}
use Rattle.session.proofs.Lent.{catalog_is, good, lent, lent_current, lent_is, r, w}

same_or : (a b : Bool) → b ≡ false → (a || b) ≡ a
same_or true b e = refl
same_or false b e = e

module _ {A : Type 0} where
  without_place : (w : World A) (s : ℕ) (a : Action A) (g : Reply A) → (without_transaction w s a g).place ≡ w.place + 1
  without_place w s (Begin m) Begun = refl
  without_place w s _ _ = refl

  pub follows_place : (w : World A) (e : Record A) → (follows w e).place ≡ w.place + 1
  follows_place w e = go (current w e.session)
    where
      go : (o : Option (Txn A)) → (followed w e o).place ≡ w.place + 1
      go None = without_place w e.session e.action e.reply
      go (Some t) = refl

  -- ---- the next transaction may be kept

  module _ (h : Recorded A) (l : Ledger A) (k : IsKept h l) where
    abbrev pub next : ℕ
    next = (w h l k).base.transactions + length (w h l k).txns + 1

    abbrev pub more : ℕ → Bool
    more i = (r h l k).keep i || eqb i next

    same_kept : kept_of more (w h l k).txns ≡ kept_of (r h l k).keep (w h l k).txns
    same_kept = filter_alike (λ u. more u.number) (λ u. (r h l k).keep u.number) (w h l k).txns (λ u i. same_or ((r h l k).keep u.number) (eqb u.number next)
        (false_from_ne_true (eqb u.number next) (λ q. absurd (let b = (good h l k).numbered.bounded u i in let e : u.number ≡ next = eqb-true u.number next q in omega (arith, b, e)))))

    -- What is kept of the history, with the number of the next transaction among the kept ones.
    pub widened : IsKept h l
    widened = record {
      legal = k.legal;
      represents = record {
        oldest = (r h l k).oldest;
        keep = more;
        keeps = record {
          oldest = (r h l k).keeps.oldest;
          needed = all_by _ (w h l k).txns (λ u i e. or_left ((r h l k).keep u.number) (eqb u.number next)
              (by_all (λ v. is_needed (r h l k).oldest (w h l k).txns v ≡ true → (r h l k).keep v.number ≡ true) (w h l k).txns u (r h l k).keeps.needed i e));
        };
        seen = (r h l k).seen;
        txns = (r h l k).txns ∙ ap (map kept) (sym same_kept);
        exports = (r h l k).exports;
        exporters = (r h l k).exporters;
        transactions = (r h l k).transactions;
        commits = (r h l k).commits;
        identifiers = (r h l k).identifiers;
        place = (r h l k).place;
      };
      room = k.room;
    }

    pub next_kept : widened.represents.keep next ≡ true
    unfolding widened
    next_kept = or_right ((r h l k).keep next) (eqb next next) (eq-eqb next next refl)

  -- ---- an event

  module _ (h : Recorded A) (l : Ledger A) (k : IsKept h l) (s : ℕ) (a : Action A) (fits : Allowed h.opening.catalog a) where
    abbrev old : World A
    old = w h l k

    abbrev event : Record A
    event = record { session = s; action = a; reply = reply_in old s a }

    abbrev next_world : World A
    next_world = follows old event

    allowed : Allowed old.catalog a
    allowed = subst (λ c. Allowed c a) (sym (catalog_is h l k)) fits

    begun_lived : (y : Exported_snapshot) → HasBegun old y → HasBegun next_world y × (is_living next_world.txns y ≡ true → is_living old.txns y ≡ true)
    begun_lived y b = lived_before h.opening h.records k.legal s a y allowed b

    kept_begun : (y : Exported_snapshot) → In y l.exports → HasBegun old y
    kept_begun y i = by_all (λ x. x.exporter ≤ old.base.transactions + length old.txns) l.exports y (r h l k).exporters i

    -- of those that lived the same ones live
    still : filter (is_living next_world.txns) l.exports ≡ filter (is_living next_world.txns) old.exports
    still =
        sym (filter-kept (is_living next_world.txns) (is_living old.txns) l.exports (λ y i. (begun_lived y (kept_begun y i)).1))
        ∙ ap (filter (is_living next_world.txns)) (r h l k).exports
        ∙ filter-kept (is_living next_world.txns) (is_living old.txns) old.exports (λ y i. (begun_lived y (exporters_begun h.opening h.records k.legal y i)).1)

    keeps_next : (r h l k).keep (old.base.transactions + length old.txns + 1) ≡ true → Keeps next_world (r h l k).oldest (r h l k).keep
    keeps_next new = record {
      oldest = oldest_later h.opening h.records k.legal s a (r h l k).oldest allowed (r h l k).keeps.oldest (r h l k).seen;
      needed = needed_later h.opening h.records k.legal s a (r h l k).oldest (r h l k).keep allowed (r h l k).keeps new;
    }

    pub represents_next : (m : Ledger A) → (r h l k).keep (old.base.transactions + length old.txns + 1) ≡ true → Becomes (r h l k).keep old next_world l m → Represents next_world m
    represents_next m new b = record {
      oldest = (r h l k).oldest;
      keep = (r h l k).keep;
      keeps = keeps_next new;
      seen = let p = (r h l k).seen in let q = commits_later h.opening h.records k.legal s a allowed in omega (arith, p, q);
      txns = b.txns;
      exports =
          ap (filter lives) b.exports ∙ filter-append lives l.exports b.more ∙ ap (λ ys. ys ++ filter lives b.more) still
          ∙ sym (filter-append lives old.exports b.more) ∙ sym (ap (filter lives) b.world_exports);
      exporters = all_by _ m.exports (λ y i. (begun_lived y (from y (In-append y l.exports b.more (subst (In y) b.exports i)))).0);
      transactions = b.transactions;
      commits = b.counted;
      identifiers =
          let p = ap length b.exports ∙ length-append l.exports b.more in
          let q = ap length b.world_exports ∙ length-append old.exports b.more in
          let c = (r h l k).identifiers in omega (arith, p, q, c, b.identifiers.0, b.identifiers.1);
      place = b.place;
    }
      where
        lives : Exported_snapshot → Bool
        lives y = is_living next_world.txns y

        from : (y : Exported_snapshot) → In y l.exports ⊎ In y b.more → HasBegun old y
        from y (inl i) = kept_begun y i
        from y (inr i) = b.exporters y i

    -- what it committed
    pub committed_next : (m : Ledger A) → (r h l k).keep (old.base.transactions + length old.txns + 1) ≡ true → Becomes (r h l k).keep old next_world l m → committed_at m.place m.txns ≡ committed_at next_world.place next_world.txns
    committed_next m new b =
        ap (λ n. committed_at n m.txns) b.place ∙ ap (committed_at next_world.place) b.txns ∙ at-kept next_world.place (kept_of (r h l k).keep next_world.txns)
        ∙ committed_alike next_world (good_next h.opening h.records k.legal s a allowed) (r h l k).oldest (r h l k).keep (keeps_next new)
        (λ x i d e. last_kept h.opening h.records k.legal s a allowed (r h l k).oldest (r h l k).keep (r h l k).keeps x i d (e ∙ follows_place old event))

    -- It represents the world that the history has with the event, and has what that committed, with its key.
    abbrev pub After : Ledger A → Type 0
    After m = Represents next_world m × (committed_at m.place m.txns ≡ committed_at next_world.place next_world.txns)

  -- What a step leaves represents the world after the event, and has what that committed.
  pub comes_after : (h : Recorded A) (l : Ledger A) (k : IsKept h l) (s : ℕ) (a : Action A) (fits : Allowed h.opening.catalog a) (c : Catalog) (X : Tables A) → c ≡ h.opening.catalog → (tables : ℕ → Tables A)
      → ((t : Txn A) → current (w h l k) s ≡ Some t → t.own ≡ put_all t.changes (tables t.snapshot))
      → After h l k s a fits (kept_after (world_on c X l) s a (reply_in (w h l k) s a) (ready_for tables a (kept_current c X l s)))
  comes_after h l k s a fits c X p tables own = subst (After h l k s a fits) (sym lent_step) (represents_next h l wide s a fits m (next_kept h l k) b, committed_next h l wide s a fits m (next_kept h l k) b)
    where
      g : Reply A
      g = reply_in (w h l k) s a

      wide : IsKept h l
      wide = widened h l k

      m : Ledger A
      m = kept_after (lent h l wide X) s a g (ready_for tables a (option_map kept (current (w h l k) s)))

      b : Becomes (r h l wide).keep (w h l k) (follows (w h l k) (record { session = s; action = a; reply = g })) l m
      b = becomes h l wide X tables s a g (next_kept h l k) own (current (w h l k) s) refl

      lent_step : kept_after (world_on c X l) s a g (ready_for tables a (kept_current c X l s)) ≡ m
      lent_step =
          ap (λ (v : World A). kept_after v s a g (ready_for tables a (current v s))) (lent_is h l wide c X p)
          ∙ ap (λ o. kept_after (lent h l wide X) s a g (ready_for tables a o)) (lent_current h l wide X s)
