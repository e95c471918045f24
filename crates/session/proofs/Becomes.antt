-- What one event makes of what is kept, compared with what it makes of the world.
use Rattle.std.proofs.Common.{◌≡◌, refl, sym, ap, ◌∙◌, ℕ, ◌+◌, Bool, true, cond, List, [], ◌∷◌, ◌++◌, length, length-append, map, Option, Some, None, arith}
use Rattle.std.proofs.lemmas.List.{append-nil, map-append}
use Rattle.std.proofs.lemmas.List.Elements.{filter-append}
use Rattle.std.specs.Option.{option_map}
use Rattle.value.specs.declared.refusal.Mode.{Mode}
use Rattle.value.proofs.IsolationLemmas.{In}
use Rattle.schema.specs.declared.tables.Tables.{Tables}
use Rattle.statement.specs.declared.reply.Reply.{Reply}
use Rattle.statement.specs.declared.reply.Reply.TheVariants.{Begun}
use Rattle.history.specs.declared.event.Action.{Action}
use Rattle.history.specs.declared.event.Action.TheVariants.{Begin}
use Rattle.history.specs.Opening.{Recorded}
use Rattle.history.specs.Transactions.{Txn, World, Exported_snapshot, commits, current}
use Rattle.history.specs.Events.{begun, causes, exports_after, followed, replaced, turned, txns_after, without_transaction}
use Rattle.history.specs.Needed.{kept_of}
use Rattle.serial.proofs.structures.Dooms.{length-doomed}
use Rattle.serial.proofs.legal.EndsSeen.{ends_seen}
use Rattle.serial.proofs.needed.Lowest.{HasBegun}
use Rattle.serial.proofs.legal.Numbers.{length-replaced}
use Rattle.serial.proofs.needed.Events.{exports_alike, log_alike, txns_alike}
use Rattle.transactions.specs.Ledger.{Ledger, after_owned, kept, kept_after, ready, ready_for}
use Rattle.session.specs.Core.{IsKept}
use Rattle.session.proofs.Kept.{HasOwn, counted_rest, length_map, same_counted, same_exports, same_turned_all}
use Rattle.session.proofs.Lent.{good, lent, like, owed_of, r, thinned, w}

module _ {A : Type 0} where
  -- u and m are what an event makes of the world w and of what is kept of it, l.
  pub record Becomes (keep : ℕ → Bool) (w u : World A) (l m : Ledger A) : Type 0 where
    pub txns : m.txns ≡ map kept (kept_of keep u.txns)
    pub more : List Exported_snapshot
    pub exports : m.exports ≡ l.exports ++ more
    pub world_exports : u.exports ≡ w.exports ++ more
    pub exporters : (y : Exported_snapshot) → In y more → HasBegun w y
    pub transactions : m.base.transactions + length m.txns ≡ u.base.transactions + length u.txns
    pub counted : m.base.commits ≡ commits u
    pub identifiers : (m.base.identifiers ≡ l.base.identifiers) × (u.base.identifiers ≡ w.base.identifiers)
    pub place : m.place ≡ u.place

  length-after : (v : World A) (a : Action A) (g : Reply A) (t : Txn A) → length (txns_after v a g t) ≡ length v.txns
  length-after v a g t = length-doomed (v.place + 1) (causes v a g t) (replaced (turned v a g t) v.txns) ∙ length-replaced (turned v a g t) v.txns

  kept_push : (keep : ℕ → Bool) (ts : List (Txn A)) (x : Txn A) → keep x.number ≡ true → kept_of keep (ts ++ x ∷ []) ≡ kept_of keep ts ++ x ∷ []
  kept_push keep ts x e = filter-append (λ u. keep u.number) ts (x ∷ []) ∙ ap (λ b. kept_of keep ts ++ cond b (x ∷ []) []) e

  module _ (h : Recorded A) (l : Ledger A) (k : IsKept h l) (X : Tables A) (tables : ℕ → Tables A) where
    abbrev now : World A
    now = w h l k

    abbrev v : World A
    v = lent h l k X

    abbrev thin_now : World A
    thin_now = thinned h l k

    abbrev keep : ℕ → Bool
    keep = (r h l k).keep

    -- as many transactions are kept as before
    same_length : length l.txns ≡ length (kept_of keep now.txns)
    same_length = ap length (r h l k).txns ∙ length_map kept (kept_of keep now.txns)

    owned : (s : ℕ) (t : Txn A) → current now s ≡ Some t → HasOwn thin_now X l.base l.exports tables (like h l k X) t → (a : Action A) (g : Reply A)
        → Becomes keep now (followed now (record { session = s; action = a; reply = g }) (Some t)) l (after_owned v a g (ready tables a (kept t)))
    owned s t e own a g = record {
      txns = same ∙ ap (map kept) (txns_alike now (good h l k) (ends_seen h.opening h.records k.legal) (r h l k).oldest keep (r h l k).keeps s t e a g);
      more = x.0;
      exports = x.1;
      world_exports = sym (exports_alike keep now t a g) ∙ x.2;
      exporters = λ y j. let p = x.3 y j in let q = (good h l k).numbered.bounded t (owed_of h l k s t e).0 in omega (arith, p, q);
      transactions =
          let p = (counted_rest thin_now X l.base l.exports tables (like h l k X) (ready tables a (kept t)) a g).0 in
          let n = ap length same ∙ length_map kept (txns_after thin_now a g t) ∙ length-after thin_now a g t ∙ sym same_length in
          let m = length-after now a g t in
          let c = (r h l k).transactions in omega (arith, p, n, m, c);
      counted = same_counted thin_now X l.base l.exports tables (like h l k X) t a g ∙ ap (λ ts. now.base.commits + length ts) (log_alike keep now t a g);
      identifiers = ((counted_rest thin_now X l.base l.exports tables (like h l k X) (ready tables a (kept t)) a g).1, refl);
      place = refl;
    }
      where
        same : (after_owned v a g (ready tables a (kept t))).txns ≡ map kept (txns_after thin_now a g t)
        same = same_turned_all thin_now X l.base l.exports tables (like h l k X) t own a g

        x : (more : List Exported_snapshot) × (exports_after v a g (ready tables a (kept t)) ≡ l.exports ++ more) × (exports_after thin_now a g t ≡ now.exports ++ more) × ((y : Exported_snapshot) → In y more → y.exporter ≡ t.number)
        x = same_exports thin_now X l.base l.exports tables (like h l k X) t a g

    -- the next transaction, as it is kept
    same_begun : (s : ℕ) (m : Mode) → kept (begun v s m) ≡ kept (begun now s m)
    same_begun s m =
        ap (λ n. record (kept (begun now s m)) { number = n + 1; snapshot = commits v }) (ap (λ n. l.base.transactions + n) (sym (ap length (r h l k).txns)) ∙ (r h l k).transactions)
        ∙ ap (λ n. record (kept (begun now s m)) { snapshot = n }) (like h l k X).commits

    alone : (s : ℕ) (a : Action A) (g : Reply A) → keep (now.base.transactions + length now.txns + 1) ≡ true → Becomes keep now (without_transaction now s a g) l (kept_after v s a g None)
    alone s (Begin m) Begun new = record {
      txns = ap (λ x. map kept (kept_of keep now.txns) ++ x ∷ []) (same_begun s m) ∙ sym (map-append kept (kept_of keep now.txns) (begun now s m ∷ [])) ∙ ap (map kept) (sym (kept_push keep now.txns (begun now s m) new));
      more = [];
      exports = sym (append-nil l.exports);
      world_exports = sym (append-nil now.exports);
      exporters = λ y j. absurd j;
      transactions =
          let p = length-append {A = Txn A} (map kept (kept_of keep now.txns)) (kept (begun v s m) ∷ []) in
          let q = length-append {A = Txn A} now.txns (begun now s m ∷ []) in
          let n = ap length (r h l k).txns in
          let c = (r h l k).transactions in omega (arith, p, q, n, c);
      counted = (r h l k).commits;
      identifiers = (refl, refl);
      place = refl;
    }
    alone s a g new = record {
      txns = refl;
      more = [];
      exports = sym (append-nil l.exports);
      world_exports = sym (append-nil now.exports);
      exporters = λ y j. absurd j;
      transactions = let n = ap length (r h l k).txns in let c = (r h l k).transactions in omega (arith, n, c);
      counted = (r h l k).commits;
      identifiers = (refl, refl);
      place = refl;
    }

    pub becomes : (s : ℕ) (a : Action A) (g : Reply A) → keep (now.base.transactions + length now.txns + 1) ≡ true → ((t : Txn A) → current now s ≡ Some t → HasOwn thin_now X l.base l.exports tables (like h l k X) t) → (o : Option (Txn A)) → current now s ≡ o
        → Becomes keep now (followed now (record { session = s; action = a; reply = g }) o) l (kept_after v s a g (ready_for tables a (option_map kept o)))
    becomes s a g new own None e = alone s a g new
    becomes s a g new own (Some t) e = owned s t e (own t e) a g
