-- What a POLL answers about its snapshot, and that no commit has spoilt a snapshot that stands for a session.
use Rattle.std.proofs.Common.{◌≡◌, refl, sym, ap, subst, ◌∙◌, ℕ, ◌-◌, Bool, true, false, true≢false, cond, not, ◌&&◌, ◌||◌, List, [], ◌++◌, map, set, eqb, find, Option, Some, None, arith}
use Rattle.std.specs.List.{list_any}
use Rattle.std.specs.Option.{option_map, option_to_list}
use Rattle.std.proofs.lemmas.Bool.{eqb-true}
use Rattle.std.proofs.lemmas.List.{append-nil}
use Rattle.value.specs.declared.refusal.TxnNo.{TxnNo}
use Rattle.value.proofs.IsolationLemmas.{In}
use Rattle.schema.specs.Definition.{Catalog}
use Rattle.schema.specs.declared.tables.Tables.{Tables}
use Rattle.history.specs.declared.event.Action.{Action}
use Rattle.history.specs.declared.event.Action.TheVariants.{Poll}
use Rattle.history.specs.declared.key.SerialKey.{SerialKey}
use Rattle.history.specs.Opening.{Recorded}
use Rattle.history.specs.Transactions.{Txn, current, is_deferrable, is_of, is_open, is_read_write, is_spoilt}
use Rattle.history.specs.Needed.{kept_of}
use Rattle.serial.proofs.legal.EndsSeen.{ends_seen}
use Rattle.serial.proofs.needed.Questions.{poll_of_kept}
use Rattle.transactions.specs.Keys.{keyed}
use Rattle.transactions.specs.Ledger.{Ledger, kept, kept_current}
use Rattle.transactions.specs.Polls.{AreToldSpoilt, IsToldSpoilt}
use Rattle.transactions.specs.Views.{snapshot_of}
use Rattle.session.specs.Unspoilt.{AreUnspoilt, is_spoilt_by}
use Rattle.session.proofs.Spoilt.{none_above, spoilt_is}
use Rattle.session.proofs.UnspoiltLemmas.{one_more, one_unspoilt, unspoilt_set}
use Rattle.session.specs.Core.{HoldsKeys, IsKept}
use Rattle.session.specs.Polling.{after_commit, polls_spoilt, put_snapshot}
use Rattle.session.proofs.Kept.{spoilt_kept}
use Rattle.session.proofs.Lent.{good, lent_current, owed_of, r, w}

-- ---- the snapshots, after an event

still_by : (ks : List (ℕ × (ℕ × ℕ × ℕ))) (o : Option (ℕ × (ℕ × ℕ × ℕ))) (c : ℕ) (ns : List ℕ) → AreUnspoilt ks ns → is_spoilt_by (ks ++ option_to_list o) c ≡ false → AreUnspoilt (ks ++ option_to_list o) (after_commit o c ns)
still_by ks None c ns h e = subst (λ xs. AreUnspoilt xs ns) (sym (append-nil ks)) h
still_by ks (Some k) c ns h e = one_more ks k c ns h e

put_by : (ks : List (ℕ × (ℕ × ℕ × ℕ))) (s : ℕ) (o : Option ℕ) (c : ℕ) (ns : List ℕ) → AreUnspoilt ks ns → is_spoilt_by ks c ≡ false → AreUnspoilt ks (put_snapshot s o c ns)
put_by ks s None c ns h e = h
put_by ks s (Some n) c ns h e = go (eqb n c) refl (list_any (λ m. eqb m n) ns) refl
  where
    go : (a : Bool) → eqb n c ≡ a → (b : Bool) → list_any (λ m. eqb m n) ns ≡ b → AreUnspoilt ks (cond (a || b) (set ns (s - 1) n) ns)
    go true p b q = unspoilt_set ks (s - 1) n ns h (ap (is_spoilt_by ks) (eqb-true n c p) ∙ e)
    go false p true q = unspoilt_set ks (s - 1) n ns h (one_unspoilt ks n ns h q)
    go false p false q = h

pub unspoilt_now : (ks more : List (TxnNo × SerialKey)) (o : Option (ℕ × (ℕ × ℕ × ℕ))) (ends takes : Bool) (s : ℕ) (snapshot : Option ℕ) (c : ℕ) (ns mid last : List ℕ)
    → AreUnspoilt (map keyed ks) ns → map keyed more ≡ map keyed ks ++ cond ends (option_to_list o) [] → is_spoilt_by (map keyed more) c ≡ false
    → mid ≡ cond ends (after_commit o c ns) ns → last ≡ cond takes (put_snapshot s snapshot c mid) mid → AreUnspoilt (map keyed more) last
unspoilt_now ks more o ends takes s snapshot c ns mid last h e none f g =
    subst (AreUnspoilt (map keyed more)) (sym g) (taken takes (subst (AreUnspoilt (map keyed more)) (sym f) (subst (λ xs. AreUnspoilt xs (cond ends (after_commit o c ns) ns)) (sym e) (ended ends (sym (ap (λ xs. is_spoilt_by xs c) e) ∙ none)))))
  where
    ended : (b : Bool) → is_spoilt_by (map keyed ks ++ cond b (option_to_list o) []) c ≡ false → AreUnspoilt (map keyed ks ++ cond b (option_to_list o) []) (cond b (after_commit o c ns) ns)
    ended true p = still_by (map keyed ks) o c ns h p
    ended false p = subst (λ xs. AreUnspoilt xs ns) (sym (append-nil (map keyed ks))) h

    taken : (b : Bool) → AreUnspoilt (map keyed more) mid → AreUnspoilt (map keyed more) (cond b (put_snapshot s snapshot c mid) mid)
    taken true p = put_by (map keyed more) s snapshot c mid p none
    taken false p = p

module _ {A : Type 0} (h : Recorded A) (l : Ledger A) (k : IsKept h l) (ks : List (TxnNo × SerialKey)) (room : ℕ) (keys : HoldsKeys h ks room) where
  -- the keys say of a snapshot whether a commit has spoilt it
  pub by_keys : (t : Txn A) → In t (w h l k).txns → is_spoilt (w h l k).txns t ≡ is_spoilt_by (map keyed ks) t.snapshot
  by_keys t i = spoilt_is (w h l k) (good h l k) (ends_seen h.opening h.records k.legal) t i ∙ ap (λ xs. is_spoilt_by xs t.snapshot) (sym keys.keys)

  -- none has spoilt that of all commits
  pub none_spoils : is_spoilt_by (map keyed ks) l.base.commits ≡ false
  none_spoils = ap (λ xs. is_spoilt_by xs l.base.commits) keys.keys ∙ none_above (w h l k) (good h l k) l.base.commits (let e = (r h l k).commits in omega (arith, e))

  -- ---- what a POLL answers

  unknown : (a b d : Bool) → (a && not b) ≡ true → (not d && b) ≡ false
  unknown true true d e = absurd (true≢false (sym e))
  unknown true false true e = refl
  unknown true false false e = refl
  unknown false b d e = absurd (true≢false (sym e))

  told_one : (s : ℕ) (u : Txn A) → current (w h l k) s ≡ Some u → is_open u.standing ≡ true → (a : Action A) → IsToldSpoilt l.txns (kept u) a (polls_spoilt (map keyed ks) (Some u.snapshot) a)
  told_one s u e o Poll = λ waits.
      let i = (owed_of h l k s u e).0 in
      sym (by_keys u i)
      ∙ sym (poll_of_kept (w h l k) (good h l k) (ends_seen h.opening h.records k.legal) (r h l k).oldest (r h l k).keep (r h l k).keeps u i o (unknown (is_deferrable u.mode) u.known (is_read_write u.mode) waits))
      ∙ sym (spoilt_kept (kept_of (r h l k).keep (w h l k).txns) (kept u)) ∙ sym (ap (λ ts. is_spoilt ts (kept u)) (r h l k).txns)
  told_one s u e o _ = tt

  told_of : (s : ℕ) (o : Option (Txn A)) → current (w h l k) s ≡ o → (a : Action A) → AreToldSpoilt l.txns (option_map kept o) a (polls_spoilt (map keyed ks) (snapshot_of (option_map kept o)) a)
  told_of s None e a t f active = cc
  told_of s (Some u) e a t f active =
      let same : kept u ≡ t = cc in
      subst (λ y. IsToldSpoilt l.txns y a (polls_spoilt (map keyed ks) (Some u.snapshot) a)) same (told_one s u e (ap (λ (y : Txn A). is_open y.standing) same ∙ active) a)

  pub told : (c : Catalog) (X : Tables A) (s : ℕ) (a : Action A) (spoilt : Bool) → spoilt ≡ polls_spoilt (map keyed ks) (snapshot_of (find (is_of s) l.txns)) a → AreToldSpoilt l.txns (kept_current c X l s) a spoilt
  told c X s a spoilt e =
      subst (AreToldSpoilt l.txns (find (is_of s) l.txns) a) (sym e)
      (subst (λ o. AreToldSpoilt l.txns o a (polls_spoilt (map keyed ks) (snapshot_of o) a)) (sym (ap (find (is_of s)) (r h l k).txns ∙ lent_current h l k [] s)) (told_of s (current (w h l k) s) refl a))
