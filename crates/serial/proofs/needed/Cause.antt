-- The structure that a commit is refused for, from the transactions that matter alone.
use Rattle.std.proofs.Common.{◌≡◌, refl, sym, ap, subst, ◌∙◌, ℕ, ◌+◌, ◌<◌, ◌≤◌, Bool, true, false, true≢false, cond, not, ◌&&◌, ◌||◌, ◌⊎◌, inl, inr, List, [], ◌∷◌, length, eqb, arith}
use Rattle.std.proofs.lemmas.Bool.{eqb-true, not-true, leb-true, ltb-true, lt-ltb, and_parts, and_from, or_left, or_right}
use Rattle.value.specs.Isolation.{bound, first_cause, is_dangerous}
use Rattle.value.proofs.IsolationLemmas.{In}
use Rattle.value.proofs.SerialLemmas.{NumberedFrom}
use Rattle.value.proofs.Basics.{In-any}
use Rattle.value.proofs.Lists.{clash}
use Rattle.value.proofs.Structures.{Danger, parts, cause-kept}
use Rattle.history.specs.declared.event.Record.{Record}
use Rattle.history.specs.Opening.{Opening}
use Rattle.history.specs.Transactions.{Open, Done, Txn, World, node, edge, commits, is_open, is_done, is_owed, is_read_write}
use Rattle.history.specs.Events.{ended, numbered, replaced, world_of}
use Rattle.history.specs.Answer.{Legal, cause_of, committing}
use Rattle.history.specs.Needed.{is_recent, is_late_reader, is_needed, is_safe_reader, is_settled, Keeps, kept_of, IsOpenOf, HoldCommitter}
use Rattle.serial.proofs.legal.Legal.{current_in}
use Rattle.serial.proofs.legal.Numbers.{In-replaced, not_done}
use Rattle.serial.proofs.safe.Stamps.{Stamp, Stands, stamp}
use Rattle.serial.proofs.safe.Readers.{safe_stands, sure}
use Rattle.serial.proofs.safe.Prefix.{all_by, by_all}
use Rattle.serial.proofs.order.SerialTheorem.{IsGood, edge_parts, good_world}
use Rattle.serial.proofs.needed.Structures.{Suits, all_kept}

pub open_owed : (st : Rattle.history.specs.Transactions.Standing) → is_open st ≡ true → is_owed st ≡ true
open_owed Open e = refl
open_owed (Rattle.history.specs.Transactions.Doomed c) e = refl
open_owed Rattle.history.specs.Transactions.Failed e = refl
open_owed Rattle.history.specs.Transactions.Aborted e = absurd (true≢false (sym e))
open_owed Done e = absurd (true≢false (sym e))

module _ {A : Type 0} where
  -- ---- replacing among those that are kept

  pub kept_replaced : (keep : ℕ → Bool) (x : Txn A) (ts : List (Txn A)) → kept_of keep (replaced x ts) ≡ replaced x (kept_of keep ts)
  kept_replaced keep x [] = refl
  kept_replaced keep x (t ∷ ts) = go (eqb t.number x.number) refl (keep t.number) refl (kept_replaced keep x ts)
    where
      go : (e : Bool) → eqb t.number x.number ≡ e → (k : Bool) → keep t.number ≡ k → kept_of keep (replaced x ts) ≡ replaced x (kept_of keep ts)
          → cond (keep (cond e x t).number) (cond e x t ∷ kept_of keep (replaced x ts)) (kept_of keep (replaced x ts)) ≡ replaced x (cond k (t ∷ kept_of keep ts) (kept_of keep ts))
      go true p true q rest =
          ap (λ b. cond b (x ∷ kept_of keep (replaced x ts)) (kept_of keep (replaced x ts))) (ap keep (sym (eqb-true t.number x.number p)) ∙ q)
          ∙ ap (λ l. x ∷ l) rest ∙ sym (ap (λ b. cond b x t ∷ replaced x (kept_of keep ts)) p)
      go true p false q rest = ap (λ b. cond b (x ∷ kept_of keep (replaced x ts)) (kept_of keep (replaced x ts))) (ap keep (sym (eqb-true t.number x.number p)) ∙ q) ∙ rest
      go false p true q rest =
          ap (λ b. cond b (t ∷ kept_of keep (replaced x ts)) (kept_of keep (replaced x ts))) q
          ∙ ap (λ l. t ∷ l) rest ∙ sym (ap (λ b. cond b x t ∷ replaced x (kept_of keep ts)) p)
      go false p false q rest = ap (λ b. cond b (t ∷ kept_of keep (replaced x ts)) (kept_of keep (replaced x ts))) q ∙ rest

  -- t, with what its commit makes of it
  pub record Committed (w : World A) (t x : Txn A) : Type 0 where
    pub number : x.number ≡ t.number
    pub mode : x.mode ≡ t.mode
    pub snapshot : x.snapshot ≡ t.snapshot
    pub done : is_done x.standing ≡ true
    pub known : x.known ≡ t.known
    pub commit : (is_read_write t.mode ≡ true) × (x.commit ≡ commits w + 1) ⊎ (is_read_write t.mode ≡ false) × (x.commit ≡ 0)

  pub committed_as : (w : World A) (t : Txn A) → t.commit ≡ 0 → Committed w t (numbered w t)
  committed_as w t z = go (is_read_write t.mode) refl
    where
      go : (b : Bool) → is_read_write t.mode ≡ b → Committed w t (cond b (record (ended w Done t) { commit = commits w + 1 }) (ended w Done t))
      go true e = record { number = refl; mode = refl; snapshot = refl; done = refl; known = refl; commit = inl (e, refl) }
      go false e = record { number = refl; mode = refl; snapshot = refl; done = refl; known = refl; commit = inr (e, z) }

  upto : (n : ℕ) (ts : List (Txn A)) (u : Txn A) → NumberedFrom (λ (t : Txn A). t.commit) n ts → In u ts → u.commit ≤ n + length ts
  upto n [] u h k = absurd k
  upto n (t ∷ ts) u h (inl p) = omega (arith, h.0, ap (λ (y : Txn A). y.commit) p)
  upto n (t ∷ ts) u h (inr k) = omega (arith, upto (n + 1) ts u h.1 k)

  module _ (w : World A) (g : IsGood w) (t : Txn A) (i : In t w.txns) (o : is_open t.standing ≡ true) where
    abbrev x : Txn A
    x = numbered w t

    abbrev ts : List (Txn A)
    ts = replaced x w.txns

    abbrev pub Old : Txn A → Type 0
    Old u = In u w.txns × (eqb u.number x.number ≡ false)

    none : t.commit ≡ 0
    none = go (g.numbered.kind t i)
      where
        go : In t w.log ⊎ (t.commit ≡ 0) × (is_done t.standing ≡ true → is_read_write t.mode ≡ false) → t.commit ≡ 0
        go (inl j) = absurd (not_done t.standing o (g.numbered.logged t j).1)
        go (inr k) = k.0

    pub c : Committed w t x
    c = committed_as w t none

    pub split : (u : Txn A) → In u ts → (u ≡ x) ⊎ Old u
    split u j = In-replaced u x w.txns j

    -- an older one that has a number is in the log
    pub in_log : (u : Txn A) → In u w.txns → 0 < u.commit → In u w.log
    in_log u j l = go (g.numbered.kind u j)
      where
        go : In u w.log ⊎ (u.commit ≡ 0) × (is_done u.standing ≡ true → is_read_write u.mode ≡ false) → In u w.log
        go (inl k) = k
        go (inr k) = absurd (omega (arith, k.0, l))

    pub old_commit : (u : Txn A) → In u w.txns → u.commit ≤ commits w
    old_commit u j = go (g.numbered.kind u j)
      where
        go : In u w.log ⊎ (u.commit ≡ 0) × (is_done u.standing ≡ true → is_read_write u.mode ≡ false) → u.commit ≤ commits w
        go (inl k) = omega (arith, upto w.base.commits w.log u g.numbered.in_order k)
        go (inr k) = omega (arith, k.0)

    -- an edge leads only to a commit that has a number
    pub meets_number : (a b : Txn A) → edge a b ≡ true → 0 < b.commit
    meets_number a b e = omega (arith, (edge_parts a b e).1)

    new_number : (u : Txn A) → u ≡ x → 0 < u.commit → (is_read_write u.mode ≡ true) × (u.commit ≡ commits w + 1)
    new_number u p l = go c.commit
      where
        go : (is_read_write t.mode ≡ true) × (x.commit ≡ commits w + 1) ⊎ (is_read_write t.mode ≡ false) × (x.commit ≡ 0) → (is_read_write u.mode ≡ true) × (u.commit ≡ commits w + 1)
        go (inl q) = (ap (λ (y : Txn A). is_read_write y.mode) p ∙ ap is_read_write c.mode ∙ q.0, ap (λ (y : Txn A). y.commit) p ∙ q.1)
        go (inr q) = absurd (let e : u.commit ≡ x.commit = ap (λ (y : Txn A). y.commit) p in omega (arith, e, q.1, l))

    pub writer : (u : Txn A) → In u ts → 0 < u.commit → is_read_write u.mode ≡ true
    writer u j l = go (split u j)
      where
        go : (u ≡ x) ⊎ Old u → is_read_write u.mode ≡ true
        go (inl p) = (new_number u p l).0
        go (inr k) = (g.numbered.logged u (in_log u k.0 l)).2

    pub up_to_new : (u : Txn A) → In u ts → u.commit ≤ commits w + 1
    up_to_new u j = go (split u j)
      where
        go : (u ≡ x) ⊎ Old u → u.commit ≤ commits w + 1
        go (inl p) = side c.commit
          where
            side : (is_read_write t.mode ≡ true) × (x.commit ≡ commits w + 1) ⊎ (is_read_write t.mode ≡ false) × (x.commit ≡ 0) → u.commit ≤ commits w + 1
            side (inl q) = let e : u.commit ≡ x.commit = ap (λ (y : Txn A). y.commit) p in omega (arith, e, q.1)
            side (inr q) = let e : u.commit ≡ x.commit = ap (λ (y : Txn A). y.commit) p in omega (arith, e, q.1)
        go (inr k) = omega (arith, old_commit u k.0)

    -- (1) A structure that the commit would make has the committer as its first or its middle one.
    pub holds : (a b d : Txn A) → In a ts → In b ts → In d ts → is_dangerous node edge a b d ≡ true → (a ≡ x) ⊎ (b ≡ x)
    holds a b d ia ib id e = go (split a ia) (split b ib) (split d id)
      where
        p : Danger node edge a b d
        p = parts node edge a b d e

        go : (a ≡ x) ⊎ Old a → (b ≡ x) ⊎ Old b → (d ≡ x) ⊎ Old d → (a ≡ x) ⊎ (b ≡ x)
        go (inl q) j k = inl q
        go (inr q) (inl r) k = inr r
        go (inr q) (inr r) (inl s) = absurd (let n = (new_number d s (meets_number b d p.out)).1 in omega (arith, n, ltb-true d.commit b.commit p.before, old_commit b r.0))
        go (inr q) (inr r) (inr s) = clash (is_dangerous node edge a b d) e (g.none_dangerous.each a b d q.0 r.0 s.0)

    -- ---- safe readers are first of none

    stamp_is : (a : Txn A) → (a ≡ x) ⊎ Old a → (p : Stamp) × (p.snapshot ≡ a.snapshot) × (p.known ≡ a.known) × Stands w p
    stamp_is a (inl q) = (stamp t, sym (ap (λ (y : Txn A). y.snapshot) q ∙ c.snapshot), sym (ap (λ (y : Txn A). y.known) q ∙ c.known), g.stands.txns t i)
    stamp_is a (inr k) = (stamp a, refl, refl, g.stands.txns a k.0)

    begun_when : (m n : ℕ) → (m ≤ n) ⊎ (n < m)
    begun_when m n = grind arith

    pub safe_first : (a b d : Txn A) → In b ts → In d ts → is_read_write a.mode ≡ false → (s : Stamp) → s.snapshot ≡ a.snapshot → s.known ≡ true → Stands w s → is_dangerous node edge a b d ≡ true → ⊥
    safe_first a b d ib id r s shows known stands e = go (split b ib) (split d id)
      where
        p : Danger node edge a b d
        p = parts node edge a b d e

        within : d.commit ≤ a.snapshot
        within = subst (λ q. d.commit ≤ cond q a.commit a.snapshot) r (leb-true d.commit (bound node edge a) p.within)

        above : a.snapshot < b.commit
        above = (edge_parts a b p.into).1

        last : 0 < d.commit
        last = meets_number b d p.out

        before : d.commit < b.commit
        before = ltb-true d.commit b.commit p.before

        go : (b ≡ x) ⊎ Old b → (d ≡ x) ⊎ Old d → ⊥
        go j (inl q) = let n = (new_number d q last).1 in omega (arith, n, before, up_to_new b ib)
        go (inr j) (inr k) = stands.safe known b d (in_log b j.0 (omega (arith, above))) (in_log d k.0 last) (omega (arith, shows, above)) (omega (arith, shows, within)) p.out
        go (inl q) (inr k) = side (begun_when s.taken t.begin)
          where
            rw_t : is_read_write t.mode ≡ true
            rw_t = sym (ap (λ (y : Txn A). is_read_write y.mode) q ∙ ap is_read_write c.mode) ∙ writer b ib (omega (arith, above))

            out : t.snapshot < d.commit
            out = let m : b.snapshot ≡ t.snapshot = ap (λ (y : Txn A). y.snapshot) q ∙ c.snapshot in omega (arith, m, (edge_parts b d p.out).1)

            side : (s.taken ≤ t.begin) ⊎ (t.begin < s.taken) → ⊥
            side (inl l) = omega (arith, stands.behind t i rw_t l, shows, within, out)
            side (inr l) = stands.none_open known t i rw_t o l

    -- a safe reader's commit makes no structure
    pub safe_commit : is_safe_reader w.txns t ≡ true → (a b d : Txn A) → In a ts → In b ts → In d ts → is_dangerous node edge a b d ≡ true → ⊥
    safe_commit e a b d ia ib id q = go (holds a b d ia ib id q)
      where
        reads : is_read_write t.mode ≡ false
        reads = not-true (is_read_write t.mode) (and_parts (not (is_read_write t.mode)) (t.known || is_settled w.txns t) e).0

        go : (a ≡ x) ⊎ (b ≡ x) → ⊥
        go (inl p) = safe_first a b d ib id (ap (λ (y : Txn A). is_read_write y.mode) p ∙ ap is_read_write c.mode ∙ reads) (sure t) (sym (ap (λ (y : Txn A). y.snapshot) p ∙ c.snapshot)) refl (safe_stands w g t i e) q
        go (inr p) = clash (is_read_write b.mode) (writer b ib (meets_number a b (parts node edge a b d q).into)) (ap (λ (y : Txn A). is_read_write y.mode) p ∙ ap is_read_write c.mode ∙ reads)

    -- ---- what is kept

    module _ (n : ℕ) (keep : ℕ → Bool) (h : Keeps w n keep) where
      abbrev k : Txn A → Bool
      k u = keep u.number

      by_need : (u : Txn A) → In u w.txns → is_needed n w.txns u ≡ true → k u ≡ true
      by_need u j e = by_all (λ v. is_needed n w.txns v ≡ true → keep v.number ≡ true) w.txns u h.needed j e

      pub owed_kept : (u : Txn A) → In u w.txns → is_owed u.standing ≡ true → k u ≡ true
      owed_kept u j e = by_need u j (or_left _ _ (or_left _ _ (or_left _ _ e)))

      pub recent_kept : (u : Txn A) → In u w.txns → is_done u.standing ≡ true → is_read_write u.mode ≡ true → n < u.commit → k u ≡ true
      recent_kept u j d r l = by_need u j (or_left _ _ (or_left _ _ (or_right (is_owed u.standing) _ (and_from _ _ (and_from _ _ d r) (lt-ltb n u.commit l)))))

      late_kept : (u : Txn A) → In u w.txns → is_done u.standing ≡ true → is_read_write u.mode ≡ false → u.known ≡ false → n < u.snapshot → k u ≡ true
      late_kept u j d r q l = by_need u j (or_left _ _ (or_right (is_owed u.standing || is_recent n u) _ (and_from _ _ (and_from _ _ (and_from _ _ d (ap not r)) (ap not q)) (lt-ltb n u.snapshot l))))

      pub met_kept : (u v : Txn A) → In u w.txns → In v w.txns → is_done u.standing ≡ true → is_done v.standing ≡ true → is_read_write u.mode ≡ true → n < u.commit → edge u v ≡ true → k v ≡ true
      met_kept u v j m d q r l e = by_need v m (or_right (is_owed v.standing || is_recent n v || is_late_reader n v) _
          (and_from _ _ q (In-any (λ y. is_recent n y && edge y v) w.txns u j (and_from _ _ (and_from _ _ (and_from _ _ d r) (lt-ltb n u.commit l)) e))))

      pub self : k x ≡ true
      self = ap keep c.number ∙ owed_kept t i (open_owed t.standing o)

      self_is : (u : Txn A) → u ≡ x → k u ≡ true
      self_is u p = ap (λ (y : Txn A). keep y.number) p ∙ self

      suits : n ≤ t.snapshot → Suits node edge ts x n k
      suits from = record {
        seen = λ a b ia ib e. (edge_parts a b e).1;
        writes = λ a b ia ib e. writer b ib (meets_number a b e);
        holds = holds;
        from = omega (arith, c.snapshot);
        self = self;
        recent = recent;
        reader = λ a b d ia ib id e r l. reader a b d ia ib id e r l (split a ia);
        met = λ u v j m d q r l e. met u v j m d q r l e (split u j) (split v m);
      }
        where
          recent : (u : Txn A) → In u ts → is_done u.standing ≡ true → is_read_write u.mode ≡ true → n < u.commit → k u ≡ true
          recent u j d r l = go (split u j)
            where
              go : (u ≡ x) ⊎ Old u → k u ≡ true
              go (inl p) = self_is u p
              go (inr p) = recent_kept u p.0 d r l

          reader : (a b d : Txn A) → In a ts → In b ts → In d ts → is_dangerous node edge a b d ≡ true → is_read_write a.mode ≡ false → n < a.snapshot → (a ≡ x) ⊎ Old a → k a ≡ true
          reader a b d ia ib id e r l (inl p) = self_is a p
          reader a b d ia ib id e r l (inr p) = go a.known refl
            where
              go : (q : Bool) → a.known ≡ q → k a ≡ true
              go true q = let s = stamp_is a (split a ia) in absurd (safe_first a b d ib id r s.0 s.1 (s.2 ∙ q) s.3 e)
              go false q = late_kept a p.0 (parts node edge a b d e).first r q l

          met : (u v : Txn A) → In u ts → In v ts → is_done u.standing ≡ true → is_done v.standing ≡ true → is_read_write u.mode ≡ true → n < u.commit → edge u v ≡ true
              → (u ≡ x) ⊎ Old u → (v ≡ x) ⊎ Old v → k v ≡ true
          met u v j m d q r l e y (inl p) = self_is v p
          met u v j m d q r l e (inr y) (inr z) = met_kept u v y.0 z.0 d q r l e
          met u v j m d q r l e (inl y) (inr z) = let s : u.snapshot ≡ t.snapshot = ap (λ (a : Txn A). a.snapshot) y ∙ c.snapshot in
              recent_kept v z.0 q (writer v m (meets_number u v e)) (omega (arith, s, from, (edge_parts u v e).1))

      pub oldest_is : is_safe_reader w.txns t ≡ false → n ≤ t.snapshot
      oldest_is e = by_all (λ u. is_open u.standing ≡ true → is_safe_reader w.txns u ≡ false → n ≤ u.snapshot) w.txns t h.oldest i o e

      -- (2) The same structure is named of those that are kept.
      pub cause_of_kept : first_cause node edge (replaced x (kept_of keep w.txns)) ≡ cause_of w t
      cause_of_kept = ap (first_cause node edge) (sym (kept_replaced keep x w.txns)) ∙ cause-kept node edge k ts (λ a b d ia ib id e. go (is_safe_reader w.txns t) refl a b d ia ib id e)
        where
          go : (q : Bool) → is_safe_reader w.txns t ≡ q → (a b d : Txn A) → In a ts → In b ts → In d ts → is_dangerous node edge a b d ≡ true → (k a ≡ true) × (k b ≡ true) × (k d ≡ true)
          go true q a b d ia ib id e = absurd (safe_commit q a b d ia ib id e)
          go false q a b d ia ib id e = all_kept node edge ts x n k (suits (oldest_is q)) a b d ia ib id e

  -- ---- the laws

  pub hold_committer : (o : Opening A) (es : List (Record A)) → Legal o es → (s : ℕ) (t : Txn A) → IsOpenOf (world_of o es) s t → HoldCommitter (world_of o es) t
  hold_committer o es l s t p = all_by _ us (λ a ia. all_by _ us (λ b ib. all_by _ us (λ d id e. holds w (good_world o es l) t (current_in w s t p.0).0 p.1 a b d ia ib id e)))
    where
      w : World A
      w = world_of o es

      us : List (Txn A)
      us = committing w t

  pub cause_kept : (o : Opening A) (es : List (Record A)) → Legal o es → (s : ℕ) (t : Txn A) (n : ℕ) (keep : ℕ → Bool) → IsOpenOf (world_of o es) s t → Keeps (world_of o es) n keep
      → first_cause node edge (replaced (numbered (world_of o es) t) (kept_of keep (world_of o es).txns)) ≡ cause_of (world_of o es) t
  cause_kept o es l s t n keep p h = cause_of_kept w (good_world o es l) t (current_in w s t p.0).0 p.1 n keep h
    where
      w : World A
      w = world_of o es
