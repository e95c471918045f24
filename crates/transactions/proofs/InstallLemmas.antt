-- Versions after an event: with a commit installed, or as they were.
use Rattle.std.proofs.Common.{◌≡◌, refl, sym, ap, subst, ◌∙◌, ℕ, ◌+◌, ◌≤◌, ◌<◌, min, Bool, true, false, true≢false, cond, ◌||◌, ◌⊎◌, inl, inr, List, [], ◌∷◌, map, Option, Some, None, arith}
use Rattle.std.specs.Prelude.{◌==◌, nat_le}
use Rattle.std.specs.List.{find, list_any}
use Rattle.std.proofs.lemmas.Bool.{eq-eqb, eqb-true, le-leb, leb-true, lt-leb, or_right}
use Rattle.value.proofs.IsolationLemmas.{In}
use Rattle.value.specs.declared.refusal.Cause.{Cause}
use Rattle.schema.specs.declared.changes.Change.{Change}
use Rattle.mvrows.specs.Versions.{VersionedRows, AreInOrder, RowsAreBelow, AreBelow, TablesAreBelow, Version, shown}
use Rattle.mvrows.specs.Installing.{installed}
use Rattle.mvrows.specs.Settling.{Needed, settled}
use Rattle.mvrows.proofs.VersionLemmas.{shown-installed, shown-hidden_install, installed-in_order, installed-below}
use Rattle.mvrows.proofs.SettlingLemmas.{shown-settled, settled-in_order, settled-below}
use Rattle.mvrows.proofs.ViewLemmas.{shown-in_order}
use Rattle.history.specs.Transactions.{Txn, is_open, is_owed}
use Rattle.history.specs.Events.{doomed_by, doomed_with}
use Rattle.transactions.specs.declared.answers.course.Course.{Course}
use Rattle.transactions.specs.Courses.{on_course}
use Rattle.transactions.specs.Ledger.{Ledger, turned_at}
use Rattle.transactions.specs.Merged.{AreInKeyOrder, AreMerged}
use Rattle.transactions.specs.Versions.{AreCurrent, HasSameCommits, IsInstalled, StayShown, is_owed_at, lowest, lowest_of, may_be_read, needed_of, next_commit, owed_snapshots, versions_at}
use Rattle.transactions.proofs.CommitLemmas.{open_is}

module _ {A : Type 0} where
  -- what versions in order show is in key order
  pub shown_in_key_order : (n : ℕ) (rows : List (VersionedRows A)) → AreInOrder rows → AreInKeyOrder (versions_at rows n)
  shown_in_key_order n [] sorted = tt
  shown_in_key_order n (r ∷ rs) sorted = (shown-in_order n r sorted.0, shown_in_key_order n rs sorted.1)

  -- ---- no commit

  pub stay-same : (l m : Ledger A) (rows more : List (VersionedRows A)) → HasSameCommits l m → more ≡ rows → AreCurrent l rows → StayShown l rows [] m more
  stay-same l m rows more same e current = subst (λ k. StayShown l rows [] m k) (sym e) (record {
    current = record {
      order = current.order;
      below = subst (λ n. TablesAreBelow (n + 1) rows) (sym (ap (λ b. b.commits) same)) current.below;
    };
    earlier = λ n from before. refl;
    later = λ n from after. refl;
  })

  -- ---- a commit

  below_more : (m n : ℕ) (rows : List (VersionedRows A)) → m ≤ n → TablesAreBelow m rows → TablesAreBelow n rows
  below_more m n [] le below = tt
  below_more m n (r ∷ rs) le below = (table r below.0, below_more m n rs le below.1)
    where
      versions : (vs : List (Version A)) → AreBelow m vs → AreBelow n vs
      versions [] b = tt
      versions (v ∷ vs) b = (let p = b.0 in omega arith, versions vs b.1)

      table : (ks : VersionedRows A) → RowsAreBelow m ks → RowsAreBelow n ks
      table [] b = tt
      table (k ∷ ks) b = (versions k.versions b.0, table ks b.1)

  -- a commit's versions put in, of each key the last change's, and of its keys those dropped that no snapshot shows which is needed
  pub installs : (needed : Needed) (number : ℕ) (ys xs : List (Change A)) (rows more : List (VersionedRows A)) → AreMerged ys xs → more ≡ settled needed ys (installed number ys rows) → AreInOrder rows → TablesAreBelow number rows
      → IsInstalled needed number xs rows more
  installs needed number ys xs rows more merged e order below = subst (IsInstalled needed number xs rows) (sym e) (record {
    order = settled-in_order needed ys (installed number ys rows) (installed-in_order number ys rows order);
    below = settled-below (number + 1) needed ys (installed number ys rows) (below-later (number + 1) (omega arith));
    earlier = λ n from is before. shown-settled needed n ys (installed number ys rows) (from, inl is) ∙ shown-hidden_install n number ys rows (lt-leb number n before);
    later = λ n from after.
        shown-settled needed n ys (installed number ys rows) (from, inr (below-later (n + 1) (omega arith))) ∙ shown-installed n number ys rows order (le-leb number n after)
        ∙ merged.same (shown n rows) (shown_in_key_order n rows order);
  })
    where
      below-later : (m : ℕ) → number < m → TablesAreBelow m (installed number ys rows)
      below-later m lt = installed-below m number ys rows lt (below_more number m rows (omega arith) below)

  -- ---- snapshots that may still be read

  -- a transaction's that its session has still to end
  pub owed-is_read : (ts : List (Txn A)) (t : Txn A) → In t ts → is_owed t.standing ≡ true → is_owed_at t.snapshot ts ≡ true
  owed-is_read [] t i o = absurd i
  owed-is_read (u ∷ us) t i o = go i (λ k. owed-is_read us t k o)
    where
      go : (t ≡ u) ⊎ In t us → (In t us → is_owed_at t.snapshot us ≡ true) → is_owed_at t.snapshot (u ∷ us) ≡ true
      go (inl e) rest = subst (λ (x : Txn A). is_owed_at t.snapshot (x ∷ us) ≡ true) e (rw o (ap (λ b. b || is_owed_at t.snapshot us) (eq-eqb t.snapshot t.snapshot refl)))
      go (inr k) rest = first (is_owed u.standing) (rest k)
        where
          first : (b : Bool) → is_owed_at t.snapshot us ≡ true → list_any (λ s. s == t.snapshot) (cond b (u.snapshot ∷ owed_snapshots us) (owed_snapshots us)) ≡ true
          first true e = or_right (u.snapshot == t.snapshot) (is_owed_at t.snapshot us) e
          first false e = e

  -- one of these has it
  abbrev pub HasOwner : ℕ → List (Txn A) → Type 0
  HasOwner n ts = (t : Txn A) × In t ts × (is_owed t.standing ≡ true) × (t.snapshot ≡ n)

  -- and each is one's
  pub read-is_owed : (n : ℕ) (ts : List (Txn A)) → is_owed_at n ts ≡ true → HasOwner n ts
  read-is_owed n [] e = absurd (true≢false (sym e))
  read-is_owed n (u ∷ us) e = first (is_owed u.standing) refl e (λ f. let r = read-is_owed n us f in (r.0, inr r.1, r.2, r.3))
    where
      here : (b : Bool) → (u.snapshot == n) ≡ b → is_owed u.standing ≡ true → (b || is_owed_at n us) ≡ true → (is_owed_at n us ≡ true → HasOwner n (u ∷ us)) → HasOwner n (u ∷ us)
      here true is o f later = (u, inl refl, o, eqb-true u.snapshot n is)
      here false is o f later = later f

      first : (b : Bool) → is_owed u.standing ≡ b → list_any (λ s. s == n) (cond b (u.snapshot ∷ owed_snapshots us) (owed_snapshots us)) ≡ true → (is_owed_at n us ≡ true → HasOwner n (u ∷ us)) → HasOwner n (u ∷ us)
      first true o f later = here (u.snapshot == n) refl o f later
      first false o f later = later f

  -- none is below the least
  lowest-most : (k : ℕ) (ts : List (Txn A)) → lowest_of k ts ≤ k
  lowest-most k [] = omega arith
  lowest-most k (t ∷ ts) = go (is_owed t.standing) (lowest-most k ts)
    where
      go : (b : Bool) → lowest_of k ts ≤ k → cond b (min t.snapshot (lowest_of k ts)) (lowest_of k ts) ≤ k
      go true h = omega arith
      go false h = h

  lowest-owed : (k n : ℕ) (ts : List (Txn A)) → is_owed_at n ts ≡ true → lowest_of k ts ≤ n
  lowest-owed k n [] e = absurd (true≢false (sym e))
  lowest-owed k n (t ∷ ts) e = go (is_owed t.standing) e (lowest-owed k n ts)
    where
      here : (b : Bool) → (t.snapshot == n) ≡ b → (b || is_owed_at n ts) ≡ true → (is_owed_at n ts ≡ true → lowest_of k ts ≤ n) → min t.snapshot (lowest_of k ts) ≤ n
      here true is f rest = let same : t.snapshot ≡ n = eqb-true t.snapshot n is in omega arith
      here false is f rest = let h = rest f in omega arith

      go : (b : Bool) → list_any (λ s. s == n) (cond b (t.snapshot ∷ owed_snapshots ts) (owed_snapshots ts)) ≡ true → (is_owed_at n ts ≡ true → lowest_of k ts ≤ n) → cond b (min t.snapshot (lowest_of k ts)) (lowest_of k ts) ≤ n
      go true f rest = here (t.snapshot == n) refl f rest
      go false f rest = rest f

  pub lowest-read : (l : Ledger A) (n : ℕ) → may_be_read l n ≡ true → lowest l ≤ n
  lowest-read l n e = go (nat_le l.base.commits n) refl e
    where
      go : (b : Bool) → nat_le l.base.commits n ≡ b → (b || is_owed_at n l.txns) ≡ true → lowest l ≤ n
      go true is f = let a = lowest-most l.base.commits l.txns in let b = leb-true l.base.commits n is in omega arith
      go false is f = lowest-owed l.base.commits n l.txns f

  -- a transaction that is doomed has its snapshot still
  doomed_snapshot : (place : ℕ) (cs : List Cause) (t : Txn A) → ((doomed_by place cs t).snapshot ≡ t.snapshot) × (is_owed (doomed_by place cs t).standing ≡ is_owed t.standing)
  doomed_snapshot place cs t = go (is_open t.standing) refl (find (λ c. c.b.0 == t.number) cs)
    where
      go : (b : Bool) → is_open t.standing ≡ b → (o : Option Cause) → ((doomed_with place (cond b o None) t).snapshot ≡ t.snapshot) × (is_owed (doomed_with place (cond b o None) t).standing ≡ is_owed t.standing)
      go true p None = (refl, refl)
      go true p (Some c) = (refl, sym (ap is_owed (open_is t.standing p)))
      go false p o = (refl, refl)

  owed-doomed : (place : ℕ) (cs : List Cause) (ts : List (Txn A)) → owed_snapshots (map (doomed_by place cs) ts) ≡ owed_snapshots ts
  owed-doomed place cs [] = refl
  owed-doomed place cs (t ∷ ts) =
      let same = doomed_snapshot place cs t in
      let rest = owed_snapshots (map (doomed_by place cs) ts) in
      ap (λ b. cond b ((doomed_by place cs t).snapshot ∷ rest) rest) same.1
      ∙ ap (λ s. cond (is_owed t.standing) (s ∷ rest) rest) same.0
      ∙ ap (λ ss. cond (is_owed t.standing) (t.snapshot ∷ ss) ss) (owed-doomed place cs ts)

  -- after the commit of a read-write transaction
  pub stay-installed : (l m : Ledger A) (rows more : List (VersionedRows A)) (xs : List (Change A)) (n : ℕ) (course : Course) (cs : List Cause)
      → m ≡ record l { base = record l.base { commits = l.base.commits + 1 }; txns = map (doomed_by (l.place + 1) cs) (turned_at n (on_course course) l.txns); place = l.place + 1 }
      → IsInstalled (needed_of (next_commit l) (turned_at n (on_course course) l.txns)) (next_commit l) xs rows more → StayShown l rows xs m more
  stay-installed l m rows more xs n course cs e h = subst (λ k. StayShown l rows xs k more) (sym e) (record {
    current = record { order = h.order; below = h.below };
    earlier = λ k read before. let is = owed k before read in h.earlier k (lowest-owed (next_commit l) k after is) is before;
    later = λ k read from. h.later k (let p = lowest-most (next_commit l) after in omega (arith, p, from)) from;
  })
    where
      after : List (Txn A)
      after = turned_at n (on_course course) l.txns

      owed : (k : ℕ) → k < next_commit l → (nat_le (next_commit l) k || is_owed_at k (map (doomed_by (l.place + 1) cs) (turned_at n (on_course course) l.txns))) ≡ true → is_owed_at k (turned_at n (on_course course) l.txns) ≡ true
      owed k before read =
          ap (λ ss. list_any (λ s. s == k) ss) (sym (owed-doomed (l.place + 1) cs (turned_at n (on_course course) l.txns)))
          ∙ sym (ap (λ b. b || is_owed_at k (map (doomed_by (l.place + 1) cs) (turned_at n (on_course course) l.txns))) (lt-leb (next_commit l) k before)) ∙ read
