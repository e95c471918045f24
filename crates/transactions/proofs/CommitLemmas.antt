-- What a commit, an export and a statement leave in the ledger.
use Rattle.std.proofs.Common.{◌≡◌, refl, sym, ap, ◌∙◌, ℕ, suc, ◌+◌, ◌^◌, ◌<◌, ◌≤◌, Bool, true, false, true≢false, subst, cond, List, [], ◌∷◌, ◌++◌, length, map, slice_get, Option, Some, None, Result, Ok, Err, eqb, arith, length-append}
use Rattle.std.specs.List.{find}
use Rattle.std.specs.Prelude.{OnOk, IfOk, IsOk, is_ok}
use Rattle.std.proofs.lemmas.List.{get_or_default}
use Rattle.std.proofs.lemmas.Option.{same_Some}
use Rattle.value.specs.declared.refusal.Refusal.{Refusal}
use Rattle.value.specs.declared.refusal.Cause.{Cause}
use Rattle.value.specs.Isolation.{first_cause, dooms}
use Rattle.schema.specs.Definition.{Catalog}
use Rattle.schema.specs.declared.tables.Tables.{Tables}
use Rattle.statement.specs.declared.statement.Statement.{Statement}
use Rattle.statement.specs.declared.reply.Reply.{Reply}
use Rattle.statement.specs.declared.reply.Reply.TheVariants.{Committed, Exported, Refused}
use Rattle.statement.specs.Evaluation.{outcome}
use Rattle.statement.specs.Footprint.{footprint}
use Rattle.history.specs.declared.event.Action.{Action}
use Rattle.history.specs.declared.event.Action.TheVariants.{Run, Export, Commit}
use Rattle.history.specs.Transactions.{Standing, Open, Doomed, Failed, Aborted, Done, Txn, World, Exported_snapshot, node, edge, reads_from, commits, is_open, is_read_write}
use Rattle.history.specs.Events.{doomed_by, doomed_with, ended, fails, goes_on, moved, numbered, ran, replaced, turned, turned_from}
use Rattle.history.specs.Answer.{cause_of, is_refused}
use Rattle.transactions.specs.declared.answers.course.Course.{Course}
use Rattle.transactions.specs.Courses.{on_course}
use Rattle.history.specs.Needed.{HoldCommitter}
use Rattle.transactions.specs.Runs.{adds}
use Rattle.transactions.specs.Structures.{StructuresHold}
use Rattle.transactions.specs.Ledger.{Ledger, IsCounted, AreNumbered, kept, nothing, with_own, world_on, after_owned, turned_at, txn_at}
use Rattle.transactions.proofs.LedgerLemmas.{turned_at-replaced, numbered-turned_at, length-turned_at, counted-as, counted-turned, got-turned}

pub open_is : (st : Standing) → is_open st ≡ true → st ≡ Open
open_is Open e = refl
open_is (Doomed c) e = absurd (true≢false (sym e))
open_is Failed e = absurd (true≢false (sym e))
open_is Aborted e = absurd (true≢false (sym e))
open_is Done e = absurd (true≢false (sym e))

pub on_if_map : {T E : Type 0} (P : Type 0) (Q : T → Type 0) (r : Result T E) → ((x : T) → P → Q x) → OnOk r P → IfOk r Q
on_if_map P Q (Ok v) f h = f v h
on_if_map P Q (Err v) f h = h

pub is_ok_so : {T E : Type 0} (r : Result T E) → IsOk r → is_ok r ≡ true
is_ok_so (Ok v) h = refl
is_ok_so (Err v) h = h

pub if_ok_map : {T E : Type 0} (P Q : T → Type 0) (r : Result T E) → ((x : T) → P x → Q x) → IfOk r P → IfOk r Q
if_ok_map P Q (Ok v) f h = f v h
if_ok_map P Q (Err v) f h = h

-- what stands in it, if something does
abbrev pub inside_or : {X : Type 0} → X → Option X → X
inside_or d None = d
inside_or d (Some x) = x

module _ {A : Type 0} where
  pub turned-open : (w : World A) (a : Action A) (r : Reply A) (t : Txn A) → is_open t.standing ≡ true → turned w a r t ≡ moved w a r t
  turned-open w a r t o = ap (λ st. turned_from st w a r t) (open_is t.standing o)

  -- the transaction at a place, turned by f to x, is replaced by x
  pub at-replaced : (f : Txn A → Txn A) (l : Ledger A) (n : ℕ) (x : Txn A) → IsCounted l → n < length l.txns → f (txn_at l.txns n) ≡ x → x.number ≡ (txn_at l.txns n).number → turned_at n f l.txns ≡ replaced x l.txns
  at-replaced f l n x counted h g s = turned_at-replaced f 0 (l.base.transactions + length l.txns) l.txns n (txn_at l.txns n) x counted.numbered h (get_or_default l.txns n nothing (txn_at l.txns n) h) g s

  -- ---- commits

  -- all commits are counted by the base
  pub commits-kept : (c : Catalog) (X : Tables A) (l : Ledger A) → commits (world_on c X l) ≡ l.base.commits
  commits-kept c X l = omega arith

  pub numbered-writer : (w : World A) (t : Txn A) → is_read_write t.mode ≡ true → record (ended w Done t) { commit = commits w + 1 } ≡ numbered w t
  numbered-writer w t e = ap (λ b. cond b (record (ended w Done t) { commit = commits w + 1 }) (ended w Done t)) (sym e)

  pub numbered-reader : (w : World A) (t : Txn A) → is_read_write t.mode ≡ false → ended w Done t ≡ numbered w t
  numbered-reader w t e = ap (λ b. cond b (record (ended w Done t) { commit = commits w + 1 }) (ended w Done t)) (sym e)

  -- what a commit would make of all transactions
  pub committing : (l : Ledger A) (c : Catalog) (X : Tables A) (n : ℕ) (course : Course) → IsCounted l → n < length l.txns
      → on_course course (txn_at l.txns n) ≡ numbered (world_on c X l) (txn_at l.txns n) → turned_at n (on_course course) l.txns ≡ replaced (numbered (world_on c X l) (txn_at l.txns n)) l.txns
  committing l c X n course counted h g = at-replaced (on_course course) l n _ counted h g (sym (ap (λ (y : Txn A). y.number) g))

  pub cause_of-is : (l : Ledger A) (c : Catalog) (X : Tables A) (n : ℕ) (course : Course) → IsCounted l → n < length l.txns
      → on_course course (txn_at l.txns n) ≡ numbered (world_on c X l) (txn_at l.txns n) → first_cause node edge (turned_at n (on_course course) l.txns) ≡ cause_of (world_on c X l) (txn_at l.txns n)
  cause_of-is l c X n course counted h g = ap (first_cause node edge) (committing l c X n course counted h g)

  -- each structure that the commit makes holds the transaction
  pub holds-committing : (l : Ledger A) (c : Catalog) (X : Tables A) (n : ℕ) (course : Course) → IsCounted l → n < length l.txns
      → on_course course (txn_at l.txns n) ≡ numbered (world_on c X l) (txn_at l.txns n) → HoldCommitter (world_on c X l) (txn_at l.txns n)
      → StructuresHold node edge (on_course course (txn_at l.txns n)) (turned_at n (on_course course) l.txns)
  holds-committing l c X n course counted h g holds =
      subst (λ (y : Txn A). StructuresHold node edge y (turned_at n (on_course course) l.txns)) (sym g)
      (subst (λ (ts : List (Txn A)). StructuresHold node edge (numbered (world_on c X l) (txn_at l.txns n)) ts) (sym (committing l c X n course counted h g)) holds)

  pub holds-turned : (f : Txn A → Txn A) (ts us : List (Txn A)) (n : ℕ) → n < length ts → us ≡ turned_at n f ts → StructuresHold node edge (f (txn_at ts n)) (turned_at n f ts)
      → (x : Txn A) → slice_get us n ≡ Some x → StructuresHold node edge x us
  holds-turned f ts us n h e holds x = subst (λ (vs : List (Txn A)). slice_get vs n ≡ Some x → StructuresHold node edge x vs) (sym e)
      (λ p. subst (λ (y : Txn A). StructuresHold node edge y (turned_at n f ts)) (same_Some (f (txn_at ts n)) x (sym (got-turned f ts n h) ∙ p)) holds)

  -- an event that turns the course of an open transaction
  pub after-turned : (l : Ledger A) (w : World A) (a : Action A) (r : Reply A) (n : ℕ) (course : Course) → IsCounted l → n < length l.txns → is_open (txn_at l.txns n).standing ≡ true
      → on_course course (txn_at l.txns n) ≡ kept (moved w a r (txn_at l.txns n)) → turned_at n (on_course course) l.txns ≡ replaced (kept (turned w a r (txn_at l.txns n))) l.txns
  after-turned l w a r n course counted h o g =
      at-replaced (on_course course) l n (kept (moved w a r (txn_at l.txns n))) counted h g (sym (ap (λ (y : Txn A). y.number) g))
      ∙ ap (λ x. replaced (kept x) l.txns) (sym (turned-open w a r (txn_at l.txns n) o))

  pub after-refused : (l : Ledger A) (c : Catalog) (X : Tables A) (n : ℕ) (course : Course) (r : Refusal) → IsCounted l → n < length l.txns → is_open (txn_at l.txns n).standing ≡ true
      → on_course course (txn_at l.txns n) ≡ kept (ended (world_on c X l) Aborted (txn_at l.txns n))
      → record l { txns = turned_at n (on_course course) l.txns; place = l.place + 1 } ≡ after_owned (world_on c X l) Commit (Refused r) (txn_at l.txns n)
  after-refused l c X n course r counted h o g = ap (λ ts. record l { txns = ts; place = l.place + 1 }) (after-turned l (world_on c X l) Commit (Refused r) n course counted h o g)

  committed_all : (l : Ledger A) (c : Catalog) (X : Tables A) (n : ℕ) (course : Course) → IsCounted l → n < length l.txns → is_open (txn_at l.txns n).standing ≡ true
      → on_course course (txn_at l.txns n) ≡ numbered (world_on c X l) (txn_at l.txns n) → turned_at n (on_course course) l.txns ≡ replaced (kept (turned (world_on c X l) Commit Committed (txn_at l.txns n))) l.txns
  committed_all l c X n course counted h o g = after-turned l (world_on c X l) Commit Committed n course counted h o (ap kept g)

  pub after-written : (l : Ledger A) (c : Catalog) (X : Tables A) (n : ℕ) (course : Course) → IsCounted l → n < length l.txns → is_open (txn_at l.txns n).standing ≡ true → is_read_write (txn_at l.txns n).mode ≡ true
      → on_course course (txn_at l.txns n) ≡ numbered (world_on c X l) (txn_at l.txns n)
      → record l {
        base = record l.base { commits = l.base.commits + 1 };
        txns = map (doomed_by (l.place + 1) (dooms node reads_from l.txns (txn_at l.txns n))) (turned_at n (on_course course) l.txns);
        place = l.place + 1;
      } ≡ after_owned (world_on c X l) Commit Committed (txn_at l.txns n)
  after-written l c X n course counted h o m g =
      ap (λ ts. record l { base = record l.base { commits = l.base.commits + 1 }; txns = map (doomed_by (l.place + 1) (dooms node reads_from l.txns (txn_at l.txns n))) ts; place = l.place + 1 }) (committed_all l c X n course counted h o g)
      ∙ ap (λ b. record l {
        base = cond b (record l.base { commits = l.base.commits + 1 }) l.base;
        txns = map (doomed_by (l.place + 1) (cond b (dooms node reads_from l.txns (txn_at l.txns n)) [])) (replaced (kept (turned (world_on c X l) Commit Committed (txn_at l.txns n))) l.txns);
        place = l.place + 1;
      }) (sym m)

  -- without causes none is doomed
  pub spared : (place : ℕ) (ts : List (Txn A)) → map (doomed_by place []) ts ≡ ts
  spared place [] = refl
  spared place (t ∷ ts) = ap (λ us. doomed_by place [] t ∷ us) (spared place ts) ∙ ap (λ u. u ∷ ts) (go (is_open t.standing))
    where
      go : (b : Bool) → doomed_with place (cond b None None) t ≡ t
      go true = refl
      go false = refl

  pub after-read : (l : Ledger A) (c : Catalog) (X : Tables A) (n : ℕ) (course : Course) → IsCounted l → n < length l.txns → is_open (txn_at l.txns n).standing ≡ true → is_read_write (txn_at l.txns n).mode ≡ false
      → on_course course (txn_at l.txns n) ≡ numbered (world_on c X l) (txn_at l.txns n)
      → record l { txns = turned_at n (on_course course) l.txns; place = l.place + 1 } ≡ after_owned (world_on c X l) Commit Committed (txn_at l.txns n)
  after-read l c X n course counted h o m g =
      ap (λ ts. record l { txns = ts; place = l.place + 1 }) (committed_all l c X n course counted h o g ∙ sym (spared (l.place + 1) (replaced (kept (turned (world_on c X l) Commit Committed (txn_at l.txns n))) l.txns)))
      ∙ ap (λ b. record l {
        base = cond b (record l.base { commits = l.base.commits + 1 }) l.base;
        txns = map (doomed_by (l.place + 1) (cond b (dooms node reads_from l.txns (txn_at l.txns n)) [])) (replaced (kept (turned (world_on c X l) Commit Committed (txn_at l.txns n))) l.txns);
        place = l.place + 1;
      }) (sym m)

  doomed_number : (place : ℕ) (cs : List Cause) (t : Txn A) → (doomed_by place cs t).number ≡ t.number
  doomed_number place cs t = go (is_open t.standing) (find (λ c. eqb c.b.0 t.number) cs)
    where
      with_cause : (o : Option Cause) → (doomed_with place o t).number ≡ t.number
      with_cause None = refl
      with_cause (Some c) = refl

      go : (b : Bool) (o : Option Cause) → (doomed_with place (cond b o None) t).number ≡ t.number
      go true o = with_cause o
      go false o = refl

  numbered-doomed : (place : ℕ) (cs : List Cause) (n m : ℕ) (ts : List (Txn A)) → AreNumbered n m ts → AreNumbered n m (map (doomed_by place cs) ts)
  numbered-doomed place cs n m [] h = tt
  numbered-doomed place cs n m (t ∷ ts) h =
      subst (λ k. (n < k) × (k ≤ m) × AreNumbered k m (map (doomed_by place cs) ts)) (sym (doomed_number place cs t)) (h.0, h.1, numbered-doomed place cs t.number m ts h.2)

  length-doomed : (place : ℕ) (cs : List Cause) (ts : List (Txn A)) → length (map (doomed_by place cs) ts) ≡ length ts
  length-doomed place cs [] = refl
  length-doomed place cs (t ∷ ts) = ap suc (length-doomed place cs ts)

  pub counted-committed : (l : Ledger A) (n : ℕ) (course : Course) (place : ℕ) (cs : List Cause) → IsCounted l → l.place + 1 < 2 ^ 64
      → IsCounted (record l { base = record l.base { commits = l.base.commits + 1 }; txns = map (doomed_by place cs) (turned_at n (on_course course) l.txns); place = l.place + 1 })
  counted-committed l n course place cs h fits = record {
    numbered = all.numbered;
    transactions = all.transactions;
    commits = omega (arith, h.commits);
    identifiers = all.identifiers;
    fits = fits;
  }
    where
      all : IsCounted (record l { txns = map (doomed_by place cs) (turned_at n (on_course course) l.txns); place = l.place + 1 })
      all = counted-as l (map (doomed_by place cs) (turned_at n (on_course course) l.txns)) h
          (numbered-doomed place cs 0 (l.base.transactions + length l.txns) (turned_at n (on_course course) l.txns) (numbered-turned_at (on_course course) (λ t. refl) 0 (l.base.transactions + length l.txns) l.txns n h.numbered))
          (length-doomed place cs (turned_at n (on_course course) l.txns) ∙ length-turned_at (on_course course) l.txns n) fits

  -- ---- exports

  pub counted-exported : (l : Ledger A) (n : ℕ) (course : Course) (x : Exported_snapshot) → IsCounted l → l.place + 1 < 2 ^ 64
      → IsCounted (record l { txns = turned_at n (on_course course) l.txns; exports = l.exports ++ x ∷ []; place = l.place + 1 })
  counted-exported l n course x h fits =
      let all = counted-turned l n course h fits in record {
        numbered = all.numbered;
        transactions = all.transactions;
        commits = omega (arith, h.commits);
        identifiers = omega (arith, length-append l.exports (x ∷ []), h.identifiers);
        fits = fits;
      }

  pub after-exported : (l : Ledger A) (c : Catalog) (X : Tables A) (n : ℕ) (course : Course) (i : ℕ) (x : Exported_snapshot) → IsCounted l → n < length l.txns → is_open (txn_at l.txns n).standing ≡ true
      → on_course course (txn_at l.txns n) ≡ kept (record (txn_at l.txns n) { asked = true })
      → x ≡ record { id = i; exporter = (txn_at l.txns n).number; snapshot = (txn_at l.txns n).snapshot; taken = (txn_at l.txns n).taken; known = (txn_at l.txns n).known }
      → record l { txns = turned_at n (on_course course) l.txns; exports = l.exports ++ x ∷ []; place = l.place + 1 } ≡ after_owned (world_on c X l) Export (Exported i) (txn_at l.txns n)
  after-exported l c X n course i x counted h o g e =
      ap (λ ts. record l { txns = ts; exports = l.exports ++ x ∷ []; place = l.place + 1 }) (after-turned l (world_on c X l) Export (Exported i) n course counted h o g)
      ∙ ap (λ y. record l { txns = replaced (kept (turned (world_on c X l) Export (Exported i) (txn_at l.txns n))) l.txns; exports = l.exports ++ y ∷ []; place = l.place + 1 }) e

  pub after-unexported : (l : Ledger A) (c : Catalog) (X : Tables A) (n : ℕ) (course : Course) (r : Refusal) → IsCounted l → n < length l.txns → is_open (txn_at l.txns n).standing ≡ true
      → on_course course (txn_at l.txns n) ≡ kept (txn_at l.txns n)
      → record l { txns = turned_at n (on_course course) l.txns; place = l.place + 1 } ≡ after_owned (world_on c X l) Export (Refused r) (txn_at l.txns n)
  after-unexported l c X n course r counted h o g = ap (λ ts. record l { txns = ts; place = l.place + 1 }) (after-turned l (world_on c X l) Export (Refused r) n course counted h o g)

  -- ---- statements

  pub after-run_refused : (l : Ledger A) (c : Catalog) (X : Tables A) (tables : ℕ → Tables A) (q : Statement A) (n : ℕ) (course : Course) (r : Refusal) → IsCounted l → n < length l.txns → is_open (txn_at l.txns n).standing ≡ true
      → on_course course (txn_at l.txns n) ≡ kept (fails (world_on c X l) r (txn_at l.txns n))
      → record l { txns = turned_at n (on_course course) l.txns; place = l.place + 1 } ≡ after_owned (world_on c X l) (Run q) (Refused r) (with_own tables (txn_at l.txns n))
  after-run_refused l c X tables q n course r counted h o g =
      ap (λ ts. record l { txns = ts; place = l.place + 1 }) (at-replaced (on_course course) l n (kept (fails w r t)) counted h g (sym (ap (λ (y : Txn A). y.number) g))
      ∙ ap (λ x. replaced x l.txns) (own (goes_on r.code) ∙ ap kept (sym (turned-open w (Run q) (Refused r) (with_own tables t) o))))
    where
      w : World A
      w = world_on c X l

      t : Txn A
      t = txn_at l.txns n

      own : (b : Bool) → kept (cond b t (ended w Failed t)) ≡ kept (cond b (with_own tables t) (ended w Failed (with_own tables t)))
      own true = refl
      own false = refl

  done_is : (w : World A) (q : Statement A) (r : Reply A) (t : Txn A) → is_refused r ≡ false → moved w (Run q) r t ≡ ran w q r t
  done_is w q (Refused r) t e = absurd (true≢false e)
  done_is w q _ t e = refl

  pub after-ran : (l : Ledger A) (c : Catalog) (X : Tables A) (tables : ℕ → Tables A) (q : Statement A) (n : ℕ) (r : Reply A) → IsCounted l → n < length l.txns → is_open (txn_at l.txns n).standing ≡ true → is_refused r ≡ false
      → record l { txns = turned_at n (adds (footprint c q) (outcome c q (with_own tables (txn_at l.txns n)).own).changes (outcome c q (with_own tables (txn_at l.txns n)).own).marks) l.txns; place = l.place + 1 }
      ≡ after_owned (world_on c X l) (Run q) r (with_own tables (txn_at l.txns n))
  after-ran l c X tables q n r counted h o done =
      ap (λ ts. record l { txns = ts; place = l.place + 1 }) (at-replaced _ l n (kept (ran w q r (with_own tables t))) counted h refl refl
      ∙ ap (λ x. replaced (kept x) l.txns) (sym (turned-open w (Run q) r (with_own tables t) o ∙ done_is w q r (with_own tables t) done)))
    where
      w : World A
      w = world_on c X l

      t : Txn A
      t = txn_at l.txns n

  pub counted-added : (l : Ledger A) (n : ℕ) (f : Txn A → Txn A) → ((t : Txn A) → (f t).number ≡ t.number) → IsCounted l → l.place + 1 < 2 ^ 64 → IsCounted (record l { txns = turned_at n f l.txns; place = l.place + 1 })
  counted-added l n f same h fits =
      counted-as l (turned_at n f l.txns) h (numbered-turned_at f same 0 (l.base.transactions + length l.txns) l.txns n h.numbered) (length-turned_at f l.txns n) fits
