-- Transactions by their places and by their numbers.
use Rattle.std.proofs.Common.{◌≡◌, refl, sym, ap, subst, ◌∙◌, ℕ, zero, suc, ◌+◌, ◌^◌, ◌<◌, ◌≤◌, Bool, true, false, true≢false, cond, not, List, [], ◌∷◌, ◌++◌, length, map, take, drop, get_or, eqb, arith, length-append, Some, None, slice_get}
use Rattle.std.specs.List.{find}
use Rattle.std.proofs.Math.ListN.{set}
use Rattle.std.proofs.lemmas.Bool.{eqb-true, eq-eqb}
use Rattle.statement.specs.declared.reply.Reply.{Reply}
use Rattle.statement.specs.declared.reply.Reply.TheVariants.{Safe, Wait}
use Rattle.value.specs.declared.refusal.Code.TheVariants as code
use Rattle.std.proofs.lemmas.List.{get_or_default}
use Rattle.schema.specs.Definition.{Catalog}
use Rattle.schema.specs.declared.tables.Tables.{Tables}
use Rattle.history.specs.declared.event.Action.{Action}
use Rattle.history.specs.declared.event.Action.TheVariants.{Run, Export, Commit}
use Rattle.history.specs.Transactions.{Standing, Open, Doomed, Failed, Aborted, Done, Txn, World, is_of, is_open, is_deferrable, is_pending}
use Rattle.history.specs.Events.{polled, replaced, turned}
use Rattle.history.specs.Answer.{poll_reply, refuses, reply_from, open_reply, doomed, failed, idle}
use Rattle.transactions.specs.declared.answers.course.Course.{Course}
use Rattle.transactions.specs.Courses.{is_simple, on_course}
use Rattle.transactions.specs.Ledger.{Ledger, IsCounted, AreNumbered, kept, nothing, world_on, after_owned, turned_at, is_pending_at, txn_at}

module _ {A : Type 0} where
  -- ---- places

  pub turned_at-set : (f : Txn A → Txn A) (ts : List (Txn A)) (n : ℕ) (x : Txn A) → n < length ts → x ≡ get_or ts n x → set ts n (f x) ≡ turned_at n f ts
  turned_at-set f [] n x h e = absurd (omega arith)
  turned_at-set f (t ∷ ts) zero x h e = ap (λ y. f y ∷ ts) e
  turned_at-set f (t ∷ ts) (suc n) x h e = ap (λ us. t ∷ us) (turned_at-set f ts n x (omega arith) e)

  pub length-turned_at : (f : Txn A → Txn A) (ts : List (Txn A)) (n : ℕ) → length (turned_at n f ts) ≡ length ts
  length-turned_at f [] n = refl
  length-turned_at f (t ∷ ts) zero = refl
  length-turned_at f (t ∷ ts) (suc n) = ap suc (length-turned_at f ts n)

  pub numbered-turned_at : (f : Txn A → Txn A) → ((t : Txn A) → (f t).number ≡ t.number) → (n m : ℕ) (ts : List (Txn A)) (i : ℕ) → AreNumbered n m ts → AreNumbered n m (turned_at i f ts)
  numbered-turned_at f same n m [] i h = tt
  numbered-turned_at f same n m (t ∷ ts) zero h = subst (λ k. (n < k) × (k ≤ m) × AreNumbered k m ts) (sym (same t)) h
  numbered-turned_at f same n m (t ∷ ts) (suc i) h = (h.0, h.1, numbered-turned_at f same t.number m ts i h.2)

  -- no number of these is used up later
  pub numbered-more : (n m k : ℕ) (ts : List (Txn A)) → m ≤ k → AreNumbered n m ts → AreNumbered n k ts
  numbered-more n m k [] le h = tt
  numbered-more n m k (t ∷ ts) le h = (h.0, (let p = h.1 in omega arith), numbered-more t.number m k ts le h.2)

  -- each is above those before
  pub number_at : (n m : ℕ) (ts : List (Txn A)) (i : ℕ) (t : Txn A) → AreNumbered n m ts → i < length ts → n < (get_or ts i t).number
  number_at n m [] i t h l = absurd (omega arith)
  number_at n m (u ∷ ts) zero t h l = h.0
  number_at n m (u ∷ ts) (suc i) t h l = omega (arith, h.0, number_at u.number m ts i t h.2 (omega arith))

  -- none of these has a number at most n
  replaced_below : (n m : ℕ) (ts : List (Txn A)) (x : Txn A) → AreNumbered n m ts → x.number ≤ n → replaced x ts ≡ ts
  replaced_below n m [] x h l = refl
  replaced_below n m (t ∷ ts) x h l =
      ap (λ us. cond (eqb t.number x.number) x t ∷ us) (replaced_below t.number m ts x h.2 (let p = h.0 in omega arith))
      ∙ ap (λ b. cond b x t ∷ ts) (no (eqb t.number x.number) refl)
    where
      no : (b : Bool) → eqb t.number x.number ≡ b → b ≡ false
      no true e = let p = eqb-true t.number x.number e in let q = h.0 in absurd (omega arith)
      no false e = refl

  -- The transaction at a place turned is it replaced.
  pub turned_at-replaced : (f : Txn A → Txn A) (n m : ℕ) (ts : List (Txn A)) (i : ℕ) (t x : Txn A) → AreNumbered n m ts → i < length ts → t ≡ get_or ts i t → f t ≡ x → x.number ≡ t.number → turned_at i f ts ≡ replaced x ts
  turned_at-replaced f n m [] i t x h l e g s = absurd (omega arith)
  turned_at-replaced f n m (u ∷ ts) zero t x h l e g s =
      ap (λ y. f y ∷ ts) (sym e) ∙ ap (λ y. y ∷ ts) g
      ∙ ap (λ us. x ∷ us) (sym (replaced_below u.number m ts x h.2 (omega (arith, s, ap (λ (y : Txn A). y.number) e))))
      ∙ ap (λ b. cond b x u ∷ replaced x ts) (sym (eq-eqb u.number x.number (sym (ap (λ (y : Txn A). y.number) e) ∙ sym s)))
  turned_at-replaced f n m (u ∷ ts) (suc i) t x h l e g s =
      ap (λ us. u ∷ us) (turned_at-replaced f u.number m ts i t x h.2 (omega arith) e g s)
      ∙ ap (λ b. cond b x u ∷ replaced x ts) (sym (no (eqb u.number x.number) refl))
    where
      no : (b : Bool) → eqb u.number x.number ≡ b → b ≡ false
      no true p = let q = eqb-true u.number x.number p in let r = number_at u.number m ts i t h.2 (omega arith) in let v = ap (λ (y : Txn A). y.number) e in absurd (omega arith)
      no false p = refl

  -- ---- what is counted

  -- as many transactions in the same order
  pub counted-as : (l : Ledger A) (ts : List (Txn A)) → IsCounted l → AreNumbered 0 (l.base.transactions + length l.txns) ts → length ts ≡ length l.txns → l.place + 1 < 2 ^ 64 → IsCounted (record l { txns = ts; place = l.place + 1 })
  counted-as l ts h numbered same fits = record {
    numbered = subst (λ k. AreNumbered 0 (l.base.transactions + k) ts) (sym same) numbered;
    transactions = omega (arith, same, h.transactions);
    commits = omega (arith, h.commits);
    identifiers = omega (arith, h.identifiers);
    fits = fits;
  }

  pub counted-turned : (l : Ledger A) (n : ℕ) (c : Course) → IsCounted l → l.place + 1 < 2 ^ 64 → IsCounted (record l { txns = turned_at n (on_course c) l.txns; place = l.place + 1 })
  counted-turned l n c h fits =
      counted-as l (turned_at n (on_course c) l.txns) h (numbered-turned_at (on_course c) (λ t. refl) 0 (l.base.transactions + length l.txns) l.txns n h.numbered) (length-turned_at (on_course c) l.txns n) fits

  -- ---- a POLL

  -- the reply of one whose snapshot isn't known to be safe, by the course that it takes
  pub poll_late : (w : World A) (t : Txn A) (r : Course) → is_deferrable t.mode ≡ true → t.known ≡ false → on_course r t ≡ kept (polled w t) → poll_reply w t ≡ cond {A = Reply A} (is_pending_at w.txns r.taken) Wait (Safe r.snapshot)
  poll_late w t r d k h =
      ap (λ b. cond (not b) (refuses code.ObjectNotInPrerequisiteState) (cond t.known (Safe t.snapshot) (cond {A = Reply A} (is_pending w.txns (polled w t)) Wait (Safe (polled w t).snapshot)))) d
      ∙ ap (λ b. cond b (Safe t.snapshot) (cond {A = Reply A} (is_pending w.txns (polled w t)) Wait (Safe (polled w t).snapshot))) k
      ∙ ap (λ (x : Txn A). cond {A = Reply A} (is_pending w.txns x) Wait (Safe x.snapshot)) (sym h)

  -- ---- events that turn a transaction's course

  pub numbered-push : (n m k : ℕ) (ts : List (Txn A)) (x : Txn A) → AreNumbered n m ts → n ≤ m → m < x.number → x.number ≤ k → AreNumbered n k (ts ++ x ∷ [])
  numbered-push n m k [] x h le lt top = (omega arith, top, tt)
  numbered-push n m k (t ∷ ts) x h le lt top = (h.0, (let p = h.1 in omega arith), numbered-push t.number m k ts x h.2 h.1 lt top)

  pub counted-begun : (l : Ledger A) (x : Txn A) → IsCounted l → x.number ≡ l.base.transactions + length l.txns + 1 → l.place + 1 < 2 ^ 64 → IsCounted (record l { txns = l.txns ++ x ∷ []; place = l.place + 1 })
  counted-begun l x h e fits =
      let long = length-append l.txns (x ∷ []) in record {
        numbered = numbered-push 0 (l.base.transactions + length l.txns) (l.base.transactions + length (l.txns ++ x ∷ [])) l.txns x h.numbered (omega arith) (omega (arith, e)) (omega (arith, e, long));
        transactions = omega (arith, long, h.transactions);
        commits = omega (arith, h.commits);
        identifiers = omega (arith, h.identifiers);
        fits = fits;
      }

  -- the transaction that is read at a place is the one there
  pub txn_at-is : (ts : List (Txn A)) (n : ℕ) (t : Txn A) → n < length ts → t ≡ get_or ts n t → txn_at ts n ≡ t
  txn_at-is ts n t h e = get_or_default ts n nothing t h ∙ sym e

  -- an event that turns one transaction and nothing else
  abbrev pub turns_one : World A → Txn A → Ledger A
  turns_one w x = record { base = w.base; txns = replaced x w.txns; exports = w.exports; place = w.place + 1 }

  after_over : (w : World A) (t : Txn A) (a : Action A) (st : Standing) → (is_open st ≡ true → is_simple a ≡ true) → after_owned w a (reply_from st w t a) t ≡ turns_one w (kept (turned w a (reply_from st w t a) t))
  after_over w t a Open s = go a (s refl)
    where
      go : (a : Action A) → is_simple a ≡ true → after_owned w a (open_reply w t a) t ≡ turns_one w (kept (turned w a (open_reply w t a) t))
      go (Run q) e = absurd (true≢false (sym e))
      go Export e = absurd (true≢false (sym e))
      go Commit e = absurd (true≢false (sym e))
      go _ e = refl
  after_over w t a (Doomed c) s = go a
    where
      go : (a : Action A) → after_owned w a (doomed c a) t ≡ turns_one w (kept (turned w a (doomed c a) t))
      go Commit = refl
      go Export = refl
      go _ = refl
  after_over w t a Failed s = go a
    where
      go : (a : Action A) → after_owned w a (failed a) t ≡ turns_one w (kept (turned w a (failed a) t))
      go Commit = refl
      go Export = refl
      go _ = refl
  after_over w t a Aborted s = go a
    where
      go : (a : Action A) → after_owned w a (idle a) t ≡ turns_one w (kept (turned w a (idle a) t))
      go Commit = refl
      go Export = refl
      go _ = refl
  after_over w t a Done s = go a
    where
      go : (a : Action A) → after_owned w a (idle a) t ≡ turns_one w (kept (turned w a (idle a) t))
      go Commit = refl
      go Export = refl
      go _ = refl

  -- a course on which a transaction is what an event makes of it
  pub course-replaced : (l : Ledger A) (n : ℕ) (t x : Txn A) (course : Course) → IsCounted l → n < length l.txns → t ≡ get_or l.txns n t → on_course course t ≡ kept x → turned_at n (on_course course) l.txns ≡ replaced (kept x) l.txns
  course-replaced l n t x course counted h e g = turned_at-replaced (on_course course) 0 (l.base.transactions + length l.txns) l.txns n t (kept x) counted.numbered h e g (sym (ap (λ (y : Txn A). y.number) g))

  pub settled : (l : Ledger A) (c : Catalog) (X : Tables A) (a : Action A) (n : ℕ) (t : Txn A) (course : Course) (r : Reply A)
      → IsCounted l → n < length l.txns → t ≡ get_or l.txns n t → (is_open (txn_at l.txns n).standing ≡ true → is_simple a ≡ true)
      → r ≡ reply_from t.standing (world_on c X l) t a → on_course course t ≡ kept (turned (world_on c X l) a r t)
      → record l { txns = turned_at n (on_course course) l.txns; place = l.place + 1 } ≡ after_owned (world_on c X l) a r (txn_at l.txns n)
  settled l c X a n t course r counted h e simple answered g =
      ap (λ ts. record l { txns = ts; place = l.place + 1 }) (course-replaced l n t (turned (world_on c X l) a r t) course counted h e g)
      ∙ sym (subst (λ v. after_owned (world_on c X l) a v t ≡ turns_one (world_on c X l) (kept (turned (world_on c X l) a v t))) (sym answered)
      (after_over (world_on c X l) t a t.standing (λ o. simple (ap (λ (y : Txn A). is_open y.standing) (txn_at-is l.txns n t h e) ∙ o))))
      ∙ ap (after_owned (world_on c X l) a r) (sym (txn_at-is l.txns n t h e))

  pub all_over : (f : Txn A → Txn A) (xs ys : List (Txn A)) (n : ℕ) → length xs ≤ n → ys ≡ map f (take n xs) ++ drop n xs → ys ≡ map f xs
  all_over f xs ys n h e = e ∙ past xs n h
    where
      past : (xs : List (Txn A)) (n : ℕ) → length xs ≤ n → map f (take n xs) ++ drop n xs ≡ map f xs
      past [] zero h = refl
      past [] (suc n) h = refl
      past (x ∷ xs) zero h = absurd (omega arith)
      past (x ∷ xs) (suc n) h = ap (λ us. f x ∷ us) (past xs n (omega arith))

  -- ---- a transaction turned twice

  pub turned_at-again : (f h : Txn A → Txn A) (ts : List (Txn A)) (n : ℕ) → turned_at n h (turned_at n f ts) ≡ turned_at n (λ t. h (f t)) ts
  turned_at-again f h [] n = refl
  turned_at-again f h (t ∷ ts) zero = refl
  turned_at-again f h (t ∷ ts) (suc n) = ap (λ us. t ∷ us) (turned_at-again f h ts n)

  -- a course on which a transaction stays as it is
  pub turned_at-same : (course : Course) (ts : List (Txn A)) (n : ℕ) (t : Txn A) → n < length ts → t ≡ get_or ts n t → on_course course t ≡ t → turned_at n (on_course course) ts ≡ ts
  turned_at-same course [] n t h e g = refl
  turned_at-same course (u ∷ ts) zero t h e g = ap (λ y. on_course course y ∷ ts) (sym e) ∙ ap (λ y. y ∷ ts) (g ∙ e)
  turned_at-same course (u ∷ ts) (suc n) t h e g = ap (λ us. u ∷ us) (turned_at-same course ts n t (omega arith) e g)

  -- ---- the transaction that was found at a place

  got-at : (ts : List (Txn A)) (n : ℕ) → n < length ts → slice_get ts n ≡ Some (txn_at ts n)
  got-at [] n h = absurd (omega arith)
  got-at (t ∷ ts) zero h = refl
  got-at (t ∷ ts) (suc n) h = got-at ts n (omega arith)

  pub found_at : (us ts : List (Txn A)) (s n : ℕ) → us ≡ ts → find (is_of s) us ≡ slice_get us n → n < length us → find (is_of s) ts ≡ Some (txn_at ts n)
  found_at us ts s n same found h = subst (λ xs. find (is_of s) xs ≡ Some (txn_at xs n)) same (found ∙ got-at us n h)

  pub found_none : (us ts : List (Txn A)) (s : ℕ) → us ≡ ts → find (is_of s) us ≡ None → find (is_of s) ts ≡ None
  found_none us ts s same none = subst (λ xs. find (is_of s) xs ≡ None) same none

  -- the transaction at a place, turned
  pub got-turned : (f : Txn A → Txn A) (ts : List (Txn A)) (n : ℕ) → n < length ts → slice_get (turned_at n f ts) n ≡ Some (f (txn_at ts n))
  got-turned f [] n h = absurd (omega arith)
  got-turned f (t ∷ ts) zero h = refl
  got-turned f (t ∷ ts) (suc n) h = got-turned f ts n (omega arith)
