-- A POLL that was answered to be safe leaves a transaction whose snapshot is known.
use Rattle.std.proofs.Common.{◌≡◌, refl, sym, ap, ◌∙◌, ℕ, ◌+◌, Bool, true, false, true≢false, cond, not, ◌&&◌, List, [], ◌∷◌, map, Option, Some, None, eqb}
use Rattle.statement.specs.declared.reply.Reply.{Reply}
use Rattle.statement.specs.declared.reply.Reply.TheVariants.{Safe, Wait}
use Rattle.value.specs.declared.refusal.Code.TheVariants as code
use Rattle.history.specs.declared.event.Action.TheVariants.{Poll}
use Rattle.history.specs.Transactions.{Standing, Open, Doomed, Failed, Aborted, Done, Txn, World, current, is_of, is_open, is_deferrable, commits, is_spoilt, is_pending}
use Rattle.history.specs.Events.{polled, with_snapshot, followed, follows, replaced, doomed_by, doomed_with, turned_from}
use Rattle.history.specs.Answer.{reply_in, reply_of, reply_from, poll_reply, refuses}
use Rattle.std.proofs.lemmas.Bool.{eq-eqb}
use Rattle.std.specs.List.{find}
use Rattle.serial.proofs.legal.Legal.{current_in}
use Rattle.serial.proofs.legal.Numbers.{polled_keeps}

module _ {A : Type 0} where
  -- The session's transaction is deferrable and has the snapshot n, which is known to be safe.
  abbrev pub Known : World A → ℕ → ℕ → Type 0
  Known w s n = (t : Txn A) × (current w s ≡ Some t) × (t.known ≡ true) × (t.snapshot ≡ n) × (is_deferrable t.mode ≡ true)

  -- without causes none is doomed
  spared : (place : ℕ) (ts : List (Txn A)) → map (doomed_by place []) ts ≡ ts
  spared place [] = refl
  spared place (t ∷ ts) = ap (λ us. doomed_by place [] t ∷ us) (spared place ts) ∙ ap (λ u. u ∷ ts) (go (is_open t.standing))
    where
      go : (b : Bool) → doomed_with place (cond b None None) t ≡ t
      go true = refl
      go false = refl

  -- one of the session put in its transaction's place is its transaction
  find_new : (s : ℕ) (t x : Txn A) (ts : List (Txn A)) → find (is_of s) ts ≡ Some t → is_of s x ≡ true → t.number ≡ x.number → find (is_of s) (replaced x ts) ≡ Some x
  find_new s t x [] e f n = cc
  find_new s t x (u ∷ ts) e f n = go (eqb u.number x.number) refl (is_of s u) refl (λ g. find_new s t x ts g f n) e
    where
      Found : Txn A → Option (Txn A)
      Found y = cond (is_of s y) (Some y) (find (is_of s) (replaced x ts))

      go : (b : Bool) → eqb u.number x.number ≡ b → (d : Bool) → is_of s u ≡ d → (find (is_of s) ts ≡ Some t → find (is_of s) (replaced x ts) ≡ Some x) → cond d (Some u) (find (is_of s) ts) ≡ Some t → Found (cond b x u) ≡ Some x
      go true p d q rest g = ap (λ c. cond c (Some x) (find (is_of s) (replaced x ts))) f
      go false p true q rest g = let same : u ≡ t = cc in absurd (true≢false (sym (eq-eqb u.number x.number (ap (λ (y : Txn A). y.number) same ∙ n)) ∙ p))
      go false p false q rest g = ap (λ c. cond c (Some u) (find (is_of s) (replaced x ts))) q ∙ rest g

  -- the snapshot that is answered
  poll_shows : (w : World A) (t : Txn A) (n : ℕ) → poll_reply w t ≡ Safe n → (polled w t).snapshot ≡ n
  poll_shows w t n e = first (is_deferrable t.mode) e
    where
      waits : Bool
      waits = is_pending w.txns (polled w t)

      third : (b : Bool) → cond {A = Reply A} b Wait (Safe (polled w t).snapshot) ≡ Safe n → (polled w t).snapshot ≡ n
      third true f = cc
      third false f = cc

      second : (b : Bool) → t.known ≡ b → cond {A = Reply A} b (Safe t.snapshot) (cond {A = Reply A} waits Wait (Safe (polled w t).snapshot)) ≡ Safe n → (polled w t).snapshot ≡ n
      second true k f = let same : t.snapshot ≡ n = cc in ap (λ b. (cond (not b && is_spoilt w.txns t) (with_snapshot w (commits w) (w.place + 1) t) t).snapshot) k ∙ same
      second false k f = third waits f

      first : (b : Bool) → cond {A = Reply A} (not b) (refuses code.ObjectNotInPrerequisiteState) (cond t.known (Safe t.snapshot) (cond {A = Reply A} waits Wait (Safe (polled w t).snapshot))) ≡ Safe n → (polled w t).snapshot ≡ n
      first true f = second t.known refl f
      first false f = cc

  -- it is answered to deferrable ones alone
  poll_deferrable : (w : World A) (t : Txn A) (n : ℕ) → poll_reply w t ≡ Safe n → is_deferrable t.mode ≡ true
  poll_deferrable w t n e = go (is_deferrable t.mode) refl e
    where
      go : (b : Bool) → is_deferrable t.mode ≡ b → cond {A = Reply A} (not b) (refuses code.ObjectNotInPrerequisiteState) (cond t.known (Safe t.snapshot) (cond {A = Reply A} (is_pending w.txns (polled w t)) Wait (Safe (polled w t).snapshot))) ≡ Safe n → is_deferrable t.mode ≡ true
      go true p f = p
      go false p f = cc

  poll_followed : (w : World A) (s n : ℕ) (o : Option (Txn A)) → current w s ≡ o → reply_of w o Poll ≡ Safe n → Known (followed w (record { session = s; action = Poll; reply = Safe n }) o) s n
  poll_followed w s n None c e = cc
  poll_followed w s n (Some t) c e = go t.standing e
    where
      x : Txn A
      x = record (polled w t) { known = true }

      number : t.number ≡ x.number
      number = polled_keeps (λ y. t.number ≡ y.number) w t refl refl

      mode : x.mode ≡ t.mode
      mode = polled_keeps (λ y. y.mode ≡ t.mode) w t refl refl

      is_its : is_of s x ≡ true
      is_its = polled_keeps (λ y. is_of s y ≡ true) w t (current_in w s t c).1 (current_in w s t c).1

      go : (st : Standing) → reply_from st w t Poll ≡ Safe n → Known (record w { log = w.log; txns = map (doomed_by (w.place + 1) []) (replaced (turned_from st w Poll (Safe n) t) w.txns); exports = w.exports; place = w.place + 1 }) s n
      go Open g = (x, ap (find (is_of s)) (spared (w.place + 1) (replaced x w.txns)) ∙ find_new s t x w.txns c is_its number, refl, poll_shows w t n g, ap is_deferrable mode ∙ poll_deferrable w t n g)
      go (Doomed cause) g = cc
      go Failed g = cc
      go Aborted g = cc
      go Done g = cc

  -- After a POLL that was answered to be safe the session's transaction has that snapshot.
  pub answered : (w : World A) (s n : ℕ) → reply_in w s Poll ≡ Safe n → Known (follows w (record { session = s; action = Poll; reply = Safe n })) s n
  answered w s n e = poll_followed w s n (current w s) refl e
