-- No dangerous structure among the committed.
use Rattle.std.proofs.Common.{◌≡◌, refl, sym, ap, ◌∙◌, Bool, true, false, true≢false, cond, ◌&&◌, ◌⊎◌, inl, inr, List, [], ◌∷◌, ◌++◌, None, eqb, nat_lt, nat_le}
use Rattle.std.specs.List.{filter}
use Rattle.value.specs.Isolation.{Node, is_dangerous, earliest, caused, first_some, first_cause}
use Rattle.value.proofs.IsolationLemmas.{In}
use Rattle.value.proofs.SerialLemmas.{In-append}
use Rattle.value.proofs.Basics.{none_from_filter, first_some-In}
use Rattle.history.specs.Transactions.{Standing, Open, Doomed, Failed, Aborted, Done, Txn, World, Exported_snapshot, node, edge, is_open, is_done, is_read_write}
use Rattle.history.specs.Events.{numbered, begun, replaced}
use Rattle.history.specs.Answer.{cause_of}
use Rattle.serial.proofs.legal.Legal.{Move, Stays, Fails, Aborts, Commits, Runs, Asks, Polls, Learns, Imports, Step, Nothing, Begins, Moves, Settles, Dooms}
use Rattle.serial.proofs.structures.Dooms.{Fate, Spared, Over, In-doomed}
use Rattle.serial.proofs.legal.Numbers.{In-replaced, polled_keeps}

none_caused : {T : Type 0} (node : T → Node) (edge : T → T → Bool) (a b : T) (ys : List T) → caused node edge a b (earliest node edge ys) ≡ None → ys ≡ []
none_caused node edge a b [] e = refl
none_caused node edge a b (y ∷ ys) e = cc

pub no_cause : {T : Type 0} (node : T → Node) (edge : T → T → Bool) (ts : List T) → first_cause node edge ts ≡ None → (a b d : T) → In a ts → In b ts → In d ts → is_dangerous node edge a b d ≡ false
no_cause node edge ts e a b d i j k =
    none_from_filter (is_dangerous node edge a b) ts d
    (none_caused node edge a b (filter (is_dangerous node edge a b) ts)
    (first_some-In (λ y. caused node edge a y (earliest node edge (filter (is_dangerous node edge a y) ts))) ts b
    (first_some-In (λ x. first_some (λ y. caused node edge x y (earliest node edge (filter (is_dangerous node edge x y) ts))) ts) ts a e i) j)) k

not_first : (a b c : Bool) → a ≡ false → (a && b) ≡ false
not_first a b c e = ap (λ x. x && b) e

open_not_done : (st : Standing) → is_open st ≡ true → is_done st ≡ false
open_not_done Open e = refl
open_not_done (Doomed c) e = refl
open_not_done Failed e = refl
open_not_done Aborted e = refl
open_not_done Done e = absurd (true≢false (sym e))

module _ {A : Type 0} where
  pub record NoneDangerous (w : World A) : Type 0 where
    pub each : (a b d : Txn A) → In a w.txns → In b w.txns → In d w.txns → is_dangerous node edge a b d ≡ false

  -- A structure has committed members alone.
  committed_members : (a b d : Txn A) → (is_done a.standing ≡ false) ⊎ (is_done b.standing ≡ false) ⊎ (is_done d.standing ≡ false) → is_dangerous node edge a b d ≡ false
  committed_members a b d h = go (is_done a.standing) (is_done b.standing) (is_done d.standing) h
    where
      more : Bool
      more = nat_lt d.commit b.commit

      go : (x y z : Bool) → (x ≡ false) ⊎ (y ≡ false) ⊎ (z ≡ false) → (x && y && z && edge a b && edge b d && nat_lt d.commit b.commit && nat_le d.commit (cond (is_read_write a.mode) a.commit a.snapshot)) ≡ false
      go false y z h = refl
      go true false z h = refl
      go true true false h = refl
      go true true true (inl e) = absurd (true≢false e)
      go true true true (inr (inl e)) = absurd (true≢false e)
      go true true true (inr (inr e)) = absurd (true≢false e)

  how : (w : World A) (t x : Txn A) (log : List (Txn A)) (exports : List Exported_snapshot) → is_open t.standing ≡ true → Move w t x log exports → (is_done x.standing ≡ false) ⊎ (x ≡ numbered w t) × (cause_of w t ≡ None)
  how w t x log exports o (Commits e) = inr (refl, e)
  how w t x log exports o (Polls a b) = inl (polled_keeps (λ y. is_done y.standing ≡ false) w t (open_not_done t.standing o) (open_not_done t.standing o))
  how w t x log exports o (Learns a b d) = inl (polled_keeps (λ y. is_done y.standing ≡ false) w t (open_not_done t.standing o) (open_not_done t.standing o))
  how w t x log exports o Stays = inl (open_not_done t.standing o)
  how w t x log exports o Fails = inl refl
  how w t x log exports o Aborts = inl refl
  how w t x log exports o (Runs q fits a b d) = inl (open_not_done t.standing o)
  how w t x log exports o (Asks a) = inl (open_not_done t.standing o)
  how w t x log exports o (Imports i y a b e) = inl (open_not_done t.standing o)

  -- one replaced by one that is not committed
  replaced_none : (w : World A) (x : Txn A) → NoneDangerous w → is_done x.standing ≡ false → (a b d : Txn A) → In a (replaced x w.txns) → In b (replaced x w.txns) → In d (replaced x w.txns) → is_dangerous node edge a b d ≡ false
  replaced_none w x inv e a b d i j k = go (In-replaced a x w.txns i) (In-replaced b x w.txns j) (In-replaced d x w.txns k)
    where
      Old : Txn A → Type 0
      Old u = In u w.txns × (eqb u.number x.number ≡ false)

      is_x : (y : Txn A) → y ≡ x → is_done y.standing ≡ false
      is_x y p = ap (λ (z : Txn A). is_done z.standing) p ∙ e

      go : (a ≡ x) ⊎ Old a → (b ≡ x) ⊎ Old b → (d ≡ x) ⊎ Old d → is_dangerous node edge a b d ≡ false
      go (inl p) q r = committed_members a b d (inl (is_x a p))
      go (inr p) (inl q) r = committed_members a b d (inr (inl (is_x b q)))
      go (inr p) (inr q) (inl r) = committed_members a b d (inr (inr (is_x d r)))
      go (inr p) (inr q) (inr r) = inv.each a b d p.0 q.0 r.0

  pub none_dangerous_step : (w v : World A) → NoneDangerous w → Step w v → NoneDangerous v
  none_dangerous_step w v inv Nothing = record { each = inv.each }
  none_dangerous_step w v inv (Begins s m) = record { each = λ a b d i j k. go a b d (split a i) (split b j) (split d k) }
    where
      New : Txn A → Type 0
      New t = (t ≡ begun w s m) ⊎ ⊥

      split : (t : Txn A) → In t (w.txns ++ begun w s m ∷ []) → In t w.txns ⊎ New t
      split t i = In-append (λ (_ : Txn A). (0, 0, 0)) t w.txns (begun w s m ∷ []) i

      is_new : (t : Txn A) → New t → is_done t.standing ≡ false
      is_new t (inl p) = ap (λ (y : Txn A). is_done y.standing) p
      is_new t (inr p) = absurd p

      go : (a b d : Txn A) → In a w.txns ⊎ New a → In b w.txns ⊎ New b → In d w.txns ⊎ New d → is_dangerous node edge a b d ≡ false
      go a b d (inr p) q r = committed_members a b d (inl (is_new a p))
      go a b d (inl p) (inr q) r = committed_members a b d (inr (inl (is_new b q)))
      go a b d (inl p) (inl q) (inr r) = committed_members a b d (inr (inr (is_new d r)))
      go a b d (inl p) (inl q) (inl r) = inv.each a b d p q r
  none_dangerous_step w v inv (Moves s t x log exports c o move) = record { each = go (how w t x log exports o move) }
    where
      go : (is_done x.standing ≡ false) ⊎ (x ≡ numbered w t) × (cause_of w t ≡ None) → (a b d : Txn A) → In a (replaced x w.txns) → In b (replaced x w.txns) → In d (replaced x w.txns) → is_dangerous node edge a b d ≡ false
      go (inl e) a b d i j k = replaced_none w x inv e a b d i j k
      go (inr e) a b d i j k = no_cause node edge (replaced x w.txns) (ap (λ y. first_cause node edge (replaced y w.txns)) e.0 ∙ e.1) a b d i j k
  none_dangerous_step w v inv (Settles s t st c o d o' d') = record { each = replaced_none w (record t { standing = st }) inv d' }
  none_dangerous_step w v inv (Dooms cs) = record { each = λ a b d i j k. let x = In-doomed w.place cs a w.txns i in let y = In-doomed w.place cs b w.txns j in let z = In-doomed w.place cs d w.txns k in go x.0 y.0 z.0 a b d x.1 y.1 z.1 x.2 y.2 z.2 }
    where
      go : (x y z a b d : Txn A) → In x w.txns → In y w.txns → In z w.txns → Fate w.place x a → Fate w.place y b → Fate w.place z d → is_dangerous node edge a b d ≡ false
      go x y z a b d i j k Spared Spared Spared = inv.each x y z i j k
      go x y z a b d i j k (Over c o) f g = committed_members a b d (inl refl)
      go x y z a b d i j k Spared (Over c o) g = committed_members a b d (inr (inl refl))
      go x y z a b d i j k Spared Spared (Over c o) = committed_members a b d (inr (inr refl))
