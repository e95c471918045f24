-- Lists that grow by one, and the polls of a session that waits.
use Rattle.std.proofs.Common.{◌≡◌, ◌⊎◌, ℕ, zero, suc, true, List, [], ◌∷◌, ◌++◌, length, replicate, slice_get, Some, refl, sym, ap, ◌∙◌, inl, inr, ⊎_elim, append_assoc, All}
use Rattle.std.proofs.lemmas.List.{append-nil}
use Rattle.std.proofs.lemmas.List.Elements.{All-append, All-nil, All-cons}
use mathlib.Core.List.{IsPrefix}
use Rattle.value.specs.declared.refusal.Code.TheVariants.{ProgramLimitExceeded}
use Rattle.value.specs.Refusals.{of_code, out_of_memory}
use Rattle.statement.specs.declared.reply.Reply.{Reply}
use Rattle.statement.specs.declared.reply.Reply.TheVariants.{Wait, Refused}
use Rattle.history.specs.declared.event.Action.{Action}
use Rattle.history.specs.declared.event.Action.TheVariants.{Poll, Rollback}
use Rattle.history.specs.declared.event.Record.{Record}
use Rattle.transactions.specs.Courses.{takes_memory}
use Rattle.pass.specs.Knowing.{Known}
use Rattle.pass.proofs.Prefixes.{prefix_trans}
use Rattle.history.specs.Opening.{Opening}
use Rattle.server.specs.Calls.{AreFresh, WasRecorded, WasLeft, IsCall, HasLeft, HasWaited, HasClosed}

replicate_push : {T : Type 0} (n : ℕ) (x : T) → replicate n x ++ x ∷ [] ≡ replicate (suc n) x
replicate_push zero x = refl
replicate_push (suc n) x = ap (λ l. x ∷ l) (replicate_push n x)

get_push : {T : Type 0} (xs : List T) (x y : T) (k : ℕ) → slice_get (xs ++ x ∷ []) k ≡ Some y → (slice_get xs k ≡ Some y) ⊎ ((k ≡ length xs) × (x ≡ y))
get_push [] x y zero e = inr (refl, cc e)
get_push [] x y (suc k) e = absurd (cc e)
get_push (z ∷ zs) x y zero e = inl e
get_push (z ∷ zs) x y (suc k) e = ⊎_elim (λ t. inl t) (λ (t : (k ≡ length zs) × (x ≡ y)). inr (ap suc t.0, t.1)) (get_push zs x y k e)

module _ {A : Type 0} where
  pub fresh_push : (xs : List (Known A)) (p : Known A) → AreFresh xs → p ≡ record { session = suc (length xs); seen = []; mine = [] } → AreFresh (xs ++ p ∷ [])
  fresh_push xs p all is k q e =
      ⊎_elim
      (λ (t : slice_get xs k ≡ Some q). all k q t)
      (λ (t : (k ≡ length xs) × (p ≡ q)). sym t.1 ∙ is ∙ ap (λ (n : ℕ). record { session = suc n; seen = []; mine = [] }) (sym t.0))
      (get_push xs p q k e)

  pub waited_none : (p : Known A) → HasWaited p p 0
  waited_none p = record { session = refl; seen = ([], append-nil p.seen); mine = sym (append-nil p.mine) }

  -- to wait is no refusal
  no_refusal : (x : Reply A) (a : Action A) (n most : ℕ) → x ≡ Wait → (takes_memory a ≡ true) × (x ≡ Refused out_of_memory) ⊎ (n ≡ most) × (x ≡ Refused (of_code ProgramLimitExceeded)) → ⊥
  no_refusal x a n most w (inl t) = cc (w, t.1)
  no_refusal x a n most w (inr t) = cc (w, t.1)

  wait_recorded : (most : ℕ) (q r : Known A) → WasLeft most q Poll Wait r → ⊥
  wait_recorded most q r u = no_refusal Wait Poll (length r.seen) most refl u.reason

  pub waited_more : (most : ℕ) (p q r : Known A) (n : ℕ) → HasWaited p q n → IsCall most q Poll Wait r → IsPrefix q.seen r.seen → HasWaited p r (suc n)
  waited_more most p q r n w c b =
      ⊎_elim
      (λ (t : (before : List (Record A)) × WasRecorded q Poll Wait before r).
      record {
        session = c.0 ∙ w.session;
        seen = prefix_trans p.seen q.seen r.seen w.seen b;
        mine = t.1.mine ∙ ap (λ l. l ++ (Poll, Wait) ∷ []) w.mine ∙ append_assoc p.mine (replicate n (Poll, Wait)) ((Poll, Wait) ∷ []) ∙ ap (λ l. p.mine ++ l) (replicate_push n (Poll, Wait));
      })
      (λ (t : WasLeft most q Poll Wait r). absurd (wait_recorded most q r t))
      c.1

  pub closed_push : (records : List (Record A)) (xs : List (Known A)) (p : Known A) → All (λ q. HasClosed q records) xs → HasClosed p records → All (λ q. HasClosed q records) (xs ++ p ∷ [])
  closed_push records xs p all one = All-append (λ q. HasClosed q records) xs (p ∷ []) all (All-cons (λ q. HasClosed q records) p [] one (All-nil (λ q. HasClosed q records)))

  -- a ROLLBACK after a look is one of the session that has looked
  pub call_after : (o : Opening A) (most : ℕ) (p m q : Known A) (r : Reply A) → m.session ≡ p.session → m.mine ≡ p.mine → IsCall most m Rollback r q → HasLeft o most p q
  call_after o most p m q r same kept call = inr (r, (call.0 ∙ same, go call.1))
    where
      go : ((before : List (Record A)) × WasRecorded m Rollback r before q) ⊎ WasLeft most m Rollback r q → ((before : List (Record A)) × WasRecorded p Rollback r before q) ⊎ WasLeft most p Rollback r q
      go (inl was) = inl (was.0, record { seen = was.1.seen ∙ ap (λ (k : ℕ). was.0 ++ record { session = k; action = Rollback; reply = r } ∷ []) same; mine = was.1.mine ∙ ap (λ l. l ++ (Rollback, r) ∷ []) kept })
      go (inr left) = inr (record { reason = left.reason; mine = left.mine ∙ kept })
