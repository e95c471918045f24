-- Legal histories one event at a time, for callers that know legality and answers by name alone.
use Rattle.std.proofs.Common.{◌≡◌, refl, sym, ap, subst, ◌∙◌, ℕ, Bool, true, false, cond, List, [], ◌∷◌, ◌++◌, Option, Some, None, if◌then◌else◌, ◌==◌, eqb}
use Rattle.schema.specs.Plain.{is_sound}
use Rattle.statement.specs.declared.reply.Reply.{Reply}
use Rattle.statement.specs.declared.reply.Reply.TheVariants.{Begun}
use Rattle.history.specs.declared.event.Action.{Action}
use Rattle.history.specs.declared.event.Action.TheVariants.{Begin}
use Rattle.history.specs.declared.event.Record.{Record}
use Rattle.history.specs.Opening.{Opening}
use Rattle.history.specs.Transactions.{Txn, World, current}
use Rattle.history.specs.Events.{without_transaction, followed, follows, start, run}
use Rattle.history.specs.Answer.{Allowed, IsAnswered, Legal, answer, of_session}

module _ {A : Type 0} where
  -- ---- the catalog stays

  without_kept : (w : World A) (s : ℕ) (a : Action A) (r : Reply A) → (without_transaction w s a r).catalog ≡ w.catalog
  without_kept w s (Begin m) Begun = refl
  without_kept w s _ _ = refl

  pub follows-catalog : (w : World A) (e : Record A) → (follows w e).catalog ≡ w.catalog
  follows-catalog w e = go (current w e.session)
    where
      go : (o : Option (Txn A)) → (followed w e o).catalog ≡ w.catalog
      go None = without_kept w e.session e.action e.reply
      go (Some t) = refl

  pub run-catalog : (w : World A) (es : List (Record A)) → (run w es).catalog ≡ w.catalog
  run-catalog w [] = refl
  run-catalog w (e ∷ es) = run-catalog (follows w e) es ∙ follows-catalog w e

  -- ---- the laws of legality

  pub answered-append : (w : World A) (es more : List (Record A)) → IsAnswered w es → IsAnswered (run w es) more → IsAnswered w (es ++ more)
  answered-append w [] more l m = m
  answered-append w (e ∷ es) more l m = (l.0, l.1, answered-append (follows w e) es more l.2 m)

  pub Legal-start : (o : Opening A) → is_sound o.catalog o.tables ≡ true → Legal o []
  unfolding Legal
  Legal-start o e = (e, tt)

  pub Legal-push : (o : Opening A) (es : List (Record A)) (s : ℕ) (a : Action A) (r : Reply A) → Legal o es → Allowed o.catalog a → r ≡ answer o es s a → Legal o (es ++ record { session = s; action = a; reply = r } ∷ [])
  unfolding Legal answer
  Legal-push o es s a r l f e = (l.0, answered-append (start o) es _ l.1 (subst (λ c. Allowed c a) (sym (run-catalog (start o) es)) f, e, tt))

  pub of_session-push : (s : ℕ) (es : List (Record A)) (e : Record A) → of_session s (es ++ e ∷ []) ≡ (if e.session == s then of_session s es ++ (e.action, e.reply) ∷ [] else of_session s es)
  of_session-push s [] e = refl
  of_session-push s (d ∷ es) e = go (eqb d.session s) (eqb e.session s) (of_session-push s es e)
    where
      go : (b c : Bool) → of_session s (es ++ e ∷ []) ≡ cond c (of_session s es ++ (e.action, e.reply) ∷ []) (of_session s es)
          → cond b ((d.action, d.reply) ∷ of_session s (es ++ e ∷ [])) (of_session s (es ++ e ∷ [])) ≡ cond c (cond b ((d.action, d.reply) ∷ of_session s es) (of_session s es) ++ (e.action, e.reply) ∷ []) (cond b ((d.action, d.reply) ∷ of_session s es) (of_session s es))
      go true true h = ap (λ xs. (d.action, d.reply) ∷ xs) h
      go true false h = ap (λ xs. (d.action, d.reply) ∷ xs) h
      go false true h = h
      go false false h = h
