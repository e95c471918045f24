-- A call that goes on after its first hold of the lock is the call.
use Rattle.std.proofs.Common.{◌≡◌, ℕ, List, [], ◌∷◌, ◌++◌, ap, ◌∙◌, inl, inr}
use Rattle.statement.specs.declared.reply.Reply.{Reply}
use Rattle.statement.specs.declared.statement.Statement.{Statement}
use Rattle.history.specs.declared.event.Action.{Action}
use Rattle.history.specs.declared.event.Action.TheVariants.{Run}
use Rattle.pass.specs.Knowing.{Known}
use Rattle.server.specs.Calls.{IsCall}

module _ {A : Type 0} where
  -- in between the pass has seen more, and done nothing
  pub call_goes_on : (most : ℕ) (p k : Known A) (s t : Statement A) (r : Reply A) (q : Known A) → s ≡ t → k.session ≡ p.session → k.mine ≡ p.mine → IsCall most k (Run s) r q → IsCall most p (Run t) r q
  call_goes_on most p k s t r q is session mine (e, inl (before, w)) = (
    e ∙ session,
    inl (
      before,
      record {
        seen = w.seen ∙ ap (λ (n : ℕ). before ++ record { session = n; action = Run s; reply = r } ∷ []) session ∙ ap (λ (u : Statement A). before ++ record { session = p.session; action = Run u; reply = r } ∷ []) is;
        mine = w.mine ∙ ap (λ (m : List (Action A × Reply A)). m ++ (Run s, r) ∷ []) mine ∙ ap (λ (u : Statement A). p.mine ++ (Run u, r) ∷ []) is;
      },
    ),
  )
  call_goes_on most p k s t r q is session mine (e, inr w) = (e ∙ session, inr (record { reason = w.reason; mine = w.mine ∙ mine }))
