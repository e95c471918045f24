-- Each snapshot that was answered to be safe is safe, and stays so.
use Rattle.std.proofs.Common.{◌≡◌, sym, subst, ℕ, true, false, List, [], ◌∷◌, ◌++◌, append_assoc}
use Rattle.history.specs.declared.event.Record.{Record}
use Rattle.history.specs.Opening.{Opening}
use Rattle.history.specs.Events.{start, world_of}
use Rattle.history.specs.Transactions.{World}
use Rattle.history.specs.Serial.{IsSafe, IsSafeFor, Stays, IsSafeReply}
use Rattle.value.proofs.IsolationLemmas.{In}
use Rattle.serial.proofs.legal.Legal.{current_in}
use Rattle.serial.proofs.safe.Prefix.{by_all}
use Rattle.history.specs.Answer.{Legal}
use Rattle.serial.specs.Laws.{polled_safe}
use Rattle.serial.proofs.safe.Answered.{Known, answered}
use Rattle.serial.proofs.views.Sourced.{sourced}
use Rattle.serial.proofs.legal.Later.{legal_stays, legal_begins, legal_rest, run-append}

module _ {A : Type 0} where
  pub safe_reply : (o : Opening A) (es : List (Record A)) (s n : ℕ) (more : List (Record A)) → Legal o (es ++ polled_safe s n ∷ more)
      → IsSafeReply (world_of o (es ++ polled_safe s n ∷ [])) (world_of o (es ++ polled_safe s n ∷ more)) s n
  safe_reply o es s n more l = subst (λ rs. IsSafeReply w (world_of o rs) s n) joined (record {
    transaction = known.0;
    is_current = known.1;
    is_deferrable = known.4;
    is_own = own;
    snapshot = known.3;
    safe = subst (IsSafe v) known.3 so.0;
    has_earlier = so.1 own;
  })
    where
      e : Record A
      e = polled_safe s n

      w : World A
      w = world_of o (es ++ e ∷ [])

      v : World A
      v = world_of o ((es ++ e ∷ []) ++ more)

      joined : (es ++ e ∷ []) ++ more ≡ es ++ e ∷ more
      joined = append_assoc es (e ∷ []) more

      legal : Legal o ((es ++ e ∷ []) ++ more)
      legal = subst (Legal o) (sym joined) l

      stays : Stays w v
      stays = legal_stays o (es ++ e ∷ []) more legal

      known : Known w s n
      known = subst (λ u. Known u s n) (sym (run-append (start o) es (e ∷ [])))
          (answered (world_of o es) s n (sym (legal_rest o es (e ∷ []) (legal_begins o (es ++ e ∷ []) more legal)).1))

      here : In known.0 w.txns
      here = (current_in w s known.0 known.1).0

      own : known.0.imported ≡ false
      own = (sourced o (es ++ e ∷ []) (legal_begins o (es ++ e ∷ []) more legal)).own known.0 here known.4

      so : IsSafeFor v known.0
      so = by_all (λ t. t.known ≡ true → IsSafeFor v t) w.txns known.0 stays.safe here known.2
