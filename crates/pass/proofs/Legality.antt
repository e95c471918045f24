-- Legal histories, by what is known of them.
use Rattle.std.proofs.Common.{◌≡◌, true, List, [], ◌∷◌, ◌++◌}
use Rattle.schema.specs.Plain.{is_sound}
use Rattle.history.specs.declared.event.Record.{Record}
use Rattle.history.specs.Opening.{Opening}
use Rattle.history.specs.Answer.{Allowed, Legal, answer}
use Rattle.serial.proofs.legal.Histories.{Legal-start, Legal-push}

module _ {A : Type 0} where
  -- a legal history opened with sound tables
  pub legal_sound : (o : Opening A) (es : List (Record A)) → Legal o es → is_sound o.catalog o.tables ≡ true
  unfolding Legal
  legal_sound o es l = l.0

  pub legal_none : (o : Opening A) → is_sound o.catalog o.tables ≡ true → Legal o []
  legal_none o e = Legal-start o e

  -- a legal history with one more event, by the parts of the event
  pub legal_next : (o : Opening A) (es : List (Record A)) (e : Record A) → Legal o es → Allowed o.catalog e.action → e.reply ≡ answer o es e.session e.action → Legal o (es ++ e ∷ [])
  legal_next o es e l f r = Legal-push o es e.session e.action e.reply l f r
