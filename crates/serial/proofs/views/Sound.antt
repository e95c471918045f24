-- The tables that a view shows are sound, and those that a transaction sees.
use Rattle.std.proofs.Common.{◌≡◌, ap, subst, ℕ, Bool, true, false, List, Option, Some, None, Result, Ok, Err, if◌then◌else◌, refl}
use mathlib.Core.Bool.{false≢true}
use Rattle.std.specs.Result.{is_ok}
use Rattle.value.specs.declared.refusal.Code.TheVariants as code
use Rattle.value.specs.declared.refusal.Refusal.{Refusal}
use Rattle.value.specs.Refusals.{of_code}
use Rattle.value.proofs.IsolationLemmas.{In}
use Rattle.schema.specs.declared.tables.Tables.{Tables}
use Rattle.schema.specs.Plain.{is_sound}
use Rattle.history.specs.declared.event.Record.{Record}
use Rattle.history.specs.Opening.{Opening}
use Rattle.history.specs.Transactions.{Standing, Doomed, Failed, Txn, World, current, must_wait, tables_at}
use Rattle.history.specs.Events.{start, world_of}
use Rattle.history.specs.Answer.{Legal, reader_answer, reader_from, reader_of, view_answer, view_from, view_of}
use Rattle.serial.proofs.legal.AlwaysSound.{always_sound, own_sound}
use Rattle.serial.proofs.legal.Histories.{run-catalog}
use Rattle.serial.proofs.legal.Legal.{current_in}
use Rattle.serial.proofs.order.SerialTheorem.{good_world}

module _ {A : Type 0} where
  abbrev ok_or : Tables A → Result (Tables A) Refusal → Tables A
  ok_or X (Ok Y) = Y
  ok_or X (Err r) = X

  pub view_sound : (o : Opening A) (es : List (Record A)) → Legal o es → (s : ℕ) (X : Tables A) → view_answer o es s ≡ Ok X → is_sound o.catalog X ≡ true
  view_sound o es legal s X e = subst (λ c. is_sound c X ≡ true) (run-catalog (start o) es) (by_current (current w s) refl e)
    where
      w : World A
      w = world_of o es

      by_known : (t : Txn A) → In t w.txns → (b : Bool) → (if b then Ok (tables_at w t.snapshot) else Err (of_code code.ObjectNotInPrerequisiteState)) ≡ Ok X → is_sound w.catalog X ≡ true
      by_known t i true h = subst (λ Y. is_sound w.catalog Y ≡ true) (ap (ok_or X) h) (always_sound o es legal t.snapshot ((good_world o es legal).numbered.shown t i).1)
      by_known t i false h = absurd (false≢true (ap is_ok h))

      by_standing : (t : Txn A) → In t w.txns → (st : Standing) → view_from st w t ≡ Ok X → is_sound w.catalog X ≡ true
      by_standing t i Failed h = absurd (false≢true (ap is_ok h))
      by_standing t i _ h = by_known t i t.known h

      by_current : (c : Option (Txn A)) → current w s ≡ c → view_of w c ≡ Ok X → is_sound w.catalog X ≡ true
      by_current None q h = absurd (false≢true (ap is_ok h))
      by_current (Some t) q h = by_standing t (current_in w s t q).0 t.standing h

  pub reader_sound : (o : Opening A) (es : List (Record A)) → Legal o es → (s : ℕ) (X : Tables A) → reader_answer o es s ≡ Ok X → is_sound o.catalog X ≡ true
  reader_sound o es legal s X e = subst (λ c. is_sound c X ≡ true) (run-catalog (start o) es) (by_current (current w s) refl e)
    where
      w : World A
      w = world_of o es

      by_wait : (t : Txn A) → In t w.txns → (b : Bool) → (if b then Err (of_code code.ObjectNotInPrerequisiteState) else Ok t.own) ≡ Ok X → is_sound w.catalog X ≡ true
      by_wait t i true h = absurd (false≢true (ap is_ok h))
      by_wait t i false h = subst (λ Y. is_sound w.catalog Y ≡ true) (ap (ok_or X) h) (own_sound o es legal t i)

      by_standing : (t : Txn A) → In t w.txns → (st : Standing) → reader_from st t ≡ Ok X → is_sound w.catalog X ≡ true
      by_standing t i (Doomed c) h = absurd (false≢true (ap is_ok h))
      by_standing t i Failed h = absurd (false≢true (ap is_ok h))
      by_standing t i _ h = by_wait t i (must_wait t) h

      by_current : (c : Option (Txn A)) → current w s ≡ c → reader_of c ≡ Ok X → is_sound w.catalog X ≡ true
      by_current None q h = absurd (false≢true (ap is_ok h))
      by_current (Some t) q h = by_standing t (current_in w s t q).0 t.standing h
