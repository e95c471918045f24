-- The tables that a session may view are a state of the serial order, and stay one.
use Rattle.std.proofs.Common.{◌≡◌, refl, sym, ap, ◌∙◌, ℕ, ◌<◌, ◌≤◌, Bool, true, false, cond, not, ◌⊎◌, inl, inr, List, [], ◌∷◌, ◌++◌, Option, Some, None, Result, Ok, Err, if◌then◌else◌, eqb, arith}
use mathlib.Core.Bool.{false≢true}
use Rattle.std.proofs.lemmas.Bool.{eq-eqb, eqb-true, and_from, and_parts, not-true}
use Rattle.std.specs.Result.{is_ok}
use Rattle.std.specs.List.{filter}
use Rattle.value.specs.declared.refusal.Code.TheVariants as code
use Rattle.value.specs.declared.refusal.Refusal.{Refusal}
use Rattle.value.specs.Refusals.{of_code}
use Rattle.value.proofs.IsolationLemmas.{In}
use Rattle.value.proofs.LastWriter.{Rising}
use Rattle.schema.specs.declared.tables.Tables.{Tables}
use Rattle.history.specs.declared.event.Record.{Record}
use Rattle.history.specs.Opening.{Opening}
use Rattle.history.specs.Transactions.{Standing, Failed, Txn, World, commits, current, tables_at}
use Rattle.history.specs.Events.{world_of}
use Rattle.history.specs.Serial.{IsSafeFor}
use Rattle.history.specs.Answer.{Legal, view_answer, view_from, view_of}
use Rattle.serial.specs.Backups.{IsBackup, IsSource, took}
use Rattle.serial.proofs.legal.Later.{legal_stays}
use Rattle.serial.proofs.legal.Legal.{current_in}
use Rattle.serial.proofs.safe.Prefix.{by_all, safe_are_safe}
use Rattle.serial.proofs.order.SerialTheorem.{IsGood, good_world}
use Rattle.serial.proofs.order.Promised.{legal_serializable}
use Rattle.serial.proofs.views.Sourced.{Source, sourced}

-- where p holds of none
filter_none : {T : Type 0} (p : T → Bool) (ts : List T) → ((u : T) → In u ts → p u ≡ true → ⊥) → filter p ts ≡ []
filter_none p [] none = refl
filter_none {T} p (t ∷ ts) none = go (p t) refl (filter_none p ts (λ u i. none u (inr i)))
  where
    go : (b : Bool) → p t ≡ b → filter p ts ≡ [] → cond b (t ∷ filter p ts) (filter p ts) ≡ []
    go true q rest = absurd (none t (inl refl) q)
    go false q rest = rest

-- where p holds of one alone, whose number the others don't have
filter_one : {T : Type 0} (num : T → ℕ) (p : T → Bool) (ts : List T) (d : T) → Rising num ts → In d ts → p d ≡ true → ((u : T) → In u ts → p u ≡ true → u ≡ d) → filter p ts ≡ d ∷ []
filter_one num p [] d r i e only = absurd i
filter_one {T} num p (t ∷ ts) d r i e only = go (p t) refl i (λ j. filter_one num p ts d r.1 j e (λ u k. only u (inr k)))
  where
    no_more : t ≡ d → (u : T) → In u ts → p u ≡ true → ⊥
    no_more q u k h = let more : num t < num u = r.0 u k in let same : num u ≡ num t = ap num (only u (inr k) h ∙ sym q) in absurd (omega arith)

    go : (b : Bool) → p t ≡ b → (d ≡ t) ⊎ In d ts → (In d ts → filter p ts ≡ d ∷ []) → cond b (t ∷ filter p ts) (filter p ts) ≡ d ∷ []
    go true q j rest = let same = only t (inl refl) q in ap (λ us. t ∷ us) (filter_none p ts (no_more same)) ∙ ap (λ u. u ∷ []) same
    go false q (inl k) rest = absurd (false≢true (sym q ∙ ap p (sym k) ∙ e))
    go false q (inr j) rest = rest j

module _ {A : Type 0} where
  abbrev ok_or : Tables A → Result (Tables A) Refusal → Tables A
  ok_or X (Ok Y) = Y
  ok_or X (Err r) = X

  -- it is one that took the snapshot
  took_so : (t d : Txn A) → d.imported ≡ false → d.taken ≡ t.taken → took t d ≡ true
  took_so t d i e = and_from (not d.imported) (eqb d.taken t.taken) (ap not i) (eq-eqb d.taken t.taken e)

  took_is : (t d : Txn A) → took t d ≡ true → (d.imported ≡ false) × (d.taken ≡ t.taken)
  took_is t d e = let p = and_parts (not d.imported) (eqb d.taken t.taken) e in (not-true d.imported p.0, eqb-true d.taken t.taken p.1)

  module _ (o : Opening A) (es : List (Record A)) (legal : Legal o es) where
    abbrev w : World A
    w = world_of o es

    -- The source of a snapshot that is known to be safe.
    pub source : (t : Txn A) → In t w.txns → t.known ≡ true → (d : Txn A) × In d w.txns × (d.imported ≡ false) × IsSource w t d
    source t i k = (
      d,
      found.1,
      found.2.own,
      record {
        took_it = filter_one (λ (u : Txn A). u.number) (took t) w.txns d g.rising.rising found.1 (took_so t d found.2.own found.2.taken) only;
        is_deferrable = found.2.deferrable;
        is_known = found.2.known;
        snapshot = found.2.snapshot;
        own = λ m. sym (only t i (took_so t t m refl));
      },
    )
      where
        g : IsGood w
        g = good_world o es legal

        found : Source w.txns t.taken t.snapshot
        found = (sourced o es legal).txns t i k

        d : Txn A
        d = found.0

        only : (u : Txn A) → In u w.txns → took t u ≡ true → u ≡ d
        only u j e = let p = took_is t u e in g.numbered.unique u d j found.1 ((sourced o es legal).apart u d j found.1 p.0 found.2.own (p.1 ∙ sym found.2.taken))

    -- a view of the session's transaction t, which is known to be safe
    backup : (session : ℕ) (X : Tables A) (t : Txn A) → current w session ≡ Some t → t.known ≡ true → X ≡ tables_at w t.snapshot → IsBackup o es session X
    backup session X t e k x = record {
      transaction = t;
      is_current = e;
      is_known = k;
      source = d.0;
      is_source = d.3;
      serializable = legal_serializable o es legal;
      state = record { tables = x; safe = (safe t t_in k).0; has_earlier = (safe d.0 d.1 d.3.is_known).1 d.2 };
      stays = λ more l. (
        legal_serializable o (es ++ more) l,
        record {
          tables = x ∙ sym ((legal_stays o es more l).tables t.snapshot within);
          safe = (by_all _ w.txns t (legal_stays o es more l).safe t_in k).0;
          has_earlier = (by_all _ w.txns d.0 (legal_stays o es more l).safe d.1 d.3.is_known).1 d.2;
        },
      );
    }
      where
        t_in : In t w.txns
        t_in = (current_in w session t e).0

        within : t.snapshot ≤ commits w
        within = ((good_world o es legal).numbered.shown t t_in).1

        d : (d : Txn A) × In d w.txns × (d.imported ≡ false) × IsSource w t d
        d = source t t_in k

        safe : (u : Txn A) → In u w.txns → u.known ≡ true → IsSafeFor w u
        safe u i q = by_all _ w.txns u (safe_are_safe o es legal) i q

    module _ (session : ℕ) (X : Tables A) where
      by_known : (t : Txn A) → current w session ≡ Some t → (b : Bool) → t.known ≡ b → (if b then Ok (tables_at w t.snapshot) else Err (of_code code.ObjectNotInPrerequisiteState)) ≡ Ok X → IsBackup o es session X
      by_known t e true k h = backup session X t e k (sym (ap (ok_or X) h))
      by_known t e false k h = absurd (false≢true (ap is_ok h))

      by_standing : (t : Txn A) → current w session ≡ Some t → (st : Standing) → view_from st w t ≡ Ok X → IsBackup o es session X
      by_standing t e Failed h = absurd (false≢true (ap is_ok h))
      by_standing t e _ h = by_known t e t.known refl h

      by_current : (c : Option (Txn A)) → current w session ≡ c → view_of w c ≡ Ok X → IsBackup o es session X
      by_current None e h = absurd (false≢true (ap is_ok h))
      by_current (Some t) e h = by_standing t e t.standing h

      pub view_is_backup : view_answer o es session ≡ Ok X → IsBackup o es session X
      view_is_backup h = by_current (current w session) refl h
