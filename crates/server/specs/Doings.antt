-- What is done under the lock, and what is read before it is taken again.
-- Source: PostgreSQL manual, Transaction Isolation: a SELECT sees its transaction's snapshot and own changes, whatever others commit meanwhile.
use Rattle.std.specs.Prelude.{◌≡◌, ℕ, false, Ok, List, ◌++◌}
use Rattle.schema.specs.declared.tables.Tables.{Tables}
use Rattle.statement.specs.declared.statement.Statement.{Statement}
use Rattle.statement.specs.declared.reply.Reply.{Reply}
use Rattle.statement.specs.Evaluation.{outcome, writes}
use Rattle.statement.specs.Fits.{Fits}
use Rattle.history.specs.declared.event.Action.{Action}
use Rattle.history.specs.declared.event.Action.TheVariants.{Run}
use Rattle.history.specs.declared.event.Record.{Record}
use Rattle.history.specs.Opening.{Opening}
use Rattle.history.specs.Answer.{Allowed, Legal, of_session, reader_answer}
use Rattle.session.specs.Core.{IsFoundReply}
use Rattle.server.specs.declared.doing.Doing.{Doing}
use Rattle.server.specs.declared.doing.Doing.TheVariants.{Act, Note}

module _ {A : Type 0} where
  -- the action that is recorded
  abbrev pub action_of : Doing A → Action A
  action_of (Act a) = a
  action_of (Note q r) = Run q

  -- The session may do it after the events; a reply that was found before is the statement's still.
  abbrev pub IsAllowedFor : Opening A → List (Record A) → ℕ → Doing A → Type 0
  IsAllowedFor o es s (Act a) = Allowed o.catalog a
  IsAllowedFor o es s (Note q r) = Fits o.catalog q × (writes q ≡ false) × IsFoundReply o es s q r

  -- The reply is what the statement answers on the tables that the session's transaction sees after the events, and after more events of others, if it may read then.
  abbrev pub IsFoundSince : Opening A → List (Record A) → ℕ → Statement A → Reply A → Type 0
  IsFoundSince o es s q r = (more : List (Record A)) (X : Tables A) → Legal o (es ++ more) → of_session s (es ++ more) ≡ of_session s es → reader_answer o (es ++ more) s ≡ Ok X → r ≡ (outcome o.catalog q X).reply
