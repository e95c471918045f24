use Rattle.std.proofs.Common.{ap, sym, subst, arith, length, ◌≡◌, ◌∙◌, ◌+◌, ◌^◌, ◌<◌, ◌≤◌, IfOk}
use Rattle.std.specs.Prelude.{IsTrue}
use Rattle.schema.specs.Plain.{is_sound}
use Rattle.schema.proofs.SoundLemmas.{sound_count}
use Rattle.history.specs.Opening.{Recorded}
use Rattle.mvrows.specs.Installing.{opened}
use Rattle.session.proofs.OpenLemmas.{opened_on}
use Rattle.session.proofs.sessions.open_on.Goals as goal

pub open-requires : goal.open-requires
open-requires g c = sym (ap length c.in_ok-rows.ensures.view ∙ sound_count c.args.tables c.args.catalog c.args.tables c.requires.sound)

pub open_history-requires-clause-none : goal.open_history-requires-clause-none
open_history-requires-clause-none g c = ap (λ (h : Recorded _). h.records) c.in_ok-history.ensures.ok

pub open_history-requires-clause-rows : goal.open_history-requires-clause-rows
open_history-requires-clause-rows g c = c.in_ok-rows.ensures.rows ∙ ap opened (sym (ap (λ (h : Recorded _). h.opening.tables) c.in_ok-history.ensures.ok ∙ c.in_ok-rows.ensures.view))

pub open_history-requires-clause-capacity : goal.open_history-requires-clause-capacity
open_history-requires-clause-capacity g c =
    let same = ap (λ (h : Recorded _). h.most) c.in_ok-history.ensures.ok in
    omega (arith, same, c.in_ok-keys.ensures.capacity)

pub open_history-requires-clause-sound : goal.open_history-requires-clause-sound
open_history-requires-clause-sound g c =
    subst (λ (h : Recorded _). IsTrue (is_sound h.opening.catalog h.opening.tables)) (sym (opened_on c.in_ok-history.history c.args.catalog c.in_ok-rows.view c.args.tables c.args.base c.args.max_events c.in_ok-history.ensures.ok c.in_ok-rows.ensures.view)) c.requires.sound

pub open_history-requires-clause-within : goal.open_history-requires-clause-within
open_history-requires-clause-within g c =
    subst (λ (h : Recorded _). (h.opening.base.transactions ≤ h.opening.base.events) × (h.opening.base.commits ≤ h.opening.base.events) × (h.opening.base.identifiers ≤ h.opening.base.events))
    (sym c.in_ok-history.ensures.ok) c.requires.within

pub open_history-requires-clause-room : goal.open_history-requires-clause-room
open_history-requires-clause-room g c = subst (λ (h : Recorded _). h.opening.base.events + h.most < 2 ^ 64) (sym c.in_ok-history.ensures.ok) c.requires.room

pub returns-clause-ok : goal.returns-clause-ok
returns-clause-ok g c =
    subst (λ (h : Recorded _). IfOk c.open_history.result (λ made. made ≡ h))
    (opened_on c.in_ok-history.history c.args.catalog c.in_ok-rows.view c.args.tables c.args.base c.args.max_events c.in_ok-history.ensures.ok c.in_ok-rows.ensures.view)
    c.open_history.ensures.ok
