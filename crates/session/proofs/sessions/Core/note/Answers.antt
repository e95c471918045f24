use Rattle.std.proofs.Common.{ap, refl, subst, sym, ◌∙◌, arith, map}
use Rattle.std.specs.Prelude.{vec_capacity}
use Rattle.std.proofs.lemmas.List.{append-nil}
use Rattle.statement.specs.Fits.{Fits}
use Rattle.history.specs.Opening.{Recorded}
use Rattle.history.specs.declared.event.Action.TheVariants.{Run}
use Rattle.history.specs.Answer.{answer}
use Rattle.transactions.specs.Keys.{keyed}
use Rattle.session.specs.Core.{HasRoom, IsFoundReply, recorded}
use Rattle.session.proofs.CoreLemmas.{kept_now, keys_now, recorded_so, replied, rows_now, step_room}
use Rattle.session.proofs.Lent.{found}
use Rattle.session.proofs.sessions.Core.note.Goals as goal

pub record-requires-clause-room : goal.record-requires-clause-room
record-requires-clause-room g c = step_room c.self.inside.history c.self.inside.world c.self.invariant.0 (subst HasRoom (sym c.self.view_is) c.requires.room)

pub record-requires-clause-found : goal.record-requires-clause-found
record-requires-clause-found g c =
    rw c.catalog.ensures
    (found c.self.inside.history c.self.inside.world c.self.invariant.0 c.self.inside.rows c.self.invariant.2 c.args.session c.args.statement c.args.found
    (subst (λ (h : Recorded _). IsFoundReply h.opening h.records c.args.session c.args.statement c.args.found) (sym c.self.view_is) c.requires.found))

pub invariant_of-self-2 : goal.invariant_of-self-2
invariant_of-self-2 g c =
    let h = c.self.inside.history in
    let l = c.self.inside.world in
    let k = c.self.invariant.0 in
    let fits = subst (λ (x : Recorded _). Fits x.opening.catalog c.args.statement) (sym c.self.view_is) c.requires.fits in
    rw c.push.ensures (
      kept_now h l k c.self.inside.rows c.self.invariant.2 c.args.session (Run c.args.statement) c.catalog.result.now c.catalog.ensures fits c.in_ok-answered.answered c.record.new.self c.self.inside.rows c.in_ok-answered.ensures.ok,
      keys_now h l k c.self.inside.rows c.self.invariant.2 c.args.session (Run c.args.statement) c.catalog.result.now c.catalog.ensures fits c.in_ok-answered.answered c.record.new.self c.self.inside.rows c.in_ok-answered.ensures.ok
          c.self.inside.keys.items c.self.inside.keys.items (vec_capacity c.self.inside.keys) (vec_capacity c.self.inside.keys) c.self.invariant.1 (subst HasRoom (sym c.self.view_is) c.requires.room)
          (sym (append-nil (map keyed c.self.inside.keys.items))) (omega arith) refl,
      rows_now h l k c.self.inside.rows c.self.invariant.2 c.args.session (Run c.args.statement) c.catalog.result.now c.catalog.ensures fits c.in_ok-answered.answered c.record.new.self c.self.inside.rows c.in_ok-answered.ensures.ok,
      c.self.invariant.3,
    )

pub returns-clause-ok : goal.returns-clause-ok
returns-clause-ok g c =
    let h = c.self.inside.history in
    let l = c.self.inside.world in
    let k = c.self.invariant.0 in
    let s = c.args.session in
    let a = Run c.args.statement in
    let given = c.in_ok-answered.answered in
    let fits = subst (λ (x : Recorded _). Fits x.opening.catalog c.args.statement) (sym c.self.view_is) c.requires.fits in (
      replied h l k c.self.inside.rows c.self.invariant.2 s a c.catalog.result.now c.catalog.ensures fits given c.record.new.self c.self.inside.rows c.in_ok-answered.ensures.ok
          ∙ ap (λ (x : Recorded _). answer x.opening x.records s a) c.self.view_is,
      c.push.ensures
          ∙ ap (λ y. recorded h s a y) (recorded_so h l k c.self.inside.rows c.self.invariant.2 s a c.catalog.result.now c.catalog.ensures fits given c.record.new.self c.self.inside.rows c.in_ok-answered.ensures.ok)
          ∙ ap (λ (x : Recorded _). recorded x s a given.reply) c.self.view_is,
    )

pub invariant_of-self : goal.invariant_of-self
invariant_of-self g c =
    let undone = c.in_err-answered.ensures.err in
    rw undone.world c.self.invariant
