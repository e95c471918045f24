use Rattle.std.proofs.Common.{ap, find, map, subst, sym, ◌∙◌, []}
use Rattle.std.specs.Prelude.{vec_capacity}
use Rattle.history.specs.Opening.{Recorded}
use Rattle.history.specs.Answer.{Allowed, answer}
use Rattle.history.specs.Transactions.{is_of}
use Rattle.transactions.specs.Keys.{committed_at, keyed}
use Rattle.transactions.specs.Views.{snapshot_of}
use Rattle.session.specs.Unspoilt.{AreUnspoilt}
use Rattle.session.specs.Core.{HasRoom, HoldsKeys, IsKept, is_commit, recorded}
use Rattle.session.specs.Polling.{polls_spoilt, takes_snapshot}
use Rattle.session.proofs.CoreLemmas.{kept_now, keys_now, keys_room, recorded_so, replied, rows_now, step_room}
use Rattle.session.proofs.Lent.{committer_held, rows_held}
use Rattle.session.proofs.Polls.{none_spoils, told, unspoilt_now}
use Rattle.session.proofs.sessions.Core.enter.Goals as goal

pub step-requires-clause-room : goal.step-requires-clause-room
step-requires-clause-room g c = step_room c.self.inside.history c.self.inside.world c.self.invariant.0 (subst HasRoom (sym c.self.view_is) c.requires.room)

pub step-requires-clause-held : goal.step-requires-clause-held
step-requires-clause-held g c = rows_held c.self.inside.history c.self.inside.world c.self.invariant.0 c.self.inside.rows c.self.invariant.2 c.catalog-catalog.result.now [] c.catalog-catalog.ensures c.args.event.session

pub step-requires-clause-committer : goal.step-requires-clause-committer
step-requires-clause-committer g c = committer_held c.self.inside.history c.self.inside.world c.self.invariant.0 c.catalog-catalog.result.now [] c.catalog-catalog.ensures c.args.event.session

pub add_last-requires : goal.add_last-requires
add_last-requires g c = keys_room c.self.inside.history c.self.inside.world c.self.invariant.0 c.self.inside.keys.items (vec_capacity c.self.inside.keys) c.self.invariant.1 (subst HasRoom (sym c.self.view_is) c.requires.room)

pub polls_spoilt-spoilt-requires : goal.polls_spoilt-spoilt-requires
polls_spoilt-spoilt-requires g c = subst (λ xs. AreUnspoilt (map keyed xs) c.self.inside.unspoilt) (sym c.as_slice.ensures.value) c.self.invariant.3

pub step-requires-clause-told : goal.step-requires-clause-told
step-requires-clause-told g c =
    let i = c.self.inside in
    let k = c.self.invariant in
    told i.history i.world k.0 i.keys.items _ k.1 c.catalog-catalog.result.now [] c.args.event.session c.args.event.action c.polls_spoilt-spoilt.result
    (c.polls_spoilt-spoilt.ensures ∙ ap (λ xs. polls_spoilt (map keyed xs) (snapshot_of (find (is_of c.args.event.session) i.world.txns)) c.args.event.action) c.as_slice.ensures.value)

pub invariant_of-self-2 : goal.invariant_of-self-2
invariant_of-self-2 g c =
    let h = c.self.inside.history in
    let l = c.self.inside.world in
    let k = c.self.invariant.0 in
    let s = c.args.event.session in
    let a = c.args.event.action in
    let given = c.in_ok-answered.answered in
    let m = c.step.new.self in
    let fits = subst (λ (x : Recorded _). Allowed x.opening.catalog a) (sym c.self.view_is) c.requires.allowed in
    let kept : IsKept (recorded h s a given.recorded) m = kept_now h l k c.self.inside.rows c.self.invariant.2 s a c.catalog-catalog.result.now c.catalog-catalog.ensures fits given m c.step.new.rows c.in_ok-answered.ensures.ok in
    let keys : HoldsKeys (recorded h s a given.recorded) c.add_last.new.keys.items (vec_capacity c.add_last.new.keys) =
    keys_now h l k c.self.inside.rows c.self.invariant.2 s a c.catalog-catalog.result.now c.catalog-catalog.ensures fits given m c.step.new.rows c.in_ok-answered.ensures.ok
    c.self.inside.keys.items c.add_last.new.keys.items (vec_capacity c.self.inside.keys) (vec_capacity c.add_last.new.keys) c.self.invariant.1 (subst HasRoom (sym c.self.view_is) c.requires.room)
    c.add_last.ensures.keys c.add_last.ensures.few c.add_last.ensures.room in
    rw c.push.ensures (
      kept,
      keys,
      rows_now h l k c.self.inside.rows c.self.invariant.2 s a c.catalog-catalog.result.now c.catalog-catalog.ensures fits given m c.step.new.rows c.in_ok-answered.ensures.ok,
      unspoilt_now c.self.inside.keys.items c.add_last.new.keys.items (committed_at m.place m.txns) (is_commit a) (takes_snapshot a) s (snapshot_of (find (is_of s) m.txns)) m.base.commits
          c.self.inside.unspoilt c.add_last.new.unspoilt c.keep_snapshot.new.unspoilt c.self.invariant.3 c.add_last.ensures.keys
          (none_spoils (recorded h s a given.recorded) m kept c.add_last.new.keys.items (vec_capacity c.add_last.new.keys) keys) c.add_last.ensures.unspoilt c.keep_snapshot.ensures,
    )

pub returns-clause-ok : goal.returns-clause-ok
returns-clause-ok g c =
    let h = c.self.inside.history in
    let l = c.self.inside.world in
    let k = c.self.invariant.0 in
    let s = c.args.event.session in
    let a = c.args.event.action in
    let given = c.in_ok-answered.answered in
    let fits = subst (λ (x : Recorded _). Allowed x.opening.catalog a) (sym c.self.view_is) c.requires.allowed in (
      replied h l k c.self.inside.rows c.self.invariant.2 s a c.catalog-catalog.result.now c.catalog-catalog.ensures fits given c.step.new.self c.step.new.rows c.in_ok-answered.ensures.ok
          ∙ ap (λ (x : Recorded _). answer x.opening x.records s a) c.self.view_is,
      c.push.ensures
          ∙ ap (λ y. recorded h s a y) (recorded_so h l k c.self.inside.rows c.self.invariant.2 s a c.catalog-catalog.result.now c.catalog-catalog.ensures fits given c.step.new.self c.step.new.rows c.in_ok-answered.ensures.ok)
          ∙ ap (λ (x : Recorded _). recorded x s a given.reply) c.self.view_is,
    )

pub invariant_of-self : goal.invariant_of-self
invariant_of-self g c =
    let undone = c.in_err-answered.ensures.err in
    rw undone.world (rw undone.versions c.self.invariant)
