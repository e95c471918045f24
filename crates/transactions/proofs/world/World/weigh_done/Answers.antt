use Rattle.std.proofs.Common.{ap, ◌∙◌, ◌≡◌, cond, []}
use Rattle.std.specs.List.{list_any}
use Rattle.history.specs.Answer.{is_taken, meets_another, refuses_row}
use Rattle.transactions.specs.Ledger.{Ledger, world_on}
use Rattle.transactions.proofs.RunLemmas.{evaluated-done}
use Rattle.transactions.proofs.world.World.weigh_done.Goals as goal

pub returns-then-meets_another-clause-ok : goal.returns-then-meets_another-clause-ok
returns-then-meets_another-clause-ok g c =
    let same = ap (λ (l : Ledger _). l.txns) c.self.view_is in
    let met : c.meets_another.result ≡ meets_another (world_on c.args.catalog.now [] c.args.self.now) c.args.transaction.now c.args.outcome.changes = c.meets_another.ensures
    ∙ ap (λ ts. list_any (λ x. list_any (λ u. is_taken c.args.transaction.now u x) ts) c.as_slice-2.result.now) (c.as_slice-all.ensures.value ∙ same)
    ∙ ap (list_any (λ x. list_any (λ u. is_taken c.args.transaction.now u x) c.args.self.now.txns)) (c.as_slice-2.ensures.value ∙ c.in_ok-list.ensures.ok) in
    evaluated-done (world_on c.args.catalog.now [] c.args.self.now) c.args.transaction.now c.args.outcome c.meets_another.result c.requires.done met ∙ ap (λ b. cond b refuses_row c.args.outcome.reply) c.if-meets_another.true

pub returns-clause-ok : goal.returns-clause-ok
returns-clause-ok g c =
    let same = ap (λ (l : Ledger _). l.txns) c.self.view_is in
    let met : c.meets_another.result ≡ meets_another (world_on c.args.catalog.now [] c.args.self.now) c.args.transaction.now c.args.outcome.changes = c.meets_another.ensures
    ∙ ap (λ ts. list_any (λ x. list_any (λ u. is_taken c.args.transaction.now u x) ts) c.as_slice-2.result.now) (c.as_slice-all.ensures.value ∙ same)
    ∙ ap (list_any (λ x. list_any (λ u. is_taken c.args.transaction.now u x) c.args.self.now.txns)) (c.as_slice-2.ensures.value ∙ c.in_ok-list.ensures.ok) in
    let done = evaluated-done (world_on c.args.catalog.now [] c.args.self.now) c.args.transaction.now c.args.outcome c.meets_another.result c.requires.done met ∙ ap (λ b. cond b refuses_row c.args.outcome.reply) c.if-meets_another.false in
    (done, c.in_ok-recorded.ensures.ok, c.requires.done, c.in_ok-reads.ensures.ok, c.in_ok-list.ensures.ok, c.into_list-marks.ensures)
