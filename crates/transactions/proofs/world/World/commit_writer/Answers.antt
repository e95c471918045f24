use Rattle.std.proofs.Common.{ap, ◌∙◌, ◌+◌, ◌≡◌, map}
use Rattle.value.specs.Isolation.{dooms}
use Rattle.history.specs.Transactions.{node, reads_from}
use Rattle.history.specs.Events.{doomed_by}
use Rattle.transactions.specs.Courses.{on_course}
use Rattle.transactions.specs.Ledger.{Ledger, turned_at, txn_at}
use Rattle.transactions.proofs.ReadLemmas.{on_err_so}
use Rattle.transactions.proofs.world.World.commit_writer.Goals as goal

pub returns-clause-ok : goal.returns-clause-ok
returns-clause-ok g c =
    let now : Ledger _ = c.args.self.now in
    let inside = c.self.inside in
    let stayed = c.snapshots_after.ensures.same ∙ c.lowest_after-oldest.ensures.same in
    let same = c.self.view_is ∙ stayed in
    let txns = ap (λ (l : Ledger _). l.txns) same in
    let doomed : c.as_slice-2.result.now ≡ dooms node reads_from now.txns (txn_at now.txns c.args.at) = c.as_slice-2.ensures.value ∙ c.in_ok-causes.ensures.ok ∙ ap (λ (l : Ledger _). dooms node reads_from l.txns (txn_at l.txns c.args.at)) stayed in
    let stays = ap (λ ts. record { base = inside.base; txns = ts; exports = inside.exports.items; place = inside.place }) c.install_at.ensures.same ∙ same in
    c.turn_committer.ensures
    ∙ ap (λ (l : Ledger _). record l { base = record l.base { commits = l.base.commits + 1 }; txns = map (doomed_by (l.place + 1) c.as_slice-2.result.now) (turned_at c.args.at (on_course c.args.committed) l.txns); place = l.place + 1 }) stays
    ∙ ap (λ cs. record now { base = record now.base { commits = now.base.commits + 1 }; txns = map (doomed_by (now.place + 1) cs) (turned_at c.args.at (on_course c.args.committed) now.txns); place = now.place + 1 }) doomed

pub returns-in_err-install_at-clause-err : goal.returns-in_err-install_at-clause-err
returns-in_err-install_at-clause-err g c =
    let inside = c.self.inside in
    on_err_so _ c.from_residual-in_err-install_at.result
    (ap (λ ts. record { base = inside.base; txns = ts; exports = inside.exports.items; place = inside.place }) c.install_at.ensures.same
    ∙ c.self.view_is ∙ c.snapshots_after.ensures.same ∙ c.lowest_after-oldest.ensures.same)

pub returns-in_err-causes-clause-err : goal.returns-in_err-causes-clause-err
returns-in_err-causes-clause-err g c =
    on_err_so _ c.from_residual-in_err-causes.result (c.snapshots_after.ensures.same ∙ c.lowest_after-oldest.ensures.same)
