use Rattle.std.proofs.Common.{arith, ap, ◌∙◌}
use Rattle.history.specs.Transactions.{Txn}
use Rattle.transactions.specs.Ledger.{Ledger}
use Rattle.transactions.proofs.LedgerLemmas.{counted-begun}
use Rattle.transactions.proofs.ReadLemmas.{on_err_so}
use Rattle.transactions.proofs.StretchLemmas.{stretches-append}
use Rattle.transactions.proofs.world.World.begin.Goals as goal

pub invariant_of-self-2 : goal.invariant_of-self-2
invariant_of-self-2 g c =
    let same_place = ap (λ (l : Ledger _). l.place) c.self.view_is in
    let number = ap (λ (t : Txn _). t.number) c.begun.ensures in
    rw (c.push_reserved.ensures.items, c.in_ok-reserve-2.ensures.items, c.in_ok-reserve.ensures.items) (
      counted-begun _ c.begun.result c.self.invariant.0 (omega (arith, number, c.len.ensures)) (omega (arith, same_place, c.requires)),
      stretches-append c.self.inside.past.items c.self.inside.transactions.items _ c.self.invariant.1,
    )

pub returns-in_err-reserve-2-clause-err : goal.returns-in_err-reserve-2-clause-err
returns-in_err-reserve-2-clause-err g c =
    let inside = c.self.inside in
    on_err_so _ c.from_residual-in_err-reserve-2.result
    (ap (λ ts. record { base = inside.base; txns = ts; exports = inside.exports.items; place = inside.place }) c.reserve-2.ensures.items ∙ c.self.view_is)
