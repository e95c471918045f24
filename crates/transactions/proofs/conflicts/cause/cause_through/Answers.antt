use Rattle.std.proofs.Common.{ap, sym, ◌∙◌, ◌≡◌, ◌≤◌, arith}
use Rattle.value.specs.Isolation.{bound}
use Rattle.history.specs.Transactions.{Txn, edge, node, reads_from}
use Rattle.transactions.specs.Ledger.{txn_at}
use Rattle.transactions.specs.Structures.{closed_pair}
use Rattle.transactions.proofs.AroundLemmas.{at-place}
use Rattle.transactions.proofs.CauseLemmas.{bounded-none, only-through}
use Rattle.transactions.proofs.LedgerLemmas.{txn_at-is}
use Rattle.transactions.proofs.conflicts.cause.cause_through.Goals as goal

pub returns-then-bound-committer : goal.returns-then-bound-committer
returns-then-bound-committer g c =
    let ts = c.args.all.now in
    let x = txn_at ts c.args.at in
    let same : c.index-all-at.result ≡ x = sym (txn_at-is ts c.args.at c.index-all-at.result c.requires.within c.index-all-at.is) in
    let snapshot : c.committer.inside.snapshot ≡ x.snapshot = ap (λ (t : Txn _). t.snapshot) (c.committer.view_is ∙ same) in
    let first : c.first.inside.number ≡ c.args.first.now.number = ap (λ (t : Txn _). t.number) c.first.view_is in
    let middle : c.committer.inside.number ≡ x.number = ap (λ (t : Txn _). t.number) (c.committer.view_is ∙ same) in
    let early : bound node edge c.args.first.now ≤ x.snapshot = omega (arith, c.if-bound-committer.true, c.bound.ensures, snapshot) in
    bounded-none node reads_from c.args.first.now x ts early
    ∙ only-through node edge ts c.args.at x c.args.first.now c.requires.within (at-place ts c.args.at c.requires.within) c.requires.committer
    (λ e. c.if-first-committer.false (first ∙ ap (λ (t : Txn _). t.number) e ∙ sym middle))

pub returns-else-bound-committer : goal.returns-else-bound-committer
returns-else-bound-committer g c =
    let ts = c.args.all.now in
    let x = txn_at ts c.args.at in
    let same : c.index-all-at.result ≡ x = sym (txn_at-is ts c.args.at c.index-all-at.result c.requires.within c.index-all-at.is) in
    let first : c.first.inside.number ≡ c.args.first.now.number = ap (λ (t : Txn _). t.number) c.first.view_is in
    let middle : c.committer.inside.number ≡ x.number = ap (λ (t : Txn _). t.number) (c.committer.view_is ∙ same) in
    c.cause_of_pair.ensures ∙ ap (closed_pair node edge ts c.args.first.now) same
    ∙ only-through node edge ts c.args.at x c.args.first.now c.requires.within (at-place ts c.args.at c.requires.within) c.requires.committer
    (λ e. c.if-first-committer.false (first ∙ ap (λ (t : Txn _). t.number) e ∙ sym middle))
