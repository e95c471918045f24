use Rattle.std.proofs.Common.{ap, arith, sym, ◌∙◌, ◌&&◌, ◌==◌, Some}
use Rattle.std.specs.List.{filter}
use Rattle.std.specs.Option.{option_copied, option_map}
use Rattle.value.specs.Isolation.{serial_key}
use Rattle.history.specs.Transactions.{Txn, edge, is_done, node}
use Rattle.transactions.proofs.PieceLemmas.{find-ended, find-first, find-further}
use Rattle.transactions.proofs.StretchLemmas.{past-commit}
use Rattle.transactions.proofs.conflicts.keys.find_commit.Goals as goal

pub returns-in-Some : goal.returns-in-Some
returns-in-Some g c =
    let found = find-first (λ (t : Txn _). is_done t.standing && t.end == c.args.place) c.in-Some.found.now c.piece-piece.ensures.around (ap option_copied (sym c.in-Some.is) ∙ c.find_among.ensures) c.loop-walk.invariant.1 in
    ap Some c.with_key.ensures
    ∙ ap (option_map (λ (t : Txn _). (t.number, serial_key node edge (filter (λ u. is_done u.standing) c.args.transactions.now) t))) found

pub loop-walk-preserved : goal.loop-walk-preserved
loop-walk-preserved g c = (
  c.piece-piece.ensures.within,
  find-further (λ (t : Txn _). is_done t.standing && t.end == c.args.place) (past-commit _ c.args.place) c.piece-piece.ensures.around (sym (ap option_copied (sym c.in_default.is) ∙ c.find_among.ensures)) c.loop-walk.invariant.1,
)

pub returns : goal.returns
returns g c =
    let none = find-ended (λ (t : Txn _). is_done t.standing && t.end == c.args.place) c.args.transactions.now c.loop-walk.walk.at (omega (arith, c.loop-walk-test.false)) c.loop-walk.invariant.1 in
    ap (option_map (λ (t : Txn _). (t.number, serial_key node edge (filter (λ u. is_done u.standing) c.args.transactions.now) t))) (sym none)
