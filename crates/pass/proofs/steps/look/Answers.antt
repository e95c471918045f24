use Rattle.std.proofs.Common.{◌≡◌, sym, subst, arith}
use Rattle.atomic_table.specs.Table.{Allows}
use Rattle.history.specs.Opening.{Opening}
use Rattle.pass.specs.Rules.{IsKept, Looked}
use Rattle.pass.proofs.Moves.{looks}
use Rattle.pass.proofs.steps.look.Goals as goal

pub load-requires : goal.load-requires
load-requires g c =
    let t = c.args.words.now.shared in
    let s = c.args.seat.now in
    let one = c.requires.one in (
      c.requires.table,
      omega arith,
      subst (λ (k : Opening _). Allows (IsKept k) t.table_id.slots s.id s.me 0 (λ n. n) (λ n w. Looked g.J.Naming.opening s.me.0 n w.0 × (w.1 ≡ s.me.1))) (sym c.requires.opening)
          (looks g.J.Naming.opening t.table_id.slots s.id s.me.0 s.me.1 c.requires.pass),
    )
