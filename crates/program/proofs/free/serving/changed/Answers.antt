use Rattle.std.proofs.Common.{rules, ◌≡◌, length, sym, subst}
use Rattle.std.specs.Fork.{ChangesEach}
use Rattle.program.proofs.FreelyLemmas.{written_back}
use Rattle.program.proofs.free.serving.changed.Goals as goal

pub returns-clause-each : goal.returns-clause-each
returns-clause-each g c =
    let new = c.for_each_mut.new.s in
    let same : length new ≡ c.args.all.len = search rules in
    let each = subst (λ xs. ChangesEach g.F.Fn c.args.change.now xs new) c.as_mut_slice.ensures.value c.for_each_mut.ensures in
    subst (ChangesEach g.F.Fn c.args.change.now c.args.all.items) (sym (written_back c.args.all.len c.args.all.items new same)) each
