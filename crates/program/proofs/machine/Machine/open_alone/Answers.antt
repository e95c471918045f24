use Rattle.std.proofs.Common.{subst}
use Rattle.program.specs.Files.{IsAllOf}
use Rattle.program.proofs.machine.Machine.open_alone.Goals as goal

pub returns-in-Ok-clause-begun : goal.returns-in-Ok-clause-begun
returns-in-Ok-clause-begun g c =
    let r = c.in_ok-catalog.ensures.read in
    (c.in_ok-catalog.catalog, c.in_ok-catalog.tables, (r.0, subst (λ p. IsAllOf (g.F.Stored.held c.args.self.now.files.now p) r.0) c.as_str.ensures r.1, r.2), c.in-Ok.ensures.ok)
