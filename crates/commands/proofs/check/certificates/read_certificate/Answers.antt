use Rattle.std.proofs.Common.{◌≡◌, true, subst, sym}
use Rattle.orders.specs.Explains.{all_fit, Unexplained}
use Rattle.commands.proofs.check.certificates.read_certificate.Goals as goal

pub returns-in-Ok-Taken : goal.returns-in-Ok-Taken
returns-in-Ok-Taken g c =
    let transactions = c.as_slice-2.ensures.value in
    record {
      refutes = subst (λ ts. Unexplained c.args.catalog.now c.args.tables.now ts) transactions
          (c.in-Ok-Taken.ensures.taken c.in-Ok-Taken.field-0-is (subst (λ ts. all_fit c.args.catalog.now ts ≡ true) (sym transactions) c.requires.fit) c.requires.sound);
    }
