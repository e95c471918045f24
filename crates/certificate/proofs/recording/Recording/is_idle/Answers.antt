use Rattle.std.proofs.Common.{◌≡◌, subst, []}
use Rattle.std.specs.Option.{option_map_or}
use Rattle.orders.specs.Symbolic.{ways_of}
use Rattle.certificate.proofs.recording.Recording.is_idle.Goals as goal

pub returns : goal.returns
returns g c = λ h.
    subst (λ o. option_map_or (λ t. ways_of c.args.self.now.catalog c.args.spot.now.table c.args.spot.now.key t.statements) o [] ≡ ways_of c.args.self.now.catalog c.args.spot.now.table c.args.spot.now.key []) c.transaction.ensures
    (c.is_idle.ensures c.args.self.now.catalog h)
