use Rattle.std.proofs.Common.{sym, ap, ◌∙◌, map}
use Rattle.std.proofs.Math.Bool.{not}
use Rattle.session.specs.Unspoilt.{keyed}
use Rattle.session.proofs.UnspoiltLemmas.{one_unspoilt}
use Rattle.session.proofs.unspoilt.Unspoilt.is_spoilt.Goals as goal

pub returns-else-not-has : goal.returns-else-not-has
returns-else-not-has c =
    ap not c.if-not-has.false ∙ sym (one_unspoilt (map keyed c.args.keys.now) c.args.snapshot c.args.self.now c.requires (sym c.has.ensures ∙ c.if-not-has.false))
