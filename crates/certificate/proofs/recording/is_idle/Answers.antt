use Rattle.std.proofs.Common.{sym, ap, ◌∙◌, []}
use Rattle.std.proofs.lemmas.Bool.{not-true}
use Rattle.std.specs.Option.{option_copied, option_map_or}
use Rattle.orders.specs.Symbolic.{ways_of}
use Rattle.certificate.proofs.RecordingLemmas.{idle-ways}
use Rattle.certificate.proofs.recording.is_idle.Goals as goal

pub returns-in-Some : goal.returns-in-Some
returns-in-Some g c = λ catalog h.
    ap (λ o. option_map_or (λ t. ways_of catalog c.args.spot.now.table c.args.spot.now.key t.statements) (option_copied o) []) c.in-Some.is
    ∙ idle-ways catalog c.args.spot.now.table c.args.spot.now.key c.in-Some.transaction.now.statements (sym c.looks_at.ensures ∙ not-true c.looks_at.result h)
