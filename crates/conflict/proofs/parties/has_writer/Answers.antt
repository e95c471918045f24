use Rattle.std.proofs.Common.{◌∙◌, ap, ◌&&◌}
use Rattle.conflict.specs.Tracked.{is_writer}
use Rattle.conflict.proofs.Places.{any_found, any_none}
use Rattle.conflict.proofs.parties.has_writer.Goals as goal

pub returns-in-Some : goal.returns-in-Some
returns-in-Some g c = c.is_writer.ensures ∙ any_found (is_writer c.args.number) c.args.number (λ p e. ap (λ b. b && p.active && p.read_write) e) c.args.parties.now c.in-Some.party.now c.requires c.in-Some.ensures.some

pub returns-in-None : goal.returns-in-None
returns-in-None g c = any_none (is_writer c.args.number) c.args.number (λ p e. ap (λ b. b && p.active && p.read_write) e) c.args.parties.now c.in-None.ensures.none
