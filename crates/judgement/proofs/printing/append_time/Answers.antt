use Rattle.std.proofs.Common.{◌≡◌, ◌++◌, rules, arith}
use Rattle.std.proofs.lemmas.Grind.{common_steps}
use Rattle.judgement.specs.Telling.{name_of, time_line}
use Rattle.judgement.proofs.PlaceLemmas.{seen_at}
use Rattle.judgement.proofs.printing.append_time.Goals as goal

pub returns : goal.returns
returns g c =
    let line : c.extend_from_slice.new.self.items ≡ c.args.text.now.items ++ time_line (name_of c.in-Some.name.now) (name_of c.in-Some-get.earlier.now) = first_of (search rules, grind (arith, common_steps)) in
    rw (seen_at name_of c.args.names.now c.args.place c.in-Some.name.now c.in-Some.ensures.lookup.3.0 c.in-Some.ensures.lookup.1, seen_at name_of c.args.names.now c.args.earlier c.in-Some-get.earlier.now c.in-Some-get.ensures.lookup.3.0 c.in-Some-get.ensures.lookup.1) line
