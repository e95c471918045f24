use Rattle.std.proofs.Common.{refl}
use Rattle.std.proofs.lemmas.List.{append-nil}
use Rattle.judgement.proofs.PlaceLemmas.{pair_of, read_at, read_past, seen_at, seen_past}
use Rattle.judgement.proofs.json.judged.append_difference.Goals as goal

pub returns-in_default : goal.returns-in_default
returns-in_default g c = rw (read_past c.deref.result.now c.args.name.now.lines.items c.args.at c.deref.ensures.value c.in_default.ensures.lookup.3, append-nil) refl

pub returns-in_default-get : goal.returns-in_default-get
returns-in_default-get g c = rw (read_at c.deref.result.now c.args.name.now.lines.items c.args.at c.in-Some.line.now c.deref.ensures.value c.in-Some.ensures.lookup.3.0 c.in-Some.ensures.lookup.1, seen_past pair_of c.args.statements.now c.args.at c.in_default-get.ensures.lookup.3, append-nil) refl

pub returns : goal.returns
returns g c =
    rw (read_at c.deref.result.now c.args.name.now.lines.items c.args.at c.in-Some.line.now c.deref.ensures.value c.in-Some.ensures.lookup.3.0 c.in-Some.ensures.lookup.1, seen_at pair_of c.args.statements.now c.args.at c.in-Some-get.answered.now c.in-Some-get.ensures.lookup.3.0 c.in-Some-get.ensures.lookup.1)
    c.append_replies.ensures
