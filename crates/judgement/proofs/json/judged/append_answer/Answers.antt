use Rattle.std.proofs.Common.{◌≡◌, ◌∙◌, ◌++◌, OnOk, ap, map, slice_get, subst, sym}
use Rattle.judgement.specs.JsonTelling.{line_members}
use Rattle.judgement.specs.Telling.{name_of, names_of}
use Rattle.judgement.proofs.PlaceLemmas.{pair_of, read_at, seen_at}
use Rattle.judgement.proofs.json.judged.append_answer.Goals as goal

-- what the view of the transaction has are the statements that are passed
pub returns : goal.returns
returns g c =
    let named = ap (λ names. slice_get (names_of names) c.args.place) (sym c.deref.ensures.value) ∙ seen_at name_of c.deref.result.now c.args.place c.in-Some.name.now c.in-Some.ensures.lookup.3.0 c.in-Some.ensures.lookup.1 in
    let recorded = read_at c.deref-2.result.now c.args.traces.now.transactions.items c.args.place c.in-Some-get.transaction.now c.deref-2.ensures.value c.in-Some-get.ensures.lookup.3.0 c.in-Some-get.ensures.lookup.1 in
    let shown : map pair_of c.as_slice.result.now ≡ c.in-Some-get.transaction.now.statements = ap (map pair_of) c.as_slice.ensures.value ∙ ap (λ t. t.statements) c.transaction.view_is in
    rw (named, recorded) (subst (λ ss. OnOk c.append_difference.result (c.append_difference.new.text.items ≡ c.args.text.now.items ++ line_members (name_of c.in-Some.name.now) (slice_get c.in-Some.name.now.lines.items c.args.at) (slice_get ss c.args.at) c.args.alone.now)) shown c.append_difference.ensures)
