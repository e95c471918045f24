use Rattle.std.proofs.Common.{◌∙◌, ◌++◌, ap, ap₂, codes, sym}
use Rattle.std.proofs.lemmas.Result.{on_ok_weaker}
use Rattle.judgement.specs.JsonTelling.{each_hindered, order_member, stop_members}
use Rattle.judgement.specs.Telling.{names_of}
use Rattle.judgement.proofs.JsonLemmas.{three}
use Rattle.judgement.proofs.json.judged.append_stop.Goals as goal

pub returns : goal.returns
unfolding stop_members
returns g c =
    let traces = c.args.traces.now in
    let ordered = c.in_ok-append_order.ensures ∙ ap₂ (λ ns os. c.args.text.now.items ++ order_member (codes ",\"longest\":") (names_of ns) os) c.as_slice-names.ensures.value c.as_slice-2.ensures.value in
    let all = c.as_slice-3.ensures.value ∙ c.in_ok-each.ensures ∙ ap (each_hindered (names_of traces.names.items) traces.transactions.items) c.as_slice.ensures.value in
    rw (sym all) (on_ok_weaker c.append_array.result (λ e. three _ _ _ _ _ _ _ ordered c.in_ok-append_word.ensures e) c.append_array.ensures)
