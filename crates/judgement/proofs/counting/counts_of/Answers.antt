use Rattle.std.proofs.Common.{◌∙◌, ap, length, map, subst}
use Rattle.std.specs.List.{count_by, sum_by}
use Rattle.judgement.specs.Counting.{IsHowMany, is_unanswered, statements_of}
use Rattle.judgement.specs.Telling.{names_of}
use Rattle.judgement.proofs.counting.counts_of.Goals as goal

pub returns : goal.returns
returns g c =
    let same = c.as_slice-transactions.ensures.value in
    record {
      transactions = c.count_all.ensures ∙ ap length same;
      sessions = subst (λ ns. IsHowMany c.in_ok-sessions.sessions (map (λ x. x.session) (names_of ns))) c.as_slice.ensures.value c.in_ok-sessions.ensures;
      statements = c.in-Some.ensures ∙ ap (sum_by statements_of) same;
      unanswered = c.count_unanswered.ensures ∙ ap (count_by is_unanswered) same;
    }
