use Rattle.std.specs.Prelude.{codes}
use Rattle.std.specs.Fmt.{decimal}
use Rattle.judgement.proofs.CountLemmas.{whole}
use Rattle.judgement.proofs.counting.line_of.Goals as goal

pub returns : goal.returns
returns g c =
    let n = c.args.counts in
    whole (codes "judged: transactions ") (decimal n.transactions) (codes ", sessions ") (decimal n.sessions) (codes ", statements ") (decimal n.statements) (codes ", without a reply to COMMIT ") (decimal n.unanswered) (codes "\n")
    _ _ _ _ _ _ c.new-text.ensures.items c.in_ok-append.ensures c.in_ok-append-2.ensures c.in_ok-append-3.ensures c.in_ok-append-4.ensures c.in_ok-extend_from_slice.ensures.items
