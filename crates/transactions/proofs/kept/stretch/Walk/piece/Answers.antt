use Rattle.std.proofs.Common.{◌∙◌, ◌-◌, ap, drop, take}
use Rattle.transactions.proofs.StretchLemmas.{around-passed}
use Rattle.transactions.proofs.kept.stretch.Walk.piece.Goals as goal

pub returns-clause-around : goal.returns-clause-around
returns-clause-around g c =
    let same = c.passed-passed.ensures.same in
    around-passed c.passed-passed.result c.args.transactions.now c.split_at.result.1.now c.split_at-2.result.0.now c.args.snapshot c.args.place c.args.self.now.at c.passed-passed.ensures.passed
    (c.split_at.ensures.back ∙ ap (λ n. drop n c.args.transactions.now) same) (c.split_at-2.ensures.front ∙ ap (λ n. take (c.passed-passed.result.from - n) c.split_at.result.1.now) same)
