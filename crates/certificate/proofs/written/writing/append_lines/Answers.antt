use Rattle.std.proofs.Common.{ap, ◌++◌, ◌∙◌, arith}
use Rattle.std.specs.Prelude.{codes}
use Rattle.std.proofs.lemmas.List.{take_all}
use Rattle.certificate.specs.Writing.{line_text, lines_text}
use Rattle.certificate.proofs.LineLemmas.{more_lines}
use Rattle.certificate.proofs.written.writing.append_lines.Goals as goal

pub loop-line-preserved : goal.loop-line-preserved
loop-line-preserved g c =
    c.in_ok-append_ended.ensures.ok
    ∙ ap (λ text. text ++ (line_text c.args.naming.now c.line-item.result ++ codes "\n")) c.loop-line.invariant
    ∙ more_lines c.args.naming.now c.args.out.now.items c.args.lines.now c.loop-line.line-index c.line-item.result (omega arith) c.line-item.is

pub returns-clause-ok : goal.returns-clause-ok
returns-clause-ok g c =
    c.loop-line.invariant ∙ ap (λ lines. c.args.out.now.items ++ lines_text c.args.naming.now lines) (take_all c.loop-line.line-index c.args.lines.now (omega arith))
