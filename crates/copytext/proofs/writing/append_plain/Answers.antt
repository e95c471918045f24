use Rattle.std.proofs.Common.{◌++◌, ap, sym, ◌∙◌}
use Rattle.copytext.proofs.WritingLemmas.{escaped-plain}
use Rattle.copytext.proofs.writing.append_plain.Goals as goal

pub returns-clause-ok : goal.returns-clause-ok
returns-clause-ok g c = c.in_ok-extend_from_slice.ensures.items ∙ ap (λ bytes. c.args.out.now.items ++ bytes) (sym (escaped-plain c.args.bytes.now c.requires))
