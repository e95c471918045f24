use Rattle.std.proofs.Common.{ap, ◌++◌, ◌∷◌, [], ◌∙◌, List, ℕ, get_or, take, arith}
use Rattle.std.proofs.lemmas.List.{take_all}
use Rattle.copytext.specs.Writing.{escaped}
use Rattle.copytext.proofs.WritingLemmas.{left_with, one_more_escaped}
use Rattle.copytext.proofs.writing.append_each.Goals as goal

pub returns-in_err-append_byte-clause-err : goal.returns-in_err-append_byte-clause-err
returns-in_err-append_byte-clause-err g c =
    left_with _ c.args.out.now.items (escaped (take c.loop-byte.byte-index c.args.bytes.now)) _ (c.in_err-append_byte.ensures.err ∙ c.loop-byte.invariant)

pub loop-byte-preserved : goal.loop-byte-preserved
loop-byte-preserved g c =
    c.in_ok-append_byte.ensures.ok
    ∙ ap (λ (text : List ℕ). text ++ escaped (get_or c.args.bytes.now c.loop-byte.byte-index 0 ∷ [])) c.loop-byte.invariant
    ∙ one_more_escaped c.args.out.now.items c.args.bytes.now c.loop-byte.byte-index (omega arith)

pub returns-clause-ok : goal.returns-clause-ok
returns-clause-ok g c =
    c.loop-byte.invariant ∙ ap (λ bytes. c.args.out.now.items ++ escaped bytes) (take_all c.loop-byte.byte-index c.args.bytes.now (omega arith))
