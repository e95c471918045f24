use Rattle.std.proofs.Common.{ap, sym, ◌++◌, ◌∷◌, [], ◌∙◌, append_assoc, List, ℕ, take, length}
use Rattle.std.proofs.lemmas.Result.{on_ok_weaker, on_err_weaker}
use Rattle.value.specs.Printed.{bytea_text}
use Rattle.copytext.proofs.WritingLemmas.{bytea_escaped, starts}
use Rattle.copytext.proofs.writing.append_bytea.Goals as goal

pub returns-clause-ok : goal.returns-clause-ok
returns-clause-ok g c =
    on_ok_weaker c.push_hexadecimal.result (λ h. h
    ∙ ap (λ (front : List ℕ). front ++ bytea_text c.args.bytes.now) c.in_ok-push.ensures.items
    ∙ append_assoc c.args.out.now.items (92 ∷ []) (bytea_text c.args.bytes.now)
    ∙ ap (λ (text : List ℕ). c.args.out.now.items ++ text) (sym (bytea_escaped c.args.bytes.now))) c.push_hexadecimal.ensures.ok

pub returns-clause-err : goal.returns-clause-err
returns-clause-err g c =
    on_err_weaker c.push_hexadecimal.result (λ h. ap (take (length c.args.out.now.items)) (h ∙ c.in_ok-push.ensures.items) ∙ starts c.args.out.now.items (92 ∷ [])) c.push_hexadecimal.ensures.err
