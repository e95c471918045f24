use Rattle.std.proofs.Common.{◌++◌, List, ℕ, ap, ◌∙◌, append_assoc, codes}
use Rattle.dumpplan.proofs.create.append_referenced.Goals as goal

pub returns-clause-ok : goal.returns-clause-ok
returns-clause-ok g c =
    let old : List ℕ = c.args.text.now.items in
    let name : List ℕ = c.args.name.now in
    c.in_ok-extend_from_slice-2.ensures.items
    ∙ ap (λ (n : List ℕ). c.extend_from_slice.new.self.items ++ n) c.as_bytes.ensures.value
    ∙ ap (λ (t : List ℕ). t ++ name) c.in_ok-extend_from_slice.ensures.items
    ∙ append_assoc old (codes " REFERENCES ") name
