use Rattle.std.proofs.Common.{◌≡◌, false, ◌+ℤ◌, ap, subst, sym, ◌∙◌, w64, to_z, of_z, not, ◌||◌, Some}
use Rattle.std.specs.Prelude.{FitsSigned}
use Rattle.std.proofs.lemmas.Int.{to_z-of_z}
use Rattle.schema.specs.Plain.{in_range}
use Rattle.value.specs.declared.value.Value.TheVariants.{Int}
use Rattle.statement.proofs.ReferenceLemmas.{beyond}
use Rattle.certificate.specs.Recorded.{one_allows}
use Rattle.certificate.proofs.states.allows_sum.Goals as goal

pub returns-in-None : goal.returns-in-None
returns-in-None g c =
    let before = to_z-of_z w64 c.args.before c.ranges.before in
    let number = to_z-of_z w64 c.args.number c.ranges.number in
    let sum = ap (λ n. n +ℤ to_z w64 (of_z w64 c.args.number)) before ∙ ap (λ n. c.args.before +ℤ n) number in
    let out = beyond (c.args.before +ℤ c.args.number) (λ fits. c.in-None.ensures (subst (FitsSigned w64) (sym sum) fits)) in
    sym (ap (λ b. not b || one_allows c.args.ways.now c.args.column (Some (Int (c.args.before +ℤ c.args.number)))) out)

pub returns-in-Some : goal.returns-in-Some
returns-in-Some g c =
    let before = to_z-of_z w64 c.args.before c.ranges.before in
    let number = to_z-of_z w64 c.args.number c.ranges.number in
    let added = ap (λ n. n +ℤ to_z w64 (of_z w64 c.args.number)) before ∙ ap (λ n. c.args.before +ℤ n) number in
    let h = c.in-Some.ensures in
    let sum = to_z-of_z w64 c.in-Some.sum (subst (FitsSigned w64) (sym h.1) h.0) ∙ h.1 ∙ added in
    let within = subst (λ z. not (in_range z) ≡ false) sum c.is_in_range.ensures in
    c.one_allows_value.ensures
    ∙ ap (λ z. one_allows c.args.ways.now c.args.column (Some (Int z))) sum
    ∙ sym (ap (λ b. b || one_allows c.args.ways.now c.args.column (Some (Int (c.args.before +ℤ c.args.number)))) within)
