use Rattle.std.proofs.Common.{◌≡◌, List, ℕ, ◌++◌, MatchOption, Option, Some, None, sym, ap, ◌∙◌}
use Rattle.std.specs.Borrow.{Bor}
use Rattle.std.specs.Option.{option_copied}
use Rattle.std.proofs.lemmas.Bool.Decides.{Decides-eqb}
use Rattle.std.proofs.lemmas.Slice.Eq.{strip_prefix_is}
use Rattle.restore.specs.CreateLine.{behind}
use Rattle.restore.proofs.words.Texts.{behind-append, behind-none}
use Rattle.restore.proofs.text.behind.Goals as goal

stripped : (bytes text : List ℕ) (r : Option (Bor (List ℕ))) → MatchOption r ((rest : List ℕ) → text ≡ bytes ++ rest → ⊥) (λ x. text ≡ bytes ++ x.now) → option_copied r ≡ behind bytes text
stripped bytes text None h = sym (behind-none bytes text h)
stripped bytes text (Some x) h = sym (ap (behind bytes) h ∙ behind-append bytes x.now)

pub returns : goal.returns
returns c = stripped c.args.bytes.now c.args.text.now c.strip_prefix.result (strip_prefix_is Decides-eqb c.args.text.now c.args.bytes.now c.strip_prefix.result c.strip_prefix.ensures.cases)
