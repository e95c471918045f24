-- Texts to which words are appended one after the other.
use Rattle.std.proofs.Common.{◌≡◌, ap, ◌∙◌, ◌++◌, append_assoc, List, ℕ}

pub then_word : (old mid new a b : List ℕ) → new ≡ mid ++ b → mid ≡ old ++ a → new ≡ old ++ (a ++ b)
then_word old mid new a b e f = e ∙ ap (λ l. l ++ b) f ∙ append_assoc old a b
