-- A text is parsed as its tokens are spelled, and a table created so.
use Rattle.std.proofs.Common.{◌≡◌, ℕ, ◌≤◌, nat_lt, false, List, ◌++◌, length, Result, Ok, Err, refl, ap, ◌∙◌, arith}
use Rattle.std.proofs.lemmas.Bool.Decides.{nat_tests}
use Rattle.value.specs.declared.refusal.Refusal.{Refusal}
use Rattle.value.specs.declared.refusal.Code.TheVariants.{SyntaxError}
use Rattle.value.specs.Refusals.{of_code}
use Rattle.schema.specs.Definition.{Catalog}
use Rattle.sqltext.specs.declared.token.Token.{Token}
use Rattle.sqltext.specs.declared.tree.Tree.{Tree}
use Rattle.sqltext.specs.Source.{in_small_letters}
use Rattle.sqltext.specs.Reading.{◌>>=◌, syntax_error}
use Rattle.sqltext.specs.Grammar.{whole}
use Rattle.sqltext.specs.Resolving.{resolved}
use Rattle.sqltext.specs.Creating.{TableParts, whole as whole_table, table_of, nowhere, created_small, created}
use Rattle.sqltext.specs.Parsed.{parsed, parsed_small}
use Rattle.sqltext.specs.Laws.{BeginAStatement, NoneGoesOn, tokens_of, ParsesWhatIsSpelled, RefusesWhatIsNot, CreatesWhatIsSpelled, CreatesNothingElse}
use Rattle.sqltext.proofs.StatementLemmas.{reads_what_is_spelled, refuses_the_first_fault}
use Rattle.sqltext.proofs.TableLemmas.{reads_spelled_tables}

short_enough : (n : ℕ) → n ≤ 65536 → nat_lt 65536 n ≡ false
short_enough n le = grind (arith, nat_tests)

module _ (A : Type 0) where
  short : (catalog : Catalog) (text : List ℕ) → length text ≤ 65536 → parsed {A = A} catalog text ≡ (whole {A = A} (tokens_of text) >>= λ tree. resolved catalog (in_small_letters false text) tree)
  unfolding parsed parsed_small
  short catalog text le = rw (short_enough (length text) le) refl

  pub parses_what_is_spelled : ParsesWhatIsSpelled A
  parses_what_is_spelled catalog text tree le s = short catalog text le ∙ ap (λ (r : Result (Tree A) Refusal). r >>= λ t. resolved catalog (in_small_letters false text) t) ((reads_what_is_spelled A (tokens_of text) tree).1 s)

  pub refuses_what_is_not : RefusesWhatIsNot A
  refuses_what_is_not catalog text le none = go (whole {A = A} (tokens_of text)) refl
    where
      go : (answer : Result (Tree A) Refusal) → whole {A = A} (tokens_of text) ≡ answer
          → (before : List Token) × (rest : List Token) × (tokens_of text ≡ before ++ rest) × (parsed {A = A} catalog text ≡ Err (syntax_error rest)) × BeginAStatement A before × NoneGoesOn A before rest
      go (Ok tree) d = absurd (none tree ((reads_what_is_spelled A (tokens_of text) tree).0 d))
      go (Err e) d =
          let (before, rest, all, place, begun, ends) = refuses_the_first_fault A (tokens_of text) e d in
          (before, rest, all, short catalog text le ∙ ap (λ (r : Result (Tree A) Refusal). r >>= λ t. resolved catalog (in_small_letters false text) t) d ∙ ap (λ (f : Refusal). Err f) place, begun, ends)

pub creates_what_is_spelled : CreatesWhatIsSpelled
unfolding created_small
creates_what_is_spelled text table s = ap (λ (r : Result TableParts Refusal). nowhere (r >>= λ t. table_of (in_small_letters false text) t)) ((reads_spelled_tables (tokens_of text) table).1 s)

pub creates_nothing_else : CreatesNothingElse
unfolding created_small
creates_nothing_else text none = go (whole_table (tokens_of text)) refl
  where
    go : (answer : Result TableParts Refusal) → whole_table (tokens_of text) ≡ answer → created text ≡ Err (of_code SyntaxError)
    go (Ok table) d = absurd (none table ((reads_spelled_tables (tokens_of text) table).0 d))
    go (Err e) d = ap (λ (r : Result TableParts Refusal). nowhere (r >>= λ t. table_of (in_small_letters false text) t)) d
