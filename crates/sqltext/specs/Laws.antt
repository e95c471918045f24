-- What holds of all that is parsed.
use Rattle.std.specs.Prelude.{◌≡◌, ◌≤◌, ◌↔◌, ℕ, false, List, [], ◌∷◌, ◌++◌, length, map, Ok, Err}
use Rattle.value.specs.declared.refusal.Refusal.{Refusal}
use Rattle.value.specs.declared.refusal.Code.TheVariants.{SyntaxError}
use Rattle.value.specs.Refusals.{of_code}
use Rattle.schema.specs.Definition.{Catalog}
use Rattle.schema.specs.Names.{reserved_words}
use Rattle.sqltext.specs.declared.token.TheConstants.{RESERVED_WORDS}
use Rattle.sqltext.specs.declared.token.Token.{Token}
use Rattle.sqltext.specs.declared.tree.Tree.{Tree}
use Rattle.sqltext.specs.Reading.{syntax_error}
use Rattle.sqltext.specs.Grammar.{whole}
use Rattle.sqltext.specs.Creating.{TableParts, whole as whole_table, table_of, nowhere, created}
use Rattle.sqltext.specs.Spelling.{Spells}
use Rattle.sqltext.specs.TableSpelling.{SpellsTable}
use Rattle.sqltext.specs.Source.{in_small_letters}
use Rattle.sqltext.specs.Tokens.{tokens}
use Rattle.sqltext.specs.Lexemes.{AreSpelled}
use Rattle.sqltext.specs.Resolving.{resolved}
use Rattle.sqltext.specs.Parsed.{parsed}

-- the words that name nothing are those that tables and columns may not be called
abbrev pub SameReservedWords : Type 0
SameReservedWords = map (λ entry. entry.0.now) RESERVED_WORDS ≡ reserved_words

-- a text has exactly the tokens that spell it
abbrev pub CutsAsSpelled : Type 0
CutsAsSpelled = (text : List ℕ) (ts : List Token) → (tokens text ≡ ts) ↔ AreSpelled false 0 text ts

-- ---- the grammar

-- tokens are read as a tree exactly where they spell it
abbrev pub ReadsWhatIsSpelled : Type 0 → Type 0
ReadsWhatIsSpelled A = (ts : List Token) (tree : Tree A) → (whole ts ≡ Ok tree) ↔ Spells tree ts

-- no tokens spell two trees
abbrev pub SpellsOneTree : Type 0 → Type 0
SpellsOneTree A = (ts : List Token) (tree other : Tree A) → Spells tree ts → Spells other ts → tree ≡ other

-- a statement can follow: with other tokens after them, they spell a tree
abbrev pub BeginAStatement : Type 0 → List Token → Type 0
BeginAStatement A ts = (tree : Tree A) × (after : List Token) × Spells tree (ts ++ after)

-- with the next token none can follow; where there is none, the tokens alone spell no tree
abbrev pub NoneGoesOn : Type 0 → List Token → List Token → Type 0
NoneGoesOn A before [] = (tree : Tree A) → Spells tree before → ⊥
NoneGoesOn A before (t ∷ ts) = BeginAStatement A (before ++ t ∷ []) → ⊥

-- a syntax error is at the first token after which no statement can follow
abbrev pub RefusesTheFirstFault : Type 0 → Type 0
RefusesTheFirstFault A = (ts : List Token) (refusal : Refusal) → whole {A = A} ts ≡ Err refusal
    → (before : List Token) × (rest : List Token) × (ts ≡ before ++ rest) × (refusal ≡ syntax_error rest) × BeginAStatement A before × NoneGoesOn A before rest

-- the tokens of a text, whose letters are small except those between quotes
abbrev pub tokens_of : List ℕ → List Token
tokens_of text = tokens (in_small_letters false text)

-- a text that isn't too long, and whose tokens spell a tree, says what the tree does of a catalog's tables
abbrev pub ParsesWhatIsSpelled : Type 0 → Type 0
ParsesWhatIsSpelled A = (catalog : Catalog) (text : List ℕ) (tree : Tree A) → length text ≤ 65536 → Spells tree (tokens_of text)
    → parsed catalog text ≡ resolved catalog (in_small_letters false text) tree

-- one whose tokens spell none is refused at the first token after which no statement can follow
abbrev pub RefusesWhatIsNot : Type 0 → Type 0
RefusesWhatIsNot A = (catalog : Catalog) (text : List ℕ) → length text ≤ 65536 → ((tree : Tree A) → Spells tree (tokens_of text) → ⊥)
    → (before : List Token) × (rest : List Token) × (tokens_of text ≡ before ++ rest) × (parsed {A = A} catalog text ≡ Err (syntax_error rest)) × BeginAStatement A before × NoneGoesOn A before rest

-- tokens read as a CREATE TABLE exactly where they spell it
abbrev pub ReadsSpelledTables : Type 0
ReadsSpelledTables = (ts : List Token) (table : TableParts) → (whole_table ts ≡ Ok table) ↔ SpellsTable table ts

abbrev pub SpellsOneTable : Type 0
SpellsOneTable = (ts : List Token) (table other : TableParts) → SpellsTable table ts → SpellsTable other ts → table ≡ other

-- a CREATE TABLE can follow
abbrev pub BeginATable : List Token → Type 0
BeginATable ts = (table : TableParts) × (after : List Token) × SpellsTable table (ts ++ after)

-- with the next token none can; where there is none, the tokens alone spell no table
abbrev pub NoTableGoesOn : List Token → List Token → Type 0
NoTableGoesOn before [] = (table : TableParts) → SpellsTable table before → ⊥
NoTableGoesOn before (t ∷ ts) = BeginATable (before ++ t ∷ []) → ⊥

-- a syntax error is at the first token after which none can follow
abbrev pub RefusesTheFirstFaultOfATable : Type 0
RefusesTheFirstFaultOfATable = (ts : List Token) (refusal : Refusal) → whole_table ts ≡ Err refusal
    → (before : List Token) × (rest : List Token) × (ts ≡ before ++ rest) × (refusal ≡ syntax_error rest) × BeginATable before × NoTableGoesOn before rest

-- a text whose tokens spell a table says that table
abbrev pub CreatesWhatIsSpelled : Type 0
CreatesWhatIsSpelled = (text : List ℕ) (table : TableParts) → SpellsTable table (tokens_of text) → created text ≡ nowhere (table_of (in_small_letters false text) table)

-- one whose tokens spell none is refused, with no place
abbrev pub CreatesNothingElse : Type 0
CreatesNothingElse = (text : List ℕ) → ((table : TableParts) → SpellsTable table (tokens_of text) → ⊥) → created text ≡ Err (of_code SyntaxError)
