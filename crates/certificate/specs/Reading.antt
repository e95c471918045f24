-- What the text of a certificate reads as (this project's own format).
use Rattle.std.specs.Prelude.{ℕ, ◌+◌, ◌-◌, ◌==◌, if◌then◌else◌, List, [], ◌∷◌, length, codes, Option, Some, None, Result, Ok, Err}
use Rattle.std.specs.List.{slice_split}
use Rattle.std.specs.Str.{bytes_eq, is_utf8}
use Rattle.value.specs.declared.kind.Kind.{Kind}
use Rattle.value.specs.declared.refusal.Code.{Code}
use Rattle.value.specs.declared.value.Value.{Value}
use Rattle.value.specs.declared.value.Value.TheVariants.{Null}
use Rattle.schema.specs.Definition.{columns_of, table_named, column_named}
use Rattle.copytext.specs.Reading.{line_values}
use Rattle.certificate.specs.Knowledge.{Cell}
use Rattle.certificate.specs.declared.certificate.Assumption.TheVariants.{Before, Present, Absent}
use Rattle.certificate.specs.declared.certificate.Line.{Line}
use Rattle.certificate.specs.declared.certificate.Line.TheVariants as line
use Rattle.certificate.specs.declared.known.Spot.{Spot}
use Rattle.certificate.specs.Names.{Naming, place_of, kind_of}
use Rattle.certificate.specs.Words.{cut, number_of}

infixl 10 ◌>>=◌
abbrev pub ◌>>=◌ : {X Y : Type 0} → Option X → (X → Option Y) → Option Y
None >>= f = None
(Some x) >>= f = f x

-- ---- what stands before a space, and what behind it

-- the word before a space, and what stands behind that
abbrev pub word_before : List ℕ → Option (List ℕ × List ℕ)
word_before text = cut 32 text

abbrev pub number_in : List ℕ → Option ℕ
number_in word = number_of word

-- a number from 1 on, less 1, and what stands behind it
unfoldable pub count_before : List ℕ → Option (ℕ × List ℕ)
count_before text = word_before text >>= λ p. number_in p.0 >>= λ m. if m == 0 then None else Some (m - 1, p.1)

-- a number from 1 on, less 1
unfoldable pub count_in : List ℕ → Option ℕ
count_in word = number_in word >>= λ m. if m == 0 then None else Some (m - 1)

-- what stands behind the bar
unfoldable pub behind_bar : List ℕ → Option (List ℕ)
behind_bar text = word_before text >>= λ p. if bytes_eq p.0 (codes "|") then Some p.1 else None

-- the transaction whose number a word is
unfoldable pub party : Naming → List ℕ → Option ℕ
party n word = number_in word >>= λ m. place_of n m

unfoldable pub party_before : Naming → List ℕ → Option (ℕ × List ℕ)
party_before n text = word_before text >>= λ p. party n p.0 >>= λ x. Some (x, p.1)

unfoldable pub table_before : Naming → List ℕ → Option (ℕ × List ℕ)
table_before n text = word_before text >>= λ p. table_named n.catalog p.0 >>= λ t. Some (t, p.1)

-- the column of a table whose name a word is
unfoldable pub column_in : Naming → ℕ → List ℕ → Option ℕ
column_in n t word = column_named (columns_of n.catalog t) word

-- a table, a column of it, and what stands behind the bar
unfoldable pub column_before : Naming → List ℕ → Option (ℕ × ℕ × List ℕ)
column_before n text = table_before n text >>= λ t. word_before t.1 >>= λ p. column_in n t.0 p.0 >>= λ k. behind_bar p.1 >>= λ rest. Some (t.0, k, rest)

-- the kind of a table's column
abbrev pub kind_in : Naming → ℕ → ℕ → Option Kind
kind_in n t k = kind_of n t k

module _ {A : Type 0} where
  -- ---- keys and states

  -- a value that isn't null
  abbrev pub key_of : Value A → Option (Value A)
  key_of Null = None
  key_of v = Some v

  -- a key alone
  abbrev pub alone : Result (List (Value A)) Code → Option (Value A)
  alone (Ok (v ∷ [])) = key_of v
  alone _ = None

  -- a key, and a state behind it
  abbrev pub stated : Result (List (Value A)) Code → Option (Value A × Option (Value A))
  stated (Ok (v ∷ s ∷ [])) = key_of v >>= λ k. Some (k, Some s)
  stated _ = None

  -- the first, or where that isn't there the other
  abbrev pub with_state : Option (Value A) → Option (Value A × Option (Value A)) → Option (Value A × Option (Value A))
  with_state (Some k) other = Some (k, None)
  with_state None other = other

  -- the key of a kind that a text is
  unfoldable pub key : Kind → List ℕ → Option (Value A)
  key kind text = alone (line_values (kind ∷ []) text)

  abbrev pub key_and_state : Kind → Kind → List ℕ → Option (Value A × Option (Value A))
  key_and_state kind column text = stated (line_values (kind ∷ column ∷ []) text)

  -- a key, and the state behind it where there is one
  abbrev pub finding : Kind → Kind → List ℕ → Option (Value A × Option (Value A))
  finding kind column text = with_state (key kind text) (key_and_state kind column text)

  -- ---- lines

  unfoldable pub spot : Naming → List ℕ → Option (Spot A)
  spot n text = table_before n text >>= λ t. behind_bar t.1 >>= λ rest. kind_in n t.0 0 >>= λ kind. key kind rest >>= λ k. Some (record { table = t.0; key = k })

  unfoldable pub cell : Naming → List ℕ → Option (Cell (Spot A))
  cell n text = column_before n text >>= λ t. kind_in n t.0 0 >>= λ kind. key kind t.2 >>= λ k. Some (record { spot = record { table = t.0; key = k }; column = t.1 })

  unfoldable pub joined : Naming → List ℕ → Option (Line A)
  joined n text = party_before n text >>= λ x. party_before n x.1 >>= λ y. party n y.1 >>= λ z. Some (line.Joined x.0 y.0 z)

  unfoldable pub source : Naming → List ℕ → Option (Line A)
  source n text = party_before n text >>= λ x. party_before n x.1 >>= λ y. cell n y.1 >>= λ c. Some (line.Source x.0 y.0 c)

  unfoldable pub later : Naming → List ℕ → Option (Line A)
  later n text = party_before n text >>= λ x. party_before n x.1 >>= λ y. cell n y.1 >>= λ c. Some (line.Later x.0 y.0 c)

  unfoldable pub earlier : Naming → List ℕ → Option (Line A)
  earlier n text = party_before n text >>= λ x. party_before n x.1 >>= λ y. party_before n y.1 >>= λ z. cell n z.1 >>= λ c. Some (line.Earlier x.0 y.0 z.0 c)

  unfoldable pub common : Naming → List ℕ → Option (Line A)
  common n text = party_before n text >>= λ x. party_before n x.1 >>= λ y. cell n y.1 >>= λ c. Some (line.Common x.0 y.0 c)

  unfoldable pub needless : Naming → List ℕ → Option (Line A)
  needless n text = party_before n text >>= λ x. count_before x.1 >>= λ w. cell n w.1 >>= λ c. Some (line.Needless x.0 c w.0)

  unfoldable pub found : Naming → List ℕ → Option (Line A)
  found n text =
      party_before n text >>= λ x. column_before n x.1 >>= λ t. kind_in n t.0 0 >>= λ kind. kind_in n t.0 t.1 >>= λ column. finding kind column t.2 >>= λ f.
      Some (line.Found x.0 (record { spot = record { table = t.0; key = f.0 }; column = t.1 }) f.1)

  unfoldable pub before : Naming → List ℕ → Option (Line A)
  before n text = party_before n text >>= λ x. party n x.1 >>= λ y. Some (line.Suppose (Before x.0 y))

  unfoldable pub present : Naming → List ℕ → Option (Line A)
  present n text = party n text >>= λ x. Some (line.Suppose (Present x))

  unfoldable pub absent : Naming → List ℕ → Option (Line A)
  absent n text = party n text >>= λ x. Some (line.Suppose (Absent x))

  abbrev pub supposed_as : Naming → List ℕ → List ℕ → Option (Line A)
  supposed_as n word text =
      if bytes_eq word (codes "before") then before n text
      else if bytes_eq word (codes "present") then present n text
      else if bytes_eq word (codes "absent") then absent n text
      else None

  unfoldable pub supposed : Naming → List ℕ → Option (Line A)
  supposed n text = word_before text >>= λ p. supposed_as n p.0 p.1

  unfoldable pub cycle : Naming → List ℕ → Option (Line A)
  cycle n text = party_before n text >>= λ x. party n x.1 >>= λ y. Some (line.Cycle x.0 y)

  unfoldable pub sourceless : Naming → List ℕ → Option (Line A)
  sourceless n text = party_before n text >>= λ x. cell n x.1 >>= λ c. Some (line.Sourceless x.0 c)

  unfoldable pub wayless : Naming → List ℕ → Option (Line A)
  wayless n text = party_before n text >>= λ x. spot n x.1 >>= λ s. Some (line.Wayless x.0 s)

  unfoldable pub overfull : Naming → List ℕ → Option (Line A)
  overfull n text = party_before n text >>= λ x. count_in x.1 >>= λ j. Some (line.Overfull x.0 j)

  unfoldable pub lacking : Naming → List ℕ → Option (Line A)
  lacking n text = party_before n text >>= λ x. count_in x.1 >>= λ j. Some (line.Lacking x.0 j)

  unfoldable pub too_many : Naming → List ℕ → Option (Line A)
  too_many n text = party_before n text >>= λ x. count_before x.1 >>= λ j. count_before j.1 >>= λ w. spot n w.1 >>= λ s. Some (line.TooMany x.0 j.0 s w.0)

  unfoldable pub too_few : Naming → List ℕ → Option (Line A)
  too_few n text = party_before n text >>= λ x. count_before x.1 >>= λ j. count_before j.1 >>= λ w. spot n w.1 >>= λ s. Some (line.TooFew x.0 j.0 s w.0)

  -- a line about the number of rows that a statement chose, behind its word
  abbrev pub numbered : Naming → List ℕ → List ℕ → Option (Line A)
  numbered n word text =
      if bytes_eq word (codes "overfull") then overfull n text
      else if bytes_eq word (codes "lacking") then lacking n text
      else if bytes_eq word (codes "too-many") then too_many n text
      else if bytes_eq word (codes "too-few") then too_few n text
      else None

  -- a line that supposes something, or is a contradiction, behind its word
  abbrev pub step : Naming → List ℕ → List ℕ → Option (Line A)
  step n word text =
      if bytes_eq word (codes "suppose") then supposed n text
      else if bytes_eq word (codes "cycle") then cycle n text
      else if bytes_eq word (codes "sourceless") then sourceless n text
      else if bytes_eq word (codes "wayless") then wayless n text
      else numbered n word text

  -- a line behind its word
  abbrev pub worded : Naming → List ℕ → List ℕ → Option (Line A)
  worded n word text =
      if bytes_eq word (codes "joined") then joined n text
      else if bytes_eq word (codes "source") then source n text
      else if bytes_eq word (codes "later") then later n text
      else if bytes_eq word (codes "earlier") then earlier n text
      else if bytes_eq word (codes "common") then common n text
      else if bytes_eq word (codes "needless") then needless n text
      else if bytes_eq word (codes "found") then found n text
      else step n word text

  unfoldable pub line_in_words : Naming → List ℕ → Option (Line A)
  line_in_words n text = word_before text >>= λ p. worded n p.0 p.1

  -- a line, which is UTF-8
  unfoldable pub line_of : Naming → List ℕ → Option (Line A)
  line_of n text = if is_utf8 text then line_in_words n text else None

  -- ---- texts

  -- a line in front of those behind it, or the number of the first that is none
  abbrev pub onto : ℕ → Option (Line A) → Result (List (Line A)) ℕ → Result (List (Line A)) ℕ
  onto k None rest = Err k
  onto k (Some l) (Err j) = Err j
  onto k (Some l) (Ok ls) = Ok (l ∷ ls)

  -- the lines from this number on, each ended by a newline: behind the last newline nothing may stand
  unfoldable pub lines_from : Naming → ℕ → List (List ℕ) → Result (List (Line A)) ℕ
  lines_from n k [] = Err k
  lines_from n k (text ∷ []) = if length text == 0 then Ok [] else Err k
  lines_from n k (text ∷ next ∷ more) = onto k (line_of n text) (lines_from n (k + 1) (next ∷ more))

  -- the lines behind the first
  abbrev pub lines_in : Naming → List ℕ → Result (List (Line A)) ℕ
  lines_in n text = lines_from n 2 (slice_split (λ b. b == 10) text)

  -- the first line says the format and its version
  abbrev pub behind_first : Naming → Option (List ℕ × List ℕ) → Result (List (Line A)) ℕ
  behind_first n None = Err 1
  behind_first n (Some p) = if bytes_eq p.0 (codes "-- certificate 1") then lines_in n p.1 else Err 1

  -- the lines of a certificate's text, or the number of the first that is none
  abbrev pub lines_of : Naming → List ℕ → Result (List (Line A)) ℕ
  lines_of n text = behind_first n (cut 10 text)
