-- What a line of COPY text reads as. The format is that of PostgreSQL's manual, "COPY", "Text Format"; stricter than there, a field holds no newline and no carriage return, not even after a backslash.
use Rattle.std.specs.Prelude.{ℕ, zero, suc, ◌+◌, ◌*◌, ◌==◌, nat_lt, Bool, false, not, ◌&&◌, ◌||◌, if◌then◌else◌, List, [], ◌∷◌, length, slice_get, Option, Some, None, is_some, Result, Ok, Err}
use Rattle.std.specs.Char.{is_digit, digit_value}
use Rattle.std.specs.List.{list_all, list_any}
use Rattle.std.specs.Option.{option_map, option_and_then}
use Rattle.value.specs.declared.kind.Kind.{Kind}
use Rattle.value.specs.declared.refusal.Code.{Code}
use Rattle.value.specs.declared.refusal.Code.TheVariants.{BadCopyFileFormat}
use Rattle.value.specs.declared.value.Value.{Value}
use Rattle.value.specs.declared.value.Value.TheVariants.{Null}
use Rattle.value.specs.Literal.{literal_of}
use Rattle.copytext.specs.Writing.{tab, newline, carriage_return, backslash}

-- ---- the fields of a line

-- a byte in front of the first of some fields
abbrev pub onto_first : ℕ → List (List ℕ) → List (List ℕ)
onto_first b [] = (b ∷ []) ∷ []
onto_first b (field ∷ fields) = (b ∷ field) ∷ fields

-- the line cut at each tab that no backslash escapes; after a backslash that isn't itself escaped, the next byte is
abbrev pub cut_after : Bool → List ℕ → List (List ℕ)
cut_after is_escaped [] = [] ∷ []
cut_after is_escaped (b ∷ line) =
    if not is_escaped && (b == tab) then [] ∷ cut_after false line
    else onto_first b (cut_after (not is_escaped && (b == backslash)) line)

-- the raw bytes of the fields: the line between its tabs
abbrev pub cut : List ℕ → List (List ℕ)
cut line = cut_after false line

-- the fields after a tab, where there is one
abbrev pub cut_more : Option (List ℕ) → List (List ℕ)
cut_more None = []
cut_more (Some line) = cut line

-- ---- what follows a backslash: the byte that it makes, and how many bytes it takes

-- the digit at a place, where there is one
abbrev pub digit_at : ℕ → List ℕ → ℕ → Option ℕ
digit_at radix text place = option_and_then (λ c. if is_digit c radix then Some (digit_value c) else None) (slice_get text place)

-- one to three octal digits, as many as there are: a byte's number is below 256
abbrev pub octal_escape : ℕ → Option ℕ → Option ℕ → Option (ℕ × ℕ)
octal_escape a (Some b) (Some c) = if nat_lt (64 * a + 8 * b + c) 256 then Some (64 * a + 8 * b + c, 3) else None
octal_escape a (Some b) None = Some (8 * a + b, 2)
octal_escape a None other = Some (a, 1)

-- after an x one or two hexadecimal digits, as many as there are; with none the x itself
abbrev pub hexadecimal_escape : Option ℕ → Option ℕ → ℕ × ℕ
hexadecimal_escape (Some a) (Some b) = (16 * a + b, 3)
hexadecimal_escape (Some a) None = (a, 2)
hexadecimal_escape None other = (120, 1)

-- the byte that a letter stands for: 8 to 13 for b, t, n, v, f, r; any other byte stands for itself
abbrev pub byte_of : ℕ → ℕ
byte_of c =
    if c == 98 then 8
    else if c == 116 then 9
    else if c == 110 then 10
    else if c == 118 then 11
    else if c == 102 then 12
    else if c == 114 then 13
    else c

-- the byte that the bytes after a backslash make, and how many of them it takes; none for a backslash at the end, or where octal digits make no byte
abbrev pub escape : List ℕ → Option (ℕ × ℕ)
escape [] = None
escape (c ∷ text) =
    if is_digit c 8 then octal_escape (digit_value c) (digit_at 8 text 0) (digit_at 8 text 1)
    else if c == 120 then Some (hexadecimal_escape (digit_at 16 text 0) (digit_at 16 text 1))
    else Some (byte_of c, 1)

-- ---- the content of a field

-- the content after the first bytes, which an escape has taken
abbrev pub content_after : List ℕ → ℕ → Option (List ℕ)
content_after [] taken = Some []
content_after (b ∷ raw) (suc taken) = content_after raw taken
content_after (b ∷ raw) zero =
    if b == backslash then option_and_then (λ e. option_map (λ bytes. e.0 ∷ bytes) (content_after raw e.1)) (escape raw)
    else option_map (λ bytes. b ∷ bytes) (content_after raw 0)

-- the bytes that a field's raw bytes stand for, where its escapes are right
abbrev pub content : List ℕ → Option (List ℕ)
content raw = content_after raw 0

-- a newline and a carriage return stand in no line, not even after a backslash
abbrev pub is_break : ℕ → Bool
is_break b = (b == newline) || (b == carriage_return)

-- raw bytes that a field may have
abbrev pub is_field : List ℕ → Bool
is_field raw = not (list_any is_break raw) && is_some (content raw)

-- the raw bytes of a null
abbrev pub is_null_mark : List ℕ → Bool
is_null_mark (a ∷ b ∷ []) = (a == backslash) && (b == 78)
is_null_mark raw = false

module _ {A : Type 0} where
  -- the literal of a field's content, if it has one
  abbrev pub content_value : Kind → Option (List ℕ) → Result (Value A) Code
  content_value kind None = Err BadCopyFileFormat
  content_value kind (Some bytes) = literal_of kind bytes

  -- the value of a field's raw bytes
  abbrev pub field_value : Kind → List ℕ → Result (Value A) Code
  field_value kind raw = if is_null_mark raw then Ok Null else content_value kind (content raw)

  -- a value in front of others, or the first fault
  abbrev pub onto_values : Result (Value A) Code → Result (List (Value A)) Code → Result (List (Value A)) Code
  onto_values (Ok value) (Ok values) = Ok (value ∷ values)
  onto_values (Ok value) (Err code) = Err code
  onto_values (Err code) rest = Err code

  -- the values of fields, or the first fault from the left
  abbrev pub field_values : List Kind → List (List ℕ) → Result (List (Value A)) Code
  field_values (kind ∷ kinds) (raw ∷ fields) = onto_values (field_value kind raw) (field_values kinds fields)
  field_values kinds fields = Ok []

  -- the values of a line: first its form, then the values
  abbrev pub line_values : List Kind → List ℕ → Result (List (Value A)) Code
  line_values kinds line =
      if list_all is_field (cut line) && (length (cut line) == length kinds) then field_values kinds (cut line)
      else Err BadCopyFileFormat
