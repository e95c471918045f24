-- The lines of a reply, and what its first line says.
use Rattle.std.proofs.Common.{◌≡◌, ℕ, zero, suc, ◌<◌, ◌≤◌, ◌^◌, Bool, true, false, cond, eqb, ltb, leb, ◌&&◌, List, [], ◌∷◌, ◌++◌, length, map, Option, Some, None, refl, sym, ap, ◌∙◌, append_assoc, arith}
use Rattle.std.specs.Prelude.{codes, slice_index}
use Rattle.std.specs.Char.{is_ascii_digit}
use Rattle.std.specs.Fmt.{decimal}
use Rattle.std.specs.List.{flat_map, list_all}
use Rattle.std.specs.Str.{bytes_eq}
use Rattle.std.specs.Str.Parse.{digits_value}
use Rattle.std.proofs.lemmas.Bool.{and_from, and_parts, le-leb, lt-ltb}
use Rattle.std.proofs.lemmas.Bool.Decides.{nat_tests}
use Rattle.std.proofs.lemmas.Grind.{common_steps}
use Rattle.std.proofs.lemmas.Fmt.{decimal_digit, decimal_nonempty, digits_decimal, digits_value-decimal, first_decimal}
use Rattle.value.specs.declared.refusal.Cause.{Cause}
use Rattle.value.specs.declared.refusal.Code.{Code}
use Rattle.value.specs.declared.refusal.Code.TheVariants as code
use Rattle.value.specs.declared.refusal.Place.{Place}
use Rattle.value.specs.declared.refusal.Place.TheVariants as place
use Rattle.value.specs.declared.refusal.Refusal.{Refusal}
use Rattle.value.specs.declared.value.Value.{Value}
use Rattle.value.specs.Codes.{cause_text, place_text, refusal_text, sqlstate}
use Rattle.value.proofs.Basics.{eqb_comm, lt-eqb}
use Rattle.value.proofs.LiteralLemmas.{numerals}
use Rattle.statement.specs.declared.reply.Reply.{Reply}
use Rattle.statement.specs.declared.reply.Reply.TheVariants as reply
use Rattle.copytext.specs.Writing.{line_text}
use Rattle.script.specs.Commands.{◌>>=◌, cut, is_digits, number_of, up_to}
use Rattle.script.specs.Printing.{reply_text, row_line, rows_text, tag}
use Rattle.transcript.specs.Saying.{in_a_word, in_words, is_of_checkpoint, printed_number, said, session_and_text, with_number}
use Rattle.transcript.specs.Sessions.{session_in}
use Rattle.recording.specs.Runs.{IsSmall}
use Rattle.recording.proofs.Names.{Said, pick}
use Rattle.recording.proofs.TextLemmas.{AreDigits, IsPlain, Lacks, cut_at, decimal_plain, digits_lack_space, plain-append}
use Rattle.recording.proofs.LinesLemmas.{ended_lines}

-- ---- numbers

pub decimal_digits : (n : ℕ) → n < 2 ^ 64 → AreDigits (decimal n)
decimal_digits n small = digits_decimal numerals n small

decimal_is_digits : (n : ℕ) → n < 2 ^ 64 → is_digits (decimal n) ≡ true
decimal_is_digits n small = and_from (ltb 0 (length (decimal n))) (list_all is_ascii_digit (decimal n)) (lt-ltb 0 (length (decimal n)) (decimal_nonempty n small)) (decimal_digits n small)

number_again : (n : ℕ) → n < 2 ^ 64 → number_of (decimal n) ≡ Some n
number_again n small =
    ap (λ b. cond (b && ltb (digits_value 10 (decimal n)) (2 ^ 64)) (Some (digits_value 10 (decimal n))) None) (decimal_is_digits n small)
    ∙ ap (λ k. cond (ltb k (2 ^ 64)) (Some k) None) (digits_value-decimal numerals n small)
    ∙ ap (λ b. cond b (Some n) None) (lt-ltb n (2 ^ 64) small)

-- no zero stands first
no_zero_first : (n : ℕ) → 0 < n → n < 2 ^ 64 → eqb (slice_index (decimal n) 0) 48 ≡ false
no_zero_first n some small = eqb_comm (slice_index (decimal n) 0) 48 ∙ lt-eqb 48 (slice_index (decimal n) 0) (first_decimal n some small)

and_false : (b c : Bool) → c ≡ false → (b && c) ≡ false
and_false true c h = h
and_false false c h = refl

pub printed_again : (n : ℕ) → n < 2 ^ 64 → printed_number (decimal n) ≡ Some n
printed_again zero small = ap printed_number (decimal_digit 0 (omega arith))
printed_again (suc n) small =
    ap (λ b. cond b None (number_of (decimal (suc n)))) (and_false (ltb 1 (length (decimal (suc n)))) (eqb (slice_index (decimal (suc n)) 0) 48) (no_zero_first (suc n) (omega arith) small))
    ∙ number_again (suc n) small

-- a session's number
pub record IsSession (s : ℕ) : Type 0 where
  pub low : 0 < s
  pub high : s ≤ 64

pub session_again : (s : ℕ) → IsSession s → session_in (decimal s) ≡ Some s
session_again s h =
    let high : s ≤ 64 = h.high in
    let small : s < 2 ^ 64 = omega arith in
    ap (λ b. cond b None (up_to 4294967295 (number_of (decimal s)))) (no_zero_first s h.low small)
    ∙ ap (up_to 4294967295) (number_again s small)
    ∙ ap (λ b. cond (b && leb s 4294967295) (Some s) None) (lt-ltb 0 s h.low)
    ∙ ap (λ b. cond b (Some s) None) (le-leb s 4294967295 (omega (arith, high)))

pub session_digits : (s : ℕ) → IsSession s → AreDigits (decimal s)
session_digits s h = let high : s ≤ 64 = h.high in let small : s < 2 ^ 64 = omega arith in decimal_digits s small

pub session_text : (s : ℕ) (text : List ℕ) → IsSession s → session_and_text (decimal s ++ 32 ∷ text) ≡ Some (s, text)
unfolding session_and_text
session_text s text h =
    ap (λ (o : Option (List ℕ × List ℕ)). o >>= λ p. session_in p.0 >>= λ k. Some (k, p.1)) (cut_at 32 (decimal s) text (digits_lack_space (decimal s) (session_digits s h)))
    ∙ ap (λ (o : Option ℕ). o >>= λ k. Some (k, text)) (session_again s h)

-- a session's reply isn't a checkpoint's
digit_not : (d c : ℕ) → is_ascii_digit d ≡ true → 57 < c → eqb d c ≡ false
digit_not d c h l = let high : d < c = below d c h l in lt-eqb d c high
  where
    below : (d c : ℕ) → is_ascii_digit d ≡ true → 57 < c → d < c
    below d c h l = grind (arith, nat_tests, common_steps)

starts_apart : (ds text : List ℕ) → AreDigits ds → 0 < length ds → is_of_checkpoint (ds ++ text) ≡ false
starts_apart [] text h some = absurd (omega (arith, some))
starts_apart (d ∷ ds) text h some =
    let p = and_parts (is_ascii_digit d) (list_all is_ascii_digit ds) h in
    rw (digit_not d 67 p.0 (omega arith), digit_not d 69 p.0 (omega arith)) refl

pub not_of_checkpoint : (s : ℕ) (text : List ℕ) → IsSession s → is_of_checkpoint (decimal s ++ text) ≡ false
not_of_checkpoint s text h = let high : s ≤ 64 = h.high in let small : s < 2 ^ 64 = omega arith in starts_apart (decimal s) text (session_digits s h) (decimal_nonempty s small)

-- ---- texts of printable ASCII

code_plain : (c : Code) → IsPlain (sqlstate c)
code_plain code.NumericValueOutOfRange = refl
code_plain code.CharacterNotInRepertoire = refl
code_plain code.InvalidTextRepresentation = refl
code_plain code.BadCopyFileFormat = refl
code_plain code.NotNullViolation = refl
code_plain code.ForeignKeyViolation = refl
code_plain code.UniqueViolation = refl
code_plain code.ActiveSqlTransaction = refl
code_plain code.ReadOnlySqlTransaction = refl
code_plain code.NoActiveSqlTransaction = refl
code_plain code.InFailedSqlTransaction = refl
code_plain code.SerializationFailure = refl
code_plain code.SyntaxError = refl
code_plain code.UndefinedColumn = refl
code_plain code.DatatypeMismatch = refl
code_plain code.UndefinedTable = refl
code_plain code.DuplicateTable = refl
code_plain code.OutOfMemory = refl
code_plain code.ProgramLimitExceeded = refl
code_plain code.ObjectNotInPrerequisiteState = refl

cause_plain : (x : Cause) → IsPlain (cause_text x)
cause_plain x =
    plain-append (codes " cause " ++ decimal x.a.0 ++ codes " " ++ decimal x.b.0 ++ codes " ") (decimal x.c.0)
    (plain-append (codes " cause " ++ decimal x.a.0 ++ codes " " ++ decimal x.b.0) (codes " ")
    (plain-append (codes " cause " ++ decimal x.a.0 ++ codes " ") (decimal x.b.0)
    (plain-append (codes " cause " ++ decimal x.a.0) (codes " ")
    (plain-append (codes " cause ") (decimal x.a.0) refl (decimal_plain x.a.0)) refl) (decimal_plain x.b.0)) refl) (decimal_plain x.c.0)

place_plain : (p : Place) → IsPlain (place_text p)
place_plain place.None = refl
place_plain (place.Byte n) = plain-append (codes " byte ") (decimal n) refl (decimal_plain n)
place_plain (place.Column n) = plain-append (codes " column ") (decimal n) refl (decimal_plain n)
place_plain (place.Table n) = plain-append (codes " table ") (decimal n) refl (decimal_plain n)
place_plain place.Row = refl
place_plain (place.Cause x) = cause_plain x

refusal_plain : (r : Refusal) → IsPlain (refusal_text r)
refusal_plain r = plain-append (sqlstate r.code) (place_text r.place) (code_plain r.code) (place_plain r.place)

-- the reply to a checkpoint that is refused
pub checkpoint_plain : (c : Code) → IsPlain (codes "ERROR " ++ sqlstate c)
checkpoint_plain c = plain-append (codes "ERROR ") (sqlstate c) refl (code_plain c)

module _ {A : Type 0} where
  pub tag_plain : (r : Reply A) → IsPlain (tag r)
  tag_plain reply.Begun = refl
  tag_plain reply.Committed = refl
  tag_plain reply.RolledBack = refl
  tag_plain reply.Pruned = refl
  tag_plain reply.Imported = refl
  tag_plain reply.Inserted = refl
  tag_plain (reply.Updated n) = plain-append (codes "UPDATE ") (decimal n) refl (decimal_plain n)
  tag_plain (reply.Deleted n) = plain-append (codes "DELETE ") (decimal n) refl (decimal_plain n)
  tag_plain (reply.Rows rows) = plain-append (codes "SELECT ") (decimal (length rows)) refl (decimal_plain (length rows))
  tag_plain (reply.Safe n) = plain-append (codes "SAFE ") (decimal n) refl (decimal_plain n)
  tag_plain reply.Wait = refl
  tag_plain (reply.Exported n) = plain-append (codes "EXPORT ") (decimal n) refl (decimal_plain n)
  tag_plain (reply.Refused r) = plain-append (codes "ERROR ") (refusal_text r) refl (refusal_plain r)

-- ---- what the first line says

abbrev pub says_inserted : Said
says_inserted = pick (said (codes "INSERT 0 1")) refl

abbrev pub says_refused : Said
says_refused = pick (in_a_word (codes "ERROR")) refl

-- a word and a number
word_says : (word : List ℕ) (n : ℕ) → Lacks 32 word → bytes_eq (word ++ 32 ∷ decimal n) (codes "INSERT 0 1") ≡ false → bytes_eq word (codes "ERROR") ≡ false → n < 2 ^ 64
    → said (word ++ 32 ∷ decimal n) ≡ with_number word n
word_says word n lacks apart other small =
    ap (λ b. cond b (Some says_inserted) (in_words text (cut 32 text))) apart
    ∙ ap (in_words text) (cut_at 32 word (decimal n) lacks)
    ∙ ap (λ b. cond b (Some says_refused) (printed_number (decimal n) >>= λ k. with_number word k)) other
    ∙ ap (λ (o : Option ℕ). o >>= λ k. with_number word k) (printed_again n small)
  where
    text : List ℕ
    text = word ++ 32 ∷ decimal n

-- an error, whatever follows
pub error_says : (rest : List ℕ) → said (codes "ERROR" ++ 32 ∷ rest) ≡ Some says_refused
error_says rest = ap (in_words (codes "ERROR" ++ 32 ∷ rest)) (cut_at 32 (codes "ERROR") rest refl)

module _ {A : Type 0} where
  -- what a reply says
  abbrev pub said_of : Reply A → Said
  said_of reply.Begun = pick (in_a_word (codes "BEGIN")) refl
  said_of reply.Committed = pick (in_a_word (codes "COMMIT")) refl
  said_of reply.RolledBack = pick (in_a_word (codes "ROLLBACK")) refl
  said_of reply.Pruned = pick (in_a_word (codes "PRUNE")) refl
  said_of reply.Imported = pick (in_a_word (codes "IMPORT")) refl
  said_of reply.Inserted = says_inserted
  said_of (reply.Updated n) = pick (with_number (codes "UPDATE") n) refl
  said_of (reply.Deleted n) = pick (with_number (codes "DELETE") n) refl
  said_of (reply.Rows rows) = pick (with_number (codes "SELECT") (length rows)) refl
  said_of (reply.Safe n) = pick (with_number (codes "SAFE") n) refl
  said_of reply.Wait = pick (in_a_word (codes "WAIT")) refl
  said_of (reply.Exported n) = pick (with_number (codes "EXPORT") n) refl
  said_of (reply.Refused r) = says_refused

  pub tag_says : (r : Reply A) → IsSmall r → said (tag r) ≡ Some (said_of r)
  tag_says reply.Begun h = refl
  tag_says reply.Committed h = refl
  tag_says reply.RolledBack h = refl
  tag_says reply.Pruned h = refl
  tag_says reply.Imported h = refl
  tag_says reply.Inserted h = refl
  tag_says (reply.Updated n) h = word_says (codes "UPDATE") n refl refl refl h
  tag_says (reply.Deleted n) h = word_says (codes "DELETE") n refl refl refl h
  tag_says (reply.Rows rows) h = word_says (codes "SELECT") (length rows) refl refl refl h.0
  tag_says (reply.Safe n) h = word_says (codes "SAFE") n refl refl refl h
  tag_says reply.Wait h = refl
  tag_says (reply.Exported n) h = word_says (codes "EXPORT") n refl refl refl h
  tag_says (reply.Refused r) h = error_says (refusal_text r)

  -- ---- the lines of a reply

  abbrev pub shown_line : ℕ → List (Value A) → List ℕ
  shown_line s row = decimal s ++ 32 ∷ 124 ∷ 32 ∷ line_text row

  abbrev pub rows_of : Reply A → List (List (Value A))
  rows_of (reply.Rows rows) = rows
  rows_of _ = []

  abbrev pub reply_lines : ℕ → Reply A → List (List ℕ)
  reply_lines s r = (decimal s ++ 32 ∷ tag r) ∷ map (shown_line s) (rows_of r)

  rows_ended : (s : ℕ) (rows : List (List (Value A))) → flat_map (row_line s) rows ≡ ended_lines (map (shown_line s) rows)
  rows_ended s [] = refl
  rows_ended s (row ∷ rows) =
      ap (λ (t : List ℕ). (decimal s ++ codes " | " ++ (line_text row ++ 10 ∷ [])) ++ t) (rows_ended s rows)
      ∙ ap (λ (t : List ℕ). t ++ rest) (append_assoc (decimal s) (codes " | ") (line_text row ++ 10 ∷ []))
      ∙ append_assoc (decimal s) (32 ∷ 124 ∷ 32 ∷ (line_text row ++ 10 ∷ [])) rest
      ∙ ap (λ (t : List ℕ). decimal s ++ 32 ∷ 124 ∷ 32 ∷ t) (append_assoc (line_text row) (10 ∷ []) rest)
      ∙ sym (append_assoc (decimal s) (32 ∷ 124 ∷ 32 ∷ line_text row) (10 ∷ rest))
    where
      rest : List ℕ
      rest = ended_lines (map (shown_line s) rows)

  rows_are : (s : ℕ) (r : Reply A) → rows_text s r ≡ flat_map (row_line s) (rows_of r)
  rows_are s (reply.Rows rows) = refl
  rows_are s _ = refl

  pub reply_ended : (s : ℕ) (r : Reply A) → reply_text s r ≡ ended_lines (reply_lines s r)
  reply_ended s r =
      ap (λ (t : List ℕ). decimal s ++ codes " " ++ tag r ++ codes "\n" ++ t) (rows_are s r ∙ rows_ended s (rows_of r))
      ∙ append_assoc (decimal s ++ codes " " ++ tag r) (codes "\n") rest
      ∙ ap (λ (t : List ℕ). t ++ 10 ∷ rest) (append_assoc (decimal s) (codes " ") (tag r))
    where
      rest : List ℕ
      rest = ended_lines (map (shown_line s) (rows_of r))
