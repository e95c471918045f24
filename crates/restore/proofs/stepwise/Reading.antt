-- Reading the lines of a dump, one after another.
use Rattle.std.proofs.Common.{◌≡◌, ℕ, ◌+◌, ◌==◌, Bool, true, false, cond, List, [], ◌∷◌, length, map, slice_get, Option, Some, None, Result, Ok, Err, refl, sym, ap, subst, ◌∙◌, arith}
use Rattle.std.specs.Prelude.{codes}
use Rattle.std.specs.List.{onto_first}
use Rattle.std.specs.Str.{bytes_eq}
use Rattle.std.proofs.lemmas.Bool.{eqb-true}
use Rattle.value.specs.declared.refusal.Code.TheVariants.{BadCopyFileFormat}
use Rattle.value.proofs.Basics.{bytes_eq-self}
use Rattle.schema.specs.Definition.{TableSchema, Catalog}
use Rattle.schema.specs.declared.tables.Tables.{Tables}
use Rattle.schema.specs.Inserting.{empty_tables}
use Rattle.schema.specs.Plain.{rows_of, is_sound, sound_tables}
use Rattle.dumpplan.specs.Lines.{copy_line, end_of_rows, rows_line, last_line}
use Rattle.restore.specs.declared.error.LineError.{LineError}
use Rattle.restore.specs.declared.error.LineError.TheVariants as line
use Rattle.restore.specs.declared.error.RestoreFault.{RestoreFault}
use Rattle.restore.specs.declared.error.ReadError.{ReadError}
use Rattle.restore.specs.declared.error.ReadError.TheVariants as read
use Rattle.restore.specs.declared.lines.Lines.{Lines}
use Rattle.restore.specs.Steps.{◌>>=◌, fault, Fails, Stops, Reads, read_error}
use Rattle.restore.specs.CreateLine.{behind, parted}
use Rattle.restore.specs.Lines.{IsNoLine, IsOtherLine, IsWantedLine, IsEnd}
use Rattle.restore.specs.Reading.{Progress, Start, Created, Before, Within, Behind, Whole, lines_of, version, first, with_table, with_row, ended, whole, after, step, read_lines}
use Rattle.restore.proofs.words.Texts.{split-whole, split-parted}

onto_some : (b : ℕ) (parts : List (List ℕ)) → onto_first b parts ≡ [] → ⊥
onto_some b [] e = absurd cc
onto_some b (part ∷ parts) e = absurd cc

pub split_some : (text : List ℕ) → lines_of text ≡ [] → ⊥
split_some [] e = absurd cc
split_some (b ∷ text) e = go (b == 10) e
  where
    go : (is : Bool) → cond is ([] ∷ lines_of text) (onto_first b (lines_of text)) ≡ [] → ⊥
    go true h = absurd cc
    go false h = onto_some b (lines_of text) h

-- what stops one reading stops an equal one
pub stops_at : {Y : Type 0} (e : ReadError) (now before : Result Y RestoreFault) → Stops e now → now ≡ before → Stops e before
stops_at read.Memory now before h same = tt
stops_at (read.Faulty f) now before h same = sym same ∙ h

-- what is read at one place is read at an equal one
pub reads_at : {X Y : Type 0} (left : X → Result Y RestoreFault) (r : Result X ReadError) (now before : Result Y RestoreFault) → Reads left r now → now ≡ before → Reads left r before
reads_at left (Ok x) now before h same = sym same ∙ h
reads_at left (Err e) now before h same = stops_at e now before h same

abbrev done : {T E : Type 0} → T → Result T E
done x = Ok x

pub done_same : {T E : Type 0} (x y : T) → done {T = T} {E = E} x ≡ done y → x ≡ y
done_same x y e = cc

module _ {A : Type 0} where
  -- the last line hasn't come
  abbrev pub is_part : Progress A → Bool
  is_part (Whole c X) = false
  is_part _ = true

  pub more_lines : (n : ℕ) (p : Progress A) (line : List ℕ) (lines : List (List ℕ)) → (lines ≡ [] → ⊥) → read_lines n p (line ∷ lines) ≡ after n (step p line) (λ more. read_lines (n + 1) more lines)
  unfolding read_lines
  more_lines n p line [] some = absurd (some refl)
  more_lines n p [] (next ∷ lines) some = refl
  more_lines n p (b ∷ line) (next ∷ lines) some = refl

  -- a line that is a step, with others after it
  pub stepped_on : (n : ℕ) (p q : Progress A) (line : List ℕ) (lines : List (List ℕ)) → (lines ≡ [] → ⊥) → step p line ≡ Ok q → read_lines n p (line ∷ lines) ≡ read_lines (n + 1) q lines
  stepped_on n p q line lines some h = more_lines n p line lines some ∙ rw h refl

  -- a line that is none, with others after it
  pub refused_on : (e : LineError) (n : ℕ) (p : Progress A) (line : List ℕ) (lines : List (List ℕ)) → (lines ≡ [] → ⊥) → Fails e (step p line) → Stops (read_error n e) (read_lines n p (line ∷ lines))
  refused_on line.Memory n p text lines some h = tt
  refused_on (line.Refused code) n p text lines some h = more_lines n p text lines some ∙ rw h refl

  -- the next line is a step, and the others follow
  pub next-line : (n : ℕ) (p : Progress A) (text line rest : List ℕ) → parted 10 text ≡ Some (line, rest)
      → read_lines n p (lines_of text) ≡ after n (step p line) (λ more. read_lines (n + 1) more (lines_of rest))
  next-line n p text line rest h = ap (read_lines n p) (split-parted 10 text line rest h) ∙ more_lines n p line (lines_of rest) (split_some rest)

  unended : (n : ℕ) (p : Progress A) (text : List ℕ) → whole n p ≡ Err (fault n BadCopyFileFormat) → read_lines n p (text ∷ []) ≡ Err (fault n BadCopyFileFormat)
  unfolding read_lines
  unended n p [] h = h
  unended n p (b ∷ text) h = refl

  missing : (n : ℕ) (p : Progress A) → is_part p ≡ true → whole n p ≡ Err (fault n BadCopyFileFormat)
  missing n Start h = refl
  missing n (Created counted c) h = refl
  missing n (Before counted c X t) h = refl
  missing n (Within counted c X t) h = refl
  missing n (Behind counted c X t) h = refl
  missing n (Whole c X) h = absurd cc

  -- there is no next line, but one must come
  pub no-line : (n : ℕ) (p : Progress A) (text : List ℕ) → parted 10 text ≡ None → is_part p ≡ true → read_lines n p (lines_of text) ≡ Err (fault n BadCopyFileFormat)
  no-line n p text h part = ap (read_lines n p) (split-whole 10 text h) ∙ unended n p text (missing n p part)

  pub no_next : (e : ReadError) (n : ℕ) (p : Progress A) (text : List ℕ) → is_part p ≡ true → IsNoLine n text e → Stops e (read_lines n p (lines_of text))
  no_next read.Memory n p text part h = tt
  no_next (read.Faulty f) n p text part h = rw h.1 (no-line n p text h.0 part)

  -- a line that is a step
  pub stepped : (rest : Lines) (n : ℕ) (p q : Progress A) (text line : List ℕ) → parted 10 text ≡ Some (line, rest.text.now) → rest.number ≡ n + 1 → step p line ≡ Ok q
      → read_lines n p (lines_of text) ≡ read_lines rest.number q (lines_of rest.text.now)
  stepped rest n p q text line at number h = next-line n p text line rest.text.now at ∙ rw (h, number) refl

  -- a line that is none
  pub refuses : (e : LineError) (n : ℕ) (p : Progress A) (text line rest : List ℕ) → parted 10 text ≡ Some (line, rest) → Fails e (step p line) → Stops (read_error n e) (read_lines n p (lines_of text))
  refuses line.Memory n p text line rest at h = tt
  refuses (line.Refused code) n p text line rest at h = next-line n p text line rest at ∙ rw h refl

  other_line : (e : ReadError) (n : ℕ) (p : Progress A) (text wanted : List ℕ) → is_part p ≡ true → ((line : List ℕ) → bytes_eq line wanted ≡ false → step p line ≡ Err BadCopyFileFormat)
      → IsOtherLine wanted n text e → Stops e (read_lines n p (lines_of text))
  other_line read.Memory n p text wanted part others h = tt
  other_line (read.Faulty f) n p text wanted part others h = rw h.1 (go (parted 10 text) refl)
    where
      go : (found : Option (List ℕ × List ℕ)) → parted 10 text ≡ found → read_lines n p (lines_of text) ≡ Err (fault n BadCopyFileFormat)
      go None is = no-line n p text is part
      go (Some x) is = next-line n p text x.0 x.1 is ∙ rw (others x.0 (h.0 x.0 x.1 is)) refl

  -- the one line that may stand there
  pub wanted_line : (r : Result Lines ReadError) (n : ℕ) (p q : Progress A) (text wanted : List ℕ) → is_part p ≡ true → step p wanted ≡ Ok q
      → ((line : List ℕ) → bytes_eq line wanted ≡ false → step p line ≡ Err BadCopyFileFormat) → IsWantedLine wanted n text r
      → Reads (λ l. read_lines l.number q (lines_of l.text.now)) r (read_lines n p (lines_of text))
  wanted_line (Ok rest) n p q text wanted part is others h = stepped rest n p q text wanted h.0 h.1 is
  wanted_line (Err e) n p q text wanted part is others h = other_line e n p text wanted part others h

  -- ---- the steps

  copy_is : (counted : Bool) (c : Catalog) (X : Tables A) (t : ℕ) (d : TableSchema) → slice_get c t ≡ Some d → step (Before counted c X t) (copy_line d) ≡ Ok (Within counted c X t)
  unfolding step
  copy_is counted c X t d at = rw (at, bytes_eq-self (copy_line d)) refl

  copy_other : (counted : Bool) (c : Catalog) (X : Tables A) (t : ℕ) (d : TableSchema) (line : List ℕ) → slice_get c t ≡ Some d → bytes_eq line (copy_line d) ≡ false → step (Before counted c X t) line ≡ Err BadCopyFileFormat
  unfolding step
  copy_other counted c X t d line at other = rw (at, other) refl

  pub copies : (counted : Bool) (c : Catalog) (X : Tables A) (t : ℕ) (d : TableSchema) (r : Result Lines ReadError) (n : ℕ) (text wanted : List ℕ) → slice_get c t ≡ Some d → wanted ≡ copy_line d → IsWantedLine wanted n text r
      → Reads (λ l. read_lines l.number (Within counted c X t) (lines_of l.text.now)) r (read_lines n (Before counted c X t) (lines_of text))
  copies counted c X t d r n text wanted at same h =
      wanted_line r n (Before counted c X t) (Within counted c X t) text (copy_line d) refl (copy_is counted c X t d at) (λ line other. copy_other counted c X t d line at other)
      (subst (λ (w : List ℕ). IsWantedLine w n text r) same h)

  end_is : (counted : Bool) (c : Catalog) (X : Tables A) (t : ℕ) → slice_get c t ≡ None → step (Before counted c X t) last_line ≡ Ok (Whole c X)
  unfolding step
  end_is counted c X t at = rw at refl

  end_other : (counted : Bool) (c : Catalog) (X : Tables A) (t : ℕ) (line : List ℕ) → slice_get c t ≡ None → bytes_eq line last_line ≡ false → step (Before counted c X t) line ≡ Err BadCopyFileFormat
  unfolding step
  end_other counted c X t line at other = rw (at, other) refl

  pub ends : (counted : Bool) (c : Catalog) (X : Tables A) (t : ℕ) (r : Result Lines ReadError) (n : ℕ) (text : List ℕ) → slice_get c t ≡ None → IsWantedLine last_line n text r
      → Reads (λ l. read_lines l.number (Whole c X) (lines_of l.text.now)) r (read_lines n (Before counted c X t) (lines_of text))
  ends counted c X t r n text at h =
      wanted_line r n (Before counted c X t) (Whole c X) text last_line refl (end_is counted c X t at) (λ line other. end_other counted c X t line at other) h

  nothing_more : (n : ℕ) (c : Catalog) (X : Tables A) → read_lines n (Whole c X) ([] ∷ []) ≡ Ok (c, X)
  unfolding read_lines
  nothing_more n c X = refl

  -- nothing follows the last line
  pub is_whole : (n : ℕ) (c : Catalog) (X : Tables A) (text : List ℕ) → (length text == 0) ≡ true → read_lines n (Whole c X) (lines_of text) ≡ Ok (c, X)
  is_whole n c X [] h = nothing_more n c X
  is_whole n c X (b ∷ text) h = absurd (let none : length (b ∷ text) ≡ 0 = eqb-true (length (b ∷ text)) 0 h in omega arith)

  more_behind : (n : ℕ) (c : Catalog) (X : Tables A) (text : List ℕ) → (length text == 0) ≡ false → read_lines n (Whole c X) (text ∷ []) ≡ Err (fault n BadCopyFileFormat)
  unfolding read_lines
  more_behind n c X [] h = absurd cc
  more_behind n c X (b ∷ text) h = refl

  pub is_behind : (n : ℕ) (c : Catalog) (X : Tables A) (text : List ℕ) → (length text == 0) ≡ false → read_lines n (Whole c X) (lines_of text) ≡ Err (fault n BadCopyFileFormat)
  unfolding step
  is_behind n c X text h = go (parted 10 text) refl
    where
      go : (found : Option (List ℕ × List ℕ)) → parted 10 text ≡ found → read_lines n (Whole c X) (lines_of text) ≡ Err (fault n BadCopyFileFormat)
      go None is = ap (read_lines n (Whole c X)) (split-whole 10 text is) ∙ more_behind n c X text h
      go (Some x) is = next-line n (Whole c X) text x.0 x.1 is

  pub at_end : (r : Result (Unit {0}) ReadError) (n : ℕ) (c : Catalog) (X : Tables A) (text : List ℕ) → IsEnd n text r → Reads (λ _. Ok (c, X)) r (read_lines n (Whole c X) (lines_of text))
  at_end (Ok u) n c X text h = is_whole n c X text h
  at_end (Err read.Memory) n c X text h = tt
  at_end (Err (read.Faulty f)) n c X text h = rw h.1 (is_behind n c X text h.0)

  count_is : (c : Catalog) (X : Tables A) (t : ℕ) → step (Behind true c X t) (rows_line (length (rows_of X t))) ≡ Ok (Before true c X (t + 1))
  unfolding step
  count_is c X t = rw (bytes_eq-self (rows_line (length (rows_of X t)))) refl

  count_other : (c : Catalog) (X : Tables A) (t : ℕ) (line : List ℕ) → bytes_eq line (rows_line (length (rows_of X t))) ≡ false → step (Behind true c X t) line ≡ Err BadCopyFileFormat
  unfolding step
  count_other c X t line other = rw other refl

  pub counts : (counted : Bool) (c : Catalog) (X : Tables A) (t : ℕ) (r : Result Lines ReadError) (n : ℕ) (text wanted : List ℕ) → counted ≡ true → wanted ≡ rows_line (length (rows_of X t)) → IsWantedLine wanted n text r
      → Reads (λ l. read_lines l.number (Before counted c X (t + 1)) (lines_of l.text.now)) r (read_lines n (ended counted c X t) (lines_of text))
  counts false c X t r n text wanted is same h = absurd cc
  counts true c X t r n text wanted is same h =
      wanted_line r n (Behind true c X t) (Before true c X (t + 1)) text (rows_line (length (rows_of X t))) refl (count_is c X t) (λ line other. count_other c X t line other)
      (subst (λ (w : List ℕ). IsWantedLine w n text r) same h)

  pub first_is : (line : List ℕ) → step {A = A} Start line ≡ first line
  unfolding step
  first_is line = refl

  pub table_is : (counted : Bool) (c : Catalog) (line text : List ℕ) → behind (codes "CREATE TABLE ") line ≡ Some text → step {A = A} (Created counted c) line ≡ (with_table c text >>= λ d. Ok (Created counted d))
  unfolding step
  table_is counted c line text at = rw at refl

  pub version_read : (line : List ℕ) (counted : Bool) → version line ≡ Ok counted → step {A = A} Start line ≡ Ok (Created counted [])
  version_read line counted h = first_is line ∙ ap (λ r. r >>= λ counts. Ok (Created counts [])) h

  pub table_added : (counted : Bool) (c new : Catalog) (line text : List ℕ) → behind (codes "CREATE TABLE ") line ≡ Some text → with_table c text ≡ Ok new → step {A = A} (Created counted c) line ≡ Ok (Created counted new)
  table_added counted c new line text at h = table_is counted c line text at ∙ ap (λ r. r >>= λ d. Ok (Created counted d)) h

  tables_begin : (counted : Bool) (c : Catalog) (line : List ℕ) → behind (codes "CREATE TABLE ") line ≡ None → step {A = A} (Created counted c) line ≡ step (Before counted c (empty_tables c) 0) line
  unfolding step
  tables_begin counted c line at = rw at refl

  pub begins : (counted : Bool) (c : Catalog) (n : ℕ) (text line rest : List ℕ) → parted 10 text ≡ Some (line, rest) → behind (codes "CREATE TABLE ") line ≡ None
      → read_lines {A = A} n (Created counted c) (lines_of text) ≡ read_lines n (Before counted c (empty_tables c) 0) (lines_of text)
  begins counted c n text line rest at none =
      next-line n (Created counted c) text line rest at
      ∙ ap (λ s. after n s (λ more. read_lines (n + 1) more (lines_of rest))) (tables_begin counted c line none)
      ∙ sym (next-line n (Before counted c (empty_tables c) 0) text line rest at)

  pub rows_end : (counted : Bool) (c : Catalog) (X : Tables A) (t : ℕ) (line : List ℕ) → bytes_eq line end_of_rows ≡ true → step (Within counted c X t) line ≡ Ok (ended counted c X t)
  unfolding step
  rows_end counted c X t line is = rw is refl

  pub row_is : (counted : Bool) (c : Catalog) (X : Tables A) (t : ℕ) (line : List ℕ) → bytes_eq line end_of_rows ≡ false → step (Within counted c X t) line ≡ (with_row c X t line >>= λ Y. Ok (Within counted c Y t))
  unfolding step
  row_is counted c X t line other = rw other refl

-- ---- sound tables

sound_at_first : (A : Type 0) (X : Tables A) (c : Catalog) → sound_tables X c (map (λ d. []) c) ≡ true
sound_at_first A X [] = refl
sound_at_first A X (d ∷ ds) = sound_at_first A X ds

pub empty_is_sound : (A : Type 0) (c : Catalog) → is_sound {A = A} c (empty_tables c) ≡ true
empty_is_sound A c = sound_at_first A (empty_tables c) c

pub past_end : (c : Catalog) → slice_get c (length c) ≡ None
past_end [] = refl
past_end (d ∷ ds) = past_end ds
