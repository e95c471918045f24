-- What is written of a table reads as the table, and no line of it holds a newline.
use Rattle.std.proofs.Common.{◌≡◌, ℕ, nat_le, Bool, true, false, true≢false, Ok, not, eqb, ◌&&◌, ◌||◌, List, [], ◌∷◌, ◌++◌, length, map, Option, Some, None, refl, sym, ap, subst, ◌∙◌, append_assoc}
use Rattle.std.specs.Prelude.{codes}
use Rattle.std.specs.List.{list_any, list_all, slice_split, join_with_byte}
use Rattle.std.specs.Option.{option_map_or}
use Rattle.std.proofs.lemmas.Bool.{and_parts, and_from, eqb-true, not_from_false, or_from, or_parts, not-true}
use Rattle.std.proofs.lemmas.List.Splits.{slice_split-cons_yes, slice_split-cons_no}
use Rattle.value.specs.declared.kind.Kind.{Kind}
use Rattle.value.specs.declared.kind.Kind.TheVariants as kind
use Rattle.value.proofs.Basics.{eqb-self}
use Rattle.schema.specs.Definition.{ColumnDef, TableDef}
use Rattle.schema.specs.Names.{begins_name, continues_name, is_small_word, is_reserved, is_name}
use Rattle.schema.specs.Adding.{is_well_named, defined}
use Rattle.dumpplan.specs.Lines.{kind_word, comma_separated, reference_text, not_null_text, named_text, key_text, column_text, column_texts, create_line}
use Rattle.restore.specs.CreateLine.{parted, name_of, kind_at, named, referenced, key_column, not_null_at, other_column, other_columns, columns, in_parentheses, well_formed, table_of}

-- ---- bytes that a text lacks

abbrev pub Lacks : ℕ → List ℕ → Type 0
Lacks c text = list_any (λ b. eqb b c) text ≡ false

pub lacks-append : (c : ℕ) (a b : List ℕ) → Lacks c a → Lacks c b → Lacks c (a ++ b)
lacks-append c [] b h k = k
lacks-append c (x ∷ a) b h k =
    let p = or_parts (eqb x c) (list_any (λ y. eqb y c) a) h in
    or_from (eqb x c) (list_any (λ y. eqb y c) (a ++ b)) p.0 (lacks-append c a b p.1 k)

-- a text is cut at the first of a byte
pub cut_at : (c : ℕ) (text rest : List ℕ) → Lacks c text → slice_split (λ b. eqb b c) (text ++ c ∷ rest) ≡ text ∷ slice_split (λ b. eqb b c) rest
cut_at c [] rest h = slice_split-cons_yes (λ b. eqb b c) c rest (eqb-self c)
cut_at c (b ∷ text) rest h =
    let p = or_parts (eqb b c) (list_any (λ y. eqb y c) text) h in
    slice_split-cons_no (λ x. eqb x c) b (text ++ c ∷ rest) p.0 ∙ rw (cut_at c text rest p.1) refl

pub uncut : (c : ℕ) (text : List ℕ) → Lacks c text → slice_split (λ b. eqb b c) text ≡ text ∷ []
uncut c [] h = refl
uncut c (b ∷ text) h =
    let p = or_parts (eqb b c) (list_any (λ y. eqb y c) text) h in
    slice_split-cons_no (λ x. eqb x c) b text p.0 ∙ rw (uncut c text p.1) refl

pub parted_at : (c : ℕ) (text rest : List ℕ) → Lacks c text → parted c (text ++ c ∷ rest) ≡ Some (text, rest)
parted_at c [] rest h = rw (eqb-self c) refl
parted_at c (b ∷ text) rest h =
    let p = or_parts (eqb b c) (list_any (λ y. eqb y c) text) h in
    rw (p.0, parted_at c text rest p.1) refl

-- texts that lack a byte are the parts of what is joined by it
abbrev pub all_lack : ℕ → List (List ℕ) → Bool
all_lack c texts = list_all (λ text. not (list_any (λ b. eqb b c) text)) texts

parts_joined : (c : ℕ) (x : List ℕ) (xs : List (List ℕ)) → Lacks c x → all_lack c xs ≡ true → slice_split (λ b. eqb b c) (join_with_byte c (x ∷ xs)) ≡ x ∷ xs
parts_joined c x [] h hs = uncut c x h
parts_joined c x (y ∷ ys) h hs =
    let p = and_parts (not (list_any (λ b. eqb b c) y)) (all_lack c ys) hs in
    cut_at c x (join_with_byte c (y ∷ ys)) h ∙ ap (λ (parts : List (List ℕ)). x ∷ parts) (parts_joined c y ys (not-true (list_any (λ b. eqb b c) y) p.0) p.1)

pub joined_lacks : (c s : ℕ) (x : List ℕ) (xs : List (List ℕ)) → eqb s c ≡ false → Lacks c x → all_lack c xs ≡ true → Lacks c (join_with_byte s (x ∷ xs))
joined_lacks c s x [] apart h hs = h
joined_lacks c s x (y ∷ ys) apart h hs =
    let p = and_parts (not (list_any (λ b. eqb b c) y)) (all_lack c ys) hs in
    lacks-append c x (s ∷ join_with_byte s (y ∷ ys)) h
    (or_from (eqb s c) (list_any (λ b. eqb b c) (join_with_byte s (y ∷ ys))) apart (joined_lacks c s y ys apart (not-true (list_any (λ b. eqb b c) y) p.0) p.1))

-- ---- names

pub small_letters : (w : List ℕ) → is_name w ≡ true → list_all continues_name w ≡ true
small_letters w h =
    let a = and_parts (is_small_word w && nat_le (length w) 63) (not (is_reserved w)) h in
    letters w (and_parts (is_small_word w) (nat_le (length w) 63) a.0).0
  where
    letters : (v : List ℕ) → is_small_word v ≡ true → list_all continues_name v ≡ true
    letters [] e = refl
    letters (b ∷ v) e =
        let p = and_parts (begins_name b) (list_all continues_name v) e in
        and_from (continues_name b) (list_all continues_name v) (rw p.0 refl) p.1

word_lacks : (c : ℕ) → continues_name c ≡ false → (w : List ℕ) → list_all continues_name w ≡ true → Lacks c w
word_lacks c apart [] h = refl
word_lacks c apart (b ∷ w) h =
    let p = and_parts (continues_name b) (list_all continues_name w) h in
    or_from (eqb b c) (list_any (λ x. eqb x c) w) (other (eqb b c) refl p.0) (word_lacks c apart w p.1)
  where
    other : (t : Bool) → eqb b c ≡ t → continues_name b ≡ true → t ≡ false
    other true e k = absurd (true≢false (sym k ∙ ap continues_name (eqb-true b c e) ∙ apart))
    other false e k = refl

pub name_lacks : (c : ℕ) → continues_name c ≡ false → (w : List ℕ) → is_name w ≡ true → Lacks c w
name_lacks c apart w h = word_lacks c apart w (small_letters w h)

-- ---- bytes that stand in no column's text

pub record IsApart (c : ℕ) : Type 0 where
  pub name : continues_name c ≡ false
  pub space : eqb 32 c ≡ false
  pub key : Lacks c (codes " PRIMARY KEY")
  pub not_null : Lacks c (codes " NOT NULL")
  pub references : Lacks c (codes " REFERENCES ")
  pub kinds : (k : Kind) → Lacks c (kind_word k)

kinds_lack10 : (k : Kind) → Lacks 10 (kind_word k)
kinds_lack10 kind.Bigint = refl
kinds_lack10 kind.Text = refl
kinds_lack10 kind.Bytea = refl

kinds_lack41 : (k : Kind) → Lacks 41 (kind_word k)
kinds_lack41 kind.Bigint = refl
kinds_lack41 kind.Text = refl
kinds_lack41 kind.Bytea = refl

kinds_lack44 : (k : Kind) → Lacks 44 (kind_word k)
kinds_lack44 kind.Bigint = refl
kinds_lack44 kind.Text = refl
kinds_lack44 kind.Bytea = refl

pub newline_apart : IsApart 10
newline_apart = record { name = refl; space = refl; key = refl; not_null = refl; references = refl; kinds = kinds_lack10 }

pub close_apart : IsApart 41
close_apart = record { name = refl; space = refl; key = refl; not_null = refl; references = refl; kinds = kinds_lack41 }

pub comma_apart : IsApart 44
comma_apart = record { name = refl; space = refl; key = refl; not_null = refl; references = refl; kinds = kinds_lack44 }

reference_lacks : (c : ℕ) → IsApart c → (o : Option (List ℕ)) → option_map_or is_name o true ≡ true → Lacks c (reference_text o)
reference_lacks c apart None h = refl
reference_lacks c apart (Some name) h = lacks-append c (codes " REFERENCES ") name apart.references (name_lacks c apart.name name h)

not_null_lacks : (c : ℕ) → IsApart c → (b : Bool) → Lacks c (not_null_text b)
not_null_lacks c apart true = apart.not_null
not_null_lacks c apart false = refl

-- a column's name, a space, its kind and its marks
named_spelled : (d : ColumnDef) (marks : List ℕ) → named_text d marks ≡ d.name ++ 32 ∷ (kind_word d.kind ++ marks)
named_spelled d marks = append_assoc d.name (32 ∷ kind_word d.kind) marks

named_lacks : (c : ℕ) → IsApart c → (d : ColumnDef) (marks : List ℕ) → is_name d.name ≡ true → Lacks c marks → Lacks c (named_text d marks)
named_lacks c apart d marks h k =
    let rest : Lacks c (32 ∷ (kind_word d.kind ++ marks)) = or_from (eqb 32 c) (list_any (λ b. eqb b c) (kind_word d.kind ++ marks)) apart.space (lacks-append c (kind_word d.kind) marks (apart.kinds d.kind) k) in
    subst (Lacks c) (sym (named_spelled d marks)) (lacks-append c d.name (32 ∷ (kind_word d.kind ++ marks)) (name_lacks c apart.name d.name h) rest)

pub key_lacks : (c : ℕ) → IsApart c → (d : ColumnDef) → is_well_named d ≡ true → Lacks c (key_text d)
key_lacks c apart d h =
    let p = and_parts (is_name d.name) (option_map_or is_name d.references true) h in
    named_lacks c apart d (codes " PRIMARY KEY" ++ reference_text d.references) p.0 (lacks-append c (codes " PRIMARY KEY") (reference_text d.references) apart.key (reference_lacks c apart d.references p.1))

pub column_lacks : (c : ℕ) → IsApart c → (d : ColumnDef) → is_well_named d ≡ true → Lacks c (column_text d)
column_lacks c apart d h =
    let p = and_parts (is_name d.name) (option_map_or is_name d.references true) h in
    named_lacks c apart d (not_null_text d.not_null ++ reference_text d.references) p.0
    (lacks-append c (not_null_text d.not_null) (reference_text d.references) (not_null_lacks c apart d.not_null) (reference_lacks c apart d.references p.1))

others_lack : (c : ℕ) → IsApart c → (ds : List ColumnDef) → list_all is_well_named ds ≡ true → all_lack c (map (λ t. 32 ∷ t) (map column_text ds)) ≡ true
others_lack c apart [] h = refl
others_lack c apart (d ∷ ds) h =
    let p = and_parts (is_well_named d) (list_all is_well_named ds) h in
    and_from (not (eqb 32 c || list_any (λ b. eqb b c) (column_text d))) (all_lack c (map (λ t. 32 ∷ t) (map column_text ds)))
    (not_from_false (eqb 32 c || list_any (λ b. eqb b c) (column_text d)) (or_from (eqb 32 c) (list_any (λ b. eqb b c) (column_text d)) apart.space (column_lacks c apart d p.0)))
    (others_lack c apart ds p.1)

-- ---- columns read as they are written

kind_again : (k : Kind) (marks : List ℕ) → kind_at (kind_word k ++ marks) ≡ Ok (k, marks)
unfolding kind_at
kind_again kind.Bigint marks = refl
kind_again kind.Text marks = refl
kind_again kind.Bytea marks = refl

name_again : (w : List ℕ) → is_name w ≡ true → name_of w ≡ Ok w
name_again w h = rw h refl

read_named : (d : ColumnDef) (marks : List ℕ) → is_name d.name ≡ true → named (d.name ++ 32 ∷ (kind_word d.kind ++ marks)) ≡ Ok (d.name, d.kind, marks)
unfolding named
read_named d marks h =
    rw (parted_at 32 d.name (kind_word d.kind ++ marks) (name_lacks 32 refl d.name h), name_again d.name h, kind_again d.kind marks) refl

named_again : (d : ColumnDef) (marks : List ℕ) → is_name d.name ≡ true → named (named_text d marks) ≡ Ok (d.name, d.kind, marks)
named_again d marks h = ap named (named_spelled d marks) ∙ read_named d marks h

referenced_again : (o : Option (List ℕ)) → option_map_or is_name o true ≡ true → referenced (reference_text o) ≡ Ok o
unfolding referenced
referenced_again None h = refl
referenced_again (Some name) h = rw h refl

not_null_again : (b : Bool) (o : Option (List ℕ)) → not_null_at (not_null_text b ++ reference_text o) ≡ (b, reference_text o)
not_null_again true o = refl
not_null_again false None = refl
not_null_again false (Some name) = refl

key_again : (d : ColumnDef) → is_well_named d ≡ true → d.not_null ≡ false → key_column (key_text d) ≡ Ok d
unfolding key_column
key_again d h unmarked =
    let p = and_parts (is_name d.name) (option_map_or is_name d.references true) h in
    rw (named_again d (codes " PRIMARY KEY" ++ reference_text d.references) p.0, referenced_again d.references p.1)
    (ap (λ (b : Bool). Ok (record { name = d.name; kind = d.kind; not_null = b; references = d.references })) (sym unmarked))

other_again : (d : ColumnDef) → is_well_named d ≡ true → other_column (32 ∷ column_text d) ≡ Ok d
unfolding other_column
other_again d h =
    let p = and_parts (is_name d.name) (option_map_or is_name d.references true) h in
    rw (named_again d (not_null_text d.not_null ++ reference_text d.references) p.0, not_null_again d.not_null d.references, referenced_again d.references p.1) refl

others_again : (ds : List ColumnDef) → list_all is_well_named ds ≡ true → other_columns (map (λ t. 32 ∷ t) (map column_text ds)) ≡ Ok ds
unfolding other_columns
others_again [] h = refl
others_again (d ∷ ds) h =
    let p = and_parts (is_well_named d) (list_all is_well_named ds) h in
    rw (other_again d p.0, others_again ds p.1) refl

-- ---- the CREATE TABLE line

-- the columns of a table that is defined: the key has no mark of its own
abbrev pub is_key_first : List ColumnDef → Bool
is_key_first [] = false
is_key_first (d ∷ ds) = not d.not_null && is_well_named d && list_all is_well_named ds

record AreColumns (d : ColumnDef) (ds : List ColumnDef) : Type 0 where
  unmarked : d.not_null ≡ false
  key : is_well_named d ≡ true
  others : list_all is_well_named ds ≡ true

are_columns : (d : ColumnDef) (ds : List ColumnDef) → is_key_first (d ∷ ds) ≡ true → AreColumns d ds
are_columns d ds h =
    let p = and_parts (not d.not_null && is_well_named d) (list_all is_well_named ds) h in
    let q = and_parts (not d.not_null) (is_well_named d) p.0 in
    record { unmarked = not-true d.not_null q.0; key = q.1; others = p.1 }

read_columns : (e : ColumnDef) (es : List ColumnDef) → AreColumns e es → columns (key_text e ∷ map (λ t. 32 ∷ t) (map column_text es)) ≡ Ok (e ∷ es)
unfolding columns
read_columns e es b = rw (key_again e b.key b.unmarked, others_again es b.others) refl

columns_again : (ds : List ColumnDef) → is_key_first ds ≡ true → columns (slice_split (λ b. eqb b 44) (comma_separated (column_texts ds))) ≡ Ok ds
columns_again [] h = cc
columns_again (d ∷ ds) h =
    let a = are_columns d ds h in
    ap columns (parts_joined 44 (key_text d) (map (λ t. 32 ∷ t) (map column_text ds)) (key_lacks 44 comma_apart d a.key) (others_lack 44 comma_apart ds a.others))
    ∙ read_columns d ds a

columns_lack : (c : ℕ) → IsApart c → eqb 44 c ≡ false → (ds : List ColumnDef) → is_key_first ds ≡ true → Lacks c (comma_separated (column_texts ds))
columns_lack c apart other [] h = refl
columns_lack c apart other (d ∷ ds) h =
    let a = are_columns d ds h in
    joined_lacks c 44 (key_text d) (map (λ t. 32 ∷ t) (map column_text ds)) other (key_lacks c apart d a.key) (others_lack c apart ds a.others)

-- what follows the words CREATE TABLE
abbrev pub behind_words : TableDef → List ℕ
behind_words d = d.name ++ codes " (" ++ comma_separated (column_texts d.columns) ++ codes ");"

words_spelled : (d : TableDef) → behind_words d ≡ d.name ++ 32 ∷ 40 ∷ (comma_separated (column_texts d.columns) ++ 41 ∷ 59 ∷ [])
words_spelled d =
    append_assoc (d.name ++ codes " (") (comma_separated (column_texts d.columns)) (codes ");")
    ∙ append_assoc d.name (codes " (") (comma_separated (column_texts d.columns) ++ codes ");")

in_parentheses_again : (inner : List ℕ) → Lacks 41 inner → in_parentheses (40 ∷ (inner ++ 41 ∷ 59 ∷ [])) ≡ Ok inner
unfolding in_parentheses
in_parentheses_again inner h = rw (parted_at 41 inner (59 ∷ []) h) refl

read_table : (e : TableDef) → is_name e.name ≡ true → is_key_first e.columns ≡ true
    → table_of (e.name ++ 32 ∷ 40 ∷ (comma_separated (column_texts e.columns) ++ 41 ∷ 59 ∷ [])) ≡ well_formed (defined e.name e.columns)
unfolding table_of
read_table e m n =
    rw (
      parted_at 32 e.name (40 ∷ (comma_separated (column_texts e.columns) ++ 41 ∷ 59 ∷ [])) (name_lacks 32 refl e.name m),
      name_again e.name m,
      in_parentheses_again (comma_separated (column_texts e.columns)) (columns_lack 41 close_apart refl e.columns n),
      columns_again e.columns n,
    ) refl

pub table_again : (d : TableDef) → is_name d.name ≡ true → is_key_first d.columns ≡ true → table_of (behind_words d) ≡ well_formed (defined d.name d.columns)
table_again d h k = ap table_of (words_spelled d) ∙ read_table d h k

pub create_line_lacks : (d : TableDef) → is_name d.name ≡ true → is_key_first d.columns ≡ true → Lacks 10 (create_line d)
create_line_lacks d h k =
    lacks-append 10 (codes "CREATE TABLE " ++ d.name ++ codes " (" ++ comma_separated (column_texts d.columns)) (codes ");")
    (lacks-append 10 (codes "CREATE TABLE " ++ d.name ++ codes " (") (comma_separated (column_texts d.columns))
    (lacks-append 10 (codes "CREATE TABLE " ++ d.name) (codes " (") (lacks-append 10 (codes "CREATE TABLE ") d.name refl (name_lacks 10 refl d.name h)) refl)
    (columns_lack 10 newline_apart refl d.columns k)) refl
