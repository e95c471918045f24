-- What the grammar of CREATE TABLE spells is what is read.
use Rattle.std.proofs.Common.{◌≡◌, Bool, true, false, List, [], ◌∷◌, ◌++◌, inl, inr, Option, Some, None, Ok, Err, refl, sym, ap, subst, ◌∙◌, append_assoc}
use Rattle.value.specs.declared.kind.Kind.{Kind}
use Rattle.value.specs.declared.kind.Kind.TheVariants as of
use Rattle.sqltext.specs.declared.token.TokenKind.{TokenKind}
use Rattle.sqltext.specs.declared.token.TokenKind.TheVariants as kind
use Rattle.sqltext.specs.declared.token.Token.{Token}
use Rattle.sqltext.specs.declared.tree.Name.{Name}
use Rattle.sqltext.specs.declared.tree.ColumnTree.{ColumnTree}
use Rattle.sqltext.specs.Tokens.{same_kind}
use Rattle.sqltext.specs.Reading.{◌>>=◌, syntax_error, expect, nothing_left, list_of}
use Rattle.sqltext.specs.Grammar.{name as read_name}
use Rattle.sqltext.specs.Creating.{TableParts, kind_of, kind_word as read_kind, reference as read_reference, mark as read_mark, key as read_key, column as read_column, others as read_others, table as read_table, whole}
use Rattle.sqltext.specs.Spelling.{Phrase, this, word, ◌then◌, ◌or◌, more, separated, name}
use Rattle.sqltext.specs.TableSpelling.{kind_token, kind_word, mark, reference, key, column, table, SpellsTable}
use Rattle.sqltext.specs.Laws.{ReadsSpelledTables, SpellsOneTable, BeginATable, NoTableGoesOn, RefusesTheFirstFaultOfATable}
use Rattle.sqltext.proofs.PhraseLemmas.{Answer, Reader, Reads, reads_same, reads_as, reads_where, bind, Bound, reads_bind, into, Made, reads_into, Any}
use Rattle.sqltext.proofs.ChoiceLemmas.{begins, avoided, this_avoids, word_avoids, then_avoids, one, reads_one, reads_expect, after, reads_after, reads_choice, pure, Is, reads_pure}
use Rattle.sqltext.proofs.RepeatLemmas.{Without, reads_items}
use Rattle.sqltext.proofs.WholeLemmas.{finish, all_of, NoneOn, FirstFault, ok_same, read_spelled, spelled_read, first_fault}
use Rattle.sqltext.proofs.RuleLemmas.{made_avoids, reads_name}

-- ---- the kind of a column

some_same : (x y : Kind) → Some x ≡ Some y → x ≡ y
some_same x y e = cc

token_of : (t : TokenKind) (k : Kind) → kind_of t ≡ Some k → t ≡ kind_token k
token_of kind.Bigint k e = ap kind_token (some_same of.Bigint k e)
token_of kind.Text k e = ap kind_token (some_same of.Text k e)
token_of kind.Bytea k e = ap kind_token (some_same of.Bytea k e)
token_of _ k e = absurd (cc)

of_token : (k : Kind) → kind_of (kind_token k) ≡ Some k
of_token of.Bigint = refl
of_token of.Text = refl
of_token of.Bytea = refl

same_kind_word : (ts : List Token) → read_kind ts ≡ one (λ t. kind_of t.kind) ts
unfolding read_kind
same_kind_word [] = refl
same_kind_word (t ∷ ts) = refl

reads_kind : Reads Any read_kind kind_word
reads_kind = reads_same Any (one (λ t. kind_of t.kind)) read_kind kind_word same_kind_word (reads_one Any (λ t. kind_of t.kind) kind_word
    (λ t k e. (t, (token_of t.kind k e, refl)))
    (λ k us s. let (t, fact) = s in (t, fact.1, ap kind_of fact.0 ∙ of_token k))
    (let t : Token = record { kind = kind.Bigint; start = 0; end = 0 } in (of.Bigint, t ∷ [], (t, (refl, refl)))))

-- ---- what may follow it

abbrev MarkPhrase : Bool → Phrase
MarkPhrase b = (word kind.Not then Made (λ w. true) (this kind.Null) b) or Is false b

mark_to : (b : Bool) (us : List Token) → MarkPhrase b us → mark b us
mark_to b us (inl s) =
    let (front, rest, first, second, all) = s in
    subst (λ z. mark z us) (sym second.1) (front, rest, first, (second.0, second.2), all)
mark_to b us (inr s) = subst (λ z. mark z us) (sym s.0) s.1

mark_from : (b : Bool) (us : List Token) → mark b us → MarkPhrase b us
mark_from true us s = let (front, rest, first, second, all) = s in inl (front, rest, first, (second.0, refl, second.1), all)
mark_from false us s = inr (refl, s)

reads_mark : Reads (Without kind.Not) read_mark mark
unfolding read_mark
reads_mark = reads_as (Without kind.Not) read_mark MarkPhrase mark mark_to mark_from
    (reads_choice (Without kind.Not) kind.Not (into (λ w. true) (expect kind.Null)) (pure false) (Made (λ w. true) (this kind.Null)) (Is false)
    (λ b front rest s f. subst (λ us. begins kind.Not (us ++ rest) ≡ false) (sym s.1) f)
    (reads_into (Without kind.Not) (λ w. true) (expect kind.Null) (this kind.Null) (reads_expect (Without kind.Not) kind.Null)) (reads_pure (Without kind.Not) false))

abbrev ReferencePhrase : Option Name → Phrase
ReferencePhrase r = (word kind.References then Made Some name r) or Is None r

reference_to : (r : Option Name) (us : List Token) → ReferencePhrase r us → reference r us
reference_to r us (inl s) =
    let (front, rest, first, second, all) = s in
    subst (λ z. reference z us) (sym second.1) (front, rest, first, second.2, all)
reference_to r us (inr s) = subst (λ z. reference z us) (sym s.0) s.1

reference_from : (r : Option Name) (us : List Token) → reference r us → ReferencePhrase r us
reference_from (Some n) us s = let (front, rest, first, second, all) = s in inl (front, rest, first, (n, refl, second), all)
reference_from None us s = inr (refl, s)

reads_reference : Reads (Without kind.References) read_reference reference
unfolding read_reference
reads_reference = reads_as (Without kind.References) read_reference ReferencePhrase reference reference_to reference_from
    (reads_choice (Without kind.References) kind.References (into Some read_name) (pure None) (Made Some name) (Is None)
    (λ r front rest s f. subst (λ us. begins kind.References (us ++ rest) ≡ false) (sym s.1) f)
    (reads_into (Without kind.References) Some read_name name (reads_where Any (Without kind.References) read_name name (λ us f. tt) reads_name)) (reads_pure (Without kind.References) None))

-- ---- columns

abbrev keyed : Name → Kind → Option Name → ColumnTree
keyed n k r = record { name = n; kind = k; not_null = false; references = r }

abbrev other : Name → Kind → Bool → Option Name → ColumnTree
other n k m r = record { name = n; kind = k; not_null = m; references = r }

abbrev KeyPhrase : ColumnTree → Phrase
KeyPhrase = Bound name (λ n. Bound kind_word (λ k y. word kind.Primary then word kind.Key then Made (keyed n k) reference y))

key_to : (y : ColumnTree) (us : List Token) → KeyPhrase y us → key y us
key_to y us s =
    let (a, b, named, kinds, all) = s.1 in
    let (c, d, kind_says, primaries, rest) = kinds.1 in
    let (e, f, primary, keys, last) = primaries in
    let (g, h, key_says, made, end_) = keys in
    subst (λ z. key z us) (sym made.1) (refl, (a, b, named, (c, d, kind_says, (e, f, primary, (g, h, key_says, made.2, end_), last), rest), all))

key_from : (y : ColumnTree) (us : List Token) → key y us → KeyPhrase y us
key_from y us s =
    let (a, b, named, kinds, all) = s.1 in
    let (c, d, kind_says, primaries, rest) = kinds in
    let (e, f, primary, keys, last) = primaries in
    let (g, h, key_says, says, end_) = keys in
    (y.name, (a, b, named, (y.kind, (c, d, kind_says, (e, f, primary, (g, h, key_says, (y.references, ap (λ m. other y.name y.kind m y.references) s.0, says), end_), last), rest)), all))

reads_key : Reads (Without kind.References) read_key key
unfolding read_key
reads_key = reads_as (Without kind.References) read_key KeyPhrase key key_to key_from
    (reads_bind Any (Without kind.References) read_name (λ n. bind read_kind (λ k. after kind.Primary (after kind.Key (into (keyed n k) read_reference)))) name
    (λ n. Bound kind_word (λ k y. word kind.Primary then word kind.Key then Made (keyed n k) reference y)) (λ x y front rest s f. tt) reads_name
    (λ n. reads_bind Any (Without kind.References) read_kind (λ k. after kind.Primary (after kind.Key (into (keyed n k) read_reference))) kind_word
    (λ k y. word kind.Primary then word kind.Key then Made (keyed n k) reference y) (λ x y front rest s f. tt) reads_kind
    (λ k. reads_after (Without kind.References) kind.Primary (after kind.Key (into (keyed n k) read_reference)) (λ y. word kind.Key then Made (keyed n k) reference y)
    (reads_after (Without kind.References) kind.Key (into (keyed n k) read_reference) (Made (keyed n k) reference)
    (reads_into (Without kind.References) (keyed n k) read_reference reference reads_reference)))))

-- a column is followed by nothing that would go on with it
abbrev EndsColumn : List Token → Type 0
EndsColumn rest = Without kind.Not rest × Without kind.References rest

after_mark : (r : Option Name) (front rest : List Token) → reference r front → EndsColumn rest → Without kind.Not (front ++ rest)
unfolding same_kind
after_mark (Some n) front rest s e = avoided kind.Not (reference (Some n)) (then_avoids kind.Not (word kind.References) (name n) (word_avoids kind.Not kind.References refl)) front rest s
after_mark None front rest s e = subst (λ us. Without kind.Not (us ++ rest)) (sym s) e.0

abbrev ColumnPhrase : ColumnTree → Phrase
ColumnPhrase = Bound name (λ n. Bound kind_word (λ k. Bound mark (λ m. Made (other n k m) reference)))

column_to : (y : ColumnTree) (us : List Token) → ColumnPhrase y us → column y us
column_to y us s =
    let (a, b, named, kinds, all) = s.1 in
    let (c, d, kind_says, marks, rest) = kinds.1 in
    let (e, f, mark_says, made, last) = marks.1 in
    subst (λ z. column z us) (sym made.1) (a, b, named, (c, d, kind_says, (e, f, mark_says, made.2, last), rest), all)

column_from : (y : ColumnTree) (us : List Token) → column y us → ColumnPhrase y us
column_from y us s =
    let (a, b, named, kinds, all) = s in
    let (c, d, kind_says, marks, rest) = kinds in
    let (e, f, mark_says, says, last) = marks in
    (y.name, (a, b, named, (y.kind, (c, d, kind_says, (y.not_null, (e, f, mark_says, (y.references, refl, says), last)), rest)), all))

reads_column : Reads EndsColumn read_column column
unfolding read_column
reads_column = reads_as EndsColumn read_column ColumnPhrase column column_to column_from
    (reads_bind Any EndsColumn read_name (λ n. bind read_kind (λ k. bind read_mark (λ m. into (other n k m) read_reference))) name
    (λ n. Bound kind_word (λ k. Bound mark (λ m. Made (other n k m) reference))) (λ x y front rest s f. tt) reads_name
    (λ n. reads_bind Any EndsColumn read_kind (λ k. bind read_mark (λ m. into (other n k m) read_reference)) kind_word (λ k. Bound mark (λ m. Made (other n k m) reference)) (λ x y front rest s f. tt) reads_kind
    (λ k. reads_bind (Without kind.Not) EndsColumn read_mark (λ m. into (other n k m) read_reference) mark (λ m. Made (other n k m) reference)
    (λ x y front rest s f. after_mark s.0 front rest s.2 f) reads_mark
    (λ m. reads_into EndsColumn (other n k m) read_reference reference (reads_where (Without kind.References) EndsColumn read_reference reference (λ us f. f.1) reads_reference)))))

-- nor the columns
abbrev EndsColumns : List Token → Type 0
EndsColumns rest = Without kind.Comma rest × Without kind.Not rest × Without kind.References rest

after_column : (columns : List ColumnTree) (front rest : List Token) → more kind.Comma column columns front → EndsColumns rest → EndsColumn (front ++ rest)
unfolding same_kind
after_column [] front rest s e = subst (λ us. EndsColumn (us ++ rest)) (sym s) (e.1, e.2)
after_column (c ∷ cs) front rest s e = (
  avoided kind.Not (more kind.Comma column (c ∷ cs)) (then_avoids kind.Not (word kind.Comma) _ (word_avoids kind.Not kind.Comma refl)) front rest s,
  avoided kind.References (more kind.Comma column (c ∷ cs)) (then_avoids kind.References (word kind.Comma) _ (word_avoids kind.References kind.Comma refl)) front rest s,
)

abbrev OthersPhrase : List ColumnTree → Phrase
OthersPhrase xs = (word kind.Comma then separated kind.Comma column xs) or Is [] xs

others_to : (xs : List ColumnTree) (us : List Token) → OthersPhrase xs us → more kind.Comma column xs us
others_to [] us (inl s) = let (a, b, first, second, all) = s in absurd second
others_to (c ∷ cs) us (inl s) = s
others_to xs us (inr s) = subst (λ ys. more kind.Comma column ys us) (sym s.0) s.1

others_from : (xs : List ColumnTree) (us : List Token) → more kind.Comma column xs us → OthersPhrase xs us
others_from [] us s = inr (refl, s)
others_from (c ∷ cs) us s = inl s

reads_others : Reads EndsColumns read_others (more kind.Comma column)
unfolding read_others
reads_others = reads_as EndsColumns read_others OthersPhrase (more kind.Comma column) others_to others_from
    (reads_choice EndsColumns kind.Comma (list_of kind.Comma read_column) (pure []) (separated kind.Comma column) (Is [])
    (λ xs front rest s f. subst (λ us. begins kind.Comma (us ++ rest) ≡ false) (sym s.1) f.0)
    (reads_items EndsColumn EndsColumns kind.Comma read_column column (λ us f. f.0) after_column reads_column)
    (reads_pure EndsColumns []))

-- ---- the table

abbrev as_parts : Name → ColumnTree → List ColumnTree → TableParts
as_parts n k more = record { name = n; key = k; others = more }

abbrev TablePhrase : TableParts → Phrase
TablePhrase = Bound name (λ n y. word kind.Open then Bound key (λ k. Bound (more kind.Comma column) (λ cs. Made (λ w. as_parts n k cs) (this kind.Close))) y)

reads_table : Reads Any read_table TablePhrase
unfolding read_table same_kind
reads_table = reads_bind Any Any read_name (λ n. after kind.Open (bind read_key (λ k. bind read_others (λ cs. into (λ w. as_parts n k cs) (expect kind.Close))))) name
    (λ n y. word kind.Open then Bound key (λ k. Bound (more kind.Comma column) (λ cs. Made (λ w. as_parts n k cs) (this kind.Close))) y) (λ x y front rest s f. tt) reads_name
    (λ n. reads_after Any kind.Open (bind read_key (λ k. bind read_others (λ cs. into (λ w. as_parts n k cs) (expect kind.Close)))) (Bound key (λ k. Bound (more kind.Comma column) (λ cs. Made (λ w. as_parts n k cs) (this kind.Close))))
    (reads_bind (Without kind.References) Any read_key (λ k. bind read_others (λ cs. into (λ w. as_parts n k cs) (expect kind.Close))) key (λ k. Bound (more kind.Comma column) (λ cs. Made (λ w. as_parts n k cs) (this kind.Close)))
    (λ k y front rest s f. let (a, b, columns, close, all) = s.1 in subst (λ us. Without kind.References (us ++ rest)) (sym all) (rw append_assoc (after_key (s.0) a (b ++ rest) columns
    (avoided kind.References (Made (λ w. as_parts n k (s.0)) (this kind.Close) y) (made_avoids kind.References (λ w. as_parts n k (s.0)) (this kind.Close) (λ t. this_avoids kind.References kind.Close t refl) y) b rest close))))
    reads_key
    (λ k. reads_bind EndsColumns Any read_others (λ cs. into (λ w. as_parts n k cs) (expect kind.Close)) (more kind.Comma column) (λ cs. Made (λ w. as_parts n k cs) (this kind.Close))
    (λ cs y front rest s f. (closes n k cs y kind.Comma refl front rest s, closes n k cs y kind.Not refl front rest s, closes n k cs y kind.References refl front rest s))
    reads_others (λ cs. reads_into Any (λ w. as_parts n k cs) (expect kind.Close) (this kind.Close) (reads_expect Any kind.Close)))))
  where
    after_key : (columns : List ColumnTree) (front rest : List Token) → more kind.Comma column columns front → Without kind.References rest → Without kind.References (front ++ rest)
    after_key [] front rest s e = subst (λ us. Without kind.References (us ++ rest)) (sym s) e
    after_key (c ∷ cs) front rest s e = avoided kind.References (more kind.Comma column (c ∷ cs)) (then_avoids kind.References (word kind.Comma) _ (word_avoids kind.References kind.Comma refl)) front rest s

    closes : (n : Name) (k : ColumnTree) (cs : List ColumnTree) (y : TableParts) (j : TokenKind) → same_kind kind.Close j ≡ false → (front rest : List Token)
        → Made (λ w. as_parts n k cs) (this kind.Close) y front → Without j (front ++ rest)
    closes n k cs y j d front rest s = avoided j (Made (λ w. as_parts n k cs) (this kind.Close) y) (made_avoids j (λ w. as_parts n k cs) (this kind.Close) (λ t. this_avoids j kind.Close t d) y) front rest s

-- a table and its end, whatever follows
abbrev front_of : Reader TableParts
front_of = after kind.Create (after kind.Table (bind read_table (λ t. after kind.Semicolon (into (λ e. t) (expect kind.End)))))

abbrev FrontPhrase : TableParts → Phrase
FrontPhrase y = word kind.Create then word kind.Table then Bound TablePhrase (λ t z. word kind.Semicolon then Made (λ e. t) (this kind.End) z) y

reads_phrase : Reads Any front_of FrontPhrase
reads_phrase = reads_after Any kind.Create (after kind.Table (bind read_table (λ t. after kind.Semicolon (into (λ e. t) (expect kind.End)))))
    (λ y. word kind.Table then Bound TablePhrase (λ t z. word kind.Semicolon then Made (λ e. t) (this kind.End) z) y)
    (reads_after Any kind.Table (bind read_table (λ t. after kind.Semicolon (into (λ e. t) (expect kind.End)))) (Bound TablePhrase (λ t z. word kind.Semicolon then Made (λ e. t) (this kind.End) z))
    (reads_bind Any Any read_table (λ t. after kind.Semicolon (into (λ e. t) (expect kind.End))) TablePhrase (λ t z. word kind.Semicolon then Made (λ e. t) (this kind.End) z) (λ x y front rest s f. tt) reads_table
    (λ t. reads_after Any kind.Semicolon (into (λ e. t) (expect kind.End)) (Made (λ e. t) (this kind.End)) (reads_into Any (λ e. t) (expect kind.End) (this kind.End) (reads_expect Any kind.End)))))

table_to : (y : TableParts) (us : List Token) → TablePhrase y us → table y us
table_to y us s =
    let (a, b, named, opens, all) = s.1 in
    let (c, d, open_, keys, rest) = opens in
    let (e, f, key_says, columns, last) = keys.1 in
    let (g, h, others_say, closes, end_) = columns.1 in
    subst (λ z. table z us) (sym closes.1) (a, b, named, (c, d, open_, (e, f, key_says, (g, h, others_say, (closes.0, closes.2), end_), last), rest), all)

table_from : (y : TableParts) (us : List Token) → table y us → TablePhrase y us
table_from y us s =
    let (a, b, named, opens, all) = s in
    let (c, d, open_, keys, rest) = opens in
    let (e, f, key_says, columns, last) = keys in
    let (g, h, others_say, closes, end_) = columns in
    (y.name, (a, b, named, (c, d, open_, (y.key, (e, f, key_says, (y.others, (g, h, others_say, (closes.0, refl, closes.1), end_)), last)), rest), all))

spells_to : (y : TableParts) (us : List Token) → FrontPhrase y us → SpellsTable y us
spells_to y us s =
    let (a, b, create, tables, all) = s in
    let (c, d, word_says, fronts, rest) = tables in
    let (e, f, table_says, ends, last) = fronts.1 in
    let (g, h, semicolon, end_, both) = ends in
    (a, b, create, (c, d, word_says, (e, f, subst (λ z. table z e) (sym end_.1) (table_to fronts.0 e table_says), (g, h, semicolon, (end_.0, end_.2), both), last), rest), all)

spells_from : (y : TableParts) (us : List Token) → SpellsTable y us → FrontPhrase y us
spells_from y us s =
    let (a, b, create, tables, all) = s in
    let (c, d, word_says, fronts, rest) = tables in
    let (e, f, table_says, ends, last) = fronts in
    let (g, h, semicolon, end_, both) = ends in
    (a, b, create, (c, d, word_says, (y, (e, f, table_from y e table_says, (g, h, semicolon, (end_.0, refl, end_.1), both), last)), rest), all)

reads_front : Reads Any front_of SpellsTable
reads_front = reads_as Any front_of FrontPhrase SpellsTable spells_to spells_from reads_phrase

-- ---- all of the tokens

same_whole : (ts : List Token) → whole ts ≡ all_of front_of ts
unfolding whole
same_whole ts = created (expect kind.Create ts)
  where
    created : (r : Answer Token) → (r >>= λ create. expect kind.Table create.1 >>= λ word_. read_table word_.1 >>= λ tree. expect kind.Semicolon tree.1 >>= λ semicolon. expect kind.End semicolon.1 >>= λ end. nothing_left end.1 >>= λ left. Ok tree.0)
        ≡ ((r >>= λ p. after kind.Table (bind read_table (λ t. after kind.Semicolon (into (λ e. t) (expect kind.End)))) p.1) >>= finish)
    created (Err z) = refl
    created (Ok p) = tabled (expect kind.Table p.1)
      where
        tabled : (r : Answer Token) → (r >>= λ word_. read_table word_.1 >>= λ tree. expect kind.Semicolon tree.1 >>= λ semicolon. expect kind.End semicolon.1 >>= λ end. nothing_left end.1 >>= λ left. Ok tree.0)
            ≡ ((r >>= λ p. bind read_table (λ t. after kind.Semicolon (into (λ e. t) (expect kind.End))) p.1) >>= finish)
        tabled (Err z) = refl
        tabled (Ok q) = treed (read_table q.1)
          where
            treed : (r : Answer TableParts) → (r >>= λ tree. expect kind.Semicolon tree.1 >>= λ semicolon. expect kind.End semicolon.1 >>= λ end. nothing_left end.1 >>= λ left. Ok tree.0)
                ≡ ((r >>= λ p. after kind.Semicolon (into (λ e. p.0) (expect kind.End)) p.1) >>= finish)
            treed (Err z) = refl
            treed (Ok t) = closed (expect kind.Semicolon t.1)
              where
                closed : (r : Answer Token) → (r >>= λ semicolon. expect kind.End semicolon.1 >>= λ end. nothing_left end.1 >>= λ left. Ok t.0) ≡ ((r >>= λ p. into (λ e. t.0) (expect kind.End) p.1) >>= finish)
                closed (Err z) = refl
                closed (Ok c) = ended (expect kind.End c.1)
                  where
                    ended : (r : Answer Token) → (r >>= λ end. nothing_left end.1 >>= λ left. Ok t.0) ≡ ((r >>= λ p. Ok (t.0, p.1)) >>= finish)
                    ended (Err z) = refl
                    ended (Ok e) = refl

pub reads_spelled_tables : ReadsSpelledTables
reads_spelled_tables ts t = (λ h. read_spelled front_of SpellsTable reads_front ts t (sym (same_whole ts) ∙ h), λ s. same_whole ts ∙ spelled_read front_of SpellsTable reads_front ts t s)

pub spells_one_table : SpellsOneTable
spells_one_table ts t other_ s r = ok_same t other_ (sym (spelled_read front_of SpellsTable reads_front ts t s) ∙ spelled_read front_of SpellsTable reads_front ts other_ r)

pub refuses_the_first_fault_of_a_table : RefusesTheFirstFaultOfATable
refuses_the_first_fault_of_a_table ts e h = let f = first_fault front_of SpellsTable reads_front ts e (sym (same_whole ts) ∙ h) in go f f.rest refl
  where
    go : (f : FirstFault SpellsTable ts e) (rest : List Token) → f.rest ≡ rest
        → (before : List Token) × (rest : List Token) × (ts ≡ before ++ rest) × (e ≡ syntax_error rest) × BeginATable before × NoTableGoesOn before rest
    go f [] k = (f.before, [], f.all ∙ ap (λ (us : List Token). f.before ++ us) k, f.place ∙ ap syntax_error k, f.begun, subst (λ us. NoneOn SpellsTable f.before us) k f.ends)
    go f (t ∷ us) k = (f.before, t ∷ us, f.all ∙ ap (λ (vs : List Token). f.before ++ vs) k, f.place ∙ ap syntax_error k, f.begun, subst (λ vs. NoneOn SpellsTable f.before vs) k f.ends)
