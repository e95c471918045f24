-- What the grammar of statements spells is what is read, and a refusal is at the first fault.
use Rattle.std.proofs.Common.{◌≡◌, false, List, [], ◌∷◌, ◌++◌, inl, inr, Ok, Err, refl, sym, ap, subst, ◌∙◌}
use Rattle.std.proofs.lemmas.List.{append-nil}
use Rattle.sqltext.specs.declared.token.TokenKind.{TokenKind}
use Rattle.sqltext.specs.declared.token.TokenKind.TheVariants as kind
use Rattle.sqltext.specs.declared.token.Token.{Token}
use Rattle.sqltext.specs.declared.tree.Name.{Name}
use Rattle.sqltext.specs.declared.tree.Test.{Test}
use Rattle.sqltext.specs.declared.tree.Shown.{Shown}
use Rattle.sqltext.specs.declared.tree.Shown.TheVariants.{All, Count, Columns}
use Rattle.sqltext.specs.declared.tree.Tree.{Tree}
use Rattle.sqltext.specs.declared.tree.Tree.TheVariants.{Select, Insert, Update, Delete}
use Rattle.sqltext.specs.Tokens.{same_kind}
use Rattle.sqltext.specs.Reading.{◌>>=◌, syntax_error, expect, nothing_left, list_of}
use Rattle.sqltext.specs.Grammar.{name as read_name, literal as read_literal, setting as read_setting, conditions as read_conditions, count as read_count, shown as read_shown, select as read_select, insert as read_insert, update as read_update, delete as read_delete, statement as read_statement, ending as read_ending, whole}
use Rattle.sqltext.specs.Spelling.{Phrase, nothing, this, word, ◌then◌, ◌or◌, separated, name, literal, setting, conditions, shown, statement, Spells}
use Rattle.sqltext.specs.Laws.{BeginAStatement, NoneGoesOn, ReadsWhatIsSpelled, SpellsOneTree, RefusesTheFirstFault}
use Rattle.sqltext.proofs.PhraseLemmas.{Answer, Reader, Reads, reads_as, reads_where, bind, Bound, reads_bind, into, Made, reads_into, Any}
use Rattle.sqltext.proofs.ChoiceLemmas.{Avoids, avoided, this_avoids, word_avoids, then_avoids, or_avoids, reads_expect, after, reads_after, choice, reads_choice, pure, Is, reads_pure}
use Rattle.sqltext.proofs.RepeatLemmas.{Without, reads_list}
use Rattle.sqltext.proofs.WholeLemmas.{finish, all_of, NoneOn, FirstFault, ok_same, read_spelled, spelled_read, first_fault}
use Rattle.sqltext.proofs.RuleLemmas.{made_avoids, reads_name, reads_literal, reads_setting, reads_conditions, EndsConditions}

-- a statement is followed by nothing that would go on with it
abbrev Ended : List Token → Type 0
Ended rest = Without kind.Comma rest × Without kind.And rest × Without kind.Where rest

ends_conditions : (rest : List Token) → Ended rest → EndsConditions rest
ends_conditions rest e = (e.1, e.2)

-- after the assignments come the conditions, or the end
after_settings : (tests : List Test) (front rest : List Token) → conditions tests front → Ended rest → Without kind.Comma (front ++ rest)
unfolding same_kind
after_settings [] front rest s e = subst (λ us. Without kind.Comma (us ++ rest)) (sym s) e.0
after_settings (c ∷ cs) front rest s e = avoided kind.Comma (conditions (c ∷ cs)) (then_avoids kind.Comma (word kind.Where) _ (word_avoids kind.Comma kind.Where refl)) front rest s

module _ (A : Type 0) where
  -- ---- what is shown

  abbrev CountPhrase : Shown A → Phrase
  CountPhrase y = word kind.Open then word kind.Star then Made (λ w. Count) (this kind.Close) y

  reads_count : Reads Any (read_count {A = A}) CountPhrase
  unfolding read_count
  reads_count = reads_after Any kind.Open (after kind.Star (into (λ w. Count) (expect kind.Close))) (λ y. word kind.Star then Made (λ w. Count) (this kind.Close) y)
      (reads_after Any kind.Star (into (λ w. Count) (expect kind.Close)) (Made (λ w. Count) (this kind.Close)) (reads_into Any (λ w. Count) (expect kind.Close) (this kind.Close) (reads_expect Any kind.Close)))

  abbrev NamesPhrase : Shown A → Phrase
  NamesPhrase = Made Columns (separated kind.Comma name)

  names_avoid : (k : TokenKind) → same_kind kind.Name k ≡ false → (y : Shown A) → Avoids k (NamesPhrase y)
  names_avoid k d y = made_avoids k Columns (separated kind.Comma name) listed y
    where
      listed : (names : List Name) → Avoids k (separated kind.Comma name names)
      listed [] us s = absurd s
      listed (n ∷ ns) us s = then_avoids k (name n) _ (this_avoids k kind.Name n.0 d) us s

  abbrev CountOrNames : Shown A → Phrase
  CountOrNames y = (word kind.Count then CountPhrase y) or (λ us. NamesPhrase y us)

  abbrev ShownPhrase : Shown A → Phrase
  ShownPhrase y = (word kind.Star then Is All y) or CountOrNames y

  shown_to : (y : Shown A) (us : List Token) → ShownPhrase y us → shown y us
  shown_to y us (inl s) =
      let (a, b, star, is, all) = s in
      let (t, fact) = star in
      subst (λ z. shown z us) (sym is.0) (t, (fact.0, all ∙ ap (λ (vs : List Token). a ++ vs) is.1 ∙ append-nil a ∙ fact.1))
  shown_to y us (inr (inl s)) =
      let (a, b, first, second, all) = s in
      let (c, d, open_, stars, rest) = second in
      let (e, f, star, closes, last) = stars in
      subst (λ z. shown z us) (sym closes.1) (a, b, first, (c, d, open_, (e, f, star, (closes.0, closes.2), last), rest), all)
  shown_to y us (inr (inr s)) = subst (λ z. shown z us) (sym s.1) s.2

  shown_from : (y : Shown A) (us : List Token) → shown y us → ShownPhrase y us
  shown_from All us s = inl (us, [], s, (refl, refl), sym (append-nil us))
  shown_from Count us s =
      let (a, b, first, second, all) = s in
      let (c, d, open_, stars, rest) = second in
      let (e, f, star, closes, last) = stars in
      inr (inl (a, b, first, (c, d, open_, (e, f, star, (closes.0, refl, closes.1), last), rest), all))
  shown_from (Columns names) us s = inr (inr (names, refl, s))

  reads_shown : Reads (Without kind.Comma) (read_shown {A = A}) shown
  unfolding read_shown same_kind
  reads_shown = reads_as (Without kind.Comma) (read_shown {A = A}) ShownPhrase shown shown_to shown_from
      (reads_choice (Without kind.Comma) kind.Star (pure All) (choice kind.Count (read_count {A = A}) (into Columns (list_of kind.Comma read_name))) (Is All) CountOrNames
      (λ y front rest s f. avoided kind.Star (CountOrNames y) (or_avoids kind.Star (word kind.Count then CountPhrase y) (λ us. NamesPhrase y us)
      (then_avoids kind.Star (word kind.Count) (CountPhrase y) (word_avoids kind.Star kind.Count refl)) (names_avoid kind.Star refl y)) front rest s)
      (reads_pure (Without kind.Comma) All)
      (reads_choice (Without kind.Comma) kind.Count (read_count {A = A}) (into Columns (list_of kind.Comma read_name)) CountPhrase NamesPhrase
      (λ y front rest s f. avoided kind.Count (NamesPhrase y) (names_avoid kind.Count refl y) front rest s)
      (reads_where Any (Without kind.Comma) (read_count {A = A}) CountPhrase (λ us f. tt) reads_count)
      (reads_into (Without kind.Comma) Columns (list_of kind.Comma read_name) (separated kind.Comma name) (reads_list kind.Comma read_name name reads_name))))

  -- ---- the four statements, after their first words

  abbrev TablePhrase : (Name → List Test → Tree A) → Tree A → Phrase
  TablePhrase make = Bound name (λ table. Made (λ tests. make table tests) conditions)

  abbrev SelectPhrase : Tree A → Phrase
  SelectPhrase = Bound shown (λ what y. word kind.From then TablePhrase (λ table tests. Select what table tests) y)

  reads_table : (make : Name → List Test → Tree A) → Reads Ended (bind read_name (λ table. into (λ tests. make table tests) read_conditions)) (TablePhrase make)
  reads_table make = reads_bind Any Ended read_name (λ table. into (λ tests. make table tests) read_conditions) name (λ table. Made (λ tests. make table tests) conditions) (λ x y front rest s f. tt) reads_name
      (λ table. reads_into Ended (λ tests. make table tests) read_conditions conditions (reads_where EndsConditions Ended read_conditions conditions ends_conditions reads_conditions))

  reads_select : Reads Ended (read_select {A = A}) SelectPhrase
  unfolding read_select same_kind
  reads_select = reads_bind (Without kind.Comma) Ended (read_shown {A = A}) (λ what. after kind.From (bind read_name (λ table. into (λ tests. Select what table tests) read_conditions))) shown
      (λ what y. word kind.From then TablePhrase (λ table tests. Select what table tests) y)
      (λ what y front rest s f. avoided kind.Comma (word kind.From then TablePhrase (λ table tests. Select what table tests) y)
      (then_avoids kind.Comma (word kind.From) (TablePhrase (λ table tests. Select what table tests) y) (word_avoids kind.Comma kind.From refl)) front rest s)
      reads_shown
      (λ what. reads_after Ended kind.From (bind read_name (λ table. into (λ tests. Select what table tests) read_conditions)) (TablePhrase (λ table tests. Select what table tests))
      (reads_table (λ table tests. Select what table tests)))

  abbrev ValuesPhrase : Name → Tree A → Phrase
  ValuesPhrase table = Bound (this kind.Values) (λ values y. word kind.Open then Bound (separated kind.Comma literal) (λ literals. Made (λ w. Insert table values literals) (this kind.Close)) y)

  abbrev InsertPhrase : Tree A → Phrase
  InsertPhrase y = word kind.Into then Bound name ValuesPhrase y

  reads_values : (table : Name)
      → Reads Any (bind (expect kind.Values) (λ values. after kind.Open (bind (list_of kind.Comma read_literal) (λ literals. into (λ w. Insert table values literals) (expect kind.Close))))) (ValuesPhrase table)
  unfolding same_kind
  reads_values table = reads_bind Any Any (expect kind.Values) (λ values. after kind.Open (bind (list_of kind.Comma read_literal) (λ literals. into (λ w. Insert table values literals) (expect kind.Close)))) (this kind.Values)
      (λ values y. word kind.Open then Bound (separated kind.Comma literal) (λ literals. Made (λ w. Insert table values literals) (this kind.Close)) y) (λ x y front rest s f. tt) (reads_expect Any kind.Values)
      (λ values. reads_after Any kind.Open (bind (list_of kind.Comma read_literal) (λ literals. into (λ w. Insert table values literals) (expect kind.Close)))
      (Bound (separated kind.Comma literal) (λ literals. Made (λ w. Insert table values literals) (this kind.Close)))
      (reads_bind (Without kind.Comma) Any (list_of kind.Comma read_literal) (λ literals. into (λ w. Insert table values literals) (expect kind.Close)) (separated kind.Comma literal)
      (λ literals. Made (λ w. Insert table values literals) (this kind.Close))
      (λ literals y front rest s f. avoided kind.Comma (Made (λ w. Insert table values literals) (this kind.Close) y)
      (made_avoids kind.Comma (λ w. Insert table values literals) (this kind.Close) (λ t. this_avoids kind.Comma kind.Close t refl) y) front rest s)
      (reads_list kind.Comma read_literal literal reads_literal)
      (λ literals. reads_into Any (λ w. Insert table values literals) (expect kind.Close) (this kind.Close) (reads_expect Any kind.Close))))

  reads_insert : Reads Any (read_insert {A = A}) InsertPhrase
  unfolding read_insert
  reads_insert = reads_after Any kind.Into
      (bind read_name (λ table. bind (expect kind.Values) (λ values. after kind.Open (bind (list_of kind.Comma read_literal) (λ literals. into (λ w. Insert table values literals) (expect kind.Close))))))
      (Bound name ValuesPhrase)
      (reads_bind Any Any read_name (λ table. bind (expect kind.Values) (λ values. after kind.Open (bind (list_of kind.Comma read_literal) (λ literals. into (λ w. Insert table values literals) (expect kind.Close))))) name
      ValuesPhrase (λ x y front rest s f. tt) reads_name reads_values)

  abbrev SettingsPhrase : Name → Tree A → Phrase
  SettingsPhrase table = Bound (separated kind.Comma setting) (λ settings. Made (λ tests. Update table settings tests) conditions)

  abbrev UpdatePhrase : Tree A → Phrase
  UpdatePhrase = Bound name (λ table y. word kind.Set then SettingsPhrase table y)

  reads_update : Reads Ended (read_update {A = A}) UpdatePhrase
  unfolding read_update
  reads_update = reads_bind Any Ended read_name (λ table. after kind.Set (bind (list_of kind.Comma read_setting) (λ settings. into (λ tests. Update table settings tests) read_conditions))) name
      (λ table y. word kind.Set then SettingsPhrase table y) (λ x y front rest s f. tt) reads_name
      (λ table. reads_after Ended kind.Set (bind (list_of kind.Comma read_setting) (λ settings. into (λ tests. Update table settings tests) read_conditions)) (SettingsPhrase table)
      (reads_bind (Without kind.Comma) Ended (list_of kind.Comma read_setting) (λ settings. into (λ tests. Update table settings tests) read_conditions) (separated kind.Comma setting)
      (λ settings. Made (λ tests. Update table settings tests) conditions)
      (λ settings y front rest s f. after_settings s.0 front rest s.2 f)
      (reads_list kind.Comma read_setting setting reads_setting)
      (λ settings. reads_into Ended (λ tests. Update table settings tests) read_conditions conditions (reads_where EndsConditions Ended read_conditions conditions ends_conditions reads_conditions))))

  abbrev DeletePhrase : Tree A → Phrase
  DeletePhrase y = word kind.From then TablePhrase (λ table tests. Delete table tests) y

  reads_delete : Reads Ended (read_delete {A = A}) DeletePhrase
  unfolding read_delete
  reads_delete = reads_after Ended kind.From (bind read_name (λ table. into (λ tests. Delete table tests) read_conditions)) (TablePhrase (λ table tests. Delete table tests)) (reads_table (λ table tests. Delete table tests))

  -- ---- a statement

  abbrev FromDelete : Tree A → Phrase
  FromDelete y = word kind.Delete then DeletePhrase y

  abbrev FromUpdate : Tree A → Phrase
  FromUpdate y = (word kind.Update then UpdatePhrase y) or FromDelete y

  abbrev FromInsert : Tree A → Phrase
  FromInsert y = (word kind.Insert then InsertPhrase y) or FromUpdate y

  abbrev FromSelect : Tree A → Phrase
  FromSelect y = (word kind.Select then SelectPhrase y) or FromInsert y

  delete_avoids : (k : TokenKind) → same_kind kind.Delete k ≡ false → (y : Tree A) → Avoids k (FromDelete y)
  delete_avoids k d y = then_avoids k (word kind.Delete) (DeletePhrase y) (word_avoids k kind.Delete d)

  update_avoids : (k : TokenKind) → same_kind kind.Update k ≡ false → same_kind kind.Delete k ≡ false → (y : Tree A) → Avoids k (FromUpdate y)
  update_avoids k u d y = or_avoids k (word kind.Update then UpdatePhrase y) (FromDelete y) (then_avoids k (word kind.Update) (UpdatePhrase y) (word_avoids k kind.Update u)) (delete_avoids k d y)

  insert_avoids : (k : TokenKind) → same_kind kind.Insert k ≡ false → same_kind kind.Update k ≡ false → same_kind kind.Delete k ≡ false → (y : Tree A) → Avoids k (FromInsert y)
  insert_avoids k i u d y = or_avoids k (word kind.Insert then InsertPhrase y) (FromUpdate y) (then_avoids k (word kind.Insert) (InsertPhrase y) (word_avoids k kind.Insert i)) (update_avoids k u d y)

  reads_from_select : Reads Ended (read_statement {A = A}) FromSelect
  unfolding read_statement same_kind
  reads_from_select =
      reads_choice Ended kind.Select (read_select {A = A}) (choice kind.Insert (read_insert {A = A}) (choice kind.Update (read_update {A = A}) (after kind.Delete (read_delete {A = A})))) SelectPhrase FromInsert
      (λ y front rest s f. avoided kind.Select (FromInsert y) (insert_avoids kind.Select refl refl refl y) front rest s)
      reads_select
      (reads_choice Ended kind.Insert (read_insert {A = A}) (choice kind.Update (read_update {A = A}) (after kind.Delete (read_delete {A = A}))) InsertPhrase FromUpdate
      (λ y front rest s f. avoided kind.Insert (FromUpdate y) (update_avoids kind.Insert refl refl y) front rest s)
      (reads_where Any Ended (read_insert {A = A}) InsertPhrase (λ us f. tt) reads_insert)
      (reads_choice Ended kind.Update (read_update {A = A}) (after kind.Delete (read_delete {A = A})) UpdatePhrase FromDelete
      (λ y front rest s f. avoided kind.Update (FromDelete y) (delete_avoids kind.Update refl y) front rest s)
      reads_update (reads_after Ended kind.Delete (read_delete {A = A}) DeletePhrase reads_delete)))

  statement_to : (y : Tree A) (us : List Token) → FromSelect y us → statement y us
  statement_to y us (inl s) =
      let (a, b, first, second, all) = s in
      let (c, d, what, froms, rest) = second.1 in
      let (e, f, from, table, last) = froms in
      let (g, h, named, tests, end_) = table.1 in
      subst (λ z. statement z us) (sym tests.1) (a, b, first, (c, d, what, (e, f, from, (g, h, named, tests.2, end_), last), rest), all)
  statement_to y us (inr (inl s)) =
      let (a, b, first, second, all) = s in
      let (c, d, into_, tables, rest) = second in
      let (e, f, named, lists, last) = tables.1 in
      let (g, h, values, opens, list) = lists.1 in
      let (i, j, open_, literals, shut) = opens in
      let (k, l, literals_say, closes, end_) = literals.1 in
      subst (λ z. statement z us) (sym closes.1) (a, b, first, (c, d, into_, (e, f, named, (g, h, values, (i, j, open_, (k, l, literals_say, (closes.0, closes.2), end_), shut), list), last), rest), all)
  statement_to y us (inr (inr (inl s))) =
      let (a, b, first, second, all) = s in
      let (c, d, named, sets, rest) = second.1 in
      let (e, f, set_, settings, last) = sets in
      let (g, h, settings_say, tests, end_) = settings.1 in
      subst (λ z. statement z us) (sym tests.1) (a, b, first, (c, d, named, (e, f, set_, (g, h, settings_say, tests.2, end_), last), rest), all)
  statement_to y us (inr (inr (inr s))) =
      let (a, b, first, second, all) = s in
      let (c, d, from, table, rest) = second in
      let (e, f, named, tests, last) = table.1 in
      subst (λ z. statement z us) (sym tests.1) (a, b, first, (c, d, from, (e, f, named, tests.2, last), rest), all)

  statement_from : (y : Tree A) (us : List Token) → statement y us → FromSelect y us
  statement_from (Select what table tests) us s =
      let (a, b, first, second, all) = s in
      let (c, d, what_says, froms, rest) = second in
      let (e, f, from, tables, last) = froms in
      let (g, h, named, tests_say, end_) = tables in
      inl (a, b, first, (what, (c, d, what_says, (e, f, from, (table, (g, h, named, (tests, refl, tests_say), end_)), last), rest)), all)
  statement_from (Insert table values literals) us s =
      let (a, b, first, second, all) = s in
      let (c, d, into_, tables, rest) = second in
      let (e, f, named, lists, last) = tables in
      let (g, h, values_say, opens, list) = lists in
      let (i, j, open_, inner, shut) = opens in
      let (k, l, literals_say, closes, end_) = inner in
      inr (inl (a, b, first, (c, d, into_, (table, (e, f, named, (values, (g, h, values_say, (i, j, open_, (literals, (k, l, literals_say, (closes.0, refl, closes.1), end_)), shut), list)), last)), rest), all))
  statement_from (Update table settings tests) us s =
      let (a, b, first, second, all) = s in
      let (c, d, named, sets, rest) = second in
      let (e, f, set_, inner, last) = sets in
      let (g, h, settings_say, tests_say, end_) = inner in
      inr (inr (inl (a, b, first, (table, (c, d, named, (e, f, set_, (settings, (g, h, settings_say, (tests, refl, tests_say), end_)), last), rest)), all)))
  statement_from (Delete table tests) us s =
      let (a, b, first, second, all) = s in
      let (c, d, from, tables, rest) = second in
      let (e, f, named, tests_say, last) = tables in
      inr (inr (inr (a, b, first, (c, d, from, (table, (e, f, named, (tests, refl, tests_say), last)), rest), all)))

  reads_statement : Reads Ended (read_statement {A = A}) statement
  reads_statement = reads_as Ended (read_statement {A = A}) FromSelect statement statement_to statement_from reads_from_select

  -- ---- its end

  abbrev EndPhrase : Token → Phrase
  EndPhrase e = (word kind.Semicolon then this kind.End e) or this kind.End e

  reads_ending : Reads Any read_ending EndPhrase
  unfolding read_ending same_kind
  reads_ending = reads_choice Any kind.Semicolon (expect kind.End) (expect kind.End) (this kind.End) (this kind.End)
      (λ t front rest s f. avoided kind.Semicolon (this kind.End t) (this_avoids kind.Semicolon kind.End t refl) front rest s) (reads_expect Any kind.End) (reads_expect Any kind.End)

  end_avoids : (k : TokenKind) → same_kind kind.Semicolon k ≡ false → same_kind kind.End k ≡ false → (e : Token) → Avoids k (EndPhrase e)
  end_avoids k s e t = or_avoids k (word kind.Semicolon then this kind.End t) (this kind.End t) (then_avoids k (word kind.Semicolon) (this kind.End t) (word_avoids k kind.Semicolon s)) (this_avoids k kind.End t e)

  -- a statement and its end, whatever follows
  abbrev front_of : Reader (Tree A)
  front_of = bind (read_statement {A = A}) (λ tree. into (λ e. tree) read_ending)

  abbrev FrontPhrase : Tree A → Phrase
  FrontPhrase = Bound statement (λ tree. Made (λ e. tree) EndPhrase)

  spells_to : (y : Tree A) (us : List Token) → FrontPhrase y us → Spells y us
  spells_to y us s = let (a, b, says, ends, all) = s.1 in subst (λ z. Spells z us) (sym ends.1) (go a b says ends.2 all)
    where
      go : (a b : List Token) → statement s.0 a → EndPhrase ((s.1).3).0 b → us ≡ a ++ b → Spells s.0 us
      go a b says (inl e) all = let (c, d, semicolon, end_, both) = e in (a, b, says, (c, d, inr semicolon, (((s.1).3).0, end_), both), all)
      go a b says (inr e) all = (a, b, says, ([], b, inl refl, (((s.1).3).0, e), refl), all)

  spells_from : (y : Tree A) (us : List Token) → Spells y us → FrontPhrase y us
  spells_from y us s = let (a, b, says, ends, all) = s in let (c, d, semicolon, end_, both) = ends in (y, (a, b, says, (end_.0, refl, go c d semicolon end_ both), all))
    where
      go : (c d : List Token) → (nothing or word kind.Semicolon) c → (end_ : word kind.End d) → (s.1 ≡ c ++ d) → EndPhrase end_.0 (s.1)
      go c d (inl none) end_ both = inr ((end_.1).0, both ∙ ap (λ (us : List Token). us ++ d) none ∙ (end_.1).1)
      go c d (inr semicolon) end_ both = inl (c, d, semicolon, end_.1, both)

  reads_front : Reads Any front_of Spells
  unfolding same_kind
  reads_front = reads_as Any front_of FrontPhrase Spells spells_to spells_from
      (reads_bind Ended Any (read_statement {A = A}) (λ tree. into (λ e. tree) read_ending) statement (λ tree. Made (λ e. tree) EndPhrase)
      (λ tree y front rest s f. (avoid kind.Comma refl refl tree y front rest s, avoid kind.And refl refl tree y front rest s, avoid kind.Where refl refl tree y front rest s))
      reads_statement (λ tree. reads_into Any (λ e. tree) read_ending EndPhrase reads_ending))
    where
      avoid : (k : TokenKind) → same_kind kind.Semicolon k ≡ false → same_kind kind.End k ≡ false → (tree y : Tree A) (front rest : List Token) → Made (λ e. tree) EndPhrase y front → Without k (front ++ rest)
      avoid k s e tree y front rest says = avoided k (Made (λ w. tree) EndPhrase y) (made_avoids k (λ w. tree) EndPhrase (end_avoids k s e) y) front rest says

  -- ---- all of the tokens

  same_whole : (ts : List Token) → whole ts ≡ all_of front_of ts
  unfolding whole
  same_whole ts = go (read_statement {A = A} ts)
    where
      go : (r : Answer (Tree A)) → (r >>= λ tree. read_ending tree.1 >>= λ end. nothing_left end.1 >>= λ left. Ok tree.0) ≡ ((r >>= λ p. into (λ e. p.0) read_ending p.1) >>= finish)
      go (Err z) = refl
      go (Ok p) = ended (read_ending p.1)
        where
          ended : (r : Answer Token) → (r >>= λ end. nothing_left end.1 >>= λ left. Ok p.0) ≡ ((r >>= λ q. Ok (p.0, q.1)) >>= finish)
          ended (Err z) = refl
          ended (Ok q) = refl

  pub reads_what_is_spelled : ReadsWhatIsSpelled A
  reads_what_is_spelled ts tree =
      (λ h. read_spelled front_of Spells reads_front ts tree (sym (same_whole ts) ∙ h), λ s. same_whole ts ∙ spelled_read front_of Spells reads_front ts tree s)

  pub spells_one_tree : SpellsOneTree A
  spells_one_tree ts tree other s t = ok_same tree other (sym (spelled_read front_of Spells reads_front ts tree s) ∙ spelled_read front_of Spells reads_front ts other t)

  pub refuses_the_first_fault : RefusesTheFirstFault A
  refuses_the_first_fault ts e h = let f = first_fault front_of Spells reads_front ts e (sym (same_whole ts) ∙ h) in go f f.rest refl
    where
      go : (f : FirstFault (Spells {A = A}) ts e) (rest : List Token) → f.rest ≡ rest
          → (before : List Token) × (rest : List Token) × (ts ≡ before ++ rest) × (e ≡ syntax_error rest) × BeginAStatement A before × NoneGoesOn A before rest
      go f [] k = (f.before, [], f.all ∙ ap (λ (us : List Token). f.before ++ us) k, f.place ∙ ap syntax_error k, f.begun, subst (λ us. NoneOn (Spells {A = A}) f.before us) k f.ends)
      go f (t ∷ us) k = (f.before, t ∷ us, f.all ∙ ap (λ (vs : List Token). f.before ++ vs) k, f.place ∙ ap syntax_error k, f.begun, subst (λ vs. NoneOn (Spells {A = A}) f.before vs) k f.ends)
