-- Each rule of the grammar reads the phrases that it is said to: the parts of a statement.
use Rattle.std.proofs.Common.{◌≡◌, Bool, true, false, cond, List, [], ◌∷◌, ◌++◌, inl, inr, Some, None, is_some, Ok, Err, refl, sym, ap, subst, ◌∙◌}
use Rattle.std.proofs.lemmas.Option.{same_Some}
use Rattle.statement.specs.declared.condition.Comparison.{Comparison}
use Rattle.statement.specs.declared.condition.Comparison.TheVariants as how
use Rattle.sqltext.specs.declared.token.TokenKind.{TokenKind}
use Rattle.sqltext.specs.declared.token.TokenKind.TheVariants as kind
use Rattle.sqltext.specs.declared.token.Token.{Token}
use Rattle.sqltext.specs.declared.tree.Name.{Name}
use Rattle.sqltext.specs.declared.tree.Literal.{Literal}
use Rattle.sqltext.specs.declared.tree.Literal.TheVariants.{Null, Number, Signed, Quoted}
use Rattle.sqltext.specs.declared.tree.Test.{Test}
use Rattle.sqltext.specs.declared.tree.Test.TheVariants.{Compare, Between, IsNull, IsNotNull}
use Rattle.sqltext.specs.declared.tree.Setting.{Setting}
use Rattle.sqltext.specs.declared.tree.Setting.TheVariants as set
use Rattle.sqltext.specs.Tokens.{same_kind}
use Rattle.sqltext.specs.Reading.{◌>>=◌, syntax_error, past, expect, list_of}
use Rattle.sqltext.specs.Grammar.{name as read_name, sign as read_sign, signed as read_signed, literal as read_literal, comparison_of, comparison as read_comparison, between as read_between, nullness as read_nullness, compared as read_compared, condition as read_condition, sum as read_sum, set_to as read_set_to, setting as read_setting, conditions as read_conditions}
use Rattle.sqltext.specs.Spelling.{Phrase, this, word, ◌then◌, ◌or◌, separated, name, sign, literal, comparison_sign, comparison, condition, setting, conditions}
use Rattle.sqltext.proofs.PhraseLemmas.{Answer, Reader, Reads, reads_same, reads_as, reads_where, bind, Bound, reads_bind, into, Made, reads_into, Any}
use Rattle.sqltext.proofs.ChoiceLemmas.{begins, Avoids, avoided, this_avoids, word_avoids, then_avoids, or_avoids, word_begins, this_begins, one, reads_one, reads_expect, after, reads_after, ahead, reads_ahead, choice, reads_choice, pure, Is, reads_pure}
use Rattle.sqltext.proofs.RepeatLemmas.{Without, reads_list}

pub made_avoids : {X Y : Type 0} (k : TokenKind) (make : X → Y) (S : X → Phrase) → ((x : X) → Avoids k (S x)) → (y : Y) → Avoids k (Made make S y)
made_avoids k make S h y us s = h s.0 us s.2

pub bound_avoids : {X Y : Type 0} (k : TokenKind) (S : X → Phrase) (T : X → Y → Phrase) → ((x : X) → Avoids k (S x)) → (y : Y) → Avoids k (Bound S T y)
bound_avoids k S T h y us s = then_avoids k (S s.0) (T s.0 y) (h s.0) us s.1

-- ---- names and literals

pub reads_name : Reads Any read_name name
unfolding read_name
reads_name = reads_as Any read_name (Made (λ t. record { 0 = t }) (this kind.Name)) name
    (λ n us s. subst (λ m. name m us) (sym s.1) s.2) (λ n us s. (n.0, refl, s))
    (reads_into Any (λ t. record { 0 = t }) (expect kind.Name) (this kind.Name) (reads_expect Any kind.Name))

pub reads_sign : Reads Any read_sign sign
unfolding read_sign same_kind
reads_sign = reads_ahead Any kind.Plus (expect kind.Plus) (expect kind.Minus) (this kind.Plus) (this kind.Minus)
    (λ t front rest s f. this_begins kind.Plus t front rest s) (λ t front rest s f. avoided kind.Plus (this kind.Minus t) (this_avoids kind.Plus kind.Minus t refl) front rest s)
    (reads_expect Any kind.Plus) (reads_expect Any kind.Minus)

abbrev SignedPhrase : Literal → Phrase
SignedPhrase = Bound sign (λ s. Made (λ n. Signed s n) (this kind.Number))

reads_signed : Reads Any read_signed SignedPhrase
unfolding read_signed
reads_signed = reads_bind Any Any read_sign (λ s. into (λ n. Signed s n) (expect kind.Number)) sign (λ s. Made (λ n. Signed s n) (this kind.Number)) (λ x y front rest s f. tt)
    reads_sign (λ s. reads_into Any (λ n. Signed s n) (expect kind.Number) (this kind.Number) (reads_expect Any kind.Number))

signed_avoids : (k : TokenKind) → same_kind kind.Plus k ≡ false → same_kind kind.Minus k ≡ false → (l : Literal) → Avoids k (SignedPhrase l)
signed_avoids k p m l = bound_avoids k sign (λ s. Made (λ n. Signed s n) (this kind.Number)) (λ s. or_avoids k (this kind.Plus s) (this kind.Minus s) (this_avoids k kind.Plus s p) (this_avoids k kind.Minus s m)) l

-- one token that is a literal
abbrev of_token : TokenKind → (Token → Literal) → Reader Literal
of_token k make = into make (expect k)

abbrev read_quoted : Reader Literal
read_quoted = ahead kind.Quoted (of_token kind.Quoted Quoted) read_signed

abbrev QuotedPhrase : Literal → Phrase
QuotedPhrase l = (λ us. Made Quoted (this kind.Quoted) l us) or SignedPhrase l

abbrev read_number : Reader Literal
read_number = ahead kind.Number (of_token kind.Number Number) read_quoted

abbrev NumberPhrase : Literal → Phrase
NumberPhrase l = (λ us. Made Number (this kind.Number) l us) or QuotedPhrase l

abbrev read_null : Reader Literal
read_null = ahead kind.Null (of_token kind.Null Null) read_number

abbrev NullPhrase : Literal → Phrase
NullPhrase l = (λ us. Made Null (this kind.Null) l us) or NumberPhrase l

same_literal : (ts : List Token) → read_literal ts ≡ read_null ts
unfolding read_literal past expect
same_literal [] = refl
same_literal (t ∷ ts) = go (same_kind t.kind kind.Null) (same_kind t.kind kind.Number) (same_kind t.kind kind.Quoted)
  where
    read : Bool → (Token → Literal) → Answer Literal
    read b make = cond {A = Answer Token} b (Ok (t, ts)) (Err (syntax_error (t ∷ ts))) >>= λ p. Ok (make p.0, p.1)

    go : (a b c : Bool) → cond a (Ok (Null t, ts)) (cond b (Ok (Number t, ts)) (cond c (Ok (Quoted t, ts)) (read_signed (t ∷ ts))))
        ≡ cond (is_some (cond a (Some ts) None)) (read a Null) (cond (is_some (cond b (Some ts) None)) (read b Number) (cond (is_some (cond c (Some ts) None)) (read c Quoted) (read_signed (t ∷ ts))))
    go true b c = refl
    go false true c = refl
    go false false true = refl
    go false false false = refl

reads_quoted : Reads Any read_quoted QuotedPhrase
unfolding same_kind
reads_quoted = reads_ahead Any kind.Quoted (of_token kind.Quoted Quoted) read_signed (Made Quoted (this kind.Quoted)) SignedPhrase
    (λ l front rest s f. this_begins kind.Quoted s.0 front rest s.2) (λ l front rest s f. avoided kind.Quoted (SignedPhrase l) (signed_avoids kind.Quoted refl refl l) front rest s)
    (reads_into Any Quoted (expect kind.Quoted) (this kind.Quoted) (reads_expect Any kind.Quoted)) reads_signed

quoted_avoids : (k : TokenKind) → same_kind kind.Quoted k ≡ false → same_kind kind.Plus k ≡ false → same_kind kind.Minus k ≡ false → (l : Literal) → Avoids k (QuotedPhrase l)
quoted_avoids k q p m l = or_avoids k (λ us. Made Quoted (this kind.Quoted) l us) (SignedPhrase l) (made_avoids k Quoted (this kind.Quoted) (λ t. this_avoids k kind.Quoted t q) l) (signed_avoids k p m l)

reads_number : Reads Any read_number NumberPhrase
unfolding same_kind
reads_number = reads_ahead Any kind.Number (of_token kind.Number Number) read_quoted (Made Number (this kind.Number)) QuotedPhrase
    (λ l front rest s f. this_begins kind.Number s.0 front rest s.2) (λ l front rest s f. avoided kind.Number (QuotedPhrase l) (quoted_avoids kind.Number refl refl refl l) front rest s)
    (reads_into Any Number (expect kind.Number) (this kind.Number) (reads_expect Any kind.Number)) reads_quoted

number_avoids : (k : TokenKind) → same_kind kind.Number k ≡ false → same_kind kind.Quoted k ≡ false → same_kind kind.Plus k ≡ false → same_kind kind.Minus k ≡ false
    → (l : Literal) → Avoids k (NumberPhrase l)
number_avoids k n q p m l = or_avoids k (λ us. Made Number (this kind.Number) l us) (QuotedPhrase l) (made_avoids k Number (this kind.Number) (λ t. this_avoids k kind.Number t n) l) (quoted_avoids k q p m l)

reads_null : Reads Any read_null NullPhrase
unfolding same_kind
reads_null = reads_ahead Any kind.Null (of_token kind.Null Null) read_number (Made Null (this kind.Null)) NumberPhrase
    (λ l front rest s f. this_begins kind.Null s.0 front rest s.2) (λ l front rest s f. avoided kind.Null (NumberPhrase l) (number_avoids kind.Null refl refl refl refl l) front rest s)
    (reads_into Any Null (expect kind.Null) (this kind.Null) (reads_expect Any kind.Null)) reads_number

literal_to : (l : Literal) (us : List Token) → NullPhrase l us → literal l us
literal_to l us (inl s) = subst (λ m. literal m us) (sym s.1) s.2
literal_to l us (inr (inl s)) = subst (λ m. literal m us) (sym s.1) s.2
literal_to l us (inr (inr (inl s))) = subst (λ m. literal m us) (sym s.1) s.2
literal_to l us (inr (inr (inr s))) =
    let (front, rest, first, second, all) = s.1 in
    subst (λ m. literal m us) (sym second.1) (front, rest, first, second.2, all)

literal_from : (l : Literal) (us : List Token) → literal l us → NullPhrase l us
literal_from (Null t) us s = inl (t, refl, s)
literal_from (Number t) us s = inr (inl (t, refl, s))
literal_from (Quoted t) us s = inr (inr (inl (t, refl, s)))
literal_from (Signed sign_ digits) us s =
    let (front, rest, first, second, all) = s in
    inr (inr (inr (sign_, (front, rest, first, (digits, refl, second), all))))

pub reads_literal : Reads Any read_literal literal
reads_literal = reads_as Any read_literal NullPhrase literal literal_to literal_from (reads_same Any read_null read_literal NullPhrase same_literal reads_null)

literal_avoids_name : (l : Literal) → Avoids kind.Name (literal l)
unfolding same_kind
literal_avoids_name (Null t) = this_avoids kind.Name kind.Null t refl
literal_avoids_name (Number t) = this_avoids kind.Name kind.Number t refl
literal_avoids_name (Quoted t) = this_avoids kind.Name kind.Quoted t refl
literal_avoids_name (Signed s n) = then_avoids kind.Name (sign s) (this kind.Number n) (or_avoids kind.Name (this kind.Plus s) (this kind.Minus s) (this_avoids kind.Name kind.Plus s refl) (this_avoids kind.Name kind.Minus s refl))

-- ---- conditions

sign_of : (k : TokenKind) (c : Comparison) → comparison_of k ≡ Some c → k ≡ comparison_sign c
sign_of kind.Equal c e = ap comparison_sign (same_Some how.Equal c e)
sign_of kind.NotEqual c e = ap comparison_sign (same_Some how.NotEqual c e)
sign_of kind.Less c e = ap comparison_sign (same_Some how.Less c e)
sign_of kind.LessOrEqual c e = ap comparison_sign (same_Some how.LessOrEqual c e)
sign_of kind.Greater c e = ap comparison_sign (same_Some how.Greater c e)
sign_of kind.GreaterOrEqual c e = ap comparison_sign (same_Some how.GreaterOrEqual c e)
sign_of _ c e = absurd (cc)

of_sign : (c : Comparison) → comparison_of (comparison_sign c) ≡ Some c
of_sign how.Equal = refl
of_sign how.NotEqual = refl
of_sign how.Less = refl
of_sign how.LessOrEqual = refl
of_sign how.Greater = refl
of_sign how.GreaterOrEqual = refl

same_comparison : (ts : List Token) → read_comparison ts ≡ one (λ t. comparison_of t.kind) ts
unfolding read_comparison
same_comparison [] = refl
same_comparison (t ∷ ts) = refl

reads_comparison : Reads Any read_comparison comparison
reads_comparison = reads_same Any (one (λ t. comparison_of t.kind)) read_comparison comparison same_comparison (reads_one Any (λ t. comparison_of t.kind) comparison
    (λ t c e. (t, (sign_of t.kind c e, refl)))
    (λ c us s. let (t, fact) = s in (t, fact.1, ap comparison_of fact.0 ∙ of_sign c))
    (let t : Token = record { kind = kind.Equal; start = 0; end = 0 } in (how.Equal, t ∷ [], (t, (refl, refl)))))

comparison_avoids_is : (c : Comparison) → Avoids kind.Is (comparison c)
unfolding same_kind
comparison_avoids_is how.Equal = word_avoids kind.Is kind.Equal refl
comparison_avoids_is how.NotEqual = word_avoids kind.Is kind.NotEqual refl
comparison_avoids_is how.Less = word_avoids kind.Is kind.Less refl
comparison_avoids_is how.LessOrEqual = word_avoids kind.Is kind.LessOrEqual refl
comparison_avoids_is how.Greater = word_avoids kind.Is kind.Greater refl
comparison_avoids_is how.GreaterOrEqual = word_avoids kind.Is kind.GreaterOrEqual refl

comparison_avoids_between : (c : Comparison) → Avoids kind.Between (comparison c)
unfolding same_kind
comparison_avoids_between how.Equal = word_avoids kind.Between kind.Equal refl
comparison_avoids_between how.NotEqual = word_avoids kind.Between kind.NotEqual refl
comparison_avoids_between how.Less = word_avoids kind.Between kind.Less refl
comparison_avoids_between how.LessOrEqual = word_avoids kind.Between kind.LessOrEqual refl
comparison_avoids_between how.Greater = word_avoids kind.Between kind.Greater refl
comparison_avoids_between how.GreaterOrEqual = word_avoids kind.Between kind.GreaterOrEqual refl

module _ (column : Name) where
  abbrev BetweenPhrase : Test → Phrase
  BetweenPhrase = Bound literal (λ low y. word kind.And then Made (λ high. Between column low high) literal y)

  reads_between : Reads Any (read_between column) BetweenPhrase
  unfolding read_between
  reads_between = reads_bind Any Any read_literal (λ low. after kind.And (into (λ high. Between column low high) read_literal)) literal
      (λ low y. word kind.And then Made (λ high. Between column low high) literal y) (λ x y front rest s f. tt) reads_literal
      (λ low. reads_after Any kind.And (into (λ high. Between column low high) read_literal) (Made (λ high. Between column low high) literal) (reads_into Any (λ high. Between column low high) read_literal literal reads_literal))

  abbrev NullnessPhrase : Test → Phrase
  NullnessPhrase y = (word kind.Not then Made (λ w. IsNotNull column) (this kind.Null) y) or (λ us. Made (λ w. IsNull column) (this kind.Null) y us)

  reads_nullness : Reads Any (read_nullness column) NullnessPhrase
  unfolding read_nullness same_kind
  reads_nullness = reads_choice Any kind.Not (into (λ w. IsNotNull column) (expect kind.Null)) (into (λ w. IsNull column) (expect kind.Null))
      (Made (λ w. IsNotNull column) (this kind.Null)) (Made (λ w. IsNull column) (this kind.Null))
      (λ y front rest s f. avoided kind.Not (Made (λ w. IsNull column) (this kind.Null) y) (made_avoids kind.Not (λ w. IsNull column) (this kind.Null) (λ t. this_avoids kind.Not kind.Null t refl) y) front rest s)
      (reads_into Any (λ w. IsNotNull column) (expect kind.Null) (this kind.Null) (reads_expect Any kind.Null))
      (reads_into Any (λ w. IsNull column) (expect kind.Null) (this kind.Null) (reads_expect Any kind.Null))

  abbrev ComparedPhrase : Test → Phrase
  ComparedPhrase = Bound comparison (λ c. Made (λ l. Compare column c l) literal)

  reads_compared : Reads Any (read_compared column) ComparedPhrase
  unfolding read_compared
  reads_compared = reads_bind Any Any read_comparison (λ c. into (λ l. Compare column c l) read_literal) comparison (λ c. Made (λ l. Compare column c l) literal) (λ x y front rest s f. tt)
      reads_comparison (λ c. reads_into Any (λ l. Compare column c l) read_literal literal reads_literal)

  abbrev TestedPhrase : Test → Phrase
  TestedPhrase y = (word kind.Is then NullnessPhrase y) or ComparedPhrase y

  abbrev OnColumn : Test → Phrase
  OnColumn y = (word kind.Between then BetweenPhrase y) or TestedPhrase y

  abbrev read_on_column : Reader Test
  read_on_column = choice kind.Between (read_between column) (choice kind.Is (read_nullness column) (read_compared column))

  reads_on_column : Reads Any read_on_column OnColumn
  unfolding same_kind
  reads_on_column = reads_choice Any kind.Between (read_between column) (choice kind.Is (read_nullness column) (read_compared column)) BetweenPhrase TestedPhrase
      (λ y front rest s f. avoided kind.Between (TestedPhrase y) (or_avoids kind.Between (word kind.Is then NullnessPhrase y) (ComparedPhrase y)
      (then_avoids kind.Between (word kind.Is) (NullnessPhrase y) (word_avoids kind.Between kind.Is refl))
      (bound_avoids kind.Between comparison (λ c. Made (λ l. Compare column c l) literal) comparison_avoids_between y)) front rest s)
      reads_between
      (reads_choice Any kind.Is (read_nullness column) (read_compared column) NullnessPhrase ComparedPhrase
      (λ y front rest s f. avoided kind.Is (ComparedPhrase y) (bound_avoids kind.Is comparison (λ c. Made (λ l. Compare column c l) literal) comparison_avoids_is y) front rest s)
      reads_nullness reads_compared)

condition_to : (y : Test) (us : List Token) → Bound name OnColumn y us → condition y us
condition_to y us s = let (a, b, named, tested, all) = s.1 in go a b named tested all
  where
    go : (a b : List Token) → name s.0 a → OnColumn s.0 y b → us ≡ a ++ b → condition y us
    go a b named (inl t) all =
        let (c, d, first, second, both) = t in
        let (low, lows) = second in
        let (e, f, low_says, ands, rest) = lows in
        let (g, h, and_says, highs, last) = ands in
        subst (λ z. condition z us) (sym highs.1) (a, b, named, (c, d, first, (e, f, low_says, (g, h, and_says, highs.2, last), rest), both), all)
    go a b named (inr (inl t)) all = let (c, d, first, second, both) = t in null_or_not c d first second both
      where
        null_or_not : (c d : List Token) → word kind.Is c → NullnessPhrase s.0 y d → b ≡ c ++ d → condition y us
        null_or_not c d first (inl n) both =
            let (e, f, not_says, nulls, rest) = n in
            subst (λ z. condition z us) (sym nulls.1) (a, b, named, (c, d, first, (e, f, not_says, (nulls.0, nulls.2), rest), both), all)
        null_or_not c d first (inr n) both = subst (λ z. condition z us) (sym n.1) (a, b, named, (c, d, first, (n.0, n.2), both), all)
    go a b named (inr (inr t)) all =
        let (c, d, first, second, both) = t.1 in
        subst (λ z. condition z us) (sym second.1) (a, b, named, (c, d, first, second.2, both), all)

condition_from : (y : Test) (us : List Token) → condition y us → Bound name OnColumn y us
condition_from (Compare column c l) us s =
    let (a, b, named, compared, all) = s in
    let (e, f, first, second, both) = compared in
    (column, (a, b, named, inr (inr (c, (e, f, first, (l, refl, second), both))), all))
condition_from (Between column low high) us s =
    let (a, b, named, between, all) = s in
    let (c, d, first, second, both) = between in
    let (e, f, low_says, ands, rest) = second in
    let (g, h, and_says, high_says, last) = ands in
    (column, (a, b, named, inl (c, d, first, (low, (e, f, low_says, (g, h, and_says, (high, refl, high_says), last), rest)), both), all))
condition_from (IsNull column) us s =
    let (a, b, named, is, all) = s in
    let (c, d, first, null, both) = is in
    (column, (a, b, named, inr (inl (c, d, first, inr (null.0, refl, null.1), both)), all))
condition_from (IsNotNull column) us s =
    let (a, b, named, is, all) = s in
    let (c, d, first, nots, both) = is in
    let (e, f, not_says, null, rest) = nots in
    (column, (a, b, named, inr (inl (c, d, first, inl (e, f, not_says, (null.0, refl, null.1), rest), both)), all))

pub reads_condition : Reads Any read_condition condition
unfolding read_condition
reads_condition = reads_as Any read_condition (Bound name OnColumn) condition condition_to condition_from
    (reads_bind Any Any read_name read_on_column name OnColumn (λ x y front rest s f. tt) reads_name reads_on_column)

-- a list of conditions is followed by nothing that would go on with it
abbrev pub EndsConditions : List Token → Type 0
EndsConditions rest = Without kind.And rest × Without kind.Where rest

abbrev ConditionsPhrase : List Test → Phrase
ConditionsPhrase xs = (word kind.Where then separated kind.And condition xs) or Is [] xs

conditions_to : (xs : List Test) (us : List Token) → ConditionsPhrase xs us → conditions xs us
conditions_to [] us (inl s) = let (a, b, first, second, all) = s in absurd second
conditions_to (c ∷ cs) us (inl s) = s
conditions_to xs us (inr s) = subst (λ ys. conditions ys us) (sym s.0) s.1

conditions_from : (xs : List Test) (us : List Token) → conditions xs us → ConditionsPhrase xs us
conditions_from [] us s = inr (refl, s)
conditions_from (c ∷ cs) us s = inl s

pub reads_conditions : Reads EndsConditions read_conditions conditions
unfolding read_conditions
reads_conditions = reads_as EndsConditions read_conditions ConditionsPhrase conditions conditions_to conditions_from
    (reads_choice EndsConditions kind.Where (list_of kind.And read_condition) (pure []) (separated kind.And condition) (Is [])
    (λ xs front rest s f. subst (λ us. begins kind.Where (us ++ rest) ≡ false) (sym s.1) f.1)
    (reads_where (Without kind.And) EndsConditions (list_of kind.And read_condition) (separated kind.And condition) (λ us f. f.0) (reads_list kind.And read_condition condition reads_condition))
    (reads_pure EndsConditions []))

-- ---- assignments

module _ (column : Name) where
  abbrev SumPhrase : Setting → Phrase
  SumPhrase = Bound name (λ source. Bound sign (λ s. Made (λ n. set.Sum column source s n) (this kind.Number)))

  reads_sum : Reads Any (read_sum column) SumPhrase
  unfolding read_sum
  reads_sum = reads_bind Any Any read_name (λ source. bind read_sign (λ s. into (λ n. set.Sum column source s n) (expect kind.Number))) name
      (λ source. Bound sign (λ s. Made (λ n. set.Sum column source s n) (this kind.Number))) (λ x y front rest s f. tt) reads_name
      (λ source. reads_bind Any Any read_sign (λ s. into (λ n. set.Sum column source s n) (expect kind.Number)) sign (λ s. Made (λ n. set.Sum column source s n) (this kind.Number)) (λ x y front rest s f. tt) reads_sign
      (λ s. reads_into Any (λ n. set.Sum column source s n) (expect kind.Number) (this kind.Number) (reads_expect Any kind.Number)))

  abbrev SetTo : Setting → Phrase
  SetTo y = (λ us. SumPhrase y us) or Made (λ l. set.Literal column l) literal y

  reads_set_to : Reads Any (read_set_to column) SetTo
  unfolding read_set_to
  reads_set_to = reads_ahead Any kind.Name (read_sum column) (into (λ l. set.Literal column l) read_literal) SumPhrase (Made (λ l. set.Literal column l) literal)
      (λ y front rest s f. let (a, b, first, second, all) = s.1 in begun (s.0).0 a b front rest first all)
      (λ y front rest s f. avoided kind.Name (Made (λ l. set.Literal column l) literal y) (made_avoids kind.Name (λ l. set.Literal column l) literal literal_avoids_name y) front rest s)
      reads_sum (reads_into Any (λ l. set.Literal column l) read_literal literal reads_literal)
    where
      begun : (t : Token) (a b front rest : List Token) → this kind.Name t a → front ≡ a ++ b → begins kind.Name (front ++ rest) ≡ true
      begun t a b front rest s all = word_begins kind.Name (λ us. us ≡ b) front rest (a, b, (t, s), refl, all)

setting_to : (y : Setting) (us : List Token) → Bound name (λ column z. word kind.Equal then SetTo column z) y us → setting y us
setting_to y us s = let (a, b, named, sets, all) = s.1 in let (c, d, first, second, both) = sets in go a b c d named first second both all
  where
    go : (a b c d : List Token) → name s.0 a → word kind.Equal c → SetTo s.0 y d → b ≡ c ++ d → us ≡ a ++ b → setting y us
    go a b c d named first (inl t) both all =
        let (e, f, source, signed, rest) = t.1 in
        let (g, h, sign_says, digits, last) = signed.1 in
        subst (λ z. setting z us) (sym digits.1) (a, b, named, (c, d, first, (e, f, source, (g, h, sign_says, digits.2, last), rest), both), all)
    go a b c d named first (inr t) both all = subst (λ z. setting z us) (sym t.1) (a, b, named, (c, d, first, t.2, both), all)

setting_from : (y : Setting) (us : List Token) → setting y us → Bound name (λ column z. word kind.Equal then SetTo column z) y us
setting_from (set.Literal column l) us s =
    let (a, b, named, sets, all) = s in
    let (c, d, first, second, both) = sets in
    (column, (a, b, named, (c, d, first, inr (l, refl, second), both), all))
setting_from (set.Sum column source sign_ digits) us s =
    let (a, b, named, sets, all) = s in
    let (c, d, first, second, both) = sets in
    let (e, f, source_says, signed, rest) = second in
    let (g, h, sign_says, number_says, last) = signed in
    (column, (a, b, named, (c, d, first, inl (source, (e, f, source_says, (sign_, (g, h, sign_says, (digits, refl, number_says), last)), rest)), both), all))

pub reads_setting : Reads Any read_setting setting
unfolding read_setting
reads_setting = reads_as Any read_setting (Bound name (λ column z. word kind.Equal then SetTo column z)) setting setting_to setting_from
    (reads_bind Any Any read_name (λ column. after kind.Equal (read_set_to column)) name (λ column z. word kind.Equal then SetTo column z) (λ x y front rest s f. tt) reads_name
    (λ column. reads_after Any kind.Equal (read_set_to column) (SetTo column) (reads_set_to column)))
