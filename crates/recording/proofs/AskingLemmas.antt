-- What a script's line asks for, as a transcript's reader has it.
use Rattle.std.proofs.Common.{◌≡◌, ℕ, zero, suc, ◌+◌, ◌-◌, ◌<◌, ◌≤◌, ◌^◌, Bool, true, false, true≢false, cond, eqb, leb, ltb, ◌&&◌, ◌||◌, List, [], ◌∷◌, ◌++◌, length, take, drop, get_or, Option, Some, None, Result, Ok, Err, refl, sym, ap, subst, ◌∙◌, arith}
use Rattle.std.specs.Prelude.{codes, is_some, nat_lt, not, slice_index}
use Rattle.std.specs.Char.{is_ascii_digit}
use Rattle.std.specs.List.{after_first, before_first, list_all, list_any, position_or_len, prefix_len}
use Rattle.std.specs.Option.{option_map}
use Rattle.std.specs.Str.{IsUtf8, bytes_eq, is_utf8}
use Rattle.std.specs.Str.Parse.{digits_value}
use Rattle.std.proofs.lemmas.Bool.{and_parts, eqb-true, le-leb, leb-true, ltb-true}
use Rattle.std.proofs.lemmas.Slice.Eq.{bytes_eq-Decides}
use Rattle.std.proofs.lemmas.Str.{IsUtf8-append, IsUtf8-from_is_utf8}
use Rattle.value.specs.declared.refusal.Refusal.{Refusal}
use Rattle.value.specs.declared.refusal.Mode.TheVariants.{Deferrable, ReadOnly, ReadWrite}
use Rattle.schema.specs.Definition.{Catalog}
use Rattle.statement.specs.declared.statement.Statement.{Statement}
use Rattle.sqltext.specs.Parsed.{parsed}
use Rattle.request.specs.Requests.{asked as action_of, spoken as spoken_action}
use Rattle.request.specs.declared.request.Request.{Request}
use Rattle.request.specs.declared.request.Request.TheVariants as request
use Rattle.script.specs.Commands.{◌>>=◌, argued, before_last, begins_command, command_of, cut, dump_of, import_of, is_digits, jobs_of, number_of, path_of, piece_rows_of, request_of, session_of, sql_of, text_of, up_to, wait_of, with_argument, worded}
use Rattle.script.specs.Scripts.{session_step}
use Rattle.script.specs.declared.command.Command.{Command}
use Rattle.script.specs.declared.command.Command.TheVariants as command
use Rattle.script.specs.declared.schedule.Schedule.{Schedule}
use Rattle.script.specs.declared.schedule.Schedule.TheVariants.{InOrder, Free}
use Rattle.script.specs.declared.script.Step.TheVariants.{Session}
use Rattle.script.proofs.NumberLemmas.{IsUtf8-digits}
use Rattle.transcript.specs.Asking.{asked, asked_by, spoken}
use Rattle.transcript.specs.Sessions.{session_in}
use Rattle.recording.proofs.SayingLemmas.{IsSession}
use Rattle.recording.proofs.TextLemmas.{IsPlain, IsUtf8-plain}
use Rattle.recording.proofs.TurnLemmas.{asks_for}

-- ---- a text is what it was cut into

split_front : (p : ℕ → Bool) (text : List ℕ) → position_or_len p text < length text
    → text ≡ take (position_or_len p text) text ++ get_or text (position_or_len p text) 0 ∷ drop (position_or_len p text + 1) text
split_front p text l = go (position_or_len p text) text l
  where
    go : (k : ℕ) (t : List ℕ) → k < length t → t ≡ take k t ++ get_or t k 0 ∷ drop (k + 1) t
    go k [] l = absurd (omega (arith, l))
    go zero (b ∷ t) l = refl
    go (suc k) (b ∷ t) l =
        let next : suc k + 1 ≡ suc (k + 1) = omega arith in
        ap (λ (x : List ℕ). b ∷ x) (go k t (omega (arith, l))) ∙ ap (λ n. b ∷ (take k t ++ get_or t k 0 ∷ drop n (b ∷ t))) (sym next)

-- the byte at which a text is cut
byte_there : (c : ℕ) (text : List ℕ) → position_or_len (λ b. eqb b c) text < length text → get_or text (position_or_len (λ b. eqb b c) text) 0 ≡ c
byte_there c [] l = absurd (omega (arith, l))
byte_there c (b ∷ text) l = go (eqb b c) refl (λ h. byte_there c text h) l
  where
    go : (t : Bool) → eqb b c ≡ t → (position_or_len (λ x. eqb x c) text < length text → get_or text (position_or_len (λ x. eqb x c) text) 0 ≡ c)
        → cond (not t) (1 + prefix_len (λ x. not (eqb x c)) text) 0 < length (b ∷ text)
        → get_or (b ∷ text) (cond (not t) (1 + prefix_len (λ x. not (eqb x c)) text) 0) 0 ≡ c
    go true e rest h = eqb-true b c e
    go false e rest h =
        let one : 1 + prefix_len (λ x. not (eqb x c)) text ≡ suc (prefix_len (λ x. not (eqb x c)) text) = omega arith in
        ap (λ n. get_or (b ∷ text) n 0) one ∙ rest (omega (arith, h, one))

pub cut_is : (c : ℕ) (text : List ℕ) (p : List ℕ × List ℕ) → cut c text ≡ Some p → text ≡ p.0 ++ c ∷ p.1
cut_is c text p e = go (nat_lt (position_or_len (λ b. eqb b c) text) (length text)) refl e
  where
    go : (b : Bool) → nat_lt (position_or_len (λ x. eqb x c) text) (length text) ≡ b
        → cond b (Some (before_first (λ x. eqb x c) text, after_first (λ x. eqb x c) text)) None ≡ Some p → text ≡ p.0 ++ c ∷ p.1
    go false h f = absurd cc
    go true h f =
        let l : position_or_len (λ b. eqb b c) text < length text = ltb-true _ _ h in
        let same : (before_first (λ b. eqb b c) text, after_first (λ b. eqb b c) text) ≡ p = cc in
        let front : before_first (λ b. eqb b c) text ≡ p.0 = ap (λ (q : List ℕ × List ℕ). q.0) same in
        let behind : after_first (λ b. eqb b c) text ≡ p.1 = ap (λ (q : List ℕ × List ℕ). q.1) same in
        split_front (λ b. eqb b c) text l
        ∙ ap (λ x. before_first (λ b. eqb b c) text ++ x ∷ after_first (λ b. eqb b c) text) (byte_there c text l)
        ∙ ap (λ (a : List ℕ). a ++ c ∷ after_first (λ b. eqb b c) text) front
        ∙ ap (λ (a : List ℕ). p.0 ++ c ∷ a) behind

last_is : (b : ℕ) (bs : List ℕ) → b ∷ bs ≡ take (length (b ∷ bs) - 1) (b ∷ bs) ++ get_or (b ∷ bs) (length (b ∷ bs) - 1) 0 ∷ []
last_is b [] = refl
last_is b (d ∷ bs) =
    let n : length (b ∷ d ∷ bs) - 1 ≡ suc (length (d ∷ bs) - 1) = omega arith in
    ap (λ (x : List ℕ). b ∷ x) (last_is d bs)
    ∙ ap (λ k. take k (b ∷ d ∷ bs) ++ get_or (b ∷ d ∷ bs) k 0 ∷ []) (sym n)

pub before_last_is : (c : ℕ) (text front : List ℕ) → 0 < c → before_last c text ≡ Some front → text ≡ front ++ c ∷ []
before_last_is c [] front some e = absurd (none (eqb 0 c) refl e)
  where
    none : (b : Bool) → eqb 0 c ≡ b → cond b (Some []) None ≡ Some front → ⊥
    none true h f = let z = eqb-true 0 c h in absurd (omega (arith, some, z))
    none false h f = absurd cc
before_last_is c (b ∷ bs) front some e = go (eqb (get_or (b ∷ bs) (length (b ∷ bs) - 1) 0) c) refl e
  where
    go : (t : Bool) → eqb (get_or (b ∷ bs) (length (b ∷ bs) - 1) 0) c ≡ t → cond t (Some (take (length (b ∷ bs) - 1) (b ∷ bs))) None ≡ Some front → b ∷ bs ≡ front ++ c ∷ []
    go true h f =
        let same : take (length (b ∷ bs) - 1) (b ∷ bs) ≡ front = cc in
        last_is b bs ∙ ap (λ (a : List ℕ). a ++ get_or (b ∷ bs) (length (b ∷ bs) - 1) 0 ∷ []) same ∙ ap (λ x. front ++ x ∷ []) (eqb-true _ c h)
    go false h f = absurd cc

-- ---- texts that are read are UTF-8

number_utf8 : (text : List ℕ) (n : ℕ) → number_of text ≡ Some n → IsUtf8 text
number_utf8 text n e = IsUtf8-digits text (go (is_digits text) (nat_lt (digits_value 10 text) (2 ^ 64)) refl e)
  where
    go : (a b : Bool) → is_digits text ≡ a → cond (a && b) (Some (digits_value 10 text)) None ≡ Some n → is_digits text ≡ true
    go true b h f = h
    go false b h f = absurd cc

up_to_utf8 : (text : List ℕ) (most n : ℕ) → up_to most (number_of text) ≡ Some n → IsUtf8 text
up_to_utf8 text most n e = go (number_of text) refl e
  where
    go : (o : Option ℕ) → number_of text ≡ o → up_to most o ≡ Some n → IsUtf8 text
    go None h f = absurd cc
    go (Some k) h f = number_utf8 text k h

pub text_utf8 : (bytes text : List ℕ) → text_of bytes ≡ Some text → IsUtf8 bytes
text_utf8 bytes text e = go (is_utf8 bytes) refl e
  where
    go : (b : Bool) → is_utf8 bytes ≡ b → cond b (Some bytes) None ≡ Some text → IsUtf8 bytes
    go true h f = IsUtf8-from_is_utf8 bytes h
    go false h f = absurd cc

pub path_utf8 : (bytes path : List ℕ) → path_of bytes ≡ Some path → IsUtf8 bytes
path_utf8 bytes path e = go (eqb (length bytes) 0 || list_any (λ b. eqb b 32) bytes) e
  where
    go : (b : Bool) → cond b None (text_of bytes) ≡ Some path → IsUtf8 bytes
    go true f = absurd cc
    go false f = text_utf8 bytes path f

-- a number of a session
pub session_is : (text : List ℕ) (s : ℕ) → session_of text ≡ Some s → IsSession s × IsUtf8 text × (is_ascii_digit (slice_index text 0) ≡ true)
session_is text s e = first (eqb (slice_index text 0) 48) e
  where
    bounds : (n : ℕ) → up_to 64 (Some n) ≡ Some s → IsSession s
    bounds n f = go (ltb 0 n) (leb n 64) refl refl f
      where
        go : (a b : Bool) → ltb 0 n ≡ a → leb n 64 ≡ b → cond (a && b) (Some n) None ≡ Some s → IsSession s
        go true true h k g =
            let same : n ≡ s = cc in
            record { low = subst (λ x. 0 < x) same (ltb-true 0 n h); high = subst (λ x. x ≤ 64) same (leb-true n 64 k) }
        go true false h k g = absurd cc
        go false b h k g = absurd cc

    begins : (t : List ℕ) → is_digits t ≡ true → is_ascii_digit (slice_index t 0) ≡ true
    begins [] h = absurd (true≢false (sym h))
    begins (b ∷ t) h = (and_parts (is_ascii_digit b) (list_all is_ascii_digit t) (and_parts (ltb 0 (length (b ∷ t))) (list_all is_ascii_digit (b ∷ t)) h).1).0

    digits : (n : ℕ) → number_of text ≡ Some n → is_digits text ≡ true
    digits n f = go (is_digits text) (nat_lt (digits_value 10 text) (2 ^ 64)) refl f
      where
        go : (a b : Bool) → is_digits text ≡ a → cond (a && b) (Some (digits_value 10 text)) None ≡ Some n → is_digits text ≡ true
        go true b h g = h
        go false b h g = absurd cc

    second : (o : Option ℕ) → number_of text ≡ o → up_to 64 o ≡ Some s → IsSession s × IsUtf8 text × (is_ascii_digit (slice_index text 0) ≡ true)
    second None h f = absurd cc
    second (Some n) h f = (bounds n f, number_utf8 text n h, begins text (digits n h))

    first : (b : Bool) → cond b None (up_to 64 (number_of text)) ≡ Some s → IsSession s × IsUtf8 text × (is_ascii_digit (slice_index text 0) ≡ true)
    first true f = absurd cc
    first false f = second (number_of text) refl f

-- a transcript has more sessions than a script
session_wider : (text : List ℕ) (s : ℕ) → session_of text ≡ Some s → session_in text ≡ Some s
session_wider text s e = first (eqb (slice_index text 0) 48) e
  where
    second : (o : Option ℕ) → up_to 64 o ≡ Some s → up_to 4294967295 o ≡ Some s
    second None f = absurd cc
    second (Some n) f = go (ltb 0 n) (leb n 64) refl f
      where
        go : (a b : Bool) → leb n 64 ≡ b → cond (a && b) (Some n) None ≡ Some s → cond (a && leb n 4294967295) (Some n) None ≡ Some s
        go true true h g =
            let low : n ≤ 64 = leb-true n 64 h in
            ap (λ b. cond b (Some n) None) (le-leb n 4294967295 (omega (arith, low))) ∙ g
        go true false h g = absurd cc
        go false b h g = absurd cc

    first : (b : Bool) → cond b None (up_to 64 (number_of text)) ≡ Some s → cond b None (up_to 4294967295 (number_of text)) ≡ Some s
    first true f = absurd cc
    first false f = second (number_of text) f

-- a word that is known
word_utf8 : (text word : List ℕ) → IsPlain word → bytes_eq text word ≡ true → IsUtf8 text
word_utf8 text word h e = subst IsUtf8 (sym ((bytes_eq-Decides text word).0 e)) (IsUtf8-plain word h)

-- a text that is cut in two that are UTF-8 at an ASCII byte
cut_utf8 : (c : ℕ) (text : List ℕ) (p : List ℕ × List ℕ) → IsPlain (c ∷ []) → cut c text ≡ Some p → IsUtf8 p.0 → IsUtf8 p.1 → IsUtf8 text
cut_utf8 c text p plain e front behind = subst IsUtf8 (sym (cut_is c text p e)) (IsUtf8-append p.0 (c ∷ p.1) front (IsUtf8-append (c ∷ []) p.1 (IsUtf8-plain (c ∷ []) plain) behind))

starts : (a b : List ℕ) → is_ascii_digit (slice_index a 0) ≡ true → is_ascii_digit (slice_index (a ++ b) 0) ≡ true
starts [] b h = absurd (true≢false (sym h))
starts (x ∷ a) b h = h

module _ {A : Type 0} where
  -- ---- commands

  request_utf8 : (text : List ℕ) (q : Request A) → request_of text ≡ Some q → IsUtf8 text
  request_utf8 text q e = step1 (bytes_eq text (codes "BEGIN")) refl e
    where
      step8 : (b : Bool) → bytes_eq text (codes "PRUNE") ≡ b → cond b (Some request.Prune) None ≡ Some q → IsUtf8 text
      step8 true h f = word_utf8 text (codes "PRUNE") refl h
      step8 false h f = absurd cc

      step7 : (b : Bool) → bytes_eq text (codes "ROLLBACK") ≡ b → cond b (Some request.Rollback) (cond (bytes_eq text (codes "PRUNE")) (Some request.Prune) None) ≡ Some q → IsUtf8 text
      step7 true h f = word_utf8 text (codes "ROLLBACK") refl h
      step7 false h f = step8 (bytes_eq text (codes "PRUNE")) refl f

      step6 : (b : Bool) → bytes_eq text (codes "COMMIT") ≡ b → cond b (Some request.Commit) (cond (bytes_eq text (codes "ROLLBACK")) (Some request.Rollback) (cond (bytes_eq text (codes "PRUNE")) (Some request.Prune) None)) ≡ Some q → IsUtf8 text
      step6 true h f = word_utf8 text (codes "COMMIT") refl h
      step6 false h f = step7 (bytes_eq text (codes "ROLLBACK")) refl f

      rest6 : Option (Request A)
      rest6 = cond (bytes_eq text (codes "COMMIT")) (Some request.Commit) (cond (bytes_eq text (codes "ROLLBACK")) (Some request.Rollback) (cond (bytes_eq text (codes "PRUNE")) (Some request.Prune) None))

      step5 : (b : Bool) → bytes_eq text (codes "EXPORT") ≡ b → cond b (Some request.Export) rest6 ≡ Some q → IsUtf8 text
      step5 true h f = word_utf8 text (codes "EXPORT") refl h
      step5 false h f = step6 (bytes_eq text (codes "COMMIT")) refl f

      step4 : (b : Bool) → bytes_eq text (codes "POLL") ≡ b → cond b (Some request.Poll) (cond (bytes_eq text (codes "EXPORT")) (Some request.Export) rest6) ≡ Some q → IsUtf8 text
      step4 true h f = word_utf8 text (codes "POLL") refl h
      step4 false h f = step5 (bytes_eq text (codes "EXPORT")) refl f

      rest4 : Option (Request A)
      rest4 = cond (bytes_eq text (codes "POLL")) (Some request.Poll) (cond (bytes_eq text (codes "EXPORT")) (Some request.Export) rest6)

      step3 : (b : Bool) → bytes_eq text (codes "BEGIN READ ONLY DEFERRABLE") ≡ b → cond b (Some (request.Begin Deferrable)) rest4 ≡ Some q → IsUtf8 text
      step3 true h f = word_utf8 text (codes "BEGIN READ ONLY DEFERRABLE") refl h
      step3 false h f = step4 (bytes_eq text (codes "POLL")) refl f

      step2 : (b : Bool) → bytes_eq text (codes "BEGIN READ ONLY") ≡ b → cond b (Some (request.Begin ReadOnly)) (cond (bytes_eq text (codes "BEGIN READ ONLY DEFERRABLE")) (Some (request.Begin Deferrable)) rest4) ≡ Some q → IsUtf8 text
      step2 true h f = word_utf8 text (codes "BEGIN READ ONLY") refl h
      step2 false h f = step3 (bytes_eq text (codes "BEGIN READ ONLY DEFERRABLE")) refl f

      step1 : (b : Bool) → bytes_eq text (codes "BEGIN") ≡ b → cond b (Some (request.Begin ReadWrite)) (cond (bytes_eq text (codes "BEGIN READ ONLY")) (Some (request.Begin ReadOnly)) (cond (bytes_eq text (codes "BEGIN READ ONLY DEFERRABLE")) (Some (request.Begin Deferrable)) rest4)) ≡ Some q → IsUtf8 text
      step1 true h f = word_utf8 text (codes "BEGIN") refl h
      step1 false h f = step2 (bytes_eq text (codes "BEGIN READ ONLY")) refl f

  import_utf8 : (text : List ℕ) (d : Command A) → import_of text ≡ Some d → IsUtf8 text
  unfolding import_of
  import_utf8 text d e = go (number_of text) refl e
    where
      go : (o : Option ℕ) → number_of text ≡ o → (o >>= λ n. Some (command.Ask (request.Import n))) ≡ Some d → IsUtf8 text
      go None h f = absurd cc
      go (Some n) h f = number_utf8 text n h

  dump_utf8 : (text : List ℕ) (d : Command A) → dump_of text ≡ Some d → IsUtf8 text
  unfolding dump_of
  dump_utf8 text d e = first (cut 32 text) refl e
    where
      fourth : (p q : List ℕ × List ℕ) (jobs rows : ℕ) → cut 32 text ≡ Some p → cut 32 p.1 ≡ Some q → jobs_of p.0 ≡ Some jobs → piece_rows_of q.0 ≡ Some rows → (o : Option (List ℕ)) → path_of q.1 ≡ o
          → (o >>= λ path. Some (command.Dump (record { jobs = jobs; rows = rows; path = path }))) ≡ Some d → IsUtf8 text
      fourth p q jobs rows h k j r None g f = absurd cc
      fourth p q jobs rows h k j r (Some path) g f =
          cut_utf8 32 text p refl h (up_to_utf8 p.0 64 jobs j) (cut_utf8 32 p.1 q refl k (up_to_utf8 q.0 1000000 rows r) (path_utf8 q.1 path g))

      third : (p q : List ℕ × List ℕ) (jobs : ℕ) → cut 32 text ≡ Some p → cut 32 p.1 ≡ Some q → jobs_of p.0 ≡ Some jobs → (o : Option ℕ) → piece_rows_of q.0 ≡ o
          → (o >>= λ rows. path_of q.1 >>= λ path. Some (command.Dump (record { jobs = jobs; rows = rows; path = path }))) ≡ Some d → IsUtf8 text
      third p q jobs h k j None g f = absurd cc
      third p q jobs h k j (Some rows) g f = fourth p q jobs rows h k j g (path_of q.1) refl f

      also : (p q : List ℕ × List ℕ) → cut 32 text ≡ Some p → cut 32 p.1 ≡ Some q → (o : Option ℕ) → jobs_of p.0 ≡ o
          → (o >>= λ jobs. piece_rows_of q.0 >>= λ rows. path_of q.1 >>= λ path. Some (command.Dump (record { jobs = jobs; rows = rows; path = path }))) ≡ Some d → IsUtf8 text
      also p q h k None g f = absurd cc
      also p q h k (Some jobs) g f = third p q jobs h k g (piece_rows_of q.0) refl f

      second : (p : List ℕ × List ℕ) → cut 32 text ≡ Some p → (o : Option (List ℕ × List ℕ)) → cut 32 p.1 ≡ o
          → (o >>= λ q. jobs_of p.0 >>= λ jobs. piece_rows_of q.0 >>= λ rows. path_of q.1 >>= λ path. Some (command.Dump (record { jobs = jobs; rows = rows; path = path }))) ≡ Some d → IsUtf8 text
      second p h None g f = absurd cc
      second p h (Some q) g f = also p q h g (jobs_of p.0) refl f

      first : (o : Option (List ℕ × List ℕ)) → cut 32 text ≡ o
          → (o >>= λ p. cut 32 p.1 >>= λ q. jobs_of p.0 >>= λ jobs. piece_rows_of q.0 >>= λ rows. path_of q.1 >>= λ path. Some (command.Dump (record { jobs = jobs; rows = rows; path = path }))) ≡ Some d → IsUtf8 text
      first None h f = absurd cc
      first (Some p) h f = second p h (cut 32 p.1) refl f

  argument_utf8 : (word argument : List ℕ) (d : Command A) → with_argument word argument ≡ Some d → IsUtf8 word × IsUtf8 argument
  argument_utf8 word argument d e = first (bytes_eq word (codes "IMPORT")) refl e
    where
      second : (b : Bool) → bytes_eq word (codes "DUMP") ≡ b → cond b (dump_of argument) None ≡ Some d → IsUtf8 word × IsUtf8 argument
      second true h f = (word_utf8 word (codes "DUMP") refl h, dump_utf8 argument d f)
      second false h f = absurd cc

      first : (b : Bool) → bytes_eq word (codes "IMPORT") ≡ b → cond b (import_of argument) (cond (bytes_eq word (codes "DUMP")) (dump_of argument) None) ≡ Some d → IsUtf8 word × IsUtf8 argument
      first true h f = (word_utf8 word (codes "IMPORT") refl h, import_utf8 argument d f)
      first false h f = second (bytes_eq word (codes "DUMP")) refl f

  argued_utf8 : (text : List ℕ) (d : Command A) → argued text ≡ Some d → IsUtf8 text
  argued_utf8 text d e = go (cut 32 text) refl e
    where
      go : (o : Option (List ℕ × List ℕ)) → cut 32 text ≡ o → (o >>= λ p. with_argument p.0 p.1) ≡ Some d → IsUtf8 text
      go None h f = absurd cc
      go (Some p) h f = let u = argument_utf8 p.0 p.1 d f in cut_utf8 32 text p refl h u.0 u.1

  -- a text that is a command of a script whose lines are done in order is UTF-8, and the same command where sessions run freely
  abbrev Same : List ℕ → Command A → Type 0
  Same text d = IsUtf8 text × (command_of Free text ≡ Some d)

  abbrev words_by : Bool → Schedule → List ℕ → Option (Command A)
  words_by b schedule text = cond b (wait_of schedule) (option_map (λ q. command.Ask q) (request_of text))

  abbrev worded_by : Bool → Schedule → List ℕ → Option (Command A)
  worded_by b schedule text = cond (is_some (words_by b schedule text)) (words_by b schedule text) (argued text)

  no_wait : (text : List ℕ) (d : Command A) → bytes_eq text (codes "WAIT") ≡ true → argued text ≡ Some d → ⊥
  no_wait text d h e = none (sym (ap (argued {A = A}) ((bytes_eq-Decides text (codes "WAIT")).0 h)) ∙ e)
    where
      none : argued {A = A} (codes "WAIT") ≡ Some d → ⊥
      none f = absurd cc

  words_utf8 : (text : List ℕ) (d : Command A) → worded_by false InOrder text ≡ Some d → IsUtf8 text
  words_utf8 text d e = go (request_of text) refl e
    where
      go : (o : Option (Request A)) → request_of text ≡ o → cond (is_some (option_map (λ q. command.Ask q) o)) (option_map (λ q. command.Ask q) o) (argued text) ≡ Some d → IsUtf8 text
      go None h f = argued_utf8 text d f
      go (Some q) h f = request_utf8 text q h

  worded_same : (text : List ℕ) (d : Command A) → (b : Bool) → bytes_eq text (codes "WAIT") ≡ b → worded_by b InOrder text ≡ Some d → IsUtf8 text × (worded_by b Free text ≡ Some d)
  worded_same text d true h e = absurd (no_wait text d h e)
  worded_same text d false h e = (words_utf8 text d e, e)

  sql_utf8 : (text : List ℕ) (d : Command A) → sql_of text ≡ Some d → IsUtf8 text
  unfolding sql_of
  sql_utf8 text d e = go (text_of text) refl e
    where
      go : (o : Option (List ℕ)) → text_of text ≡ o → (o >>= λ sql. Some (command.Ask (request.Sql sql))) ≡ Some d → IsUtf8 text
      go None h f = absurd cc
      go (Some sql) h f = text_utf8 text sql h

  pub command_same : (text : List ℕ) (d : Command A) → command_of InOrder text ≡ Some d → Same text d
  unfolding command_of
  command_same text d e = go (begins_command text) e
    where
      go : (b : Bool) → cond b (worded InOrder text) (sql_of text) ≡ Some d → IsUtf8 text × (cond b (worded Free text) (sql_of text) ≡ Some d)
      go true f = worded_same text d (bytes_eq text (codes "WAIT")) refl f
      go false f = (sql_utf8 text d f, f)

  -- ---- a session's line

  pub record Asks (c : Catalog) (line : List ℕ) (s : ℕ) (d : Command A) : Type 0 where
    pub session : IsSession s
    pub utf8 : IsUtf8 line
    pub digit : is_ascii_digit (slice_index line 0) ≡ true
    pub asks : asked c line ≡ Some (s, asked_by c d)

  pub step_asks : (c : Catalog) (line : List ℕ) (s : ℕ) (d : Command A) → session_step InOrder line ≡ Some (Session s d) → Asks c line s d
  unfolding session_step asked
  step_asks c line s d e = first (cut 32 line) refl e
    where
      fourth : (p : List ℕ × List ℕ) (k : ℕ) (text : List ℕ) → cut 32 line ≡ Some p → session_of p.0 ≡ Some k → before_last 59 p.1 ≡ Some text → (o : Option (Command A)) → command_of InOrder text ≡ o
          → (o >>= λ b. Some (Session k b)) ≡ Some (Session s d) → Asks c line s d
      fourth p k text h g j None i f = absurd cc
      fourth p k text h g j (Some b) i f =
          let same_number : k ≡ s = cc in
          let same_command : b ≡ d = cc in
          let session = session_is p.0 k g in
          let same = command_same text b i in
          record {
            session = subst IsSession same_number session.0;
            utf8 = cut_utf8 32 line p refl h session.1 (subst IsUtf8 (sym (before_last_is 59 p.1 text (omega arith) j)) (IsUtf8-append text (59 ∷ []) same.0 (IsUtf8-plain (59 ∷ []) refl)));
            digit = subst (λ t. is_ascii_digit (slice_index t 0) ≡ true) (sym (cut_is 32 line p h)) (starts p.0 (32 ∷ p.1) session.2);
            asks =
                ap (λ (o : Option (List ℕ × List ℕ)). o >>= λ q. session_in q.0 >>= λ n. before_last 59 q.1 >>= λ t. command_of {A = A} Free t >>= λ z. Some (n, asked_by c z)) h
                ∙ ap (λ (o : Option ℕ). o >>= λ n. before_last 59 p.1 >>= λ t. command_of {A = A} Free t >>= λ z. Some (n, asked_by c z)) (session_wider p.0 k g)
                ∙ ap (λ (o : Option (List ℕ)). o >>= λ t. command_of {A = A} Free t >>= λ z. Some (k, asked_by c z)) j
                ∙ ap (λ (o : Option (Command A)). o >>= λ z. Some (k, asked_by c z)) same.1
                ∙ ap (λ n. Some (n, asked_by c b)) same_number
                ∙ ap (λ z. Some (s, asked_by c z)) same_command;
          }

      third : (p : List ℕ × List ℕ) (k : ℕ) → cut 32 line ≡ Some p → session_of p.0 ≡ Some k → (o : Option (List ℕ)) → before_last 59 p.1 ≡ o
          → (o >>= λ text. command_of InOrder text >>= λ b. Some (Session k b)) ≡ Some (Session s d) → Asks c line s d
      third p k h g None j f = absurd cc
      third p k h g (Some text) j f = fourth p k text h g j (command_of InOrder text) refl f

      second : (p : List ℕ × List ℕ) → cut 32 line ≡ Some p → (o : Option ℕ) → session_of p.0 ≡ o
          → (o >>= λ k. before_last 59 p.1 >>= λ text. command_of InOrder text >>= λ b. Some (Session k b)) ≡ Some (Session s d) → Asks c line s d
      second p h None g f = absurd cc
      second p h (Some k) g f = third p k h g (before_last 59 p.1) refl f

      first : (o : Option (List ℕ × List ℕ)) → cut 32 line ≡ o
          → (o >>= λ p. session_of p.0 >>= λ k. before_last 59 p.1 >>= λ text. command_of InOrder text >>= λ b. Some (Session k b)) ≡ Some (Session s d) → Asks c line s d
      first None h f = absurd cc
      first (Some p) h f = second p h (session_of p.0) refl f

  -- what a request asks for, as an action and as a transcript has it
  spoken_same : (r : Result (Statement A) Refusal) → spoken r ≡ asks_for (spoken_action r)
  spoken_same (Ok q) = refl
  spoken_same (Err e) = refl

  pub request_same : (c : Catalog) (q : Request A) → asked_by c (command.Ask q) ≡ asks_for (action_of c q)
  request_same c (request.Begin m) = refl
  request_same c (request.Sql text) = spoken_same (parsed c text)
  request_same c request.Poll = refl
  request_same c request.Export = refl
  request_same c (request.Import i) = refl
  request_same c request.Commit = refl
  request_same c request.Rollback = refl
  request_same c request.Prune = refl
