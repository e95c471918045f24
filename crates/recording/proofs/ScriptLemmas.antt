-- The lines of a script that are done, and those that set its tables.
use Rattle.std.proofs.Common.{◌≡◌, ◌⊎◌, inl, inr, ℕ, zero, suc, ◌+◌, ◌-◌, Bool, true, false, true≢false, cond, not, ◌&&◌, ◌||◌, eqb, List, [], ◌∷◌, ◌++◌, length, take, drop, Option, Some, None, Ok, Err, refl, sym, ap, subst, ◌∙◌, take-append-drop, arith}
use Rattle.std.specs.Prelude.{codes, slice_get, slice_index, unwrap_or}
use Rattle.std.specs.Char.{is_ascii_digit}
use Rattle.std.specs.List.{list_any, onto_first, slice_split}
use Rattle.std.specs.Option.{option_map_or}
use Rattle.std.specs.Result.{result_ok}
use Rattle.std.specs.Str.{IsUtf8, bytes_eq, is_utf8}
use Rattle.std.proofs.lemmas.Bool.{or_from}
use Rattle.std.proofs.lemmas.Slice.Eq.{bytes_eq-Decides}
use Rattle.std.proofs.lemmas.Str.{IsUtf8-append, IsUtf8-from_is_utf8}
use Rattle.value.proofs.IsolationLemmas.{In}
use Rattle.value.proofs.SerialLemmas.{In-append}
use Rattle.schema.specs.Adding.{added}
use Rattle.schema.specs.Definition.{Catalog, TableDef}
use Rattle.sqltext.specs.Creating.{created}
use Rattle.script.specs.Commands.{◌>>=◌, before_last, command_of, cut, path_of, session_of, text_of}
use Rattle.script.specs.Scripts.{Said, created_in, is_passed_over, nothing, opened, passed_over, said, said_from, session_step, table_of, takes_tables, with_line, with_session, with_step}
use Rattle.script.specs.Transcribing.{ended, line_at, lines, sets_tables}
use Rattle.script.specs.declared.command.Command.{Command}
use Rattle.script.specs.declared.schedule.Schedule.TheVariants.{InOrder}
use Rattle.script.specs.declared.script.Line.{Line}
use Rattle.script.specs.declared.script.Step.{Step}
use Rattle.script.specs.declared.script.Step.TheVariants.{Session, Checkpoint}
use Rattle.recording.proofs.AskingLemmas.{before_last_is, path_utf8, text_utf8}
use Rattle.recording.proofs.LinesLemmas.{AllLack}
use Rattle.recording.proofs.TextLemmas.{IsUtf8-plain, Lacks}

-- ---- lines have no newline

onto_lacks : (b : ℕ) (ls : List (List ℕ)) → eqb b 10 ≡ false → AllLack ls → AllLack (onto_first b ls)
onto_lacks b [] h k = (or_from (eqb b 10) false h refl, tt)
onto_lacks b (l ∷ ls) h k = (or_from (eqb b 10) (list_any (λ x. eqb x 10) l) h k.0, k.1)

parts_lack : (text : List ℕ) → AllLack (slice_split (λ b. eqb b 10) text)
parts_lack [] = (refl, tt)
parts_lack (b ∷ text) = go (eqb b 10) refl (parts_lack text)
  where
    go : (t : Bool) → eqb b 10 ≡ t → AllLack (slice_split (λ x. eqb x 10) text) → AllLack (cond t ([] ∷ slice_split (λ x. eqb x 10) text) (onto_first b (slice_split (λ x. eqb x 10) text)))
    go true e h = (refl, h)
    go false e h = onto_lacks b (slice_split (λ x. eqb x 10) text) e h

ended_lack : (ls : List (List ℕ)) → AllLack ls → AllLack (ended ls)
ended_lack [] h = tt
ended_lack (l ∷ []) h = tt
ended_lack (l ∷ m ∷ ls) h = (h.0, ended_lack (m ∷ ls) h.1)

pub lines_lack : (text : List ℕ) → AllLack (lines text)
lines_lack text = ended_lack (slice_split (λ b. eqb b 10) text) (parts_lack text)

lack_at : (ls : List (List ℕ)) (k : ℕ) → AllLack ls → Lacks 10 (unwrap_or (slice_get ls k) [])
lack_at [] k h = refl
lack_at (l ∷ ls) zero h = h.0
lack_at (l ∷ ls) (suc k) h = lack_at ls k h.1

pub line_lacks : (ls : List (List ℕ)) (n : ℕ) → AllLack ls → Lacks 10 (line_at ls n)
line_lacks ls n h = lack_at ls (n - 1) h

abbrev pub AllUtf8 : List (List ℕ) → Type 0
AllUtf8 [] = Unit {0}
AllUtf8 (line ∷ more) = (sets_tables line ≡ true → IsUtf8 line) × AllUtf8 more

-- which lines set tables
abbrev pub sets : Bool → Bool → Bool → Bool
sets a b c = not (a || (b || c))

not_bound : {X Y : Type 0} (o : Option X) (f : X → Option Y) (z : Y) → ((x : X) → f x ≡ Some z → ⊥) → (o >>= f) ≡ Some z → ⊥
not_bound None f z never e = absurd cc
not_bound (Some x) f z never e = never x e

module _ {A : Type 0} where
  -- ---- what a line says

  abbrev pub SaysStep : List ℕ → Step A → Type 0
  SaysStep line (Session s d) = session_step InOrder line ≡ Some (Session s d)
  SaysStep line Checkpoint = line ≡ codes "CHECKPOINT;"

  -- a session's line is no checkpoint
  no_checkpoint : (line : List ℕ) → session_step {A = A} InOrder line ≡ Some Checkpoint → ⊥
  unfolding session_step
  no_checkpoint line e =
      not_bound (cut 32 line) (λ p. session_of p.0 >>= λ s. before_last 59 p.1 >>= λ text. command_of InOrder text >>= λ d. Some (Session s d)) Checkpoint
      (λ p. not_bound (session_of p.0) (λ s. before_last 59 p.1 >>= λ text. command_of InOrder text >>= λ d. Some (Session s d)) Checkpoint
      (λ s. not_bound (before_last 59 p.1) (λ text. command_of InOrder text >>= λ d. Some (Session s d)) Checkpoint
      (λ text. not_bound (command_of InOrder text) (λ d. Some (Session s d)) Checkpoint (λ d f. apart s d f)))) e
    where
      apart : (s : ℕ) (d : Command A) → Some (Session s d) ≡ Some Checkpoint → ⊥
      apart s d f = absurd cc

  says_session : (line : List ℕ) (step : Step A) → session_step InOrder line ≡ Some step → SaysStep line step
  says_session line (Session s d) e = e
  says_session line Checkpoint e = absurd (no_checkpoint line e)

  -- What one more line, the n-th, adds: nothing that is done; or a step.
  pub data Adds (s : Said A) (n : ℕ) (line : List ℕ) (t : Said A) : Type 0 where
    Nothing : t.lines ≡ s.lines → IsUtf8 line → Adds s n line t
    Something : (step : Step A) → t.lines ≡ s.lines ++ record { number = n; step = step } ∷ [] → SaysStep line step → sets_tables line ≡ false → Adds s n line t

  module _ (s : Said A) (n : ℕ) (line : List ℕ) (t : Said A) where
    passed : (b : Bool) → is_utf8 line ≡ b → cond b (Some s) None ≡ Some t → Adds s n line t
    passed true u e = let same : s ≡ t = cc in Nothing (ap (λ (x : Said A). x.lines) (sym same)) (IsUtf8-from_is_utf8 line u)
    passed false u e = absurd cc

    session : (o : Option (Step A)) → session_step InOrder line ≡ o → sets_tables line ≡ false → (o >>= λ step. Some (with_step s n step)) ≡ Some t → Adds s n line t
    session None h none e = absurd cc
    session (Some step) h none e =
        let same : with_step s n step ≡ t = cc in
        Something step (ap (λ (x : Said A). x.lines) (sym same)) (says_session line step h) none

    opens_path : bytes_eq (take 5 line) (codes "OPEN ") ≡ true → (text : List ℕ) → before_last 59 (drop 5 line) ≡ Some text → (o : Option (List ℕ)) → path_of text ≡ o
        → (o >>= λ path. Some (record s { opens = Some path })) ≡ Some t → Adds s n line t
    opens_path w text b None p e = absurd cc
    opens_path w text b (Some path) p e =
        let same : record s { opens = Some path } ≡ t = cc in
        Nothing (ap (λ (x : Said A). x.lines) (sym same))
        (subst IsUtf8 (take-append-drop 5 line)
        (IsUtf8-append (take 5 line) (drop 5 line) (subst IsUtf8 (sym ((bytes_eq-Decides (take 5 line) (codes "OPEN ")).0 w)) (IsUtf8-plain (codes "OPEN ") refl))
        (subst IsUtf8 (sym (before_last_is 59 (drop 5 line) text (omega arith) b)) (IsUtf8-append text (59 ∷ []) (path_utf8 text path p) (IsUtf8-plain (59 ∷ []) refl)))))

    opens_text : bytes_eq (take 5 line) (codes "OPEN ") ≡ true → (o : Option (List ℕ)) → before_last 59 (drop 5 line) ≡ o
        → (o >>= λ text. path_of text >>= λ path. Some (record s { opens = Some path })) ≡ Some t → Adds s n line t
    opens_text w None b e = absurd cc
    opens_text w (Some text) b e = opens_path w text b (path_of text) refl e

    opens : bytes_eq (take 5 line) (codes "OPEN ") ≡ true → (b : Bool) → cond b (before_last 59 (drop 5 line) >>= λ text. path_of text >>= λ path. Some (record s { opens = Some path })) None ≡ Some t → Adds s n line t
    opens w true e = opens_text w (before_last 59 (drop 5 line)) refl e
    opens w false e = absurd cc

    checkpoint : bytes_eq line (codes "CHECKPOINT;") ≡ true → sets_tables line ≡ false → Some (with_step s n Checkpoint) ≡ Some t → Adds s n line t
    checkpoint w none e =
        let same : with_step s n Checkpoint ≡ t = cc in
        Something Checkpoint (ap (λ (x : Said A). x.lines) (sym same)) ((bytes_eq-Decides line (codes "CHECKPOINT;")).0 w) none

    added_table : (o : Option Catalog) → IsUtf8 line → (o >>= λ c. Some (record s { catalog = c })) ≡ Some t → Adds s n line t
    added_table None u e = absurd cc
    added_table (Some c) u e = let same : record s { catalog = c } ≡ t = cc in Nothing (ap (λ (x : Said A). x.lines) (sym same)) u

    creates_table : (o : Option TableDef) → IsUtf8 line → (o >>= λ d. result_ok (added s.catalog d) >>= λ c. Some (record s { catalog = c })) ≡ Some t → Adds s n line t
    creates_table None u e = absurd cc
    creates_table (Some d) u e = added_table (result_ok (added s.catalog d)) u e

    creates_text : (o : Option (List ℕ)) → text_of line ≡ o → ((o >>= λ text. result_ok (created text)) >>= λ d. result_ok (added s.catalog d) >>= λ c. Some (record s { catalog = c })) ≡ Some t → Adds s n line t
    creates_text None h e = absurd cc
    creates_text (Some text) h e = creates_table (result_ok (created text)) (text_utf8 line text h) e

    creates : (b : Bool) → cond b (table_of line >>= λ d. result_ok (added s.catalog d) >>= λ c. Some (record s { catalog = c })) None ≡ Some t → Adds s n line t
    creates true e = creates_text (text_of line) refl e
    creates false e = absurd cc

    -- the marks of a line
    pub adds : with_line InOrder s n line ≡ Some t → Adds s n line t
    adds e = first (is_passed_over line) refl e
      where
        is_digit : Bool
        is_digit = is_ascii_digit (slice_index line 0)

        is_checkpoint : Bool
        is_checkpoint = bytes_eq line (codes "CHECKPOINT;")

        fourth : (b : Bool) → is_checkpoint ≡ b → cond b (Some (with_step s n Checkpoint)) (created_in s line) ≡ Some t → is_passed_over line ≡ false → is_digit ≡ false → Adds s n line t
        fourth true h f p d = checkpoint h (ap (λ x. sets x is_digit is_checkpoint) p ∙ ap (λ x. sets false x is_checkpoint) d ∙ ap (λ x. sets false false x) h) f
        fourth false h f p d = creates (takes_tables s) f

        third : (b : Bool) → bytes_eq (take 5 line) (codes "OPEN ") ≡ b → cond b (opened s line) (cond is_checkpoint (Some (with_step s n Checkpoint)) (created_in s line)) ≡ Some t → is_passed_over line ≡ false → is_digit ≡ false → Adds s n line t
        third true h f p d = opens h (takes_tables s && eqb (length s.catalog) 0) f
        third false h f p d = fourth is_checkpoint refl f p d

        second : (b : Bool) → is_digit ≡ b → cond b (with_session InOrder s n line) (cond (bytes_eq (take 5 line) (codes "OPEN ")) (opened s line) (cond is_checkpoint (Some (with_step s n Checkpoint)) (created_in s line))) ≡ Some t
            → is_passed_over line ≡ false → Adds s n line t
        second true h f p = session (session_step InOrder line) refl (ap (λ x. sets x is_digit is_checkpoint) p ∙ ap (λ x. sets false x is_checkpoint) h) f
        second false h f p = third (bytes_eq (take 5 line) (codes "OPEN ")) refl f p h

        first : (b : Bool) → is_passed_over line ≡ b
            → cond b (passed_over s line) (cond is_digit (with_session InOrder s n line) (cond (bytes_eq (take 5 line) (codes "OPEN ")) (opened s line) (cond is_checkpoint (Some (with_step s n Checkpoint)) (created_in s line)))) ≡ Some t
            → Adds s n line t
        first true h f = passed (is_utf8 line) refl f
        first false h f = second is_digit refl f h

  -- ---- all lines

  -- A step's line stands among these, the n-th and those after it.
  abbrev pub StandsIn : ℕ → List (List ℕ) → Line A → Type 0
  StandsIn n ls l = (k : ℕ) × (line : List ℕ) × (l.number ≡ n + k) × (slice_get ls k ≡ Some line) × SaysStep line l.step

  stands_on : (n : ℕ) (line : List ℕ) (ls : List (List ℕ)) (l : Line A) → StandsIn (n + 1) ls l → StandsIn n (line ∷ ls) l
  stands_on n line ls l h = (suc h.0, h.1, h.2 ∙ next, h.3, h.4)
    where
      next : n + 1 + h.0 ≡ n + suc h.0
      next = omega arith

  pub record Tells (s : Said A) (n : ℕ) (ls : List (List ℕ)) (t : Said A) : Type 0 where
    pub steps : (l : Line A) → In l t.lines → In l s.lines ⊎ StandsIn n ls l
    pub utf8 : AllUtf8 ls

  tells_more : (s u t : Said A) (n : ℕ) (line : List ℕ) (ls : List (List ℕ)) → Adds s n line u → Tells u (n + 1) ls t → Tells s n (line ∷ ls) t
  tells_more s u t n line ls (Nothing same text) rest = record { steps = λ l i. go l (rest.steps l i); utf8 = (λ h. text, rest.utf8) }
    where
      go : (l : Line A) → In l u.lines ⊎ StandsIn (n + 1) ls l → In l s.lines ⊎ StandsIn n (line ∷ ls) l
      go l (inl i) = inl (subst (In l) same i)
      go l (inr h) = inr (stands_on n line ls l h)
  tells_more s u t n line ls (Something step same is none) rest = record { steps = λ l i. go l (rest.steps l i); utf8 = (λ h. absurd (true≢false (sym h ∙ none)), rest.utf8) }
    where
      new : (l : Line A) → In l s.lines ⊎ ((l ≡ record { number = n; step = step }) ⊎ ⊥) → In l s.lines ⊎ StandsIn n (line ∷ ls) l
      new l (inl i) = inl i
      new l (inr (inl p)) =
          let here : n ≡ n + 0 = omega arith in
          inr (0, line, ap (λ (x : Line A). x.number) p ∙ here, refl, subst (λ (x : Line A). SaysStep line x.step) (sym p) is)
      new l (inr (inr z)) = absurd z

      go : (l : Line A) → In l u.lines ⊎ StandsIn (n + 1) ls l → In l s.lines ⊎ StandsIn n (line ∷ ls) l
      go l (inl i) = new l (In-append (λ (_ : Line A). (0, 0, 0)) l s.lines (record { number = n; step = step } ∷ []) (subst (In l) same i))
      go l (inr h) = inr (stands_on n line ls l h)

  tells : (s t : Said A) (n : ℕ) (parts : List (List ℕ)) → said_from InOrder s n parts ≡ Ok t → Tells s n (ended parts) t
  tells s t n [] e = let same : s ≡ t = cc in record { steps = λ l i. inl (subst (λ (x : Said A). In l x.lines) (sym same) i); utf8 = tt }
  tells s t n (line ∷ []) e = last (eqb (length line) 0) e
    where
      last : (b : Bool) → cond b (Ok s) (Err n) ≡ Ok t → Tells s n [] t
      last true f = let same : s ≡ t = cc in record { steps = λ l i. inl (subst (λ (x : Said A). In l x.lines) (sym same) i); utf8 = tt }
      last false f = absurd cc
  tells s t n (line ∷ m ∷ more) e = go (with_line InOrder s n line) refl (λ u f. tells u t (n + 1) (m ∷ more) f) e
    where
      go : (o : Option (Said A)) → with_line InOrder s n line ≡ o → ((u : Said A) → said_from InOrder u (n + 1) (m ∷ more) ≡ Ok t → Tells u (n + 1) (ended (m ∷ more)) t)
          → option_map_or (λ u. said_from InOrder u (n + 1) (m ∷ more)) o (Err n) ≡ Ok t → Tells s n (line ∷ ended (m ∷ more)) t
      go None h rest f = absurd cc
      go (Some u) h rest f = tells_more s u t n line (ended (m ∷ more)) (adds s n line u h) (rest u f)

  -- the step of each line is what stands there
  pub line_says : (script : List ℕ) (t : Said A) → said InOrder script ≡ Ok t → (l : Line A) → In l t.lines → SaysStep (line_at (lines script) l.number) l.step
  line_says script t e l i = go ((tells nothing t 1 (slice_split (λ b. eqb b 10) script) e).steps l i)
    where
      go : ⊥ ⊎ StandsIn 1 (lines script) l → SaysStep (line_at (lines script) l.number) l.step
      go (inl z) = absurd z
      go (inr h) =
          let k : l.number - 1 ≡ h.0 = let q = h.2 in omega (arith, q) in
          subst (λ x. SaysStep x l.step) (sym (ap (λ o. unwrap_or o []) (ap (slice_get (lines script)) k ∙ h.3))) h.4

  pub tables_utf8 : (script : List ℕ) (t : Said A) → said InOrder script ≡ Ok t → AllUtf8 (lines script)
  tables_utf8 script t e = (tells nothing t 1 (slice_split (λ b. eqb b 10) script) e).utf8
