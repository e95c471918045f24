-- What an answered statement, and what one more record, make of what was told before.
use Rattle.std.proofs.Common.{◌≡◌, refl, sym, ap, ◌∙◌, ℕ, zero, suc, ◌+◌, ◌<◌, List, [], ◌∷◌, length, drop, get_or, drop-cons, Option, Some, None, position, arith}
use Rattle.std.proofs.Math.ListN.{set}
use Rattle.std.specs.Option.{option_map}
use Rattle.schema.specs.declared.changes.Change.{Change}
use Rattle.schema.specs.declared.tables.Tables.{Tables}
use Rattle.schema.specs.Definition.{Catalog}
use Rattle.schema.specs.Plain.{put_all}
use Rattle.statement.specs.declared.statement.Statement.{Statement}
use Rattle.statement.specs.declared.reading.Reading.{Reading}
use Rattle.statement.specs.declared.outcome.Mark.{Mark}
use Rattle.history.specs.declared.event.Action.{Action}
use Rattle.history.specs.declared.event.Action.TheVariants.{Begin, Run, Broken, Poll, Export, Import, Commit, Rollback, Prune}
use Rattle.history.specs.declared.event.Record.{Record}
use Rattle.retrace.specs.Trails.{Trail}
use Rattle.retrace.specs.declared.past.Lent.{Lent}
use Rattle.retrace.specs.declared.run.When.{When}
use Rattle.retrace.specs.Runs.{Going, answered, changes_of, grown, is_its, marks_of, reads_of}
use Rattle.retrace.specs.Past.{Bygone, after_all, all_turned, at_place, commits_after, followed, followed_by, joined, lent_after, owned, tables_after, turned_at, when}

module _ {A : Type 0} where
  -- a statement that was answered
  pub answered-is : (c : Catalog) (place : ℕ) (q : Statement A) (g : Going A) (t : Trail A) (o : Option (Tables A)) (rs : List (Reading A)) (xs ys : List (Change A)) (ms : List (Mark A))
      → rs ≡ reads_of c q → xs ≡ changes_of c q g.own → ms ≡ marks_of c q g.own → ys ≡ xs → o ≡ option_map (put_all ys) g.own → t ≡ grown place rs xs ms g.trace
      → record { trace = t; refused = g.refused; own = o; owed = g.owed; active = g.active } ≡ answered c place q g
  answered-is c place q g t o rs xs ys ms er ex em ey eo et =
      let own : o ≡ option_map (put_all (changes_of c q g.own)) g.own = eo ∙ ap (λ zs. option_map (put_all zs) g.own) (ey ∙ ex) in
      let trace : t ≡ grown place (reads_of c q) (changes_of c q g.own) (marks_of c q g.own) g.trace =
      et ∙ ap (λ zs. grown place zs xs ms g.trace) er ∙ ap (λ zs. grown place (reads_of c q) zs ms g.trace) ex ∙ ap (λ zs. grown place (reads_of c q) (changes_of c q g.own) zs g.trace) em in
      let one : Trail A → Going A = λ u. record { trace = u; refused = g.refused; own = o; owed = g.owed; active = g.active } in
      let two : Option (Tables A) → Going A = λ v. record { trace = grown place (reads_of c q) (changes_of c q g.own) (marks_of c q g.own) g.trace; refused = g.refused; own = v; owed = g.owed; active = g.active } in
      ap one trace ∙ ap two own

  -- ---- one of the transactions

  pub turned_at-set : (f : Going A → Going A) (gs : List (Going A)) (n : ℕ) (x : Going A) → n < length gs → x ≡ get_or gs n x → set gs n (f x) ≡ turned_at n f gs
  turned_at-set f [] n x h e = absurd (omega arith)
  turned_at-set f (g ∷ gs) zero x h e = ap (λ y. f y ∷ gs) e
  turned_at-set f (g ∷ gs) (suc n) x h e = ap (λ us. g ∷ us) (turned_at-set f gs n x (omega arith) e)

  pub at_place-is : (gs : List (Going A)) (n : ℕ) (x : Going A) → n < length gs → x ≡ get_or gs n x → x ≡ at_place n gs
  at_place-is [] n x h e = absurd (omega arith)
  at_place-is (g ∷ gs) zero x h e = e
  at_place-is (g ∷ gs) (suc n) x h e = at_place-is gs n x (omega arith) e

  -- ---- one more record

  pub owned-is : (c : Catalog) (w : When) (e : Record A) (i : ℕ) (p : Bygone A) (r : Going A) (X : Tables A) (n : ℕ) (l : List Lent) (gs : List (Going A))
      → r ≡ at_place i p.runs → X ≡ tables_after e.action e.reply r p.tables → n ≡ commits_after e.action e.reply r p.commits → l ≡ lent_after e.action e.reply r p.lent
      → gs ≡ all_turned c w e i p.runs
      → record { place = p.place; tables = X; commits = n; lent = l; runs = gs } ≡ owned c w e (at_place i p.runs) i p
  owned-is c w e i p r X n l gs er eX en el eg =
      let one : Tables A → Bygone A = λ Y. record { place = p.place; tables = Y; commits = n; lent = l; runs = gs } in
      let two : ℕ → Bygone A = λ m. record { place = p.place; tables = tables_after e.action e.reply r p.tables; commits = m; lent = l; runs = gs } in
      let three : List Lent → Bygone A = λ k. record { place = p.place; tables = tables_after e.action e.reply r p.tables; commits = commits_after e.action e.reply r p.commits; lent = k; runs = gs } in
      let four : List (Going A) → Bygone A = λ hs. record { place = p.place; tables = tables_after e.action e.reply r p.tables; commits = commits_after e.action e.reply r p.commits; lent = lent_after e.action e.reply r p.lent; runs = hs } in
      ap one eX ∙ ap two en ∙ ap three el ∙ ap four eg ∙ ap (λ g. owned c w e g i p) er

  pub all-step : (c : Catalog) (base : ℕ) (es : List (Record A)) (i : ℕ) (e : Record A) (p q : Bygone A) → i < length es → e ≡ get_or es i e → q ≡ followed c base e p
      → after_all c base (drop (i + 1) es) q ≡ after_all c base (drop i es) p
  all-step c base es i e p q lt at next =
      let more : suc i ≡ i + 1 = omega arith in
      let behind : drop i es ≡ e ∷ drop (i + 1) es = drop-cons es i e lt ∙ ap (λ y. y ∷ drop (suc i) es) (sym at) ∙ ap (λ n. e ∷ drop n es) more in
      ap (after_all c base (drop (i + 1) es)) next ∙ sym (ap (λ ds. after_all c base ds p) behind)

  joined-place : (s : ℕ) (a : Action A) (w : When) (p : Bygone A) → (joined s a w p).place ≡ p.place
  joined-place s (Begin m) w p = refl
  joined-place s (Run q) w p = refl
  joined-place s (Broken r) w p = refl
  joined-place s Poll w p = refl
  joined-place s Export w p = refl
  joined-place s (Import i) w p = refl
  joined-place s Commit w p = refl
  joined-place s Rollback w p = refl
  joined-place s Prune w p = refl

  followed_by-place : (c : Catalog) (w : When) (e : Record A) (o : Option ℕ) (p : Bygone A) → (followed_by c w e o p).place ≡ p.place
  followed_by-place c w e None p = joined-place e.session e.action w p
  followed_by-place c w e (Some i) p = refl

  -- one record more was followed
  pub followed-place : (c : Catalog) (base : ℕ) (e : Record A) (p : Bygone A) → (followed c base e p).place ≡ p.place + 1
  followed-place c base e p = followed_by-place c (when base (p.place + 1) e.action p.commits p.lent) e (position (is_its e.session) p.runs) (record p { place = p.place + 1 })
