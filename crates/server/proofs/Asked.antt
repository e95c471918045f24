-- What texts ask for.
use Rattle.std.proofs.Common.{◌≡◌, true, false, true≢false, sym, refl, Result, Ok, Err}
use Rattle.schema.specs.Definition.{Catalog}
use Rattle.value.specs.declared.refusal.Refusal.{Refusal}
use Rattle.statement.specs.declared.statement.Statement.{Statement}
use Rattle.transactions.specs.Courses.{takes_memory}
use Rattle.sqltext.specs.Parsed.{parsed}
use Rattle.request.specs.declared.request.Request.{Request}
use Rattle.request.specs.declared.request.Request.TheVariants.{Begin, Sql, Poll, Export, Import, Commit, Rollback, Prune}
use Rattle.request.specs.Requests.{asked, is_text, spoken}

module _ {A : Type 0} where
  -- what a text says takes memory
  pub spoken_takes : (r : Result (Statement A) Refusal) → takes_memory (spoken r) ≡ true
  spoken_takes (Ok q) = refl
  spoken_takes (Err e) = refl

  -- so what a text asks for takes memory
  pub texts_take : (c : Catalog) (q : Request A) → is_text q ≡ true → takes_memory (asked c q) ≡ true
  texts_take c (Sql text) e = spoken_takes (parsed c text)
  texts_take c (Begin m) e = refl
  texts_take c Poll e = absurd (true≢false (sym e))
  texts_take c Export e = refl
  texts_take c (Import i) e = refl
  texts_take c Commit e = refl
  texts_take c Rollback e = absurd (true≢false (sym e))
  texts_take c Prune e = refl
