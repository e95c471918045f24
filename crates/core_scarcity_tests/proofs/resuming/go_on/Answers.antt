use Rattle.std.proofs.Common.{◌≡◌, ◌∙◌, sym, ap, ℕ, List, [], length}
use Rattle.std.proofs.lemmas.Bool.{eqb-true}
use Rattle.std.proofs.lemmas.List.{nil_from_length}
use Rattle.schema.specs.Definition.{Catalog}
use Rattle.schema.specs.declared.tables.Tables.{Tables}
use Rattle.history.specs.Opening.{Opening, Recorded}
use Rattle.history.specs.declared.base.Base.{Base}
use Rattle.history.specs.declared.event.Record.{Record}
use Rattle.core_scarcity_tests.proofs.resuming.go_on.Goals as goal

module _ {A : Type 0} where
  -- A core without events is its opening alone.
  at_rest : (core h : Recorded A) (o : Opening A) (records : List (Record A)) (c : Catalog) (X : Tables A) (b : Base) → h ≡ core → records ≡ h.records → length records ≡ 0
      → c ≡ h.opening.catalog → X ≡ h.opening.tables → b ≡ h.opening.base → o ≡ record { catalog = c; tables = X; base = b } → core ≡ record { opening = o; records = []; most = core.most }
  at_rest core h o records c X b is listed none catalog tables base opening =
      let opened : o ≡ core.opening =
      opening
      ∙ ap (λ (x : Catalog). record { catalog = x; tables = X; base = b }) catalog
      ∙ ap (λ (x : Tables A). record { catalog = h.opening.catalog; tables = x; base = b }) tables
      ∙ ap (λ (x : Base). record { catalog = h.opening.catalog; tables = h.opening.tables; base = x }) base
      ∙ ap (λ (r : Recorded A). r.opening) is in
      let empty : core.records ≡ [] = sym (ap (λ (r : Recorded A). r.records) is) ∙ sym listed ∙ nil_from_length records none in
      ap (λ (x : Opening A). record { opening = x; records = core.records; most = core.most }) (sym opened) ∙ ap (λ (x : List (Record A)). record { opening = o; records = x; most = core.most }) empty

pub resume-requires-clause-core : goal.resume-requires-clause-core
resume-requires-clause-core g c κs within =
    at_rest c.args.core c.history-history.result.now c.in_ok-word.word.opening c.records.result.now c.catalog.result.now c.in_ok-tables.tables c.base.result
    c.history-history.ensures c.records.ensures (eqb-true (length c.records.result.now) 0 (sym c.is_empty.ensures ∙ c.if-not-is_empty.false))
    c.catalog.ensures c.in_ok-tables.ensures.ok c.base.ensures c.in_ok-word.ensures.opening
