-- What the opening of a history answers.
use Rattle.std.proofs.Common.{◌≡◌, ap, ◌∙◌, ℕ, [], Bool, false, inl, inr, Result, Ok, Err}
use Rattle.std.specs.Result.{IfOk, IfErr}
use Rattle.value.specs.declared.refusal.Refusal.{Refusal}
use Rattle.value.specs.Refusals.{AnswersOrNoMemory}
use Rattle.schema.specs.Definition.{Catalog}
use Rattle.schema.specs.declared.tables.Tables.{Tables}
use Rattle.history.specs.declared.base.Base.{Base}
use Rattle.history.specs.Opening.{Recorded, opening_refusal}

-- a history that opens with a view of the tables opens with the tables
pub opened_on : {A : Type 0} (h : Recorded A) (c : Catalog) (view tables : Tables A) (b : Base) (most : ℕ)
    → h ≡ record { opening = record { catalog = c; tables = view; base = b }; records = []; most = most } → view ≡ tables → h ≡ record { opening = record { catalog = c; tables = tables; base = b }; records = []; most = most }
opened_on h c view tables b most made same = made ∙ ap (λ X. record { opening = record { catalog = c; tables = X; base = b }; records = []; most = most }) same

-- where the number of events is none that is refused
pub opened_or_none : {T : Type 0} (b : Bool) (r : Result T Refusal) (x : T) → b ≡ false → IfOk r (λ made. made ≡ x) → IfErr r (λ e. e ≡ opening_refusal b) → AnswersOrNoMemory r (Ok x)
opened_or_none b (Ok y) x few e m = inl (ap Ok e)
opened_or_none b (Err f) x few e m = inr (ap Err (m ∙ ap opening_refusal few))
