-- When an order of transactions explains what their clients were answered.
-- Sources: Adya, Liskov and O'Neil, "Generalized Isolation Level Definitions" (ICDE 2000), for histories; Papadimitriou, "The serializability of concurrent database updates" (JACM 1979): the effect is that of the transactions run one at a time; strictness by time is Herlihy and Wing's (TOPLAS 1990).
use Rattle.std.specs.Prelude.{◌≡◌, ◌⊎◌, ℕ, ◌==◌, nat_lt, Bool, true, false, not, ◌&&◌, Option, Some, None, is_some, List, [], ◌∷◌, length, zip, slice_get, if◌then◌else◌}
use Rattle.std.specs.List.{filter, list_all, AllByRecursion}
use Rattle.value.specs.declared.value.Value.{Value}
use Rattle.schema.specs.Definition.{Catalog}
use Rattle.schema.specs.declared.tables.Tables.{Tables}
use Rattle.schema.specs.Plain.{same}
use Rattle.statement.specs.declared.statement.Statement.{Statement}
use Rattle.statement.specs.declared.reply.Reply.{Reply}
use Rattle.statement.specs.declared.reply.Reply.TheVariants.{Inserted, Updated, Deleted, Rows}
use Rattle.statement.specs.Evaluation.{outcome, after}
use Rattle.statement.specs.Fits.{fits}

-- What was recorded of a transaction that committed, or may have: where its BEGIN was sent, and where the reply to its COMMIT came, if one came.
pub record Trace (A : Type 0) : Type 0 where
  pub begin : ℕ
  pub end : Option ℕ
  pub imported : Bool  -- its snapshot is another's, or time doesn't count
  pub statements : List (Statement A × Reply A)  -- those answered without a refusal

-- an end is known, and comes before b
abbrev pub ended_before : Option ℕ → ℕ → Bool
ended_before None b = false
ended_before (Some e) b = nat_lt e b

-- no place stands twice
abbrev pub AreApart : List ℕ → Type 0
AreApart [] = Unit {0}
AreApart (i ∷ later) = AllByRecursion (λ j. j ≡ i → ⊥) later × AreApart later

-- a place stands in the list
abbrev pub Stands : ℕ → List ℕ → Type 0
Stands i [] = ⊥
Stands i (j ∷ later) = (i ≡ j) ⊎ Stands i later

module _ {A : Type 0} where
  -- ---- answers

  abbrev pub same_values : List (Value A) → List (Value A) → Bool
  same_values vs ws = length vs == length ws && list_all (λ p. same p.0 p.1) (zip vs ws)

  -- how often a row stands among rows
  abbrev pub times : List (Value A) → List (List (Value A)) → ℕ
  times row rows = length (filter (λ other. same_values row other) rows)

  -- the same rows, each as often, in any order
  abbrev pub same_bag : List (List (Value A)) → List (List (Value A)) → Bool
  same_bag vs ws = length vs == length ws && list_all (λ row. times row vs == times row ws) vs

  -- The answers of a statement agree: an answer without ORDER BY promises no order of its rows.
  abbrev pub agrees : Reply A → Reply A → Bool
  agrees Inserted Inserted = true
  agrees (Updated n) (Updated m) = n == m
  agrees (Deleted n) (Deleted m) = n == m
  agrees (Rows vs) (Rows ws) = same_bag vs ws
  agrees _ _ = false

  -- ---- transactions run alone

  -- The tables that the statements, done one after the other from X, come to; none where one gets an answer that doesn't agree with what was recorded.
  abbrev pub alone : Catalog → List (Statement A × Reply A) → Tables A → Option (Tables A)
  alone c [] X = Some X
  alone c (q ∷ qs) X = if agrees (outcome c q.0 X).reply q.1 then alone c qs (after c q.0 X) else None

  -- The transactions at these places, run alone one after the other from X, each from where the one before it ended, get answers that agree.
  abbrev pub InTurn : Catalog → List (Trace A) → List ℕ → Tables A → Type 0
  InTurn c ts [] X = Unit {0}
  InTurn c ts (i ∷ later) X = (t : Trace A) × (Y : Tables A) × (slice_get ts i ≡ Some t) × (alone c t.statements X ≡ Some Y) × InTurn c ts later Y

  -- ---- time

  -- A had ended before B began, and B has not imported its snapshot. One whose end isn't known comes before nobody.
  abbrev pub precedes : Trace A → Trace A → Bool
  precedes a b = ended_before a.end b.begin && not b.imported

  -- the transaction at place j doesn't precede the one at place i
  abbrev pub MayFollow : List (Trace A) → ℕ → ℕ → Type 0
  MayFollow ts i j = (a b : Trace A) → slice_get ts j ≡ Some a → slice_get ts i ≡ Some b → precedes a b ≡ false

  -- When a transaction's turn comes, none that has still to come had ended before it began; nor had it itself.
  abbrev pub InTime : List (Trace A) → List ℕ → Type 0
  InTime ts [] = Unit {0}
  InTime ts (i ∷ later) = AllByRecursion (λ j. MayFollow ts i j) (i ∷ later) × InTime ts later

  -- ---- an order

  -- The order, a list of places in ts, explains what was recorded: it has each transaction once that is known to have committed, and of those that may have, each once at most;
  -- run alone in this order from X each gets what it was answered; and it goes by time.
  pub record Explains (c : Catalog) (X : Tables A) (ts : List (Trace A)) (order : List ℕ) : Type 0 where
    pub apart : AreApart order
    pub complete : (i : ℕ) (t : Trace A) → slice_get ts i ≡ Some t → is_some t.end ≡ true → Stands i order
    pub in_turn : InTurn c ts order X
    pub in_time : InTime ts order

  -- no order does
  abbrev pub Unexplained : Catalog → Tables A → List (Trace A) → Type 0
  Unexplained c X ts = (order : List ℕ) → Explains c X ts order → ⊥

  -- all statements fit the catalog
  abbrev pub are_fit : Catalog → List (Statement A × Reply A) → Bool
  are_fit c qs = list_all (λ q. fits c q.0) qs

  abbrev pub all_fit : Catalog → List (Trace A) → Bool
  all_fit c ts = list_all (λ t. are_fit c t.statements) ts
