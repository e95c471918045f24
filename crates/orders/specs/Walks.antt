-- Where a search for an order stands, and what it knows.
use Rattle.std.specs.Prelude.{◌≡◌, ℕ, ◌<◌, ◌≤◌, ◌+◌, ◌-◌, ◌^◌, min, Bool, true, false, Option, Some, None, is_some, List, [], ◌∷◌, ◌++◌, length, map, slice_get, slice_set}
use Rattle.schema.specs.Definition.{Catalog}
use Rattle.schema.specs.declared.changes.Change.{Change}
use Rattle.schema.specs.declared.tables.Tables.{Tables}
use Rattle.schema.specs.Plain.{is_sound}
use Rattle.orders.specs.Explains.{Trace, alone}
use Rattle.orders.specs.Turns.{MayCome, comes}
use Rattle.orders.specs.Undone.{put_back}

-- A transaction that was done: its place, and the changes that take it back.
pub record Passing (A : Type 0) : Type 0 where
  pub place : ℕ
  pub back : List (Change A)

-- Where a search stands: the transactions that it has done, which these are by place, the tables that they came to, and from which place on it has still to try.
pub record Standing (A : Type 0) : Type 0 where
  pub path : List (Passing A)
  pub done : List Bool
  pub tables : Tables A
  pub from : ℕ

-- behind a place, as far as a number of 64 bits goes
abbrev pub behind : ℕ → ℕ
behind place = min (place + 1) (2 ^ 64 - 1)

module _ {A : Type 0} where
  -- none is done
  abbrev pub none_done : List (Trace A) → List Bool
  none_done ts = map (λ t. false) ts

  -- one more is done, at this place, which these changes take back, and after it those tables
  abbrev pub gone_on : Standing A → ℕ → List (Change A) → Tables A → Standing A
  gone_on w place back after = record {
    path = w.path ++ record { place = place; back = back } ∷ [];
    done = slice_set w.done place true;
    tables = after;
    from = 0;
  }

  -- the last of the path, behind these, is taken back
  abbrev pub taken_back : Standing A → List (Passing A) → Passing A → Standing A
  taken_back w path p = record {
    path = path;
    done = slice_set w.done p.place false;
    tables = put_back p.back w.tables;
    from = behind p.place;
  }

  -- all that are known to have committed are done
  abbrev pub AllDone : List (Trace A) → List Bool → Type 0
  AllDone ts done = (i : ℕ) (t : Trace A) → slice_get ts i ≡ Some t → is_some t.end ≡ true → slice_get done i ≡ Some true

  -- From here the transactions at these places can come one after the other, and then all are done.
  abbrev pub Goes : Catalog → List (Trace A) → List Bool → Tables A → List ℕ → Type 0
  Goes c ts done X [] = AllDone ts done
  Goes c ts done X (i ∷ later) = (t : Trace A) × (Y : Tables A) × MayCome ts done i t × (alone c t.statements X ≡ Some Y) × Goes c ts (slice_set done i true) Y later

  -- No order goes on from here.
  abbrev pub IsDead : Catalog → List (Trace A) → List Bool → Tables A → Type 0
  IsDead c ts done X = (order : List ℕ) → Goes c ts done X order → ⊥

  -- None goes on that begins with a place before this one.
  abbrev pub AreTried : Catalog → List (Trace A) → List Bool → Tables A → ℕ → Type 0
  AreTried c ts done X from = (i : ℕ) (later : List ℕ) → i < from → Goes c ts done X (i ∷ later) → ⊥

  -- Not all are done here, and all before this place have been tried.
  pub record IsTried (c : Catalog) (ts : List (Trace A)) (done : List Bool) (X : Tables A) (place : ℕ) : Type 0 where
    pub before : AreTried c ts done X place
    pub unfinished : AllDone ts done → ⊥

  -- nothing is known
  abbrev pub Anything : List Bool → Tables A → ℕ → Type 0
  Anything done X place = Unit {0}

  -- From X, where these are done, the path has come to tables Z, where those are; and this was known at each step.
  abbrev pub Comes : Catalog → List (Trace A) → (List Bool → Tables A → ℕ → Type 0) → List Bool → Tables A → List (Passing A) → List Bool → Tables A → Type 0
  Comes c ts P done X [] those Z = (those ≡ done) × (Z ≡ X)
  Comes c ts P done X (p ∷ path) those Z =
      (t : Trace A) × (Y : Tables A) × MayCome ts done p.place t × (alone c t.statements X ≡ Some Y) × (put_back p.back Y ≡ X) × P done X p.place × Comes c ts P (slice_set done p.place true) Y path those Z

  -- The transaction at a place may come next, and none before it of those that are still to be tried.
  abbrev pub CanCome : List (Trace A) → Standing A → ℕ → Type 0
  CanCome ts w place = (comes ts w.done place ≡ true) × ((j : ℕ) → w.from ≤ j → j < place → comes ts w.done j ≡ false)

  -- None may come of those that are still to be tried.
  abbrev pub NoneCan : List (Trace A) → Standing A → Type 0
  NoneCan ts w = (j : ℕ) → w.from ≤ j → comes ts w.done j ≡ false

  -- A transaction, run alone at a place, has got answers that agree, and the search has gone on with it; or they differ, and it stands where it stood.
  abbrev pub HasTurned : Catalog → Trace A → Standing A → ℕ → Bool → Standing A → Type 0
  HasTurned c t w place true v = (back : List (Change A)) × (Y : Tables A) × (alone c t.statements w.tables ≡ Some Y) × (put_back back Y ≡ w.tables) × (v ≡ gone_on w place back Y)
  HasTurned c t w place false v = (alone c t.statements w.tables ≡ None) × (v ≡ w)

  -- The last transaction of the path is taken off it, and nothing else changes; or there was none.
  abbrev pub HasPopped : Standing A → Option (Passing A) → Standing A → Type 0
  HasPopped w None v = (w.path ≡ []) × (v ≡ w)
  HasPopped w (Some p) v = (w.path ≡ v.path ++ p ∷ []) × (v ≡ record w { path = v.path })

  -- The last transaction, of this place, is taken back; or there was none.
  abbrev pub HasTakenBack : Standing A → Option ℕ → Standing A → Type 0
  HasTakenBack w None v = (w.path ≡ []) × (v ≡ w)
  HasTakenBack w (Some place) v = (path : List (Passing A)) × (p : Passing A) × (w.path ≡ path ++ p ∷ []) × (v ≡ taken_back w path p) × (place ≡ p.place)

  -- A path of transactions that may come one after the other.
  pub record IsPath (c : Catalog) (X : Tables A) (ts : List (Trace A)) (w : Standing A) : Type 0 where
    pub comes : Comes c ts Anything (none_done ts) X w.path w.done w.tables
    pub count : length w.done ≡ length ts

  -- What a search knows where it stands.
  pub record IsWalk (c : Catalog) (X : Tables A) (ts : List (Trace A)) (w : Standing A) : Type 0 where
    pub comes : Comes c ts (IsTried c ts) (none_done ts) X w.path w.done w.tables
    pub tried : AreTried c ts w.done w.tables w.from
    pub unfinished : AllDone ts w.done → ⊥
    pub count : length w.done ≡ length ts

  -- What a search knows after a step: all may be done.
  pub record IsStep (c : Catalog) (X : Tables A) (ts : List (Trace A)) (w : Standing A) : Type 0 where
    pub comes : Comes c ts (IsTried c ts) (none_done ts) X w.path w.done w.tables
    pub tried : AreTried c ts w.done w.tables w.from
    pub count : length w.done ≡ length ts

  -- From sound tables on the search stands there; it has only started; a path has come there.
  abbrev pub IsSearched : Catalog → List (Trace A) → Standing A → Type 0
  IsSearched c ts w = (X : Tables A) × (is_sound c X ≡ true) × IsWalk c X ts w

  abbrev pub HasStarted : Catalog → List (Trace A) → Standing A → Type 0
  HasStarted c ts w = (X : Tables A) × (is_sound c X ≡ true) × IsStep c X ts w

  abbrev pub IsReached : Catalog → List (Trace A) → Standing A → Type 0
  IsReached c ts w = (X : Tables A) × (is_sound c X ≡ true) × IsPath c X ts w

  -- the places of a path
  abbrev pub places_of : Standing A → List ℕ
  places_of w = map (λ p. p.place) w.path
