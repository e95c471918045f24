-- A walk of which a part is changed, and the places of its path.
use Rattle.std.proofs.Common.{◌≡◌, sym, ap, ◌∙◌, ℕ, ◌+◌, ◌<◌, ◌≤◌, List, [], ◌∷◌, ◌++◌, length, get_or, map, take, Some, arith}
use Rattle.std.proofs.lemmas.List.{map-append, take_all, take_more}
use Rattle.schema.specs.declared.changes.Change.{Change}
use Rattle.schema.specs.declared.tables.Tables.{Tables}
use Rattle.orders.specs.Undone.{put_back}
use Rattle.orders.specs.Walks.{HasPopped, Passing, Standing}

module _ {A : Type 0} where
  pub popped : {u : Standing A} (w : Standing A) (rest : List (Passing A)) (p : Passing A) → u ≡ w → u.path ≡ rest ++ p ∷ [] → HasPopped w (Some p) (record u { path = rest })
  popped w rest p e h = (sym (ap (λ (x : Standing A). x.path) e) ∙ h, ap (λ (x : Standing A). record x { path = rest }) e)

  pub with-tables : {u : Standing A} (w : Standing A) (X : Tables A) → u ≡ w → record u { tables = X } ≡ record w { tables = X }
  with-tables w X e = ap (λ (x : Standing A). record x { tables = X }) e

  pub put-tables : {u : Standing A} (w : Standing A) (X : Tables A) (back : List (Change A)) → u ≡ w → X ≡ put_back back u.tables → record u { tables = X } ≡ record w { tables = put_back back w.tables }
  put-tables w X back e h = with-tables w X e ∙ ap (λ (Z : Tables A). record w { tables = Z }) (h ∙ ap (λ (x : Standing A). put_back back x.tables) e)

  -- ---- the places of a path, one by one

  pub places-more : (path : List (Passing A)) (i : ℕ) (p : Passing A) (place : ℕ) (places more : List ℕ) → i < length path → p ≡ get_or path i p → place ≡ p.place → places ≡ map (λ (q : Passing A). q.place) (take i path) → more ≡ places ++ place ∷ [] → more ≡ map (λ (q : Passing A). q.place) (take (i + 1) path)
  places-more path i p place places more l g is e m =
      m ∙ ap (λ ps. ps ++ place ∷ []) e ∙ ap (λ n. map (λ (q : Passing A). q.place) (take i path) ++ n ∷ []) (is ∙ ap (λ (q : Passing A). q.place) g)
      ∙ sym (map-append (λ (q : Passing A). q.place) (take i path) (get_or path i p ∷ [])) ∙ sym (ap (map (λ (q : Passing A). q.place)) (take_more path i p l))

  pub places-all : (path items : List (Passing A)) (i : ℕ) (places : List ℕ) → length items ≤ i → i ≤ length items → places ≡ map (λ (q : Passing A). q.place) (take i items) → items ≡ path → places ≡ map (λ (q : Passing A). q.place) path
  places-all path items i places l m e same = e ∙ ap (map (λ (q : Passing A). q.place)) (take_all i items (omega (arith, l, m)) ∙ same)
