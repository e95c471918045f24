-- What a certificate tells, in JSON (this project's own format).
use Rattle.std.specs.Prelude.{ℕ, List, [], ◌++◌, codes, Option, Some, None, Vec}
use Rattle.std.specs.Fmt.{decimal}
use Rattle.std.specs.List.{flat_map}
use Rattle.judgement.specs.Json.{after_comma, array, number_if, string, string_member}
use Rattle.judgement.specs.declared.json.told.Cycle.{Cycle}
use Rattle.judgement.specs.declared.json.told.Edge.{Edge}
use Rattle.judgement.specs.declared.json.told.Item.{Item}
use Rattle.judgement.specs.declared.json.told.Kind.{Kind}
use Rattle.judgement.specs.declared.json.told.Kind.TheVariants.{WriteRead, ReadWrite, WriteWrite, Time, Follows}
use Rattle.judgement.specs.declared.json.told.Origin.{Origin}
use Rattle.judgement.specs.declared.json.told.Party.{Party}
use Rattle.judgement.specs.declared.json.told.Told.{Told}

abbrev pub kind_word : Kind → List ℕ
kind_word WriteRead = codes "wr"
kind_word ReadWrite = codes "rw"
kind_word WriteWrite = codes "ww"
kind_word Time = codes "time"
kind_word Follows = codes "follows"

module _ {A : Type 0} where
  unfoldable pub origin_members : Option (Origin A) → List ℕ
  origin_members None = []
  origin_members (Some o) = string_member (codes ",\"name\":") o.name.items ++ string_member (codes ",\"file\":") o.file.items

  unfoldable pub party : Party A → List ℕ
  party p = (codes "{\"transaction\":" ++ decimal p.transaction) ++ ((codes ",\"session\":" ++ decimal p.session) ++ (number_if (codes ",\"line\":") p.line ++ (origin_members p.origin ++ codes "}")))

  unfoldable pub string_if : List ℕ → Option (Vec ℕ A) → List ℕ
  string_if before None = []
  string_if before (Some bytes) = string_member before bytes.items

  unfoldable pub item_members : Option (Item A) → List ℕ
  item_members None = []
  item_members (Some i) = string_member (codes ",\"table\":") i.table.items ++ (string_member (codes ",\"key\":") i.key.items ++ string_if (codes ",\"column\":") i.column)

  -- the two transactions of an edge, and why one comes before the other
  unfoldable pub edge_parties : Edge A → List ℕ
  edge_parties e = codes "{\"kind\":\"" ++ (kind_word e.kind ++ (codes "\",\"before\":" ++ (party e.before ++ (codes ",\"after\":" ++ party e.after))))

  unfoldable pub edge : Edge A → List ℕ
  edge e = edge_parties e ++ (item_members e.item ++ (string_member (codes ",\"words\":") e.words.items ++ codes "}"))

  abbrev pub parties : List (Party A) → List ℕ
  parties ps = flat_map (λ p. after_comma (party p)) ps

  abbrev pub edges : List (Edge A) → List ℕ
  edges es = flat_map (λ e. after_comma (edge e)) es

  -- a cycle: its transactions, its edges, and the name of the anomaly where there is one
  unfoldable pub cycle : Cycle A → List ℕ
  cycle c = codes "{\"transactions\":" ++ (array (parties c.transactions.items) ++ (codes ",\"edges\":" ++ (array (edges c.edges.items) ++ (string_if (codes ",\"anomaly\":") c.name ++ codes "}"))))

  abbrev pub cycles : List (Cycle A) → List ℕ
  cycles cs = flat_map (λ c. after_comma (cycle c)) cs

  abbrev pub lines : List (Vec ℕ A) → List ℕ
  lines ls = flat_map (λ l. after_comma (string l.items)) ls

  -- the members that say what a certificate tells
  unfoldable pub told : Told A → List ℕ
  told t = codes ",\"cycles\":" ++ (array (cycles t.cycles.items) ++ (codes ",\"reasons\":" ++ array (lines t.reasons.items)))
