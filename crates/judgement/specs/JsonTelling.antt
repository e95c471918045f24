-- What is printed of a judgement in JSON (this project's own format).
use Rattle.std.specs.Prelude.{◌≡◌, ℕ, List, [], ◌++◌, codes, slice_get, Option, Some, None}
use Rattle.std.specs.Fmt.{decimal}
use Rattle.std.specs.List.{flat_map}
use Rattle.statement.specs.declared.reply.Reply.{Reply}
use Rattle.statement.specs.declared.statement.Statement.{Statement}
use Rattle.orders.specs.Explains.{Trace}
use Rattle.orders.specs.declared.search.Answer.{Answer}
use Rattle.orders.specs.declared.search.Answer.TheVariants.{Yes, No, Unknown}
use Rattle.orders.specs.declared.stop.Hindered.{Hindered}
use Rattle.orders.specs.declared.stop.Hindrance.{Hindrance}
use Rattle.orders.specs.declared.stop.Hindrance.TheVariants as why
use Rattle.orders.specs.declared.stop.Stop.{Stop}
use Rattle.script.specs.Printing.{reply_text}
use Rattle.transcript.specs.Reading.{Named}
use Rattle.judgement.specs.Counting.{AreCounted}
use Rattle.judgement.specs.Json.{after_comma, array, number_member, string_member}
use Rattle.judgement.specs.JsonTold.{told}
use Rattle.judgement.specs.Telling.{names_of}
use Rattle.judgement.specs.declared.counting.Counts.{Counts}
use Rattle.judgement.specs.declared.json.told.Told.{Told}
use Rattle.judgement.specs.declared.judging.Judgement.{Judgement}

-- the number of a transaction; 0 where there is none
abbrev pub number_of : Option Named → ℕ
number_of None = 0
number_of (Some x) = x.number

-- the transactions at places, each behind a comma
abbrev pub numbers : List Named → List ℕ → List ℕ
numbers names places = flat_map (λ place. after_comma (decimal (number_of (slice_get names place)))) places

-- the member that has an order, which lists places
unfoldable pub order_member : List ℕ → List Named → List ℕ → List ℕ
order_member before names order = before ++ array (numbers names order)

-- the member that says how much was judged
unfoldable pub counts_member : Counts → List ℕ
counts_member c =
    number_member (codes ",\"judged\":{\"transactions\":") c.transactions ++ (number_member (codes ",\"sessions\":") c.sessions ++ (number_member (codes ",\"statements\":") c.statements
    ++ (number_member (codes ",\"unanswered\":") c.unanswered ++ codes "}")))

module _ {A : Type 0} where
  -- a statement's line, its recorded reply, and the one that it gets alone
  unfoldable pub reply_members : Named → ℕ → Reply A → Reply A → List ℕ
  reply_members x line recorded alone = number_member (codes ",\"line\":") line ++ (string_member (codes ",\"recorded\":") (reply_text x.session recorded) ++ string_member (codes ",\"alone\":") (reply_text x.session alone))

  -- nothing where there is no such statement
  abbrev pub line_members : Named → Option ℕ → Option (Statement A × Reply A) → Reply A → List ℕ
  line_members x None recorded alone = []
  line_members x (Some line) None alone = []
  line_members x (Some line) (Some recorded) alone = reply_members x line recorded.1 alone

  abbrev pub answer_members : Option Named → Option (Trace A) → ℕ → Reply A → List ℕ
  answer_members None t at alone = []
  answer_members (Some x) None at alone = []
  answer_members (Some x) (Some t) at alone = line_members x (slice_get x.lines at) (slice_get t.statements at) alone

  -- why the transaction at a place can't come next
  abbrev pub hindrance_members : List Named → List (Trace A) → ℕ → Hindrance A → List ℕ
  hindrance_members names ts place (why.Time earlier) = number_member (codes ",\"after\":") (number_of (slice_get names earlier))
  hindrance_members names ts place (why.Answer at alone) = answer_members (slice_get names place) (slice_get ts place) at alone
  hindrance_members names ts place why.Nothing = []

  unfoldable pub hindered : List Named → List (Trace A) → Hindered A → List ℕ
  hindered names ts h = number_member (codes "{\"transaction\":") (number_of (slice_get names h.place)) ++ (hindrance_members names ts h.place h.hindrance ++ codes "}")

  abbrev pub each_hindered : List Named → List (Trace A) → List (Hindered A) → List ℕ
  each_hindered names ts hs = flat_map (λ h. after_comma (hindered names ts h)) hs

  -- the longest order, and why none of the others comes next
  unfoldable pub stop_members : List Named → List (Trace A) → Stop A → List ℕ
  stop_members names ts stop = order_member (codes ",\"longest\":") names stop.order.items ++ (codes ",\"hindered\":" ++ array (each_hindered names ts stop.hindered.items))

  -- Why no order explains what was recorded: what a certificate tells, or where the search stopped.
  abbrev pub TellsWhy : {C : Type 0} → List Named → List (Trace A) → Option C → Option (Stop A) → List ℕ → Type 0
  TellsWhy names ts (Some certificate) stop text = (t : Told A) × (text ≡ told t)
  TellsWhy names ts None (Some stop) text = text ≡ stop_members names ts stop
  TellsWhy names ts None None text = text ≡ []

  abbrev pub TellsReasons : {C : Type 0} → List Named → List (Trace A) → Answer A → Option C → Option (Stop A) → List ℕ → Type 0
  TellsReasons names ts (Yes order) certificate stop text = text ≡ order_member (codes ",\"order\":") names order.items
  TellsReasons names ts No certificate stop text = TellsWhy names ts certificate stop text
  TellsReasons names ts Unknown certificate stop text = text ≡ []

  -- the object's beginning: its version, and the answer
  abbrev pub beginning : Answer A → List ℕ
  beginning (Yes order) = codes "{\"version\":1,\"answer\":\"yes\""
  beginning No = codes "{\"version\":1,\"answer\":\"no\""
  beginning Unknown = codes "{\"version\":1,\"answer\":\"unknown\""

  -- The object of a judgement: its answer, how much was judged, and the reasons.
  abbrev pub TellsObject : Judgement A → List ℕ → Type 0
  TellsObject j text =
      (counts : Counts) × (reasons : List ℕ) × (text ≡ beginning j.answer ++ (counts_member counts ++ (reasons ++ codes "}\n"))) × AreCounted (names_of j.traces.names.items) j.traces.transactions.items counts
      × TellsReasons (names_of j.traces.names.items) j.traces.transactions.items j.answer j.certificate j.stop reasons
