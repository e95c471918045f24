-- What is printed of a judgement (this project's own format).
use Rattle.std.specs.Prelude.{◌≡◌, ℕ, List, [], ◌++◌, map, codes, slice_get, Option, Some, None}
use Rattle.std.specs.Fmt.{decimal}
use Rattle.std.specs.List.{flat_map}
use Rattle.statement.specs.declared.reply.Reply.{Reply}
use Rattle.statement.specs.declared.statement.Statement.{Statement}
use Rattle.orders.specs.Explains.{Trace}
use Rattle.orders.specs.declared.search.Answer.{Answer}
use Rattle.orders.specs.declared.search.Answer.TheVariants.{Yes, No, Unknown}
use Rattle.orders.specs.declared.stop.Hindered.{Hindered}
use Rattle.orders.specs.declared.stop.Hindrance.{Hindrance}
use Rattle.orders.specs.declared.stop.Hindrance.TheVariants as why
use Rattle.orders.specs.declared.stop.Stop.{Stop}
use Rattle.script.specs.Printing.{reply_text}
use Rattle.transcript.specs.Reading.{Named, named}
use Rattle.transcript.specs.declared.traces.Name.{Name}
use Rattle.judgement.specs.Counting.{AreCounts}
use Rattle.judgement.specs.Lines.{answer_line}
use Rattle.judgement.specs.declared.judging.Judgement.{Judgement}

-- a transaction's number behind a space; nothing where there is no transaction
abbrev pub number_text : Option Named → List ℕ
number_text None = []
number_text (Some x) = codes " " ++ decimal x.number

-- the line of an order, which lists places
abbrev pub order_text : List Named → List ℕ → List ℕ
order_text names order = codes "order" ++ flat_map (λ place. number_text (slice_get names place)) order ++ codes "\n"

-- x can't come next: y had ended before x began, and is to come
abbrev pub time_line : Named → Named → List ℕ
time_line x y = codes "txn " ++ decimal x.number ++ codes " time " ++ decimal y.number ++ codes "\n"

abbrev pub time_text : Option Named → Option Named → List ℕ
time_text None y = []
time_text (Some x) None = []
time_text (Some x) (Some y) = time_line x y

module _ {A : Type 0} where
  -- how transactions are named
  abbrev pub name_of : Name A → Named
  name_of n = named n.number n.session n.lines.items

  abbrev pub names_of : List (Name A) → List Named
  names_of names = map name_of names

  -- a reply to x's statement in a line, with a word that says which reply it is
  abbrev pub reply_lines : Named → ℕ → List ℕ → Reply A → List ℕ
  reply_lines x line word reply = codes "txn " ++ decimal x.number ++ codes " line " ++ decimal line ++ word ++ reply_text x.session reply

  -- x can't come next: its statement in this line has another reply alone than was recorded
  abbrev pub differing_lines : Named → Option ℕ → Option (Statement A × Reply A) → Reply A → List ℕ
  differing_lines x None recorded alone = []
  differing_lines x (Some line) None alone = []
  differing_lines x (Some line) (Some recorded) alone = reply_lines x line (codes " recorded\n") recorded.1 ++ reply_lines x line (codes " alone\n") alone

  -- x can't come next, because of its statement at a place; nothing where there is no such statement
  abbrev pub differing_text : Option Named → Option (Trace A) → ℕ → Reply A → List ℕ
  differing_text None t at alone = []
  differing_text (Some x) None at alone = []
  differing_text (Some x) (Some t) at alone = differing_lines x (slice_get x.lines at) (slice_get t.statements at) alone

  -- why the transaction at a place can't come next; nothing where it could
  abbrev pub hindrance_text : List Named → List (Trace A) → ℕ → Hindrance A → List ℕ
  hindrance_text names ts place (why.Time earlier) = time_text (slice_get names place) (slice_get names earlier)
  hindrance_text names ts place (why.Answer at alone) = differing_text (slice_get names place) (slice_get ts place) at alone
  hindrance_text names ts place why.Nothing = []

  abbrev pub hindered_text : List Named → List (Trace A) → Hindered A → List ℕ
  hindered_text names ts h = hindrance_text names ts h.place h.hindrance

  -- the longest order, and why none of the others comes next
  abbrev pub stop_text : List Named → List (Trace A) → Stop A → List ℕ
  stop_text names ts stop = order_text names stop.order.items ++ flat_map (hindered_text names ts) stop.hindered.items

  -- Why no order explains what was recorded: where the search stopped, if it did. A certificate is put into words, of which nothing is said here.
  abbrev pub TellsWhy : {C : Type 0} → List Named → List (Trace A) → Option C → Option (Stop A) → List ℕ → Type 0
  TellsWhy names ts (Some certificate) stop text = Unit {0}
  TellsWhy names ts None (Some stop) text = text ≡ stop_text names ts stop
  TellsWhy names ts None None text = text ≡ []

  -- What stands before the answer: the order, or why there is none.
  abbrev pub TellsReasons : {C : Type 0} → List Named → List (Trace A) → Answer A → Option C → Option (Stop A) → List ℕ → Type 0
  TellsReasons names ts (Yes order) certificate stop text = text ≡ order_text names order.items
  TellsReasons names ts No certificate stop text = TellsWhy names ts certificate stop text
  TellsReasons names ts Unknown certificate stop text = text ≡ []

  -- The text of a judgement: its reasons, how much was judged, and then the line of its answer.
  abbrev pub TellsOf : Judgement A → List ℕ → Type 0
  TellsOf j text =
      (reasons : List ℕ) × (counts : List ℕ) × (text ≡ reasons ++ counts ++ answer_line j.answer) × TellsReasons (names_of j.traces.names.items) j.traces.transactions.items j.answer j.certificate j.stop reasons
      × AreCounts (names_of j.traces.names.items) j.traces.transactions.items counts
