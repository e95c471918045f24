-- What a sequence of pieces is to a contract, by its fields.
use Rattle.std.specs.Prelude.{ℕ, List}
use Rattle.schema.specs.declared.tables.Tables.{Tables}
use Rattle.dumpplan.specs.Pieces.{piece_texts}
use Rattle.collector.specs.Gathered.{Gathering}
use Rattle.collector.specs.declared.sequence.Sequence.TheInside.{Inside}

-- The work so far of a sequence, whose reader stands for `tables`, and whose device has taken and failed this much.
abbrev pub gathering : {R W A : Type 0} (tables : R → Tables A) (taken : W → List ℕ) (failures : W → ℕ) → Inside R W A → Gathering
gathering tables taken failures c = record {
  texts = piece_texts c.catalog.now (tables c.reader.now) c.plan.now;
  name = c.device.ghost_name;
  before = taken c.start.value;
  failures_before = failures c.start.value;
  taken = taken c.device.now;
  failures = failures c.device.now;
  waiting = c.waiting.items;
  next = c.next;
  failed = c.failed;
}
