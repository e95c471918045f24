use Rattle.std.proofs.Common.{◌≡◌, [], drop}
use Rattle.std.specs.BTreeMap.{get}
use Rattle.std.specs.Ordering.{nat_cmp}
use Rattle.audit.specs.Course.{AreLatest, courses_after}
use Rattle.audit.proofs.course.courses.Given as goal

-- the records left go on from here
abbrev pub invariant-loop-entry : goal.invariant-loop-entry
invariant-loop-entry g l = (courses_after l.place (drop l.entry-index l.records) l.courses.items ≡ courses_after 0 l.records []) × (l.place ≡ l.entry-index) × AreLatest (get nat_cmp l.latest) l.courses.items
