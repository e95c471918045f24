use Rattle.std.proofs.Common.{arith}
use Rattle.conflict.proofs.Places.{at_find, at_within, none_find}
use Rattle.conflict.proofs.parties.find.Goals as goal

pub offset_bounds-parties-place : goal.offset_bounds-parties-place
offset_bounds-parties-place g c = let l = at_within c.args.number c.args.parties.now c.in-Some.place c.in-Some.ensures.some in omega (arith, l)

pub bounds-parties-place : goal.bounds-parties-place
bounds-parties-place g c = at_within c.args.number c.args.parties.now c.in-Some.place c.in-Some.ensures.some

pub returns-in-Some-clause-some : goal.returns-in-Some-clause-some
returns-in-Some-clause-some g c = at_find c.args.number c.args.parties.now c.in-Some.place c.index-parties-place.result c.requires c.in-Some.ensures.some c.index-parties-place.is

pub returns-in-None-clause-none : goal.returns-in-None-clause-none
returns-in-None-clause-none g c = none_find c.args.number c.args.parties.now c.in-None.ensures.none
