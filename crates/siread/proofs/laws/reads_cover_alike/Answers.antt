use Rattle.siread.proofs.AlikeLemmas.{alike_itself, alike_keys, alike_more, alike_references, alike_then}
use Rattle.siread.proofs.laws.reads_cover_alike.Goals as goal

pub returns-clause-keys : goal.returns-clause-keys
returns-clause-keys g c = alike_keys

pub returns-clause-references : goal.returns-clause-references
returns-clause-references g c = alike_references

pub returns-clause-more : goal.returns-clause-more
returns-clause-more g c = alike_more

pub returns-clause-chain : goal.returns-clause-chain
returns-clause-chain g c = alike_then

pub returns-clause-itself : goal.returns-clause-itself
returns-clause-itself g c = alike_itself
