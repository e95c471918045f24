use Rattle.certificate.proofs.FrameLemmas.{sound-closed, sound-first, sound-more, sound-told}
use Rattle.certificate.proofs.laws.suppositions_are_sound.Goals as goal

pub returns-clause-more : goal.returns-clause-more
returns-clause-more g c = λ b order turns play fs f a sound. sound-more b order turns play fs f a sound

pub returns-clause-told : goal.returns-clause-told
returns-clause-told g c = λ b order turns play fs f k told sound. sound-told b order turns play fs f k told sound

pub returns-clause-closed : goal.returns-clause-closed
returns-clause-closed g c = λ b order turns play fs f h a assumed fair refuted sound. sound-closed b order turns play fs f h a assumed fair refuted sound

pub returns-clause-first : goal.returns-clause-first
returns-clause-first g c = λ b order turns play f none refuted sound. sound-first b order turns play f none refuted sound
