use Rattle.std.proofs.Common.{◌<◌, ◌∙◌, ℕ, ap, map, subst, sym}
use Rattle.conflict.specs.Undo.{unread_by, unreading}
use Rattle.conflict.proofs.Forgetting.{sound_removed}
use Rattle.conflict.proofs.Places.{at_within, erased_at}
use Rattle.conflict.proofs.parties.remove_at.Goals as goal

pub remove-party-requires : goal.remove-party-requires
remove-party-requires g c = subst (λ (n : ℕ). c.args.place < n) (sym c.args.parties.now.ok.0) (at_within c.args.number c.args.parties.now.items c.args.place c.requires.at)

pub drop_ins-requires : goal.drop_ins-requires
drop_ins-requires g c =
    let s = sound_removed c.args.parties.now.items c.remove-party.new.self.items c.args.place c.remove-party.result c.requires.sound (at_within c.args.number c.args.parties.now.items c.args.place c.requires.at) c.remove-party.ensures.value c.remove-party.ensures.items in
    (s.0, s.1.sorted)

pub returns : goal.returns
returns g c =
    erased_at c.args.number c.args.parties.now.items c.args.place c.remove-party.result c.remove-party.new.self.items c.drop_ins.new.parties.items c.drop_outs.new.parties.items c.requires.sound.0 c.requires.sound.1 c.requires.at c.requires.active
    c.remove-party.ensures.value c.remove-party.ensures.items
    (c.drop_ins.ensures.dropped ∙ ap (λ ns. map (unread_by c.args.number ns) c.remove-party.new.self.items) c.outs.ensures)
    (c.drop_outs.ensures ∙ ap (λ ns. map (unreading c.args.number ns) c.drop_ins.new.parties.items) c.ins.ensures)
