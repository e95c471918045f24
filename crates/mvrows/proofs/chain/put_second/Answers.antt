use Rattle.std.proofs.Common.{◌∙◌}
use Rattle.std.specs.Option.{option_copied}
use Rattle.mvrows.proofs.KeptLemmas.{second-stored, second-told}
use Rattle.mvrows.proofs.chain.put_second.Goals as goal

pub fill-requires-clause-own : goal.fill-requires-clause-own
fill-requires-clause-own g c =
    second-stored c.args.kept.now c.replace-older.result c.replace-older.new.dest c.new-list.result c.in_ok-key.key (record { number = c.args.number; fields = option_copied c.args.fields }) c.in_ok-versions.versions.items c.push_alone.new.versions.items
    c.requires (c.in_ok-key.ensures.ok ∙ c.key_of.ensures) c.in_ok-versions.ensures.ok c.replace-older.ensures.value c.replace-older.ensures.after c.new-list.ensures c.push_alone.ensures

pub returns-clause-ok : goal.returns-clause-ok
returns-clause-ok g c =
    second-told c.args.kept.now c.replace-older.result c.replace-older.new.dest c.fill.new.kept c.new-list.result c.in_ok-key.key (record { number = c.args.number; fields = option_copied c.args.fields }) c.in_ok-versions.versions.items c.push_alone.new.versions.items
    c.requires (c.in_ok-key.ensures.ok ∙ c.key_of.ensures) c.in_ok-versions.ensures.ok c.replace-older.ensures.value c.replace-older.ensures.after c.new-list.ensures c.push_alone.ensures c.fill.ensures
