use Rattle.std.proofs.Common.{codes, ap, ◌∙◌, unwrap_or}
use Rattle.clap.specs.Words.{found_of}
use Rattle.clap.proofs.WalkLemmas.{first_value-rows}
use Rattle.program.proofs.AskedLemmas.{text_or}
use Rattle.program.proofs.arguments.path_of.Goals as goal

pub returns : goal.returns
returns c = ap (λ b. b.now) c.unwrap_or.ensures ∙ text_or c.get_str.result _ ∙ ap (λ o. unwrap_or o (codes "-")) (c.get_str.ensures ∙ first_value-rows (found_of c.args.command.now) c.args.id.now)
