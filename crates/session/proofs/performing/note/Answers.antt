use Rattle.std.proofs.Common.{◌++◌, ◌∷◌, [], ◌∙◌}
use Rattle.std.specs.Prelude.{if◌then◌else◌}
use Rattle.session.proofs.performing.note.Goals as goal

pub returns-clause-commands : goal.returns-clause-commands
returns-clause-commands c =
    let old = c.args.commands.now.items in
    c.push.ensures.items ∙ (λ j. if c.push.ensures.succeeds c.requires.commands j then old ++ c.args.command ∷ [] else old)

pub returns-clause-touched : goal.returns-clause-touched
returns-clause-touched c =
    let old = c.args.touched.now.items in
    c.extend_from_slice.ensures.items ∙ (λ j. if c.extend_from_slice.ensures.succeeds c.requires.touched j then old ++ c.args.places.now else old)
