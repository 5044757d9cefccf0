-- A part put where a path leads, or nowhere.
use Rattle.std.proofs.Common.{◌≡◌, None, sym, ap, ◌∙◌}
use Rattle.std.specs.Option.{option_copied_mut}
use Rattle.tree_model.specs.Path.{part_in, replaced_in}
use Rattle.tree_model.proofs.Parts.{replaced_in-nowhere}
use Rattle.st_tree.specs.View.{sequence_of}
use Rattle.st_tree.proofs.Back.{sequence_of-sequence_from}
use Rattle.tree_lending.proofs.part.put_at_doit.Goals as goal

pub returns-in-Some-clause-after : goal.returns-in-Some-clause-after
returns-in-Some-clause-after c = sequence_of-sequence_from (replaced_in (sequence_of c.args.body.now) c.args.path.now c.args.part)

pub returns-in-None-clause-after : goal.returns-in-None-clause-after
returns-in-None-clause-after c =
    let b = sequence_of c.args.body.now in
    let none : part_in b c.args.path.now ≡ None = sym c.part_mut_doit.ensures.value ∙ ap option_copied_mut c.in-None.is in
    sym (replaced_in-nowhere b c.args.path.now c.args.part none)
