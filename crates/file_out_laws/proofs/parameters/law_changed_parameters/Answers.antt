use Rattle.text_model.specs.Whole.{canonical_method, canonical_doit}
use Rattle.rename_model.specs.ClassRenamed.{canonical}
use Rattle.rename_model.specs.CommandWords.{arity}
use Rattle.command_model.specs.Asked.{text_asked}
use Rattle.command_model.specs.Commands.{AddParameter, RemoveParameter}
use Rattle.command_model.proofs.Held.{all-hold}
use Rattle.parameter_laws.proofs.KernelApart.{control-apart}
use Rattle.parameter_laws.proofs.NewToMethods.{new-to}
use Rattle.file_out_laws.proofs.ArgumentsPassed.{plainly-written, image-takes}
use Rattle.file_out_laws.proofs.parameters.law_changed_parameters.Goals as goal

pub returns-clause-removed_where : goal.returns-clause-removed_where
returns-clause-removed_where c = λ dialect kernel image s t k is valid reflection old new fresh unused plain.
    c.law_removed_parameter.ensures.by_command canonical image s t k (c.every_image_may_be_renamed.ensures.behind_kernel dialect kernel image is valid)
    (plainly-written dialect kernel (λ own text tree h. (c.tells_which_trees_have_a_text.ensures.method own tree).0 (canonical_method tree, c.spells_the_tree_again.ensures.method dialect own text tree h)) image.methods valid.user_methods)
    reflection old new fresh unused plain

pub returns-clause-added_where : goal.returns-clause-added_where
returns-clause-added_where c = λ dialect kernel image s t x l is valid old new fresh methods atom.
    c.law_added_parameter.ensures canonical image s t x (arity s) l (control-apart image s old) (control-apart image t new) fresh atom
    (image-takes s dialect kernel
    (λ own text tree h. (c.tells_which_trees_have_a_text.ensures.method own tree).0 (canonical_method tree, c.spells_the_tree_again.ensures.method dialect own text tree h))
    (λ text tree h. (c.tells_which_trees_have_a_text.ensures.doit tree).0 (canonical_doit tree, c.spells_the_tree_again.ensures.doit dialect text tree h))
    x image valid old (new-to image (AddParameter s t x l) s x valid.methods_once valid.method_classes_there methods))

pub returns-clause-removed : goal.returns-clause-removed
returns-clause-removed c = λ dialect kernel image s t k is valid none.
    let hold = all-hold text_asked image (RemoveParameter s k t) none in
    returns-clause-removed_where c dialect kernel image s t k is valid hold.no_reflection hold.old_not_kernel hold.new_not_kernel hold.fresh_selector hold.unused_parameter hold.plain_arguments

pub returns-clause-added : goal.returns-clause-added
returns-clause-added c = λ dialect kernel image s t x l is valid none.
    let hold = all-hold text_asked image (AddParameter s t x l) none in
    returns-clause-added_where c dialect kernel image s t x l is valid hold.old_not_kernel hold.new_not_kernel hold.fresh_selector hold.new_to_methods hold.atom_literal
