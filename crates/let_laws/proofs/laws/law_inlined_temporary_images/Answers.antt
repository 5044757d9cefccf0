use Rattle.std.specs.Prelude.{◌≡◌, false}
use Rattle.image_model.specs.Image.{EntryOf}
use Rattle.image_model.specs.Valid.{IsUserMethod}
use Rattle.image_model.proofs.Lists.{all-implies}
use Rattle.text_model.specs.Whole.{canonical_method}
use Rattle.run_model.specs.Values.{Name}
use Rattle.reread_law.specs.WholeTrees.{WellFormedMethod}
use Rattle.file_model.specs.Fileable.{reading_of}
use Rattle.rename_model.specs.ClassRenamed.{canonical}
use Rattle.command_model.specs.Asked.{text_asked}
use Rattle.command_model.specs.Commands.{InlineTemp}
use Rattle.command_model.proofs.Held.{all-hold}
use Rattle.let_laws.proofs.ValidImages.{names-there}
use Rattle.let_laws.proofs.laws.law_inlined_temporary_images.Goals as goal

pub returns : goal.returns
returns g = λ dialect kernel image c meta s x valid none.
    let hold = all-hold text_asked image (InlineTemp c meta s x) none in
    g.law_inlined_temporary.ensures.matched canonical image c meta s x (names-there image.classes valid.names_may_be_given) valid.methods_once
    (all-implies (λ (m : EntryOf Name). m.kernel ≡ false → IsUserMethod (reading_of dialect kernel) m) (λ (m : EntryOf Name). m.kernel ≡ false → WellFormedMethod false m.tree)
    (λ m user e. (g.tells_which_trees_have_a_text.ensures.method false m.tree).0 (canonical_method m.tree, g.spells_the_tree_again.ensures.method dialect false m.source m.tree (user e).spells)) image.methods valid.user_methods)
    hold.let_form hold.no_capture hold.no_new_control
