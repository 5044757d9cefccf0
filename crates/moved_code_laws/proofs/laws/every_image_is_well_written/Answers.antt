use Rattle.std.specs.Prelude.{◌≡◌, ◌||◌, false, IsTrue}
use Rattle.std.specs.List.{AllByRecursion}
use Rattle.scope_model.specs.SpecialNames.{is_pseudo_variable}
use Rattle.text_model.specs.Literals.{is_identifier}
use Rattle.run_model.proofs.Finite.{and-true_right}
use Rattle.file_model.specs.Words.{is_global, may_name}
use Rattle.rename_laws.proofs.Unnamed.{neither_left, denied}
use Rattle.image_model.specs.Image.{ClassOf, EntryOf}
use Rattle.image_model.specs.Valid.{GivesNames, IsUserMethod}
use Rattle.image_model.proofs.Lists.{all-implies}
use Rattle.text_model.specs.Whole.{canonical_method}
use Rattle.file_model.specs.Filing.{Text}
use Rattle.file_model.specs.Fileable.{reading_of}
use Rattle.reread_law.specs.WholeTrees.{WellFormedMethod}
use Rattle.moved_code_laws.proofs.laws.every_image_is_well_written.Goals as goal

pub returns : goal.returns
returns g = λ dialect kernel image is valid.
    record {
      behind = g.every_image_may_be_renamed.ensures.behind_kernel dialect kernel image is valid;
      kernel_chains = g.every_image_has_kernel_chains.ensures dialect kernel image is valid;
      variables =
          all-implies (GivesNames (reading_of dialect kernel).IsName) (λ (c : ClassOf Text). AllByRecursion (λ n. is_pseudo_variable n ≡ false) c.instance)
          (λ c gives. all-implies (λ n. IsTrue (may_name n)) (λ n. is_pseudo_variable n ≡ false) (λ n h. neither_left (is_pseudo_variable n) (is_global n) (denied (is_pseudo_variable n || is_global n) (and-true_right (is_identifier n) _ h))) c.instance gives.instance) image.classes
          valid.names_may_be_given;
      once = valid.methods_once;
      formed =
          all-implies (λ (m : EntryOf Text). m.kernel ≡ false → IsUserMethod (reading_of dialect kernel) m) (λ (m : EntryOf Text). m.kernel ≡ false → WellFormedMethod false m.tree)
          (λ m user e. (g.tells_which_trees_have_a_text.ensures.method false m.tree).0 (canonical_method m.tree, g.spells_the_tree_again.ensures.method dialect false m.source m.tree (user e).spells)) image.methods valid.user_methods;
    }
