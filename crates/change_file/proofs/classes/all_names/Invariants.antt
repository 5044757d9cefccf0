use Rattle.std.proofs.Common.{◌≡◌, List, ℕ, drop}
use Rattle.std.specs.Prelude.{◌||◌}
use Rattle.rb_base.specs.Names.{text_eq}
use Rattle.file_model.specs.Hierarchy.{has_class}
use Rattle.change_file.specs.Partners.{is_listed}
use Rattle.change_file.proofs.ClassLists.{all_texts}
use Rattle.change_file.proofs.classes.all_names.Given as goal

abbrev pub invariant-loop-id : goal.invariant-loop-id
invariant-loop-id l =
    (name : List ℕ) → (is_listed l.names name || has_class text_eq (all_texts l.image (drop l.id-index l.id-items)) name) ≡ has_class text_eq (all_texts l.image l.id-items) name
