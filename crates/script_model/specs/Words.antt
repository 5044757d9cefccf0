-- The words by which the commands of scripts begin (Roberts 1999).
use Rattle.std.specs.Prelude.{ℕ, List, codes}

abbrev pub rename_class : List ℕ
rename_class = codes "renameClass"

abbrev pub add_class : List ℕ
add_class = codes "addClass"

abbrev pub remove_class : List ℕ
remove_class = codes "removeClass"

abbrev pub add_inst_var : List ℕ
add_inst_var = codes "addInstVar"

abbrev pub rename_inst_var : List ℕ
rename_inst_var = codes "renameInstVar"

abbrev pub remove_inst_var : List ℕ
remove_inst_var = codes "removeInstVar"

abbrev pub push_up_inst_var : List ℕ
push_up_inst_var = codes "pushUpInstVar"

abbrev pub push_down_inst_var : List ℕ
push_down_inst_var = codes "pushDownInstVar"

abbrev pub add_class_var : List ℕ
add_class_var = codes "addClassVar"

abbrev pub rename_class_var : List ℕ
rename_class_var = codes "renameClassVar"

abbrev pub remove_class_var : List ℕ
remove_class_var = codes "removeClassVar"

abbrev pub push_up_class_var : List ℕ
push_up_class_var = codes "pushUpClassVar"

abbrev pub push_down_class_var : List ℕ
push_down_class_var = codes "pushDownClassVar"

abbrev pub add_class_side_var : List ℕ
add_class_side_var = codes "addClassSideVar"

abbrev pub rename_class_side_var : List ℕ
rename_class_side_var = codes "renameClassSideVar"

abbrev pub remove_class_side_var : List ℕ
remove_class_side_var = codes "removeClassSideVar"

abbrev pub rename_selector : List ℕ
rename_selector = codes "renameSelector"

abbrev pub remove_method : List ℕ
remove_method = codes "removeMethod"

abbrev pub push_up_method : List ℕ
push_up_method = codes "pushUpMethod"

abbrev pub push_down_method : List ℕ
push_down_method = codes "pushDownMethod"

abbrev pub remove_parameter : List ℕ
remove_parameter = codes "removeParameter"

abbrev pub abstract_inst_var : List ℕ
abstract_inst_var = codes "abstractInstVar"

abbrev pub extract_method : List ℕ
extract_method = codes "extractMethod"

abbrev pub inline_method : List ℕ
inline_method = codes "inlineMethod"

abbrev pub extract_temp : List ℕ
extract_temp = codes "extractTemp"

abbrev pub inline_temp : List ℕ
inline_temp = codes "inlineTemp"

abbrev pub rename_temp : List ℕ
rename_temp = codes "renameTemp"

abbrev pub undo : List ℕ
undo = codes "undo"

abbrev pub redo : List ℕ
redo = codes "redo"

abbrev pub create_accessors : List ℕ
create_accessors = codes "createAccessors"

abbrev pub extract_superclass : List ℕ
extract_superclass = codes "extractSuperclass"

abbrev pub push_up_with_methods : List ℕ
push_up_with_methods = codes "pushUpWithMethods"

abbrev pub add_method : List ℕ
add_method = codes "addMethod"

abbrev pub add_parameter : List ℕ
add_parameter = codes "addParameter"

abbrev pub apply_rule : List ℕ
apply_rule = codes "applyRule"
