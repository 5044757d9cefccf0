-- The commands of scripts (Roberts 1999): by which word each begins, what stands behind it, and what they ask for together.
use Rattle.std.specs.Prelude.{List, [], ◌∷◌, Result, Ok, Err, find}
use Rattle.std.specs.Option.{option_map_or, option_and_then}
use Rattle.rb_base.specs.Names.{text_eq}
use Rattle.command_model.specs.Commands.{RenameClass, AddClass, RemoveClass, AddInstVar, RenameInstVar, RemoveInstVar, PushUpInstVar, PushDownInstVar, AddClassVar, RenameClassVar, RemoveClassVar, PushUpClassVar, PushDownClassVar, AddClassSideVar, RenameClassSideVar, RemoveClassSideVar, RenameSelector, RemoveMethod, PushUpMethod, PushDownMethod, RemoveParameter, AbstractInstVar, ExtractMethod, InlineMethod, ExtractTemp, InlineTemp, RenameTemp}
use Rattle.command_model.specs.Accessors.{setter_selector, setter_argument}
use Rattle.history_model.specs.Rules.{Perform, Undo, Redo}
use Rattle.session_model.specs.Actions.{CreateAccessors, ExtractSuperclass, PushUpWithMethods}
use Rattle.session_model.specs.Scripts.{Request}
use Rattle.script_model.specs.Words.{rename_class, add_class, remove_class, add_inst_var, rename_inst_var, remove_inst_var, push_up_inst_var, push_down_inst_var, add_class_var, rename_class_var, remove_class_var, push_up_class_var, push_down_class_var, add_class_side_var, rename_class_side_var, remove_class_side_var, rename_selector, remove_method, push_up_method, push_down_method, remove_parameter, abstract_inst_var, extract_method, inline_method, extract_temp, inline_temp, rename_temp, undo, redo, create_accessors, extract_superclass, push_up_with_methods}
use Rattle.script_model.specs.Arguments.{a_class, a_variable, a_selector, a_number, Form, takes, takes_classes_behind, method_and, part_and, arguments_of}
use Rattle.script_model.specs.Makers.{Text, Maker, single, of_none, of_one, of_two, of_three, of_classes, of_parameter, of_method, of_local, of_local_to, of_part, of_part_to}

-- a command by its word: what stands behind the word, and what it makes
pub record Row : Type 0 where
  pub word : Text
  pub form : Form
  pub makes : Maker

abbrev pub row : Text → Form → Maker → Row
row w f m = record { word = w; form = f; makes = m }

-- the commands that are performed and have nothing but words behind theirs
abbrev pub table : List Row
table =
    row add_class (takes_classes_behind (a_class ∷ a_class ∷ [])) (of_classes (λ d p under. single (AddClass d p under)))
    ∷ row rename_class (takes (a_class ∷ a_class ∷ [])) (of_two (λ c d. single (RenameClass c d)))
    ∷ row remove_class (takes (a_class ∷ [])) (of_one (λ c. single (RemoveClass c)))
    ∷ row add_inst_var (takes (a_class ∷ a_variable ∷ [])) (of_two (λ c x. single (AddInstVar c x)))
    ∷ row rename_inst_var (takes (a_class ∷ a_variable ∷ a_variable ∷ [])) (of_three (λ c x y. single (RenameInstVar c x y)))
    ∷ row remove_inst_var (takes (a_class ∷ a_variable ∷ [])) (of_two (λ c x. single (RemoveInstVar c x)))
    ∷ row push_up_inst_var (takes (a_class ∷ a_variable ∷ [])) (of_two (λ c x. single (PushUpInstVar c x)))
    ∷ row push_down_inst_var (takes (a_class ∷ a_variable ∷ [])) (of_two (λ c x. single (PushDownInstVar c x)))
    ∷ row add_class_var (takes (a_class ∷ a_variable ∷ [])) (of_two (λ c x. single (AddClassVar c x)))
    ∷ row rename_class_var (takes (a_class ∷ a_variable ∷ a_variable ∷ [])) (of_three (λ c x y. single (RenameClassVar c x y)))
    ∷ row remove_class_var (takes (a_class ∷ a_variable ∷ [])) (of_two (λ c x. single (RemoveClassVar c x)))
    ∷ row push_up_class_var (takes (a_class ∷ a_variable ∷ [])) (of_two (λ c x. single (PushUpClassVar c x)))
    ∷ row push_down_class_var (takes (a_class ∷ a_variable ∷ a_class ∷ [])) (of_three (λ c x d. single (PushDownClassVar c x d)))
    ∷ row add_class_side_var (takes (a_class ∷ a_variable ∷ [])) (of_two (λ c x. single (AddClassSideVar c x)))
    ∷ row rename_class_side_var (takes (a_class ∷ a_variable ∷ a_variable ∷ [])) (of_three (λ c x y. single (RenameClassSideVar c x y)))
    ∷ row remove_class_side_var (takes (a_class ∷ a_variable ∷ [])) (of_two (λ c x. single (RemoveClassSideVar c x)))
    ∷ row rename_selector (takes (a_selector ∷ a_selector ∷ [])) (of_two (λ s t. single (RenameSelector s t)))
    ∷ row remove_method (takes (method_and [])) (of_method (λ c meta s. single (RemoveMethod c meta s)))
    ∷ row push_up_method (takes (method_and [])) (of_method (λ c meta s. single (PushUpMethod c meta s)))
    ∷ row push_down_method (takes (method_and [])) (of_method (λ c meta s. single (PushDownMethod c meta s)))
    ∷ row remove_parameter (takes (a_selector ∷ a_number ∷ a_selector ∷ [])) (of_parameter (λ s k t. single (RemoveParameter s k t)))
    ∷ row rename_temp (takes (method_and (a_variable ∷ a_variable ∷ []))) (of_local_to (λ c meta s x y. single (RenameTemp c meta s x y)))
    ∷ row abstract_inst_var (takes (a_class ∷ a_variable ∷ [])) (of_two (λ c x. single (AbstractInstVar c x (setter_selector x) (setter_argument x))))
    ∷ row extract_method (takes (part_and (a_selector ∷ []))) (of_part_to (λ c meta s from to t. single (ExtractMethod c meta s from to t)))
    ∷ row inline_method (takes (part_and [])) (of_part (λ c meta s from to. single (InlineMethod c meta s from to)))
    ∷ row extract_temp (takes (part_and (a_variable ∷ []))) (of_part_to (λ c meta s from to x. single (ExtractTemp c meta s from to x)))
    ∷ row inline_temp (takes (method_and (a_variable ∷ []))) (of_local (λ c meta s x. single (InlineTemp c meta s x)))
    ∷ row create_accessors (takes (a_class ∷ a_variable ∷ [])) (of_two (λ c x. Perform (CreateAccessors c x (setter_selector x) (setter_argument x))))
    ∷ row extract_superclass (takes_classes_behind (a_class ∷ a_class ∷ a_class ∷ [])) (of_classes (λ d p under. Perform (ExtractSuperclass d p under)))
    ∷ row push_up_with_methods (takes (a_class ∷ a_variable ∷ [])) (of_two (λ c x. Perform (PushUpWithMethods c x)))
    ∷ row undo (takes []) (of_none Undo)
    ∷ row redo (takes []) (of_none Redo)
    ∷ []

-- Why a line is wrong: its first word is no command's; the command takes other words; or there are as many commands before it as there may be.
pub data Cause : Type 0 where
  UnknownCommand : Cause
  BadArgument : Cause
  TooMany : Cause

-- what the words behind that of a command ask for
abbrev pub said_by_row : List Text → Row → Result Request Cause
said_by_row ws r = option_map_or (λ request. Ok request) (option_and_then r.makes (arguments_of r.form ws)) (Err BadArgument)

-- what words ask for by one of these rows, or why they ask for nothing
abbrev pub said_among : List Row → List Text → Result Request Cause
said_among rows [] = Err UnknownCommand
said_among rows (w ∷ ws) = option_map_or (said_by_row ws) (find (λ (r : Row). text_eq w r.word) rows) (Err UnknownCommand)

-- what words ask for
abbrev pub said_by : List Text → Result Request Cause
said_by ws = said_among table ws
