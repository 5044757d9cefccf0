-- What comes of a method of which a part is extracted.
use Rattle.std.specs.Prelude.{◌≡◌, ◌<◌, ℕ, length, Some}
use Rattle.tree_model.specs.AllNames.{MethodNames}
use Rattle.tree_model.specs.Normal.{normal}
use Rattle.st_tree.specs.View as tree
use Rattle.image_model.specs.Image.{EntryOf}
use Rattle.class_table.specs.Slots.{Slots}
use Rattle.class_table.specs.Valid.{IsLive}
use Rattle.class_table.specs.View.{entry_of, number_image}
use Rattle.command_model.specs.CodeEffects.{part_at}
use Rattle.command_model.specs.Extracted.{part_replaced, call_of, method_of}
use Rattle.command_model.specs.MethodEffects.{new_method}
use Rattle.command_model.specs.Numbers.{number_writing}
use Rattle.command_model.specs.Parts.{Part}
use Rattle.commands.specs.Views.{asked_by}
use Rattle.commands.specs.declared.command.MethodPart.{MethodPart}
use Rattle.code_plans.specs.Behind.{behind_last, is_beside}
use Rattle.code_plans.specs.declared.extraction.Extraction.{Extraction}

-- the user's method with the message, the new method, and its place behind the last one of the class on the side
pub record IsExtraction (s : Slots) (part : MethodPart) (t : ℕ) (made : Extraction) : Type 0 where
  pub entry : EntryOf ℕ
  pub found : Part
  pub there : part_at (asked_by s.names) (number_image s) part.method.class part.method.meta part.method.selector part.from part.to ≡ Some (entry, found)
  pub sender : tree.method_of made.sender ≡ normal (part_replaced entry.tree found (call_of (asked_by s.names) t entry.tree found))
  pub sender_known : MethodNames (λ n. n < length s.names) (tree.method_of made.sender)
  pub method : entry_of s.classes made.rec ≡ new_method part.method.class part.method.meta entry.protocol ((number_writing s.names).method_text (method_of (asked_by s.names) t entry.tree found)) (method_of (asked_by s.names) t entry.tree found)
  pub method_known : MethodNames (λ n. n < length s.names) (tree.method_of made.rec.tree)
  pub class_live : IsLive s.class_order made.rec.class
  pub place : Some made.place ≡ behind_last (is_beside s part.method.class part.method.meta) s.method_order
