-- Whether messages find other methods once one has moved, from the slots.
use Rattle.std.specs.Prelude.{◌≡◌, ℕ, Bool, false, not, ◌&&◌, ◌||◌, if◌then◌else◌, Option, Some, None, slice_get}
use Rattle.std.specs.List.{list_any}
use Rattle.std.specs.Option.{option_and_then, option_map_or}
use Rattle.image_model.specs.Image.{ImageOf}
use Rattle.image_model.specs.Words.{number_words}
use Rattle.class_table.specs.declared.record.ClassRec.{ClassRec}
use Rattle.class_table.specs.declared.record.MethodRec.{MethodRec}
use Rattle.class_table.specs.Slots.{Slots}
use Rattle.class_table.specs.View.{live_at, number_image}
use Rattle.class_table.specs.Valid.{IsLive}
use Rattle.command_model.specs.MethodConditions.{is_sent_nowhere, is_reached}
use Rattle.command_model.specs.MethodConditions as model
use Rattle.commands.specs.Views.{asked_by}
use Rattle.method_questions.specs.declared.moves.Moved.{Moved}
use Rattle.method_questions.specs.Found.{named_slot}
use Rattle.method_questions.specs.Moves.{finds_another}

-- whether the class in a slot is live, finds another method afterwards and is reached
unfoldable pub is_one_reached : Slots → Moved → ℕ → Bool
is_one_reached s v k =
    option_map_or (λ (c : ClassRec). finds_another s v k && is_reached (number_words s.names) (asked_by s.names).is_super (number_image s) c.name v.selector) (live_at s.classes s.class_order k) false

-- whether the selector is sent nowhere, or no such class is there
abbrev pub is_unreached : Slots → Moved → Bool
is_unreached s v = is_sent_nowhere (number_words s.names) (number_image s) v.selector || not (list_any (is_one_reached s v) s.class_order)

-- the slot of a method of the user
abbrev pub user_slot : Slots → ℕ → Bool → ℕ → Option ℕ
user_slot s name meta selector =
    option_and_then (λ k. if option_map_or (λ (m : MethodRec). not m.kernel) (live_at s.methods s.method_order k) false then Some k else None) (named_slot s name meta selector)

-- the move of the method of a selector on a side leads to an image: each class finds another method after it exactly if it does in that image
pub record LeadsTo (s : Slots) (v : Moved) (j : ImageOf ℕ) (meta : Bool) (selector : ℕ) : Type 0 where
  pub same_selector : v.selector ≡ selector
  pub classes : (k : ℕ) (c : ClassRec) → IsLive s.class_order k → slice_get s.classes k ≡ Some c
      → finds_another s v k ≡ model.finds_another (number_words s.names) (asked_by s.names).is_super (number_image s) j c.name meta selector
