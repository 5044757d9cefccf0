-- What is asked of an assignment is asked of the tree, the class and the side of its method.
use Rattle.std.proofs.Common.{◌≡◌, ℕ, Bool, false, Option, None, Some, refl, ap, ◌∙◌}
use Rattle.std.specs.Option.{option_map_or}
use Rattle.image_model.specs.Image.{EntryOf}
use Rattle.class_table.specs.Slots.{Slots}
use Rattle.class_table.specs.View.{number_image}
use Rattle.command_model.specs.CodeEffects.{method_at}
use Rattle.command_model.specs.Temporaries.{LetOf, let_of}
use Rattle.commands.specs.Views.{asked_by}
use Rattle.commands.specs.declared.condition.Condition.{Condition}
use Rattle.commands.specs.declared.condition.Condition.TheVariants as condition
use Rattle.commands.specs.declared.command.MethodName.{MethodName}
use Rattle.part_questions.specs.Codes.{entry_of}
use Rattle.users_methods.specs.declared.methods.UsersMethod.{UsersMethod}
use Rattle.users_methods.specs.Users.{entry_in}
use Rattle.code_conditions.specs.Passes.{let_passes}

module _ (s : Slots) (n : MethodName) (x : ℕ) (c : Condition) where
  -- whether the condition holds of the assignment in a method, if there is one
  abbrev holds_in : EntryOf ℕ → Bool
  holds_in m = option_map_or (let_passes s x c m) (let_of (asked_by s.names) m.tree x) false

  abbrev holds_of : Option (EntryOf ℕ) → Bool
  holds_of o = option_map_or holds_in o false

  abbrev found : Option (EntryOf ℕ)
  found = method_at (asked_by s.names) (number_image s) n.class n.meta n.selector

  pub no_method : None ≡ found → false ≡ holds_of found
  no_method e = ap holds_of e

  pub no_let : (m : UsersMethod) → Some (entry_in s.classes m) ≡ found → None ≡ let_of (asked_by s.names) (entry_in s.classes m).tree x → false ≡ holds_of found
  no_let m e none = ap (λ (o : Option (LetOf ℕ)). option_map_or (let_passes s x c (entry_in s.classes m)) o false) none ∙ ap holds_of e

  pub one_let : (m : UsersMethod) (e : LetOf ℕ) → Some (entry_in s.classes m) ≡ found → Some e ≡ let_of (asked_by s.names) (entry_in s.classes m).tree x → let_passes s x c (entry_in s.classes m) e ≡ holds_of found
  one_let m e is one = ap (λ (o : Option (LetOf ℕ)). option_map_or (let_passes s x c (entry_in s.classes m)) o false) one ∙ ap holds_of is

-- the condition asks nothing of the texts of the method
pub let-alone : (s : Slots) (x : ℕ) (c : Condition) (m : UsersMethod) (e : LetOf ℕ) → let_passes s x c (entry_of s (record { class = m.class; meta = m.meta; tree = m.tree })) e ≡ let_passes s x c (entry_in s.classes m) e
let-alone s x (condition.LetForm n y) m e = refl
let-alone s x (condition.NoCapture n spot) m e = refl
let-alone s x (condition.NoNewControl n spot) m e = refl
let-alone s x other m e = refl
