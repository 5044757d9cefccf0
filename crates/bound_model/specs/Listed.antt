-- How much an image has of what a command speaks of.
use Rattle.std.specs.Prelude.{ℕ, List, [], ◌∷◌, ◌++◌, length, Option, Some, None}
use Rattle.std.specs.List.{flat_map, sum_by}
use Rattle.std.specs.Option.{option_map_or}
use Rattle.image_model.specs.Image.{ImageOf}
use Rattle.command_model.specs.Asked.{AskedOf}
use Rattle.command_model.specs.CodeEffects.{send_at}
use Rattle.command_model.specs.Commands.{CommandOf, RenameClass, AddClass, RemoveClass, AddInstVar, RenameInstVar, RemoveInstVar, PushUpInstVar, PushDownInstVar, AddClassVar, RenameClassVar, RemoveClassVar, PushUpClassVar, PushDownClassVar, AddClassSideVar, RenameClassSideVar, RemoveClassSideVar, RenameSelector, AddMethod, RemoveMethod, PushUpMethod, PushDownMethod, AddParameter, RemoveParameter, AbstractInstVar, ExtractMethod, InlineMethod, ExtractTemp, InlineTemp, RenameTemp, kind_of}
use Rattle.bound_model.specs.LookUps.{LookUpOf, of_senders, of_implementors, of_variable, of_class, of_identifier, found}

-- the names that stand in a command; of a text the selector
abbrev pub names_in : {N : Type 0} → CommandOf N → List N
names_in (RenameClass c d) = c ∷ d ∷ []
names_in (AddClass d p under) = d ∷ p ∷ under
names_in (RemoveClass c) = c ∷ []
names_in (AddInstVar c x) = c ∷ x ∷ []
names_in (RenameInstVar c x y) = c ∷ x ∷ y ∷ []
names_in (RemoveInstVar c x) = c ∷ x ∷ []
names_in (PushUpInstVar c x) = c ∷ x ∷ []
names_in (PushDownInstVar c x) = c ∷ x ∷ []
names_in (AddClassVar c x) = c ∷ x ∷ []
names_in (RenameClassVar c x y) = c ∷ x ∷ y ∷ []
names_in (RemoveClassVar c x) = c ∷ x ∷ []
names_in (PushUpClassVar c x) = c ∷ x ∷ []
names_in (PushDownClassVar c x d) = c ∷ x ∷ d ∷ []
names_in (AddClassSideVar c x) = c ∷ x ∷ []
names_in (RenameClassSideVar c x y) = c ∷ x ∷ y ∷ []
names_in (RemoveClassSideVar c x) = c ∷ x ∷ []
names_in (RenameSelector s t) = s ∷ t ∷ []
names_in (AddMethod c meta protocol text tree) = c ∷ tree.selector ∷ []
names_in (RemoveMethod c meta s) = c ∷ s ∷ []
names_in (PushUpMethod c meta s) = c ∷ s ∷ []
names_in (PushDownMethod c meta s) = c ∷ s ∷ []
names_in (AddParameter s t x passed) = s ∷ t ∷ x ∷ []
names_in (RemoveParameter s k t) = s ∷ t ∷ []
names_in (AbstractInstVar c x setter given) = c ∷ x ∷ setter ∷ given ∷ []
names_in (ExtractMethod c meta s from to t) = c ∷ s ∷ t ∷ []
names_in (InlineMethod c meta s from to) = c ∷ s ∷ []
names_in (ExtractTemp c meta s from to x) = c ∷ s ∷ x ∷ []
names_in (InlineTemp c meta s x) = c ∷ s ∷ x ∷ []
names_in (RenameTemp c meta s x y) = c ∷ s ∷ x ∷ y ∷ []

-- the variable of a class that a command speaks of, which has the kind that the command says
abbrev pub variable_in : {N : Type 0} → CommandOf N → Option (N × N)
variable_in (AddInstVar c x) = Some (c, x)
variable_in (RenameInstVar c x y) = Some (c, x)
variable_in (RemoveInstVar c x) = Some (c, x)
variable_in (PushUpInstVar c x) = Some (c, x)
variable_in (PushDownInstVar c x) = Some (c, x)
variable_in (AddClassVar c x) = Some (c, x)
variable_in (RenameClassVar c x y) = Some (c, x)
variable_in (RemoveClassVar c x) = Some (c, x)
variable_in (PushUpClassVar c x) = Some (c, x)
variable_in (PushDownClassVar c x d) = Some (c, x)
variable_in (AddClassSideVar c x) = Some (c, x)
variable_in (RenameClassSideVar c x y) = Some (c, x)
variable_in (RemoveClassSideVar c x) = Some (c, x)
variable_in (AbstractInstVar c x setter given) = Some (c, x)
variable_in command = None

-- the look-ups for a name alone
abbrev pub for_name : {N : Type 0} → N → List (LookUpOf N)
for_name n = of_senders n ∷ of_implementors n ∷ of_class n ∷ of_identifier n ∷ []

module _ {N : Type 0} (a : AskedOf N) (i : ImageOf N) where
  -- the selector of the message that a command replaces, if it replaces one
  abbrev pub replaced : CommandOf N → List N
  replaced (InlineMethod c meta s from to) = option_map_or (λ e. e.1.selector ∷ []) (send_at a i c meta s from to) []
  replaced command = []

  -- the look-ups for the names that stand in a command
  abbrev pub look_ups : CommandOf N → List (LookUpOf N)
  look_ups command =
      flat_map for_name (names_in command ++ replaced command)
      ++ option_map_or (λ (v : N × N). of_variable (kind_of command) v.0 v.1 ∷ []) (variable_in command) []

  -- how many entries the look-ups of a list give
  abbrev pub entries : List (LookUpOf N) → ℕ
  entries asked = sum_by (λ (l : LookUpOf N). length (found a.words i l)) asked

  -- how many entries they give for the names that stand in a command
  abbrev pub listed : CommandOf N → ℕ
  listed command = entries (look_ups command)
