-- What a command makes of an image with one more do-it.
use Rattle.std.proofs.Common.{◌≡◌, [], ◌∷◌, map, Bool, Option, Some, None, refl, ap, ◌∙◌}
use Rattle.std.specs.Prelude.{if◌then◌else◌, option_map, unwrap_or}
use Rattle.std.specs.Option.{option_map_or}
use Rattle.std.proofs.lemmas.List.{map-append}
use Rattle.image_model.specs.Image.{DoItOf, ImageOf, plus}
use Rattle.image_model.specs.Means.{VariableKind, of_instance, of_class_side, of_class}
use Rattle.image_model.specs.Lookup.{is_method}
use Rattle.rename_model.specs.ClassRenamed.{WritingOf, class_renamed, doit_after as doit_of_class}
use Rattle.rename_model.specs.SelectorRenamed.{selector_renamed, doit_after as doit_of_selector}
use Rattle.rename_model.specs.VariableRenamed.{variable_renamed, doit_after as doit_of_variable}
use Rattle.command_model.specs.Asked.{AskedOf}
use Rattle.command_model.specs.Commands.{CommandOf, RenameClass, AddClass, RemoveClass, AddInstVar, RenameInstVar, RemoveInstVar, PushUpInstVar, PushDownInstVar, AddClassVar, RenameClassVar, RemoveClassVar, PushUpClassVar, PushDownClassVar, AddClassSideVar, RenameClassSideVar, RemoveClassSideVar, RenameSelector, AddMethod, RemoveMethod, PushUpMethod, PushDownMethod, AddParameter, RemoveParameter, AbstractInstVar, ExtractMethod, InlineMethod, ExtractTemp, InlineTemp, RenameTemp}
use Rattle.command_model.specs.Hierarchy.{superclass_name}
use Rattle.command_model.specs.VariableEffects.{shared_moved, class_pushed_up}
use Rattle.command_model.specs.MethodEffects.{method_pushed_up, of_class_named}
use Rattle.command_model.specs.CodeEffects.{code_effect}
use Rattle.command_model.specs.Effects.{effect}
use Rattle.command_model.specs.Beside.{HasOneMore, LeavesDoIts}
use Rattle.command_model.proofs.CodeBeside.{last_after, code-beside, there}

-- an image that depends on what may be there
pub either : {N A : Type 0} (e : DoItOf N) (f g : A → ImageOf N) (j k : ImageOf N) (o : Option A) → ((a : A) → g a ≡ plus (f a) e) → k ≡ plus j e →
    option_map_or g o k ≡ plus (option_map_or f o j) e
either e f g j k None some none = none
either e f g j k (Some a) some none = some a

-- a method that goes up
pub pushed-up-beside : {N : Type 0} (same : N → N → Bool) (i : ImageOf N) (e : DoItOf N) (c : N) (meta : Bool) (s : N) → method_pushed_up same c meta s (plus i e) ≡ plus (method_pushed_up same c meta s i) e
pushed-up-beside same i e c meta s =
    either e (λ p. record i { methods = map (λ m. if is_method same c meta s m then of_class_named m p else m) i.methods })
    (λ p. record (plus i e) { methods = map (λ m. if is_method same c meta s m then of_class_named m p else m) i.methods })
    i (plus i e) (superclass_name same i c) (λ p. refl) refl

module _ {N : Type 0} (a : AskedOf N) (writing : WritingOf N) (i : ImageOf N) (e : DoItOf N) where
  abbrev class-beside : (c d : N) → HasOneMore (class_renamed a.words writing i c d) (class_renamed a.words writing (plus i e) c d)
  class-beside c d = record {
    last = doit_of_class a.words writing i c d e;
    added = ap (λ ds. record (class_renamed a.words writing i c d) { doits = ds }) (map-append (doit_of_class a.words writing i c d) i.doits (e ∷ []));
  }

  abbrev selector-beside : (same : N → N → Bool) (s t : N) → HasOneMore (selector_renamed same writing i s t) (selector_renamed same writing (plus i e) s t)
  selector-beside same s t = record {
    last = doit_of_selector same writing i s t e;
    added = ap (λ ds. record (selector_renamed same writing i s t) { doits = ds }) (map-append (doit_of_selector same writing i s t) i.doits (e ∷ []));
  }

  abbrev variable-beside : (kind : VariableKind) (c x y : N) → HasOneMore (variable_renamed a.words writing i kind c x y) (variable_renamed a.words writing (plus i e) kind c x y)
  variable-beside kind c x y = record {
    last = doit_of_variable a.words writing i kind c x y e;
    added = ap (λ ds. record (variable_renamed a.words writing i kind c x y) { doits = ds }) (map-append (doit_of_variable a.words writing i kind c x y) i.doits (e ∷ []));
  }

  -- a command that changes methods alone
  abbrev method-beside : (command : CommandOf N) → code_effect a (plus i e) writing command ≡ option_map (λ j. plus j e) (code_effect a i writing command) →
      HasOneMore (unwrap_or (code_effect a i writing command) i) (unwrap_or (code_effect a (plus i e) writing command) (plus i e))
  method-beside command same = record { last = e; added = ap (λ o. unwrap_or o (plus i e)) same ∙ there i e (code_effect a i writing command) }

  abbrev pub effect-beside : (command : CommandOf N) → HasOneMore (effect a writing command i) (effect a writing command (plus i e))
  effect-beside (RenameClass c d) = class-beside c d
  effect-beside (AddClass d p under) = record { last = e; added = refl }
  effect-beside (RemoveClass c) = record { last = e; added = refl }
  effect-beside (AddInstVar c x) = record { last = e; added = refl }
  effect-beside (RenameInstVar c x y) = variable-beside of_instance c x y
  effect-beside (RemoveInstVar c x) = record { last = e; added = refl }
  effect-beside (PushUpInstVar c x) = record {
    last = e;
    added =
        either e (λ p. record i { classes = map (class_pushed_up a.words.tests.same p x) i.classes }) (λ p. record (plus i e) { classes = map (class_pushed_up a.words.tests.same p x) i.classes })
        i (plus i e) (superclass_name a.words.tests.same i c) (λ p. refl) refl;
  }
  effect-beside (PushDownInstVar c x) = record { last = e; added = refl }
  effect-beside (AddClassVar c x) = record { last = e; added = refl }
  effect-beside (RenameClassVar c x y) = variable-beside of_class c x y
  effect-beside (RemoveClassVar c x) = record { last = e; added = refl }
  effect-beside (PushUpClassVar c x) = record {
    last = e;
    added = either e (λ p. shared_moved a.words.tests.same c x p i) (λ p. shared_moved a.words.tests.same c x p (plus i e)) i (plus i e) (superclass_name a.words.tests.same i c) (λ p. refl) refl;
  }
  effect-beside (PushDownClassVar c x d) = record { last = e; added = refl }
  effect-beside (AddClassSideVar c x) = record { last = e; added = refl }
  effect-beside (RenameClassSideVar c x y) = variable-beside of_class_side c x y
  effect-beside (RemoveClassSideVar c x) = record { last = e; added = refl }
  effect-beside (RenameSelector s t) = selector-beside a.words.tests.same s t
  effect-beside (AddMethod c meta protocol text tree) = record { last = e; added = refl }
  effect-beside (RemoveMethod c meta s) = record { last = e; added = refl }
  effect-beside (PushUpMethod c meta s) = record { last = e; added = pushed-up-beside a.words.tests.same i e c meta s }
  effect-beside (PushDownMethod c meta s) = record { last = e; added = refl }
  effect-beside (AddParameter s t x passed) = record {
    last = last_after a writing i e (AddParameter s t x passed);
    added = ap (λ o. unwrap_or o (plus i e)) (code-beside a writing i e (AddParameter s t x passed));
  }
  effect-beside (RemoveParameter s k t) = record {
    last = last_after a writing i e (RemoveParameter s k t);
    added = ap (λ o. unwrap_or o (plus i e)) (code-beside a writing i e (RemoveParameter s k t));
  }
  effect-beside (AbstractInstVar c x setter given) = record {
    last = last_after a writing i e (AbstractInstVar c x setter given);
    added = ap (λ o. unwrap_or o (plus i e)) (code-beside a writing i e (AbstractInstVar c x setter given));
  }
  effect-beside (ExtractMethod c meta s from to t) = method-beside (ExtractMethod c meta s from to t) (code-beside a writing i e (ExtractMethod c meta s from to t))
  effect-beside (InlineMethod c meta s from to) = method-beside (InlineMethod c meta s from to) (code-beside a writing i e (InlineMethod c meta s from to))
  effect-beside (ExtractTemp c meta s from to x) = method-beside (ExtractTemp c meta s from to x) (code-beside a writing i e (ExtractTemp c meta s from to x))
  effect-beside (InlineTemp c meta s x) = method-beside (InlineTemp c meta s x) (code-beside a writing i e (InlineTemp c meta s x))
  effect-beside (RenameTemp c meta s x y) = method-beside (RenameTemp c meta s x y) (code-beside a writing i e (RenameTemp c meta s x y))

  -- where do-its are left, it is the same one
  pub effect-left : (command : CommandOf N) → LeavesDoIts command → effect a writing command (plus i e) ≡ plus (effect a writing command i) e
  effect-left (RenameClass c d) leaves = absurd leaves
  effect-left (RenameInstVar c x y) leaves = absurd leaves
  effect-left (RenameClassVar c x y) leaves = absurd leaves
  effect-left (RenameClassSideVar c x y) leaves = absurd leaves
  effect-left (RenameSelector s t) leaves = absurd leaves
  effect-left (AddParameter s t x passed) leaves = absurd leaves
  effect-left (RemoveParameter s k t) leaves = absurd leaves
  effect-left (AbstractInstVar c x setter given) leaves = absurd leaves
  effect-left command leaves = (effect-beside command).added
