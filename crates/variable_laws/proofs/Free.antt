-- Methods in which a free name does not stand, and commands whose new variables are free.
use Rattle.std.proofs.Common.{◌≡◌, List, Some, None, sym, ap, subst}
use Rattle.std.specs.Prelude.{true, false, not, ◌&&◌, map, is_some}
use Rattle.std.specs.List.{AllByRecursion, list_any}
use Rattle.std.specs.Option.{option_map_or}
use Rattle.rb_base.specs.Names.{text_eq}
use Rattle.image_model.specs.Image.{EntryOf, ImageOf}
use Rattle.image_model.specs.Chain.{class_named, chain}
use Rattle.run_model.specs.Values.{Name}
use Rattle.run_model.proofs.Finite.{and-true_right}
use Rattle.mapped_model.specs.ChangedImages.{IsChangedImage}
use Rattle.rename_model.specs.NamesThere.{is_named_in_method}
use Rattle.rename_model.specs.Conditions.{defines, stands_below, is_method_below, is_variable_free}
use Rattle.command_model.specs.Hierarchy.{is_class}
use Rattle.command_model.specs.Commands.{PushUpInstVar}
use Rattle.command_model.specs.Asked.{text_asked}
use Rattle.command_model.specs.Judged.{first_false}
use Rattle.command_model.specs.VariableConditions.{losers, is_free_beside, may_come_for}
use Rattle.command_model.specs.VariableEffects.{class_pushed_up, instance_pushed_up}
use Rattle.command_model.proofs.Held.{all-hold}
use Rattle.variable_laws.specs.KernelDoIts.{HasKernelDoIts}
use Rattle.rename_laws.proofs.Unnamed.{neither_right, denied, each-fails}
use Rattle.variable_laws.proofs.Alike.{shared_by}
use Rattle.variable_laws.proofs.Conditions.{user-parent}
use Rattle.variable_laws.proofs.PushedUp.{raised-changed}

-- no method below a class in which a name is free has it
pub unnamed-below : (i : ImageOf Name) (c x : Name) → is_variable_free text_eq i c x ≡ true → AllByRecursion (λ (m : EntryOf Name). (is_method_below text_eq i.classes c m && is_named_in_method text_eq x m) ≡ false) i.methods
unnamed-below i c x free =
    each-fails (λ m. is_method_below text_eq i.classes c m && is_named_in_method text_eq x m) i.methods
    (neither_right (list_any (λ e. stands_below text_eq i.classes c e && defines text_eq x e) i.classes) _
    (neither_right (list_any (defines text_eq x) (chain text_eq i.classes (Some c))) _ (denied _ (and-true_right (is_some (class_named text_eq i.classes c)) _ free))))

-- no method below a class into which a variable goes up has its name, but those below classes that lose it
pub unnamed-beside : (i : ImageOf Name) (excepted : List Name) (c x : Name) → is_free_beside text_eq i excepted c x ≡ true → AllByRecursion (λ (m : EntryOf Name). (is_method_below text_eq i.classes c m && (not (list_any (λ d. is_method_below text_eq i.classes d m) excepted) && is_named_in_method text_eq x m)) ≡ false) i.methods
unnamed-beside i excepted c x free =
    each-fails (λ m. is_method_below text_eq i.classes c m && (not (list_any (λ d. is_method_below text_eq i.classes d m) excepted) && is_named_in_method text_eq x m)) i.methods
    (neither_right (list_any (λ e. stands_below text_eq i.classes c e && (not (list_any (λ d. stands_below text_eq i.classes d e) excepted) && defines text_eq x e)) i.classes) _
    (neither_right (list_any (defines text_eq x) (chain text_eq i.classes (Some c))) _ (denied _ free)))

-- the image in which an instance variable has gone up
pub up-changed : (i : ImageOf Name) (c x : Name) → HasKernelDoIts i → first_false text_asked i (PushUpInstVar c x) ≡ None → IsChangedImage (shared_by (λ z. z)) i (instance_pushed_up text_eq c x i)
up-changed i c x kernel none =
    let hold = all-hold text_asked i (PushUpInstVar c x) none in
    let parent = user-parent i c hold.user_parent in
    let p : Name = parent.0 in
    let free : may_come_for text_eq i (PushUpInstVar c x) p x ≡ true = hold.free_variable p parent.1 in
    subst (IsChangedImage (shared_by (λ z. z)) i) (sym (ap (λ o. option_map_or (λ q. record i { classes = map (class_pushed_up text_eq q x) i.classes }) o i) parent.1))
    (raised-changed p x i kernel parent.2 (unnamed-beside i (losers text_eq i p x) p x (and-true_right (is_class text_eq i p) _ free)))
