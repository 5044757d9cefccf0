-- The commands that add and remove classes keep images valid, where their conditions hold.
use Rattle.std.proofs.Common.{◌≡◌, true, false, not, List, Some, refl, sym, ap, subst, ◌∙◌, true≢false}
use Rattle.std.specs.List.{list_any}
use Rattle.std.specs.Option.{option_map_or}
use Rattle.std.proofs.lemmas.Bool.{and_parts, not-true}
use Rattle.rb_base.specs.Names.{text_eq}
use Rattle.scope_model.specs.Scope.{is_among}
use Rattle.image_model.specs.Image.{ClassOf, ImageOf}
use Rattle.image_model.specs.Chain.{class_named}
use Rattle.image_model.specs.Valid.{class_names}
use Rattle.file_model.specs.Filing.{Text}
use Rattle.rename_model.specs.ClassRenamed.{canonical}
use Rattle.rename_model.specs.Conditions.{is_user_class}
use Rattle.command_model.specs.Asked.{text_asked}
use Rattle.command_model.specs.Commands.{AddClass, RemoveClass}
use Rattle.command_model.specs.ClassConditions.{is_user_child}
use Rattle.command_model.specs.Hierarchy.{is_class, is_child}
use Rattle.command_model.specs.Effects.{effect}
use Rattle.command_model.specs.AllHold.{AllHold}
use Rattle.effect_laws.proofs.Items.{In, in_map, map_in, all_in}
use Rattle.effect_laws.proofs.Sound.{IsSound}
use Rattle.effect_laws.proofs.Tests.{none_in, among, there_passes, there_is, has_name}
use Rattle.effect_laws.proofs.Kernel.{IsWhole}
use Rattle.effect_laws.proofs.Facts.{class_name_good, user_class, child_of, is_child_of, the_one, unnamed_classes, unnamed_parts}
use Rattle.effect_laws.proofs.ClassCommands.{class_removed_sound}
use Rattle.effect_laws.proofs.ClassAdded.{class_added_sound}

module _ (kernel i : ImageOf Text) (s : IsSound kernel i) (whole : IsWhole kernel) where
  pub remove_class : (c : Text) → AllHold text_asked i (RemoveClass c) → IsSound kernel (effect text_asked canonical (RemoveClass c) i)
  remove_class c h =
      let u = user_class i c h.user_class in
      let none = not-true (list_any (is_child text_eq c) i.classes) (and_parts (is_class text_eq i c) (not (list_any (is_child text_eq c) i.classes)) h.no_subclasses).1 in
      class_removed_sound kernel i s whole c u.0 u.1 u.2 (λ e k q. true≢false (sym (is_child_of c e q) ∙ none_in (is_child text_eq c) i.classes none e k))

  pub children : (d p : Text) (under : List Text) → AllHold text_asked i (AddClass d p under) → (e : ClassOf Text) → In i.classes e → is_among text_eq under e.name ≡ true → (e.superclass ≡ Some p) × (e.kernel ≡ false)
  children d p under h e k q =
      let both = and_parts (is_user_class text_eq i e.name) (option_map_or (is_child text_eq p) (class_named text_eq i.classes e.name) false) (all_in (λ n. is_user_child text_eq i n p ≡ true) under h.children e.name (among e.name under q)) in
      let u = user_class i e.name both.0 in
      let v = there_passes (is_child text_eq p) (class_named text_eq i.classes e.name) both.1 in
      let w = has_name i.classes e.name v.0 v.1 in
      let first = the_one kernel i.classes s.classes e.name p u.0 u.1 e k refl in
      let second = the_one kernel i.classes s.classes e.name p v.0 w e k refl in
      (ap (λ (b : ClassOf Text). b.superclass) (sym second) ∙ child_of p v.0 v.2, ap (λ (b : ClassOf Text). b.kernel) (sym first) ∙ u.2)

  pub add_class : (d p : Text) (under : List Text) → AllHold text_asked i (AddClass d p under) → IsSound kernel (effect text_asked canonical (AddClass d p under) i)
  add_class d p under h =
      let c = there_is (class_named text_eq i.classes p) h.parent_there in
      let n = has_name i.classes p c.0 c.1 in
      class_added_sound kernel i s whole d p under (class_name_good d h.good_name) new
      (subst (In (class_names i.classes)) (sym n.name) (in_map (λ (e : ClassOf Text). e.name) i.classes c.0 n.there)) (children d p under h)
    where
      new : In (class_names i.classes) d → ⊥
      new k = let r = map_in (λ (e : ClassOf Text). e.name) i.classes d k in (unnamed_parts d r.0 (unnamed_classes i d h.unused_name r.0 r.1)).0 (sym r.2)
