-- Each command of variables that changes no tree keeps images valid, where its conditions hold.
use Rattle.std.proofs.Common.{◌≡◌, ◌⊎◌, inl, inr, true, false, not, [], ◌∷◌, map, Some, refl, sym, ap, subst, ◌∙◌}
use Rattle.std.specs.Prelude.{◌&&◌, ◌||◌, is_some}
use Rattle.std.specs.List.{list_any}
use Rattle.std.specs.Option.{option_map_or}
use Rattle.std.proofs.lemmas.Bool.{and_parts, not-true}
use Rattle.rb_base.specs.Names.{text_eq}
use Rattle.image_model.specs.Image.{ClassOf, ImageOf}
use Rattle.image_model.specs.Chain.{class_named, chain}
use Rattle.image_model.specs.Means.{VariableKind, of_instance, of_class_side, of_class}
use Rattle.file_model.specs.Filing.{Text}
use Rattle.rename_model.specs.ClassRenamed.{canonical}
use Rattle.rename_model.specs.NamesThere.{is_named_in_method}
use Rattle.rename_model.specs.Conditions.{is_user_class, defines, stands_below, is_method_below, is_variable_free}
use Rattle.command_model.specs.Asked.{text_asked}
use Rattle.command_model.specs.Commands.{AddInstVar, RemoveInstVar, PushUpInstVar, PushDownInstVar, AddClassVar, RemoveClassVar, PushUpClassVar, PushDownClassVar, AddClassSideVar, RemoveClassSideVar}
use Rattle.command_model.specs.Hierarchy.{is_class, superclass_name}
use Rattle.command_model.specs.Effects.{effect}
use Rattle.command_model.specs.VariableConditions.{losers, is_free_beside}
use Rattle.command_model.specs.VariableEffects.{variable_added, variable_removed, class_pushed_up, shared_moved}
use Rattle.command_model.specs.AllHold.{AllHold}
use Rattle.effect_laws.proofs.Items.{In, map_in, all_in}
use Rattle.effect_laws.proofs.Above.{IsAbove}
use Rattle.effect_laws.proofs.Sound.{MayBeName, IsSound}
use Rattle.effect_laws.proofs.Tests.{HasName, has_name, there_passes}
use Rattle.effect_laws.proofs.Kernel.{IsWhole}
use Rattle.effect_laws.proofs.Facts.{class_name_good, variable_name_good, user_class, variable_there, defines_none, none_of_three, the_one, undefined_above, undefined_below, unnamed_classes, unnamed_parts}
use Rattle.effect_laws.proofs.VariableCommands.{removed_move, added, removed, pushed_down, pushed_up}
use Rattle.effect_laws.proofs.Moved.{name_kept, kernel_kept, after}

-- what a condition of a free variable says of classes
pub free_parts : (i : ImageOf Text) (c x : Text) → is_variable_free text_eq i c x ≡ true
    → (list_any (defines text_eq x) (chain text_eq i.classes (Some c)) ≡ false) × (list_any (λ e. stands_below text_eq i.classes c e && defines text_eq x e) i.classes ≡ false)
free_parts i c x h =
    let above = list_any (defines text_eq x) (chain text_eq i.classes (Some c)) in
    let below = list_any (λ e. stands_below text_eq i.classes c e && defines text_eq x e) i.classes in
    let code = list_any (λ m. is_method_below text_eq i.classes c m && is_named_in_method text_eq x m) i.methods in
    none_of_three above below code (and_parts (is_some (class_named text_eq i.classes c)) (not (above || (below || code))) h).1

module _ (kernel i : ImageOf Text) (s : IsSound kernel i) (whole : IsWhole kernel) where
  -- the class of a name is one of the user
  user_one : (c : Text) (e : ClassOf Text) → HasName i.classes c e → e.kernel ≡ false → (d : ClassOf Text) → In i.classes d → c ≡ d.name → d.kernel ≡ false
  user_one c e is own d h q = ap (λ (b : ClassOf Text). b.kernel) (sym (the_one kernel i.classes s.classes c c e is d h q)) ∙ own

  -- a variable that is free comes to a class
  added_free : (kind : VariableKind) (c x : Text) → is_user_class text_eq i c ≡ true → MayBeName x → is_variable_free text_eq i c x ≡ true → IsSound kernel (variable_added text_eq kind c x i)
  added_free kind c x user good free =
      let u = user_class i c user in
      let none = free_parts i c x free in
      added kernel i s kind c x good (user_one c u.0 u.1 u.2)
      (λ e h q k. undefined_above kernel i.classes s.classes c x u.0 u.1 none.0 e (inl (the_one kernel i.classes s.classes c x u.0 u.1 e h q)) kind k)
      (λ t e a h k up q l. undefined_above kernel i.classes s.classes c x u.0 u.1 none.0 a (inr (subst (IsAbove i.classes a) (sym (the_one kernel i.classes s.classes c x u.0 u.1 e h q)) up)) kind l)
      (λ t e a h k up q l. undefined_below kernel i.classes s.classes c x u.0 u.1 none.1 e h (subst (λ (d : ClassOf Text). IsAbove i.classes d e) (sym (the_one kernel i.classes s.classes c x u.0 u.1 a k q)) up) kind l)

  -- a variable goes from a class of the user
  removed_own : (kind : VariableKind) (c x : Text) → is_user_class text_eq i c ≡ true → IsSound kernel (variable_removed text_eq kind c x i)
  removed_own kind c x user = let u = user_class i c user in removed kernel i s kind c x (user_one c u.0 u.1 u.2)

  -- a class variable goes from one class of the user to another, which does not have it
  moved_shared : (c d x : Text) → is_user_class text_eq i c ≡ true → (e : ClassOf Text) → HasName i.classes d e → e.kernel ≡ false → MayBeName x → (In e.shared x → ⊥) → IsSound kernel (shared_moved text_eq c x d i)
  moved_shared c d x user e is own good lacks =
      added kernel (variable_removed text_eq of_class c x i) (removed_own of_class c x user) of_class d x good users fewer (λ t. absurd t) (λ t. absurd t)
    where
      users : (b : ClassOf Text) → In (variable_removed text_eq of_class c x i).classes b → d ≡ b.name → b.kernel ≡ false
      users b h q =
          let r = map_in (removed_move of_class c x).change i.classes b h in
          ap (λ (z : ClassOf Text). z.kernel) (sym r.2) ∙ kernel_kept of_class x (removed_move of_class c x) r.0
          ∙ user_one d e is own r.0 r.1 (q ∙ ap (λ (z : ClassOf Text). z.name) (sym r.2) ∙ name_kept of_class x (removed_move of_class c x) r.0)

      fewer : (b : ClassOf Text) → In (variable_removed text_eq of_class c x i).classes b → d ≡ b.name → In b.shared x → ⊥
      fewer b h q k =
          let r = map_in (removed_move of_class c x).change i.classes b h in
          let same : e ≡ r.0 = the_one kernel i.classes s.classes d x e is r.0 r.1 (q ∙ ap (λ (z : ClassOf Text). z.name) (sym r.2) ∙ name_kept of_class x (removed_move of_class c x) r.0) in
          by r.0 same (after of_class x (removed_move of_class c x) r.0 x (subst (λ (z : ClassOf Text). In z.shared x) (sym r.2) k))
        where
          by : (z : ClassOf Text) → e ≡ z → In z.shared x ⊎ ((x ≡ x) × (⊥ ⊎ (In z.shared x × Unit {0}))) → ⊥
          by z same (inl l) = lacks (subst (λ (y : ClassOf Text). In y.shared x) (sym same) l)
          by z same (inr (t, inl l)) = l
          by z same (inr (t, inr l)) = lacks (subst (λ (y : ClassOf Text). In y.shared x) (sym same) l.0)

  -- the superclass of a class, which is one of the user
  parent : (c : Text) → option_map_or (is_user_class text_eq i) (superclass_name text_eq i c) false ≡ true → (p : Text) × (superclass_name text_eq i c ≡ Some p) × (is_user_class text_eq i p ≡ true)
  parent c h = there_passes (is_user_class text_eq i) (superclass_name text_eq i c) h

  -- an instance variable
  pub add_inst : (c x : Text) → AllHold text_asked i (AddInstVar c x) → IsSound kernel (effect text_asked canonical (AddInstVar c x) i)
  add_inst c x h = added_free of_instance c x h.user_class (variable_name_good x h.good_name) (and_parts (is_class text_eq i c) (is_variable_free text_eq i c x) h.free_variable).1

  pub remove_inst : (c x : Text) → AllHold text_asked i (RemoveInstVar c x) → IsSound kernel (effect text_asked canonical (RemoveInstVar c x) i)
  remove_inst c x h = removed_own of_instance c x h.user_class

  pub push_up_inst : (c x : Text) → AllHold text_asked i (PushUpInstVar c x) → IsSound kernel (effect text_asked canonical (PushUpInstVar c x) i)
  push_up_inst c x h =
      let p = parent c h.user_parent in
      let u = user_class i p.0 p.2 in
      let v = variable_there i of_instance c x h.has_variable in
      let free = (and_parts (is_class text_eq i p.0) (is_free_beside text_eq i (losers text_eq i p.0 x) p.0 x) (h.free_variable p.0 p.1)).1 in
      subst (λ (j : ImageOf Text). IsSound kernel j) (sym (ap (λ o. option_map_or (λ q. record i { classes = map (class_pushed_up text_eq q x) i.classes }) o i) p.1))
      (pushed_up kernel i s whole p.0 x u.0 u.1 u.2 (all_in MayBeName v.0.instance (s.classes.named v.0 v.1.there).instance x v.2) free)

  pub push_down_inst : (c x : Text) → AllHold text_asked i (PushDownInstVar c x) → IsSound kernel (effect text_asked canonical (PushDownInstVar c x) i)
  push_down_inst c x h =
      let u = user_class i c h.user_class in
      let v = variable_there i of_instance c x h.has_variable in
      pushed_down kernel i s whole c x u.0 u.1 u.2 (subst (λ (e : ClassOf Text). In e.instance x) (sym (the_one kernel i.classes s.classes c x u.0 u.1 v.0 v.1.there v.1.name)) v.2)

  -- a class variable
  pub add_shared : (c x : Text) → AllHold text_asked i (AddClassVar c x) → IsSound kernel (effect text_asked canonical (AddClassVar c x) i)
  add_shared c x h =
      let u = user_class i c h.user_class in
      added kernel i s of_class c x (class_name_good x h.good_name) (user_one c u.0 u.1 u.2)
      (λ e k q l. (unnamed_parts x e (unnamed_classes i x h.unused_name e k)).2 l) (λ t. absurd t) (λ t. absurd t)

  pub remove_shared : (c x : Text) → AllHold text_asked i (RemoveClassVar c x) → IsSound kernel (effect text_asked canonical (RemoveClassVar c x) i)
  remove_shared c x h = removed_own of_class c x h.user_class

  pub push_up_shared : (c x : Text) → AllHold text_asked i (PushUpClassVar c x) → IsSound kernel (effect text_asked canonical (PushUpClassVar c x) i)
  push_up_shared c x h =
      let p = parent c h.user_parent in
      let u = user_class i p.0 p.2 in
      let v = variable_there i of_class c x h.has_variable in
      let free = (and_parts (is_class text_eq i p.0) (is_free_beside text_eq i (c ∷ []) p.0 x) (h.free_variable p.0 p.1)).1 in
      let above = list_any (defines text_eq x) (chain text_eq i.classes (Some p.0)) in
      let below = list_any (λ e. stands_below text_eq i.classes p.0 e && (not (list_any (λ d. stands_below text_eq i.classes d e) (c ∷ [])) && defines text_eq x e)) i.classes in
      let code = list_any (λ m. is_method_below text_eq i.classes p.0 m && (not (list_any (λ d. is_method_below text_eq i.classes d m) (c ∷ [])) && is_named_in_method text_eq x m)) i.methods in
      let none = none_of_three above below code free in
      subst (λ (j : ImageOf Text). IsSound kernel j) (sym (ap (λ o. option_map_or (λ q. shared_moved text_eq c x q i) o i) p.1))
      (moved_shared c p.0 x h.user_class u.0 u.1 u.2 (all_in MayBeName v.0.shared (s.classes.named v.0 v.1.there).shared x v.2)
      (λ k. undefined_above kernel i.classes s.classes p.0 x u.0 u.1 none.0 u.0 (inl refl) of_class k))

  pub push_down_shared : (c x d : Text) → AllHold text_asked i (PushDownClassVar c x d) → IsSound kernel (effect text_asked canonical (PushDownClassVar c x d) i)
  push_down_shared c x d h =
      let child = and_parts (is_user_class text_eq i d) _ h.child in
      let u = user_class i d child.0 in
      let v = variable_there i of_class c x h.has_variable in
      let l = there_passes (λ (e : ClassOf Text). not (defines text_eq x e)) (class_named text_eq i.classes d) h.lacks_variable in
      let n = has_name i.classes d l.0 l.1 in
      moved_shared c d x h.user_class u.0 u.1 u.2 (all_in MayBeName v.0.shared (s.classes.named v.0 v.1.there).shared x v.2)
      (λ k. defines_none x l.0 (not-true (defines text_eq x l.0) l.2) of_class (subst (λ (e : ClassOf Text). In e.shared x) (the_one kernel i.classes s.classes d x u.0 u.1 l.0 n.there n.name) k))

  -- a class-instance variable
  pub add_class_side : (c x : Text) → AllHold text_asked i (AddClassSideVar c x) → IsSound kernel (effect text_asked canonical (AddClassSideVar c x) i)
  add_class_side c x h = added_free of_class_side c x h.user_class (variable_name_good x h.good_name) (and_parts (is_class text_eq i c) (is_variable_free text_eq i c x) h.free_variable).1

  pub remove_class_side : (c x : Text) → AllHold text_asked i (RemoveClassSideVar c x) → IsSound kernel (effect text_asked canonical (RemoveClassSideVar c x) i)
  remove_class_side c x h = removed_own of_class_side c x h.user_class
