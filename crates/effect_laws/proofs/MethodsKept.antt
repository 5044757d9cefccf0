-- Each command of methods that changes no tree keeps images valid, where its conditions hold.
use Rattle.std.proofs.Common.{◌≡◌, Bool, true, false, not, map, find, Option, Some, None, refl, sym, ap, subst, true≢false}
use Rattle.std.specs.Prelude.{◌&&◌, if◌then◌else◌, filter, is_none}
use Rattle.std.specs.Option.{option_map_or}
use Rattle.std.proofs.lemmas.Bool.{and_parts, not-true}
use Rattle.rb_base.specs.Names.{text_eq}
use Rattle.token_model.specs.declared.kind.Dialect.TheVariants.{Second}
use Rattle.tree_model.specs.Tree.{MethodOf}
use Rattle.grammar_model.specs.Spelling.{SpellsMethod}
use Rattle.image_model.specs.Image.{ClassOf, EntryOf, ImageOf}
use Rattle.image_model.specs.Chain.{class_named}
use Rattle.image_model.specs.Lookup.{is_method, own_method}
use Rattle.image_model.specs.Valid.{class_names}
use Rattle.file_model.specs.Filing.{Text}
use Rattle.rename_model.specs.ClassRenamed.{canonical}
use Rattle.rename_model.specs.Conditions.{is_user_class}
use Rattle.command_model.specs.Asked.{text_asked}
use Rattle.command_model.specs.Commands.{AddMethod, RemoveMethod, PushUpMethod, PushDownMethod}
use Rattle.command_model.specs.Hierarchy.{is_class, superclass_name, is_child, receivers}
use Rattle.command_model.specs.Effects.{effect}
use Rattle.command_model.specs.MethodConditions.{implements, lacks_method}
use Rattle.command_model.specs.MethodEffects.{new_method, of_class_named}
use Rattle.command_model.specs.AllHold.{AllHold}
use Rattle.effect_laws.proofs.Items.{In, Once, in_map, map_in, filter_in}
use Rattle.effect_laws.proofs.Sound.{IsSound}
use Rattle.effect_laws.proofs.Tests.{there_passes, there_is, HasName, has_name}
use Rattle.effect_laws.proofs.WholeTrees.{spelled_method}
use Rattle.effect_laws.proofs.MethodCommands.{with_sound_methods, method_sound, removed_sound, up_sound, down_sound, once_fewer}

-- nothing is there
nothing_is : {X : Type 0} (o : Option X) → is_none o ≡ true → o ≡ None
nothing_is None h = refl
nothing_is (Some x) h = absurd (true≢false (sym h))

module _ (kernel i : ImageOf Text) (s : IsSound kernel i) where
  -- the name of a class that is there is one of the names
  named_class : (c : Text) (e : ClassOf Text) → HasName i.classes c e → In (class_names i.classes) c
  named_class c e is = subst (In (class_names i.classes)) (sym is.name) (in_map (λ (d : ClassOf Text). d.name) i.classes e is.there)

  -- a class that has no such method
  lacks : (c : Text) (meta : Bool) (t : Text) → lacks_method text_eq i c meta t ≡ true → In (class_names i.classes) c × (find (is_method text_eq c meta t) i.methods ≡ None)
  lacks c meta t h =
      let parts = and_parts (is_class text_eq i c) (is_none (own_method text_eq i.methods c meta t)) h in
      let e = there_is (class_named text_eq i.classes c) parts.0 in
      (named_class c e.0 (has_name i.classes c e.0 e.1), nothing_is (own_method text_eq i.methods c meta t) parts.1)

  -- a method of the user
  its_method : (c : Text) (meta : Bool) (t : Text) → implements text_eq i c meta t ≡ true → (m : EntryOf Text) × (own_method text_eq i.methods c meta t ≡ Some m) × (m.kernel ≡ false)
  its_method c meta t h =
      let r = there_passes (λ (m : EntryOf Text). not m.kernel) (own_method text_eq i.methods c meta t) h in
      (r.0, r.1, not-true r.0.kernel r.2)

  pub add_method : (c : Text) (meta : Bool) (protocol text : Text) (tree : MethodOf Text) → SpellsMethod Second false text tree → AllHold text_asked i (AddMethod c meta protocol text tree) → IsSound kernel (effect text_asked canonical (AddMethod c meta protocol text tree) i)
  add_method c meta protocol text tree spells h =
      let l = lacks c meta tree.selector h.lacks_method in
      let m = new_method c meta protocol text tree in
      with_sound_methods kernel i s _ (method_sound kernel i s m c refl l.0 refl (spelled_method kernel m spells) l.1)

  pub remove_method : (c : Text) (meta : Bool) (t : Text) → AllHold text_asked i (RemoveMethod c meta t) → IsSound kernel (effect text_asked canonical (RemoveMethod c meta t) i)
  remove_method c meta t h =
      let m = its_method c meta t h.has_method in
      with_sound_methods kernel i s _ (removed_sound kernel i s c meta t m.0 m.1 m.2)

  pub push_up_method : (c : Text) (meta : Bool) (t : Text) → AllHold text_asked i (PushUpMethod c meta t) → IsSound kernel (effect text_asked canonical (PushUpMethod c meta t) i)
  push_up_method c meta t h =
      let m = its_method c meta t h.has_method in
      let p = there_passes (is_user_class text_eq i) (superclass_name text_eq i c) h.user_parent in
      let l = lacks p.0 meta t (h.lacks_method p.0 p.1) in
      subst (λ (j : ImageOf Text). IsSound kernel j) (sym (ap (λ o. option_map_or (λ q. record i { methods = map (λ n. if is_method text_eq c meta t n then of_class_named n q else n) i.methods }) o i) p.1))
      (with_sound_methods kernel i s _ (up_sound kernel i s c meta t m.0 m.1 m.2 p.0 l.0 l.1))

  pub push_down_method : (c : Text) (meta : Bool) (t : Text) → AllHold text_asked i (PushDownMethod c meta t) → IsSound kernel (effect text_asked canonical (PushDownMethod c meta t) i)
  push_down_method c meta t h =
      let m = its_method c meta t h.has_method in
      with_sound_methods kernel i s _ (down_sound kernel i s c meta t m.0 m.1 m.2 (receivers text_eq i c meta t) each homes lack)
    where
      each : Once (receivers text_eq i c meta t)
      each = once_fewer (λ (e : ClassOf Text). e.name) (λ (e : ClassOf Text). is_child text_eq c e && is_none (own_method text_eq i.methods e.name meta t)) i.classes s.classes.distinct

      one : (r : Text) → In (receivers text_eq i c meta t) r → (e : ClassOf Text) × In i.classes e × (e.name ≡ r) × (is_none (own_method text_eq i.methods e.name meta t) ≡ true)
      one r k =
          let e = map_in (λ (e : ClassOf Text). e.name) (filter (λ (e : ClassOf Text). is_child text_eq c e && is_none (own_method text_eq i.methods e.name meta t)) i.classes) r k in
          let f = filter_in (λ (e : ClassOf Text). is_child text_eq c e && is_none (own_method text_eq i.methods e.name meta t)) i.classes e.0 e.1 in
          (e.0, f.0, e.2, (and_parts (is_child text_eq c e.0) (is_none (own_method text_eq i.methods e.0.name meta t)) f.1).1)

      homes : (r : Text) → In (receivers text_eq i c meta t) r → In (class_names i.classes) r
      homes r k = let e = one r k in subst (In (class_names i.classes)) e.2 (in_map (λ (d : ClassOf Text). d.name) i.classes e.0 e.1)

      lack : (r : Text) → In (receivers text_eq i c meta t) r → find (is_method text_eq r meta t) i.methods ≡ None
      lack r k = let e = one r k in subst (λ n. find (is_method text_eq n meta t) i.methods ≡ None) e.2 (nothing_is (own_method text_eq i.methods e.0.name meta t) e.3)
