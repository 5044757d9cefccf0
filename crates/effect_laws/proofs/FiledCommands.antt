-- Each command keeps images that can be written, where its conditions hold.
use Rattle.std.proofs.Common.{◌≡◌, ◌⊎◌, inl, inr, Bool, true, false, not, List, [], ◌∷◌, ◌++◌, length, map, refl, sym, ap, subst, ◌∙◌}
use Rattle.std.specs.Prelude.{if◌then◌else◌, nat_le}
use Rattle.std.specs.List.{flat_map}
use Rattle.std.proofs.lemmas.Bool.{and_parts, eqb-true}
use Rattle.rb_base.specs.Names.{text_eq}
use Rattle.tree_model.specs.Nodes.{nodes}
use Rattle.text_model.specs.Literals.{is_selector}
use Rattle.image_model.specs.Image.{ClassOf, EntryOf, ImageOf}
use Rattle.image_model.specs.Words.{text_words}
use Rattle.image_model.specs.Lookup.{is_method}
use Rattle.image_model.specs.Means.{VariableKind, of_instance, of_class_side, of_class, means_in_doit}
use Rattle.file_model.specs.Filing.{Text}
use Rattle.file_model.specs.Fileable.{MayStand}
use Rattle.rename_model.specs.CommandWords.{arity}
use Rattle.rename_model.specs.Conditions.{is_user_class}
use Rattle.rename_model.specs.ClassRenamed.{canonical}
use Rattle.rename_model.specs.VariableRenamed.{variable_renamed}
use Rattle.command_model.specs.Asked.{text_asked}
use Rattle.command_model.specs.Commands.{CommandOf, RenameClass, AddClass, RemoveClass, AddInstVar, RenameInstVar, RemoveInstVar, PushUpInstVar, PushDownInstVar, AddClassVar, RenameClassVar, RemoveClassVar, PushUpClassVar, PushDownClassVar, AddClassSideVar, RenameClassSideVar, RemoveClassSideVar, RenameSelector, AddMethod, RemoveMethod, PushUpMethod, PushDownMethod, AddParameter, RemoveParameter, RenameTemp, MovesNoCode}
use Rattle.command_model.specs.Hierarchy.{superclass_name, is_method_of, receivers}
use Rattle.command_model.specs.Effects.{effect}
use Rattle.command_model.specs.MethodEffects.{new_method, of_class_named}
use Rattle.command_model.specs.VariableEffects.{class_pushed_up, shared_moved}
use Rattle.command_model.specs.Spelled.{IsSpelled, MayBeFiled}
use Rattle.command_model.specs.AllHold.{AllHold}
use Rattle.effect_laws.proofs.Items.{In, in_either, filter_in, map_in, flat_in}
use Rattle.effect_laws.proofs.Sound.{IsSound}
use Rattle.effect_laws.proofs.Kernel.{IsWhole}
use Rattle.effect_laws.proofs.Facts.{user_class}
use Rattle.effect_laws.proofs.VariableCode.{doit_means_none, none_means, off_doits}
use Rattle.effect_laws.proofs.RenamesKept.{kernel_silent, without_meaning, fresh_selector, rename_inst, rename_shared, rename_class_side}
use Rattle.effect_laws.proofs.VariableWritten.{method_written, doit_same}
use Rattle.effect_laws.proofs.Filed.{IsFiled, IsQuiet, quiet_filed, quiet_option, not_reflective}
use Rattle.effect_laws.proofs.TemporariesKept.{temporary_filed}
use Rattle.effect_laws.proofs.FiledRenames.{class_filed, selector_filed, variable_filed}
use Rattle.effect_laws.proofs.FiledParameters.{add_parameter_filed, remove_parameter_filed}

-- other classes alone
same_code : (i : ImageOf Text) (cs : List (ClassOf Text)) → IsQuiet i (record i { classes = cs })
same_code i cs = record { sources = λ m h u. (m, h, u, refl); doits = refl; heads = refl }

-- a method in another class, or another method
moved_source : (b : Bool) (n : EntryOf Text) (p : Text) → ((if b then of_class_named n p else n).source ≡ n.source) × ((if b then of_class_named n p else n).kernel ≡ n.kernel)
moved_source true n p = (refl, refl)
moved_source false n p = (refl, refl)

copied_source : (b : Bool) (n : EntryOf Text) (rs : List Text) (m : EntryOf Text) → In (if b then map (of_class_named n) rs else n ∷ []) m → (n.source ≡ m.source) × (m.kernel ≡ n.kernel)
copied_source true n rs m h = let r = map_in (of_class_named n) rs m h in (ap (λ (x : EntryOf Text). x.source) r.2, ap (λ (x : EntryOf Text). x.kernel) (sym r.2))
copied_source false n rs m (inl q) = (ap (λ (x : EntryOf Text). x.source) q, ap (λ (x : EntryOf Text). x.kernel) (sym q))
copied_source false n rs m (inr h) = absurd h

-- a method goes up, or down
pushed_up : (i : ImageOf Text) (c : Text) (meta : Bool) (t p : Text) → IsQuiet i (record i { methods = map (λ m. if is_method text_eq c meta t m then of_class_named m p else m) i.methods })
pushed_up i c meta t p = record {
  sources = λ m h u. (let r = map_in (λ n. if is_method text_eq c meta t n then of_class_named n p else n) i.methods m h in
      let q = moved_source (is_method text_eq c meta t r.0) r.0 p in
      (r.0, r.1, sym q.1 ∙ ap (λ (x : EntryOf Text). x.kernel) r.2 ∙ u, sym q.0 ∙ ap (λ (x : EntryOf Text). x.source) r.2));
  doits = refl;
  heads = refl;
}

pushed_down : (i : ImageOf Text) (c : Text) (meta : Bool) (t : Text) (rs : List Text) → IsQuiet i (record i { methods = flat_map (λ m. if is_method text_eq c meta t m then map (of_class_named m) rs else m ∷ []) i.methods })
pushed_down i c meta t rs = record {
  sources = λ m h u. (let r = flat_in (λ n. if is_method text_eq c meta t n then map (of_class_named n) rs else n ∷ []) i.methods m h in
      let q = copied_source (is_method text_eq c meta t r.0) r.0 rs m r.2 in
      (r.0, r.1, sym q.1 ∙ u, q.0));
  doits = refl;
  heads = refl;
}

-- a method is added
pub added : (i : ImageOf Text) (m : EntryOf Text) → IsFiled i → (m.kernel ≡ false → MayStand m.source) → IsFiled (record i { methods = i.methods ++ m ∷ [] })
added i m f stands = record { methods = λ n h u. by n (in_either i.methods (m ∷ []) n h) u; doits = f.doits; forms = f.forms; heads = f.heads }
  where
    by : (n : EntryOf Text) → In i.methods n ⊎ In (m ∷ []) n → n.kernel ≡ false → MayStand n.source
    by n (inl h) u = f.methods n h u
    by n (inr (inl q)) u = subst (λ (x : EntryOf Text). MayStand x.source) q (stands (ap (λ (x : EntryOf Text). x.kernel) q ∙ u))
    by n (inr (inr h)) u = absurd h

module _ (kernel i : ImageOf Text) (s : IsSound kernel i) (whole : IsWhole kernel) (filed : IsFiled i) where
  renamed_filed : (kind : VariableKind) (c x y : Text) → is_user_class text_eq i c ≡ true → IsSound kernel (variable_renamed text_words canonical i kind c x y) → IsFiled (variable_renamed text_words canonical i kind c x y)
  renamed_filed kind c x y user after =
      let u = user_class i c user in
      variable_filed kernel i kind c x y after (method_written i kind c x y)
      (λ e k. doit_same i kind c x y e (none_means i kind c x (means_in_doit text_words i e) (doit_means_none i kind c e (off_doits kernel i s whole c u.0 u.1 u.2)) (nodes e.body))) filed

  selector_kept : (o n : Text) → AllHold text_asked i (RenameSelector o n) → IsFiled (effect text_asked canonical (RenameSelector o n) i)
  selector_kept o n h =
      selector_filed kernel i s whole o n (and_parts (nat_le (length n) 200) (is_selector n) h.good_name).1 (eqb-true (arity n) (arity o) h.same_arity) (kernel_silent i o h.old_not_kernel) (fresh_selector i n h.fresh_selector)
      (without_meaning i n h.new_not_kernel) (not_reflective i (RenameSelector o n) h.no_reflection) filed

  -- each command
  pub kept_filed : (command : CommandOf Text) → MovesNoCode command → IsSpelled command × MayBeFiled command → AllHold text_asked i command → IsFiled (effect text_asked canonical command i)
  kept_filed (RenameClass c d) shape t h = let u = user_class i c h.user_class in class_filed kernel i s whole c d u.0 u.1 u.2 h.good_name h.unused_name (not_reflective i (RenameClass c d) h.no_reflection) filed
  kept_filed (AddClass d p under) shape t h = quiet_filed i _ filed (same_code i _)
  kept_filed (RemoveClass c) shape t h =
      quiet_filed i _ filed (record { sources = λ m k u. (m, (filter_in (λ n. not (is_method_of text_eq c n)) i.methods m k).0, u, refl); doits = refl; heads = refl })
  kept_filed (AddInstVar c x) shape t h = quiet_filed i _ filed (same_code i _)
  kept_filed (RenameInstVar c x y) shape t h = renamed_filed of_instance c x y h.user_class (rename_inst kernel i s whole c x y h)
  kept_filed (RemoveInstVar c x) shape t h = quiet_filed i _ filed (same_code i _)
  kept_filed (PushUpInstVar c x) shape t h = quiet_filed i _ filed (quiet_option i (λ p. record i { classes = map (class_pushed_up text_eq p x) i.classes }) (λ p. same_code i (map (class_pushed_up text_eq p x) i.classes)) (superclass_name text_eq i c))
  kept_filed (PushDownInstVar c x) shape t h = quiet_filed i _ filed (same_code i _)
  kept_filed (AddClassVar c x) shape t h = quiet_filed i _ filed (same_code i _)
  kept_filed (RenameClassVar c x y) shape t h = renamed_filed of_class c x y h.user_class (rename_shared kernel i s whole c x y h)
  kept_filed (RemoveClassVar c x) shape t h = quiet_filed i _ filed (same_code i _)
  kept_filed (PushUpClassVar c x) shape t h = quiet_filed i _ filed (quiet_option i (λ p. shared_moved text_eq c x p i) (λ p. same_code i (shared_moved text_eq c x p i).classes) (superclass_name text_eq i c))
  kept_filed (PushDownClassVar c x d) shape t h = quiet_filed i _ filed (same_code i _)
  kept_filed (AddClassSideVar c x) shape t h = quiet_filed i _ filed (same_code i _)
  kept_filed (RenameClassSideVar c x y) shape t h = renamed_filed of_class_side c x y h.user_class (rename_class_side kernel i s whole c x y h)
  kept_filed (RemoveClassSideVar c x) shape t h = quiet_filed i _ filed (same_code i _)
  kept_filed (RenameSelector o n) shape t h = selector_kept o n h
  kept_filed (AddMethod c meta protocol text tree) shape t h = added i (new_method c meta protocol text tree) filed (λ u. t.1)
  kept_filed (RemoveMethod c meta v) shape t h =
      quiet_filed i _ filed (record { sources = λ m k u. (m, (filter_in (λ n. not (is_method text_eq c meta v n)) i.methods m k).0, u, refl); doits = refl; heads = refl })
  kept_filed (PushUpMethod c meta v) shape t h = quiet_filed i _ filed (quiet_option i (λ p. record i { methods = map (λ m. if is_method text_eq c meta v m then of_class_named m p else m) i.methods }) (λ p. pushed_up i c meta v p) (superclass_name text_eq i c))
  kept_filed (PushDownMethod c meta v) shape t h = quiet_filed i _ filed (pushed_down i c meta v (receivers text_eq i c meta v))
  kept_filed (AddParameter o n x passed) shape t h = add_parameter_filed kernel i s whole filed o n x passed t.0.0 t.0.1 h
  kept_filed (RemoveParameter o k n) shape t h = remove_parameter_filed kernel i s whole filed o k n h
  kept_filed (RenameTemp c meta v x y) shape t h = temporary_filed kernel i s c meta v x y h filed
  kept_filed command shape t h = absurd shape
