-- The renamings keep images valid, where their conditions hold.
use Rattle.std.proofs.Common.{◌≡◌, ◌⊎◌, inl, inr, Bool, true, false, not, length, Some, refl, sym, ap, subst, ◌∙◌}
use Rattle.std.specs.Prelude.{◌&&◌, ◌||◌, nat_le, is_some}
use Rattle.std.specs.List.{list_any}
use Rattle.std.proofs.lemmas.Bool.{and_parts, or_parts, not-true, eqb-true}
use Rattle.rb_base.specs.Names.{text_eq}
use Rattle.text_model.specs.Literals.{is_selector}
use Rattle.image_model.specs.Image.{ClassOf, EntryOf, ImageOf}
use Rattle.image_model.specs.Words.{text_words}
use Rattle.image_model.specs.Chain.{class_named, chain}
use Rattle.image_model.specs.Means.{VariableKind, of_instance, of_class_side, of_class, means, means_in_doit}
use Rattle.tree_model.specs.Nodes.{nodes}
use Rattle.file_model.specs.Filing.{Text}
use Rattle.rename_model.specs.CommandWords.{text_command_words, arity, may_be_declared, begins_upper, is_good_variable_name, has_own_meaning}
use Rattle.rename_model.specs.NamesThere.{is_named_in_method}
use Rattle.rename_model.specs.Conditions.{is_selector_fresh, is_no_kernel_selector, is_user_class, defines, stands_below, is_method_below, is_variable_free, speaks_of}
use Rattle.rename_model.specs.ClassRenamed.{canonical}
use Rattle.rename_model.specs.VariableRenamed.{means_the_variable, variable_renamed}
use Rattle.command_model.specs.Asked.{text_asked}
use Rattle.command_model.specs.Commands.{RenameClass, RenameInstVar, RenameClassVar, RenameClassSideVar, RenameSelector}
use Rattle.command_model.specs.Hierarchy.{is_class}
use Rattle.command_model.specs.Effects.{effect}
use Rattle.command_model.specs.AllHold.{AllHold}
use Rattle.effect_laws.proofs.Items.{In}
use Rattle.effect_laws.proofs.Above.{IsAbove, above_in}
use Rattle.effect_laws.proofs.Sound.{IsSound}
use Rattle.effect_laws.proofs.Tests.{none_in, differ}
use Rattle.effect_laws.proofs.Kernel.{IsWhole}
use Rattle.effect_laws.proofs.Facts.{user_class, third_of_three, undefined_above, undefined_below}
use Rattle.effect_laws.proofs.VariablesKept.{free_parts}
use Rattle.effect_laws.proofs.NewNames.{unnamed_method, unnamed_doit, unnamed_class}
use Rattle.effect_laws.proofs.ClassRename.{class_renamed_sound}
use Rattle.effect_laws.proofs.VariableCode.{method_means_none, doit_means_none, none_means, off_doits}
use Rattle.effect_laws.proofs.VariableRename.{variable_renamed_sound}
use Rattle.effect_laws.proofs.SelectorRename.{selector_renamed_sound}

-- code that knows a variable that is free does not have its name
pub free_code : (i : ImageOf Text) (c x : Text) → is_variable_free text_eq i c x ≡ true → list_any (λ m. is_method_below text_eq i.classes c m && is_named_in_method text_eq x m) i.methods ≡ false
free_code i c x h =
    let above = list_any (defines text_eq x) (chain text_eq i.classes (Some c)) in
    let below = list_any (λ e. stands_below text_eq i.classes c e && defines text_eq x e) i.classes in
    let code = list_any (λ m. is_method_below text_eq i.classes c m && is_named_in_method text_eq x m) i.methods in
    third_of_three above below code (and_parts (is_some (class_named text_eq i.classes c)) (not (above || (below || code))) h).1

-- no code of the kernel speaks of a selector, which has no meaning of its own
pub kernel_silent : (i : ImageOf Text) (o : Text) → is_no_kernel_selector text_eq text_command_words i o ≡ true → (m : EntryOf Text) → In i.methods m → m.kernel ≡ true → speaks_of text_eq o m ≡ false
kernel_silent i o h m k q =
    let none = (or_parts (list_any (λ (x : EntryOf Text). x.kernel && speaks_of text_eq o x) i.methods) (has_own_meaning o) (not-true (list_any (λ (x : EntryOf Text). x.kernel && speaks_of text_eq o x) i.methods || has_own_meaning o) h)).0 in
    ap (λ b. b && speaks_of text_eq o m) (sym q) ∙ none_in (λ (x : EntryOf Text). x.kernel && speaks_of text_eq o x) i.methods none m k

pub without_meaning : (i : ImageOf Text) (n : Text) → is_no_kernel_selector text_eq text_command_words i n ≡ true → has_own_meaning n ≡ false
without_meaning i n h = (or_parts (list_any (λ (x : EntryOf Text). x.kernel && speaks_of text_eq n x) i.methods) (has_own_meaning n) (not-true (list_any (λ (x : EntryOf Text). x.kernel && speaks_of text_eq n x) i.methods || has_own_meaning n) h)).1

-- no method has a fresh selector
pub fresh_selector : (i : ImageOf Text) (n : Text) → is_selector_fresh text_eq i n ≡ true → (m : EntryOf Text) → In i.methods m → n ≡ m.tree.selector → ⊥
fresh_selector i n h m k =
    let none = (or_parts (list_any (speaks_of text_eq n) i.methods) _ (not-true _ h)).0 in
    differ n m.tree.selector (or_parts (text_eq n m.tree.selector) _ (none_in (speaks_of text_eq n) i.methods none m k)).0

module _ (kernel i : ImageOf Text) (s : IsSound kernel i) (whole : IsWhole kernel) where
  pub rename_class : (c d : Text) → AllHold text_asked i (RenameClass c d) → IsSound kernel (effect text_asked canonical (RenameClass c d) i)
  rename_class c d h = let u = user_class i c h.user_class in class_renamed_sound kernel i s whole c d u.0 u.1 u.2 h.good_name h.unused_name

  -- code of the classes below has not the name, and other code does not mean the variable
  pub code_free : (kind : VariableKind) (c x y : Text) → is_variable_free text_eq i c y ≡ true → (m : EntryOf Text) → In i.methods m
      → (is_named_in_method text_eq y m ≡ false) ⊎ (means_the_variable text_words canonical i kind c x y (means text_words i m) m.tree.body ≡ false)
  code_free kind c x y free m k = by (is_method_below text_eq i.classes c m) refl
    where
      tested : (is_method_below text_eq i.classes c m && is_named_in_method text_eq y m) ≡ false
      tested = none_in (λ (n : EntryOf Text). is_method_below text_eq i.classes c n && is_named_in_method text_eq y n) i.methods (free_code i c y free) m k

      by : (b : Bool) → is_method_below text_eq i.classes c m ≡ b → (is_named_in_method text_eq y m ≡ false) ⊎ (means_the_variable text_words canonical i kind c x y (means text_words i m) m.tree.body ≡ false)
      by true q = inl (ap (λ b. b && is_named_in_method text_eq y m) (sym q) ∙ tested)
      by false q = inr (none_means i kind c x (means text_words i m) (method_means_none i kind c m (λ a l. none_in (λ (d : ClassOf Text). text_eq c d.name) (chain text_eq i.classes m.class) q a l)) (nodes m.tree.body))

  renamed_free : (kind : VariableKind) (c x y : Text) → is_user_class text_eq i c ≡ true → is_good_variable_name y ≡ true → is_variable_free text_eq i c y ≡ true → IsSound kernel (variable_renamed text_words canonical i kind c x y)
  renamed_free kind c x y user good free =
      let u = user_class i c user in
      let none = free_parts i c y free in
      variable_renamed_sound kernel i s whole kind c x y u.0 u.1 u.2 (and_parts (may_be_declared y) (not (begins_upper y)) good).0
      (λ a up. undefined_above kernel i.classes s.classes c y u.0 u.1 none.0 a up kind)
      (λ t e k up. undefined_below kernel i.classes s.classes c y u.0 u.1 none.1 e k up kind)
      (code_free kind c x y free)
      (λ e k. inr (none_means i kind c x (means_in_doit text_words i e) (doit_means_none i kind c e (off_doits kernel i s whole c u.0 u.1 u.2)) (nodes e.body)))

  pub rename_inst : (c x y : Text) → AllHold text_asked i (RenameInstVar c x y) → IsSound kernel (effect text_asked canonical (RenameInstVar c x y) i)
  rename_inst c x y h = renamed_free of_instance c x y h.user_class h.good_name (and_parts (is_class text_eq i c) (is_variable_free text_eq i c y) h.free_variable).1

  pub rename_class_side : (c x y : Text) → AllHold text_asked i (RenameClassSideVar c x y) → IsSound kernel (effect text_asked canonical (RenameClassSideVar c x y) i)
  rename_class_side c x y h = renamed_free of_class_side c x y h.user_class h.good_name (and_parts (is_class text_eq i c) (is_variable_free text_eq i c y) h.free_variable).1

  pub rename_shared : (c x y : Text) → AllHold text_asked i (RenameClassVar c x y) → IsSound kernel (effect text_asked canonical (RenameClassVar c x y) i)
  rename_shared c x y h =
      let u = user_class i c h.user_class in
      variable_renamed_sound kernel i s whole of_class c x y u.0 u.1 u.2 (and_parts (may_be_declared y) (begins_upper y) h.good_name).0
      (λ a up. unnamed a u.0 up u.1.there)
      (λ t. absurd t)
      (λ m k. inl (unnamed_method i y h.unused_name m k))
      (λ e k. inl (unnamed_doit i y h.unused_name e k))
    where
      unnamed : (a : ClassOf Text) (f : ClassOf Text) → (f ≡ a) ⊎ IsAbove i.classes a f → In i.classes f → In a.shared y → ⊥
      unnamed a f (inl q) k = (unnamed_class i y h.unused_name a (subst (In i.classes) q k)).2
      unnamed a f (inr up) k = (unnamed_class i y h.unused_name a (above_in i.classes a f up)).2

  pub rename_selector : (o n : Text) → AllHold text_asked i (RenameSelector o n) → IsSound kernel (effect text_asked canonical (RenameSelector o n) i)
  rename_selector o n h =
      selector_renamed_sound o n (and_parts (nat_le (length n) 200) (is_selector n) h.good_name).1 (eqb-true (arity n) (arity o) h.same_arity) kernel i s (kernel_silent i o h.old_not_kernel) (fresh_selector i n h.fresh_selector)
