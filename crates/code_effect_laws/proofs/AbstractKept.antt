-- `abstractInstVar` keeps images valid, where its conditions hold.
use Rattle.std.proofs.Common.{◌≡◌, ◌⊎◌, inl, inr, ◌≤◌, Bool, true, false, not, List, [], ◌∷◌, ◌++◌, map, find, Some, None, refl, sym, ap, subst, ◌∙◌}
use Rattle.std.specs.Prelude.{◌||◌, if◌then◌else◌, codes}
use Rattle.std.specs.List.{list_all}
use Rattle.std.proofs.lemmas.Bool.{and_parts, leb-true}
use Rattle.std.proofs.lemmas.Simd.{map-map}
use Rattle.std.proofs.lemmas.List.{map-id}
use Rattle.rb_base.specs.Names.{text_eq}
use Rattle.token_model.specs.declared.kind.Dialect.TheVariants.{Second}
use Rattle.tree_model.specs.Tree.{MethodOf}
use Rattle.tree_model.specs.Nodes.{nodes}
use Rattle.tree_model.specs.Measure.{sequence_height}
use Rattle.text_model.specs.Whole.{canonical_method}
use Rattle.image_model.specs.Image.{ClassOf, EntryOf, DoItOf, ImageOf}
use Rattle.image_model.specs.Words.{text_words}
use Rattle.image_model.specs.Means.{of_instance, means, means_in_doit}
use Rattle.image_model.specs.Lookup.{is_method}
use Rattle.image_model.specs.Valid.{class_names, signature, IsUserMethod}
use Rattle.reread_law.specs.WholeTrees.{WellFormedMethod}
use Rattle.reread_law.proofs.Methods.{method_again}
use Rattle.file_model.specs.Filing.{Text}
use Rattle.file_model.specs.Fileable.{reading_of, MayStand}
use Rattle.file_laws.specs.Fronts.{method_of_kernel}
use Rattle.rename_model.specs.ClassRenamed.{WritingOf, canonical}
use Rattle.rename_model.specs.Conditions.{is_selector_fresh}
use Rattle.command_model.specs.Accessors.{accessing, getter, setter_of, made, is_meant, method_made, doit_made}
use Rattle.command_model.specs.Asked.{text_asked}
use Rattle.command_model.specs.Commands.{AbstractInstVar}
use Rattle.command_model.specs.CodeHolds.{no_writing}
use Rattle.command_model.specs.MethodEffects.{new_method}
use Rattle.command_model.specs.ParameterConditions.{is_low}
use Rattle.command_model.specs.Walk.{rebuilt_sequence, rebuilt_method}
use Rattle.command_model.specs.Effects.{effect}
use Rattle.command_model.specs.AllHold.{AllHold}
use Rattle.kept_runs.specs.WellSpelled.{AreSetterNames}
use Rattle.effect_laws.proofs.Items.{In, Once, all_in, in_map, map_in, in_either}
use Rattle.effect_laws.proofs.Sound.{HasHome, MayBeName, AreSoundMethods, IsSound}
use Rattle.effect_laws.proofs.Fronts.{behind_map}
use Rattle.effect_laws.proofs.Tests.{HasName}
use Rattle.effect_laws.proofs.Facts.{user_class, variable_there}
use Rattle.effect_laws.proofs.Kernel.{IsWhole, all_pass}
use Rattle.effect_laws.proofs.VariableCode.{method_means_none, doit_means_none, none_means, off_kernel, off_doits}
use Rattle.effect_laws.proofs.RenamesKept.{fresh_selector}
use Rattle.effect_laws.proofs.WholeTrees.{IsWritten, well_of, written_method, spelled_method}
use Rattle.effect_laws.proofs.MethodCommands.{with_sound_methods, method_sound, signature_of}
use Rattle.effect_laws.proofs.Filed.{IsFiled, method_stands}
use Rattle.effect_laws.proofs.FiledCommands.{added}
use Rattle.effect_laws.proofs.Blanks.{may_stand, method_begins}
use Rattle.effect_laws.proofs.KernelInFront.{AreFronts, front_map, front_end}
use Rattle.code_effect_laws.proofs.Methods.{method_proper, method_well}
use Rattle.code_effect_laws.proofs.WalkedMethods.{rebuilt_normal}
use Rattle.code_effect_laws.proofs.Abstracted.{IsGiven, given_name, walked_proper, getter_well, setter_well}

-- where no item passes nothing is found
none_found : {X : Type 0} (p : X → Bool) (xs : List X) → ((x : X) → In xs x → p x ≡ false) → find p xs ≡ None
none_found p [] h = refl
none_found p (x ∷ xs) h = ap (λ b. if b then Some x else find p xs) (h x (inl refl)) ∙ none_found p xs (λ y k. h y (inr k))

-- a text is not itself with a colon behind it
no_longer : (t : Text) → t ≡ t ++ codes ":" → ⊥
no_longer [] e = cc
no_longer (b ∷ t) e = no_longer t (let same : t ≡ t ++ codes ":" = cc in same)

module _ (kernel i : ImageOf Text) (s : IsSound kernel i) (whole : IsWhole kernel) (c x setter given : Text) (names : AreSetterNames x setter given) (h : AllHold text_asked i (AbstractInstVar c x setter given)) where
  -- the class, and its variable
  owner : (e : ClassOf Text) × HasName i.classes c e × (e.kernel ≡ false)
  owner = user_class i c h.user_class

  variable_name : IsGiven x
  variable_name =
      let v = variable_there i of_instance c x h.has_variable in
      given_name x (all_in MayBeName v.0.instance (s.classes.named v.0 v.1.there).instance x v.2)

  -- a method after
  module _ (writing : WritingOf Text) where
    abbrev g : EntryOf Text → EntryOf Text
    g m = method_made text_words writing (codes "self") c x setter given i m

    abbrev tree : EntryOf Text → MethodOf Text
    tree m = rebuilt_method (made text_words writing (codes "self") c x setter given i (means text_words i m)) m.tree

    abbrev meant : EntryOf Text → Bool
    meant m = is_meant text_words writing (codes "self") c x setter given i (means text_words i m) m.tree.body

    abbrev Either : EntryOf Text → Type 0
    Either m = (g m ≡ m) ⊎ (g m ≡ record m { tree = tree m; source = writing.method_text (tree m) })

    either : (m : EntryOf Text) → Either m
    either m = by (meant m)
      where
        by : (b : Bool) → ((if b then record m { tree = tree m; source = writing.method_text (tree m) } else m) ≡ m) ⊎ ((if b then record m { tree = tree m; source = writing.method_text (tree m) } else m) ≡ record m { tree = tree m; source = writing.method_text (tree m) })
        by true = inr refl
        by false = inl refl

    signed : (m : EntryOf Text) → signature (g m) ≡ signature m
    signed m = by (either m)
      where
        by : Either m → signature (g m) ≡ signature m
        by (inl e) = ap signature e
        by (inr e) = ap signature e

    mark : (m : EntryOf Text) → (g m).kernel ≡ m.kernel
    mark m = by (either m)
      where
        by : Either m → (g m).kernel ≡ m.kernel
        by (inl e) = ap (λ (y : EntryOf Text). y.kernel) e
        by (inr e) = ap (λ (y : EntryOf Text). y.kernel) e

  -- what is not reached by messages does not mean the variable
  kernel_fixed : (m : EntryOf Text) → In kernel.methods m → g canonical m ≡ m
  kernel_fixed m k =
      ap (λ b. if b then record m { tree = tree canonical m; source = canonical_method (tree canonical m) } else m)
      (none_means i of_instance c x (means text_words i m) (method_means_none i of_instance c m (off_kernel kernel i s whole c owner.0 owner.1 owner.2 m k)) (nodes m.tree.body))

  doit_fixed : (writing : WritingOf Text) (e : DoItOf Text) → doit_made text_words writing (codes "self") c x setter given i e ≡ e
  doit_fixed writing e =
      ap (λ b. if b then record { body = rebuilt_sequence (made text_words writing (codes "self") c x setter given i (means_in_doit text_words i e)) e.body; source = writing.doit_text (rebuilt_sequence (made text_words writing (codes "self") c x setter given i (means_in_doit text_words i e)) e.body) } else e)
      (none_means i of_instance c x (means_in_doit text_words i e) (doit_means_none i of_instance c e (off_doits kernel i s whole c owner.0 owner.1 owner.2)) (nodes e.body))

  doits_fixed : (writing : WritingOf Text) → map (doit_made text_words writing (codes "self") c x setter given i) i.doits ≡ i.doits
  doits_fixed writing = (λ j. map (λ e. doit_fixed writing e j) i.doits) ∙ map-id i.doits

  -- the new methods
  abbrev getting : EntryOf Text
  getting = new_method c false accessing (canonical_method (getter x)) (getter x)

  abbrev setting : EntryOf Text
  setting = new_method c false accessing (canonical_method (setter_of x setter given)) (setter_of x setter given)

  -- the image before they come, and after
  abbrev between : ImageOf Text
  between = record i { methods = map (g canonical) i.methods }

  abbrev after : ImageOf Text
  after = record i { methods = (map (g canonical) i.methods ++ getting ∷ []) ++ setting ∷ [] }

  effect_is : effect text_asked canonical (AbstractInstVar c x setter given) i ≡ after
  effect_is = λ j. record i { methods = (map (g canonical) i.methods ++ getting ∷ []) ++ setting ∷ []; doits = doits_fixed canonical j }

  -- what sends the messages is not too high
  abbrev is_low_after : EntryOf Text → Bool
  is_low_after m = not (meant no_writing m) || is_low (g no_writing m).tree.body

  low : (m : EntryOf Text) → In i.methods m → m.kernel ≡ false → meant canonical m ≡ true → sequence_height (tree canonical m).body ≤ 200
  low m k u e =
      let a = and_parts (is_low (getter x).body) _ h.shallow in
      let b = and_parts (is_low (setter_of x setter given).body) _ a.1 in
      let d = and_parts (list_all (λ (n : EntryOf Text). n.kernel || is_low_after n) i.methods) _ b.1 in
      leb-true (sequence_height (tree canonical m).body) 200
      (ap (λ b. not b || is_low (if b then record m { tree = tree no_writing m; source = [] } else m).tree.body) (sym e)
      ∙ ap (λ b. b || is_low_after m) (sym u) ∙ all_pass (λ (n : EntryOf Text). n.kernel || is_low_after n) i.methods d.0 m k)

  well : (m : EntryOf Text) → In i.methods m → m.kernel ≡ false → WellFormedMethod false (g canonical m).tree
  well m k u = by (meant canonical m) refl
    where
      old : WellFormedMethod false m.tree
      old = well_of kernel m (s.methods.spelled m k u)

      by : (b : Bool) → meant canonical m ≡ b → WellFormedMethod false (if b then record m { tree = tree canonical m; source = canonical_method (tree canonical m) } else m).tree
      by true e =
          method_well (tree canonical m) (walked_proper canonical c x setter given i variable_name.word names.selector (means text_words i m) m.tree (method_proper m.tree old))
          (rebuilt_normal (made text_words canonical (codes "self") c x setter given i (means text_words i m)) m.tree old.normal) (low m k u e)
      by false e = old

  written : (m : EntryOf Text) → IsWritten canonical_method m.source (g canonical m).source m.tree (g canonical m).tree
  written m = by (either canonical m)
    where
      by : Either canonical m → IsWritten canonical_method m.source (g canonical m).source m.tree (g canonical m).tree
      by (inl e) = inr (ap (λ (n : EntryOf Text). n.source) e, ap (λ (n : EntryOf Text). n.tree) e)
      by (inr e) = inl (ap (λ (n : EntryOf Text). n.source) e ∙ ap (λ (n : EntryOf Text). canonical_method n.tree) (sym e))

  spelled : (m : EntryOf Text) → In i.methods m → m.kernel ≡ false → IsUserMethod (reading_of Second kernel) (g canonical m)
  spelled m k u = written_method kernel m (g canonical m) (s.methods.spelled m k u) (well m k u) (written m)

  between_methods : AreSoundMethods kernel (class_names i.classes) (map (g canonical) i.methods)
  between_methods = record {
    once = subst Once (sym (map-map signature (g canonical) i.methods ∙ (λ j. map (λ (m : EntryOf Text). signed canonical m j) i.methods))) s.methods.once;
    homes = λ m k. (let r = map_in (g canonical) i.methods m k in subst (HasHome (class_names i.classes)) r.2 (home r.0 (s.methods.homes r.0 r.1)));
    spelled = λ m k u. (let r = map_in (g canonical) i.methods m k in subst (IsUserMethod (reading_of Second kernel)) r.2 (spelled r.0 r.1 (sym (mark canonical r.0) ∙ ap (λ (n : EntryOf Text). n.kernel) r.2 ∙ u)));
    behind = behind_map method_of_kernel kernel.methods i.methods s.methods.behind (g canonical) kernel_fixed (λ m k q. mark canonical m ∙ q);
  }
    where
      home : (m : EntryOf Text) → HasHome (class_names i.classes) m → HasHome (class_names i.classes) (g canonical m)
      home m r = (r.0, ap (λ (u : _). u.0) (signed canonical m) ∙ r.1, r.2)

  between_sound : IsSound kernel between
  between_sound = with_sound_methods kernel i s (map (g canonical) i.methods) between_methods

  -- no method has the selector of the getter or of the setter
  other_selector : (t : Text) → is_selector_fresh text_eq i t ≡ true → (m : EntryOf Text) → In (map (g canonical) i.methods) m → is_method text_eq c false t m ≡ false
  other_selector t fresh m k = by (is_method text_eq c false t m) refl
    where
      by : (b : Bool) → is_method text_eq c false t m ≡ b → is_method text_eq c false t m ≡ false
      by true e =
          let r = map_in (g canonical) i.methods m k in
          absurd (fresh_selector i t fresh r.0 r.1
          (sym (ap (λ (u : _). u.2) (signature_of c false t m e)) ∙ ap (λ (n : EntryOf Text). n.tree.selector) (sym r.2) ∙ ap (λ (u : _). u.2) (signed canonical r.0)))
      by false e = e

  class_there : In (class_names i.classes) c
  class_there = subst (In (class_names i.classes)) (sym owner.1.name) (in_map (λ (d : ClassOf Text). d.name) i.classes owner.0 owner.1.there)

  getting_spelled : IsUserMethod (reading_of Second kernel) getting
  getting_spelled = spelled_method kernel getting (method_again false (getter x) (getter_well x variable_name))

  setting_spelled : IsUserMethod (reading_of Second kernel) setting
  setting_spelled = spelled_method kernel setting (method_again false (setter_of x setter given) (setter_well x setter given variable_name names))

  abbrev with_getter : ImageOf Text
  with_getter = record i { methods = map (g canonical) i.methods ++ getting ∷ [] }

  getter_sound : IsSound kernel with_getter
  getter_sound =
      with_sound_methods kernel between between_sound (map (g canonical) i.methods ++ getting ∷ [])
      (method_sound kernel between between_sound getting c refl class_there refl getting_spelled (none_found (is_method text_eq c false x) (map (g canonical) i.methods) (other_selector x h.fresh_getter)))

  -- the selectors of both differ
  getter_other : is_method text_eq c false setter getting ≡ false
  getter_other = by (is_method text_eq c false setter getting) refl
    where
      by : (b : Bool) → is_method text_eq c false setter getting ≡ b → is_method text_eq c false setter getting ≡ false
      by true e = absurd (no_longer x (ap (λ (u : _). u.2) (signature_of c false setter getting e) ∙ names.selector))
      by false e = e

  setter_new : find (is_method text_eq c false setter) (map (g canonical) i.methods ++ getting ∷ []) ≡ None
  setter_new = none_found (is_method text_eq c false setter) (map (g canonical) i.methods ++ getting ∷ []) (λ m k. by m (in_either (map (g canonical) i.methods) (getting ∷ []) m k))
    where
      by : (m : EntryOf Text) → In (map (g canonical) i.methods) m ⊎ In (getting ∷ []) m → is_method text_eq c false setter m ≡ false
      by m (inl k) = other_selector setter h.fresh_setter m k
      by m (inr (inl e)) = ap (is_method text_eq c false setter) (sym e) ∙ getter_other
      by m (inr (inr k)) = absurd k

  after_sound : IsSound kernel after
  after_sound =
      with_sound_methods kernel with_getter getter_sound ((map (g canonical) i.methods ++ getting ∷ []) ++ setting ∷ [])
      (method_sound kernel with_getter getter_sound setting c refl class_there refl setting_spelled setter_new)

  pub abstract_sound : IsSound kernel (effect text_asked canonical (AbstractInstVar c x setter given) i)
  abstract_sound = subst (IsSound kernel) (sym effect_is) after_sound

  pub abstract_filed : IsFiled i → IsFiled (effect text_asked canonical (AbstractInstVar c x setter given) i)
  abstract_filed f =
      subst IsFiled (sym effect_is)
      (added with_getter setting (added between getting (record {
        methods = λ m k u. (let r = map_in (g canonical) i.methods m k in
            let user : r.0.kernel ≡ false = sym (mark canonical r.0) ∙ ap (λ (n : EntryOf Text). n.kernel) r.2 ∙ u in
            subst (λ (n : EntryOf Text). MayStand n.source) r.2 (method_stands kernel r.0 (g canonical r.0) (spelled r.0 r.1 user) (written r.0) (f.methods r.0 r.1 user)));
        doits = f.doits;
        forms = f.forms;
        heads = f.heads;
      }) (λ u. may_stand (canonical_method (getter x)) (method_begins (getter x) (getter_well x variable_name))))
      (λ u. may_stand (canonical_method (setter_of x setter given)) (method_begins (setter_of x setter given) (setter_well x setter given variable_name names))))

  pub abstract_front : AreFronts i → AreFronts (effect text_asked canonical (AbstractInstVar c x setter given) i)
  abstract_front f =
      subst AreFronts (sym effect_is)
      (record { classes = f.classes; methods = front_end method_of_kernel (map (g canonical) i.methods ++ getting ∷ []) setting refl (front_end method_of_kernel (map (g canonical) i.methods) getting refl (front_map method_of_kernel (g canonical) i.methods (mark canonical) f.methods)) })
