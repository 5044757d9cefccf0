-- The image after is one with changed names, and these mean what they meant before.
use Rattle.std.proofs.Common.{◌≡◌, ℕ, List, [], Option, Some, None, refl, sym, ap, ◌∙◌}
use Rattle.std.specs.Prelude.{Bool, true, false, if◌then◌else◌, find, option_map, codes}
use Rattle.std.specs.List.{list_any}
use Rattle.rb_base.specs.Names.{text_eq}
use Rattle.tree_model.specs.Tree.{SequenceOf}
use Rattle.scope_model.specs.Scope.{ScopeOf, scopes_round, local_by, method_scope, doit_scope}
use Rattle.scope_model.specs.declared.local.Local.TheVariants.{NotLocal}
use Rattle.image_model.specs.Image.{ClassOf, EntryOf, DoItOf, ImageOf}
use Rattle.image_model.specs.ImageNames.{OptionNames}
use Rattle.image_model.specs.Words.{text_words}
use Rattle.image_model.specs.Means.{MeaningOf, a_class, map_meaning, means, means_in_doit, means_outside}
use Rattle.image_model.specs.Uses.{is_that_class}
use Rattle.image_model.proofs.Lists.{all-implies, all-both, find-map, find-all}
use Rattle.run_model.specs.Values.{Name}
use Rattle.run_model.specs.Runs.{doit_class}
use Rattle.resolved_model.specs.Resolving.{place_at}
use Rattle.mapped_model.specs.MappedImages.{class_or_none}
use Rattle.mapped_model.specs.ChangedTrees.{MeaningsAreMapped}
use Rattle.mapped_model.specs.ChangedImages.{IsChangedClass, IsChangedMethod, IsChangedDoIt, IsChangedImage}
use Rattle.rename_model.specs.NamesThere.{is_named_in, is_named_in_method}
use Rattle.rename_model.specs.Renamed.{NewName}
use Rattle.rename_model.specs.ClassRenamed.{WritingOf, class_after, method_after, doit_after, class_renamed}
use Rattle.rename_laws.specs.BehindKernel.{AssignsNothingFixed, IsBehindKernel}
use Rattle.rename_laws.proofs.NewNames.{new, maps, Other, same-after}
use Rattle.rename_laws.proofs.ClassesAfter.{after, IsOther}
use Rattle.rename_laws.proofs.OutsideAfter.{IsApart, stays-after, stays-apart, class-before, class-after}
use Rattle.rename_laws.proofs.Zips.{zip-mapped, zip-after}
use Rattle.rename_laws.proofs.ScopesAfter.{renamed_scope}
use Rattle.rename_laws.proofs.TreesAfter.{name_at_node, names_of, scope-called}
use Rattle.rename_laws.proofs.Unnamed.{neither_left, neither_right, node-unnamed, read-other, assigned-other, declared-other}
use Rattle.rename_laws.proofs.Undeclared.{no-local}
use Rattle.rename_laws.proofs.MeaningsAfter.{meaning_at, read-after, assigned-after}
use Rattle.rename_laws.proofs.Readiness.{IsReady}

module _ (writing : WritingOf Name) (i : ImageOf Name) (c d : Name) (ready : IsReady i c d) where
  -- the image after
  abbrev j : ImageOf Name
  j = class_renamed text_words writing i c d

  -- what a name becomes by what it means
  abbrev renames : (List ℕ → Name → MeaningOf Name) → NewName Name
  renames at path n = if is_that_class text_eq c (at path n) then d else n

  -- code of a class that there may be, on a side of it; after, that of the class's new name
  module _ (meta : Bool) (home : Option Name) (fine : OptionNames (Other c d) home) (later : Option Name) (so : later ≡ option_map (new c d) home) where
    -- what names mean behind all scopes
    abbrev before : Name → MeaningOf Name
    before n = means_outside text_words i home meta n

    abbrev afterwards : Name → MeaningOf Name
    afterwards n = means_outside text_words j later meta n

    stays : (n : Name) → Other c d n → is_that_class text_eq c (before n) ≡ false → afterwards n ≡ map_meaning (new c d) (before n)
    stays n o e = ap (λ h. means_outside text_words j h meta n) so ∙ stays-after c d meta i.classes ready.new_name.others ready.user ready.found home fine n o e

    apart : (n : Name) → is_that_class text_eq c (before n) ≡ false → IsApart c n (before n)
    apart n e = stays-apart c d meta i.classes ready.new_name.others ready.user ready.found home fine n e

    meant : (n : Name) → is_that_class text_eq c (before n) ≡ true → (n ≡ c) × (before n ≡ a_class c)
    meant n e = class-before c d meta i.classes ready.new_name.others ready.user ready.found home fine n e

    anew : afterwards d ≡ a_class d
    anew = ap (λ h. means_outside text_words j h meta d) so ∙ class-after c d meta i.classes ready.new_name.others ready.user ready.found home fine ready.other

    -- a sequence with arguments
    module _ (arguments : List Name) (b : SequenceOf Name) where
      abbrev code : ScopeOf Name
      code = record { arguments = arguments; temporaries = b.temporaries; statements = b.statements }

      -- what a name becomes in it
      abbrev to : NewName Name
      to path n = renames (meaning_at code before) path n

      module _ (lacks : list_any (text_eq d) arguments ≡ false) (unnamed : is_named_in text_eq d b ≡ false) (loose : AssignsNothingFixed (meaning_at code before) b) where
        -- the new name is no local there
        free : (path : List ℕ) → local_by text_eq (scopes_round code path) d ≡ NotLocal
        free path = no-local d code lacks (neither_left (list_any (text_eq d) b.temporaries) _ unnamed) (λ p u e. declared-other c d u (node-unnamed c d b unnamed p u e)) path

        -- what names mean is mapped
        pub meanings-after : MeaningsAreMapped (maps c d) (class_or_none home) (names_of code to) code (λ path n. record { meaning = meaning_at code before path n; place = place_at code path n }) (λ path n. record { meaning = meaning_at (renamed_scope to code) afterwards path n; place = place_at (renamed_scope to code) path n })
        meanings-after path u q = record {
          read = λ n e.
              read-after c d code to before afterwards stays apart meant anew ready.proper path (free path) (class_or_none home) n (names_of code to path n)
              (read-other c d u n (node-unnamed c d b unnamed path u q) e) (ap (λ o. name_at_node o (to path n) n) (q ∙ ap Some e));
          assigned = λ n t e.
              assigned-after c d code to before afterwards stays apart meant anew ready.proper path (free path) (class_or_none home) n (names_of code to path n)
              (assigned-other c d u n t (node-unnamed c d b unnamed path u q) e) (ap (λ o. name_at_node o (to path n) n) (q ∙ ap Some e)) (loose path n t (q ∙ ap Some e));
        }

  -- a class
  class-changed : (e : ClassOf Name) → IsChangedClass (maps c d) e (class_after text_words writing i c d e)
  class-changed e = record { name = refl; superclass = refl }

  -- a method
  method-changed : (m : EntryOf Name) → OptionNames (Other c d) m.class → is_named_in_method text_eq d m ≡ false → AssignsNothingFixed (means text_words i m) m.tree.body → IsChangedMethod (maps c d) i j m (method_after text_words writing i c d m)
  method-changed m fine unnamed loose = record {
    class = refl;
    meta = refl;
    selector = refl;
    primitive = refl;
    names = names_of (method_scope m.tree) (renames (means text_words i m));
    scope = λ e. scope-called (method_scope m.tree) (renames (means text_words i m));
    meanings = λ e.
        meanings-after m.meta m.class fine (option_map (new c d) m.class) refl m.tree.arguments m.tree.body
        (neither_left (list_any (text_eq d) m.tree.arguments) _ unnamed) (neither_right (list_any (text_eq d) m.tree.arguments) _ unnamed) loose;
  }

  -- the class of do-its
  doits-home : doit_class j ≡ option_map (new c d) (doit_class i)
  doits-home =
      ap (option_map (λ (e : ClassOf Name). e.name))
      (find-map (after c d) (λ e. text_words.is_undefined_object e.name) (λ e. text_words.is_undefined_object e.name) i.classes
      (all-implies (IsOther c d) _ (λ e k. ap (λ w. text_eq w (new c d e.name)) (sym ready.words_kept.0) ∙ same-after c d (codes "UndefinedObject") e.name ready.new_name.words_other.0 k.name) i.classes ready.new_name.others))
      ∙ by (find (λ (e : ClassOf Name). text_words.is_undefined_object e.name) i.classes)
    where
      by : (o : Option (ClassOf Name)) → option_map (λ (e : ClassOf Name). e.name) (option_map (after c d) o) ≡ option_map (new c d) (option_map (λ (e : ClassOf Name). e.name) o)
      by None = refl
      by (Some e) = refl

  doits-fine : OptionNames (Other c d) (doit_class i)
  doits-fine = by (find (λ (e : ClassOf Name). text_words.is_undefined_object e.name) i.classes) (find-all (IsOther c d) (λ e. text_words.is_undefined_object e.name) i.classes ready.new_name.others)
    where
      by : (o : Option (ClassOf Name)) → OptionNames (IsOther c d) o → OptionNames (Other c d) (option_map (λ (e : ClassOf Name). e.name) o)
      by None k = tt
      by (Some e) k = k.name

  -- a do-it
  doit-changed : (e : DoItOf Name) → is_named_in text_eq d e.body ≡ false → AssignsNothingFixed (means_in_doit text_words i e) e.body → IsChangedDoIt (maps c d) i j e (doit_after text_words writing i c d e)
  doit-changed e unnamed loose = record {
    names = names_of (doit_scope e.body) (renames (means_in_doit text_words i e));
    scope = scope-called (doit_scope e.body) (renames (means_in_doit text_words i e));
    meanings = meanings-after false (doit_class i) doits-fine (doit_class j) doits-home [] e.body refl unnamed loose;
  }

  -- the image
  pub image-changed : IsBehindKernel i → IsChangedImage (maps c d) i j
  image-changed behind = record {
    classes = zip-after (IsChangedClass (maps c d)) (class_after text_words writing i c d) class-changed i.classes;
    methods =
        zip-mapped _ (IsChangedMethod (maps c d) i j) (method_after text_words writing i c d) (λ m k. method-changed m k.0 k.1.0 k.1.1) i.methods
        (all-both (λ (m : EntryOf Name). OptionNames (Other c d) m.class) _ i.methods ready.new_name.homes (all-both (λ (m : EntryOf Name). is_named_in_method text_eq d m ≡ false) (λ (m : EntryOf Name). AssignsNothingFixed (means text_words i m) m.tree.body) i.methods ready.new_name.methods behind.methods));
    doits =
        zip-mapped _ (IsChangedDoIt (maps c d) i j) (doit_after text_words writing i c d) (λ e k. doit-changed e k.0 k.1) i.doits
        (all-both (λ (e : DoItOf Name). is_named_in text_eq d e.body ≡ false) (λ (e : DoItOf Name). AssignsNothingFixed (means_in_doit text_words i e) e.body) i.doits ready.new_name.doits behind.doits);
  }
