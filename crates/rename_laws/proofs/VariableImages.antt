-- The image after a variable has a new name is one with changed names, and these mean what they meant before.
use Rattle.std.proofs.Common.{◌≡◌, ℕ, List, [], Option, Some, None, refl, sym, ap, ◌∙◌, subst}
use Rattle.std.specs.Prelude.{Bool, true, false, if◌then◌else◌, ◌&&◌, find, option_map}
use Rattle.std.specs.List.{AllByRecursion, list_any}
use Rattle.std.specs.Option.{option_map_or}
use Rattle.std.proofs.lemmas.Bool.{false≢true}
use Rattle.rb_base.specs.Names.{text_eq}
use Rattle.tree_model.specs.Tree.{TreeOf, SequenceOf}
use Rattle.tree_model.specs.Path.{part_in}
use Rattle.scope_model.specs.declared.local.Local.TheVariants.{NotLocal}
use Rattle.scope_model.specs.SpecialNames.{is_pseudo_variable}
use Rattle.scope_model.specs.Scope.{ScopeOf, method_scope, doit_scope, scopes_round, local_by}
use Rattle.image_model.specs.Image.{ClassOf, EntryOf, DoItOf, ImageOf}
use Rattle.image_model.specs.Words.{text_words}
use Rattle.image_model.specs.Chain.{chain}
use Rattle.image_model.specs.Means.{VariableKind, variables, MeaningOf, variable, means, means_in_doit, means_outside}
use Rattle.image_model.specs.Uses.{is_variable, name_used}
use Rattle.image_model.proofs.Lists.{find-map}
use Rattle.run_model.specs.Values.{Name}
use Rattle.run_model.specs.Runs.{doit_class}
use Rattle.run_model.proofs.Finite.{by_cases, and-true_left, and-true_right}
use Rattle.run_model.proofs.RenamingLemmas.{text-same}
use Rattle.resolved_model.specs.Resolving.{place_at}
use Rattle.resolved_model.proofs.LookupLemmas.{everywhere}
use Rattle.mapped_model.specs.NameMaps.{NameMaps}
use Rattle.mapped_model.specs.MappedImages.{class_or_none}
use Rattle.mapped_model.specs.ChangedTrees.{changed_scope, MeaningsAreMapped}
use Rattle.mapped_model.specs.ChangedImages.{IsChangedClass, IsChangedMethod, IsChangedDoIt, IsChangedImage}
use Rattle.rename_model.specs.NamesThere.{declared_by, is_named_in, is_named_in_method}
use Rattle.rename_model.specs.Renamed.{NewName}
use Rattle.rename_model.specs.ClassRenamed.{WritingOf}
use Rattle.rename_model.specs.VariableRenamed.{class_after, method_after, doit_after, variable_renamed}
use Rattle.rename_laws.proofs.Zips.{zip-mapped, zip-after}
use Rattle.rename_laws.proofs.Unnamed.{neither_left, neither_right, each-fails, node-unnamed, declared-other}
use Rattle.rename_laws.proofs.Undeclared.{no-local}
use Rattle.rename_laws.proofs.ScopesAfter.{renamed_scope}
use Rattle.rename_laws.proofs.TreesAfter.{names_of, scope-called}
use Rattle.rename_laws.proofs.MeaningsAfter.{meaning_at}
use Rattle.rename_laws.proofs.VariableClasses.{after, keeps-hierarchy}
use Rattle.rename_laws.proofs.VariableOutside.{other-stays, apart-stays, old-stays, new-means, apart-means}
use Rattle.rename_laws.proofs.VariableMeanings.{Calls, is_it, meanings-after}

-- whether a class stands on the chain of a class that there may be
abbrev pub on_chain : ImageOf Name → Name → Option Name → Bool
on_chain i c o = list_any (λ (e : ClassOf Name). text_eq c e.name) (chain text_eq i.classes o)

-- A variable of a kind may take a new name, and maps call variables so: below the class no class defines the name and no code has it; and what means the variable is called by the new name, what means another as before.
pub record MayTake (f : NameMaps) (i : ImageOf Name) (kind : VariableKind) (c x y : Name) : Type 0 where
  pub proper : is_pseudo_variable y ≡ false
  pub chains : (o : Option Name) → on_chain i c o ≡ true → AllByRecursion (λ (e : ClassOf Name). (k : VariableKind) → list_any (text_eq y) (variables k e) ≡ false) (chain text_eq i.classes o)
  pub methods : AllByRecursion (λ (m : EntryOf Name). on_chain i c m.class ≡ true → is_named_in_method text_eq y m ≡ false) i.methods
  pub doits : AllByRecursion (λ (d : DoItOf Name). on_chain i c (doit_class i) ≡ true → is_named_in text_eq y d.body ≡ false) i.doits
  pub kept : (o : Option Name) (meta : Bool) (n : Name) → (on_chain i c o ≡ true → text_eq y n ≡ false) → is_it kind c x (means_outside text_words i o meta n) n ≡ false →
      (j : VariableKind) (d : Name) → means_outside text_words i o meta n ≡ variable j d → Calls f (class_or_none o) j d n n
  pub calls : (o : Option Name) (meta : Bool) (n : Name) → is_it kind c x (means_outside text_words i o meta n) n ≡ true → Calls f (class_or_none o) kind c n y

-- no chain has the variable without the class
pub on-chain-if : (i : ImageOf Name) (kind : VariableKind) (c x y : Name) (home : Option Name) (meta : Bool) (n : Name) → is_variable text_eq kind c (means_outside text_words i home meta n) ≡ true → on_chain i c home ≡ true
on-chain-if i kind c x y home meta n v =
    by_cases (on_chain i c home) (λ t. t) (λ t. absurd (false≢true (sym (apart-means kind c x y meta i.classes home (each-fails (λ (e : ClassOf Name). text_eq c e.name) (chain text_eq i.classes home) t) n) ∙ v)))

module _ (writing : WritingOf Name) (i : ImageOf Name) (kind : VariableKind) (c x y : Name) (f : NameMaps) (classes : (e : Name) → f.class e ≡ e) (selectors : f.selector ≡ (λ s. s)) (may : MayTake f i kind c x y) where
  -- the image after
  abbrev j : ImageOf Name
  j = variable_renamed text_words writing i kind c x y

  -- what a name becomes by what it means
  abbrev renames : (List ℕ → Name → MeaningOf Name) → NewName Name
  renames at path n = if is_it kind c x (at path n) n then y else n

  -- code of a class that there may be, on a side of it
  module _ (meta : Bool) (home later : Option Name) (so : later ≡ home) where
    -- what names mean behind all scopes
    abbrev before : Name → MeaningOf Name
    before n = means_outside text_words i home meta n

    abbrev afterwards : Name → MeaningOf Name
    afterwards n = means_outside text_words j later meta n

    -- names that may stand in the code
    abbrev Readable : Name → Type 0
    Readable n = on_chain i c home ≡ true → text_eq y n ≡ false

    at-home : (n : Name) → afterwards n ≡ means_outside text_words j home meta n
    at-home n = ap (λ h. means_outside text_words j h meta n) so

    -- what does not mean the variable means the same
    stays : (n : Name) → Readable n → is_it kind c x (before n) n ≡ false → afterwards n ≡ before n
    stays n r e =
        at-home n
        ∙ by_cases (on_chain i c home)
        (λ t. by_cases (text_eq x n)
        (λ s.
        let same : x ≡ n = text-same x n s in
        subst (λ z. means_outside text_words j home meta z ≡ before z) same
        (old-stays kind c x y meta i.classes home (ap (λ z. is_variable text_eq kind c (before z)) same ∙ sym (ap (λ b. b && is_variable text_eq kind c (before n)) s) ∙ e)))
        (λ s. other-stays kind c x y meta i.classes home n s (r t)))
        (λ t. apart-stays kind c x y meta i.classes home (each-fails (λ (k : ClassOf Name). text_eq c k.name) (chain text_eq i.classes home) t) n)

    -- where a name means it, the class stands on the chain
    on : (n : Name) → is_it kind c x (before n) n ≡ true → on_chain i c home ≡ true
    on n e = on-chain-if i kind c x y home meta n (and-true_right (text_eq x n) (is_variable text_eq kind c (before n)) e)

    -- and the new name means it after
    anew : (n : Name) → is_it kind c x (before n) n ≡ true → afterwards y ≡ before n
    anew n e =
        let same : x ≡ n = text-same x n (and-true_left (text_eq x n) (is_variable text_eq kind c (before n)) e) in
        at-home y
        ∙ new-means kind c x y meta i.classes home (may.chains home (on n e)) (ap (λ z. is_variable text_eq kind c (before z)) same ∙ and-true_right (text_eq x n) (is_variable text_eq kind c (before n)) e)
        ∙ ap before same

    -- a sequence with arguments, in which the new name does not stand
    module _ (arguments : List Name) (b : SequenceOf Name) (lacks : on_chain i c home ≡ true → list_any (text_eq y) arguments ≡ false) (unnamed : on_chain i c home ≡ true → is_named_in text_eq y b ≡ false) where
      abbrev code : ScopeOf Name
      code = record { arguments = arguments; temporaries = b.temporaries; statements = b.statements }

      -- the new name is no local there
      free : (n : Name) → is_it kind c x (before n) n ≡ true → (path : List ℕ) → local_by text_eq (scopes_round code path) y ≡ NotLocal
      free n e path =
          no-local y code (lacks (on n e)) (neither_left (list_any (text_eq y) b.temporaries) _ (unnamed (on n e))) (λ p u q. declared-other c y u (node-unnamed c y b (unnamed (on n e)) p u q)) path

      -- what a node reads or assigns is another name
      fine : (path : List ℕ) (u : TreeOf Name) (n : Name) → part_in b path ≡ Some u → name_used u ≡ Some n → Readable n
      fine path u n q e t =
          sym (ap (λ o. option_map_or (text_eq y) o false) e) ∙ neither_left (option_map_or (text_eq y) (name_used u) false) (list_any (text_eq y) (declared_by u)) (node-unnamed c y b (unnamed t) path u q)

      -- what names mean is mapped
      pub meanings-of : MeaningsAreMapped f (class_or_none home) (names_of code (renames (meaning_at code before))) code (λ path n. record { meaning = meaning_at code before path n; place = place_at code path n })
          (λ path n. record { meaning = meaning_at (renamed_scope (renames (meaning_at code before)) code) afterwards path n; place = place_at (renamed_scope (renames (meaning_at code before)) code) path n })
      meanings-of = meanings-after kind c x y f classes (class_or_none home) code before afterwards Readable may.proper stays anew free (may.kept home meta) (may.calls home meta) fine

  -- a name that there may be
  any-class : (o : Option Name) → o ≡ option_map f.class o
  any-class (Some e) = ap Some (sym (classes e))
  any-class None = refl

  -- a scope with changed names and the same selectors
  scope-changed : (s : ScopeOf Name) (to : NewName Name) → renamed_scope to s ≡ changed_scope (names_of s to) f.selector s
  scope-changed s to = scope-called s to ∙ ap (λ g. changed_scope (names_of s to) g s) (sym selectors)

  -- a class
  class-changed : (e : ClassOf Name) → IsChangedClass f e (class_after text_words writing i kind c x y e)
  class-changed e = record { name = (keeps-hierarchy kind c x y e).name ∙ sym (classes e.name); superclass = (keeps-hierarchy kind c x y e).superclass ∙ any-class e.superclass }

  -- a method
  method-changed : (m : EntryOf Name) → (on_chain i c m.class ≡ true → is_named_in_method text_eq y m ≡ false) → IsChangedMethod f i j m (method_after text_words writing i kind c x y m)
  method-changed m unnamed = record {
    class = any-class m.class;
    meta = refl;
    selector = λ k. sym selectors k m.tree.selector;
    primitive = refl;
    names = names_of (method_scope m.tree) (renames (means text_words i m));
    scope = λ e. scope-changed (method_scope m.tree) (renames (means text_words i m));
    meanings = λ e.
        meanings-of m.meta m.class m.class refl m.tree.arguments m.tree.body (λ t. neither_left (list_any (text_eq y) m.tree.arguments) _ (unnamed t)) (λ t. neither_right (list_any (text_eq y) m.tree.arguments) _ (unnamed t));
  }

  -- the class of do-its
  doits-home : doit_class j ≡ doit_class i
  doits-home =
      ap (option_map (λ (e : ClassOf Name). e.name))
      (find-map (after kind c x y) (λ e. text_words.is_undefined_object e.name) (λ e. text_words.is_undefined_object e.name) i.classes
      (everywhere _ (λ e. ap text_words.is_undefined_object (keeps-hierarchy kind c x y e).name) i.classes))
      ∙ by (find (λ (e : ClassOf Name). text_words.is_undefined_object e.name) i.classes)
    where
      by : (o : Option (ClassOf Name)) → option_map (λ (e : ClassOf Name). e.name) (option_map (after kind c x y) o) ≡ option_map (λ (e : ClassOf Name). e.name) o
      by None = refl
      by (Some e) = ap Some (keeps-hierarchy kind c x y e).name

  -- a do-it
  doit-changed : (d : DoItOf Name) → (on_chain i c (doit_class i) ≡ true → is_named_in text_eq y d.body ≡ false) → IsChangedDoIt f i j d (doit_after text_words writing i kind c x y d)
  doit-changed d unnamed = record {
    names = names_of (doit_scope d.body) (renames (means_in_doit text_words i d));
    scope = scope-changed (doit_scope d.body) (renames (means_in_doit text_words i d));
    meanings = meanings-of false (doit_class i) (doit_class j) doits-home [] d.body (λ t. refl) unnamed;
  }

  -- the image
  pub image-changed : IsChangedImage f i j
  image-changed = record {
    classes = zip-after (IsChangedClass f) (class_after text_words writing i kind c x y) class-changed i.classes;
    methods = zip-mapped _ (IsChangedMethod f i j) (method_after text_words writing i kind c x y) method-changed i.methods may.methods;
    doits = zip-mapped _ (IsChangedDoIt f i j) (doit_after text_words writing i kind c x y) doit-changed i.doits may.doits;
  }
