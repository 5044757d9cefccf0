-- An instance variable or a class-instance variable that is called by a name that is free in its class and those below.
use Rattle.std.proofs.Common.{◌≡◌, ℕ, List, [], ◌∷◌, ◌++◌, Option, Some, None, slice_get, refl, sym, ap, ◌∙◌, subst}
use Rattle.std.specs.Prelude.{Bool, true, false, if◌then◌else◌, ◌&&◌, ◌||◌, flat_map, is_some}
use Rattle.std.specs.List.{AllByRecursion, list_any}
use Rattle.std.specs.Option.{option_map_or}
use Rattle.std.proofs.lemmas.Bool.{false≢true}
use Rattle.std.proofs.lemmas.List.Folds.{list_any-append}
use Rattle.rb_base.specs.Names.{text_eq}
use Rattle.scope_model.specs.SpecialNames.{is_pseudo_variable}
use Rattle.image_model.specs.Image.{ClassOf, EntryOf, ImageOf}
use Rattle.image_model.specs.ImageNames.{OptionNames}
use Rattle.image_model.specs.Words.{text_words}
use Rattle.image_model.specs.Chain.{class_named, chain_from, chain}
use Rattle.image_model.specs.Means.{VariableKind, of_instance, of_class_side, of_class, variables, MeaningOf, pseudo, argument, temporary, variable, a_class, transcript, undeclared, definer, side_kind, means_outside}
use Rattle.image_model.specs.Uses.{same_kind, is_variable}
use Rattle.image_model.specs.Valid.{HasNoRepeat}
use Rattle.image_model.proofs.Lists.{all-implies}
use Rattle.run_model.specs.Values.{Name}
use Rattle.run_model.specs.Runs.{doit_class}
use Rattle.run_model.proofs.Finite.{by_cases, and-true_left, and-true_right, and-true_both}
use Rattle.run_model.proofs.RenamingLemmas.{text-same}
use Rattle.resolved_model.proofs.LookupLemmas.{everywhere}
use Rattle.mapped_model.specs.NameMaps.{NameMaps}
use Rattle.mapped_model.specs.MappedImages.{class_or_none}
use Rattle.mapped_model.specs.NamesOfImages.{variables_along}
use Rattle.mapped_model.specs.RenamedVariables.{stands_above, renamed_below, with_instance_renamed, with_class_side_renamed, MayBeRenamed}
use Rattle.mapped_model.proofs.NamesOfImagesHold.{named-found, chain-step}
use Rattle.mapped_model.proofs.RenamedVariableLemmas.{at-all}
use Rattle.rename_model.specs.NamesThere.{is_named_in_method}
use Rattle.rename_model.specs.Conditions.{is_user_class, has_variable, defines, stands_below, is_method_below, is_variable_free}
use Rattle.rename_laws.specs.VariablesOnce.{HasVariablesOnce}
use Rattle.rename_laws.proofs.ClassesAfter.{find-nothing}
use Rattle.rename_laws.proofs.OutsideAfter.{meaning_by}
use Rattle.rename_laws.proofs.Unnamed.{neither_left, neither_right, denied, each-fails, variables-lack}
use Rattle.rename_laws.proofs.ChainFacts.{is_on, chain-found, chain-once, user-apart, twice-apart, defined-there, once-definer, chain-free}
use Rattle.rename_laws.proofs.VariableClasses.{kind-same, kind-refl}
use Rattle.rename_laws.proofs.VariableMeanings.{Calls, is_it}
use Rattle.rename_laws.proofs.VariableImages.{on_chain, on-chain-if, MayTake}
use Rattle.rename_laws.proofs.SharedVariable.{shared_maps}

-- the kind of a variable; anything else counts as a class variable
abbrev kind_of : MeaningOf Name → VariableKind
kind_of pseudo = of_class
kind_of (argument s) = of_class
kind_of (temporary s) = of_class
kind_of (variable k d) = k
kind_of (a_class e) = of_class
kind_of transcript = of_class
kind_of undeclared = of_class

-- nothing is among names of which no list has it
flat-none : (n : Name) (kind : VariableKind) (cs : List (ClassOf Name)) → AllByRecursion (λ (e : ClassOf Name). list_any (text_eq n) (variables kind e) ≡ false) cs → list_any (text_eq n) (flat_map (variables kind) cs) ≡ false
flat-none n kind [] a = refl
flat-none n kind (e ∷ es) a = list_any-append (text_eq n) (variables kind e) (flat_map (variables kind) es) ∙ (λ i. a.0 i || flat-none n kind es a.1 i)

module _ (kind : VariableKind) (c : Name) where
  -- a kind that is no class variable's
  abbrev IsOwn : Type 0
  IsOwn = same_kind kind of_class ≡ false

  -- it is told from class variables
  other-kind : {R : Type 0} (g : MeaningOf Name) (d : Name) → IsOwn → kind_of g ≡ of_class → g ≡ variable kind d → R
  other-kind g d own is q = absurd (false≢true (sym own ∙ ap (same_kind kind) (sym is ∙ ap kind_of q) ∙ kind-refl kind))

  -- what means a variable of the kind means that of the class, if this is its definer
  once-by : (meta : Bool) (side shared named : Option (ClassOf Name)) (b : Bool) (d : Name) → IsOwn → (same_kind kind (side_kind meta) ≡ true → OptionNames (λ (e : ClassOf Name). text_eq c e.name ≡ true) side) →
      meaning_by meta side shared named b ≡ variable kind d → is_variable text_eq kind c (meaning_by meta side shared named b) ≡ true
  once-by meta (Some e) shared named b d own h q =
      let s : same_kind kind (side_kind meta) ≡ true = ap (same_kind kind) (ap kind_of q) ∙ kind-refl kind in
      and-true_both (same_kind kind (side_kind meta)) (text_eq c e.name) s (h s)
  once-by meta None (Some e) named b d own h q = other-kind (meaning_by meta None (Some e) named b) d own refl q
  once-by meta None None (Some e) b d own h q = other-kind (meaning_by meta None None (Some e) b) d own refl q
  once-by meta None None None true d own h q = other-kind (meaning_by meta None None None true) d own refl q
  once-by meta None None None false d own h q = other-kind (meaning_by meta None None None false) d own refl q

-- what is mapped where a variable of a kind is renamed
abbrev pub maps_of : ImageOf Name → VariableKind → (c x y : Name) → NameMaps
maps_of i of_instance c x y = with_instance_renamed i c x y
maps_of i of_class_side c x y = with_class_side_renamed i c x y
maps_of i of_class c x y = shared_maps c x y

-- a variable of another kind is called as before, and one of the kind by what the class calls it
calls-by : (i : ImageOf Name) (kind j : VariableKind) (c x y owner d n : Name) → same_kind kind of_class ≡ false → (same_kind kind j ≡ true → renamed_below i c x y (owner, n) ≡ n) → Calls (maps_of i kind c x y) owner j d n n
calls-by i of_instance of_instance c x y owner d n own h = h refl
calls-by i of_instance of_class_side c x y owner d n own h = refl
calls-by i of_instance of_class c x y owner d n own h = refl
calls-by i of_class_side of_instance c x y owner d n own h = refl
calls-by i of_class_side of_class_side c x y owner d n own h = h refl
calls-by i of_class_side of_class c x y owner d n own h = refl
calls-by i of_class j c x y owner d n own h = absurd (false≢true (sym own))

-- the variable itself
calls-new : (i : ImageOf Name) (kind : VariableKind) (c x y owner n : Name) → same_kind kind of_class ≡ false → renamed_below i c x y (owner, n) ≡ y → Calls (maps_of i kind c x y) owner kind c n y
calls-new i of_instance c x y owner n own h = h
calls-new i of_class_side c x y owner n own h = h
calls-new i of_class c x y owner n own h = absurd (false≢true (sym own))

module _ (i : ImageOf Name) (kind : VariableKind) (c x y : Name) (own : same_kind kind of_class ≡ false) (sound : HasVariablesOnce kind i) (user : is_user_class text_eq i c ≡ true) (has : has_variable text_eq i kind c x ≡ true) (free : is_variable_free text_eq i c y ≡ true) (proper : is_pseudo_variable y ≡ false) where
  -- the parts of what is asked of the new name
  taken : (list_any (defines text_eq y) (chain text_eq i.classes (Some c)) || (list_any (λ e. stands_below text_eq i.classes c e && defines text_eq y e) i.classes || list_any (λ m. is_method_below text_eq i.classes c m && is_named_in_method text_eq y m) i.methods)) ≡ false
  taken = denied _ (and-true_right (is_some (class_named text_eq i.classes c)) _ free)

  rest : (list_any (λ e. stands_below text_eq i.classes c e && defines text_eq y e) i.classes || list_any (λ m. is_method_below text_eq i.classes c m && is_named_in_method text_eq y m) i.methods) ≡ false
  rest = neither_right (list_any (defines text_eq y) (chain text_eq i.classes (Some c))) _ taken

  -- no class defines it on a chain on which the class stands
  chains : (o : Option Name) → on_chain i c o ≡ true → AllByRecursion (λ (e : ClassOf Name). (k : VariableKind) → list_any (text_eq y) (variables k e) ≡ false) (chain text_eq i.classes o)
  chains o on =
      all-implies (λ (e : ClassOf Name). defines text_eq y e ≡ false) _ (λ e h. variables-lack y e h) (chain text_eq i.classes o)
      (chain-free i sound.ordered c y (neither_left (list_any (defines text_eq y) (chain text_eq i.classes (Some c))) _ taken) (neither_left (list_any (λ e. stands_below text_eq i.classes c e && defines text_eq y e) i.classes) _ rest) o on)

  -- no method below has it
  methods : AllByRecursion (λ (m : EntryOf Name). on_chain i c m.class ≡ true → is_named_in_method text_eq y m ≡ false) i.methods
  methods =
      all-implies _ _ (λ m h on. sym (ap (λ b. b && is_named_in_method text_eq y m) on) ∙ h) i.methods
      (each-fails (λ m. is_method_below text_eq i.classes c m && is_named_in_method text_eq y m) i.methods (neither_right (list_any (λ e. stands_below text_eq i.classes c e && defines text_eq y e) i.classes) _ rest))

  -- do-its do not stand below
  doits-apart : on_chain i c (doit_class i) ≡ false
  doits-apart = user-apart i c user (chain text_eq i.classes (doit_class i)) (chain-found i.classes (doit_class i)) sound.doits

  -- where the class stands above
  unnamed-class : class_named text_eq i.classes [] ≡ None
  unnamed-class =
      find-nothing (λ (e : ClassOf Name). text_eq [] e.name) i.classes
      (all-implies _ _ (λ e h. by_cases (text_eq [] e.name) (λ t. absurd (h (sym (text-same [] e.name t)))) (λ t. t)) i.classes sound.ordered.named)

  above-home : (o : Option Name) → stands_above i c (class_or_none o) ≡ on_chain i c o
  above-home (Some n) = refl
  above-home None = ap (λ q. is_on c (chain_from text_eq i.classes q)) unnamed-class

  -- on a chain on which the class stands, only it defines the old name
  only : (o : Option Name) (meta : Bool) (d : Name) → on_chain i c o ≡ true → means_outside text_words i o meta x ≡ variable kind d → is_variable text_eq kind c (means_outside text_words i o meta x) ≡ true
  only o meta d on q =
      once-by kind c meta (definer text_eq (side_kind meta) (chain text_eq i.classes o) x) (definer text_eq of_class (chain text_eq i.classes o) x) (class_named text_eq i.classes x) (text_words.is_transcript x) d own
      (λ s. subst (λ k. OptionNames (λ (e : ClassOf Name). text_eq c e.name ≡ true) (definer text_eq k (chain text_eq i.classes o) x)) (kind-same kind (side_kind meta) s) found) q
    where
      found : OptionNames (λ (e : ClassOf Name). text_eq c e.name ≡ true) (definer text_eq kind (chain text_eq i.classes o) x)
      found =
          once-definer kind c x (chain text_eq i.classes o) (chain-once i.classes kind sound.once o)
          (defined-there kind c x i has (chain text_eq i.classes o) (chain-found i.classes o) on)

  -- a variable that is not the one is called as before
  below-kept : (o : Option Name) (meta : Bool) (n : Name) → is_it kind c x (means_outside text_words i o meta n) n ≡ false → (j : VariableKind) (d : Name) → means_outside text_words i o meta n ≡ variable j d → same_kind kind j ≡ true → renamed_below i c x y (class_or_none o, n) ≡ n
  below-kept o meta n e j d q s =
      ap (λ b. if b && text_eq x n then y else n) (above-home o)
      ∙ by_cases (on_chain i c o)
      (λ on. by_cases (text_eq x n)
      (λ t.
      let same : n ≡ x = sym (text-same x n t) in
      let it : is_variable text_eq kind c (means_outside text_words i o meta n) ≡ true =
      ap (λ z. is_variable text_eq kind c (means_outside text_words i o meta z)) same
      ∙ only o meta d on (ap (means_outside text_words i o meta) (sym same) ∙ q ∙ ap (λ k. variable k d) (sym (kind-same kind j s))) in
      absurd (false≢true (sym e ∙ and-true_both (text_eq x n) _ t it)))
      (λ t. λ k. if on k && t k then y else n))
      (λ on. ap (λ b. if b && text_eq x n then y else n) on)

  -- so the variable may take the name
  pub own-may : MayTake (maps_of i kind c x y) i kind c x y
  own-may = record {
    proper = proper;
    chains = chains;
    methods = methods;
    doits = everywhere _ (λ d on. absurd (false≢true (sym doits-apart ∙ on))) i.doits;
    kept = λ o meta n r e j d q. calls-by i kind j c x y (class_or_none o) d n own (below-kept o meta n e j d q);
    calls = λ o meta n e.
        let on : on_chain i c o ≡ true = on-chain-if i kind c x y o meta n (and-true_right (text_eq x n) _ e) in
        calls-new i kind c x y (class_or_none o) n own (λ k. if (above-home o ∙ on) k && and-true_left (text_eq x n) (is_variable text_eq kind c (means_outside text_words i o meta n)) e k then y else n);
  }

  -- the class itself defines the old name
  defined : (j : ℕ) (e : ClassOf Name) → slice_get i.classes j ≡ Some e → c ≡ e.name → list_any (text_eq x) (variables kind e) ≡ true
  defined j e at q =
      sym (ap (λ o. option_map_or (λ (z : ClassOf Name). list_any (text_eq x) (variables kind z)) o false) (ap (class_named text_eq i.classes) q ∙ named-found i sound.ordered i.classes sound.ordered.distinct j e at)) ∙ has

  -- and its superclass has no variable of it, nor has the class or one below one of the new name
  pub may-be-renamed : MayBeRenamed i kind c x y
  may-be-renamed = record {
    defined =
        at-all _ i.classes
        (λ j e at d q s t.
        twice-apart x (variables kind e) (variables_along i kind d)
        (subst (λ o. HasNoRepeat (variables kind e ++ flat_map (variables kind) (chain text_eq i.classes o))) s
        (subst (λ cs. HasNoRepeat (flat_map (variables kind) cs)) (chain-step i sound.ordered j e at) (chain-once i.classes kind sound.once (Some e.name))))
        (defined j e at q) t);
    free = λ d on t. false≢true (sym (flat-none y kind (chain text_eq i.classes (Some d)) (all-implies _ _ (λ e h. h kind) (chain text_eq i.classes (Some d)) (chains (Some d) on))) ∙ t);
  }
