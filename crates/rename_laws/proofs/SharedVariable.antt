-- A class variable that is called by a name that nothing has.
use Rattle.std.proofs.Common.{◌≡◌, Option, refl, sym, ap, ◌∙◌}
use Rattle.std.specs.Prelude.{Bool, true, false, if◌then◌else◌, ◌&&◌, ◌||◌}
use Rattle.std.specs.List.{list_any}
use Rattle.std.proofs.lemmas.Bool.{false≢true}
use Rattle.rb_base.specs.Names.{text_eq}
use Rattle.rb_base.proofs.NamesLemmas.{text_eq-refl}
use Rattle.scope_model.specs.SpecialNames.{is_pseudo_variable}
use Rattle.image_model.specs.Image.{DoItOf, ImageOf}
use Rattle.image_model.specs.Words.{text_words}
use Rattle.image_model.specs.Means.{VariableKind, of_instance, of_class_side, of_class, variable, means_outside}
use Rattle.image_model.specs.Uses.{is_variable}
use Rattle.image_model.proofs.Lists.{all-implies}
use Rattle.run_model.specs.Values.{Name}
use Rattle.run_model.specs.Store.{same_pair}
use Rattle.run_model.specs.Renamings.{OfClass}
use Rattle.run_model.proofs.Finite.{by_cases, and-true_left, and-true_both}
use Rattle.run_model.proofs.RenamingLemmas.{pair-same, pair-refl}
use Rattle.mapped_model.specs.NameMaps.{NameMaps}
use Rattle.mapped_model.specs.MappedImages.{class_or_none}
use Rattle.mapped_model.specs.RenamedVariables.{same_names}
use Rattle.rename_model.specs.NamesThere.{is_named_in, is_named_in_method, is_named_by_class, is_named}
use Rattle.rename_model.specs.Conditions.{is_name_unused}
use Rattle.rename_laws.proofs.Unnamed.{neither_left, neither_right, denied, each-fails, class-lacks}
use Rattle.rename_laws.proofs.ChainFacts.{chain-all}
use Rattle.rename_laws.proofs.VariableOutside.{and-false_right}
use Rattle.rename_laws.proofs.VariableMeanings.{Calls, is_it}
use Rattle.rename_laws.proofs.VariableImages.{on_chain, on-chain-if, MayTake}

module _ (c x y : Name) where
  -- what class variables are called after: the two names of the class are exchanged, so that no two become one
  abbrev pub exchanged : OfClass → OfClass
  exchanged k = if same_pair (c, x) k then (c, y) else if same_pair (c, y) k then (c, x) else k

  abbrev pub shared_maps : NameMaps
  shared_maps = record same_names { shared = exchanged }

  -- the old name
  exchanged-old : (k : OfClass) → same_pair (c, x) k ≡ true → exchanged k ≡ (c, y)
  exchanged-old k e = ap (λ b. if b then (c, y) else if same_pair (c, y) k then (c, x) else k) e

  -- the new one, where it is not the old one
  exchanged-new : (k : OfClass) → same_pair (c, x) k ≡ false → same_pair (c, y) k ≡ true → exchanged k ≡ (c, x)
  exchanged-new k e h = (λ i. if e i then (c, y) else if h i then (c, x) else k)

  -- any other
  exchanged-other : (k : OfClass) → same_pair (c, x) k ≡ false → same_pair (c, y) k ≡ false → exchanged k ≡ k
  exchanged-other k e h = (λ i. if e i then (c, y) else if h i then (c, x) else k)

  -- names that are exchanged twice are as before
  exchanged-twice : (k : OfClass) → exchanged (exchanged k) ≡ k
  exchanged-twice k =
      by_cases (same_pair (c, x) k)
      (λ e.
      ap exchanged (exchanged-old k e)
      ∙ by_cases (same_pair (c, x) (c, y))
      (λ h. exchanged-old (c, y) h ∙ sym (pair-same (c, x) (c, y) h) ∙ pair-same (c, x) k e)
      (λ h. exchanged-new (c, y) h (pair-refl (c, y)) ∙ pair-same (c, x) k e))
      (λ e. by_cases (same_pair (c, y) k)
      (λ h. ap exchanged (exchanged-new k e h) ∙ exchanged-old (c, x) (pair-refl (c, x)) ∙ pair-same (c, y) k h)
      (λ h. ap exchanged (exchanged-other k e h) ∙ exchanged-other k e h))

  pub exchanged-apart : (k l : OfClass) → exchanged k ≡ exchanged l → k ≡ l
  exchanged-apart k l e = sym (exchanged-twice k) ∙ ap exchanged e ∙ exchanged-twice l

module _ (i : ImageOf Name) (c x y : Name) (proper : is_pseudo_variable y ≡ false) (unused : is_name_unused text_eq i y ≡ true) where
  -- nothing has the new name
  unnamed : is_named text_eq i y ≡ false
  unnamed = denied (is_named text_eq i y) unused

  no_code : (list_any (is_named_in_method text_eq y) i.methods || list_any (λ (d : DoItOf Name). is_named_in text_eq y d.body) i.doits) ≡ false
  no_code = neither_right (list_any (is_named_by_class text_eq y) i.classes) _ unnamed

  -- a variable that is not the one is called as before
  other-kept : (o : Option Name) (meta : Bool) (n : Name) → (on_chain i c o ≡ true → text_eq y n ≡ false) → is_it of_class c x (means_outside text_words i o meta n) n ≡ false → (d : Name) → means_outside text_words i o meta n ≡ variable of_class d → exchanged c x y (d, n) ≡ (d, n)
  other-kept o meta n r e d q =
      let told : (text_eq x n && text_eq c d) ≡ false = sym (ap (λ g. is_it of_class c x g n) q) ∙ e in
      by_cases (text_eq c d)
      (λ t.
      let on : on_chain i c o ≡ true = on-chain-if i of_class c x y o meta n (ap (is_variable text_eq of_class c) q ∙ t) in
      exchanged-other c x y (d, n)
      (and-false_right (text_eq c d) (text_eq x n) (by_cases (text_eq x n) (λ s. absurd (false≢true (sym told ∙ and-true_both (text_eq x n) (text_eq c d) s t))) (λ s. s)))
      (and-false_right (text_eq c d) (text_eq y n) (r on)))
      (λ t. exchanged-other c x y (d, n) (ap (λ b. b && text_eq x n) t) (ap (λ b. b && text_eq y n) t))

  kept : (o : Option Name) (meta : Bool) (n : Name) → (on_chain i c o ≡ true → text_eq y n ≡ false) → is_it of_class c x (means_outside text_words i o meta n) n ≡ false → (j : VariableKind) (d : Name) → means_outside text_words i o meta n ≡ variable j d → Calls (shared_maps c x y) (class_or_none o) j d n n
  kept o meta n r e of_instance d q = refl
  kept o meta n r e of_class_side d q = refl
  kept o meta n r e of_class d q = other-kept o meta n r e d q

  -- so the variable may take it
  pub shared-may : MayTake (shared_maps c x y) i of_class c x y
  shared-may = record {
    proper = proper;
    chains = λ o on. chain-all i.classes _ (all-implies _ _ (λ e h. class-lacks c y e h) i.classes (each-fails (is_named_by_class text_eq y) i.classes (neither_left (list_any (is_named_by_class text_eq y) i.classes) _ unnamed))) o;
    methods = all-implies _ _ (λ m h on. h) i.methods (each-fails (is_named_in_method text_eq y) i.methods (neither_left (list_any (is_named_in_method text_eq y) i.methods) _ no_code));
    doits =
        all-implies _ _ (λ d h on. h) i.doits
        (each-fails (λ (d : DoItOf Name). is_named_in text_eq y d.body) i.doits (neither_right (list_any (is_named_in_method text_eq y) i.methods) _ no_code));
    kept = kept;
    calls = λ o meta n e. exchanged-old c x y (c, n) (and-true_both (text_eq c c) (text_eq x n) (text_eq-refl c) (and-true_left (text_eq x n) _ e));
  }
