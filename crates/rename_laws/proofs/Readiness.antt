-- What the conditions of renaming a class say of the classes and the code of an image.
use Rattle.std.proofs.Common.{◌≡◌, [], Option, Some, None, refl, sym, ap, ◌∙◌, subst}
use Rattle.std.specs.Prelude.{true, false, not, ◌||◌, ◌≢◌, IsTrue, nat_le, length}
use Rattle.std.specs.List.{AllByRecursion, list_any}
use Rattle.std.specs.Option.{option_map_or}
use Rattle.std.proofs.lemmas.Bool.{false≢true}
use Rattle.rb_base.specs.Names.{text_eq}
use Rattle.text_model.specs.Literals.{is_identifier}
use Rattle.scope_model.specs.SpecialNames.{is_pseudo_variable}
use Rattle.image_model.specs.Image.{ClassOf, EntryOf, DoItOf, ImageOf}
use Rattle.image_model.specs.ImageNames.{OptionNames}
use Rattle.image_model.specs.Chain.{class_named}
use Rattle.image_model.specs.Valid.{HasClass, class_names}
use Rattle.image_model.proofs.Lists.{all-implies, all-map, find-all}
use Rattle.run_model.specs.Values.{Name}
use Rattle.run_model.specs.ObjectPrimitives.{value_classes}
use Rattle.run_model.proofs.Finite.{by_cases, and-true_left, and-true_right}
use Rattle.run_model.proofs.RenamingLemmas.{text-same}
use Rattle.rename_model.specs.NamesThere.{is_named_in, is_named_in_method, is_named_by_class, is_named}
use Rattle.rename_model.specs.CommandWords.{begins_upper, may_be_declared, is_good_class_name}
use Rattle.rename_model.specs.Conditions.{is_user_class, is_name_unused}
use Rattle.rename_laws.specs.BehindKernel.{is_kernel_class, IsBehindKernel}
use Rattle.rename_laws.proofs.NewNames.{new, Other, new-other}
use Rattle.rename_laws.proofs.ClassesAfter.{IsOther}
use Rattle.rename_laws.proofs.OutsideAfter.{find-passes}
use Rattle.rename_laws.proofs.Unnamed.{neither_left, neither_right, denied, each-fails, fact-of, classes-other}

-- no class, method or do-it has the new name
pub record IsNewName (i : ImageOf Name) (c d : Name) : Type 0 where
  pub others : AllByRecursion (IsOther c d) i.classes
  pub nothing : Other c d []
  pub words_other : AllByRecursion (Other c d) value_classes
  pub homes : AllByRecursion (λ (m : EntryOf Name). OptionNames (Other c d) m.class) i.methods
  pub methods : AllByRecursion (λ (m : EntryOf Name). is_named_in_method text_eq d m ≡ false) i.methods
  pub doits : AllByRecursion (λ (e : DoItOf Name). is_named_in text_eq d e.body ≡ false) i.doits

-- so it is, and the class is one of the image
pub record IsReady (i : ImageOf Name) (c d : Name) : Type 0 where
  pub new_name : IsNewName i c d
  pub user : ClassOf Name
  pub found : class_named text_eq i.classes c ≡ Some user
  pub named : c ≢ []
  pub other : Other c d c
  pub proper : is_pseudo_variable d ≡ false
  pub words_kept : AllByRecursion (λ n. new c d n ≡ n) value_classes

-- the user's class that there is
user-there : (o : Option (ClassOf Name)) → option_map_or (λ (e : ClassOf Name). not e.kernel) o false ≡ true → (e : ClassOf Name) × (o ≡ Some e) × (e.kernel ≡ false)
user-there None h = absurd (false≢true h)
user-there (Some e) h = (e, refl, denied e.kernel h)

-- the class of the kernel that there is
kernel-there : (o : Option (ClassOf Name)) → option_map_or (λ (e : ClassOf Name). e.kernel) o false ≡ true → (e : ClassOf Name) × (o ≡ Some e)
kernel-there None h = absurd (false≢true h)
kernel-there (Some e) h = (e, refl)

-- a name that begins with a letter is not empty
begun : (d : Name) → begins_upper d ≡ true → text_eq d [] ≡ false
begun d h = by_cases (text_eq d []) (λ e. absurd (false≢true (ap begins_upper (sym (text-same d [] e)) ∙ h))) (λ e. e)

module _ (i : ImageOf Name) (c d : Name) (behind : IsBehindKernel i) (good : is_good_class_name d ≡ true) (unused : is_name_unused text_eq i d ≡ true) where
  -- the new name is used by no class and by no code
  unnamed : is_named text_eq i d ≡ false
  unnamed = denied (is_named text_eq i d) unused

  no_class : list_any (is_named_by_class text_eq d) i.classes ≡ false
  no_class = neither_left (list_any (is_named_by_class text_eq d) i.classes) _ unnamed

  no_code : (list_any (is_named_in_method text_eq d) i.methods || list_any (λ (e : DoItOf Name). is_named_in text_eq d e.body) i.doits) ≡ false
  no_code = neither_right (list_any (is_named_by_class text_eq d) i.classes) _ unnamed

  others : AllByRecursion (IsOther c d) i.classes
  others = classes-other c d i.classes behind.ordered.before no_class

  -- what is asked of the new name
  begins : begins_upper d ≡ true
  begins = and-true_right (may_be_declared d) (begins_upper d) good

  ordinary : is_pseudo_variable d ≡ false
  ordinary = neither_left (is_pseudo_variable d) _ (denied _ (and-true_right (is_identifier d) _ (and-true_right (nat_le (length d) 200) _ (and-true_left (may_be_declared d) (begins_upper d) good))))

  -- the class is found by its name
  found-other : (n : Name) (e : ClassOf Name) → class_named text_eq i.classes n ≡ Some e → Other c d n
  found-other n e q =
      let passes : text_eq n e.name ≡ true = subst (OptionNames (λ (x : ClassOf Name). text_eq n x.name ≡ true)) q (find-passes (λ x. text_eq n x.name) i.classes) in
      let one : IsOther c d e = subst (OptionNames (IsOther c d)) q (find-all (IsOther c d) (λ x. text_eq n x.name) i.classes others) in
      subst (Other c d) (sym (text-same n e.name passes)) one.name

  -- a class of the kernel has another name
  word-other : (n : Name) → is_kernel_class i n ≡ true → Other c d n
  word-other n h = let there = kernel-there (class_named text_eq i.classes n) h in found-other n there.0 there.1

  -- the class of a method
  home-other : (m : EntryOf Name) → HasClass i.classes m → OptionNames (Other c d) m.class
  home-other m h = subst (OptionNames (Other c d)) (sym h.1) (fact-of (Other c d) (class_names i.classes) h.0 (all-map (Other c d) (λ (e : ClassOf Name). e.name) i.classes (all-implies (IsOther c d) (λ (e : ClassOf Name). Other c d e.name) (λ e k. k.name) i.classes others)) h.2)

  pub is_new : IsNewName i c d
  is_new = record {
    others = others;
    nothing = begun d begins;
    words_other = all-implies (λ n. IsTrue (is_kernel_class i n)) (Other c d) word-other value_classes behind.words;
    homes = all-implies (HasClass i.classes) (λ (m : EntryOf Name). OptionNames (Other c d) m.class) home-other i.methods behind.classes_there;
    methods = each-fails (is_named_in_method text_eq d) i.methods (neither_left (list_any (is_named_in_method text_eq d) i.methods) _ no_code);
    doits = each-fails (λ (e : DoItOf Name). is_named_in text_eq d e.body) i.doits (neither_right (list_any (is_named_in_method text_eq d) i.methods) _ no_code);
  }

  module _ (is_user : is_user_class text_eq i c ≡ true) where
    -- the class
    user : (e : ClassOf Name) × (class_named text_eq i.classes c ≡ Some e) × (e.kernel ≡ false)
    user = user-there (class_named text_eq i.classes c) is_user

    -- its name
    called : c ≡ user.0.name
    called = text-same c user.0.name (subst (OptionNames (λ (e : ClassOf Name). text_eq c e.name ≡ true)) user.1 (find-passes (λ e. text_eq c e.name) i.classes))

    -- a class of the kernel is another class
    word-apart : (n : Name) → is_kernel_class i n ≡ true → text_eq c n ≡ false
    word-apart n h =
        by_cases (text_eq c n)
        (λ e. absurd (false≢true (sym user.2 ∙ sym (ap (λ o. option_map_or (λ (x : ClassOf Name). x.kernel) o false) user.1) ∙ ap (is_kernel_class i) (text-same c n e) ∙ h)))
        (λ e. e)

    -- all of it
    pub ready : IsReady i c d
    ready = record {
      new_name = is_new;
      user = user.0;
      found = user.1;
      named = λ e. absurd (subst (OptionNames (λ (x : ClassOf Name). x.name ≢ [])) user.1 (find-all (λ (x : ClassOf Name). x.name ≢ []) (λ x. text_eq c x.name) i.classes behind.ordered.named) (sym called ∙ e));
      other = found-other c user.0 user.1;
      proper = ordinary;
      words_kept = all-implies (λ n. IsTrue (is_kernel_class i n)) (λ n. new c d n ≡ n) (λ n h. new-other c d n (word-apart n h)) value_classes behind.words;
    }
