-- What stays true of an image while the chunks of a user's file-out are read.
use Rattle.std.proofs.Common.{◌≡◌, ◌<◌, Bool, true, false, not, cond, List, [], ◌∷◌, ◌++◌, length, map, filter, find, Option, Some, None, Ok, Contains, refl, sym, ap, subst, ◌∙◌, true≢false, arith}
use Rattle.std.specs.Prelude.{◌&&◌, ◌||◌, ◌==◌, ◌↔◌, is_some, if◌then◌else◌, IsTrue, codes}
use Rattle.std.specs.List.{AllByRecursion}
use Rattle.std.specs.Option.{option_map_or}
use Rattle.std.specs.List.Sorted.{IsPermutation}
use Rattle.std.proofs.lemmas.List.{map-append}
use Rattle.std.proofs.lemmas.List.Elements.{Contains-append_left}
use Rattle.std.proofs.lemmas.List.Sorted.{IsPermutation-map, Contains-permutation}
use Rattle.rb_base.specs.Names.{text_eq}
use Rattle.rb_base.proofs.NamesLemmas.{text_eq-refl}
use Rattle.tree_model.specs.Tree.{MethodOf}
use Rattle.image_model.specs.Image.{ClassOf, EntryOf, ImageOf}
use Rattle.image_model.specs.Lookup.{is_method}
use Rattle.image_model.specs.Means.{of_instance, of_class_side}
use Rattle.image_model.specs.Replaced.{KeepsHierarchy}
use Rattle.image_model.specs.Valid.{HasNoRepeat, HasClass, SuperclassesStandBefore, DefinesOnceOnChain, class_names}
use Rattle.image_model.specs.Words.{text_words}
use Rattle.image_model.proofs.ChainLemmas.{slice_get-map}
use Rattle.image_model.proofs.Ends.{contains-place, place-contains}
use Rattle.file_model.specs.Causes.{Condition, when, first_cause, KernelReplaced, UnknownSuperclass, Cycle, VariableTwice, TooMany, UnknownClass}
use Rattle.file_model.specs.Changes.{DefinitionOf, ChangeOf, Define, DefineAt, Comment, SetClassSide, RemoveMethod, RemoveClass, RunOf}
use Rattle.file_model.specs.Filing.{Text}
use Rattle.file_model.specs.Hierarchy.{has_class, is_kernel_class, has_subclass, has_repeat, stands_twice, settled}
use Rattle.file_model.specs.Refusals.{lacks_superclass, makes_cycle, is_one_class_too_many, is_kernel_method, is_one_method_too_many, has_method, definition_refusals, comment_refusals, class_side_refusals, removal_refusals, class_removal_refusals, method_refusals}
use Rattle.file_model.specs.Applied.{new_class, class_again, changed_class, with_definition, with_comment, with_class_side, defined, without_class, without_method, is_of_class, changed, entry_in, with_method, method_added}
use Rattle.file_laws.specs.Orders.{unplaced}
use Rattle.file_laws.proofs.Beside.{all_changed, changed_beside, new_beside}
use Rattle.file_laws.proofs.Chains.{or_false, once_tested, once_checked, once_moved, once_kept, once_without, stays_at}
use Rattle.file_laws.proofs.KernelClasses.{kernel_changed}
use Rattle.file_laws.proofs.KernelOrder.{of_kernel}
use Rattle.file_laws.proofs.KernelPart.{is_of_kernel, filter_without, user_classes, user_methods, user_class_methods, kernel_with_method}
use Rattle.file_laws.proofs.Methods.{IsOnce, once_changed, once_added}
use Rattle.file_laws.proofs.Moves.{text_equal, All-weaker}
use Rattle.file_laws.proofs.Named.{MayName, IsNamed, IsGoodDefinition, IsGood, all_moved, named_changed, hierarchy_kept}
use Rattle.file_laws.proofs.Redefined.{again_settled, name_at_place, stands_place}
use Rattle.file_laws.proofs.Refused.{first_none, second_none, third_none, unless_none, unless_ok}
use Rattle.file_laws.proofs.Taking.{not_false}
use Rattle.file_laws.proofs.Repeats.{names_changed, there_stands}
use Rattle.file_laws.proofs.Sound.{All-filter, All-last, All-replaced}

-- a class without a superclass is `Object`, no other one is, and it is one of the kernel
pub record IsRight (c : ClassOf Text) : Type 0 where
  pub root : IsTrue (text_words.is_object c.name) ↔ (c.superclass ≡ None)
  pub of_kernel : c.superclass ≡ None → c.kernel ≡ true

-- what is known of the classes of the kernel
pub record IsKernel (k : ImageOf Text) : Type 0 where
  pub before : SuperclassesStandBefore k.classes
  pub homes : AllByRecursion (HasClass k.classes) k.methods
  pub plain : AllByRecursion (λ (c : ClassOf Text). c.class_side ≡ []) k.classes

-- what is known of the image so far
pub record IsKept (k i : ImageOf Text) : Type 0 where
  pub named : IsNamed i
  pub right : AllByRecursion IsRight i.classes
  pub instance : AllByRecursion (DefinesOnceOnChain text_eq i.classes of_instance) i.classes
  pub class_side : AllByRecursion (DefinesOnceOnChain text_eq i.classes of_class_side) i.classes
  pub shared : AllByRecursion (λ (c : ClassOf Text). HasNoRepeat c.shared) i.classes
  pub homes : AllByRecursion (HasClass i.classes) i.methods
  pub once : IsOnce i
  pub kernel_classes : filter of_kernel i.classes ≡ k.classes
  pub kernel_methods : filter is_of_kernel i.methods ≡ k.methods

-- what is known of the classes alone
pub record IsKeptClasses (cs : List (ClassOf Text)) : Type 0 where
  pub right : AllByRecursion IsRight cs
  pub instance : AllByRecursion (DefinesOnceOnChain text_eq cs of_instance) cs
  pub class_side : AllByRecursion (DefinesOnceOnChain text_eq cs of_class_side) cs
  pub shared : AllByRecursion (λ (c : ClassOf Text). HasNoRepeat c.shared) cs

classes_kept : (k i : ImageOf Text) → IsKept k i → IsKeptClasses i.classes
classes_kept k i h = record { right = h.right; instance = h.instance; class_side = h.class_side; shared = h.shared }

-- a fact of each class and another of it
both : (P Q : ClassOf Text → Type 0) (cs : List (ClassOf Text)) → AllByRecursion P cs → AllByRecursion Q cs → AllByRecursion (λ (c : ClassOf Text). P c × Q c) cs
both P Q [] p q = tt
both P Q (c ∷ cs) p q = ((p.0, q.0), both P Q cs p.1 q.1)

-- a class of a name that is there has its name among the names
pub there_contains : (cs : List (ClassOf Text)) (n : Text) → has_class text_eq cs n ≡ true → Contains (class_names cs) n
there_contains cs n h = let place = stands_place text_eq text_eq-refl text_equal n cs (there_stands text_eq text_eq-refl text_equal cs n h) in place-contains (class_names cs) place.0 n place.2

-- the classes of methods are there where as many names are
pub homes_kept : (cs ds : List (ClassOf Text)) (ms : List (EntryOf Text)) → ((n : Text) → Contains (class_names cs) n → Contains (class_names ds) n) → AllByRecursion (HasClass cs) ms → AllByRecursion (HasClass ds) ms
homes_kept cs ds ms wider homes = All-weaker (HasClass cs) (HasClass ds) ms (λ m h. (h.0, h.1, wider h.0 h.2)) homes

-- a definition of a class that is not one of the kernel
module _ (x : DefinitionOf Text) (good : IsGoodDefinition x) (i : ImageOf Text) (named : IsNamed i) (h : IsKeptClasses i.classes) (none : first_cause (definition_refusals text_eq i.classes x (with_definition text_eq false x i.classes)) ≡ None) where
  abbrev mid : List (ClassOf Text)
  mid = with_definition text_eq false x i.classes

  abbrev conditions : List Condition
  conditions =
      when (stands_twice text_eq mid of_instance x.name || (stands_twice text_eq mid of_class_side x.name || has_repeat text_eq x.shared)) VariableTwice
      ∷ when (is_one_class_too_many text_eq i.classes x.name) TooMany ∷ []

  not_of_kernel : is_kernel_class text_eq i.classes x.name ≡ false
  not_of_kernel =
      (first_none (when (is_kernel_class text_eq i.classes x.name) KernelReplaced) (when (lacks_superclass text_eq i.classes x) UnknownSuperclass ∷ when (makes_cycle text_eq i.classes x) Cycle ∷ conditions) none).0

  above_there : has_class text_eq i.classes good.above ≡ true
  above_there =
      not_false (has_class text_eq i.classes good.above)
      (ap (λ o. option_map_or (λ p. not (has_class text_eq i.classes p)) o false) (sym good.under)
      ∙ second_none (when (is_kernel_class text_eq i.classes x.name) KernelReplaced) (when (lacks_superclass text_eq i.classes x) UnknownSuperclass) (when (makes_cycle text_eq i.classes x) Cycle ∷ conditions) none)

  no_cycle : makes_cycle text_eq i.classes x ≡ false
  no_cycle = third_none (when (is_kernel_class text_eq i.classes x.name) KernelReplaced) (when (lacks_superclass text_eq i.classes x) UnknownSuperclass) (when (makes_cycle text_eq i.classes x) Cycle) conditions none

  nothing_twice : (stands_twice text_eq mid of_instance x.name ≡ false) × (stands_twice text_eq mid of_class_side x.name ≡ false) × (has_repeat text_eq x.shared ≡ false)
  nothing_twice =
      let later = (first_none (when (lacks_superclass text_eq i.classes x) UnknownSuperclass) (when (makes_cycle text_eq i.classes x) Cycle ∷ conditions)
      (first_none (when (is_kernel_class text_eq i.classes x.name) KernelReplaced) (when (lacks_superclass text_eq i.classes x) UnknownSuperclass ∷ when (makes_cycle text_eq i.classes x) Cycle ∷ conditions) none).1).1 in
      let last = second_none (when (makes_cycle text_eq i.classes x) Cycle) (when (stands_twice text_eq mid of_instance x.name || (stands_twice text_eq mid of_class_side x.name || has_repeat text_eq x.shared)) VariableTwice) (when (is_one_class_too_many text_eq i.classes x.name) TooMany ∷ []) later in
      let first = or_false (stands_twice text_eq mid of_instance x.name) (stands_twice text_eq mid of_class_side x.name || has_repeat text_eq x.shared) last in
      let rest = or_false (stands_twice text_eq mid of_class_side x.name) (has_repeat text_eq x.shared) first.1 in
      (first.0, rest.0, rest.1)

  users : AllByRecursion (λ (c : ClassOf Text). text_eq x.name c.name ≡ true → of_kernel c ≡ false) i.classes
  users = user_classes i.classes x.name named.distinct not_of_kernel

  -- a class under another is right where it is not `Object`
  right_below : (c : ClassOf Text) → text_words.is_object c.name ≡ false → c.superclass ≡ Some good.above → IsRight c
  right_below c other under = record {
    root = ((λ object. absurd (true≢false (sym object ∙ other))), (λ top. absurd (differ (sym top ∙ under))));
    of_kernel = λ top. absurd (differ (sym top ∙ under));
  }
    where
      differ : ◌≡◌ {A = Option Text} None (Some good.above) → ⊥
      differ e = cc

  -- the class that is defined again is not `Object`, which is one of the kernel
  again_right : (c : ClassOf Text) → IsRight c → of_kernel c ≡ false → IsRight (class_again x c)
  again_right c right user = right_below (class_again x c) (by (text_words.is_object c.name) refl) good.under
    where
      by : (b : Bool) → text_words.is_object c.name ≡ b → text_words.is_object c.name ≡ false
      by false e = e
      by true e = absurd (true≢false (sym (right.of_kernel (right.root.0 e)) ∙ user))

  -- nor is a new class, since `Object` is the first one
  new_right : has_class text_eq i.classes x.name ≡ false → IsRight (new_class false x)
  new_right fresh = right_below (new_class false x) (by (text_words.is_object x.name) refl) good.under
    where
      first : (cs : List (ClassOf Text)) → SuperclassesStandBefore cs → AllByRecursion IsRight cs → has_class text_eq cs good.above ≡ true → has_class text_eq cs x.name ≡ false → text_words.is_object x.name ≡ true → ⊥
      first [] before right there new object = true≢false (sym there)
      first (c ∷ cs) before right there new object =
          true≢false
          (sym (ap (λ (b : Bool). is_some (cond b (Some c) (find (λ (y : ClassOf Text). text_eq x.name y.name) cs))) (ap (λ (t : Text). text_eq t c.name) (sym (text_equal (codes "Object") x.name object)) ∙ right.0.root.1 (top c.superclass refl))) ∙ new)
        where
          top : (o : Option Text) → c.superclass ≡ o → c.superclass ≡ None
          top None e = e
          top (Some n) e = absurd (let place = before 0 c n refl e in let below : place.0 < 0 = place.1 in omega (arith, below))

      by : (b : Bool) → text_words.is_object x.name ≡ b → text_words.is_object x.name ≡ false
      by false e = e
      by true e = absurd (first i.classes named.before h.right above_there fresh e)

  module _ (there : has_class text_eq i.classes x.name ≡ true) where
    abbrev again : List (ClassOf Text)
    again = changed_class text_eq x.name (class_again x) i.classes

    put : mid ≡ again
    put = ap (λ (b : Bool). if b then again else i.classes ++ new_class false x ∷ []) there

    again_kept : IsKeptClasses again
    again_kept = record {
      right = all_changed IsRight x.name (class_again x) i.classes (each i.classes h.right users);
      instance = once_checked x.name again i.classes (changed_beside x.name (class_again x) (λ c. refl) i.classes named.before there) of_instance h.instance
          (subst (λ (cs : List (ClassOf Text)). stands_twice text_eq cs of_instance x.name ≡ false) put nothing_twice.0);
      class_side = once_checked x.name again i.classes (changed_beside x.name (class_again x) (λ c. refl) i.classes named.before there) of_class_side h.class_side
          (subst (λ (cs : List (ClassOf Text)). stands_twice text_eq cs of_class_side x.name ≡ false) put nothing_twice.1);
      shared = all_changed (λ (c : ClassOf Text). HasNoRepeat c.shared) x.name (class_again x) i.classes (lists i.classes h.shared);
    }
      where
        each : (cs : List (ClassOf Text)) → AllByRecursion IsRight cs → AllByRecursion (λ (c : ClassOf Text). text_eq x.name c.name ≡ true → of_kernel c ≡ false) cs → AllByRecursion (λ (c : ClassOf Text). IsRight c × (text_eq x.name c.name ≡ true → IsRight (class_again x c))) cs
        each [] right user = tt
        each (c ∷ cs) right user = ((right.0, (λ same. again_right c right.0 (user.0 same))), each cs right.1 user.1)

        lists : (cs : List (ClassOf Text)) → AllByRecursion (λ (c : ClassOf Text). HasNoRepeat c.shared) cs → AllByRecursion (λ (c : ClassOf Text). HasNoRepeat c.shared × (text_eq x.name c.name ≡ true → HasNoRepeat x.shared)) cs
        lists [] all = tt
        lists (c ∷ cs) all = ((all.0, (λ same. once_tested x.shared nothing_twice.2)), lists cs all.1)

    mid_kept : IsKeptClasses mid
    mid_kept = subst IsKeptClasses (sym put) again_kept

    mid_distinct : HasNoRepeat (class_names mid)
    mid_distinct = subst (λ (cs : List (ClassOf Text)). HasNoRepeat (class_names cs)) (sym put) (subst HasNoRepeat (sym (names_changed text_eq text_eq-refl text_equal x.name (class_again x) (λ c. refl) i.classes)) named.distinct)

    moved : IsPermutation mid (defined text_eq false x i.classes)
    moved = (again_settled text_eq text_eq-refl text_equal i.classes x good.above false (record { before = named.before; distinct = named.distinct; there = there; under = good.under; above_there = above_there; no_cycle = no_cycle })).same

    again_defined : HasNoRepeat (class_names (defined text_eq false x i.classes)) → IsKeptClasses (defined text_eq false x i.classes)
    again_defined still = record {
      right = all_moved IsRight mid (defined text_eq false x i.classes) moved mid_kept.right;
      instance = once_moved mid (defined text_eq false x i.classes) moved mid_distinct still of_instance mid_kept.instance;
      class_side = once_moved mid (defined text_eq false x i.classes) moved mid_distinct still of_class_side mid_kept.class_side;
      shared = all_moved (λ (c : ClassOf Text). HasNoRepeat c.shared) mid (defined text_eq false x i.classes) moved mid_kept.shared;
    }

    again_names : (n : Text) → Contains (class_names i.classes) n → Contains (class_names (defined text_eq false x i.classes)) n
    again_names n has =
        Contains-permutation (class_names mid) (class_names (defined text_eq false x i.classes)) n (IsPermutation-map (λ (c : ClassOf Text). c.name) mid (defined text_eq false x i.classes) moved)
        (subst (λ (ns : List Text). Contains ns n) (sym (ap class_names put ∙ names_changed text_eq text_eq-refl text_equal x.name (class_again x) (λ c. refl) i.classes)) has)

  module _ (fresh : has_class text_eq i.classes x.name ≡ false) where
    abbrev more : List (ClassOf Text)
    more = i.classes ++ new_class false x ∷ []

    last : mid ≡ more
    last = ap (λ (b : Bool). if b then changed_class text_eq x.name (class_again x) i.classes else more) fresh

    defined_last : defined text_eq false x i.classes ≡ more
    defined_last = ap (λ (b : Bool). if b then settled text_eq mid else mid) fresh ∙ last

    new_defined : IsKeptClasses more
    new_defined = record {
      right = All-last IsRight i.classes (new_class false x) h.right (new_right fresh);
      instance = once_checked x.name more i.classes (new_beside (new_class false x) i.classes named.before) of_instance h.instance
          (subst (λ (cs : List (ClassOf Text)). stands_twice text_eq cs of_instance x.name ≡ false) last nothing_twice.0);
      class_side = once_checked x.name more i.classes (new_beside (new_class false x) i.classes named.before) of_class_side h.class_side
          (subst (λ (cs : List (ClassOf Text)). stands_twice text_eq cs of_class_side x.name ≡ false) last nothing_twice.1);
      shared = All-last (λ (c : ClassOf Text). HasNoRepeat c.shared) i.classes (new_class false x) h.shared (once_tested x.shared nothing_twice.2);
    }

    new_names : (n : Text) → Contains (class_names i.classes) n → Contains (class_names more) n
    new_names n has =
        subst (λ (ns : List Text). Contains ns n) (sym (map-append (λ (c : ClassOf Text). c.name) i.classes (new_class false x ∷ []))) (Contains-append_left (class_names i.classes) (x.name ∷ []) n has)

  -- the classes with the definition, in order
  pub definition_kept : HasNoRepeat (class_names (defined text_eq false x i.classes)) → IsKeptClasses (defined text_eq false x i.classes)
  definition_kept still = by (has_class text_eq i.classes x.name) refl
    where
      by : (b : Bool) → has_class text_eq i.classes x.name ≡ b → IsKeptClasses (defined text_eq false x i.classes)
      by true there = again_defined there still
      by false fresh = subst IsKeptClasses (sym (defined_last fresh)) (new_defined fresh)

  pub definition_names : (n : Text) → Contains (class_names i.classes) n → Contains (class_names (defined text_eq false x i.classes)) n
  definition_names n has = by (has_class text_eq i.classes x.name) refl
    where
      by : (b : Bool) → has_class text_eq i.classes x.name ≡ b → Contains (class_names (defined text_eq false x i.classes)) n
      by true there = again_names there n has
      by false fresh = subst (λ (cs : List (ClassOf Text)). Contains (class_names cs) n) (sym (defined_last fresh)) (new_names fresh n has)

-- another comment of a class
comment_kept : (n t : Text) (cs : List (ClassOf Text)) → IsKeptClasses cs → IsKeptClasses (with_comment text_eq n t cs)
comment_kept n t cs h =
    let keeps = hierarchy_kept n (λ (c : ClassOf Text). record c { comment = t }) (record { name = λ c. refl; superclass = λ c. refl; given = λ c gives. record { name = gives.name; instance = gives.instance; class_side = gives.class_side; shared = gives.shared } }) cs in
    record {
      right = all_changed IsRight n (λ (c : ClassOf Text). record c { comment = t }) cs (All-weaker _ _ cs (λ c r. (r, (λ same. record { root = r.root; of_kernel = r.of_kernel }))) h.right);
      instance = once_kept (λ (c : ClassOf Text). if text_eq n c.name then record c { comment = t } else c) cs of_instance keeps (λ c. inst c (text_eq n c.name)) h.instance;
      class_side = once_kept (λ (c : ClassOf Text). if text_eq n c.name then record c { comment = t } else c) cs of_class_side keeps (λ c. side c (text_eq n c.name)) h.class_side;
      shared = all_changed (λ (c : ClassOf Text). HasNoRepeat c.shared) n (λ (c : ClassOf Text). record c { comment = t }) cs (All-weaker _ _ cs (λ c r. (r, (λ same. r))) h.shared);
    }
  where
    inst : (c : ClassOf Text) (b : Bool) → (if b then record c { comment = t } else c).instance ≡ c.instance
    inst c true = refl
    inst c false = refl

    side : (c : ClassOf Text) (b : Bool) → (if b then record c { comment = t } else c).class_side ≡ c.class_side
    side c true = refl
    side c false = refl

-- other class-instance variables of a class
class_side_kept : (n : Text) (ns : List Text) (cs : List (ClassOf Text)) → AllByRecursion MayName ns → SuperclassesStandBefore cs
    → first_cause (class_side_refusals text_eq cs n ns (with_class_side text_eq n ns cs)) ≡ None → IsKeptClasses cs → IsKeptClasses (with_class_side text_eq n ns cs)
class_side_kept n ns cs may_be before none h =
    record {
      right = all_changed IsRight n set cs (All-weaker _ _ cs (λ c r. (r, (λ same. record { root = r.root; of_kernel = r.of_kernel }))) h.right);
      instance = once_kept (λ (c : ClassOf Text). if text_eq n c.name then set c else c) cs of_instance (keeps cs) (λ c. inst c (text_eq n c.name)) h.instance;
      class_side = once_checked n (changed_class text_eq n set cs) cs (changed_beside n set (λ c. refl) cs before there) of_class_side h.class_side checked;
      shared = all_changed (λ (c : ClassOf Text). HasNoRepeat c.shared) n set cs (All-weaker _ _ cs (λ c r. (r, (λ same. r))) h.shared);
    }
  where
    set : ClassOf Text → ClassOf Text
    set c = record c { class_side = ns }

    there : has_class text_eq cs n ≡ true
    there =
        not_false (has_class text_eq cs n)
        (first_none (when (not (has_class text_eq cs n)) UnknownClass) (when (is_kernel_class text_eq cs n && not (length ns == 0)) KernelReplaced ∷ when (stands_twice text_eq (with_class_side text_eq n ns cs) of_class_side n) VariableTwice ∷ []) none).0

    checked : stands_twice text_eq (changed_class text_eq n set cs) of_class_side n ≡ false
    checked =
        third_none (when (not (has_class text_eq cs n)) UnknownClass) (when (is_kernel_class text_eq cs n && not (length ns == 0)) KernelReplaced) (when (stands_twice text_eq (with_class_side text_eq n ns cs) of_class_side n) VariableTwice) [] none

    keeps : (ds : List (ClassOf Text)) → AllByRecursion (KeepsHierarchy (λ (c : ClassOf Text). if text_eq n c.name then set c else c)) ds
    keeps ds = hierarchy_kept n set (record { name = λ c. refl; superclass = λ c. refl; given = λ c gives. record { name = gives.name; instance = gives.instance; class_side = may_be; shared = gives.shared } }) ds

    inst : (c : ClassOf Text) (b : Bool) → (if b then set c else c).instance ≡ c.instance
    inst c true = refl
    inst c false = refl

-- the image without a class that has no subclass and is not one of the kernel
module _ (k : ImageOf Text) (kernel : IsKernel k) (n : Text) (i : ImageOf Text) (h : IsKept k i) (none : first_cause (class_removal_refusals text_eq i.classes n) ≡ None) where
  there : has_class text_eq i.classes n ≡ true
  there =
      not_false (has_class text_eq i.classes n)
      (first_none (when (not (has_class text_eq i.classes n)) UnknownClass) (when (is_kernel_class text_eq i.classes n) KernelReplaced ∷ when (has_subclass text_eq i.classes n) UnknownSuperclass ∷ []) none).0

  users_named : AllByRecursion (λ (c : ClassOf Text). text_eq n c.name ≡ true → of_kernel c ≡ false) i.classes
  users_named =
      user_classes i.classes n h.named.distinct
      (second_none (when (not (has_class text_eq i.classes n)) UnknownClass) (when (is_kernel_class text_eq i.classes n) KernelReplaced) (when (has_subclass text_eq i.classes n) UnknownSuperclass ∷ []) none)

  no_subclass : has_subclass text_eq i.classes n ≡ false
  no_subclass = third_none (when (not (has_class text_eq i.classes n)) UnknownClass) (when (is_kernel_class text_eq i.classes n) KernelReplaced) (when (has_subclass text_eq i.classes n) UnknownSuperclass) [] none

  -- the class of a method that stays
  home_stays : (m : EntryOf Text) → HasClass i.classes m → is_of_class text_eq n m ≡ false → HasClass (filter (λ (c : ClassOf Text). not (text_eq n c.name)) i.classes) m
  home_stays m has other =
      let place = contains-place (class_names i.classes) has.0 has.2 in
      let at = slice_get-map (λ (c : ClassOf Text). c.name) i.classes place.0 has.0 place.1 in
      let differs : text_eq n has.0 ≡ false = sym (ap (λ o. option_map_or (text_eq n) o false) has.1) ∙ other in
      let stays = stays_at n i.classes no_subclass i.classes place.0 at.0 at.1 (ap (text_eq n) at.2 ∙ differs) in
      (has.0, has.1, place-contains (class_names (filter (λ (c : ClassOf Text). not (text_eq n c.name)) i.classes)) stays.0 has.0 (name_at_place (filter (λ (c : ClassOf Text). not (text_eq n c.name)) i.classes) stays.0 at.0 stays.1 ∙ ap Some at.2))

  homes_stay : (ms : List (EntryOf Text)) → AllByRecursion (HasClass i.classes) ms → AllByRecursion (HasClass (filter (λ (c : ClassOf Text). not (text_eq n c.name)) i.classes)) (filter (λ m. not (is_of_class text_eq n m)) ms)
  homes_stay [] all = tt
  homes_stay (m ∷ ms) all = by (is_of_class text_eq n m) refl (homes_stay ms all.1)
    where
      by : (b : Bool) → is_of_class text_eq n m ≡ b → AllByRecursion (HasClass (filter (λ (c : ClassOf Text). not (text_eq n c.name)) i.classes)) (filter (λ e. not (is_of_class text_eq n e)) ms)
          → AllByRecursion (HasClass (filter (λ (c : ClassOf Text). not (text_eq n c.name)) i.classes)) (cond (not b) (m ∷ filter (λ e. not (is_of_class text_eq n e)) ms) (filter (λ e. not (is_of_class text_eq n e)) ms))
      by true e rest = rest
      by false e rest = (home_stays m all.0 e, rest)

  class_removed : IsNamed (without_class text_eq n i) → IsOnce (without_class text_eq n i) → IsKept k (without_class text_eq n i)
  class_removed named once = record {
    named = named;
    right = All-filter IsRight (λ (c : ClassOf Text). not (text_eq n c.name)) i.classes h.right;
    instance = once_without n i.classes no_subclass there named.before of_instance h.instance;
    class_side = once_without n i.classes no_subclass there named.before of_class_side h.class_side;
    shared = All-filter (λ (c : ClassOf Text). HasNoRepeat c.shared) (λ (c : ClassOf Text). not (text_eq n c.name)) i.classes h.shared;
    homes = homes_stay i.methods h.homes;
    once = once;
    kernel_classes = filter_without of_kernel (λ (c : ClassOf Text). text_eq n c.name) i.classes users_named ∙ h.kernel_classes;
    kernel_methods = filter_without is_of_kernel (is_of_class text_eq n) i.methods (user_class_methods i.classes i.methods n users_named kernel_homes) ∙ h.kernel_methods;
  }
    where
      kernel_homes : AllByRecursion (HasClass (filter of_kernel i.classes)) (filter is_of_kernel i.methods)
      kernel_homes =
          subst (λ (cs : List (ClassOf Text)). AllByRecursion (HasClass cs) (filter is_of_kernel i.methods)) (sym h.kernel_classes)
          (subst (AllByRecursion (HasClass k.classes)) (sym h.kernel_methods) kernel.homes)

-- with other classes and the same methods
with_kept : (k i : ImageOf Text) (cs : List (ClassOf Text)) → IsNamed (record i { classes = cs }) → IsKeptClasses cs → filter of_kernel cs ≡ k.classes → ((n : Text) → Contains (class_names i.classes) n → Contains (class_names cs) n) → IsKept k i → IsKept k (record i { classes = cs })
with_kept k i cs named new kernel wider h = record {
  named = named;
  right = new.right;
  instance = new.instance;
  class_side = new.class_side;
  shared = new.shared;
  homes = homes_kept i.classes cs i.methods wider h.homes;
  once = h.once;
  kernel_classes = kernel;
  kernel_methods = h.kernel_methods;
}

-- names that stay
same_names : (n : Text) (f : ClassOf Text → ClassOf Text) → ((c : ClassOf Text) → (f c).name ≡ c.name) → (cs : List (ClassOf Text)) (m : Text) → Contains (class_names cs) m → Contains (class_names (changed_class text_eq n f cs)) m
same_names n f keeps cs m has = subst (λ (ns : List Text). Contains ns m) (sym (names_changed text_eq text_eq-refl text_equal n f keeps cs)) has

-- the classes of the kernel, once a chunk changed others
kernel_kept : (k : ImageOf Text) → IsKernel k → (c : ChangeOf Text) (i j : ImageOf Text) → changed text_eq false c i ≡ Ok j → IsKept k i → filter of_kernel j.classes ≡ k.classes
kernel_kept k kernel c i j e h = kernel_changed k.classes kernel.before kernel.plain c i j e h.named.distinct h.kernel_classes

-- a definition keeps it
kept_again : (k : ImageOf Text) → IsKernel k → (x : DefinitionOf Text) (i j : ImageOf Text) → IsGoodDefinition x → changed text_eq false (Define x) i ≡ Ok j → IsKept k i → IsKept k j
kept_again k kernel x i j good e h =
    let new : ImageOf Text = record i { classes = defined text_eq false x i.classes } in
    let cs = definition_refusals text_eq i.classes x (with_definition text_eq false x i.classes) in
    let none = unless_none cs new j e in
    let same : new ≡ j = unless_ok cs new j e in
    let named : IsNamed new = subst IsNamed (sym same) (named_changed false (Define x) i j good e h.named) in
    subst (IsKept k) same
    (with_kept k i (defined text_eq false x i.classes) named (definition_kept x good i h.named (classes_kept k i h) none named.distinct)
    (subst (λ (z : ImageOf Text). filter of_kernel z.classes ≡ k.classes) (sym same) (kernel_kept k kernel (Define x) i j e h)) (definition_names x good i h.named (classes_kept k i h) none) h)

-- a change keeps it, apart from the place that it states
pub kept_changed : (k : ImageOf Text) → IsKernel k → (c : ChangeOf Text) (i j : ImageOf Text) → IsGood c → changed text_eq false (unplaced c) i ≡ Ok j → IsKept k i → IsKept k j
kept_changed k kernel (Define x) i j good e h = kept_again k kernel x i j good e h
kept_changed k kernel (DefineAt x place) i j good e h = kept_again k kernel x i j good e h
kept_changed k kernel (Comment n t) i j good e h =
    let new : ImageOf Text = record i { classes = with_comment text_eq n t i.classes } in
    let same : new ≡ j = unless_ok (comment_refusals text_eq i.classes n) new j e in
    let named : IsNamed new = subst IsNamed (sym same) (named_changed false (Comment n t) i j good e h.named) in
    subst (IsKept k) same
    (with_kept k i (with_comment text_eq n t i.classes) named
    (comment_kept n t i.classes (classes_kept k i h)) (subst (λ (z : ImageOf Text). filter of_kernel z.classes ≡ k.classes) (sym same) (kernel_kept k kernel (Comment n t) i j e h))
    (same_names n (λ (c : ClassOf Text). record c { comment = t }) (λ c. refl) i.classes) h)
kept_changed k kernel (SetClassSide n ns) i j good e h =
    let new : ImageOf Text = record i { classes = with_class_side text_eq n ns i.classes } in
    let cs = class_side_refusals text_eq i.classes n ns (with_class_side text_eq n ns i.classes) in
    let none = unless_none cs new j e in
    let same : new ≡ j = unless_ok cs new j e in
    let named : IsNamed new = subst IsNamed (sym same) (named_changed false (SetClassSide n ns) i j good e h.named) in
    subst (IsKept k) same
    (with_kept k i (with_class_side text_eq n ns i.classes) named (class_side_kept n ns i.classes good h.named.before none (classes_kept k i h))
    (subst (λ (z : ImageOf Text). filter of_kernel z.classes ≡ k.classes) (sym same) (kernel_kept k kernel (SetClassSide n ns) i j e h))
    (same_names n (λ (c : ClassOf Text). record c { class_side = ns }) (λ c. refl) i.classes) h)
kept_changed k kernel (RemoveMethod c meta s) i j good e h =
    let new : ImageOf Text = without_method text_eq c meta s i in
    let none = unless_none (removal_refusals text_eq i c meta s) new j e in
    let same : new ≡ j = unless_ok (removal_refusals text_eq i c meta s) new j e in
    let once : IsOnce new = subst IsOnce (sym same) (once_changed (RemoveMethod c meta s) i j e h.once) in
    subst (IsKept k) same (record {
      named = record { distinct = h.named.distinct; before = h.named.before; given = h.named.given };
      right = h.right;
      instance = h.instance;
      class_side = h.class_side;
      shared = h.shared;
      homes = All-filter (HasClass i.classes) (λ m. not (is_method text_eq c meta s m)) i.methods h.homes;
      once = once;
      kernel_classes = h.kernel_classes;
      kernel_methods = filter_without is_of_kernel (is_method text_eq c meta s) i.methods
          (user_methods i.methods c meta s h.once (second_none (when (not (has_class text_eq i.classes c)) UnknownClass) (when (is_kernel_method text_eq i.methods c meta s) KernelReplaced) [] none)) ∙ h.kernel_methods;
    })
kept_changed k kernel (RemoveClass n) i j good e h =
    let new : ImageOf Text = without_class text_eq n i in
    let none = unless_none (class_removal_refusals text_eq i.classes n) new j e in
    let same : new ≡ j = unless_ok (class_removal_refusals text_eq i.classes n) new j e in
    subst (IsKept k) same
    (class_removed k kernel n i h none (subst IsNamed (sym same) (named_changed false (RemoveClass n) i j good e h.named)) (subst IsOnce (sym same) (once_changed (RemoveClass n) i j e h.once)))

-- a method of a class that is there keeps it
pub kept_added : (k : ImageOf Text) (r : RunOf Text) (source : Text) (m : MethodOf Text) (i j : ImageOf Text) → has_class text_eq i.classes r.class ≡ true → method_added text_eq false r source m i ≡ Ok j → IsKept k i → IsKept k j
kept_added k r source m i j there e h =
    let new : ImageOf Text = record i { methods = with_method text_eq false r source m i.methods } in
    let none = unless_none (method_refusals text_eq i.methods r m.selector) new j e in
    let same : new ≡ j = unless_ok (method_refusals text_eq i.methods r m.selector) new j e in
    subst (IsKept k) same (record {
      named = record { distinct = h.named.distinct; before = h.named.before; given = h.named.given };
      right = h.right;
      instance = h.instance;
      class_side = h.class_side;
      shared = h.shared;
      homes = by (has_method text_eq i.methods r.class r.meta m.selector);
      once = subst IsOnce (sym same) (once_added r source m i j e h.once);
      kernel_classes = h.kernel_classes;
      kernel_methods = kernel_with_method r source m i.methods h.once
          (first_none (when (is_kernel_method text_eq i.methods r.class r.meta m.selector) KernelReplaced) (when (is_one_method_too_many text_eq i.methods r.class r.meta m.selector) TooMany ∷ []) none).0 ∙ h.kernel_methods;
    })
  where
    home : HasClass i.classes (entry_in false r source m)
    home = (r.class, refl, there_contains i.classes r.class there)

    by : (b : Bool) → AllByRecursion (HasClass i.classes) (if b then map (λ x. if is_method text_eq r.class r.meta m.selector x then entry_in false r source m else x) i.methods else i.methods ++ entry_in false r source m ∷ [])
    by true = All-replaced (HasClass i.classes) (is_method text_eq r.class r.meta m.selector) (entry_in false r source m) i.methods h.homes home
    by false = All-last (HasClass i.classes) i.methods (entry_in false r source m) h.homes home
