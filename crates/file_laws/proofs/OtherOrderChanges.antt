-- A change makes of the same classes in another order the same image in another order.
use Rattle.std.proofs.Common.{◌≡◌, Bool, true, false, not, List, [], ◌∷◌, filter, Option, Some, None, Result, Ok, Err, refl, sym, ap, subst, ◌∙◌}
use Rattle.std.specs.Prelude.{◌||◌, if◌then◌else◌}
use Rattle.std.specs.List.{AllByRecursion}
use Rattle.std.specs.Option.{option_map_or}
use Rattle.std.specs.List.Sorted.{IsPermutation}
use Rattle.std.proofs.lemmas.List.Sorted.{IsPermutation-refl}
use Rattle.image_model.specs.Image.{ClassOf, ImageOf}
use Rattle.image_model.specs.Means.{of_instance, of_class_side}
use Rattle.image_model.specs.Replaced.{KeepsHierarchy}
use Rattle.image_model.specs.Valid.{SuperclassesStandBefore}
use Rattle.image_model.proofs.Kept.{SuperclassesStandBefore-kept}
use Rattle.file_model.specs.Causes.{Cause, Condition, when, first_cause, unless, UnknownSuperclass, Cycle, VariableTwice, KernelReplaced, UnknownClass, TooMany}
use Rattle.file_model.specs.Changes.{ChangeOf, Define, DefineAt, Comment, SetClassSide, RemoveMethod, RemoveClass, DefinitionOf}
use Rattle.file_model.specs.Hierarchy.{has_class, is_kernel_class, has_subclass, has_repeat, stands_twice, settled}
use Rattle.file_model.specs.Refusals.{lacks_superclass, makes_cycle, is_one_class_too_many, definition_refusals, class_removal_refusals}
use Rattle.file_model.specs.Applied.{changed_class, with_definition, defined, with_class_side, with_comment, without_class, without_method, changed}
use Rattle.file_laws.specs.Settling.{AreInOrder}
use Rattle.file_laws.specs.Orders.{AreSameClasses, IsChangedAlike, unplaced, with_classes}
use Rattle.file_laws.proofs.Defined.{again_of, defined_leaves, removed_order, root_stays}
use Rattle.file_laws.proofs.OtherOrder.{distinct_moved, same_back, same_through, same_filter, same_with_definition, same_with_class_side, same_with_comment}
use Rattle.file_laws.proofs.OtherOrderLooks.{has_subclass_same, lacks_same, makes_cycle_same}
use Rattle.file_laws.proofs.OtherOrderRefusals.{change_refusals, change_refusals_same}
use Rattle.file_laws.proofs.Redefined.{again_settled}
use Rattle.file_laws.proofs.Refused.{second_none, third_none}
use Rattle.file_laws.proofs.SettledAgain.{settled_in_order}

-- the image that a change makes where it is not refused
abbrev pub change_gives : {N : Type 0} → (N → N → Bool) → Bool → ChangeOf N → ImageOf N → ImageOf N
change_gives same kernel (Define d) i = with_classes (defined same kernel d i.classes) i
change_gives same kernel (DefineAt d k) i = with_classes (with_definition same kernel d i.classes) i
change_gives same kernel (Comment n text) i = with_classes (with_comment same n text i.classes) i
change_gives same kernel (SetClassSide n names) i = with_classes (with_class_side same n names i.classes) i
change_gives same kernel (RemoveMethod c meta s) i = without_method same c meta s i
change_gives same kernel (RemoveClass n) i = without_class same n i

pub changed_is : {N : Type 0} (same : N → N → Bool) (kernel : Bool) (c : ChangeOf N) (i : ImageOf N) → ◌≡◌ {A = Result (ImageOf N) Cause} (changed same kernel c i) (unless (change_refusals same kernel c i) (change_gives same kernel c i))
changed_is same kernel (Define d) i = refl
changed_is same kernel (DefineAt d k) i = refl
changed_is same kernel (Comment n text) i = refl
changed_is same kernel (SetClassSide n names) i = refl
changed_is same kernel (RemoveMethod c meta s) i = refl
changed_is same kernel (RemoveClass n) i = refl

-- what is refused under conditions is refused whatever it would give
pub unless_refused : {X : Type 0} (rs : List Condition) (x y : X) (e : Cause) → ◌≡◌ {A = Result X Cause} (unless rs x) (Err e) → ◌≡◌ {A = Result X Cause} (unless rs y) (Err e)
unless_refused {X} rs x y e h = by (first_cause rs) h
  where
    by : (o : Option Cause) → ◌≡◌ {A = Result X Cause} (option_map_or Err o (Ok x)) (Err e) → ◌≡◌ {A = Result X Cause} (option_map_or Err o (Ok y)) (Err e)
    by None k = absurd (differ k)
      where
        differ : ◌≡◌ {A = Result X Cause} (Ok x) (Err e) → ⊥
        differ q = cc
    by (Some cause) k = let same : cause ≡ e = cc in ap Err same

-- what is given under conditions
pub unless_gives : {X : Type 0} (rs : List Condition) (x y : X) → ◌≡◌ {A = Result X Cause} (unless rs x) (Ok y) → (first_cause rs ≡ None) × (x ≡ y)
unless_gives {X} rs x y h = by (first_cause rs) refl h
  where
    by : (o : Option Cause) → first_cause rs ≡ o → ◌≡◌ {A = Result X Cause} (option_map_or Err o (Ok x)) (Ok y) → (first_cause rs ≡ None) × (x ≡ y)
    by None e k = (e, (let same : x ≡ y = cc in same))
    by (Some cause) e k = absurd (differ k)
      where
        differ : ◌≡◌ {A = Result X Cause} (Err cause) (Ok y) → ⊥
        differ q = cc

-- where a definition is not refused, its superclass is there and not below it
not_lacking : {N : Type 0} (same : N → N → Bool) (cs : List (ClassOf N)) (d : DefinitionOf N) (new : List (ClassOf N)) → first_cause (definition_refusals same cs d new) ≡ None → lacks_superclass same cs d ≡ false
not_lacking same cs d new none =
    second_none (when (is_kernel_class same cs d.name) KernelReplaced) (when (lacks_superclass same cs d) UnknownSuperclass)
    (when (makes_cycle same cs d) Cycle
    ∷ when (stands_twice same new of_instance d.name || (stands_twice same new of_class_side d.name || has_repeat same d.shared)) VariableTwice
    ∷ when (is_one_class_too_many same cs d.name) TooMany ∷ []) none

no_cycle : {N : Type 0} (same : N → N → Bool) (cs : List (ClassOf N)) (d : DefinitionOf N) (new : List (ClassOf N)) → first_cause (definition_refusals same cs d new) ≡ None → makes_cycle same cs d ≡ false
no_cycle same cs d new none =
    third_none (when (is_kernel_class same cs d.name) KernelReplaced) (when (lacks_superclass same cs d) UnknownSuperclass) (when (makes_cycle same cs d) Cycle)
    (when (stands_twice same new of_instance d.name || (stands_twice same new of_class_side d.name || has_repeat same d.shared)) VariableTwice
    ∷ when (is_one_class_too_many same cs d.name) TooMany ∷ []) none

-- a class that is removed has no subclass
no_subclass : {N : Type 0} (same : N → N → Bool) (cs : List (ClassOf N)) (n : N) → first_cause (class_removal_refusals same cs n) ≡ None → has_subclass same cs n ≡ false
no_subclass same cs n none =
    third_none (when (not (has_class same cs n)) UnknownClass) (when (is_kernel_class same cs n) KernelReplaced) (when (has_subclass same cs n) UnknownSuperclass) [] none

-- over names that a test tells apart
module _ {N : Type 0} (is_same : N → N → Bool) (reflexive : (n : N) → is_same n n ≡ true) (equal : (s t : N) → is_same s t ≡ true → s ≡ t) where
  -- classes that are changed and keep their names and their superclasses stay in order
  pub before_changed : (n : N) (f : ClassOf N → ClassOf N) → ((c : ClassOf N) → (f c).name ≡ c.name) → ((c : ClassOf N) → (f c).superclass ≡ c.superclass) → (ds : List (ClassOf N))
      → SuperclassesStandBefore ds → SuperclassesStandBefore (changed_class is_same n f ds)
  before_changed n f keeps_name keeps_above ds before = SuperclassesStandBefore-kept (λ (c : ClassOf N). if is_same n c.name then f c else c) ds (hierarchy ds) before
    where
      named : (c : ClassOf N) (b : Bool) → (if b then f c else c).name ≡ c.name
      named c true = keeps_name c
      named c false = refl

      under : (c : ClassOf N) (b : Bool) → (if b then f c else c).superclass ≡ c.superclass
      under c true = keeps_above c
      under c false = refl

      hierarchy : (cs : List (ClassOf N)) → AllByRecursion (KeepsHierarchy (λ (c : ClassOf N). if is_same n c.name then f c else c)) cs
      hierarchy [] = tt
      hierarchy (c ∷ cs) = (record { name = named c (is_same n c.name); superclass = under c (is_same n c.name) }, hierarchy cs)

  -- a definition of classes that are in order only changes their order, and puts them in order
  pub defined_same : (kernel : Bool) (d : DefinitionOf N) (ds : List (ClassOf N)) → AreInOrder ds → lacks_superclass is_same ds d ≡ false → makes_cycle is_same ds d ≡ false
      → IsPermutation (with_definition is_same kernel d ds) (defined is_same kernel d ds) × SuperclassesStandBefore (defined is_same kernel d ds)
  defined_same kernel d ds o lacks cycle = (by (has_class is_same ds d.name) refl d.superclass refl, (defined_leaves is_same reflexive equal ds d kernel o lacks cycle).order.before)
    where
      stays : defined is_same kernel d ds ≡ with_definition is_same kernel d ds → IsPermutation (with_definition is_same kernel d ds) (defined is_same kernel d ds)
      stays e = subst (λ (es : List (ClassOf N)). IsPermutation (with_definition is_same kernel d ds) es) (sym e) (IsPermutation-refl (with_definition is_same kernel d ds))

      by : (b : Bool) → has_class is_same ds d.name ≡ b → (s : Option N) → d.superclass ≡ s → IsPermutation (with_definition is_same kernel d ds) (defined is_same kernel d ds)
      by true there None e = stays (root_stays is_same reflexive equal ds d kernel o.distinct there o.before e)
      by true there (Some p) e = (again_settled is_same reflexive equal ds d p kernel (again_of is_same reflexive equal ds d p o there e lacks cycle)).same
      by false fresh s e = stays (ap (λ (b : Bool). if b then settled is_same (with_definition is_same kernel d ds) else with_definition is_same kernel d ds) fresh)

  -- classes of which some order has each superclass first are put in such an order
  pub settled_alike : (cs ds : List (ClassOf N)) → AreSameClasses cs ds → SuperclassesStandBefore ds → AreSameClasses (settled is_same cs) ds × SuperclassesStandBefore (settled is_same cs)
  settled_alike cs ds m before =
      let put = settled_in_order is_same reflexive equal cs ds m.permutation before in (
        same_through is_same reflexive equal (settled is_same cs) cs ds (same_back is_same reflexive equal cs (settled is_same cs) (record { permutation = put.1; distinct = m.distinct })) m,
        put.0,
      )

  -- a definition of the same classes in any order, put in order on one side or on both
  pub defined_alike : (kernel : Bool) (d : DefinitionOf N) (cs ds : List (ClassOf N)) → AreSameClasses cs ds → SuperclassesStandBefore ds → lacks_superclass is_same cs d ≡ false → makes_cycle is_same cs d ≡ false
      → AreSameClasses (with_definition is_same kernel d cs) (defined is_same kernel d ds) × AreSameClasses (defined is_same kernel d cs) (defined is_same kernel d ds) × SuperclassesStandBefore (defined is_same kernel d ds)
  defined_alike kernel d cs ds m before lacks cycle = (put, by (has_class is_same cs d.name) refl, there.1)
    where
      new : AreSameClasses (with_definition is_same kernel d cs) (with_definition is_same kernel d ds)
      new = same_with_definition is_same reflexive equal kernel d cs ds m

      there : IsPermutation (with_definition is_same kernel d ds) (defined is_same kernel d ds) × SuperclassesStandBefore (defined is_same kernel d ds)
      there =
          defined_same kernel d ds (record { distinct = distinct_moved is_same reflexive equal cs ds m; before = before })
          (sym (lacks_same is_same reflexive equal cs ds m d) ∙ lacks) (sym (makes_cycle_same is_same reflexive equal cs ds m d) ∙ cycle)

      put : AreSameClasses (with_definition is_same kernel d cs) (defined is_same kernel d ds)
      put =
          same_through is_same reflexive equal (with_definition is_same kernel d cs) (with_definition is_same kernel d ds) (defined is_same kernel d ds) new
          (record { permutation = there.0; distinct = distinct_moved is_same reflexive equal (with_definition is_same kernel d cs) (with_definition is_same kernel d ds) new })

      chosen : (b : Bool) → has_class is_same cs d.name ≡ b → (if b then settled is_same (with_definition is_same kernel d cs) else with_definition is_same kernel d cs) ≡ defined is_same kernel d cs
      chosen b e = ap (λ (t : Bool). if t then settled is_same (with_definition is_same kernel d cs) else with_definition is_same kernel d cs) (sym e)

      by : (b : Bool) → has_class is_same cs d.name ≡ b → AreSameClasses (defined is_same kernel d cs) (defined is_same kernel d ds)
      by true e =
          subst (λ (es : List (ClassOf N)). AreSameClasses es (defined is_same kernel d ds)) (chosen true e)
          (settled_alike (with_definition is_same kernel d cs) (defined is_same kernel d ds) put there.1).0
      by false e = subst (λ (es : List (ClassOf N)). AreSameClasses es (defined is_same kernel d ds)) (chosen false e) put

  -- What a change that is not refused makes of the same classes in another order.
  record IsMadeAlike (kernel : Bool) (c : ChangeOf N) (i : ImageOf N) (ds : List (ClassOf N)) : Type 0 where
    pub classes : List (ClassOf N)
    pub gives : change_gives is_same kernel (unplaced c) (with_classes ds i) ≡ with_classes classes (change_gives is_same kernel c i)
    pub alike : AreSameClasses (change_gives is_same kernel c i).classes classes
    pub before : SuperclassesStandBefore classes

  made_alike : (kernel : Bool) (c : ChangeOf N) (i : ImageOf N) (ds : List (ClassOf N)) → AreSameClasses i.classes ds → SuperclassesStandBefore ds → first_cause (change_refusals is_same kernel c i) ≡ None → IsMadeAlike kernel c i ds
  made_alike kernel (Define d) i ds m before none =
      let new = with_definition is_same kernel d i.classes in
      let made = defined_alike kernel d i.classes ds m before (not_lacking is_same i.classes d new none) (no_cycle is_same i.classes d new none) in
      record { classes = defined is_same kernel d ds; gives = refl; alike = made.1; before = made.2 }
  made_alike kernel (DefineAt d k) i ds m before none =
      let new = with_definition is_same kernel d i.classes in
      let made = defined_alike kernel d i.classes ds m before (not_lacking is_same i.classes d new none) (no_cycle is_same i.classes d new none) in
      record { classes = defined is_same kernel d ds; gives = refl; alike = made.0; before = made.2 }
  made_alike kernel (Comment n text) i ds m before none = record {
    classes = with_comment is_same n text ds;
    gives = refl;
    alike = same_with_comment is_same reflexive equal n text i.classes ds m;
    before = before_changed n (λ (c : ClassOf N). record c { comment = text }) (λ c. refl) (λ c. refl) ds before;
  }
  made_alike kernel (SetClassSide n names) i ds m before none = record {
    classes = with_class_side is_same n names ds;
    gives = refl;
    alike = same_with_class_side is_same reflexive equal n names i.classes ds m;
    before = before_changed n (λ (c : ClassOf N). record c { class_side = names }) (λ c. refl) (λ c. refl) ds before;
  }
  made_alike kernel (RemoveMethod c meta s) i ds m before none = record { classes = ds; gives = refl; alike = m; before = before }
  made_alike kernel (RemoveClass n) i ds m before none = record {
    classes = filter (λ (c : ClassOf N). not (is_same n c.name)) ds;
    gives = refl;
    alike = same_filter is_same reflexive equal (λ (c : ClassOf N). not (is_same n c.name)) i.classes ds m;
    before = (removed_order is_same reflexive equal ds n (record { distinct = distinct_moved is_same reflexive equal i.classes ds m; before = before })
        (sym (has_subclass_same is_same reflexive equal i.classes ds m n) ∙ no_subclass is_same i.classes n none)).before;
  }

  -- a change is refused for the same cause
  pub refused_alike : (kernel : Bool) (c : ChangeOf N) (i : ImageOf N) (ds : List (ClassOf N)) (e : Cause) → AreSameClasses i.classes ds → ◌≡◌ {A = Result (ImageOf N) Cause} (changed is_same kernel c i) (Err e)
      → ◌≡◌ {A = Result (ImageOf N) Cause} (changed is_same kernel (unplaced c) (with_classes ds i)) (Err e)
  refused_alike kernel c i ds e m h =
      changed_is is_same kernel (unplaced c) (with_classes ds i)
      ∙ unless_refused (change_refusals is_same kernel (unplaced c) (with_classes ds i)) (change_gives is_same kernel c i) (change_gives is_same kernel (unplaced c) (with_classes ds i)) e
      (ap (λ (rs : List Condition). unless rs (change_gives is_same kernel c i)) (sym (change_refusals_same is_same reflexive equal i ds m kernel c)) ∙ sym (changed_is is_same kernel c i) ∙ h)

  -- and the other way round
  pub refused_back : (kernel : Bool) (c : ChangeOf N) (i : ImageOf N) (ds : List (ClassOf N)) (e : Cause) → AreSameClasses i.classes ds → ◌≡◌ {A = Result (ImageOf N) Cause} (changed is_same kernel (unplaced c) (with_classes ds i)) (Err e)
      → ◌≡◌ {A = Result (ImageOf N) Cause} (changed is_same kernel c i) (Err e)
  refused_back kernel c i ds e m h =
      changed_is is_same kernel c i
      ∙ unless_refused (change_refusals is_same kernel c i) (change_gives is_same kernel (unplaced c) (with_classes ds i)) (change_gives is_same kernel c i) e
      (ap (λ (rs : List Condition). unless rs (change_gives is_same kernel (unplaced c) (with_classes ds i))) (change_refusals_same is_same reflexive equal i ds m kernel c) ∙ sym (changed_is is_same kernel (unplaced c) (with_classes ds i)) ∙ h)

  -- a change gives the same image in another order, in which each superclass stands before its subclasses
  pub changed_alike : (kernel : Bool) (c : ChangeOf N) (i j : ImageOf N) (ds : List (ClassOf N)) → AreSameClasses i.classes ds → SuperclassesStandBefore ds → ◌≡◌ {A = Result (ImageOf N) Cause} (changed is_same kernel c i) (Ok j)
      → IsChangedAlike is_same kernel c i ds j
  changed_alike kernel c i j ds m before h = record {
    classes = made.classes;
    gives = changed_is is_same kernel (unplaced c) (with_classes ds i)
        ∙ ap (λ (o : Option Cause). option_map_or Err o (Ok (change_gives is_same kernel (unplaced c) (with_classes ds i)))) none
        ∙ ap Ok (made.gives ∙ ap (with_classes made.classes) got.1);
    alike = subst (λ (k : ImageOf N). AreSameClasses k.classes made.classes) got.1 made.alike;
    before = made.before;
  }
    where
      got : (first_cause (change_refusals is_same kernel c i) ≡ None) × (change_gives is_same kernel c i ≡ j)
      got = unless_gives (change_refusals is_same kernel c i) (change_gives is_same kernel c i) j (sym (changed_is is_same kernel c i) ∙ h)

      made : IsMadeAlike kernel c i ds
      made = made_alike kernel c i ds m before got.0

      none : first_cause (change_refusals is_same kernel (unplaced c) (with_classes ds i)) ≡ None
      none = ap first_cause (sym (change_refusals_same is_same reflexive equal i ds m kernel c)) ∙ got.0

  -- and the other way round: what is given in the other order is given here
  pub given_back : (kernel : Bool) (c : ChangeOf N) (i k : ImageOf N) (ds : List (ClassOf N)) → AreSameClasses i.classes ds → ◌≡◌ {A = Result (ImageOf N) Cause} (changed is_same kernel (unplaced c) (with_classes ds i)) (Ok k)
      → ◌≡◌ {A = Result (ImageOf N) Cause} (changed is_same kernel c i) (Ok (change_gives is_same kernel c i))
  given_back kernel c i k ds m h =
      changed_is is_same kernel c i
      ∙ ap (λ (o : Option Cause). option_map_or Err o (Ok (change_gives is_same kernel c i)))
      (ap first_cause (change_refusals_same is_same reflexive equal i ds m kernel c)
      ∙ (unless_gives (change_refusals is_same kernel (unplaced c) (with_classes ds i)) (change_gives is_same kernel (unplaced c) (with_classes ds i)) k (sym (changed_is is_same kernel (unplaced c) (with_classes ds i)) ∙ h)).0)
