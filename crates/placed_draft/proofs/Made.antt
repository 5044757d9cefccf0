-- What changes make of an image whose classes stand in the order of names.
use Rattle.std.proofs.Common.{◌≡◌, ℕ, Bool, true, false, not, List, [], ◌∷◌, ◌++◌, filter, Option, Some, None, Result, Ok, Err, IfNone, nat_eq, refl, sym, ap, subst, ◌∙◌, true≢false}
use Rattle.std.specs.Prelude.{◌||◌, if◌then◌else◌}
use Rattle.std.specs.Option.{option_map_or}
use Rattle.image_model.specs.Image.{ClassOf, ImageOf}
use Rattle.image_model.specs.Valid.{HasNoRepeat, class_names, SuperclassesStandBefore}
use Rattle.image_model.specs.Means.{of_instance, of_class_side}
use Rattle.file_model.specs.Causes.{Cause, Condition, first_cause, unless, when, KernelReplaced, UnknownSuperclass, Cycle, VariableTwice, TooMany}
use Rattle.file_model.specs.Changes.{DefinitionOf, ChangeOf, Define, DefineAt, Comment, SetClassSide, RemoveMethod, RemoveClass}
use Rattle.file_model.specs.Hierarchy.{has_class, is_kernel_class, has_repeat, stands_twice, settled}
use Rattle.file_model.specs.Refusals.{lacks_superclass, makes_cycle, is_one_class_too_many, definition_refusals, comment_refusals, class_side_refusals, removal_refusals, class_removal_refusals}
use Rattle.file_model.specs.Applied.{new_class, class_again, changed_class, with_definition, defined, with_comment, with_class_side, without_method, without_class, changed}
use Rattle.file_faults.specs.declared.fault.ImageCause.{ImageCause}
use Rattle.file_laws.specs.Orders.{AreSameClasses, with_classes}
use Rattle.file_laws.proofs.OtherOrder.{same_itself, same_with_definition, same_with_class_side}
use Rattle.file_laws.proofs.OtherOrderLooks.{has_same}
use Rattle.file_laws.proofs.OtherOrderRefusals.{definition_refusals_same, comment_refusals_same, class_side_refusals_same, removal_refusals_same, class_removal_refusals_same}
use Rattle.file_laws.proofs.OtherOrderChanges.{unless_refused, unless_gives, defined_same}
use Rattle.file_laws.proofs.Refused.{second_none, third_none}
use Rattle.image_draft.specs.Arranged.{in_order}
use Rattle.image_draft.specs.Drafted.{Makes}
use Rattle.placed_draft.specs.Placed.{NamesEach, LeavesOrder}
use Rattle.placed_draft.proofs.Numbers.{nat_itself, nat_equal}
use Rattle.placed_draft.proofs.Ordered.{in_order_moved, in_order_changed, in_order_new, in_order_without}
use Rattle.placed_draft.proofs.OrderKept.{ordered_same, each_moved, each_changed, each_new, each_without}

-- the value, unless there is a cause
abbrev given : {X : Type 0} → Option Cause → X → Result X Cause
given o x = option_map_or Err o (Ok x)

-- the same conditions let or refuse another value too
unless_none : {X : Type 0} (rs : List Condition) (x : X) → first_cause rs ≡ None → ◌≡◌ {A = Result X Cause} (unless rs x) (Ok x)
unless_none rs x h = ap (λ (o : Option Cause). given o x) h

pub made_alike : (cause : Option ImageCause) (rs qs : List Condition) (x j y k : ImageOf ℕ) → qs ≡ rs → (first_cause rs ≡ None → x ≡ j → y ≡ k) → Makes cause (unless rs x) j → Makes cause (unless qs y) k
made_alike None rs qs x j y k same f made =
    let g = unless_gives rs x j made in
    unless_none qs y (ap first_cause same ∙ g.0) ∙ ap Ok (f g.0 g.1)
made_alike (Some c) rs qs x j y k same f made = (made.0, made.1, ap (λ cs. unless cs y) same ∙ unless_refused rs x y made.0 made.2)

-- what is made of what was not refused
pub made_then : {P : Type 0} (cause : Option ImageCause) (rs : List Condition) (x j : ImageOf ℕ) → (first_cause rs ≡ None → x ≡ j → P) → Makes cause (unless rs x) j → IfNone cause P
made_then None rs x j f made = let g = unless_gives rs x j made in f g.0 g.1
made_then (Some c) rs x j f made = tt

-- the image with its classes in the order of names
abbrev pub arranged : List ℕ → ImageOf ℕ → ImageOf ℕ
arranged names i = with_classes (in_order names i.classes) i

-- a change that leaves the classes where they stand
module _ (kernel : Bool) (names : List ℕ) (i j : ImageOf ℕ) (once : HasNoRepeat (class_names i.classes)) (each : NamesEach names i.classes) (cause : Option ImageCause) where
  abbrev is_same : AreSameClasses (in_order names i.classes) i.classes
  is_same = ordered_same names i.classes once each

  pub kept_made : (c : ChangeOf ℕ) → LeavesOrder c → Makes cause (changed nat_eq kernel c i) j → Makes cause (changed nat_eq kernel c (arranged names i)) (arranged names j)
  kept_made (Define d) leaves made = absurd leaves
  kept_made (DefineAt d k) leaves made = absurd leaves
  kept_made (RemoveClass n) leaves made = absurd leaves
  kept_made (Comment n text) leaves made =
      made_alike cause (comment_refusals nat_eq i.classes n) (comment_refusals nat_eq (in_order names i.classes) n) (with_classes (with_comment nat_eq n text i.classes) i) j
      (with_classes (with_comment nat_eq n text (in_order names i.classes)) i) (arranged names j) (comment_refusals_same nat_eq nat_itself nat_equal (in_order names i.classes) i.classes is_same n)
      (λ none e. ap (λ (cs : List (ClassOf ℕ)). with_classes cs i) (sym (in_order_changed n (λ (c : ClassOf ℕ). record c { comment = text }) (λ c. refl) names i.classes)) ∙ ap (arranged names) e) made
  kept_made (SetClassSide n ns) leaves made =
      made_alike cause (class_side_refusals nat_eq i.classes n ns (with_class_side nat_eq n ns i.classes)) (class_side_refusals nat_eq (in_order names i.classes) n ns (with_class_side nat_eq n ns (in_order names i.classes))) (with_classes (with_class_side nat_eq n ns i.classes) i) j
      (with_classes (with_class_side nat_eq n ns (in_order names i.classes)) i) (arranged names j)
      (class_side_refusals_same nat_eq nat_itself nat_equal (in_order names i.classes) i.classes is_same n ns (with_class_side nat_eq n ns (in_order names i.classes)) (with_class_side nat_eq n ns i.classes) (same_with_class_side nat_eq nat_itself nat_equal n ns (in_order names i.classes) i.classes is_same))
      (λ none e. ap (λ (cs : List (ClassOf ℕ)). with_classes cs i) (sym (in_order_changed n (λ (c : ClassOf ℕ). record c { class_side = ns }) (λ c. refl) names i.classes)) ∙ ap (arranged names) e) made
  kept_made (RemoveMethod c meta s) leaves made =
      made_alike cause (removal_refusals nat_eq i c meta s) (removal_refusals nat_eq (arranged names i) c meta s) (without_method nat_eq c meta s i) j (without_method nat_eq c meta s (arranged names i)) (arranged names j)
      (removal_refusals_same nat_eq nat_itself nat_equal (arranged names i) i.classes is_same c meta s) (λ none e. ap (arranged names) e) made

  pub kept_each : (c : ChangeOf ℕ) → LeavesOrder c → Makes cause (changed nat_eq kernel c i) j → IfNone cause (NamesEach names j.classes)
  kept_each (Define d) leaves made = absurd leaves
  kept_each (DefineAt d k) leaves made = absurd leaves
  kept_each (RemoveClass n) leaves made = absurd leaves
  kept_each (Comment n text) leaves made =
      made_then cause (comment_refusals nat_eq i.classes n) (with_classes (with_comment nat_eq n text i.classes) i) j
      (λ none e. subst (λ (k : ImageOf ℕ). NamesEach names k.classes) e (each_changed n (λ (c : ClassOf ℕ). record c { comment = text }) (λ c. refl) names i.classes each)) made
  kept_each (SetClassSide n ns) leaves made =
      made_then cause (class_side_refusals nat_eq i.classes n ns (with_class_side nat_eq n ns i.classes)) (with_classes (with_class_side nat_eq n ns i.classes) i) j
      (λ none e. subst (λ (k : ImageOf ℕ). NamesEach names k.classes) e (each_changed n (λ (c : ClassOf ℕ). record c { class_side = ns }) (λ c. refl) names i.classes each)) made
  kept_each (RemoveMethod c meta s) leaves made =
      made_then cause (removal_refusals nat_eq i c meta s) (without_method nat_eq c meta s i) j (λ none e. subst (λ (k : ImageOf ℕ). NamesEach names k.classes) e each) made

  -- a class is removed
  pub removed_made : (n : ℕ) → Makes cause (changed nat_eq kernel (RemoveClass n) i) j → Makes cause (changed nat_eq kernel (RemoveClass n) (arranged names i)) (arranged (filter (λ m. not (nat_eq n m)) names) j)
  removed_made n made =
      made_alike cause (class_removal_refusals nat_eq i.classes n) (class_removal_refusals nat_eq (in_order names i.classes) n) (without_class nat_eq n i) j (without_class nat_eq n (arranged names i)) (arranged (filter (λ m. not (nat_eq n m)) names) j)
      (class_removal_refusals_same nat_eq nat_itself nat_equal (in_order names i.classes) i.classes is_same n)
      (λ none e. ap (λ (cs : List (ClassOf ℕ)). with_classes cs (without_class nat_eq n i)) (sym (in_order_without n names i.classes)) ∙ ap (arranged (filter (λ m. not (nat_eq n m)) names)) e) made

  pub removed_each : (n : ℕ) → Makes cause (changed nat_eq kernel (RemoveClass n) i) j → IfNone cause (NamesEach (filter (λ m. not (nat_eq n m)) names) j.classes)
  removed_each n made =
      made_then cause (class_removal_refusals nat_eq i.classes n) (without_class nat_eq n i) j
      (λ none e. subst (λ (k : ImageOf ℕ). NamesEach (filter (λ m. not (nat_eq n m)) names) k.classes) e (each_without n names i.classes each)) made

-- a definition
module _ (kernel : Bool) (names : List ℕ) (i j : ImageOf ℕ) (once : HasNoRepeat (class_names i.classes)) (before : SuperclassesStandBefore i.classes) (each : NamesEach names i.classes) (cause : Option ImageCause) (d : DefinitionOf ℕ) where
  abbrev cs : List (ClassOf ℕ)
  cs = in_order names i.classes

  abbrev is_alike : AreSameClasses cs i.classes
  is_alike = ordered_same names i.classes once each

  -- the names with that of the class, unless it was there
  abbrev pub names_with : List ℕ
  names_with = if has_class nat_eq i.classes d.name then names else names ++ d.name ∷ []

  abbrev refusals : List Condition
  refusals = definition_refusals nat_eq i.classes d (with_definition nat_eq kernel d i.classes)

  abbrev last_refusals : List Condition
  last_refusals =
      when (stands_twice nat_eq (with_definition nat_eq kernel d i.classes) of_instance d.name || (stands_twice nat_eq (with_definition nat_eq kernel d i.classes) of_class_side d.name || has_repeat nat_eq d.shared)) VariableTwice
      ∷ when (is_one_class_too_many nat_eq i.classes d.name) TooMany ∷ []

  lacks_none : first_cause refusals ≡ None → lacks_superclass nat_eq i.classes d ≡ false
  lacks_none none =
      second_none (when (is_kernel_class nat_eq i.classes d.name) KernelReplaced) (when (lacks_superclass nat_eq i.classes d) UnknownSuperclass)
      (when (makes_cycle nat_eq i.classes d) Cycle ∷ last_refusals) none

  cycle_none : first_cause refusals ≡ None → makes_cycle nat_eq i.classes d ≡ false
  cycle_none none =
      third_none (when (is_kernel_class nat_eq i.classes d.name) KernelReplaced) (when (lacks_superclass nat_eq i.classes d) UnknownSuperclass) (when (makes_cycle nat_eq i.classes d) Cycle) last_refusals none

  refusals_same : definition_refusals nat_eq cs d (with_definition nat_eq kernel d cs) ≡ refusals
  refusals_same =
      definition_refusals_same nat_eq nat_itself nat_equal cs i.classes is_alike d (with_definition nat_eq kernel d cs) (with_definition nat_eq kernel d i.classes) (same_with_definition nat_eq nat_itself nat_equal kernel d cs i.classes is_alike)

  -- the classes with the definition, in order or not
  with_same : first_cause refusals ≡ None → AreSameClasses (with_definition nat_eq kernel d i.classes) (defined nat_eq kernel d i.classes)
  with_same none = record {
    permutation = (defined_same nat_eq nat_itself nat_equal kernel d i.classes (record { distinct = once; before = before }) (lacks_none none) (cycle_none none)).0;
    distinct = (same_with_definition nat_eq nat_itself nat_equal kernel d i.classes i.classes (same_itself nat_eq nat_itself nat_equal i.classes once)).distinct;
  }

  -- the classes in the order of names with the definition are those with the definition in the order of names
  arranged_with : in_order names_with (with_definition nat_eq kernel d i.classes) ≡ with_definition nat_eq kernel d cs
  arranged_with = by (has_class nat_eq i.classes d.name) refl (has_class nat_eq cs d.name) (has_same nat_eq nat_itself nat_equal cs i.classes is_alike d.name)
    where
      by : (b : Bool) → has_class nat_eq i.classes d.name ≡ b → (a : Bool) → a ≡ has_class nat_eq i.classes d.name
          → in_order (if b then names else names ++ d.name ∷ []) (if b then changed_class nat_eq d.name (class_again d) i.classes else i.classes ++ new_class kernel d ∷ []) ≡ (if a then changed_class nat_eq d.name (class_again d) cs else cs ++ new_class kernel d ∷ [])
      by true e true f = in_order_changed d.name (class_again d) (λ c. refl) names i.classes
      by false e false f = in_order_new (new_class kernel d) names i.classes each.there e
      by true e false f = absurd (true≢false (sym e ∙ sym f))
      by false e true f = absurd (true≢false (f ∙ e))

  each_with : NamesEach names_with (with_definition nat_eq kernel d i.classes)
  each_with = by (has_class nat_eq i.classes d.name) refl
    where
      by : (b : Bool) → has_class nat_eq i.classes d.name ≡ b → NamesEach (if b then names else names ++ d.name ∷ []) (if b then changed_class nat_eq d.name (class_again d) i.classes else i.classes ++ new_class kernel d ∷ [])
      by true e = each_changed d.name (class_again d) (λ c. refl) names i.classes each
      by false e = each_new (new_class kernel d) names i.classes e each

  -- the order stays
  pub stated_made : (place : ℕ) → Makes cause (changed nat_eq kernel (Define d) i) j → Makes cause (changed nat_eq kernel (DefineAt d place) (arranged names i)) (arranged names_with j)
  stated_made place made =
      made_alike cause refusals (definition_refusals nat_eq cs d (with_definition nat_eq kernel d cs)) (with_classes (defined nat_eq kernel d i.classes) i) j (with_classes (with_definition nat_eq kernel d cs) i) (arranged names_with j) refusals_same
      (λ none e. ap (λ (es : List (ClassOf ℕ)). with_classes es i) (sym arranged_with ∙ in_order_moved names_with (with_definition nat_eq kernel d i.classes) (defined nat_eq kernel d i.classes) (with_same none)) ∙ ap (arranged names_with) e) made

  pub defined_each : Makes cause (changed nat_eq kernel (Define d) i) j → IfNone cause (NamesEach names_with j.classes)
  defined_each made =
      made_then cause refusals (with_classes (defined nat_eq kernel d i.classes) i) j
      (λ none e. subst (λ (k : ImageOf ℕ). NamesEach names_with k.classes) e (each_moved names_with (with_definition nat_eq kernel d i.classes) (defined nat_eq kernel d i.classes) (with_same none) each_with)) made

  -- a new class comes last
  pub new_made : has_class nat_eq i.classes d.name ≡ false → Makes cause (changed nat_eq kernel (Define d) i) j → Makes cause (changed nat_eq kernel (Define d) (arranged names i)) (arranged names_with j)
  new_made fresh made =
      subst (λ (es : List (ClassOf ℕ)). Makes cause (unless (definition_refusals nat_eq cs d (with_definition nat_eq kernel d cs)) (with_classes es i)) (arranged names_with j))
      (ap (λ (b : Bool). if b then settled nat_eq (with_definition nat_eq kernel d cs) else with_definition nat_eq kernel d cs) (sym (has_same nat_eq nat_itself nat_equal cs i.classes is_alike d.name ∙ fresh))) (stated_made 0 made)

  -- the classes are put in order where one of them is defined again
  pub again_made : has_class nat_eq i.classes d.name ≡ true → Makes cause (changed nat_eq kernel (Define d) i) j → Makes cause (changed nat_eq kernel (Define d) (arranged names i)) (with_classes (settled nat_eq (in_order names j.classes)) j)
  again_made there made =
      made_alike cause refusals (definition_refusals nat_eq cs d (with_definition nat_eq kernel d cs)) (with_classes (defined nat_eq kernel d i.classes) i) j (with_classes (defined nat_eq kernel d cs) i) (with_classes (settled nat_eq (in_order names j.classes)) j) refusals_same
      (λ none e. ap (λ (es : List (ClassOf ℕ)). with_classes es i) (is_settled none) ∙ ap (λ (k : ImageOf ℕ). with_classes (settled nat_eq (in_order names k.classes)) k) e) made
    where
      same_names : names_with ≡ names
      same_names = ap (λ (b : Bool). if b then names else names ++ d.name ∷ []) there

      is_settled : first_cause refusals ≡ None → defined nat_eq kernel d cs ≡ settled nat_eq (in_order names (defined nat_eq kernel d i.classes))
      is_settled none =
          ap (λ (b : Bool). if b then settled nat_eq (with_definition nat_eq kernel d cs) else with_definition nat_eq kernel d cs) (has_same nat_eq nat_itself nat_equal cs i.classes is_alike d.name ∙ there)
          ∙ ap (settled nat_eq) (sym arranged_with ∙ ap (λ ns. in_order ns (with_definition nat_eq kernel d i.classes)) same_names ∙ in_order_moved names (with_definition nat_eq kernel d i.classes) (defined nat_eq kernel d i.classes) (with_same none))

  pub again_each : has_class nat_eq i.classes d.name ≡ true → Makes cause (changed nat_eq kernel (Define d) i) j → IfNone cause (NamesEach names j.classes)
  again_each there made =
      subst (λ (ns : List ℕ). IfNone cause (NamesEach ns j.classes)) (ap (λ (b : Bool). if b then names else names ++ d.name ∷ []) there) (defined_each made)
