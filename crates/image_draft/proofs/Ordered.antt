-- How classes stand once they are changed.
use Rattle.std.proofs.Common.{◌≡◌, ℕ, zero, suc, Bool, true, false, not, cond, List, [], ◌∷◌, filter, find, Some, None, nat_eq, refl, sym, ap, ◌∙◌, true≢false}
use Rattle.std.specs.Prelude.{◌||◌, if◌then◌else◌, is_some}
use Rattle.std.specs.List.{AllByRecursion}
use Rattle.image_model.specs.Image.{ClassOf}
use Rattle.image_model.specs.Replaced.{KeepsHierarchy}
use Rattle.image_model.specs.Valid.{HasNoRepeat, class_names}
use Rattle.image_model.proofs.Kept.{SuperclassesStandBefore-kept}
use Rattle.file_model.specs.Causes.{Condition, when, first_cause, KernelReplaced, UnknownSuperclass, Cycle, VariableTwice, TooMany}
use Rattle.file_model.specs.Changes.{DefinitionOf}
use Rattle.file_model.specs.Hierarchy.{has_class, is_kernel_class, has_subclass, has_repeat, stands_twice, settled}
use Rattle.file_model.specs.Refusals.{lacks_superclass, makes_cycle, is_one_class_too_many, definition_refusals}
use Rattle.file_model.specs.Applied.{changed_class, with_definition, defined}
use Rattle.image_model.specs.Means.{VariableKind, of_instance, of_class_side}
use Rattle.file_laws.specs.Settling.{AreInOrder, put_behind}
use Rattle.file_laws.proofs.Refused.{first_none, second_none, third_none}
use Rattle.file_laws.proofs.Redefined.{no_repeat_behind, apart}
use Rattle.file_laws.proofs.Repeats.{absent}
use Rattle.file_laws.proofs.Defined.{has_stands, defined_puts, defined_leaves, removed_order}
use Rattle.file_laws.proofs.Below.{defined_twice}
use Rattle.image_draft.specs.Names.{NamesDiffer, AreOrdered}
use Rattle.image_draft.specs.Early.{early_refusals, late_refusals}
use Rattle.image_draft.proofs.Numbers.{nat_itself, nat_equal}
use Rattle.image_draft.proofs.Differ.{NamesDiffer-changed, differ_back}

-- names that differ stand once
pub once_of : (cs : List (ClassOf ℕ)) → NamesDiffer cs → HasNoRepeat (class_names cs)
once_of [] h j k x a b = absurd (cc)
once_of (c ∷ cs) h zero zero x a b = refl
once_of (c ∷ cs) h zero (suc k) x a b = let same : c.name ≡ x = cc in absurd (absent nat_eq nat_itself nat_equal cs c.name h.0 k (b ∙ ap Some (sym same)))
once_of (c ∷ cs) h (suc j) zero x a b = let same : c.name ≡ x = cc in absurd (absent nat_eq nat_itself nat_equal cs c.name h.0 j (a ∙ ap Some (sym same)))
once_of (c ∷ cs) h (suc j) (suc k) x a b = ap suc (once_of cs h.1 j k x a b)

-- and the other way round
differ_of : (cs : List (ClassOf ℕ)) → HasNoRepeat (class_names cs) → NamesDiffer cs
differ_of [] h = tt
differ_of (c ∷ cs) h = (has_stands nat_eq nat_itself nat_equal cs c.name ∙ apart nat_eq nat_itself nat_equal [] c cs h, differ_of cs (no_repeat_behind c.name (class_names cs) h))

pub order_of : (cs : List (ClassOf ℕ)) → AreOrdered cs → AreInOrder cs
order_of cs o = record { distinct = once_of cs o.differ; before = o.before }

ordered_of : (cs : List (ClassOf ℕ)) → AreInOrder cs → AreOrdered cs
ordered_of cs o = record { differ = differ_of cs o.distinct; before = o.before }

-- what is known of a definition that the classes before it do not refuse
abbrev pub IsLet : List (ClassOf ℕ) → DefinitionOf ℕ → Type 0
IsLet cs d = first_cause (early_refusals cs d) ≡ None

kernel_none : (cs : List (ClassOf ℕ)) (d : DefinitionOf ℕ) → IsLet cs d → is_kernel_class nat_eq cs d.name ≡ false
kernel_none cs d none = (first_none (when (is_kernel_class nat_eq cs d.name) KernelReplaced) (when (lacks_superclass nat_eq cs d) UnknownSuperclass ∷ when (makes_cycle nat_eq cs d) Cycle ∷ []) none).0

pub lacks_none : (cs : List (ClassOf ℕ)) (d : DefinitionOf ℕ) → IsLet cs d → lacks_superclass nat_eq cs d ≡ false
lacks_none cs d none = second_none (when (is_kernel_class nat_eq cs d.name) KernelReplaced) (when (lacks_superclass nat_eq cs d) UnknownSuperclass) (when (makes_cycle nat_eq cs d) Cycle ∷ []) none

pub cycle_none : (cs : List (ClassOf ℕ)) (d : DefinitionOf ℕ) → IsLet cs d → makes_cycle nat_eq cs d ≡ false
cycle_none cs d none = third_none (when (is_kernel_class nat_eq cs d.name) KernelReplaced) (when (lacks_superclass nat_eq cs d) UnknownSuperclass) (when (makes_cycle nat_eq cs d) Cycle) [] none

-- a definition that is not refused, with the classes put behind one another
pub defined_is : (cs new : List (ClassOf ℕ)) (d : DefinitionOf ℕ) (kernel b : Bool) → AreOrdered cs → IsLet cs d → b ≡ has_class nat_eq cs d.name
    → new ≡ (if b then put_behind nat_eq d.name d.superclass (with_definition nat_eq kernel d cs) else with_definition nat_eq kernel d cs) → new ≡ defined nat_eq kernel d cs
defined_is cs new d kernel true o none there e =
    e ∙ sym (defined_puts nat_eq nat_itself nat_equal cs d kernel (order_of cs o) (sym there) (lacks_none cs d none) (cycle_none cs d none))
defined_is cs new d kernel false o none there e = e ∙ ap (λ (b : Bool). if b then settled nat_eq (with_definition nat_eq kernel d cs) else with_definition nat_eq kernel d cs) there

-- it leaves the classes in order, and each class is there still
pub defined_ordered : (cs : List (ClassOf ℕ)) (d : DefinitionOf ℕ) (kernel : Bool) → AreOrdered cs → IsLet cs d → AreOrdered (defined nat_eq kernel d cs)
defined_ordered cs d kernel o none =
    ordered_of (defined nat_eq kernel d cs) (defined_leaves nat_eq nat_itself nat_equal cs d kernel (order_of cs o) (lacks_none cs d none) (cycle_none cs d none)).order

pub defined_kept : (cs : List (ClassOf ℕ)) (d : DefinitionOf ℕ) (kernel : Bool) → AreOrdered cs → IsLet cs d
    → (n : ℕ) → has_class nat_eq cs n ≡ true → has_class nat_eq (defined nat_eq kernel d cs) n ≡ true
defined_kept cs d kernel o none = (defined_leaves nat_eq nat_itself nat_equal cs d kernel (order_of cs o) (lacks_none cs d none) (cycle_none cs d none)).kept

-- the classes with it, in order, decide the rest of its refusals
pub judged : (cs new : List (ClassOf ℕ)) (d : DefinitionOf ℕ) (kernel : Bool) (n : ℕ) (repeats too_many : Bool) → AreOrdered cs → IsLet cs d → new ≡ defined nat_eq kernel d cs → n ≡ d.name
    → repeats ≡ has_repeat nat_eq d.shared → too_many ≡ is_one_class_too_many nat_eq cs d.name
    → first_cause (late_refusals new n repeats too_many) ≡ first_cause (definition_refusals nat_eq cs d (with_definition nat_eq kernel d cs))
judged cs new d kernel n repeats too_many o none is named r t =
    (λ i. first_cause (late_refusals (is i) (named i) (r i) (t i)))
    ∙ (λ i. first_cause (when (sym (twice of_instance) i || (sym (twice of_class_side) i || has_repeat nat_eq d.shared)) VariableTwice ∷ when (is_one_class_too_many nat_eq cs d.name) TooMany ∷ []))
    ∙ sym (passed_over (is_kernel_class nat_eq cs d.name) (lacks_superclass nat_eq cs d) (makes_cycle nat_eq cs d) (kernel_none cs d none) (lacks_none cs d none) (cycle_none cs d none) (late_refusals (with_definition nat_eq kernel d cs) d.name (has_repeat nat_eq d.shared) (is_one_class_too_many nat_eq cs d.name)))
  where
    twice : (kind : VariableKind) → stands_twice nat_eq (with_definition nat_eq kernel d cs) kind d.name ≡ stands_twice nat_eq (defined nat_eq kernel d cs) kind d.name
    twice kind = defined_twice nat_eq nat_itself nat_equal cs d kernel (order_of cs o) (lacks_none cs d none) (cycle_none cs d none) kind d.name

    passed_over : (a b c : Bool) → a ≡ false → b ≡ false → c ≡ false → (rest : List Condition) → first_cause (when a KernelReplaced ∷ when b UnknownSuperclass ∷ when c Cycle ∷ rest) ≡ first_cause rest
    passed_over true b c k l m rest = absurd (true≢false k)
    passed_over false true c k l m rest = absurd (true≢false l)
    passed_over false false true k l m rest = absurd (true≢false m)
    passed_over false false false k l m rest = refl

-- the class of a name is changed and keeps its name and its superclass
module _ (n : ℕ) (g : ClassOf ℕ → ClassOf ℕ) (name : (c : ClassOf ℕ) → (g c).name ≡ c.name) (superclass : (c : ClassOf ℕ) → (g c).superclass ≡ c.superclass) where
  hierarchy_kept : (cs : List (ClassOf ℕ)) → AllByRecursion (KeepsHierarchy (λ (c : ClassOf ℕ). if nat_eq n c.name then g c else c)) cs
  hierarchy_kept [] = tt
  hierarchy_kept (c ∷ cs) = (record { name = named (nat_eq n c.name); superclass = under (nat_eq n c.name) }, hierarchy_kept cs)
    where
      named : (b : Bool) → (if b then g c else c).name ≡ c.name
      named true = name c
      named false = refl

      under : (b : Bool) → (if b then g c else c).superclass ≡ c.superclass
      under true = superclass c
      under false = refl

  pub changed_ordered : (cs : List (ClassOf ℕ)) → AreOrdered cs → AreOrdered (changed_class nat_eq n g cs)
  changed_ordered cs o = record {
    differ = NamesDiffer-changed n g name cs o.differ;
    before = SuperclassesStandBefore-kept (λ (c : ClassOf ℕ). if nat_eq n c.name then g c else c) cs (hierarchy_kept cs) o.before;
  }

-- a class that is the superclass of none is taken away
pub removed_ordered : (n : ℕ) (cs : List (ClassOf ℕ)) → has_subclass nat_eq cs n ≡ false → AreOrdered cs → AreOrdered (filter (λ (c : ClassOf ℕ). not (nat_eq n c.name)) cs)
removed_ordered n cs none o = ordered_of (filter (λ (c : ClassOf ℕ). not (nat_eq n c.name)) cs) (removed_order nat_eq nat_itself nat_equal cs n (order_of cs o) none)

-- and each class of another name is there still
pub removed_kept : (n : ℕ) (cs : List (ClassOf ℕ)) (m : ℕ) → nat_eq n m ≡ false → has_class nat_eq cs m ≡ true → has_class nat_eq (filter (λ (c : ClassOf ℕ). not (nat_eq n c.name)) cs) m ≡ true
removed_kept n cs m other there = has_filtered cs ∙ there
  where
    Found : Bool → ClassOf ℕ → List (ClassOf ℕ) → Bool
    Found b x xs = is_some (cond b (Some x) (find (λ (c : ClassOf ℕ). nat_eq m c.name) xs))

    same_found : (b : Bool) (x : ClassOf ℕ) (xs ys : List (ClassOf ℕ)) → has_class nat_eq xs m ≡ has_class nat_eq ys m → Found b x xs ≡ Found b x ys
    same_found true x xs ys h = refl
    same_found false x xs ys h = h

    has_filtered : (xs : List (ClassOf ℕ)) → has_class nat_eq (filter (λ (c : ClassOf ℕ). not (nat_eq n c.name)) xs) m ≡ has_class nat_eq xs m
    has_filtered [] = refl
    has_filtered (x ∷ xs) = by (nat_eq n x.name) refl (has_filtered xs)
      where
        by : (b : Bool) → nat_eq n x.name ≡ b → has_class nat_eq (filter (λ (c : ClassOf ℕ). not (nat_eq n c.name)) xs) m ≡ has_class nat_eq xs m
            → has_class nat_eq (cond (not b) (x ∷ filter (λ (c : ClassOf ℕ). not (nat_eq n c.name)) xs) (filter (λ (c : ClassOf ℕ). not (nat_eq n c.name)) xs)) m ≡ has_class nat_eq (x ∷ xs) m
        by true e rest =
            let apart_from : nat_eq m x.name ≡ false = differ_back x.name m (ap (λ k. nat_eq k m) (sym (nat_equal n x.name e)) ∙ other) in
            rest ∙ sym (ap (λ (b : Bool). Found b x xs) apart_from)
        by false e rest = same_found (nat_eq m x.name) x (filter (λ (c : ClassOf ℕ). not (nat_eq n c.name)) xs) xs rest
