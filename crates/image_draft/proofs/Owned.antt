-- Where each variable is noted for its class, it stays so where classes are changed, and where no two classes have one of one name, none stands twice on a chain.
use Rattle.std.proofs.Common.{◌≡◌, ℕ, Bool, true, false, List, [], ◌∷◌, ◌++◌, filter, Option, Some, None, nat_eq, refl, sym, subst, ◌∙◌}
use Rattle.std.specs.Prelude.{◌||◌, if◌then◌else◌}
use Rattle.std.specs.List.{AllByRecursion}
use Rattle.std.specs.Option.{option_map_or}
use Rattle.image_model.specs.Image.{ClassOf}
use Rattle.image_model.specs.Means.{VariableKind, of_instance, of_class_side, variables}
use Rattle.image_model.proofs.Ends.{all-end}
use Rattle.image_model.proofs.Lists.{all-implies}
use Rattle.file_model.specs.Changes.{DefinitionOf}
use Rattle.file_model.specs.Hierarchy.{has_class, has_repeat, stands_twice}
use Rattle.file_model.specs.Applied.{changed_class, class_again, new_class, with_definition, with_comment, with_class_side, defined}
use Rattle.file_laws.proofs.OtherOrder.{same_itself, all_reordered}
use Rattle.file_laws.proofs.OtherOrderChanges.{defined_alike}
use Rattle.file_laws.proofs.Sound.{All-filter}
use Rattle.image_draft.specs.NameSets.{has}
use Rattle.image_draft.specs.Names.{AreOrdered}
use Rattle.image_draft.specs.Once.{AreSound}
use Rattle.image_draft.specs.Owners.{is_noted_for, AreNoted, AreOwned, IsUnderNoted, KeepsNames, KeepsNotes, NoneShared}
use Rattle.image_draft.specs.declared.owners.Owners.{Owners}
use Rattle.image_draft.specs.declared.owners.VariableOwners.{VariableOwners}
use Rattle.image_draft.proofs.Numbers.{nat_itself, nat_equal}
use Rattle.image_draft.proofs.Ordered.{IsLet, once_of, lacks_none, cycle_none, defined_ordered, changed_ordered}
use Rattle.image_draft.proofs.Apart.{EachOnce, own_once, apart_once}

-- what follows of each of two tests
pub of_either : {P : Type 0} (a b both : Bool) → both ≡ (a || b) → (a ≡ true → P) → (b ≡ true → P) → both ≡ true → P
of_either {P} a b both is f g h = by a refl (sym is ∙ h)
  where
    by : (s : Bool) → a ≡ s → (s || b) ≡ true → P
    by true e k = f e
    by false e k = g k

-- the variables of a class are noted for it
abbrev pub IsNotedOf : VariableOwners → VariableKind → ClassOf ℕ → Type 0
IsNotedOf t kind c = AllByRecursion (λ m. is_noted_for t c.name m ≡ true) (variables kind c)

-- what is noted stays noted
pub noted_still : (before after : VariableOwners) → KeepsNotes before after → (kind : VariableKind) (cs : List (ClassOf ℕ)) → AreNoted before kind cs → AreNoted after kind cs
noted_still before after kept kind cs noted =
    all-implies (IsNotedOf before kind) (IsNotedOf after kind)
    (λ c h. all-implies (λ m. is_noted_for before c.name m ≡ true) (λ m. is_noted_for after c.name m ≡ true) (λ m e. kept c.name m e) (variables kind c) h) cs noted

-- a superclass that is noted is so among more names
pub under_still : (before after : List Bool) → KeepsNames before after → (cs : List (ClassOf ℕ)) → AllByRecursion (IsUnderNoted before) cs → AllByRecursion (IsUnderNoted after) cs
under_still before after kept cs noted = all-implies (IsUnderNoted before) (IsUnderNoted after) (λ c h. by c.superclass h) cs noted
  where
    by : (o : Option ℕ) → option_map_or (has before) o true ≡ true → option_map_or (has after) o true ≡ true
    by None h = refl
    by (Some s) h = kept s h

-- what is known of each class and of the class of a name that is changed
module _ (P : ClassOf ℕ → Type 0) (n : ℕ) (g : ClassOf ℕ → ClassOf ℕ) (keeps : (c : ClassOf ℕ) → nat_eq n c.name ≡ true → P c → P (g c)) where
  pub changed_each : (cs : List (ClassOf ℕ)) → AllByRecursion P cs → AllByRecursion P (changed_class nat_eq n g cs)
  changed_each [] all = tt
  changed_each (c ∷ cs) all = (by (nat_eq n c.name) refl, changed_each cs all.1)
    where
      by : (b : Bool) → nat_eq n c.name ≡ b → P (if b then g c else c)
      by true e = keeps c e all.0
      by false e = all.0

-- and of a definition
module _ (P : ClassOf ℕ → Type 0) (d : DefinitionOf ℕ) (kernel : Bool) (again : (c : ClassOf ℕ) → nat_eq d.name c.name ≡ true → P c → P (class_again d c)) (first : P (new_class kernel d)) where
  defined_each : (cs : List (ClassOf ℕ)) → AreOrdered cs → IsLet cs d → AllByRecursion P cs → AllByRecursion P (defined nat_eq kernel d cs)
  defined_each cs o let_in all =
      all_reordered P (with_definition nat_eq kernel d cs) (defined nat_eq kernel d cs)
      (defined_alike nat_eq nat_itself nat_equal kernel d cs cs (same_itself nat_eq nat_itself nat_equal cs (once_of cs o.differ)) o.before (lacks_none cs d let_in) (cycle_none cs d let_in)).0.permutation
      (by (has_class nat_eq cs d.name))
    where
      by : (b : Bool) → AllByRecursion P (if b then changed_class nat_eq d.name (class_again d) cs else cs ++ new_class kernel d ∷ [])
      by true = changed_each P d.name (class_again d) again cs all
      by false = all-end P cs (new_class kernel d) all first

-- a definition whose instance variables are noted
module _ (cs new : List (ClassOf ℕ)) (d : DefinitionOf ℕ) (kernel : Bool) (s : AreSound cs) (let_in : IsLet cs d) (is : new ≡ defined nat_eq kernel d cs) (before after : Owners) (owned : AreOwned before cs)
    (instance_kept : KeepsNotes before.instance after.instance) (class_side_kept : KeepsNotes before.class_side after.class_side) (superclasses_kept : KeepsNames before.superclasses after.superclasses) (noted : AllByRecursion (λ m. is_noted_for after.instance d.name m ≡ true) d.instance)
    (under : option_map_or (has after.superclasses) d.superclass true ≡ true) where
  pub defined_owned : AreOwned after new
  defined_owned = subst (AreOwned after) (sym is) (record {
    instance = defined_each (IsNotedOf after.instance of_instance) d kernel (λ c e h. subst (λ (n : ℕ). AllByRecursion (λ m. is_noted_for after.instance n m ≡ true) d.instance) (nat_equal d.name c.name e) noted) noted cs s.order let_in (noted_still before.instance after.instance instance_kept of_instance cs owned.instance);
    class_side = defined_each (IsNotedOf after.class_side of_class_side) d kernel (λ c e h. h) tt cs s.order let_in (noted_still before.class_side after.class_side class_side_kept of_class_side cs owned.class_side);
    superclasses = defined_each (IsUnderNoted after.superclasses) d kernel (λ c e h. under) under cs s.order let_in (under_still before.superclasses after.superclasses superclasses_kept cs owned.superclasses);
  })

  ordered : AreOrdered new
  ordered = subst AreOrdered (sym is) (defined_ordered cs d kernel s.order let_in)

  -- no variable of a kind stands twice where none is shared
  pub instance_apart : NoneShared after.instance → has_repeat nat_eq d.instance ≡ false → (n : ℕ) → stands_twice nat_eq new of_instance n ≡ false
  instance_apart none once n =
      apart_once new ordered of_instance after.instance defined_owned.instance none
      (subst (EachOnce of_instance) (sym is) (defined_each (λ (c : ClassOf ℕ). has_repeat nat_eq (variables of_instance c) ≡ false) d kernel (λ c e h. once) once cs s.order let_in (own_once cs of_instance s.order s.instance))) n

  pub class_side_apart : NoneShared after.class_side → (n : ℕ) → stands_twice nat_eq new of_class_side n ≡ false
  class_side_apart none n =
      apart_once new ordered of_class_side after.class_side defined_owned.class_side none
      (subst (EachOnce of_class_side) (sym is) (defined_each (λ (c : ClassOf ℕ). has_repeat nat_eq (variables of_class_side c) ≡ false) d kernel (λ c e h. h) refl cs s.order let_in (own_once cs of_class_side s.order s.class_side))) n

-- class-instance variables that are noted
module _ (cs new : List (ClassOf ℕ)) (n : ℕ) (names : List ℕ) (s : AreSound cs) (is : new ≡ with_class_side nat_eq n names cs) (before after : Owners) (owned : AreOwned before cs)
    (instance_kept : KeepsNotes before.instance after.instance) (class_side_kept : KeepsNotes before.class_side after.class_side) (superclasses_kept : KeepsNames before.superclasses after.superclasses) (noted : AllByRecursion (λ m. is_noted_for after.class_side n m ≡ true) names) where
  abbrev with_side : ClassOf ℕ → ClassOf ℕ
  with_side c = record c { class_side = names }

  pub side_owned : AreOwned after new
  side_owned = subst (AreOwned after) (sym is) (record {
    instance = changed_each (IsNotedOf after.instance of_instance) n with_side (λ c e h. h) cs (noted_still before.instance after.instance instance_kept of_instance cs owned.instance);
    class_side = changed_each (IsNotedOf after.class_side of_class_side) n with_side (λ c e h. subst (λ (k : ℕ). AllByRecursion (λ m. is_noted_for after.class_side k m ≡ true) names) (nat_equal n c.name e) noted) cs (noted_still before.class_side after.class_side class_side_kept of_class_side cs owned.class_side);
    superclasses = changed_each (IsUnderNoted after.superclasses) n with_side (λ c e h. h) cs (under_still before.superclasses after.superclasses superclasses_kept cs owned.superclasses);
  })

  pub side_apart : NoneShared after.class_side → has_repeat nat_eq names ≡ false → (m : ℕ) → stands_twice nat_eq new of_class_side m ≡ false
  side_apart none once m =
      apart_once new (subst AreOrdered (sym is) (changed_ordered n with_side (λ c. refl) (λ c. refl) cs s.order)) of_class_side after.class_side side_owned.class_side none
      (subst (EachOnce of_class_side) (sym is) (changed_each (λ (c : ClassOf ℕ). has_repeat nat_eq (variables of_class_side c) ≡ false) n with_side (λ c e h. once) cs (own_once cs of_class_side s.order s.class_side))) m

-- another comment of a class
pub commented_owned : (t : Owners) (n : ℕ) (text : List ℕ) (cs : List (ClassOf ℕ)) → AreOwned t cs → AreOwned t (with_comment nat_eq n text cs)
commented_owned t n text cs owned = record {
  instance = changed_each (IsNotedOf t.instance of_instance) n (λ (c : ClassOf ℕ). record c { comment = text }) (λ c e h. h) cs owned.instance;
  class_side = changed_each (IsNotedOf t.class_side of_class_side) n (λ (c : ClassOf ℕ). record c { comment = text }) (λ c e h. h) cs owned.class_side;
  superclasses = changed_each (IsUnderNoted t.superclasses) n (λ (c : ClassOf ℕ). record c { comment = text }) (λ c e h. h) cs owned.superclasses;
}

-- fewer classes
pub filtered_owned : (t : Owners) (p : ClassOf ℕ → Bool) (cs : List (ClassOf ℕ)) → AreOwned t cs → AreOwned t (filter p cs)
filtered_owned t p cs owned = record {
  instance = All-filter (IsNotedOf t.instance of_instance) p cs owned.instance;
  class_side = All-filter (IsNotedOf t.class_side of_class_side) p cs owned.class_side;
  superclasses = All-filter (IsUnderNoted t.superclasses) p cs owned.superclasses;
}
