-- Variables that are noted for classes.
use Rattle.std.proofs.Common.{◌≡◌, ℕ, ◌+◌, ◌<◌, true, List, length, take, get_or, sym, subst}
use Rattle.std.specs.List.{AllByRecursion}
use Rattle.image_model.specs.Image.{ClassOf}
use Rattle.image_model.specs.Means.{of_instance, of_class_side}
use Rattle.image_model.proofs.Ends.{all-end}
use Rattle.image_model.proofs.Lists.{all-implies}
use Rattle.image_draft.specs.Owners.{is_noted_for, AreOwned, IsUnderNoted, KeepsNames, KeepsNotes}
use Rattle.image_draft.specs.declared.owners.Owners.{Owners}
use Rattle.image_draft.specs.declared.owners.VariableOwners.{VariableOwners}
use Rattle.image_draft.proofs.InOrder.{taken_more}
use Rattle.image_draft.proofs.Owned.{IsNotedOf, noted_still, under_still}

-- one variable more
pub noted_more : (before after : VariableOwners) → KeepsNotes before after → (n : ℕ) (names : List ℕ) (i m : ℕ) → i < length names → m ≡ get_or names i m
    → AllByRecursion (λ x. is_noted_for before n x ≡ true) (take i names) → is_noted_for after n m ≡ true → AllByRecursion (λ x. is_noted_for after n x ≡ true) (take (i + 1) names)
noted_more before after kept n names i m less at all here =
    subst (AllByRecursion (λ x. is_noted_for after n x ≡ true)) (sym (taken_more names i m less at))
    (all-end (λ x. is_noted_for after n x ≡ true) (take i names) m (all-implies (λ x. is_noted_for before n x ≡ true) (λ x. is_noted_for after n x ≡ true) (λ x h. kept n x h) (take i names) all) here)

-- one class more
pub owned_more : (before after : Owners) → KeepsNotes before.instance after.instance → KeepsNotes before.class_side after.class_side → KeepsNames before.superclasses after.superclasses → (cs : List (ClassOf ℕ)) (i : ℕ) (c : ClassOf ℕ) → i < length cs → c ≡ get_or cs i c
    → AreOwned before (take i cs) → IsNotedOf after.instance of_instance c → IsNotedOf after.class_side of_class_side c → IsUnderNoted after.superclasses c → AreOwned after (take (i + 1) cs)
owned_more before after instance_kept class_side_kept superclasses_kept cs i c less at owned instance class_side under =
    subst (AreOwned after) (sym (taken_more cs i c less at)) (record {
      instance = all-end (IsNotedOf after.instance of_instance) (take i cs) c (noted_still before.instance after.instance instance_kept of_instance (take i cs) owned.instance) instance;
      class_side = all-end (IsNotedOf after.class_side of_class_side) (take i cs) c (noted_still before.class_side after.class_side class_side_kept of_class_side (take i cs) owned.class_side) class_side;
      superclasses = all-end (IsUnderNoted after.superclasses) (take i cs) c (under_still before.superclasses after.superclasses superclasses_kept (take i cs) owned.superclasses) under;
    })
