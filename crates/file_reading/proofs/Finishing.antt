-- What is known at the end of a file-out.
use Rattle.std.proofs.Common.{◌≡◌, ℕ, Bool, true, false, cond, List, [], ◌∷◌, Some, refl, sym, subst}
use Rattle.std.specs.Prelude.{nat_eq, is_some}
use Rattle.std.specs.List.{AllByRecursion}
use Rattle.std.specs.Option.{ForSome}
use Rattle.std.proofs.lemmas.Bool.{eqb-true}
use Rattle.image_model.specs.Image.{ClassOf}
use Rattle.image_model.specs.Chain.{class_named}
use Rattle.image_model.specs.ImageNames.{ClassNames, ImageNames}
use Rattle.file_model.specs.Hierarchy.{has_class}
use Rattle.file_model.specs.Filing.{Text}
use Rattle.image_draft.specs.declared.draft.Draft.{Draft}
use Rattle.image_draft.specs.Drafted.{image_of, IsWhole}
use Rattle.file_reading.specs.Filed.{IsNumberIn}

-- the name of a class that is there is one of the names of the classes
class_known : (P : ℕ → Type 0) (cs : List (ClassOf ℕ)) (n : ℕ) → AllByRecursion (ClassNames P) cs → has_class nat_eq cs n ≡ true → P n
class_known P [] n all e = absurd (cc)
class_known P (c ∷ cs) n all e = by (nat_eq n c.name) refl e (class_known P cs n all.1)
  where
    by : (b : Bool) → nat_eq n c.name ≡ b → is_some (cond b (Some c) (class_named nat_eq cs n)) ≡ true → (has_class nat_eq cs n ≡ true → P n) → P n
    by true same h rest = subst P (sym (eqb-true n c.name same)) all.0.name
    by false same h rest = rest h

-- the class of the run of a whole draft is in the table of names
pub run_known : (names : List Text) (d : Draft) → IsWhole d → ImageNames (IsNumberIn names) (image_of d) → ForSome d.run (λ r. IsNumberIn names r.class)
run_known names d whole known r e = class_known (IsNumberIn names) (image_of d).classes r.class known.classes (whole.run_class_there r e)
