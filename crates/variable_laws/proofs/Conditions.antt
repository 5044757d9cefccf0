-- What a condition tells of a superclass.
use Rattle.std.proofs.Common.{◌≡◌, Option, Some, None, refl}
use Rattle.std.specs.Prelude.{true, false}
use Rattle.std.specs.Option.{option_map_or}
use Rattle.std.proofs.lemmas.Bool.{false≢true}
use Rattle.rb_base.specs.Names.{text_eq}
use Rattle.image_model.specs.Image.{ImageOf}
use Rattle.run_model.specs.Values.{Name}
use Rattle.rename_model.specs.Conditions.{is_user_class}
use Rattle.command_model.specs.Hierarchy.{superclass_name}
use Rattle.command_model.specs.ClassConditions.{has_user_parent}

-- the superclass, which is one of the user
pub user-parent : (i : ImageOf Name) (c : Name) → has_user_parent text_eq i c ≡ true → (p : Name) × (superclass_name text_eq i c ≡ Some p) × (is_user_class text_eq i p ≡ true)
user-parent i c h = by (superclass_name text_eq i c) refl h
  where
    by : (o : Option Name) → superclass_name text_eq i c ≡ o → option_map_or (is_user_class text_eq i) o false ≡ true → (p : Name) × (superclass_name text_eq i c ≡ Some p) × (is_user_class text_eq i p ≡ true)
    by None q r = absurd (false≢true r)
    by (Some p) q r = (p, q, r)
