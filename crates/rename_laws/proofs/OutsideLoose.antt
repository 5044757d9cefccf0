-- What a name means behind all scopes is no pseudo-variable and no argument.
use Rattle.std.proofs.Common.{◌≡◌, Option, Some, None, refl}
use Rattle.std.specs.Prelude.{Bool, true, false, if◌then◌else◌, option_map, unwrap_or}
use Rattle.std.specs.Option.{option_or}
use Rattle.rb_base.specs.Names.{text_eq}
use Rattle.image_model.specs.Image.{ClassOf, ImageOf}
use Rattle.image_model.specs.Words.{text_words}
use Rattle.image_model.specs.Chain.{class_named, chain}
use Rattle.image_model.specs.Means.{of_class, variable, a_class, transcript, undeclared, definer, side_kind, means_outside}
use Rattle.run_model.specs.Values.{Name}
use Rattle.rename_laws.specs.BehindKernel.{is_fixed}

found-loose : (meta : Bool) (side shared named : Option (ClassOf Name)) (b : Bool) →
    is_fixed (unwrap_or (option_or (option_map (λ (e : ClassOf Name). variable (side_kind meta) e.name) side) (option_or (option_map (λ (e : ClassOf Name). variable of_class e.name) shared) (option_or (option_map (λ (e : ClassOf Name). a_class e.name) named) (if b then Some transcript else None)))) undeclared) ≡ false
found-loose meta (Some e) shared named b = refl
found-loose meta None (Some e) named b = refl
found-loose meta None None (Some e) b = refl
found-loose meta None None None true = refl
found-loose meta None None None false = refl

pub outside-loose : (i : ImageOf Name) (home : Option Name) (meta : Bool) (n : Name) → is_fixed (means_outside text_words i home meta n) ≡ false
outside-loose i home meta n =
    found-loose meta (definer text_eq (side_kind meta) (chain text_eq i.classes home) n) (definer text_eq of_class (chain text_eq i.classes home) n) (class_named text_eq i.classes n) (text_words.is_transcript n)
