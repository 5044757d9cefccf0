-- An image without classes and methods can be written.
use Rattle.std.proofs.Common.{◌≡◌, ℕ, ◌<◌, List, [], length, map, Bool, true, false, subst, sym, true≢false}
use Rattle.std.specs.List.{AllByRecursion}
use Rattle.image_model.specs.Image.{ClassOf}
use Rattle.image_model.specs.ImageNames.{ClassNames}
use Rattle.class_table.specs.Slots.{Slots}
use Rattle.class_table.specs.View.{live, class_of}
use Rattle.class_table.specs.Valid.{IsLive}
use Rattle.image_file.specs.Writable.{IsWritable}

-- where no class and no method is live, nothing is demanded
pub writable_without_classes : (s : Slots) → s.class_order ≡ [] → s.method_order ≡ [] → IsWritable s
writable_without_classes s no_class no_method = record {
  names = subst (λ (order : List ℕ). AllByRecursion (ClassNames (λ n. n < length s.names)) (map (class_of s.classes) (live s.classes order))) (sym no_class) tt;
  superclasses = λ j k c l e h. absurd (true≢false (sym (subst (λ (order : List ℕ). IsLive order k) no_class l)));
  method_classes = λ k m l e. absurd (true≢false (sym (subst (λ (order : List ℕ). IsLive order k) no_method l)));
}
