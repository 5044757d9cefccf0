use Rattle.std.proofs.Common.{◌≡◌, ap, ◌∙◌}
use Rattle.std.specs.Prelude.{List, filter}
use Rattle.rb_base.specs.Names.{text_eq}
use Rattle.image_model.specs.Image.{ImageOf}
use Rattle.image_model.specs.Means.{of_instance, of_class_side}
use Rattle.run_model.specs.Values.{Name}
use Rattle.run_model.specs.Store.{same_pair}
use Rattle.run_model.specs.Renamings.{OfClass, mapped, instance_image, class_side_image}
use Rattle.mapped_model.specs.RenamedVariables.{renamed_below}
use Rattle.rename_model.specs.Conditions.{stands_below}
use Rattle.rename_model.specs.OneRenamed.{one_variable}
use Rattle.inverse_laws.specs.Inverse.{inverse}
use Rattle.inverse_laws.proofs.OneBack.{text-back, pair-back, temporary-back, below-back, entries-turned}
use Rattle.inverse_laws.proofs.names.law_names_back.Goals as goal

-- the inverse of a renamed variable is the variable that is called by its old name
turned : (i : ImageOf Name) (c x y : Name) (k : OfClass) → instance_image (inverse (one_variable i of_instance c x y)) k ≡ instance_image (one_variable i of_instance c y x) k
turned i c x y k = ap (λ (es : List (OfClass × Name)). (k.0, mapped same_pair es k k.1)) (entries-turned (filter (stands_below text_eq i.classes c) i.classes) x y)

turned_side : (i : ImageOf Name) (c x y : Name) (k : OfClass) → class_side_image (inverse (one_variable i of_class_side c x y)) k ≡ class_side_image (one_variable i of_class_side c y x) k
turned_side i c x y k = ap (λ (es : List (OfClass × Name)). (k.0, mapped same_pair es k k.1)) (entries-turned (filter (stands_below text_eq i.classes c) i.classes) x y)

pub returns : goal.returns
returns g = record {
  class = λ c d n other. text-back c d n other;
  selector = λ s t n other. text-back s t n other;
  shared = λ i c x y k other. pair-back (c, x) (c, y) k other;
  moved = λ c x d k other. pair-back (c, x) (d, x) k other;
  instance = λ i c x y k ordered other.
      ap (instance_image (inverse (one_variable i of_instance c x y))) (g.law_renamed_variable_of.ensures.instance_names i c x y k ordered)
      ∙ turned i c x y (k.0, renamed_below i c x y k) ∙ g.law_renamed_variable_of.ensures.instance_names i c y x (k.0, renamed_below i c x y k) ordered
      ∙ ap (λ n. (k.0, n)) (below-back i c x y k other);
  class_side = λ i c x y k ordered other.
      ap (class_side_image (inverse (one_variable i of_class_side c x y))) (g.law_renamed_variable_of.ensures.class_side_names i c x y k ordered)
      ∙ turned_side i c x y (k.0, renamed_below i c x y k) ∙ g.law_renamed_variable_of.ensures.class_side_names i c y x (k.0, renamed_below i c x y k) ordered
      ∙ ap (λ n. (k.0, n)) (below-back i c x y k other);
  temporary = λ c meta s x y t other. temporary-back (c, meta, s) x y t other;
}
