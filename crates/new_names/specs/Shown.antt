-- What runs show of renamings.
use Rattle.std.specs.Prelude.{◌≡◌}
use Rattle.run_model.specs.Values.{Name}
use Rattle.run_model.specs.Renamings.{Renaming, class_image, selector_image}

-- both say the same of classes and selectors, which is all that a run shows
pub record ShowsTheSame (r q : Renaming) : Type 0 where
  pub classes : (c : Name) → class_image r c ≡ class_image q c
  pub selectors : (s : Name) → selector_image r s ≡ selector_image q s
