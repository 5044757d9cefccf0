-- Nothing is renamed, and then one selector.
use Rattle.std.proofs.Common.{refl}
use Rattle.run_model.specs.Values.{Name}
use Rattle.run_model.specs.Renamings.{no_renaming, IsComposite}
use Rattle.rename_model.specs.OneRenamed.{one_selector}

pub nothing-first : (s t : Name) → IsComposite no_renaming (one_selector s t) (one_selector s t)
nothing-first s t = record {
  classes = λ c. refl;
  selectors = λ u. refl;
  shared = λ k. refl;
  instance = λ k. refl;
  class_side = λ k. refl;
  temporaries = λ k. refl;
}

-- one selector, and then nothing
pub nothing-last : (s t : Name) → IsComposite (one_selector s t) no_renaming (one_selector s t)
nothing-last s t = record {
  classes = λ c. refl;
  selectors = λ u. refl;
  shared = λ k. refl;
  instance = λ k. refl;
  class_side = λ k. refl;
  temporaries = λ k. refl;
}
