-- Images whose sources spell their trees.
use Rattle.std.specs.Prelude.{◌≡◌, List, ℕ, false}
use Rattle.std.specs.List.{AllByRecursion}
use Rattle.token_model.specs.declared.kind.Dialect.TheVariants.{Second}
use Rattle.grammar_model.specs.Spelling.{SpellsDoIt, SpellsMethod}
use Rattle.image_model.specs.Image.{EntryOf, DoItOf, ImageOf}

-- the source of each method of a user spells the method's tree, and the source of each do-it its body, in the second dialect
pub record AreSpelled (i : ImageOf (List ℕ)) : Type 0 where
  pub methods : AllByRecursion (λ (m : EntryOf (List ℕ)). m.kernel ≡ false → SpellsMethod Second false m.source m.tree) i.methods
  pub doits : AllByRecursion (λ (d : DoItOf (List ℕ)). SpellsDoIt Second d.source d.body) i.doits
