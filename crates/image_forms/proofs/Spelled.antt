-- The sources of a file-out's image spell their trees.
use Rattle.std.proofs.Common.{◌≡◌, ℕ, false, List}
use Rattle.scope_model.proofs.ListsOfNames.{AllByRecursion-implies}
use Rattle.token_model.specs.declared.kind.Dialect.TheVariants.{Second}
use Rattle.grammar_model.specs.Spelling.{SpellsDoIt, SpellsMethod}
use Rattle.image_model.specs.Image.{EntryOf, DoItOf, ImageOf}
use Rattle.image_model.specs.Valid.{IsUserMethod, IsUserDoIt}
use Rattle.file_model.specs.Fileable.{reading_of}
use Rattle.file_model.specs.Reading.{IsImageOf}
use Rattle.file_laws.proofs.Sound.{user_methods_spelled, doits_spelled}
use Rattle.image_queries.specs.Spelled.{AreSpelled}

-- the image of a text
pub are_spelled : (prelude text : List ℕ) (image : ImageOf (List ℕ)) → IsImageOf Second prelude text image → AreSpelled image
are_spelled prelude text image read = record {
  methods = AllByRecursion-implies (λ (m : EntryOf (List ℕ)). m.kernel ≡ false → IsUserMethod (reading_of Second image) m)
      (λ (m : EntryOf (List ℕ)). m.kernel ≡ false → SpellsMethod Second false m.source m.tree) (λ m user none. (user none).spells) image.methods
      (user_methods_spelled Second prelude text image image read);
  doits = AllByRecursion-implies (IsUserDoIt (reading_of Second image)) (λ (d : DoItOf (List ℕ)). SpellsDoIt Second d.source d.body) (λ d user. user.spells) image.doits
      (doits_spelled Second prelude text image image read);
}
