-- An image with one more do-it.
use Rattle.std.specs.Prelude.{◌≡◌, ℕ, List}
use Rattle.token_model.specs.declared.kind.Dialect.TheVariants.{Second}
use Rattle.tree_model.specs.Tree.{SequenceOf}
use Rattle.grammar_model.specs.Spelling.{SpellsDoIt}
use Rattle.image_model.specs.Image.{ImageOf, plus}

-- the later image is the image with a last do-it, which the text spells
pub record IsWithDoIt (text : List ℕ) (image later : ImageOf (List ℕ)) : Type 0 where
  pub body : SequenceOf (List ℕ)
  pub spelled : SpellsDoIt Second text body
  pub added : later ≡ plus image (record { source = text; body = body })
