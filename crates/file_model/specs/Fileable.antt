-- Which images are valid and fileable: those that file-outs are texts of.
use Rattle.std.specs.Prelude.{◌≡◌, ◌≢◌, ℕ, List, [], false, IsTrue}
use Rattle.token_model.specs.declared.kind.Dialect.{Dialect}
use Rattle.tree_model.specs.Tree.{SequenceOf}
use Rattle.chunk_format.specs.Blank.{HasNoLeadingBlank}
use Rattle.grammar_model.specs.Spelling.{SpellsDoIt, SpellsMethod}
use Rattle.image_model.specs.Image.{ImageOf}
use Rattle.image_model.specs.Valid.{ReadingOf}
use Rattle.file_model.specs.Words.{may_name}
use Rattle.file_model.specs.Forms.{Evaluates, form_of}

-- a text that may stand as a chunk: it is not empty and begins with no blank
pub record MayStand (text : List ℕ) : Type 0 where
  pub some : text ≢ []
  pub no_blank : HasNoLeadingBlank text

-- a text that is a do-it when it is read as a chunk outside a run of methods
pub record IsDoItChunk (d : Dialect) (text : List ℕ) : Type 0 where
  pub body : SequenceOf (List ℕ)
  pub spells : SpellsDoIt d text body
  pub form : form_of d false body ≡ Evaluates

-- what a dialect and the image of the kernel decide of images
abbrev pub reading_of : Dialect → ImageOf (List ℕ) → ReadingOf (List ℕ)
reading_of d kernel = record {
  IsName = λ n. IsTrue (may_name n);
  SpellsMethod = SpellsMethod d false;
  SpellsDoIt = SpellsDoIt d;
  IsSource = MayStand;
  IsDoItChunk = IsDoItChunk d;
  kernel = kernel;
}
