-- The code of an image is spelled by its sources.
use Rattle.std.specs.Prelude.{◌≡◌, false}
use Rattle.std.specs.List.{AllByRecursion}
use Rattle.token_model.specs.declared.kind.Dialect.TheVariants.{Second}
use Rattle.grammar_model.specs.Spelling.{SpellsDoIt, SpellsMethod}
use Rattle.image_model.specs.Image.{EntryOf, DoItOf, ImageOf}
use Rattle.query_model.specs.Lines.{Text}

-- the source of a method that is none of the kernel spells its tree
abbrev pub IsSpelledMethod : EntryOf Text → Type 0
IsSpelledMethod m = m.kernel ≡ false → SpellsMethod Second false m.source m.tree

abbrev pub IsSpelledDoIt : DoItOf Text → Type 0
IsSpelledDoIt d = SpellsDoIt Second d.source d.body

-- of each method and of each do-it
pub record IsSpelledImage (i : ImageOf Text) : Type 0 where
  pub methods : AllByRecursion IsSpelledMethod i.methods
  pub doits : AllByRecursion IsSpelledDoIt i.doits
