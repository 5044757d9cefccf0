-- Do-its that are empty.
use Rattle.std.specs.Prelude.{◌≢◌, []}
use Rattle.std.specs.List.{AllByRecursion}
use Rattle.tree_model.specs.Tree.{no_statements, SequenceOf}
use Rattle.image_model.specs.Image.{DoItOf, ImageOf}
use Rattle.file_model.specs.Filing.{Text}

-- code without temporaries, statements and comments
abbrev pub empty_code : SequenceOf Text
empty_code = record { temporaries = []; statements = no_statements; tail = [] }

-- no do-it is empty
abbrev pub HasNoEmptyDoIt : ImageOf Text → Type 0
HasNoEmptyDoIt i = AllByRecursion (λ (d : DoItOf Text). d.body ≢ empty_code) i.doits
