-- Texts of which parts are still to be written.
use Rattle.std.specs.Prelude.{ℕ, List, [], ◌∷◌, ◌++◌, reverse, Option, Some, None}
use Rattle.rb_base.specs.Names.{name_at}
use Rattle.tree_model.specs.Tree.{map_names}
use Rattle.text_model.specs.Expressions.{expression_text}
use Rattle.st_formatter.specs.declared.backward.Gap.{Gap}
use Rattle.st_formatter.specs.declared.backward.Part.{Part}

-- what belongs in a gap
abbrev pub gap_text : Gap → List ℕ
gap_text g = expression_text g.level (map_names (name_at g.names.now) g.node.now)

-- what belongs in a gap, if there is one
abbrev pub maybe_text : Option Gap → List ℕ
maybe_text None = []
maybe_text (Some g) = gap_text g

-- parts in order, the last one first
abbrev pub parts_text : List Part → List ℕ
parts_text [] = []
parts_text (p ∷ ps) = parts_text ps ++ (gap_text p.gap ++ reverse p.after.items)
