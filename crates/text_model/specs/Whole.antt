-- The canonical text of a method and of a do-it: lines with a line feed between each two.
use Rattle.std.specs.Prelude.{ℕ, List, [], ◌∷◌, ◌++◌, Option, Some, None, codes}
use Rattle.std.specs.Fmt.{decimal}
use Rattle.tree_model.specs.Tree.{SequenceOf, MethodOf}
use Rattle.text_model.specs.Pieces.{pieces_joined, pieces_in_turn, keywords_of}
use Rattle.text_model.specs.Expressions.{line_of, note_lines, temporary_lines, statement_lines}

-- the lines of a sequence of level k: its temporaries, its statements with their comments, and the comments at its end
abbrev pub sequence_lines : ℕ → SequenceOf (List ℕ) → List (List ℕ)
sequence_lines k b = temporary_lines k b.temporaries ++ statement_lines k b.statements ++ note_lines k b.tail

-- a method's pattern: its keywords, or its operator or name, and its arguments in turn, with one blank between them
abbrev pub pattern_text : List ℕ → List (List ℕ) → List ℕ
pattern_text s args = pieces_joined (codes " ") (pieces_in_turn (keywords_of s) args)

-- the line that names a primitive, and no line where there is none
abbrev pub primitive_lines : Option ℕ → List (List ℕ)
primitive_lines None = []
primitive_lines (Some n) = line_of 1 (codes "<primitive: " ++ decimal n ++ codes ">") ∷ []

-- the canonical text of a method: its pattern, the comments before its body, its primitive and its body, all but the pattern at level 1
abbrev pub canonical_method : MethodOf (List ℕ) → List ℕ
canonical_method m =
    pieces_joined (codes "\n") (pattern_text m.selector m.arguments ∷ note_lines 1 m.head ++ primitive_lines m.primitive ++ sequence_lines 1 m.body)

-- the canonical text of a do-it, which is a sequence of level 0
abbrev pub canonical_doit : SequenceOf (List ℕ) → List ℕ
canonical_doit b = pieces_joined (codes "\n") (sequence_lines 0 b)
