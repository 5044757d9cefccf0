-- The lines of a script, and the words of a line.
use Rattle.std.specs.Prelude.{ℕ, ◌==◌, nat_eq, not, Bool, ◌||◌, List, codes, filter, length}
use Rattle.std.specs.List.{list_all, starts_with, slice_split}
use Rattle.std.specs.Str.Lines.{lines}
use Rattle.token_model.specs.Bytes.{is_blank}

-- the lines of a text; a carriage return before the line feed is no part of a line
abbrev pub lines_of : List ℕ → List (List ℕ)
lines_of text = lines text

-- the words of a line, with blanks between them
abbrev pub words_of : List ℕ → List (List ℕ)
words_of line = filter (λ (w : List ℕ). not (length w == 0)) (slice_split is_blank line)

-- whether a line says nothing: it is blank, or begins with two minus signs
abbrev pub is_skipped : List ℕ → Bool
is_skipped line = list_all is_blank line || starts_with nat_eq line (codes "--")

-- the lines that say something
abbrev pub spoken : List (List ℕ) → List (List ℕ)
spoken ls = filter (λ (l : List ℕ). not (is_skipped l)) ls
