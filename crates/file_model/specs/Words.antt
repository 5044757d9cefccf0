-- Names in the strings of a file-out.
use Rattle.std.specs.Prelude.{ℕ, List, filter, length, Bool, not, ◌&&◌, ◌||◌, ◌==◌, codes}
use Rattle.std.specs.List.{slice_split, list_all}
use Rattle.rb_base.specs.Names.{text_eq}
use Rattle.chunk_format.specs.Blank.{is_blank}
use Rattle.scope_model.specs.SpecialNames.{is_pseudo_variable}
use Rattle.text_model.specs.Literals.{is_identifier}

-- the words of a string, with blanks between them
abbrev pub words_of : List ℕ → List (List ℕ)
words_of s = filter (λ (w : List ℕ). not (length w == 0)) (slice_split is_blank s)

-- whether the name is that of one of the two global variables of the system
abbrev pub is_global : List ℕ → Bool
is_global n = text_eq n (codes "Smalltalk") || text_eq n (codes "Transcript")

-- whether a class or a variable may have this name: an identifier that is no pseudo-variable and no global variable of the system
abbrev pub may_name : List ℕ → Bool
may_name n = is_identifier n && not (is_pseudo_variable n || is_global n)

-- whether each word of a string may be the name of a variable
abbrev pub may_name_all : List ℕ → Bool
may_name_all s = list_all may_name (words_of s)

-- whether a string holds nothing but blanks
abbrev pub is_blank_string : List ℕ → Bool
is_blank_string s = list_all is_blank s
