-- The text of an image, as a file-out.
use Rattle.std.specs.Prelude.{ℕ, List, [], ◌∷◌, ◌++◌, filter, take, drop, length, Bool, not, ◌&&◌, ◌==◌, if◌then◌else◌, codes, flat_map, unwrap_or, Option, Some, None}
use Rattle.std.specs.Bool.{beq}
use Rattle.rb_base.specs.Names.{text_eq}
use Rattle.rb_base.specs.Doubling.{doubled}
use Rattle.text_model.specs.Pieces.{pieces_joined}
use Rattle.text_model.specs.Literals.{quoted_text}
use Rattle.image_model.specs.Image.{ClassOf, EntryOf, DoItOf, ImageOf}
use Rattle.file_model.specs.Changes.{RunOf}

-- a source as a chunk: each mark in it doubled, and a mark behind it
abbrev pub chunk_text : List ℕ → List ℕ
chunk_text source = doubled 33 source ++ 33 ∷ []

-- a chunk that is followed by an empty line
abbrev pub paragraph : List ℕ → List ℕ
paragraph source = chunk_text source ++ 10 ∷ 10 ∷ []

-- names in a string, with one blank between them
abbrev pub names_text : List (List ℕ) → List ℕ
names_text names = quoted_text (pieces_joined (codes " ") names)

-- a keyword on a line of its own, behind a tabulator, and its argument
abbrev pub keyword_line : List ℕ → List ℕ → List ℕ
keyword_line keyword argument = 10 ∷ 9 ∷ keyword ++ argument

-- the definition of a class
abbrev pub definition_text : ClassOf (List ℕ) → List ℕ
definition_text c =
    unwrap_or c.superclass (codes "nil") ++ codes " subclass: #" ++ c.name
    ++ keyword_line (codes "instanceVariableNames: ") (names_text c.instance)
    ++ keyword_line (codes "classVariableNames: ") (names_text c.shared)
    ++ keyword_line (codes "poolDictionaries: ") (quoted_text [])
    ++ keyword_line (codes "category: ") (quoted_text c.category)

-- the class-instance variables of a class
abbrev pub class_side_text : ClassOf (List ℕ) → List ℕ
class_side_text c = c.name ++ codes " class instanceVariableNames: " ++ names_text c.class_side

-- the comment of a class
abbrev pub comment_text : ClassOf (List ℕ) → List ℕ
comment_text c = c.name ++ codes " comment: " ++ quoted_text c.comment

-- a chunk that is followed by an empty line, unless a list is empty
abbrev pub paragraph_unless_empty : {X : Type 0} → List X → List ℕ → List ℕ
paragraph_unless_empty xs source = if length xs == 0 then [] else paragraph source

-- a class: its definition, its class-instance variables where it has some, and its comment where it is not empty
abbrev pub class_text : ClassOf (List ℕ) → List ℕ
class_text c =
    paragraph (definition_text c) ++ paragraph_unless_empty c.class_side (class_side_text c)
    ++ paragraph_unless_empty c.comment (comment_text c)

-- a do-it
abbrev pub doit_text : DoItOf (List ℕ) → List ℕ
doit_text d = paragraph d.source

-- the run in which a method stands: its class, its side and its protocol
abbrev pub run_of : EntryOf (List ℕ) → RunOf (List ℕ)
run_of m = record { class = unwrap_or m.class []; meta = m.meta; protocol = m.protocol }

-- whether two runs are one
abbrev pub is_one_run : RunOf (List ℕ) → RunOf (List ℕ) → Bool
is_one_run q r = text_eq q.class r.class && (beq q.meta r.meta && text_eq q.protocol r.protocol)

-- the class or the class side to which the methods of a run belong
abbrev pub side_text : RunOf (List ℕ) → List ℕ
side_text r = r.class ++ (if r.meta then codes " class" else [])

-- the beginning of a run: a mark, and a chunk that names class, side and protocol
abbrev pub run_start : RunOf (List ℕ) → List ℕ
run_start r = 33 ∷ chunk_text (side_text r ++ codes " methodsFor: " ++ quoted_text r.protocol) ++ 10 ∷ []

-- the end of a run: a blank chunk and an empty line
abbrev pub run_end : List ℕ
run_end = codes " !" ++ 10 ∷ 10 ∷ []

-- what stands before a method of a run, behind a method of another or the same run, if there is one: an empty line in one run, else the beginning of the run
abbrev pub method_opening : Option (RunOf (List ℕ)) → RunOf (List ℕ) → List ℕ
method_opening None r = run_start r
method_opening (Some before) r = if is_one_run before r then 10 ∷ 10 ∷ [] else run_end ++ run_start r

-- the end of the last run, if there was one
abbrev pub last_run_end : Option (RunOf (List ℕ)) → List ℕ
last_run_end None = []
last_run_end (Some before) = run_end

-- methods behind one of a run, if there is one, to the end of the last run
abbrev pub methods_text : Option (RunOf (List ℕ)) → List (EntryOf (List ℕ)) → List ℕ
methods_text before [] = last_run_end before
methods_text before (m ∷ ms) = method_opening before (run_of m) ++ chunk_text m.source ++ methods_text (Some (run_of m)) ms

-- the classes of the user, in order
abbrev pub user_classes : ImageOf (List ℕ) → List (ClassOf (List ℕ))
user_classes i = filter (λ (c : ClassOf _). not c.kernel) i.classes

-- the methods of the user, in order
abbrev pub user_methods : ImageOf (List ℕ) → List (EntryOf (List ℕ))
user_methods i = filter (λ (m : EntryOf _). not m.kernel) i.methods

-- the text of an image: the do-its at its head, its classes, its methods in runs of neighbours, and its other do-its
abbrev pub file_of : ImageOf (List ℕ) → List ℕ
file_of i =
    flat_map doit_text (take i.heads i.doits) ++ flat_map class_text (user_classes i)
    ++ methods_text None (user_methods i) ++ flat_map doit_text (drop i.heads i.doits)
