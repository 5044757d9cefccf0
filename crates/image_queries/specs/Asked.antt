-- Questions of the program, and when a node is asked for: it mentions a name, and means what is asked for.
use Rattle.std.specs.Prelude.{ℕ, List, [], Bool, true, false, nat_eq, Option, Some, None}
use Rattle.std.specs.Option.{option_map_or}
use Rattle.tree_model.specs.Tree.{TreeOf, SequenceOf, MethodOf}
use Rattle.image_model.specs.Image.{EntryOf, DoItOf}
use Rattle.image_model.specs.Words.{number_words}
use Rattle.image_model.specs.Means.{MeaningOf, means, means_in_doit}
use Rattle.image_model.specs.Uses.{is_sender, name_used, is_variable, is_that_class}
use Rattle.class_table.specs.Slots.{Slots}
use Rattle.class_table.specs.View.{class_name, number_image}
use Rattle.name_meanings.specs.Meanings.{kind_of}
use Rattle.query_model.specs.Queries.{QueryOf, of_senders, of_implementors, of_class, of_variable}
use Rattle.image_queries.specs.declared.query.Query.{Query}
use Rattle.image_queries.specs.declared.query.Query.TheVariants as ask

-- the question over numbers of names
abbrev pub query_of : Query → QueryOf ℕ
query_of (ask.Senders selector) = of_senders selector
query_of (ask.Implementors selector) = of_implementors selector
query_of (ask.Class name) = of_class name
query_of (ask.Variable kind class name) = of_variable (kind_of kind) class name

-- a fact of each name in a question
abbrev pub QueryNames : {N : Type 0} → (N → Type 0) → QueryOf N → Type 0
QueryNames P (of_senders s) = P s
QueryNames P (of_implementors s) = P s
QueryNames P (of_class c) = P c
QueryNames P (of_variable kind c n) = P c × P n

-- the selector whose implementors are asked for
abbrev pub implemented : {N : Type 0} → QueryOf N → Option N
implemented (of_senders s) = None
implemented (of_implementors s) = Some s
implemented (of_class c) = None
implemented (of_variable kind c n) = None

-- whether a node may be asked for, as far as the node alone tells: it sends the selector, or names the name
abbrev pub mentions : QueryOf ℕ → TreeOf ℕ → Bool
mentions (of_senders s) t = is_sender nat_eq s t
mentions (of_implementors s) t = false
mentions (of_class c) t = option_map_or (nat_eq c) (name_used t) false
mentions (of_variable kind c n) t = option_map_or (nat_eq n) (name_used t) false

-- whether a name stands for what is asked for, where names stand for this
abbrev pub is_meant : QueryOf ℕ → (ℕ → MeaningOf ℕ) → Bool
is_meant (of_senders s) meaning = true
is_meant (of_implementors s) meaning = false
is_meant (of_class c) meaning = is_that_class nat_eq c (meaning c)
is_meant (of_variable kind c n) meaning = is_variable nat_eq kind c (meaning n)

-- what a name stands for at a place of a method of a class and a side
abbrev pub meaning_in_tree : Slots → ℕ → Bool → MethodOf ℕ → List ℕ → ℕ → MeaningOf ℕ
meaning_in_tree s class meta tree path n =
    let m : EntryOf ℕ = record { class = class_name s.classes class; meta = meta; protocol = []; source = []; tree = tree; kernel = false } in
    means (number_words s.names) (number_image s) m path n

-- what a name stands for at a place of a do-it
abbrev pub meaning_in_body : Slots → SequenceOf ℕ → List ℕ → ℕ → MeaningOf ℕ
meaning_in_body s body path n =
    let d : DoItOf ℕ = record { source = []; body = body } in
    means_in_doit (number_words s.names) (number_image s) d path n
