-- Questions on the code of an image.
use Rattle.std.specs.Prelude.{ℕ, List, Bool, true, false, not, nat_eq, ◌&&◌, ◌||◌}
use Rattle.std.specs.List.{list_any}
use Rattle.std.specs.Option.{option_map_or}
use Rattle.tree_model.specs.Tree.{TreeOf, SequenceOf, MethodOf}
use Rattle.tree_model.specs.Nodes.{nodes}
use Rattle.image_model.specs.Image.{EntryOf, DoItOf, ImageOf}
use Rattle.image_model.specs.Uses.{name_used, is_sender}
use Rattle.rename_model.specs.Conditions.{is_method_below}
use Rattle.rename_model.specs.NamesThere.{is_named_by}
use Rattle.code_questions.specs.declared.question.Question.{Question}
use Rattle.code_questions.specs.declared.question.Way.{Way}
use Rattle.code_questions.specs.declared.question.Way.TheVariants as way
use Rattle.code_questions.specs.declared.question.Whose.{Whose}
use Rattle.code_questions.specs.declared.question.Whose.TheVariants as whose

-- whether a method is one of those that are asked
abbrev pub is_asked : ImageOf ℕ → Whose → EntryOf ℕ → Bool
is_asked i whose.Everyone m = true
is_asked i whose.Users m = not m.kernel
is_asked i whose.Kernel m = m.kernel
is_asked i (whose.Below c) m = is_method_below nat_eq i.classes c m

-- whether do-its are asked
abbrev pub are_doits_asked : Whose → Bool
are_doits_asked whose.Everyone = true
are_doits_asked whose.Users = true
are_doits_asked whose.Kernel = false
are_doits_asked (whose.Below c) = false

-- whether the selector and the arguments of a method answer a question
abbrev pub in_head : Way → ℕ → MethodOf ℕ → Bool
in_head way.Named n m = list_any (nat_eq n) m.arguments
in_head way.Used n m = false
in_head way.Sent n m = false
in_head way.Selector n m = nat_eq n m.selector
in_head way.Spoken n m = nat_eq n m.selector

-- whether the temporaries of a sequence do
abbrev pub in_temporaries : Way → ℕ → List ℕ → Bool
in_temporaries way.Named n ts = list_any (nat_eq n) ts
in_temporaries way.Used n ts = false
in_temporaries way.Sent n ts = false
in_temporaries way.Selector n ts = false
in_temporaries way.Spoken n ts = false

-- whether a node does
abbrev pub in_node : Way → ℕ → TreeOf ℕ → Bool
in_node way.Named n t = is_named_by nat_eq n t
in_node way.Used n t = option_map_or (nat_eq n) (name_used t) false
in_node way.Sent n t = is_sender nat_eq n t
in_node way.Selector n t = false
in_node way.Spoken n t = is_sender nat_eq n t

-- whether a sequence or a method does
abbrev pub in_body : Way → ℕ → SequenceOf ℕ → Bool
in_body what n b = in_temporaries what n b.temporaries || list_any (λ e. in_node what n e.1) (nodes b)

abbrev pub in_method : Way → ℕ → MethodOf ℕ → Bool
in_method what n m = in_head what n m || in_body what n m.body

-- whether a method of an image is asked, and answers the question; whether a do-it does
abbrev pub is_method_found : ImageOf ℕ → Question → EntryOf ℕ → Bool
is_method_found i q m = is_asked i q.whose m && in_method q.what q.name m.tree

abbrev pub is_doit_found : Question → DoItOf ℕ → Bool
is_doit_found q d = are_doits_asked q.whose && in_body q.what q.name d.body

-- whether any method or do-it of an image does
abbrev pub is_found : ImageOf ℕ → Question → Bool
is_found i q = list_any (is_method_found i q) i.methods || list_any (is_doit_found q) i.doits
