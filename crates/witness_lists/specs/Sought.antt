-- Which nodes, methods and do-its are sought.
use Rattle.std.specs.Prelude.{ℕ, List, Bool, false, ◌||◌, nat_eq, codes}
use Rattle.std.specs.List.{list_any}
use Rattle.rb_base.specs.Names.{text_eq, name_at}
use Rattle.tree_model.specs.Tree.{TreeOf, SequenceOf, MethodOf}
use Rattle.image_model.specs.Uses.{is_sender}
use Rattle.rename_model.specs.Conditions.{is_reflective}
use Rattle.rename_model.specs.NamesThere.{is_named_by}
use Rattle.command_model.specs.Numbers.{number_command_words}
use Rattle.command_model.specs.SameMethods.{is_super_node, is_super_sender}
use Rattle.witness_lists.specs.declared.nodes.Sought.{Sought}
use Rattle.witness_lists.specs.declared.nodes.Sought.TheVariants as sought

-- whether a number is that of the name `super`
abbrev pub is_super_name : List (List ℕ) → ℕ → Bool
is_super_name names n = text_eq (codes "super") (name_at names n)

abbrev pub is_super_in : List (List ℕ) → TreeOf ℕ → Bool
is_super_in names t = is_super_node (is_super_name names) t

-- whether a node is sought
abbrev pub passes : List (List ℕ) → Sought → TreeOf ℕ → Bool
passes names sought.Reflection t = is_reflective (number_command_words names) t
passes names (sought.Name n) t = is_named_by nat_eq n t
passes names (sought.Selector s) t = is_sender nat_eq s t
passes names sought.Super t = is_super_node (is_super_name names) t
passes names (sought.SentToSuper s) t = is_super_sender (is_super_name names) nat_eq s t

-- whether a method is sought as a whole
abbrev pub heads_method : List (List ℕ) → Sought → MethodOf ℕ → Bool
heads_method names sought.Reflection m = text_eq (codes "doesNotUnderstand:") (name_at names m.selector)
heads_method names (sought.Name n) m = list_any (nat_eq n) m.arguments || list_any (nat_eq n) m.body.temporaries
heads_method names (sought.Selector s) m = nat_eq s m.selector
heads_method names sought.Super m = false
heads_method names (sought.SentToSuper s) m = false

-- whether a do-it is
abbrev pub heads_doit : Sought → SequenceOf ℕ → Bool
heads_doit sought.Reflection b = false
heads_doit (sought.Name n) b = list_any (nat_eq n) b.temporaries
heads_doit (sought.Selector s) b = false
heads_doit sought.Super b = false
heads_doit (sought.SentToSuper s) b = false
