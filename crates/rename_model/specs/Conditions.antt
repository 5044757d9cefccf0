-- The conditions of renamings (Roberts 1999).
use Rattle.std.specs.Prelude.{Bool, false, not, nat_eq, ◌&&◌, ◌||◌, List, Some, is_some}
use Rattle.std.specs.List.{list_any}
use Rattle.std.specs.Option.{option_map_or}
use Rattle.tree_model.specs.Tree.{TreeOf, var, literal, send, cascade, assign, block, brace, return, MessagesOf, no_messages, more_messages, SequenceOf}
use Rattle.tree_model.specs.Nodes.{nodes}
use Rattle.image_model.specs.Image.{ClassOf, EntryOf, DoItOf, ImageOf}
use Rattle.image_model.specs.Chain.{class_named, chain, chain_from}
use Rattle.image_model.specs.Means.{VariableKind, variables}
use Rattle.image_model.specs.Uses.{name_used, is_sender}
use Rattle.class_chains.specs.Chains.{is_on_chain}
use Rattle.rename_model.specs.CommandWords.{CommandWordsOf}
use Rattle.rename_model.specs.NamesThere.{is_named, is_named_in_method}

-- whether one of the messages has a selector that passes a test
abbrev pub has_message_that : {N : Type 0} → (N → Bool) → MessagesOf N → Bool
has_message_that test no_messages = false
has_message_that test (more_messages s args ms) = test s || has_message_that test ms

-- whether a node sends a selector that passes a test
abbrev pub sends_one_that : {N : Type 0} → (N → Bool) → TreeOf N → Bool
sends_one_that test (var n) = false
sends_one_that test (literal l) = false
sends_one_that test (send r s args) = test s
sends_one_that test (cascade r ms) = has_message_that test ms
sends_one_that test (assign n t) = false
sends_one_that test (block ps ts ss e) = false
sends_one_that test (brace ts) = false
sends_one_that test (return t) = false

-- whether a node sends a reflective selector, or reads or assigns a reflective name
abbrev pub is_reflective : {N : Type 0} → CommandWordsOf N → TreeOf N → Bool
is_reflective v t = sends_one_that v.is_reflective_selector t || option_map_or v.is_reflective_name (name_used t) false

-- whether a node of a sequence is reflective
abbrev pub reflects : {N : Type 0} → CommandWordsOf N → SequenceOf N → Bool
reflects v b = list_any (λ e. is_reflective v e.1) (nodes b)

-- whether a user's method is reflective, or is the one for messages that are not understood
abbrev pub method_reflects : {N : Type 0} → CommandWordsOf N → EntryOf N → Bool
method_reflects v m = not m.kernel && (v.is_not_understood m.tree.selector || reflects v m.tree.body)

-- no code of a user is reflective, and no user's method is the one for messages that are not understood
abbrev pub has_no_reflection : {N : Type 0} → CommandWordsOf N → ImageOf N → Bool
has_no_reflection v i = not (list_any (method_reflects v) i.methods || list_any (λ (d : DoItOf _). reflects v d.body) i.doits)

-- the name is that of a class of the user
abbrev pub is_user_class : {N : Type 0} → (N → N → Bool) → ImageOf N → N → Bool
is_user_class same i n = option_map_or (λ (c : ClassOf _). not c.kernel) (class_named same i.classes n) false

-- no class and no variable has the name, and no code reads, assigns or declares it; a selector of that spelling is no use
abbrev pub is_name_unused : {N : Type 0} → (N → N → Bool) → ImageOf N → N → Bool
is_name_unused same i n = not (is_named same i n)

-- the class of the name itself defines the variable of the kind
abbrev pub has_variable : {N : Type 0} → (N → N → Bool) → ImageOf N → VariableKind → N → N → Bool
has_variable same i kind c x = option_map_or (λ (e : ClassOf _). list_any (same x) (variables kind e)) (class_named same i.classes c) false

-- whether a class defines a variable of any kind by the name
abbrev pub defines : {N : Type 0} → (N → N → Bool) → N → ClassOf N → Bool
defines same x c = list_any (same x) c.instance || (list_any (same x) c.shared || list_any (same x) c.class_side)

-- whether a class is that of the name or stands below it
abbrev pub stands_below : {N : Type 0} → (N → N → Bool) → List (ClassOf N) → N → ClassOf N → Bool
stands_below same classes c e = list_any (λ (d : ClassOf _). same c d.name) (chain_from same classes (Some e))

-- whether a method is one of the class of the name or of a class below it
abbrev pub is_method_below : {N : Type 0} → (N → N → Bool) → List (ClassOf N) → N → EntryOf N → Bool
is_method_below same classes c m = is_on_chain same classes c m.class

-- there is a class of the name; no class above it, or below it, defines the variable, nor does the class itself, and no method of it or of a class below it reads, assigns or declares the name
abbrev pub is_variable_free : {N : Type 0} → (N → N → Bool) → ImageOf N → N → N → Bool
is_variable_free same i c x =
    is_some (class_named same i.classes c)
    && not (list_any (defines same x) (chain same i.classes (Some c))
    || (list_any (λ e. stands_below same i.classes c e && defines same x e) i.classes
    || list_any (λ m. is_method_below same i.classes c m && is_named_in_method same x m) i.methods))

-- a method of the user has the selector
abbrev pub is_known_selector : {N : Type 0} → (N → N → Bool) → ImageOf N → N → Bool
is_known_selector same i s = list_any (λ (m : EntryOf _). not m.kernel && same s m.tree.selector) i.methods

-- whether a method has the selector or sends it
abbrev pub speaks_of : {N : Type 0} → (N → N → Bool) → N → EntryOf N → Bool
speaks_of same s m = same s m.tree.selector || list_any (λ e. is_sender same s e.1) (nodes m.tree.body)

-- no method has the selector, and none sends it, nor does a do-it
abbrev pub is_selector_fresh : {N : Type 0} → (N → N → Bool) → ImageOf N → N → Bool
is_selector_fresh same i s =
    not (list_any (speaks_of same s) i.methods || list_any (λ (d : DoItOf _). list_any (λ e. is_sender same s e.1) (nodes d.body)) i.doits)

-- no method of the kernel has the selector or sends it, and it has no meaning of its own
abbrev pub is_no_kernel_selector : {N : Type 0} → (N → N → Bool) → CommandWordsOf N → ImageOf N → N → Bool
is_no_kernel_selector same v i s = not (list_any (λ (m : EntryOf _). m.kernel && speaks_of same s m) i.methods || v.has_own_meaning s)

-- the selectors take as many arguments
abbrev pub has_arity_of : {N : Type 0} → CommandWordsOf N → N → N → Bool
has_arity_of v s t = nat_eq (v.arity t) (v.arity s)
