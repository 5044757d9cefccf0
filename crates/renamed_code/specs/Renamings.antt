-- One renaming in one method or do-it: which of its names and selectors are what is renamed, and the code after.
use Rattle.std.specs.Prelude.{ℕ, List, [], Bool, false, nat_eq, ◌&&◌, ◌||◌, if◌then◌else◌}
use Rattle.std.specs.List.{list_any}
use Rattle.tree_model.specs.Tree.{TreeOf, var, literal, send, cascade, assign, block, brace, return, TreesOf, MessagesOf, StatementsOf, SequenceOf, MethodOf}
use Rattle.tree_model.specs.Nodes.{nodes}
use Rattle.st_tree.specs.View.{method_of, sequence_of}
use Rattle.image_model.specs.Image.{EntryOf, DoItOf}
use Rattle.image_model.specs.Words.{number_words}
use Rattle.image_model.specs.Means.{MeaningOf, means, means_in_doit}
use Rattle.image_model.specs.Uses.{is_variable, is_that_class}
use Rattle.class_table.specs.Slots.{Slots}
use Rattle.class_table.specs.View.{class_name, number_image}
use Rattle.class_table.specs.Valid.{IsLive, IsOrderly}
use Rattle.mentions.specs.Mentions.{trees_of_nodes}
use Rattle.rename_model.specs.Conditions.{has_message_that}
use Rattle.rename_model.specs.Renamed.{renamed, renamed_trees, renamed_messages, renamed_statements}
use Rattle.rename_model.specs.SelectorRenamed.{sends_anew, trees_anew, messages_anew, statements_anew}
use Rattle.renamed_code.specs.declared.renaming.Code.{Code}
use Rattle.renamed_code.specs.declared.renaming.Code.TheVariants as code
use Rattle.renamed_code.specs.declared.renaming.Renaming.{Renaming}
use Rattle.renamed_code.specs.Anew.{RenamedOf, of_a_class, of_a_variable, of_a_selector}
use Rattle.renamed_code.specs.ChangedCode.{renamed_of}
use Rattle.renamed_code.specs.Standing.{beneath, stands_in, stands_in_trees, stands_in_messages, stands_in_statements}

-- what a name stands for in the code, at the place to which a path leads
abbrev pub meaning_in : Slots → Code → List ℕ → ℕ → MeaningOf ℕ
meaning_in s (code.Method class meta tree) path n =
    let m : EntryOf ℕ = record { class = class_name s.classes class; meta = meta; protocol = []; source = []; tree = method_of tree.now; kernel = false } in
    means (number_words s.names) (number_image s) m path n
meaning_in s (code.DoIt body) path n =
    let d : DoItOf ℕ = record { source = []; body = sequence_of body.now } in
    means_in_doit (number_words s.names) (number_image s) d path n

-- whether a name is spelled as what is renamed, if that is no selector
abbrev pub has_name : RenamedOf ℕ → ℕ → Bool
has_name (of_a_class c) n = nat_eq c n
has_name (of_a_variable kind c x) n = nat_eq x n
has_name (of_a_selector s) n = false

-- whether a meaning is the class or the variable
abbrev pub is_meant_by : RenamedOf ℕ → MeaningOf ℕ → Bool
is_meant_by (of_a_class c) meaning = is_that_class nat_eq c meaning
is_meant_by (of_a_variable kind c x) meaning = is_variable nat_eq kind c meaning
is_meant_by (of_a_selector s) meaning = false

-- whether a selector is what is renamed
abbrev pub is_the_selector : RenamedOf ℕ → ℕ → Bool
is_the_selector (of_a_class c) t = false
is_the_selector (of_a_variable kind c x) t = false
is_the_selector (of_a_selector s) t = nat_eq s t

-- whether a node by itself may mean what is renamed, by the name or the selectors that stand in it
abbrev pub may_mean : RenamedOf ℕ → TreeOf ℕ → Bool
may_mean what (var n) = has_name what n
may_mean what (literal l) = false
may_mean what (send r s args) = is_the_selector what s
may_mean what (cascade r ms) = has_message_that (is_the_selector what) ms
may_mean what (assign n t) = has_name what n
may_mean what (block ps ts ss e) = false
may_mean what (brace ts) = false
may_mean what (return t) = false

-- whether a node of a sequence may mean it, and whether one of a method may, or the method has the selector
abbrev pub may_stand_in : RenamedOf ℕ → SequenceOf ℕ → Bool
may_stand_in what b = list_any (may_mean what) (trees_of_nodes (nodes b))

abbrev pub may_stand_in_method : RenamedOf ℕ → MethodOf ℕ → Bool
may_stand_in_method what m = is_the_selector what m.selector || may_stand_in what m.body

-- the class of a method is live
abbrev pub HasLiveClass : Slots → Code → Type 0
HasLiveClass s (code.Method class meta tree) = IsLive s.class_order class
HasLiveClass s (code.DoIt body) = Unit {0}

-- the image is orderly, and the class of the method is one of its live ones
pub record IsReadable (r : Renaming) : Type 0 where
  pub orderly : IsOrderly r.image.now
  pub live : HasLiveClass r.image.now r.code

-- whether a name means what is renamed at the end of a path, and whether a selector is it
unfoldable pub is_named_at : Renaming → List ℕ → ℕ → Bool
is_named_at r path n = has_name (renamed_of r.what) n && is_meant_by (renamed_of r.what) (meaning_in r.image.now r.code path n)

unfoldable pub is_sent_by : Renaming → ℕ → Bool
is_sent_by r t = is_the_selector (renamed_of r.what) t

-- what a name at the end of a path becomes, and what a selector becomes
abbrev pub name_after : Renaming → List ℕ → ℕ → ℕ
name_after r path n = if is_named_at r path n then r.to else n

abbrev pub selector_after : Renaming → ℕ → ℕ
selector_after r t = if is_sent_by r t then r.to else t

module _ (r : Renaming) (path : List ℕ) where
  -- the code to which a path leads, after
  abbrev pub tree_after : TreeOf ℕ → TreeOf ℕ
  tree_after t = sends_anew (selector_after r) (renamed (beneath path (name_after r)) t)

  abbrev pub trees_after : ℕ → TreesOf ℕ → TreesOf ℕ
  trees_after k ts = trees_anew (selector_after r) (renamed_trees (beneath path (name_after r)) k ts)

  abbrev pub messages_after : ℕ → MessagesOf ℕ → MessagesOf ℕ
  messages_after k ms = messages_anew (selector_after r) (renamed_messages (beneath path (name_after r)) k ms)

  abbrev pub statements_after : ℕ → StatementsOf ℕ → StatementsOf ℕ
  statements_after k ss = statements_anew (selector_after r) (renamed_statements (beneath path (name_after r)) k ss)

  abbrev pub sequence_after : SequenceOf ℕ → SequenceOf ℕ
  sequence_after b = record b { statements = statements_after 0 b.statements }

  abbrev pub method_after : MethodOf ℕ → MethodOf ℕ
  method_after m = record m { selector = selector_after r m.selector; body = sequence_after m.body }

  -- whether what is renamed stands in it
  abbrev pub is_in : TreeOf ℕ → Bool
  is_in t = stands_in (is_sent_by r) (beneath path (is_named_at r)) t

  abbrev pub is_in_trees : ℕ → TreesOf ℕ → Bool
  is_in_trees k ts = stands_in_trees (is_sent_by r) (beneath path (is_named_at r)) k ts

  abbrev pub is_in_messages : ℕ → MessagesOf ℕ → Bool
  is_in_messages k ms = stands_in_messages (is_sent_by r) (beneath path (is_named_at r)) k ms

  abbrev pub is_in_statements : ℕ → StatementsOf ℕ → Bool
  is_in_statements k ss = stands_in_statements (is_sent_by r) (beneath path (is_named_at r)) k ss

  abbrev pub is_in_method : MethodOf ℕ → Bool
  is_in_method m = is_sent_by r m.selector || is_in_statements 0 m.body.statements
