-- How many arguments messages of a selector pass, and when its methods may take one more.
use Rattle.std.specs.Prelude.{◌≡◌, ℕ, nat_eq, List, length, Bool, true, false, ◌&&◌, if◌then◌else◌, Some, None}
use Rattle.std.specs.List.{AllByRecursion}
use Rattle.rb_base.specs.Names.{text_eq}
use Rattle.tree_model.specs.Tree.{TreeOf, var, literal, send, cascade, assign, block, brace, return, TreesOf, MessagesOf, no_messages, more_messages, SequenceOf}
use Rattle.tree_model.specs.Path.{count, part_in}
use Rattle.image_model.specs.Image.{EntryOf, DoItOf, ImageOf}
use Rattle.run_model.specs.Values.{Name}
use Rattle.rename_model.specs.CommandWords.{arity}
use Rattle.rename_model.specs.NamesThere.{is_named_in_method}

module _ {N : Type 0} (same : N → N → Bool) (s : N) (k : ℕ) where
  -- whether a message passes so many arguments, if it is one of the selector
  abbrev pub passes_as_many : N → TreesOf N → Bool
  passes_as_many u args = if same s u then nat_eq (count args) k else true

  abbrev pub messages_pass : MessagesOf N → Bool
  messages_pass no_messages = true
  messages_pass (more_messages u args ms) = passes_as_many u args && messages_pass ms

  -- whether the messages of a node do
  abbrev pub node_passes : TreeOf N → Bool
  node_passes (var n) = true
  node_passes (literal l) = true
  node_passes (send r u args) = passes_as_many u args
  node_passes (cascade r ms) = messages_pass ms
  node_passes (assign n t) = true
  node_passes (block ps ts ss e) = true
  node_passes (brace ts) = true
  node_passes (return t) = true

  -- each node of a sequence
  abbrev pub PassesAsMany : SequenceOf N → Type 0
  PassesAsMany b = (path : List ℕ) (u : TreeOf N) → part_in b path ≡ Some u → node_passes u ≡ true

-- A method in which each message of a selector passes so many arguments; and where it has the selector, it takes as many, is no primitive, and nothing in it has the name x.
pub record MethodMayTake (s x : Name) (k : ℕ) (m : EntryOf Name) : Type 0 where
  pub passed : PassesAsMany text_eq s k m.tree.body
  pub taken : text_eq s m.tree.selector ≡ true → length m.tree.arguments ≡ k
  pub no_primitive : text_eq s m.tree.selector ≡ true → m.tree.primitive ≡ None
  pub unnamed : text_eq s m.tree.selector ≡ true → is_named_in_method text_eq x m ≡ false

-- an image whose selector may have one more argument x behind so many
pub record MayTakeMore (s x : Name) (k : ℕ) (i : ImageOf Name) : Type 0 where
  pub methods : AllByRecursion (MethodMayTake s x k) i.methods
  pub doits : AllByRecursion (λ (d : DoItOf Name). PassesAsMany text_eq s k d.body) i.doits

-- a method that is none of the kernel is no primitive, and takes as many arguments as its selector does
pub record IsPlainlyWritten (m : EntryOf Name) : Type 0 where
  pub no_primitive : m.kernel ≡ false → m.tree.primitive ≡ None
  pub arguments : m.kernel ≡ false → length m.tree.arguments ≡ arity m.tree.selector
