-- The conditions of parameters and of heights.
use Rattle.std.specs.Prelude.{ℕ, ◌-◌, Bool, true, false, not, ◌&&◌, ◌||◌, nat_le, List, [], ◌∷◌, slice_get, map, filter, if◌then◌else◌}
use Rattle.std.specs.List.{list_all, list_any}
use Rattle.std.specs.Option.{option_map_or}
use Rattle.tree_model.specs.Tree.{TreeOf, var, literal, send, cascade, TreesOf, MessagesOf, no_messages, more_messages, SequenceOf, MethodOf}
use Rattle.tree_model.specs.Path.{nth}
use Rattle.tree_model.specs.Nodes.{Placed, nodes}
use Rattle.tree_model.specs.Measure.{sequence_height}
use Rattle.scope_model.specs.Control.{is_empty}
use Rattle.scope_model.specs.Scope.{local_in}
use Rattle.image_model.specs.Image.{EntryOf, DoItOf, ImageOf}
use Rattle.image_model.specs.Means.{MeaningOf, undeclared}
use Rattle.image_model.specs.Nodes.{NodeOf, image_nodes, means_in}
use Rattle.image_model.specs.Uses.{is_sender}
use Rattle.rename_model.specs.Conditions.{speaks_of}
use Rattle.command_model.specs.Asked.{AskedOf}
use Rattle.command_model.specs.Places.{is_formal}
use Rattle.command_model.specs.Plain.{is_atom_literal}

-- whether something is declared
abbrev pub is_declared : {N : Type 0} → MeaningOf N → Bool
is_declared undeclared = false
is_declared meaning = true

-- the arguments of each message of a selector among these
abbrev passed_in : {N : Type 0} → (N → N → Bool) → N → MessagesOf N → List (TreesOf N)
passed_in same s no_messages = []
passed_in same s (more_messages t args ms) = if same s t then args ∷ passed_in same s ms else passed_in same s ms

-- the arguments of each message of a selector that a node sends
abbrev pub passed_by : {N : Type 0} → (N → N → Bool) → N → TreeOf N → List (TreesOf N)
passed_by same s (send r t args) = if same s t then args ∷ [] else []
passed_by same s (cascade r ms) = passed_in same s ms
passed_by same s t = []

-- whether a sequence is at most 200 high
abbrev pub is_low : {N : Type 0} → SequenceOf N → Bool
is_low b = nat_le (sequence_height b) 200

-- each method of the user and each do-it is
abbrev pub is_shallow : {N : Type 0} → ImageOf N → Bool
is_shallow i = list_all (λ (m : EntryOf _). m.kernel || is_low m.tree.body) i.methods && list_all (λ (d : DoItOf _). is_low d.body) i.doits

-- so is each method of the user that has a selector or sends it, and each do-it that sends it
abbrev pub is_shallow_speaking : {N : Type 0} → (N → N → Bool) → N → ImageOf N → Bool
is_shallow_speaking same s i =
    list_all (λ (m : EntryOf _). m.kernel || (not (speaks_of same s m) || is_low m.tree.body)) i.methods
    && list_all (λ (d : DoItOf _). not (list_any (λ e. is_sender same s e.1) (nodes d.body)) || is_low d.body) i.doits

module _ {N : Type 0} (a : AskedOf N) where
  -- whether a node of a method reads that argument of it
  abbrev reads_formal : MethodOf N → N → Placed N → Bool
  reads_formal m x (path, var n) =
      a.words.tests.same x n && is_formal (local_in a.words.tests.same a.words.tests.is_pseudo m path n)
  reads_formal m x (path, t) = false

  -- the paths at which a method reads that argument of it
  abbrev pub formal_reads : MethodOf N → N → List (List ℕ)
  formal_reads m x = map (λ e. e.0) (filter (reads_formal m x) (nodes m.body))

  -- whether a number counts an argument of a selector, from 1
  abbrev pub counts_argument : N → ℕ → Bool
  counts_argument s k = nat_le 1 k && nat_le k (a.command_words.arity s)

  -- no method of the selector by the user reads its k-th argument
  abbrev pub is_parameter_unused : ImageOf N → N → ℕ → Bool
  is_parameter_unused i s k =
      counts_argument s k
      && list_all (λ (m : EntryOf N). m.kernel || (not (a.words.tests.same s m.tree.selector)
      || option_map_or (λ x. is_empty (formal_reads m.tree x)) (slice_get m.tree.arguments (k - 1)) false)) i.methods

  -- whether an argument of a message is an atom, or a name that is not undeclared
  abbrev pub may_be_dropped : ImageOf N → NodeOf N → TreeOf N → Bool
  may_be_dropped i e (var n) = is_declared (means_in a.words i e.use_of.place e.use_of.path n)
  may_be_dropped i e (literal l) = is_atom_literal l
  may_be_dropped i e t = false

  -- the k-th argument of each message of the selector is so
  abbrev pub are_arguments_plain : ImageOf N → N → ℕ → Bool
  are_arguments_plain i s k =
      counts_argument s k
      && list_all (λ (e : NodeOf N). list_all (λ args. option_map_or (may_be_dropped i e) (nth args (k - 1)) false) (passed_by a.words.tests.same s e.tree)) (image_nodes i)
