-- What is in the way of the conditions of arguments and of heights.
use Rattle.std.specs.Prelude.{ℕ, ◌-◌, Bool, false, not, ◌&&◌, ◌||◌, nat_le, if◌then◌else◌, List, [], ◌∷◌, ◌++◌, map, filter, slice_get, Option}
use Rattle.std.specs.List.{list_any, list_all, flat_map, enumerate_from}
use Rattle.std.specs.Option.{option_map_or}
use Rattle.tree_model.specs.Tree.{MethodOf}
use Rattle.tree_model.specs.Normal.{normal}
use Rattle.tree_model.specs.Path.{nth}
use Rattle.tree_model.specs.Nodes.{nodes}
use Rattle.image_model.specs.Image.{EntryOf, DoItOf, ImageOf}
use Rattle.image_model.specs.Means.{means, means_in_doit}
use Rattle.image_model.specs.Nodes.{in_doit, NodeOf, image_nodes}
use Rattle.image_model.specs.Uses.{is_sender, places}
use Rattle.rename_model.specs.Conditions.{speaks_of}
use Rattle.command_model.specs.Asked.{AskedOf}
use Rattle.command_model.specs.Parts.{Part}
use Rattle.command_model.specs.Commands.{CommandOf, AddParameter, AbstractInstVar, ExtractMethod, InlineMethod, ExtractTemp, InlineTemp}
use Rattle.command_model.specs.MethodEffects.{new_method}
use Rattle.command_model.specs.Accessors.{is_meant, method_made, doit_made}
use Rattle.command_model.specs.Extracted.{part_replaced, call_of, method_of}
use Rattle.command_model.specs.CodeEffects.{method_at, part_at, tree_inlining, tree_extracting, tree_without}
use Rattle.command_model.specs.CodeHolds.{no_writing}
use Rattle.command_model.specs.ParameterConditions.{is_low, passed_by, formal_reads, may_be_dropped}
use Rattle.refusal_witnesses.specs.Witnesses.{AtPlace, InMethod, WitnessOf, AWhole, a_node, a_use, a_method, where_true}

-- the methods that fail a test, and the do-its that fail another
abbrev pub failing : {N : Type 0} → (EntryOf N → Bool) → (DoItOf N → Bool) → ImageOf N → List (WitnessOf N)
failing method_passes doit_passes i =
    map a_method (filter (λ m. not (method_passes m)) i.methods)
    ++ map (λ e. AWhole (AtPlace (in_doit e.0))) (filter (λ e. not (doit_passes e.1)) (enumerate_from 0 i.doits))

-- the code of the user that is higher than 200
abbrev pub too_high : {N : Type 0} → ImageOf N → List (WitnessOf N)
too_high i = failing (λ m. m.kernel || is_low m.tree.body) (λ d. is_low d.body) i

-- of it what has a selector or sends it
abbrev pub too_high_speaking : {N : Type 0} → (N → N → Bool) → N → ImageOf N → List (WitnessOf N)
too_high_speaking same s i =
    failing (λ m. m.kernel || (not (speaks_of same s m) || is_low m.tree.body))
    (λ d. not (list_any (λ e. is_sender same s e.1) (nodes d.body)) || is_low d.body) i

module _ {N : Type 0} (a : AskedOf N) (i : ImageOf N) where
  -- whether a number counts an argument of a selector, from 1
  abbrev pub counts : N → ℕ → Bool
  counts s k = nat_le 1 k && nat_le k (a.command_words.arity s)

  -- where a user's method of the selector reads its k-th argument; the method itself, should it have fewer
  abbrev pub argument_reads_in : N → ℕ → EntryOf N → List (WitnessOf N)
  argument_reads_in s k m =
      if m.kernel || not (a.words.tests.same s m.tree.selector)
      then []
      else option_map_or (λ x. map (a_node (InMethod m)) (formal_reads a m.tree x)) (slice_get m.tree.arguments (k - 1)) (a_method m ∷ [])

  -- ParameterUnused: all of them
  abbrev pub argument_reads : N → ℕ → List (WitnessOf N)
  argument_reads s k = flat_map (argument_reads_in s k) i.methods

  -- whether what a node passes as the k-th argument of the selector may be left out
  abbrev pub passes_plain : N → ℕ → NodeOf N → Bool
  passes_plain s k e = list_all (λ args. option_map_or (may_be_dropped a i e) (nth args (k - 1)) false) (passed_by a.words.tests.same s e.tree)

  -- PlainArguments: the nodes that pass something else
  abbrev pub other_passings : N → ℕ → List (WitnessOf N)
  other_passings s k = map a_use (places (filter (λ (e : NodeOf N). not (passes_plain s k e)) (image_nodes i)))

  -- a user's method and a do-it that read or assign a variable, if they are too high once they do so by messages; the getter and the setter are never so
  abbrev pub too_high_abstracted : N → N → N → N → List (WitnessOf N)
  too_high_abstracted c x setter given =
      failing
      (λ m. m.kernel || (not (is_meant a.words no_writing a.self_name c x setter given i (means a.words i m) m.tree.body)
      || is_low (method_made a.words no_writing a.self_name c x setter given i m).tree.body))
      (λ d. not (is_meant a.words no_writing a.self_name c x setter given i (means_in_doit a.words i d) d.body)
      || is_low (doit_made a.words no_writing a.self_name c x setter given i d).body) i

  -- the method that a part becomes, and the one whose part becomes a message of it
  abbrev pub too_high_extracted : N → Bool → N → EntryOf N → Part → List (WitnessOf N)
  too_high_extracted c meta t m part =
      where_true (not (is_low (method_of a t m.tree part).body)) (a_method (new_method c meta m.protocol [] (method_of a t m.tree part)))
      ++ where_true (not (is_low (normal (part_replaced m.tree part (call_of a t m.tree part))).body)) (a_method m)

  -- the user's method that a command names, if the tree that is made of it is too high
  abbrev pub too_high_made : N → Bool → N → (EntryOf N → Option (MethodOf N)) → List (WitnessOf N)
  too_high_made c meta s change =
      option_map_or (λ m. option_map_or (λ tree. where_true (not (is_low (normal tree).body)) (a_method m)) (change m) []) (method_at a i c meta s) []

  -- Shallow: of what the command changes or adds that which is too high afterwards
  abbrev pub heights_after : CommandOf N → List (WitnessOf N)
  heights_after (AddParameter s t x passed) = too_high_speaking a.words.tests.same s i
  heights_after (AbstractInstVar c x setter given) = too_high_abstracted c x setter given
  heights_after (ExtractMethod c meta s from to t) =
      option_map_or (λ e. too_high_extracted c meta t e.0 e.1) (part_at a i c meta s from to) []
  heights_after (InlineMethod c meta s from to) = too_high_made c meta s (tree_inlining a i c meta s from to)
  heights_after (ExtractTemp c meta s from to x) = too_high_made c meta s (tree_extracting a i from to x)
  heights_after (InlineTemp c meta s x) = too_high_made c meta s (tree_without a i x)
  heights_after command = []
