-- The conditions of parameters, literals and heights have the same answer once names are changed one to one.
use Rattle.std.proofs.Common.{◌≡◌, ℕ, ◌-◌, Bool, false, not, ◌&&◌, ◌||◌, nat_le, List, [], ◌∷◌, map, filter, slice_get, refl, ap, ◌∙◌}
use Rattle.std.specs.List.{list_any, list_all}
use Rattle.std.specs.Option.{option_map_or}
use Rattle.std.proofs.lemmas.Simd.{map-map}
use Rattle.tree_model.specs.Tree.{LiteralOf, word, TreeOf, var, literal, send, cascade, assign, block, brace, return, TreesOf, MessagesOf, no_messages, more_messages, MethodOf, number, map_literal, map_names, map_trees, map_messages, map_method}
use Rattle.tree_model.specs.Path.{nth}
use Rattle.tree_model.specs.Nodes.{Placed, nodes}
use Rattle.tree_model.specs.Measure.{sequence_height}
use Rattle.tree_model.proofs.Children.{nth-map_trees}
use Rattle.tree_model.proofs.Measures.{statements_height-map_statements}
use Rattle.tree_model.proofs.NodesLemmas.{nodes-map_sequence}
use Rattle.scope_model.specs.Control.{is_empty}
use Rattle.scope_model.specs.Scope.{local_in}
use Rattle.image_model.specs.Image.{EntryOf, DoItOf, ImageOf, map_entry, map_doit, map_image}
use Rattle.image_model.specs.Words.{WordsOf, KeepsWords}
use Rattle.image_model.specs.Means.{MeaningOf, undeclared, map_meaning}
use Rattle.image_model.specs.Nodes.{NodeOf, image_nodes, means_in}
use Rattle.image_model.specs.Uses.{is_sender}
use Rattle.rename_model.specs.Conditions.{speaks_of}
use Rattle.command_model.specs.Asked.{AskedOf}
use Rattle.command_model.specs.Places.{is_formal}
use Rattle.command_model.specs.Plain.{is_atom_literal, is_passed_atom}
use Rattle.command_model.specs.ParameterConditions.{is_declared, passed_by, is_shallow_speaking, formal_reads, counts_argument, is_parameter_unused, may_be_dropped, are_arguments_plain}
use Rattle.command_numbers.specs.KeepsAsked.{KeepsAsked}
use Rattle.command_numbers.proofs.Lists.{chosen, get-map, all-total, filter-total, or-total}
use Rattle.command_numbers.proofs.Everywhere.{Every}
use Rattle.command_numbers.proofs.NodesAsked.{mapped_node}
use Rattle.command_numbers.proofs.Classes.{same-map}
use Rattle.command_numbers.proofs.NamesAsked.{speaks_of-map, doit_sends-map}
use Rattle.command_numbers.proofs.UsesAsked.{map_node, image_nodes-map, means_in-map}
use Rattle.command_numbers.proofs.TemporariesMapped.{local_in-there}

-- whether a node of a method reads an argument of it
abbrev reads : {N : Type 0} → AskedOf N → MethodOf N → N → Placed N → Bool
reads a m x (path, var n) = a.words.tests.same x n && is_formal (local_in a.words.tests.same a.words.tests.is_pseudo m path n)
reads a m x (path, t) = false

module _ {M N : Type 0} (f : M → N) where
  -- literals that are atoms, and meanings that declare
  pub is_atom_literal-map : (l : LiteralOf M) → is_atom_literal (map_literal f l) ≡ is_atom_literal l
  is_atom_literal-map (number t) = refl
  is_atom_literal-map l = refl

  is_declared-map : (m : MeaningOf M) → is_declared (map_meaning f m) ≡ is_declared m
  is_declared-map undeclared = refl
  is_declared-map m = refl

  module _ (w : WordsOf M) (v : WordsOf N) (keeps : KeepsWords Every f w v) where
    -- what messages of a selector pass
    passed_by_cascade : (s : M) (r : TreeOf M) (ms : MessagesOf M) → passed_by v.tests.same (f s) (cascade (map_names f r) (map_messages f ms)) ≡ map (map_trees f) (passed_by w.tests.same s (cascade r ms))
    passed_by_cascade s r no_messages = refl
    passed_by_cascade s r (more_messages t args ms) =
        chosen (map (map_trees f)) (w.tests.same s t) (v.tests.same (f s) (f t)) (args ∷ passed_by w.tests.same s (cascade r ms)) (passed_by w.tests.same s (cascade r ms))
        (map_trees f args ∷ passed_by v.tests.same (f s) (cascade (map_names f r) (map_messages f ms))) (passed_by v.tests.same (f s) (cascade (map_names f r) (map_messages f ms)))
        (same-map f w v keeps s t) (ap (λ (others : List (TreesOf N)). map_trees f args ∷ others) (passed_by_cascade s r ms)) (passed_by_cascade s r ms)

    pub passed_by-map : (s : M) (t : TreeOf M) → passed_by v.tests.same (f s) (map_names f t) ≡ map (map_trees f) (passed_by w.tests.same s t)
    passed_by-map s (var n) = refl
    passed_by-map s (literal l) = refl
    passed_by-map s (send r t args) =
        chosen (map (map_trees f)) (w.tests.same s t) (v.tests.same (f s) (f t)) (args ∷ []) [] (map_trees f args ∷ []) [] (same-map f w v keeps s t) refl refl
    passed_by-map s (cascade r ms) = passed_by_cascade s r ms
    passed_by-map s (assign n t) = refl
    passed_by-map s (block ps ts ss d) = refl
    passed_by-map s (brace ts) = refl
    passed_by-map s (return t) = refl

    -- an image of trees that are not high where they speak of a selector
    pub is_shallow_speaking-map : (s : M) (i : ImageOf M) → is_shallow_speaking v.tests.same (f s) (map_image f i) ≡ is_shallow_speaking w.tests.same s i
    is_shallow_speaking-map s i =
        λ j. all-total (map_entry f) (λ (m : EntryOf M). m.kernel || (not (speaks_of w.tests.same s m) || nat_le (sequence_height m.tree.body) 200))
        (λ (m : EntryOf N). m.kernel || (not (speaks_of v.tests.same (f s) m) || nat_le (sequence_height m.tree.body) 200))
        (λ m. λ k. m.kernel || (not (speaks_of-map f w v keeps s m k) || nat_le (statements_height-map_statements f m.tree.body.statements k) 200)) i.methods j
        && all-total (map_doit f) (λ (d : DoItOf M). not (list_any (λ e. is_sender w.tests.same s e.1) (nodes d.body)) || nat_le (sequence_height d.body) 200)
        (λ (d : DoItOf N). not (list_any (λ e. is_sender v.tests.same (f s) e.1) (nodes d.body)) || nat_le (sequence_height d.body) 200)
        (λ d. λ k. not (doit_sends-map f w v keeps s d k) || nat_le (statements_height-map_statements f d.body.statements k) 200) i.doits j

module _ {M N : Type 0} (f : M → N) (a : AskedOf M) (b : AskedOf N) (keeps : KeepsAsked Every f a b) where
  -- a literal that is passed
  pub is_passed_atom-map : (l : LiteralOf M) → is_passed_atom b (map_literal f l) ≡ is_passed_atom a l
  is_passed_atom-map (word n) = keeps.is_constant n tt
  is_passed_atom-map l = is_atom_literal-map f l

  -- where a method reads an argument
  reads-map : (m : MethodOf M) (x : M) (e : Placed M) → reads b (map_method f m) (f x) (mapped_node f e) ≡ reads a m x e
  reads-map m x (path, var n) = λ i. same-map f a.words b.words keeps.words x n i && is_formal (local_in-there f a.words b.words keeps.words m path n i)
  reads-map m x (path, literal l) = refl
  reads-map m x (path, send r s args) = refl
  reads-map m x (path, cascade r ms) = refl
  reads-map m x (path, assign n t) = refl
  reads-map m x (path, block ps ts ss d) = refl
  reads-map m x (path, brace ts) = refl
  reads-map m x (path, return t) = refl

  pub formal_reads-map : (m : MethodOf M) (x : M) → formal_reads b (map_method f m) (f x) ≡ formal_reads a m x
  formal_reads-map m x =
      ap (λ (es : List (Placed N)). map (λ e. e.0) (filter (reads b (map_method f m) (f x)) es)) (nodes-map_sequence f m.body)
      ∙ ap (map (λ (e : Placed N). e.0)) (filter-total (mapped_node f) (reads a m x) (reads b (map_method f m) (f x)) (reads-map m x) (nodes m.body))
      ∙ map-map (λ (e : Placed N). e.0) (mapped_node f) (filter (reads a m x) (nodes m.body))

  counts_argument-map : (s : M) (k : ℕ) → counts_argument b (f s) k ≡ counts_argument a s k
  counts_argument-map s k = ap (λ (n : ℕ). nat_le 1 k && nat_le k n) (keeps.command_words.arity s tt)

  module _ (i : ImageOf M) where
    pub is_parameter_unused-map : (s : M) (k : ℕ) → is_parameter_unused b (map_image f i) (f s) k ≡ is_parameter_unused a i s k
    is_parameter_unused-map s k =
        λ j. counts_argument-map s k j
        && all-total (map_entry f)
        (λ (m : EntryOf M). m.kernel || (not (a.words.tests.same s m.tree.selector) || option_map_or (λ x. is_empty (formal_reads a m.tree x)) (slice_get m.tree.arguments (k - 1)) false))
        (λ (m : EntryOf N). m.kernel || (not (b.words.tests.same (f s) m.tree.selector) || option_map_or (λ x. is_empty (formal_reads b m.tree x)) (slice_get m.tree.arguments (k - 1)) false))
        (λ m. λ l. m.kernel || (not (same-map f a.words b.words keeps.words s m.tree.selector l) || unread m l)) i.methods j
      where
        unread : (m : EntryOf M) → option_map_or (λ x. is_empty (formal_reads b (map_method f m.tree) x)) (slice_get (map f m.tree.arguments) (k - 1)) false ≡ option_map_or (λ x. is_empty (formal_reads a m.tree x)) (slice_get m.tree.arguments (k - 1)) false
        unread m =
            ap (λ o. option_map_or (λ x. is_empty (formal_reads b (map_method f m.tree) x)) o false) (get-map f m.tree.arguments (k - 1))
            ∙ or-total f (λ x. is_empty (formal_reads a m.tree x)) (λ x. is_empty (formal_reads b (map_method f m.tree) x)) false (λ x. ap is_empty (formal_reads-map m.tree x)) (slice_get m.tree.arguments (k - 1))

    pub may_be_dropped-map : (e : NodeOf M) (t : TreeOf M) → may_be_dropped b (map_image f i) (map_node f e) (map_names f t) ≡ may_be_dropped a i e t
    may_be_dropped-map e (var n) =
        ap is_declared (means_in-map f a.words b.words keeps.words i e.use_of.place e.use_of.path n) ∙ is_declared-map f (means_in a.words i e.use_of.place e.use_of.path n)
    may_be_dropped-map e (literal l) = is_atom_literal-map f l
    may_be_dropped-map e (send r s args) = refl
    may_be_dropped-map e (cascade r ms) = refl
    may_be_dropped-map e (assign n t) = refl
    may_be_dropped-map e (block ps ts ss d) = refl
    may_be_dropped-map e (brace ts) = refl
    may_be_dropped-map e (return t) = refl

    pub are_arguments_plain-map : (s : M) (k : ℕ) → are_arguments_plain b (map_image f i) (f s) k ≡ are_arguments_plain a i s k
    are_arguments_plain-map s k = λ j. counts_argument-map s k j && each j
      where
        plain_passed : (e : NodeOf M) → TreesOf M → Bool
        plain_passed e args = option_map_or (may_be_dropped a i e) (nth args (k - 1)) false

        plain_there : (e : NodeOf N) → TreesOf N → Bool
        plain_there e args = option_map_or (may_be_dropped b (map_image f i) e) (nth args (k - 1)) false

        passes : (e : NodeOf M) (args : TreesOf M) → plain_there (map_node f e) (map_trees f args) ≡ plain_passed e args
        passes e args =
            ap (λ o. option_map_or (may_be_dropped b (map_image f i) (map_node f e)) o false) (nth-map_trees f args (k - 1))
            ∙ or-total (map_names f) (may_be_dropped a i e) (may_be_dropped b (map_image f i) (map_node f e)) false (may_be_dropped-map e) (nth args (k - 1))

        each : list_all (λ (e : NodeOf N). list_all (plain_there e) (passed_by b.words.tests.same (f s) e.tree)) (image_nodes (map_image f i)) ≡ list_all (λ (e : NodeOf M). list_all (plain_passed e) (passed_by a.words.tests.same s e.tree)) (image_nodes i)
        each =
            ap (list_all (λ (e : NodeOf N). list_all (plain_there e) (passed_by b.words.tests.same (f s) e.tree))) (image_nodes-map f i)
            ∙ all-total (map_node f) (λ (e : NodeOf M). list_all (plain_passed e) (passed_by a.words.tests.same s e.tree)) (λ (e : NodeOf N). list_all (plain_there e) (passed_by b.words.tests.same (f s) e.tree))
            (λ e. ap (list_all (plain_there (map_node f e))) (passed_by-map f a.words b.words keeps.words s e.tree)
            ∙ all-total (map_trees f) (plain_passed e) (plain_there (map_node f e)) (passes e) (passed_by a.words.tests.same s e.tree)) (image_nodes i)
