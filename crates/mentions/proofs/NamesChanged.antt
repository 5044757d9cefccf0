-- The lists of names where names are changed.
use Rattle.std.proofs.Common.{◌≡◌, List, ◌∷◌, ◌++◌, map, refl, sym, ap, ◌∙◌}
use Rattle.std.specs.List.{flat_map}
use Rattle.std.proofs.lemmas.List.{map-append}
use Rattle.std.proofs.lemmas.Simd.{map-map}
use Rattle.tree_model.specs.Tree.{LiteralOf, number, str, symbol, char, array, bytes, word, LiteralsOf, no_literals, more_literals, TreeOf, var, literal, send, cascade, assign, block, brace, return, MessagesOf, no_messages, more_messages, SequenceOf, MethodOf, map_literal, map_literals, map_names, map_messages, map_sequence, map_method}
use Rattle.tree_model.specs.Nodes.{Placed, nodes, map_placed}
use Rattle.tree_model.proofs.NodesLemmas.{nodes-map_sequence}
use Rattle.mentions.specs.Mentions.{words_in, words_in_all, selectors_of, own_names, trees_of_nodes, code_names, method_names}
use Rattle.mentions.proofs.Lists.{flat_map-pieces}

module _ {M N : Type 0} (f : M → N) where
  -- the words in a literal
  mutual
    words_in-map_literal : (l : LiteralOf M) → words_in (map_literal f l) ≡ map f (words_in l)
    words_in-map_literal (number t) = refl
    words_in-map_literal (str t) = refl
    words_in-map_literal (symbol t) = refl
    words_in-map_literal (char b) = refl
    words_in-map_literal (array ls) = words_in_all-map_literals ls
    words_in-map_literal (bytes ls) = words_in_all-map_literals ls
    words_in-map_literal (word n) = refl

    words_in_all-map_literals : (ls : LiteralsOf M) → words_in_all (map_literals f ls) ≡ map f (words_in_all ls)
    words_in_all-map_literals no_literals = refl
    words_in_all-map_literals (more_literals l ls) =
        (λ i. words_in-map_literal l i ++ words_in_all-map_literals ls i) ∙ sym (map-append f (words_in l) (words_in_all ls))

  -- the selectors of messages
  selectors_of-map_messages : (ms : MessagesOf M) → selectors_of (map_messages f ms) ≡ map f (selectors_of ms)
  selectors_of-map_messages no_messages = refl
  selectors_of-map_messages (more_messages s args ms) = ap (λ (ns : List N). f s ∷ ns) (selectors_of-map_messages ms)

  -- the names that stand in a node itself
  own_names-map_names : (t : TreeOf M) → own_names (map_names f t) ≡ map f (own_names t)
  own_names-map_names (var n) = refl
  own_names-map_names (literal l) = words_in-map_literal l
  own_names-map_names (send r s args) = refl
  own_names-map_names (cascade r ms) = selectors_of-map_messages ms
  own_names-map_names (assign n t) = refl
  own_names-map_names (block ps ts ss e) = sym (map-append f ps ts)
  own_names-map_names (brace ts) = refl
  own_names-map_names (return t) = refl

  -- nodes without their paths
  trees-map_placed : (es : List (Placed M)) → trees_of_nodes (map_placed f es) ≡ map (map_names f) (trees_of_nodes es)
  trees-map_placed es =
      map-map (λ (e : Placed N). e.1) (λ (e : Placed M). (e.0, map_names f e.1)) es
      ∙ sym (map-map (map_names f) (λ (e : Placed M). e.1) es)

  -- the names of a sequence
  pub code_names-map_sequence : (b : SequenceOf M) → code_names (map_sequence f b) ≡ map f (code_names b)
  code_names-map_sequence b =
      ap (λ (es : List (Placed N)). map f b.temporaries ++ flat_map own_names (trees_of_nodes es)) (nodes-map_sequence f b)
      ∙ ap (λ (ts : List (TreeOf N)). map f b.temporaries ++ flat_map own_names ts) (trees-map_placed (nodes b))
      ∙ ap (λ (ns : List N). map f b.temporaries ++ ns) (flat_map-pieces own_names own_names (map_names f) f own_names-map_names (trees_of_nodes (nodes b)))
      ∙ sym (map-append f b.temporaries (flat_map own_names (trees_of_nodes (nodes b))))

  -- the names of a method
  pub method_names-map_method : (m : MethodOf M) → method_names (map_method f m) ≡ map f (method_names m)
  method_names-map_method m =
      ap (λ (ns : List N). f m.selector ∷ (map f m.arguments ++ ns)) (code_names-map_sequence m.body)
      ∙ ap (λ (ns : List N). f m.selector ∷ ns) (sym (map-append f m.arguments (code_names m.body)))
