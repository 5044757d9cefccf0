-- What is in the way of the conditions of temporaries.
use Rattle.std.specs.Prelude.{ℕ, Bool, false, not, if◌then◌else◌, List, [], ◌∷◌, ◌++◌, map, filter}
use Rattle.std.specs.List.{list_any, flat_map}
use Rattle.std.specs.Option.{option_map_or}
use Rattle.tree_model.specs.Tree.{assign, MethodOf}
use Rattle.tree_model.specs.Nodes.{Placed, nodes}
use Rattle.scope_model.specs.FreeNames.{free_names}
use Rattle.image_model.specs.Image.{EntryOf, ImageOf}
use Rattle.image_model.specs.Means.{means}
use Rattle.rename_model.specs.NamesThere.{declared_by}
use Rattle.command_model.specs.SameMethods.{same_meaning}
use Rattle.command_model.specs.Asked.{AskedOf}
use Rattle.command_model.specs.Temporaries.{LetOf, is_declared_once, declared_in, reads_of, let_of}
use Rattle.command_model.specs.InlineConditions.{makes_control}
use Rattle.command_model.specs.LetConditions.{let_path, is_let_form}
use Rattle.refusal_witnesses.specs.Witnesses.{InMethod, WitnessOf, TwoMeanings, a_node, a_method, where_true, nodes_that}
use Rattle.refusal_witnesses.specs.InlineWitnesses.{above}

module _ {N : Type 0} (a : AskedOf N) where
  -- whether two names are the same
  abbrev same : N → N → Bool
  same = a.words.tests.same

  -- whether a method declares a name
  abbrev pub declares_it : MethodOf N → N → Bool
  declares_it m x = list_any (same x) (declared_in m)

  -- a node for each time that it declares the name
  abbrev pub declarations_at : EntryOf N → N → Placed N → List (WitnessOf N)
  declarations_at m x e = map (λ y. a_node (InMethod m) e.0) (filter (same x) (declared_by e.1))

  -- the places that declare the name: the method, for each argument or temporary of its own, and blocks
  abbrev pub declarations : EntryOf N → N → List (WitnessOf N)
  declarations m x =
      map (λ y. a_method m) (filter (same x) m.tree.arguments)
      ++ (map (λ y. a_method m) (filter (same x) m.tree.body.temporaries) ++ flat_map (declarations_at m x) (nodes m.tree.body))

  -- Declared: if the method does not declare the name just once, the places
  abbrev pub further_declarations : EntryOf N → N → List (WitnessOf N)
  further_declarations m x = if is_declared_once a m.tree x then [] else declarations m x

  -- whether a node assigns a name
  abbrev pub is_assignment_of : N → Placed N → Bool
  is_assignment_of x (path, assign n t) = same x n
  is_assignment_of x (path, t) = false

  module _ (i : ImageOf N) (m : EntryOf N) (x : N) where
    -- LetForm: the assignment and the reads, if the one may not stand in place of the others; and if there is no such assignment, the declaration and what assigns the name
    abbrev pub no_let : List (WitnessOf N)
    no_let =
        option_map_or (λ (e : LetOf N).
        if is_let_form a i m x e then [] else a_node (InMethod m) (let_path e) ∷ map (a_node (InMethod m)) (reads_of a m.tree x))
        (let_of a m.tree x) (declarations m x ++ nodes_that (is_assignment_of x) (InMethod m) m.tree.body)

    module _ (e : LetOf N) where
      -- a free name of the value that means another thing at a read
      abbrev pub changed_name : List ℕ → N → List (WitnessOf N)
      changed_name r n =
          where_true (not (same_meaning a.words.tests.same (means a.words i m (let_path e) n) (means a.words i m r n)))
          (TwoMeanings (InMethod m) r n (means a.words i m (let_path e) n) (means a.words i m r n))

      abbrev pub changed_at : List ℕ → List (WitnessOf N)
      changed_at r = flat_map (changed_name r) (free_names a.words.tests.same a.words.tests.is_pseudo e.value)

      -- NoCapture: all of them
      abbrev pub changed_names : List (WitnessOf N)
      changed_names = flat_map changed_at (reads_of a m.tree x)

      -- NoNewControl: the nodes above reads that would become control sends
      abbrev pub new_controls : List (WitnessOf N)
      new_controls =
          map (λ r. a_node (InMethod m) (above r)) (filter (λ r. makes_control a.words.tests.form m.tree r e.value) (reads_of a m.tree x))
