-- The witnesses of the conditions of temporaries are the same once names are changed one to one.
use Rattle.std.proofs.Common.{◌≡◌, ℕ, not, List, [], ◌∷◌, ◌++◌, map, filter, flat_map, Option, refl, ap, ◌∙◌}
use Rattle.std.specs.Option.{option_map_or}
use Rattle.std.specs.Prelude.{if◌then◌else◌}
use Rattle.tree_model.specs.Tree.{var, literal, send, cascade, assign, block, brace, return, map_sequence, map_method}
use Rattle.tree_model.specs.Nodes.{Placed, nodes}
use Rattle.tree_model.proofs.NodesLemmas.{nodes-map_sequence}
use Rattle.scope_model.specs.FreeNames.{free_names}
use Rattle.scope_model.proofs.Changed.{free_names-map_names}
use Rattle.image_model.specs.Image.{EntryOf, ImageOf, map_entry, map_image}
use Rattle.image_model.specs.Means.{means}
use Rattle.rename_model.specs.NamesThere.{declared_by}
use Rattle.command_model.specs.Asked.{AskedOf}
use Rattle.command_model.specs.SameMethods.{same_meaning}
use Rattle.command_model.specs.Temporaries.{LetOf, is_declared_once, reads_of, let_of}
use Rattle.command_model.specs.InlineConditions.{makes_control}
use Rattle.command_model.specs.LetConditions.{let_path, is_let_form}
use Rattle.command_numbers.specs.KeepsAsked.{KeepsAsked}
use Rattle.command_numbers.proofs.Lists.{filter-total, made-total, map-total, flat-total}
use Rattle.command_numbers.proofs.Everywhere.{Every, every_tree}
use Rattle.command_numbers.proofs.NodesAsked.{mapped_node, declared_by-map}
use Rattle.command_numbers.proofs.Classes.{same-map}
use Rattle.command_numbers.proofs.UsesAsked.{means-there}
use Rattle.command_numbers.proofs.TemporariesMapped.{is_declared_once-map}
use Rattle.code_command_numbers.specs.KeepsMoves.{KeepsMoves}
use Rattle.code_command_numbers.proofs.LetsMapped.{map_let, reads_of-map, let_of-map}
use Rattle.code_command_numbers.proofs.InlineConditionsMapped.{makes_control-map, means_alike}
use Rattle.code_command_numbers.proofs.LetConditionsMapped.{is_let_form-map}
use Rattle.refusal_witnesses.specs.Witnesses.{InMethod, WitnessOf, TwoMeanings, a_node, a_method, nodes_that}
use Rattle.refusal_witnesses.specs.InlineWitnesses.{above}
use Rattle.refusal_witnesses.specs.TemporaryWitnesses.{declarations_at, declarations, further_declarations, is_assignment_of, no_let, changed_name, changed_at, changed_names, new_controls}
use Rattle.witness_numbers.specs.MappedWitnesses.{map_witness}
use Rattle.witness_numbers.proofs.Gathered.{mapped, joined, where-map, else-map, each-map, paths-map, nodes_that-map}

module _ {M N : Type 0} (f : M → N) (a : AskedOf M) (b : AskedOf N) (keeps : KeepsAsked Every f a b) (m : EntryOf M) (x : M) where
  -- a witness for each time that a name stands among some
  for_each : (w : WitnessOf M) (ns : List M) → map (λ (y : N). map_witness f w) (filter (b.words.tests.same (f x)) (map f ns)) ≡ mapped f (map (λ (y : M). w) (filter (a.words.tests.same x) ns))
  for_each w ns =
      ap (map (λ (y : N). map_witness f w)) (filter-total f (a.words.tests.same x) (b.words.tests.same (f x)) (same-map f a.words b.words keeps.words x) ns)
      ∙ map-total f (map_witness f) (λ (y : M). w) (λ (y : N). map_witness f w) (λ y. refl) (filter (a.words.tests.same x) ns)

  -- the places that declare it
  declarations_at-map : (e : Placed M) → declarations_at b (map_entry f m) (f x) (mapped_node f e) ≡ mapped f (declarations_at a m x e)
  declarations_at-map e =
      ap (λ (ns : List N). map (λ (y : N). a_node (InMethod (map_entry f m)) e.0) (filter (b.words.tests.same (f x)) ns)) (declared_by-map f e.1) ∙ for_each (a_node (InMethod m) e.0) (declared_by e.1)

  pub declarations-map : declarations b (map_entry f m) (f x) ≡ mapped f (declarations a m x)
  declarations-map =
      joined f (map (λ (y : M). a_method m) (filter (a.words.tests.same x) m.tree.arguments)) _ _ _ (for_each (a_method m) m.tree.arguments)
      (joined f (map (λ (y : M). a_method m) (filter (a.words.tests.same x) m.tree.body.temporaries)) (flat_map (declarations_at a m x) (nodes m.tree.body)) _ _ (for_each (a_method m) m.tree.body.temporaries)
      (ap (flat_map (declarations_at b (map_entry f m) (f x))) (nodes-map_sequence f m.tree.body)
      ∙ flat-total (mapped_node f) (map_witness f) (declarations_at a m x) (declarations_at b (map_entry f m) (f x)) declarations_at-map (nodes m.tree.body)))

  pub further_declarations-map : further_declarations b (map_entry f m) (f x) ≡ mapped f (further_declarations a m x)
  further_declarations-map =
      else-map f (is_declared_once a m.tree x) (is_declared_once b (map_method f m.tree) (f x)) (declarations a m x) (declarations b (map_entry f m) (f x)) (is_declared_once-map f a b keeps m.tree x) declarations-map

  -- the nodes that assign it
  is_assignment_of-map : (e : Placed M) → is_assignment_of b (f x) (mapped_node f e) ≡ is_assignment_of a x e
  is_assignment_of-map (path, var n) = refl
  is_assignment_of-map (path, literal l) = refl
  is_assignment_of-map (path, send r s args) = refl
  is_assignment_of-map (path, cascade r ms) = refl
  is_assignment_of-map (path, assign n t) = same-map f a.words b.words keeps.words x n
  is_assignment_of-map (path, block ps ts ss d) = refl
  is_assignment_of-map (path, brace ts) = refl
  is_assignment_of-map (path, return t) = refl

  pub assignments-map : nodes_that (is_assignment_of b (f x)) (InMethod (map_entry f m)) (map_sequence f m.tree.body) ≡ mapped f (nodes_that (is_assignment_of a x) (InMethod m) m.tree.body)
  assignments-map = nodes_that-map f (is_assignment_of a x) (is_assignment_of b (f x)) is_assignment_of-map (InMethod m) m.tree.body

  -- the nodes that read it
  pub reads-map : map (a_node (InMethod (map_entry f m))) (reads_of b (map_method f m.tree) (f x)) ≡ mapped f (map (a_node (InMethod m)) (reads_of a m.tree x))
  reads-map = ap (map (a_node (InMethod (map_entry f m)))) (reads_of-map f a b keeps m.tree x) ∙ paths-map f (InMethod m) (λ (p : List ℕ). p) (reads_of a m.tree x)

module _ {M N : Type 0} (f : M → N) (a : AskedOf M) (b : AskedOf N) (keeps : KeepsMoves Every f a b) (i : ImageOf M) (m : EntryOf M) (x : M) where
  -- the assignment and the reads
  pub no_let-map : no_let b (map_image f i) (map_entry f m) (f x) ≡ mapped f (no_let a i m x)
  no_let-map =
      ap (λ (o : Option (LetOf N)). option_map_or let_there o others_there) (let_of-map f a b keeps.asked m.tree x)
      ∙ made-total (map_let f) (map (map_witness f)) let_here let_there others others_there each
      (joined f (declarations a m x) (nodes_that (is_assignment_of a x) (InMethod m) m.tree.body) _ _ (declarations-map f a b keeps.asked m x) (assignments-map f a b keeps.asked m x)) (let_of a m.tree x)
    where
      others : List (WitnessOf M)
      others = declarations a m x ++ nodes_that (is_assignment_of a x) (InMethod m) m.tree.body

      others_there : List (WitnessOf N)
      others_there = declarations b (map_entry f m) (f x) ++ nodes_that (is_assignment_of b (f x)) (InMethod (map_entry f m)) (map_sequence f m.tree.body)

      both : LetOf M → List (WitnessOf M)
      both e = a_node (InMethod m) (let_path e) ∷ map (a_node (InMethod m)) (reads_of a m.tree x)

      both_there : LetOf N → List (WitnessOf N)
      both_there e = a_node (InMethod (map_entry f m)) (let_path e) ∷ map (a_node (InMethod (map_entry f m))) (reads_of b (map_method f m.tree) (f x))

      let_here : LetOf M → List (WitnessOf M)
      let_here e = if is_let_form a i m x e then [] else both e

      let_there : LetOf N → List (WitnessOf N)
      let_there e = if is_let_form b (map_image f i) (map_entry f m) (f x) e then [] else both_there e

      each : (e : LetOf M) → let_there (map_let f e) ≡ mapped f (let_here e)
      each e =
          else-map f (is_let_form a i m x e) (is_let_form b (map_image f i) (map_entry f m) (f x) (map_let f e)) (both e) (both_there (map_let f e)) (is_let_form-map f a b keeps i m x e)
          (ap (λ (ws : List (WitnessOf N)). a_node (InMethod (map_entry f m)) (let_path e) ∷ ws) (reads-map f a b keeps.asked m x))

  module _ (e : LetOf M) where
    -- names of the value that mean another thing at a read
    changed_name-map : (r : List ℕ) (n : M) → changed_name b (map_image f i) (map_entry f m) (f x) (map_let f e) r (f n) ≡ mapped f (changed_name a i m x e r n)
    changed_name-map r n =
        where-map f (not (same_meaning a.words.tests.same (means a.words i m (let_path e) n) (means a.words i m r n)))
        (not (same_meaning b.words.tests.same (means b.words (map_image f i) (map_entry f m) (let_path e) (f n)) (means b.words (map_image f i) (map_entry f m) r (f n))))
        (TwoMeanings (InMethod m) r n (means a.words i m (let_path e) n) (means a.words i m r n))
        (TwoMeanings (InMethod (map_entry f m)) r (f n) (means b.words (map_image f i) (map_entry f m) (let_path e) (f n)) (means b.words (map_image f i) (map_entry f m) r (f n)))
        (ap not (means_alike f a b keeps i m (let_path e) m r n))
        (λ j. TwoMeanings (InMethod (map_entry f m)) r (f n) (means-there f a.words b.words keeps.asked.words i m (let_path e) n j) (means-there f a.words b.words keeps.asked.words i m r n j))

    changed_at-map : (r : List ℕ) → changed_at b (map_image f i) (map_entry f m) (f x) (map_let f e) r ≡ mapped f (changed_at a i m x e r)
    changed_at-map r =
        ap (flat_map (changed_name b (map_image f i) (map_entry f m) (f x) (map_let f e) r)) (free_names-map_names Every f a.words.tests b.words.tests keeps.asked.words.tests e.value (every_tree Every (λ n. tt) e.value))
        ∙ flat-total f (map_witness f) (changed_name a i m x e r) (changed_name b (map_image f i) (map_entry f m) (f x) (map_let f e) r) (changed_name-map r) (free_names a.words.tests.same a.words.tests.is_pseudo e.value)

    pub changed_names-map : changed_names b (map_image f i) (map_entry f m) (f x) (map_let f e) ≡ mapped f (changed_names a i m x e)
    changed_names-map =
        ap (flat_map (changed_at b (map_image f i) (map_entry f m) (f x) (map_let f e))) (reads_of-map f a b keeps.asked m.tree x)
        ∙ each-map f (changed_at a i m x e) (changed_at b (map_image f i) (map_entry f m) (f x) (map_let f e)) changed_at-map (reads_of a m.tree x)

    -- the nodes above reads
    pub new_controls-map : new_controls b (map_image f i) (map_entry f m) (f x) (map_let f e) ≡ mapped f (new_controls a i m x e)
    new_controls-map =
        (λ j. map (λ (r : List ℕ). a_node (InMethod (map_entry f m)) (above r)) (filter (λ (r : List ℕ). makes_control-map f a.words b.words keeps.asked.words m.tree r e.value j) (reads_of-map f a b keeps.asked m.tree x j)))
        ∙ paths-map f (InMethod m) (λ (r : List ℕ). above r) (filter (λ (r : List ℕ). makes_control a.words.tests.form m.tree r e.value) (reads_of a m.tree x))
