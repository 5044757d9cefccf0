-- Witnesses that are gathered of nodes, methods, do-its and classes are the same once names are changed one to one.
use Rattle.std.proofs.Common.{◌≡◌, ℕ, Bool, true, false, cond, List, [], ◌∷◌, ◌++◌, map, filter, flat_map, Option, option_map, refl, sym, ap, ◌∙◌}
use Rattle.std.specs.List.{enumerate_from}
use Rattle.std.specs.Option.{option_map_or}
use Rattle.std.proofs.lemmas.List.{map-append}
use Rattle.tree_model.specs.Tree.{SequenceOf, map_sequence}
use Rattle.tree_model.specs.Nodes.{Placed, nodes}
use Rattle.tree_model.proofs.NodesLemmas.{nodes-map_sequence}
use Rattle.image_model.specs.Image.{ClassOf, EntryOf, DoItOf, ImageOf, map_class, map_entry, map_doit, map_image}
use Rattle.image_model.specs.Nodes.{in_doit, Use}
use Rattle.command_numbers.proofs.Lists.{chosen, enumerate-map, filter-total, made-total, map-total, flat-total}
use Rattle.command_numbers.proofs.NodesAsked.{mapped_node}
use Rattle.refusal_witnesses.specs.Witnesses.{OwnerOf, AtPlace, WitnessOf, a_node, a_use, a_method, a_class_of, where_true, nodes_that, in_doits}
use Rattle.witness_numbers.specs.MappedWitnesses.{map_owner, map_witness}

module _ {M N : Type 0} (f : M → N) where
  -- all of a list
  abbrev pub mapped : List (WitnessOf M) → List (WitnessOf N)
  mapped ws = map (map_witness f) ws

  -- one list after another
  pub joined : (xs ys : List (WitnessOf M)) (us vs : List (WitnessOf N)) → us ≡ mapped xs → vs ≡ mapped ys → us ++ vs ≡ mapped (xs ++ ys)
  joined xs ys us vs e h = (λ i. e i ++ h i) ∙ sym (map-append (map_witness f) xs ys)

  -- a witness under a test
  pub where-map : (b c : Bool) (x : WitnessOf M) (y : WitnessOf N) → c ≡ b → y ≡ map_witness f x → where_true c y ≡ mapped (where_true b x)
  where-map true c x y e h = ap (λ (d : Bool). where_true d y) e ∙ ap (λ (z : WitnessOf N). z ∷ []) h
  where-map false c x y e h = ap (λ (d : Bool). where_true d y) e

  -- a list under a test, and under its opposite
  pub then-map : (b c : Bool) (xs : List (WitnessOf M)) (ys : List (WitnessOf N)) → c ≡ b → ys ≡ mapped xs → cond c ys [] ≡ mapped (cond b xs [])
  then-map b c xs ys e h = chosen (map (map_witness f)) b c xs [] ys [] e h refl

  pub else-map : (b c : Bool) (xs : List (WitnessOf M)) (ys : List (WitnessOf N)) → c ≡ b → ys ≡ mapped xs → cond c [] ys ≡ mapped (cond b [] xs)
  else-map b c xs ys e h = chosen (map (map_witness f)) b c [] xs [] ys e refl h

  -- what is in the way of a thing that there may be
  pub maybe-map : {X Y : Type 0} (g : X → Y) (p : X → List (WitnessOf M)) (q : Y → List (WitnessOf N)) → ((x : X) → q (g x) ≡ mapped (p x)) → (o : Option X) → option_map_or q (option_map g o) [] ≡ mapped (option_map_or p o [])
  maybe-map g p q e o = made-total g (map (map_witness f)) p q [] [] e refl o

  -- of each item
  pub each-map : {X : Type 0} (p : X → List (WitnessOf M)) (q : X → List (WitnessOf N)) → ((x : X) → q x ≡ mapped (p x)) → (xs : List X) → flat_map q xs ≡ mapped (flat_map p xs)
  each-map p q e [] = refl
  each-map p q e (x ∷ xs) = joined (p x) (flat_map p xs) (q x) (flat_map q xs) (e x) (each-map p q e xs)

  -- uses, and nodes by their paths
  pub uses-map : (us : List Use) → map (a_use {N = N}) us ≡ mapped (map (a_use {N = M}) us)
  uses-map [] = refl
  uses-map (u ∷ us) = ap (λ (ws : List (WitnessOf N)). a_use u ∷ ws) (uses-map us)

  pub paths-map : {X : Type 0} (owner : OwnerOf M) (at : X → List ℕ) (xs : List X) → map (λ (x : X). a_node (map_owner f owner) (at x)) xs ≡ mapped (map (λ (x : X). a_node owner (at x)) xs)
  paths-map owner at [] = refl
  paths-map owner at (x ∷ xs) = ap (λ (ws : List (WitnessOf N)). a_node (map_owner f owner) (at x) ∷ ws) (paths-map owner at xs)

  -- the nodes among some that pass tests which agree
  pub chosen_nodes-map : (p : Placed M → Bool) (q : Placed N → Bool) → ((e : Placed M) → q (mapped_node f e) ≡ p e) → (owner : OwnerOf M) (es : List (Placed M))
      → map (λ (x : Placed N). a_node (map_owner f owner) x.0) (filter q (map (mapped_node f) es)) ≡ mapped (map (λ (x : Placed M). a_node owner x.0) (filter p es))
  chosen_nodes-map p q e owner es =
      ap (map (λ (x : Placed N). a_node (map_owner f owner) x.0)) (filter-total (mapped_node f) p q e es)
      ∙ map-total (mapped_node f) (map_witness f) (λ (x : Placed M). a_node owner x.0) (λ (x : Placed N). a_node (map_owner f owner) x.0) (λ x. refl) (filter p es)

  pub nodes_that-map : (p : Placed M → Bool) (q : Placed N → Bool) → ((e : Placed M) → q (mapped_node f e) ≡ p e) → (owner : OwnerOf M) (b : SequenceOf M)
      → nodes_that q (map_owner f owner) (map_sequence f b) ≡ mapped (nodes_that p owner b)
  nodes_that-map p q e owner b =
      ap (λ (ns : List (Placed N)). map (λ (x : Placed N). a_node (map_owner f owner) x.0) (filter q ns)) (nodes-map_sequence f b)
      ∙ chosen_nodes-map p q e owner (nodes b)

  -- what stands in do-its
  pub in_doits-map : (p : OwnerOf M → SequenceOf M → List (WitnessOf M)) (q : OwnerOf N → SequenceOf N → List (WitnessOf N))
      → ((owner : OwnerOf M) (b : SequenceOf M) → q (map_owner f owner) (map_sequence f b) ≡ mapped (p owner b)) → (i : ImageOf M)
      → in_doits q (map_image f i) ≡ mapped (in_doits p i)
  in_doits-map p q e i =
      ap (flat_map (λ (x : ℕ × DoItOf N). q (AtPlace (in_doit x.0)) x.1.body)) (enumerate-map (map_doit f) 0 i.doits)
      ∙ flat-total (λ (x : ℕ × DoItOf M). (x.0, map_doit f x.1)) (map_witness f) (λ (x : ℕ × DoItOf M). p (AtPlace (in_doit x.0)) x.1.body) (λ (x : ℕ × DoItOf N). q (AtPlace (in_doit x.0)) x.1.body)
      (λ x. e (AtPlace (in_doit x.0)) x.1.body) (enumerate_from 0 i.doits)

  -- the classes and the methods that pass tests which agree
  pub classes-map : (p : ClassOf M → Bool) (q : ClassOf N → Bool) → ((c : ClassOf M) → q (map_class f c) ≡ p c) → (cs : List (ClassOf M))
      → map a_class_of (filter q (map (map_class f) cs)) ≡ mapped (map a_class_of (filter p cs))
  classes-map p q e cs =
      ap (map (a_class_of {N = N})) (filter-total (map_class f) p q e cs)
      ∙ map-total (map_class f) (map_witness f) (a_class_of {N = M}) (a_class_of {N = N}) (λ c. refl) (filter p cs)

  pub methods-map : (p : EntryOf M → Bool) (q : EntryOf N → Bool) → ((m : EntryOf M) → q (map_entry f m) ≡ p m) → (ms : List (EntryOf M))
      → map a_method (filter q (map (map_entry f) ms)) ≡ mapped (map a_method (filter p ms))
  methods-map p q e ms =
      ap (map (a_method {N = N})) (filter-total (map_entry f) p q e ms)
      ∙ map-total (map_entry f) (map_witness f) (a_method {N = M}) (a_method {N = N}) (λ m. refl) (filter p ms)
