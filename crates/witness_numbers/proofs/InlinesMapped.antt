-- The witnesses of the conditions of a message that is replaced by a body are the same once names are changed one to one.
use Rattle.std.proofs.Common.{◌≡◌, ℕ, suc, Bool, not, ◌&&◌, ◌||◌, nat_lt, List, [], ◌∷◌, ◌++◌, map, filter, flat_map, length, Option, Some, is_some, refl, ap, ◌∙◌}
use Rattle.std.specs.List.{enumerate_from}
use Rattle.std.specs.Option.{option_map_or}
use Rattle.std.specs.Prelude.{if◌then◌else◌}
use Rattle.tree_model.specs.Tree.{TreeOf, map_names, map_sequence, map_method}
use Rattle.tree_model.specs.Path.{nth}
use Rattle.tree_model.specs.Nodes.{Placed, nodes}
use Rattle.tree_model.proofs.Children.{nth-map_trees}
use Rattle.tree_model.proofs.NodesLemmas.{nodes-map_sequence}
use Rattle.scope_model.specs.Control.{is_empty}
use Rattle.scope_model.specs.FreeNames.{free_names}
use Rattle.scope_model.proofs.Changed.{free_names-map_names}
use Rattle.image_model.specs.Image.{ClassOf, EntryOf, ImageOf, map_class, map_entry, map_image}
use Rattle.image_model.specs.Lookup.{own_method, lookup}
use Rattle.image_model.specs.Means.{means}
use Rattle.image_model.specs.Uses.{name_used}
use Rattle.rename_model.specs.Conditions.{stands_below}
use Rattle.command_model.specs.Asked.{AskedOf}
use Rattle.command_model.specs.Hierarchy.{is_method_of}
use Rattle.command_model.specs.SameMethods.{same_meaning, is_super_node}
use Rattle.command_model.specs.Places.{is_return, is_of_block, SendOf}
use Rattle.command_model.specs.Inlined.{answered, passed_for}
use Rattle.command_model.specs.InlineConditions.{is_self_send, is_actual_plain, makes_no_control}
use Rattle.command_numbers.proofs.Lists.{some-map, empty-map, enumerate-map, filter-total, made-total, map-total, flat-total}
use Rattle.command_numbers.proofs.Everywhere.{Every, every_tree}
use Rattle.command_numbers.proofs.NodesAsked.{mapped_node, name_used-map, is_super_node-map}
use Rattle.command_numbers.proofs.Classes.{same-map, own_method-there, is_method_of-map, stands_below-map}
use Rattle.command_numbers.proofs.UsesAsked.{means-there}
use Rattle.command_numbers.proofs.MethodConditionsMapped.{lookup-there}
use Rattle.code_command_numbers.specs.KeepsMoves.{KeepsMoves}
use Rattle.code_command_numbers.proofs.PlacesMapped.{is_return-map, map_send}
use Rattle.code_command_numbers.proofs.InlinedMapped.{answered-map, passed_for-map}
use Rattle.code_command_numbers.proofs.PartConditionsMapped.{local, local-map}
use Rattle.code_command_numbers.proofs.InlineConditionsMapped.{answers_last-map, is_statement_between-map, is_self_send-map, is_actual_plain-map, means_alike, makes_no_control-map}
use Rattle.refusal_witnesses.specs.Witnesses.{InMethod, WitnessOf, TwoMeanings, a_node, a_method, where_true, nodes_that}
use Rattle.refusal_witnesses.specs.InlineWitnesses.{above, other_receiver, other_targets, body_fits, not_inlinable, other_actual, other_actuals, captured_name, captured_at, captured, new_control}
use Rattle.witness_numbers.specs.MappedWitnesses.{map_witness}
use Rattle.witness_numbers.proofs.Gathered.{mapped, joined, where-map, then-map, else-map, maybe-map, nodes_that-map}

module _ {M N : Type 0} (f : M → N) (a : AskedOf M) (b : AskedOf N) (keeps : KeepsMoves Every f a b) (i : ImageOf M) where
  -- the receiver of a message
  pub other_receiver-map : (m : EntryOf M) (e : SendOf M) → other_receiver b (map_image f i) (map_entry f m) (map_send f e) ≡ mapped f (other_receiver a i m e)
  other_receiver-map m e =
      where-map f (not (is_self_send a i e)) (not (is_self_send b (map_image f i) (map_send f e))) (a_node (InMethod m) (e.path ++ 0 ∷ [])) (a_node (InMethod (map_entry f m)) (e.path ++ 0 ∷ []))
      (ap not (is_self_send-map f a b keeps i e)) refl

  -- the methods that it may find
  pub other_targets-map : (c : M) (meta : Bool) (s : M) → other_targets b (map_image f i) (f c) meta (f s) ≡ mapped f (other_targets a i c meta s)
  other_targets-map c meta s =
      joined f (option_map_or of_kernel (lookup a.words i (Some c) meta s) []) (flat_map here i.classes) _ _
      (ap (λ (o : Option (EntryOf N)). option_map_or of_kernel_there o []) (lookup-there f a.words b.words keeps.asked.words i (Some c) meta s)
      ∙ maybe-map f (map_entry f) of_kernel of_kernel_there (λ m. where-map f m.kernel m.kernel (a_method m) (a_method (map_entry f m)) refl refl) (lookup a.words i (Some c) meta s))
      (flat-total (map_class f) (map_witness f) here there each i.classes)
    where
      of_kernel : EntryOf M → List (WitnessOf M)
      of_kernel m = where_true m.kernel (a_method m)

      of_kernel_there : EntryOf N → List (WitnessOf N)
      of_kernel_there m = where_true m.kernel (a_method m)

      own : ClassOf M → List (WitnessOf M)
      own e = option_map_or (λ m. a_method m ∷ []) (own_method a.words.tests.same i.methods e.name meta s) []

      own_there : ClassOf N → List (WitnessOf N)
      own_there e = option_map_or (λ m. a_method m ∷ []) (own_method b.words.tests.same (map (map_entry f) i.methods) e.name meta (f s)) []

      here : ClassOf M → List (WitnessOf M)
      here e = if stands_below a.words.tests.same i.classes c e && not (a.words.tests.same c e.name) then own e else []

      there : ClassOf N → List (WitnessOf N)
      there e = if stands_below b.words.tests.same (map (map_class f) i.classes) (f c) e && not (b.words.tests.same (f c) e.name) then own_there e else []

      each : (e : ClassOf M) → there (map_class f e) ≡ mapped f (here e)
      each e =
          then-map f (stands_below a.words.tests.same i.classes c e && not (a.words.tests.same c e.name))
          (stands_below b.words.tests.same (map (map_class f) i.classes) (f c) (map_class f e) && not (b.words.tests.same (f c) (f e.name))) (own e) (own_there (map_class f e))
          (λ j. stands_below-map f a.words b.words keeps.asked.words i.classes c e j && not (same-map f a.words b.words keeps.asked.words c e.name j))
          (ap (λ (o : Option (EntryOf N)). option_map_or (λ m. a_method m ∷ []) o []) (own_method-there f a.words b.words keeps.asked.words i.methods e.name meta s)
          ∙ maybe-map f (map_entry f) (λ m. a_method m ∷ []) (λ m. a_method m ∷ []) (λ m. refl) (own_method a.words.tests.same i.methods e.name meta s))

  module _ (m : EntryOf M) (e : SendOf M) (target : EntryOf M) where
    -- a body that may stand in place of a message
    body_fits-map : body_fits b (map_image f i) (map_entry f m) (map_send f e) (map_entry f target) ≡ body_fits a i m e target
    body_fits-map =
        λ j. (ap is_some (answered-map f target.tree.body.statements) ∙ some-map (map_names f) (answered target.tree.body.statements)) j
        || (is_statement_between-map f m.tree e.path j && answers_last-map f target.tree.body.statements j)

    returns_inside : nodes_that (λ x. is_return x.1 && nat_lt 1 (length x.0)) (InMethod (map_entry f target)) (map_sequence f target.tree.body) ≡ mapped f (nodes_that (λ x. is_return x.1 && nat_lt 1 (length x.0)) (InMethod target) target.tree.body)
    returns_inside =
        nodes_that-map f (λ x. is_return x.1 && nat_lt 1 (length x.0)) (λ x. is_return x.1 && nat_lt 1 (length x.0)) (λ x. ap (λ (k : Bool). k && nat_lt 1 (length x.0)) (is_return-map f x.1)) (InMethod target) target.tree.body

    supers_there : nodes_that (λ x. is_super_node b.is_super x.1) (InMethod (map_entry f target)) (map_sequence f target.tree.body) ≡ mapped f (nodes_that (λ x. is_super_node a.is_super x.1) (InMethod target) target.tree.body)
    supers_there =
        nodes_that-map f (λ x. is_super_node a.is_super x.1) (λ x. is_super_node b.is_super x.1) (λ x. is_super_node-map f a.is_super b.is_super (λ n. keeps.asked.is_super n tt) x.1) (InMethod target) target.tree.body

    pub not_inlinable-map : (c : M) → not_inlinable b (map_image f i) (f c) (map_entry f m) (map_send f e) (map_entry f target) ≡ mapped f (not_inlinable a i c m e target)
    not_inlinable-map c =
        joined f (where_true (target.kernel || not (is_empty target.tree.body.temporaries)) (a_method target)) _ _ _
        (where-map f (target.kernel || not (is_empty target.tree.body.temporaries)) (target.kernel || not (is_empty (map f target.tree.body.temporaries))) (a_method target) (a_method (map_entry f target))
        (λ j. target.kernel || not (empty-map f target.tree.body.temporaries j)) refl)
        (joined f (nodes_that (λ x. is_return x.1 && nat_lt 1 (length x.0)) (InMethod target) target.tree.body) _ _ _ returns_inside
        (joined f (if is_method_of a.words.tests.same c target then [] else nodes_that (λ x. is_super_node a.is_super x.1) (InMethod target) target.tree.body) (where_true (not (body_fits a i m e target)) (a_node (InMethod m) e.path)) _ _
        (else-map f (is_method_of a.words.tests.same c target) (is_method_of b.words.tests.same (f c) (map_entry f target)) (nodes_that (λ x. is_super_node a.is_super x.1) (InMethod target) target.tree.body)
        (nodes_that (λ x. is_super_node b.is_super x.1) (InMethod (map_entry f target)) (map_sequence f target.tree.body)) (is_method_of-map f a.words b.words keeps.asked.words c target) supers_there)
        (where-map f (not (body_fits a i m e target)) (not (body_fits b (map_image f i) (map_entry f m) (map_send f e) (map_entry f target))) (a_node (InMethod m) e.path) (a_node (InMethod (map_entry f m)) e.path) (ap not body_fits-map) refl)))

    -- what is passed
    other_actual-map : (x : ℕ × M) → other_actual b (map_image f i) (map_entry f m) (map_send f e) (map_entry f target) (x.0, f x.1) ≡ mapped f (other_actual a i m e target x)
    other_actual-map x =
        ap (λ (o : Option (TreeOf N)). option_map_or passed_there o (a_node (InMethod (map_entry f m)) e.path ∷ [])) (nth-map_trees f e.arguments x.0)
        ∙ made-total (map_names f) (map (map_witness f)) passed passed_there (a_node (InMethod m) e.path ∷ []) (a_node (InMethod (map_entry f m)) e.path ∷ []) each refl (nth e.arguments x.0)
      where
        passed : TreeOf M → List (WitnessOf M)
        passed t = where_true (not (is_actual_plain a i m e target x.1 t)) (a_node (InMethod m) (e.path ++ suc x.0 ∷ []))

        passed_there : TreeOf N → List (WitnessOf N)
        passed_there t = where_true (not (is_actual_plain b (map_image f i) (map_entry f m) (map_send f e) (map_entry f target) (f x.1) t)) (a_node (InMethod (map_entry f m)) (e.path ++ suc x.0 ∷ []))

        each : (t : TreeOf M) → passed_there (map_names f t) ≡ mapped f (passed t)
        each t =
            where-map f (not (is_actual_plain a i m e target x.1 t)) (not (is_actual_plain b (map_image f i) (map_entry f m) (map_send f e) (map_entry f target) (f x.1) (map_names f t)))
            (a_node (InMethod m) (e.path ++ suc x.0 ∷ [])) (a_node (InMethod (map_entry f m)) (e.path ++ suc x.0 ∷ [])) (ap not (is_actual_plain-map f a b keeps i m e target x.1 t)) refl

    pub other_actuals-map : other_actuals b (map_image f i) (map_entry f m) (map_send f e) (map_entry f target) ≡ mapped f (other_actuals a i m e target)
    other_actuals-map =
        ap (flat_map (other_actual b (map_image f i) (map_entry f m) (map_send f e) (map_entry f target))) (enumerate-map f 0 target.tree.arguments)
        ∙ flat-total (λ (x : ℕ × M). (x.0, f x.1)) (map_witness f) (other_actual a i m e target) (other_actual b (map_image f i) (map_entry f m) (map_send f e) (map_entry f target)) other_actual-map (enumerate_from 0 target.tree.arguments)

    -- names that mean another thing where a body stands
    module _ (path : List ℕ) where
      -- a free name of what is passed that a block declares
      abbrev passed_name : M → WitnessOf M
      passed_name x = TwoMeanings (InMethod target) path x (means a.words i m e.path x) (means a.words i target path x)

      abbrev passed_name_there : N → WitnessOf N
      passed_name_there x = TwoMeanings (InMethod (map_entry f target)) path x (means b.words (map_image f i) (map_entry f m) e.path x) (means b.words (map_image f i) (map_entry f target) path x)

      abbrev is_blocked : M → Bool
      is_blocked x = is_of_block (local a target.tree path x)

      abbrev is_blocked_there : N → Bool
      is_blocked_there x = is_of_block (local b (map_method f target.tree) path x)

      abbrev blocked : TreeOf M → List (WitnessOf M)
      blocked t = map passed_name (filter is_blocked (free_names a.words.tests.same a.words.tests.is_pseudo t))

      abbrev blocked_there : TreeOf N → List (WitnessOf N)
      blocked_there t = map passed_name_there (filter is_blocked_there (free_names b.words.tests.same b.words.tests.is_pseudo t))

      blocked-map : (t : TreeOf M) → blocked_there (map_names f t) ≡ mapped f (blocked t)
      blocked-map t =
          ap (λ (ns : List N). map passed_name_there (filter is_blocked_there ns)) (free_names-map_names Every f a.words.tests b.words.tests keeps.asked.words.tests t (every_tree Every (λ n. tt) t))
          ∙ ap (map passed_name_there) (filter-total f is_blocked is_blocked_there (λ x. ap is_of_block (local-map f a b keeps target.tree path x)) (free_names a.words.tests.same a.words.tests.is_pseudo t))
          ∙ map-total f (map_witness f) passed_name passed_name_there
          (λ x. λ j. TwoMeanings (InMethod (map_entry f target)) path (f x) (means-there f a.words b.words keeps.asked.words i m e.path x j) (means-there f a.words b.words keeps.asked.words i target path x j))
          (filter is_blocked (free_names a.words.tests.same a.words.tests.is_pseudo t))

      -- any other name
      abbrev is_kept : M → Bool
      is_kept n = is_blocked n || same_meaning a.words.tests.same (means a.words i target path n) (means a.words i m e.path n)

      abbrev is_kept_there : N → Bool
      is_kept_there n = is_blocked_there n || same_meaning b.words.tests.same (means b.words (map_image f i) (map_entry f target) path n) (means b.words (map_image f i) (map_entry f m) e.path n)

      abbrev moved_name : M → WitnessOf M
      moved_name n = TwoMeanings (InMethod target) path n (means a.words i target path n) (means a.words i m e.path n)

      abbrev moved_name_there : N → WitnessOf N
      moved_name_there n = TwoMeanings (InMethod (map_entry f target)) path n (means b.words (map_image f i) (map_entry f target) path n) (means b.words (map_image f i) (map_entry f m) e.path n)

      moved-map : (n : M) → where_true (not (is_kept_there (f n))) (moved_name_there (f n)) ≡ mapped f (where_true (not (is_kept n)) (moved_name n))
      moved-map n =
          where-map f (not (is_kept n)) (not (is_kept_there (f n))) (moved_name n) (moved_name_there (f n))
          (λ j. not (is_of_block (local-map f a b keeps target.tree path n j) || means_alike f a b keeps i target path m e.path n j))
          (λ j. TwoMeanings (InMethod (map_entry f target)) path (f n) (means-there f a.words b.words keeps.asked.words i target path n j) (means-there f a.words b.words keeps.asked.words i m e.path n j))

      captured_name-map : (n : M) → captured_name b (map_image f i) (map_entry f m) (map_send f e) (map_entry f target) path (f n) ≡ mapped f (captured_name a i m e target path n)
      captured_name-map n =
          ap (λ (o : Option (TreeOf N)). option_map_or blocked_there o (where_true (not (is_kept_there (f n))) (moved_name_there (f n)))) (passed_for-map f a b keeps.asked target.tree e.arguments path n)
          ∙ made-total (map_names f) (map (map_witness f)) blocked blocked_there (where_true (not (is_kept n)) (moved_name n)) (where_true (not (is_kept_there (f n))) (moved_name_there (f n))) blocked-map (moved-map n)
          (passed_for a target.tree e.arguments path n)

    captured_at-map : (x : Placed M) → captured_at b (map_image f i) (map_entry f m) (map_send f e) (map_entry f target) (mapped_node f x) ≡ mapped f (captured_at a i m e target x)
    captured_at-map x =
        ap (λ (o : Option N). option_map_or (captured_name b (map_image f i) (map_entry f m) (map_send f e) (map_entry f target) x.0) o []) (name_used-map f x.1)
        ∙ maybe-map f f (captured_name a i m e target x.0) (captured_name b (map_image f i) (map_entry f m) (map_send f e) (map_entry f target) x.0) (captured_name-map x.0) (name_used x.1)

    pub captured-map : captured b (map_image f i) (map_entry f m) (map_send f e) (map_entry f target) ≡ mapped f (captured a i m e target)
    captured-map =
        ap (flat_map (captured_at b (map_image f i) (map_entry f m) (map_send f e) (map_entry f target))) (nodes-map_sequence f target.tree.body)
        ∙ flat-total (mapped_node f) (map_witness f) (captured_at a i m e target) (captured_at b (map_image f i) (map_entry f m) (map_send f e) (map_entry f target)) captured_at-map (nodes target.tree.body)

    -- the node above a message
    pub new_control-map : new_control b (map_image f i) (map_entry f m) (map_send f e) (map_entry f target) ≡ mapped f (new_control a i m e target)
    new_control-map =
        where-map f (not (makes_no_control a i m e target)) (not (makes_no_control b (map_image f i) (map_entry f m) (map_send f e) (map_entry f target))) (a_node (InMethod m) (above e.path)) (a_node (InMethod (map_entry f m)) (above e.path))
        (ap not (makes_no_control-map f a b keeps i m e target)) refl
