-- The scopes round a place, closures and the statements at a path are the same once names are changed one to one.
use Rattle.std.proofs.Common.{◌≡◌, ℕ, zero, suc, ◌+◌, Bool, false, not, ◌&&◌, List, [], ◌∷◌, ◌++◌, map, Option, Some, None, option_map, option_and_then, unwrap_or, refl, sym, ap, ◌∙◌}
use Rattle.std.specs.Option.{option_map_or}
use Rattle.std.proofs.lemmas.List.{map-append}
use Rattle.tree_model.specs.Tree.{TreeOf, var, literal, send, cascade, assign, block, brace, return, TreesOf, StatementsOf, no_statements, SequenceOf, map_names, map_statements, map_sequence}
use Rattle.tree_model.specs.Path.{nth, statement_trees, child, part_in}
use Rattle.tree_model.proofs.Children.{nth-map_trees, child-map_names, statement_trees-map_statements}
use Rattle.tree_model.proofs.Parts.{part_in-map_sequence}
use Rattle.scope_model.specs.Control.{is_loop, steps_in_place, is_block, is_closure_at, is_control}
use Rattle.scope_model.specs.Scope.{ScopeOf, PlacedScope, block_scope, own_scope, entered, scopes_round}
use Rattle.scope_model.specs.FreeNames.{statements_at}
use Rattle.scope_model.proofs.Changed.{map_scope, is_control-map_names}
use Rattle.image_model.specs.Words.{WordsOf, KeepsWords}
use Rattle.command_model.specs.Places.{is_closure_in, is_in_place}
use Rattle.command_numbers.proofs.Lists.{or-total}
use Rattle.command_numbers.proofs.Everywhere.{Every, every_tree}

module _ {M N : Type 0} (f : M → N) where
  -- a placed scope with each name changed
  abbrev pub map_placed_scope : PlacedScope M → PlacedScope N
  map_placed_scope p = (p.0, map_scope f p.1)

  -- the scope that a node is
  block_scope-map : (t : TreeOf M) → block_scope (map_names f t) ≡ option_map (map_scope f) (block_scope t)
  block_scope-map (var n) = refl
  block_scope-map (literal l) = refl
  block_scope-map (send r s args) = refl
  block_scope-map (cascade r ms) = refl
  block_scope-map (assign n t) = refl
  block_scope-map (block ps ts ss e) = refl
  block_scope-map (brace ts) = refl
  block_scope-map (return t) = refl

  own_scope-map : (depth : ℕ) (t : TreeOf M) → own_scope depth (map_names f t) ≡ map map_placed_scope (own_scope depth t)
  own_scope-map depth (var n) = refl
  own_scope-map depth (literal l) = refl
  own_scope-map depth (send r s args) = refl
  own_scope-map depth (cascade r ms) = refl
  own_scope-map depth (assign n t) = refl
  own_scope-map depth (block ps ts ss e) = refl
  own_scope-map depth (brace ts) = refl
  own_scope-map depth (return t) = refl

  -- what is found below a step
  below-map : {A B : Type 0} (h : A → B) (d : A) (go : TreeOf M → A) (went : TreeOf N → B) → ((c : TreeOf M) → went (map_names f c) ≡ h (go c))
      → (o : Option (TreeOf M)) → unwrap_or (option_map went (option_map (map_names f) o)) (h d) ≡ h (unwrap_or (option_map go o) d)
  below-map h d go went e None = refl
  below-map h d go went e (Some c) = e c

  -- the scopes that a path enters
  entered-map : (depth : ℕ) (t : TreeOf M) (path : List ℕ) → entered depth (map_names f t) path ≡ map map_placed_scope (entered depth t path)
  entered-map depth t [] = refl
  entered-map depth t (k ∷ ks) =
      (λ i. unwrap_or (option_map (λ (c : TreeOf N). entered (depth + 1) c ks) (child-map_names f t k i)) [] ++ own_scope-map depth t i)
      ∙ ap (λ (ps : List (PlacedScope N)). ps ++ map map_placed_scope (own_scope depth t))
      (below-map (map map_placed_scope) [] (λ (c : TreeOf M). entered (depth + 1) c ks) (λ (c : TreeOf N). entered (depth + 1) c ks) (λ c. entered-map (depth + 1) c ks) (child t k))
      ∙ sym (map-append map_placed_scope (unwrap_or (option_map (λ (c : TreeOf M). entered (depth + 1) c ks) (child t k)) []) (own_scope depth t))

  -- the statement of a number
  pub nth-map_statements : (ss : StatementsOf M) (k : ℕ) → nth (statement_trees (map_statements f ss)) k ≡ option_map (map_names f) (nth (statement_trees ss) k)
  nth-map_statements ss k = ap (λ (ts : TreesOf N). nth ts k) (statement_trees-map_statements f ss) ∙ nth-map_trees f (statement_trees ss) k

  -- the scopes round a place
  pub scopes_round-map : (s : ScopeOf M) (path : List ℕ) → scopes_round (map_scope f s) path ≡ map map_placed_scope (scopes_round s path)
  scopes_round-map s [] = refl
  scopes_round-map s (k ∷ ks) =
      ap (λ (o : Option (TreeOf N)). unwrap_or (option_map (λ (c : TreeOf N). entered 1 c ks) o) [] ++ (0, map_scope f s) ∷ []) (nth-map_statements s.statements k)
      ∙ ap (λ (ps : List (PlacedScope N)). ps ++ (0, map_scope f s) ∷ [])
      (below-map (map map_placed_scope) [] (λ (c : TreeOf M). entered 1 c ks) (λ (c : TreeOf N). entered 1 c ks) (λ c. entered-map 1 c ks) (nth (statement_trees s.statements) k))
      ∙ sym (map-append map_placed_scope (unwrap_or (option_map (λ (c : TreeOf M). entered 1 c ks) (nth (statement_trees s.statements) k)) []) ((0, s) ∷ []))

  -- the statements at a path
  pub statements_at-map : (b : SequenceOf M) (path : List ℕ) → statements_at (map_sequence f b) path ≡ map_statements f (statements_at b path)
  statements_at-map b [] = refl
  statements_at-map b (k ∷ ks) = ap (λ (o : Option (TreeOf N)). statements_of (option_and_then block_scope o)) (part_in-map_sequence f b (k ∷ ks)) ∙ by (part_in b (k ∷ ks))
    where
      statements_of : {K : Type 0} → Option (ScopeOf K) → StatementsOf K
      statements_of o = unwrap_or (option_map (λ s. s.statements) o) no_statements

      in_block : (o : Option (ScopeOf M)) → statements_of (option_map (map_scope f) o) ≡ map_statements f (statements_of o)
      in_block None = refl
      in_block (Some s) = refl

      by : (o : Option (TreeOf M)) → statements_of (option_and_then block_scope (option_map (map_names f) o)) ≡ map_statements f (statements_of (option_and_then block_scope o))
      by None = refl
      by (Some t) = ap statements_of (block_scope-map t) ∙ in_block (block_scope t)

  pub is_block-map : (t : TreeOf M) → is_block (map_names f t) ≡ is_block t
  is_block-map (var n) = refl
  is_block-map (literal l) = refl
  is_block-map (send r s args) = refl
  is_block-map (cascade r ms) = refl
  is_block-map (assign n t) = refl
  is_block-map (block ps ts ss e) = refl
  is_block-map (brace ts) = refl
  is_block-map (return t) = refl

module _ {M N : Type 0} (f : M → N) (w : WordsOf M) (v : WordsOf N) (keeps : KeepsWords Every f w v) where
  -- control sends
  pub is_control-map : (t : TreeOf M) → is_control v.tests.form (map_names f t) ≡ is_control w.tests.form t
  is_control-map t = is_control-map_names Every f w.tests v.tests keeps.tests t (every_tree Every (λ n. tt) t)

  -- whether a step leads to a block of one
  steps_in_place-map : (t : TreeOf M) (k : ℕ) → steps_in_place v.tests.form (map_names f t) k ≡ steps_in_place w.tests.form t k
  steps_in_place-map (var n) k = refl
  steps_in_place-map (literal l) k = refl
  steps_in_place-map (send r s args) zero = λ i. is_loop (keeps.tests.form s tt i) && is_control-map (send r s args) i
  steps_in_place-map (send r s args) (suc k) = is_control-map (send r s args)
  steps_in_place-map (cascade r ms) k = refl
  steps_in_place-map (assign n t) k = refl
  steps_in_place-map (block ps ts ss e) k = refl
  steps_in_place-map (brace ts) k = refl
  steps_in_place-map (return t) k = refl

  -- closures
  is_closure_at-map : (in_place : Bool) (t : TreeOf M) (path : List ℕ) → is_closure_at v.tests.form in_place (map_names f t) path ≡ is_closure_at w.tests.form in_place t path
  is_closure_at-map in_place t [] = ap (λ (b : Bool). b && not in_place) (is_block-map f t)
  is_closure_at-map in_place t (k ∷ ks) =
      (λ i. unwrap_or (option_map (λ (c : TreeOf N). is_closure_at v.tests.form (steps_in_place-map t k i) c ks) (child-map_names f t k i)) false)
      ∙ below-map f (λ (b : Bool). b) false (λ (c : TreeOf M). is_closure_at w.tests.form (steps_in_place w.tests.form t k) c ks) (λ (c : TreeOf N). is_closure_at v.tests.form (steps_in_place w.tests.form t k) c ks)
      (λ c. is_closure_at-map (steps_in_place w.tests.form t k) c ks) (child t k)

  pub is_closure_in-map : (b : SequenceOf M) (path : List ℕ) → is_closure_in v.tests.form (map_sequence f b) path ≡ is_closure_in w.tests.form b path
  is_closure_in-map b [] = refl
  is_closure_in-map b (k ∷ ks) =
      ap (λ (o : Option (TreeOf N)). option_map_or (λ t. is_closure_at v.tests.form false t ks) o false) (nth-map_statements f b.statements k)
      ∙ or-total (map_names f) (λ t. is_closure_at w.tests.form false t ks) (λ t. is_closure_at v.tests.form false t ks) false (λ t. is_closure_at-map false t ks) (nth (statement_trees b.statements) k)

  pub is_in_place-map : (b : SequenceOf M) (path : List ℕ) → is_in_place v.tests.form (map_sequence f b) path ≡ is_in_place w.tests.form b path
  is_in_place-map b path =
      λ i. (ap (λ (o : Option (TreeOf N)). option_map_or is_block o false) (part_in-map_sequence f b path) ∙ or-total (map_names f) is_block is_block false (is_block-map f) (part_in b path)) i
      && not (is_closure_in-map b path i)
