-- Temporaries that stand in place of an expression, and expressions in place of a temporary, are the same once names are changed one to one.
use Rattle.std.proofs.Common.{◌≡◌, ℕ, suc, ◌==◌, not, cond, List, [], ◌∷◌, ◌++◌, map, filter, length, take, slice_get, Option, Some, None, is_some, option_map, option_and_then, refl, sym, ap, ◌∙◌}
use Rattle.std.proofs.lemmas.List.{map-append}
use Rattle.std.proofs.lemmas.Simd.{map-map}
use Rattle.tree_model.specs.Tree.{TreeOf, var, literal, send, cascade, assign, block, brace, return, no_statements, SequenceOf, MethodOf, map_names, map_sequence, map_method}
use Rattle.tree_model.specs.Path.{part_in, method_replaced}
use Rattle.tree_model.specs.Nodes.{Placed, nodes}
use Rattle.tree_model.proofs.NodesLemmas.{nodes-map_sequence}
use Rattle.tree_model.proofs.Parts.{part_in-map_sequence, method_replaced-map_method}
use Rattle.scope_model.specs.Scope.{local_in}
use Rattle.command_model.specs.Asked.{AskedOf}
use Rattle.command_model.specs.Places.{temporary_scope, sequence_round, statement_round}
use Rattle.command_model.specs.Walk.{rebuilt_method}
use Rattle.command_model.specs.Sequences.{single, put_in, put_for, sequence_changed}
use Rattle.command_model.specs.Temporaries.{LetOf, only, is_declared_once, reads_of, let_of, temporary_extracted, temporary_inlined}
use Rattle.command_numbers.specs.KeepsAsked.{KeepsAsked}
use Rattle.command_numbers.proofs.Lists.{chosen, filter-total}
use Rattle.command_numbers.proofs.Everywhere.{Every}
use Rattle.command_numbers.proofs.NodesAsked.{mapped_node}
use Rattle.command_numbers.proofs.Classes.{same-map}
use Rattle.command_numbers.proofs.TreesRebuilt.{rebuilt_method-map}
use Rattle.command_numbers.proofs.TemporariesMapped.{local_in-there, is_declared_once-map}
use Rattle.code_command_numbers.proofs.PlacesMapped.{sequence_round-map, statement_round-map}
use Rattle.code_command_numbers.proofs.SequencesMapped.{put_in-map, put_for-map, sequence_changed-map}

-- how many steps lead to the scope of a temporary that a node assigns, or reads
abbrev assigned_scope : {N : Type 0} → AskedOf N → MethodOf N → N → Placed N → Option ℕ
assigned_scope a m x (path, assign n t) = cond (a.words.tests.same x n) (temporary_scope (local_in a.words.tests.same a.words.tests.is_pseudo m path n)) None
assigned_scope a m x (path, t) = None

abbrev read_scope : {N : Type 0} → AskedOf N → MethodOf N → N → Placed N → Option ℕ
read_scope a m x (path, var n) = cond (a.words.tests.same x n) (temporary_scope (local_in a.words.tests.same a.words.tests.is_pseudo m path n)) None
read_scope a m x (path, t) = None

-- an assignment as a statement of the sequence to which so many steps lead
abbrev let_at : {N : Type 0} → Placed N → ℕ → Option (LetOf N)
let_at (path, assign n t) scope = cond (length path == suc scope) (option_map (λ k. record { sequence = take scope path; number = k; value = t }) (slice_get path scope)) None
let_at (path, t) scope = None

module _ {M N : Type 0} (f : M → N) where
  -- an assignment with each name changed
  abbrev pub map_let : LetOf M → LetOf N
  map_let e = record { sequence = e.sequence; number = e.number; value = map_names f e.value }

  let_at-map : (e : Placed M) (scope : ℕ) → let_at (mapped_node f e) scope ≡ option_map map_let (let_at e scope)
  let_at-map (path, var n) scope = refl
  let_at-map (path, literal l) scope = refl
  let_at-map (path, send r s args) scope = refl
  let_at-map (path, cascade r ms) scope = refl
  let_at-map (path, assign n t) scope =
      chosen (option_map map_let) (length path == suc scope) (length path == suc scope) (option_map (λ k. record { sequence = take scope path; number = k; value = t }) (slice_get path scope)) None
      (option_map (λ k. record { sequence = take scope path; number = k; value = map_names f t }) (slice_get path scope)) None refl (by (slice_get path scope)) refl
    where
      by : (o : Option ℕ) → ◌≡◌ {A = Option (LetOf N)} (option_map (λ k. record { sequence = take scope path; number = k; value = map_names f t }) o)
          (option_map map_let (option_map (λ k. record { sequence = take scope path; number = k; value = t }) o))
      by None = refl
      by (Some k) = refl
  let_at-map (path, block ps ts ss d) scope = refl
  let_at-map (path, brace ts) scope = refl
  let_at-map (path, return t) scope = refl

  -- the only item
  pub only-map : {X Y : Type 0} (g : X → Y) (xs : List X) → only (map g xs) ≡ option_map g (only xs)
  only-map g [] = refl
  only-map g (x ∷ []) = refl
  only-map g (x ∷ y ∷ xs) = refl

module _ {M N : Type 0} (f : M → N) (a : AskedOf M) (b : AskedOf N) (keeps : KeepsAsked Every f a b) (m : MethodOf M) (x : M) where
  -- the scope of a temporary at a place
  scope_of-map : (path : List ℕ) (n : M) → cond (b.words.tests.same (f x) (f n)) (temporary_scope (local_in b.words.tests.same b.words.tests.is_pseudo (map_method f m) path (f n))) None
      ≡ cond (a.words.tests.same x n) (temporary_scope (local_in a.words.tests.same a.words.tests.is_pseudo m path n)) None
  scope_of-map path n =
      λ i. cond (same-map f a.words b.words keeps.words x n i) (temporary_scope (local_in-there f a.words b.words keeps.words m path n i)) None

  assigned_scope-map : (e : Placed M) → assigned_scope b (map_method f m) (f x) (mapped_node f e) ≡ assigned_scope a m x e
  assigned_scope-map (path, var n) = refl
  assigned_scope-map (path, literal l) = refl
  assigned_scope-map (path, send r s args) = refl
  assigned_scope-map (path, cascade r ms) = refl
  assigned_scope-map (path, assign n t) = scope_of-map path n
  assigned_scope-map (path, block ps ts ss d) = refl
  assigned_scope-map (path, brace ts) = refl
  assigned_scope-map (path, return t) = refl

  read_scope-map : (e : Placed M) → read_scope b (map_method f m) (f x) (mapped_node f e) ≡ read_scope a m x e
  read_scope-map (path, var n) = scope_of-map path n
  read_scope-map (path, literal l) = refl
  read_scope-map (path, send r s args) = refl
  read_scope-map (path, cascade r ms) = refl
  read_scope-map (path, assign n t) = refl
  read_scope-map (path, block ps ts ss d) = refl
  read_scope-map (path, brace ts) = refl
  read_scope-map (path, return t) = refl

  -- where a temporary is read
  pub reads_of-map : reads_of b (map_method f m) (f x) ≡ reads_of a m x
  reads_of-map =
      ap (λ (es : List (Placed N)). map (λ (e : Placed N). e.0) (filter (λ e. is_some (read_scope b (map_method f m) (f x) e)) es)) (nodes-map_sequence f m.body)
      ∙ ap (map (λ (e : Placed N). e.0)) (filter-total (mapped_node f) (λ e. is_some (read_scope a m x e)) (λ e. is_some (read_scope b (map_method f m) (f x) e)) (λ e. ap is_some (read_scope-map e)) (nodes m.body))
      ∙ map-map (λ (e : Placed N). e.0) (mapped_node f) (filter (λ e. is_some (read_scope a m x e)) (nodes m.body))

  -- the assignment to it
  pub let_of-map : let_of b (map_method f m) (f x) ≡ option_map (map_let f) (let_of a m x)
  let_of-map =
      chosen (option_map (map_let f)) (is_declared_once a m x) (is_declared_once b (map_method f m) (f x)) (found (only assigned)) None (found_there (only assigned_there)) None
      (is_declared_once-map f a b keeps m x) (ap found_there (ap only assigns ∙ only-map f (mapped_node f) assigned) ∙ by (only assigned)) refl
    where
      assigned : List (Placed M)
      assigned = filter (λ e. is_some (assigned_scope a m x e)) (nodes m.body)

      assigned_there : List (Placed N)
      assigned_there = filter (λ e. is_some (assigned_scope b (map_method f m) (f x) e)) (nodes (map_sequence f m.body))

      found : Option (Placed M) → Option (LetOf M)
      found o = option_and_then (λ e. option_and_then (let_at e) (assigned_scope a m x e)) o

      found_there : Option (Placed N) → Option (LetOf N)
      found_there o = option_and_then (λ e. option_and_then (let_at e) (assigned_scope b (map_method f m) (f x) e)) o

      assigns : assigned_there ≡ map (mapped_node f) assigned
      assigns =
          ap (filter (λ e. is_some (assigned_scope b (map_method f m) (f x) e))) (nodes-map_sequence f m.body)
          ∙ filter-total (mapped_node f) (λ e. is_some (assigned_scope a m x e)) (λ e. is_some (assigned_scope b (map_method f m) (f x) e)) (λ e. ap is_some (assigned_scope-map e)) (nodes m.body)

      at : (e : Placed M) (o : Option ℕ) → option_and_then (let_at (mapped_node f e)) o ≡ option_map (map_let f) (option_and_then (let_at e) o)
      at e None = refl
      at e (Some k) = let_at-map f e k

      by : (o : Option (Placed M)) → found_there (option_map (mapped_node f) o) ≡ option_map (map_let f) (found o)
      by None = refl
      by (Some e) = ap (option_and_then (let_at (mapped_node f e))) (assigned_scope-map e) ∙ at e (assigned_scope a m x e)

  -- a temporary in place of an expression
  pub temporary_extracted-map : (path : List ℕ) → temporary_extracted b (map_method f m) path (f x) ≡ option_map (map_method f) (temporary_extracted a m path x)
  temporary_extracted-map path = ap (option_and_then with_there) (part_in-map_sequence f m.body path) ∙ by (part_in m.body path)
    where
      declaring : ℕ → TreeOf M → SequenceOf M → SequenceOf M
      declaring k t c = let d : SequenceOf M = put_in k 0 (single (assign x t)) c in record d { temporaries = d.temporaries ++ x ∷ [] }

      declaring_there : ℕ → TreeOf N → SequenceOf N → SequenceOf N
      declaring_there k t c = let d : SequenceOf N = put_in k 0 (single (assign (f x) t)) c in record d { temporaries = d.temporaries ++ f x ∷ [] }

      with_there : TreeOf N → Option (MethodOf N)
      with_there t = option_map (λ k. sequence_changed (declaring_there k t) (sequence_round (map_method f m) path) (method_replaced (map_method f m) path (var (f x)))) (statement_round (map_method f m) path)

      with_one : TreeOf M → Option (MethodOf M)
      with_one t = option_map (λ k. sequence_changed (declaring k t) (sequence_round m path) (method_replaced m path (var x))) (statement_round m path)

      declares : (k : ℕ) (t : TreeOf M) (c : SequenceOf M) → declaring_there k (map_names f t) (map_sequence f c) ≡ map_sequence f (declaring k t c)
      declares k t c = λ i. record (put_in-map f k 0 (single (assign x t)) c i) { temporaries = sym (map-append f c.temporaries (x ∷ [])) i }

      at : (t : TreeOf M) (o : Option ℕ) → option_map (λ k. sequence_changed (declaring_there k (map_names f t)) (sequence_round (map_method f m) path) (method_replaced (map_method f m) path (var (f x)))) o
          ≡ option_map (map_method f) (option_map (λ k. sequence_changed (declaring k t) (sequence_round m path) (method_replaced m path (var x))) o)
      at t None = refl
      at t (Some k) =
          ap Some ((λ i. sequence_changed (declaring_there k (map_names f t)) (sequence_round-map f m path i) (method_replaced-map_method f m path (var x) i))
          ∙ sequence_changed-map f (declaring k t) (declaring_there k (map_names f t)) (declares k t) (sequence_round m path) (method_replaced m path (var x)))

      by : (o : Option (TreeOf M)) → option_and_then with_there (option_map (map_names f) o) ≡ option_map (map_method f) (option_and_then with_one o)
      by None = refl
      by (Some t) =
          ap (option_map (λ k. sequence_changed (declaring_there k (map_names f t)) (sequence_round (map_method f m) path) (method_replaced (map_method f m) path (var (f x))))) (statement_round-map f m path)
          ∙ at t (statement_round m path)

  -- what is assigned in place of its reads
  pub temporary_inlined-map : (e : LetOf M) → temporary_inlined b (map_method f m) (f x) (map_let f e) ≡ map_method f (temporary_inlined a m x e)
  temporary_inlined-map e =
      ap (sequence_changed without_there e.sequence) (rebuilt_method-map f valued valued_there values m)
      ∙ sequence_changed-map f without without_there goes e.sequence (rebuilt_method valued m)
    where
      without : SequenceOf M → SequenceOf M
      without c = let d : SequenceOf M = put_for e.number no_statements c in record d { temporaries = filter (λ n. not (a.words.tests.same x n)) d.temporaries }

      without_there : SequenceOf N → SequenceOf N
      without_there c = let d : SequenceOf N = put_for e.number no_statements c in record d { temporaries = filter (λ n. not (b.words.tests.same (f x) n)) d.temporaries }

      goes : (c : SequenceOf M) → without_there (map_sequence f c) ≡ map_sequence f (without c)
      goes c = λ i. record (put_for-map f e.number no_statements c i) {
        temporaries = filter-total f (λ n. not (a.words.tests.same x n)) (λ n. not (b.words.tests.same (f x) n)) (λ n. ap not (same-map f a.words b.words keeps.words x n)) c.temporaries i;
      }

      valued : List ℕ → TreeOf M → TreeOf M
      valued path (var n) = cond (is_some (read_scope a m x (path, var n))) e.value (var n)
      valued path t = t

      valued_there : List ℕ → TreeOf N → TreeOf N
      valued_there path (var n) = cond (is_some (read_scope b (map_method f m) (f x) (path, var n))) (map_names f e.value) (var n)
      valued_there path t = t

      values : (path : List ℕ) (t : TreeOf M) → valued_there path (map_names f t) ≡ map_names f (valued path t)
      values path (var n) =
          chosen (map_names f) (is_some (read_scope a m x (path, var n))) (is_some (read_scope b (map_method f m) (f x) (path, var (f n)))) e.value (var n) (map_names f e.value) (var (f n))
          (ap is_some (scope_of-map path n)) refl refl
      values path (literal l) = refl
      values path (send r s args) = refl
      values path (cascade r ms) = refl
      values path (assign n t) = refl
      values path (block ps ts ss d) = refl
      values path (brace ts) = refl
      values path (return t) = refl
