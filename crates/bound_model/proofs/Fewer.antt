-- Look-ups by what names mean give no more than the look-up of the name.
use Rattle.std.proofs.Common.{◌≡◌, ◌≤◌, ◌+◌, List, [], ◌∷◌, ◌++◌, length, filter, flat_map, Bool, true, false, cond, ◌||◌, ◌&&◌, Option, Some, None, refl, sym, ◌∙◌, arith, length-append, true≢false}
use Rattle.std.specs.List.{list_any, enumerate_from}
use Rattle.std.proofs.lemmas.List.{length-map}
use Rattle.std.specs.Option.{option_map_or}
use Rattle.std.proofs.lemmas.List.Concat.{flat_map-cons}
use Rattle.std.proofs.lemmas.List.Elements.{filter-append}
use Rattle.tree_model.specs.Tree.{SequenceOf}
use Rattle.image_model.specs.Image.{ImageOf}
use Rattle.image_model.specs.Means.{VariableKind}
use Rattle.image_model.specs.Nodes.{Place, in_method, in_doit, NodeOf, nodes_of, image_nodes, means_in}
use Rattle.image_model.specs.Uses.{name_used, is_declarer, is_variable, is_identifier_use, uses, places, variable_uses, identifier_uses_in, identifier_uses}
use Rattle.image_model.specs.Words.{WordsOf}

module _ {X : Type 0} (p q : X → Bool) (implies : (x : X) → p x ≡ true → q x ≡ true) where
  fewer : (xs : List X) → length (filter p xs) ≤ length (filter q xs)
  fewer [] = omega arith
  fewer (x ∷ xs) = by (p x) refl (q x) refl (fewer xs)
    where
      by : (b : Bool) → p x ≡ b → (c : Bool) → q x ≡ c → length (filter p xs) ≤ length (filter q xs)
          → length (cond b (x ∷ filter p xs) (filter p xs)) ≤ length (cond c (x ∷ filter q xs) (filter q xs))
      by true is true also rest = omega (arith, rest)
      by true is false off rest = absurd (true≢false (sym (implies x is) ∙ off))
      by false is true also rest = omega (arith, rest)
      by false is false also rest = rest

module _ {X Y Z : Type 0} (p : Y → Bool) (f : X → List Y) (g : X → List Z) (each : (x : X) → length (filter p (f x)) ≤ length (g x)) where
  fewer-flat : (xs : List X) → length (filter p (flat_map f xs)) ≤ length (flat_map g xs)
  fewer-flat [] = omega arith
  fewer-flat (x ∷ xs) =
      rw (flat_map-cons f x xs, flat_map-cons g x xs, filter-append p (f x) (flat_map f xs), length-append (filter p (f x)) (filter p (flat_map f xs)), length-append (g x) (flat_map g xs))
      (omega (arith, each x, fewer-flat xs))

module _ {N : Type 0} (w : WordsOf N) (i : ImageOf N) (n : N) (p : NodeOf N → Bool) (names : (e : NodeOf N) → p e ≡ true → is_identifier_use w.tests.same n e.tree ≡ true) where
  in-code : (place : Place) (declared : List N) (b : SequenceOf N) → length (filter p (nodes_of place b)) ≤ length (identifier_uses_in w.tests.same n place declared b)
  in-code place declared b =
      let q : NodeOf N → Bool = λ e. is_identifier_use w.tests.same n e.tree in
      let few = fewer p q names (nodes_of place b) in
      by (list_any (w.tests.same n) declared) few
    where
      by : (c : Bool) → length (filter p (nodes_of place b)) ≤ length (filter (λ (e : NodeOf N). is_identifier_use w.tests.same n e.tree) (nodes_of place b))
          → length (filter p (nodes_of place b)) ≤ length (cond c (record { place = place; path = [] } ∷ []) [] ++ places (filter (λ (e : NodeOf N). is_identifier_use w.tests.same n e.tree) (nodes_of place b)))
      by true few = rw (length-map (filter (λ (e : NodeOf N). is_identifier_use w.tests.same n e.tree) (nodes_of place b)) (λ (e : NodeOf N). e.use_of)) (omega (arith, few))
      by false few = rw (length-map (filter (λ (e : NodeOf N). is_identifier_use w.tests.same n e.tree) (nodes_of place b)) (λ (e : NodeOf N). e.use_of)) few

  pub named-fewer : length (places (filter p (image_nodes i))) ≤ length (identifier_uses w i n)
  named-fewer =
      rw (length-map (filter p (image_nodes i)) (λ (e : NodeOf N). e.use_of))
      (rw (filter-append p (flat_map (λ e. nodes_of (in_method e.0) e.1.tree.body) (enumerate_from 0 i.methods)) (flat_map (λ e. nodes_of (in_doit e.0) e.1.body) (enumerate_from 0 i.doits)))
      (rw (length-append (filter p (flat_map (λ e. nodes_of (in_method e.0) e.1.tree.body) (enumerate_from 0 i.methods))) (filter p (flat_map (λ e. nodes_of (in_doit e.0) e.1.body) (enumerate_from 0 i.doits))))
      (rw (length-append (flat_map (λ e. identifier_uses_in w.tests.same n (in_method e.0) (e.1.tree.arguments ++ e.1.tree.body.temporaries) e.1.tree.body) (enumerate_from 0 i.methods)) (flat_map (λ e. identifier_uses_in w.tests.same n (in_doit e.0) e.1.body.temporaries e.1.body) (enumerate_from 0 i.doits)))
      (omega (
        arith,
        fewer-flat p (λ e. nodes_of (in_method e.0) e.1.tree.body) (λ e. identifier_uses_in w.tests.same n (in_method e.0) (e.1.tree.arguments ++ e.1.tree.body.temporaries) e.1.tree.body)
            (λ e. in-code (in_method e.0) (e.1.tree.arguments ++ e.1.tree.body.temporaries) e.1.tree.body) (enumerate_from 0 i.methods),
        fewer-flat p (λ e. nodes_of (in_doit e.0) e.1.body) (λ e. identifier_uses_in w.tests.same n (in_doit e.0) e.1.body.temporaries e.1.body)
            (λ e. in-code (in_doit e.0) e.1.body.temporaries e.1.body) (enumerate_from 0 i.doits),
      )))))

-- a node that means a variable names it
pub variable-fewer : {N : Type 0} (w : WordsOf N) (i : ImageOf N) (kind : VariableKind) (c x : N) → length (variable_uses w i c x kind) ≤ length (identifier_uses w i x)
variable-fewer {N} w i kind c x = named-fewer w i x (uses w i (λ m meaning. w.tests.same x m && is_variable w.tests.same kind c meaning)) (λ e is. by e (name_used e.tree) is)
  where
    both : (b d e : Bool) → (b && d) ≡ true → (b || e) ≡ true
    both true d e is = refl
    both false d e is = absurd (true≢false (sym is))

    by : (e : NodeOf N) (o : Option N) → option_map_or (λ n. w.tests.same x n && is_variable w.tests.same kind c (means_in w i e.use_of.place e.use_of.path n)) o false ≡ true
        → (option_map_or (w.tests.same x) o false || is_declarer w.tests.same x e.tree) ≡ true
    by e None is = absurd (true≢false (sym is))
    by e (Some n) is = both (w.tests.same x n) (is_variable w.tests.same kind c (means_in w i e.use_of.place e.use_of.path n)) (is_declarer w.tests.same x e.tree) is
