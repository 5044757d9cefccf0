-- Code with another part at the end of a path, and images with such code.
use Rattle.std.specs.Prelude.{◌≡◌, ℕ, Bool, false, List, [], ◌∷◌, option_map, unwrap_or}
use Rattle.tree_model.specs.Tree.{TreeOf, var, literal, send, cascade, assign, block, brace, return, StatementsOf}
use Rattle.tree_model.specs.Path.{child, with_child, nth, statement_trees}
use Rattle.image_model.specs.ImageNames.{OptionNames}
use Rattle.run_model.specs.Values.{Name}
use Rattle.resolved_model.specs.Environments.{Declared, opened}
use Rattle.unfolded_places.specs.Becoming.{Change, MakesNoControl}

-- The parts of code in which nothing changes but what is said: a name is the same name; or a node is another one, among the same declarations.
pub data PartOf (here : List Declared → TreeOf Name → TreeOf Name → Type 0) : List Declared → List Declared → TreeOf Name → TreeOf Name → Type 0 where
  same_name : {A : List Declared} (n : Name) → PartOf here A A (var n) (var n)
  other_part : {A : List Declared} {t u : TreeOf Name} → here A t u → PartOf here A A t u

-- the change of such code, in which these selectors are sent outside the parts
abbrev pub parts_stored : (List Declared → TreeOf Name → TreeOf Name → Type 0) → (List Declared → Name → Name → Type 0) → (Name → Bool) → Change
parts_stored here stores gone = record { part = PartOf here; sends = λ s. gone s ≡ false; assigns = λ A B n. A ≡ B; returns = Unit {0}; supers = Unit {0}; stores = λ A B s x. (A ≡ B) × stores A s x }

-- no message is an assignment
abbrev pub no_stores : List Declared → Name → Name → Type 0
no_stores A s x = ⊥

abbrev pub parts_changed : (List Declared → TreeOf Name → TreeOf Name → Type 0) → (Name → Bool) → Change
parts_changed here gone = parts_stored here no_stores gone

-- what is declared inside a node
abbrev pub declared_inside : List Declared → TreeOf Name → List Declared
declared_inside A (var n) = A
declared_inside A (literal l) = A
declared_inside A (send r s args) = A
declared_inside A (cascade r ms) = A
declared_inside A (assign n t) = A
declared_inside A (block ps ts ss e) = opened ps ts A
declared_inside A (brace ts) = A
declared_inside A (return t) = A

-- what is declared round the node to which a path leads
abbrev pub declared_round : List Declared → TreeOf Name → List ℕ → List Declared
declared_round A t [] = A
declared_round A t (k ∷ ks) = unwrap_or (option_map (λ c. declared_round (declared_inside A t) c ks) (child t k)) A

-- the same of a path into statements
abbrev pub declared_among : List Declared → StatementsOf Name → List ℕ → List Declared
declared_among A ss [] = A
declared_among A ss (k ∷ ks) = unwrap_or (option_map (λ c. declared_round A c ks) (nth (statement_trees ss) k)) A

-- the node right above the end of a path becomes no control send where u stands there and not t
abbrev pub StaysMessage : TreeOf Name → List ℕ → TreeOf Name → TreeOf Name → Type 0
StaysMessage above [] t u = Unit {0}
StaysMessage above (k ∷ []) t u = MakesNoControl (with_child above k t) (with_child above k u)
StaysMessage above (k ∷ j ∷ ks) t u = OptionNames (λ c. StaysMessage c (j ∷ ks) t u) (child above k)

-- the same of a path into statements
abbrev pub StaysMessageAmong : StatementsOf Name → List ℕ → TreeOf Name → TreeOf Name → Type 0
StaysMessageAmong ss [] t u = Unit {0}
StaysMessageAmong ss (k ∷ ks) t u = OptionNames (λ c. StaysMessage c ks t u) (nth (statement_trees ss) k)
