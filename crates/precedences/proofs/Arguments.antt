-- Messages and their arguments.
use Rattle.std.proofs.Common.{◌≡◌, refl, ℕ, false, ◌==◌, if◌then◌else◌, List, [], ◌∷◌, length}
use Rattle.tree_model.specs.Tree.{TreeOf, TreesOf, no_trees, more_trees, trees_of, map_trees}
use Rattle.text_model.specs.Pieces.{has_colon}
use Rattle.text_model.specs.Precedences.{message_precedence}
use Rattle.text_model.specs.declared.precedence.Precedence.TheVariants.{Binary, Keyword}

-- with arguments, the selector decides
pub message_precedence_with : (s : List ℕ) (xs : List (TreeOf ℕ)) → (length xs == 0) ≡ false → message_precedence s (trees_of xs) ≡ (if has_colon s then Keyword else Binary)
message_precedence_with s [] h = cc
message_precedence_with s (x ∷ xs) h = refl

-- the names of the arguments do not count
pub message_precedence-map : {M N : Type 0} (s : List ℕ) (f : M → N) (ts : TreesOf M) → message_precedence s (map_trees f ts) ≡ message_precedence s ts
message_precedence-map s f no_trees = refl
message_precedence-map s f (more_trees t ts) = refl

pub ruleset precedence_rules = (message_precedence_with, message_precedence-map)
