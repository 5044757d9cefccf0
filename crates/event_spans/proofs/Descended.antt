-- A path leads to the same node among nodes in preorder as in the tree.
use Rattle.std.proofs.Common.{◌≡◌, ℕ, zero, suc, List, [], ◌∷◌, ◌++◌, length, Option, Some, None, option_and_then, refl, ap, sym, ◌∙◌}
use Rattle.std.specs.Prelude.{option_map}
use Rattle.std.proofs.lemmas.List.{drop_at, take_at}
use Rattle.grammar_model.specs.Spanned.{SpannedTree, SpannedTrees, NoTrees, MoreTrees}
use Rattle.grammar_model.specs.Spans as spans
use Rattle.grammar_model.specs.Spans.{span_of, spanned_children, spanned_nth, spanned_part, spanned_among}
use Rattle.event_spans.specs.declared.place.Place.{Place}
use Rattle.event_spans.specs.Preorder.{trees_places}
use Rattle.event_spans.specs.Descent.{from_root, first_of, inside, descend}
use Rattle.event_spans.proofs.Children.{place_of, tree_places-children}
use Rattle.event_spans.proofs.RootsPassed.{descend-none}

-- the trees from a number on
abbrev trees_from : ℕ → SpannedTrees → SpannedTrees
trees_from zero ts = ts
trees_from (suc k) NoTrees = NoTrees
trees_from (suc k) (MoreTrees t ts) = trees_from k ts

-- the first tree
abbrev first_tree : SpannedTrees → Option SpannedTree
first_tree NoTrees = None
first_tree (MoreTrees t ts) = Some t

-- the tree of a number is the first one from the number on
nth-first : (k : ℕ) (ts : SpannedTrees) → spanned_nth ts k ≡ first_tree (trees_from k ts)
nth-first zero NoTrees = refl
nth-first zero (MoreTrees t ts) = refl
nth-first (suc k) NoTrees = refl
nth-first (suc k) (MoreTrees t ts) = nth-first k ts

-- the nodes from the outermost one of a number on are those of the trees from the number on
from_root-trees : (k d : ℕ) (ts : SpannedTrees) → from_root k (trees_places d ts) ≡ trees_places d (trees_from k ts)
from_root-trees zero d ts = refl
from_root-trees (suc k) d NoTrees = refl
from_root-trees (suc k) d (MoreTrees t ts) =
    ap (λ ps. from_root (suc k) (ps ++ trees_places d ts)) (tree_places-children d t)
    ∙ ap (from_root k) (drop_at (trees_places (suc d) (spanned_children t)) (trees_places d ts) (length (trees_places (suc d) (spanned_children t))) refl)
    ∙ from_root-trees k d ts

-- where a node stands
abbrev pub stands : Place → spans.Span
stands p = record { from = p.from; to = p.to }

-- the rest of a path leads from a node to the same place
abbrev Descends : List ℕ → Type 0
Descends ks = (d : ℕ) (t : SpannedTree) → option_map stands (descend (Some (place_of d t)) (trees_places (suc d) (spanned_children t)) ks) ≡ option_map span_of (spanned_part t ks)

-- from the first of some trees
from_first : (ks : List ℕ) → Descends ks → (d : ℕ) (us : SpannedTrees)
    → option_map stands (descend (first_of (trees_places d us)) (inside (trees_places d us)) ks) ≡ option_map span_of (option_and_then (λ c. spanned_part c ks) (first_tree us))
from_first ks later d NoTrees = ap (option_map stands) (descend-none ks)
from_first ks later d (MoreTrees t us) =
    ap (λ ps. option_map stands (descend (first_of (ps ++ trees_places d us)) (inside (ps ++ trees_places d us)) ks)) (tree_places-children d t)
    ∙ ap (λ ps. option_map stands (descend (Some (place_of d t)) ps ks)) (take_at (trees_places (suc d) (spanned_children t)) (trees_places d us) (length (trees_places (suc d) (spanned_children t))) refl)
    ∙ later d t

-- from a list of trees
among_descends : (k : ℕ) (ks : List ℕ) → Descends ks → (found : Option Place) (d : ℕ) (ts : SpannedTrees)
    → option_map stands (descend found (trees_places d ts) (k ∷ ks)) ≡ option_map span_of (spanned_among ts (k ∷ ks))
among_descends k ks later found d ts =
    ap (λ ps. option_map stands (descend (first_of ps) (inside ps) ks)) (from_root-trees k d ts)
    ∙ from_first ks later d (trees_from k ts)
    ∙ ap (λ (o : Option SpannedTree). option_map span_of (option_and_then (λ c. spanned_part c ks) o)) (sym (nth-first k ts))

-- from a node
descends : (ks : List ℕ) → Descends ks
descends [] d t = refl
descends (k ∷ ks) d t = among_descends k ks (descends ks) (Some (place_of d t)) (suc d) (spanned_children t)

-- a path leads to the same place
pub descend-among : (ts : SpannedTrees) (path : List ℕ) → option_map stands (descend None (trees_places 0 ts) path) ≡ option_map span_of (spanned_among ts path)
descend-among ts [] = refl
descend-among ts (k ∷ ks) = among_descends k ks (descends ks) None 0 ts
