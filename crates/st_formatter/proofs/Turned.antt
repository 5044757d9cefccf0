-- The pieces of two lists in turn, from their ends.
use Rattle.std.proofs.Common.{◌≡◌, refl, sym, ap, ◌∙◌, ℕ, zero, suc, ◌+◌, ◌<◌, ◌≤◌, Bool, true, false, ◌&&◌, List, [], ◌∷◌, ◌++◌, length, get_or, take, drop, map, append_assoc, append-nil, arith}
use Rattle.std.proofs.lemmas.List.{drop-drop}
use Rattle.tree_model.specs.Tree.{TreeOf, trees_of, map_names, map_trees}
use Rattle.text_model.specs.Pieces.{pieces_behind, pieces_in_turn}
use Rattle.text_model.specs.Flat.{is_flat, are_trees_flat}
use Rattle.text_model.specs.Expressions.{argument_texts}
use Rattle.text_model.specs.declared.precedence.Precedence.{Precedence}
use Rattle.text_model.proofs.PieceLemmas.{pieces_in_turn-step, pieces_behind-append}
use Rattle.st_formatter.specs.Turns.{items_at}

-- an item that is there
pub items_at-within : {X : Type 0} (xs : List X) (i : ℕ) (x : X) → i < length xs → x ≡ get_or xs i x → items_at xs i ≡ x ∷ []
items_at-within [] i x h e = absurd (omega arith)
items_at-within (y ∷ xs) zero x h e = ap (λ v. v ∷ []) (sym e)
items_at-within (y ∷ xs) (suc i) x h e = items_at-within xs i x (omega arith) e

-- an item that is not there
pub items_at-beyond : {X : Type 0} (xs : List X) (i : ℕ) → length xs ≤ i → items_at xs i ≡ []
items_at-beyond [] i h = refl
items_at-beyond (x ∷ xs) zero h = absurd (omega arith)
items_at-beyond (x ∷ xs) (suc i) h = items_at-beyond xs i (omega arith)

-- a test with one that holds
pub and-true : (x : Bool) → (x && true) ≡ x
and-true true = refl
and-true false = refl

-- the first item from a number on
take-drop-one : {X : Type 0} (xs : List X) (i : ℕ) → take 1 (drop i xs) ≡ items_at xs i
take-drop-one [] zero = refl
take-drop-one [] (suc i) = refl
take-drop-one (x ∷ xs) zero = refl
take-drop-one (x ∷ xs) (suc i) = take-drop-one xs i

module _ {X : Type 0} (T : List X → List (List ℕ)) (takes : (xs : List X) → take 1 (T xs) ≡ T (take 1 xs)) (drops : (xs : List X) → drop 1 (T xs) ≡ T (drop 1 xs)) where
  -- from a number on, first the item of each list with that number
  pub in_turn-from : (ws : List (List ℕ)) (xs : List X) (i : ℕ) → pieces_in_turn (drop i ws) (T (drop i xs)) ≡ items_at ws i ++ (T (items_at xs i) ++ pieces_in_turn (drop (i + 1) ws) (T (drop (i + 1) xs)))
  in_turn-from ws xs i =
      pieces_in_turn-step (drop i ws) (T (drop i xs))
      ∙ (λ k. take-drop-one ws i k
      ++ ((takes (drop i xs) ∙ ap T (take-drop-one xs i)) k
      ++ pieces_in_turn (drop-drop 1 i ws k) ((drops (drop i xs) ∙ ap T (drop-drop 1 i xs)) k)))

  -- the pieces with a number are written before those with higher numbers
  pub turned : (mark : List ℕ) (ws : List (List ℕ)) (xs : List X) (i : ℕ) (out : List ℕ) →
      pieces_behind mark (items_at ws i) ++ (pieces_behind mark (T (items_at xs i)) ++ (pieces_behind mark (pieces_in_turn (drop (i + 1) ws) (T (drop (i + 1) xs))) ++ out))
      ≡ pieces_behind mark (pieces_in_turn (drop i ws) (T (drop i xs))) ++ out
  turned mark ws xs i out =
      let rest = pieces_in_turn (drop (i + 1) ws) (T (drop (i + 1) xs)) in
      sym (ap (λ ps. pieces_behind mark ps ++ out) (in_turn-from ws xs i)
      ∙ ap (λ t. t ++ out) (pieces_behind-append mark (items_at ws i) (T (items_at xs i) ++ rest) ∙ ap (λ t. pieces_behind mark (items_at ws i) ++ t) (pieces_behind-append mark (T (items_at xs i)) rest))
      ∙ simp append_assoc)

-- the texts of arguments are one for each
argument_texts-take : (k : ℕ) (p : Precedence) (f : ℕ → List ℕ) (xs : List (TreeOf ℕ)) → take 1 (argument_texts k p (map_trees f (trees_of xs))) ≡ argument_texts k p (map_trees f (trees_of (take 1 xs)))
argument_texts-take k p f [] = refl
argument_texts-take k p f (x ∷ xs) = refl

argument_texts-drop : (k : ℕ) (p : Precedence) (f : ℕ → List ℕ) (xs : List (TreeOf ℕ)) → drop 1 (argument_texts k p (map_trees f (trees_of xs))) ≡ argument_texts k p (map_trees f (trees_of (drop 1 xs)))
argument_texts-drop k p f [] = refl
argument_texts-drop k p f (x ∷ xs) = refl

-- a keyword and an argument are written before the others
pub arguments-turned : (mark : List ℕ) (k : ℕ) (p : Precedence) (f : ℕ → List ℕ) (ws : List (List ℕ)) (xs : List (TreeOf ℕ)) (i : ℕ) (out : List ℕ) →
    pieces_behind mark (items_at ws i) ++ (pieces_behind mark (argument_texts k p (map_trees f (trees_of (items_at xs i)))) ++ (pieces_behind mark (pieces_in_turn (drop (i + 1) ws) (argument_texts k p (map_trees f (trees_of (drop (i + 1) xs))))) ++ out))
    ≡ pieces_behind mark (pieces_in_turn (drop i ws) (argument_texts k p (map_trees f (trees_of (drop i xs))))) ++ out
arguments-turned mark k p f ws xs i out =
    turned (λ ys. argument_texts k p (map_trees f (trees_of ys))) (argument_texts-take k p f) (argument_texts-drop k p f) mark ws xs i out

-- the arguments from a number on are flat
pub flat-turned : (f : ℕ → List ℕ) (xs : List (TreeOf ℕ)) (i : ℕ) →
    (are_trees_flat (map_trees f (trees_of (items_at xs i))) && are_trees_flat (map_trees f (trees_of (drop (suc i) xs)))) ≡ are_trees_flat (map_trees f (trees_of (drop i xs)))
flat-turned f [] zero = refl
flat-turned f [] (suc i) = refl
flat-turned f (x ∷ xs) zero = ap (λ v. v && are_trees_flat (map_trees f (trees_of xs))) (and-true (is_flat (map_names f x)))
flat-turned f (x ∷ xs) (suc i) = flat-turned f xs i

map-take : (f : ℕ → List ℕ) (xs : List ℕ) → take 1 (map f xs) ≡ map f (take 1 xs)
map-take f [] = refl
map-take f (x ∷ xs) = refl

map-drop : (f : ℕ → List ℕ) (xs : List ℕ) → drop 1 (map f xs) ≡ map f (drop 1 xs)
map-drop f [] = refl
map-drop f (x ∷ xs) = refl

-- a keyword and the name of an argument are written before the others
pub names-turned : (mark : List ℕ) (f : ℕ → List ℕ) (ws : List (List ℕ)) (xs : List ℕ) (i : ℕ) →
    pieces_behind mark (items_at ws i) ++ (pieces_behind mark (map f (items_at xs i)) ++ pieces_behind mark (pieces_in_turn (drop (i + 1) ws) (map f (drop (i + 1) xs))))
    ≡ pieces_behind mark (pieces_in_turn (drop i ws) (map f (drop i xs)))
names-turned mark f ws xs i =
    let rest = pieces_behind mark (pieces_in_turn (drop (i + 1) ws) (map f (drop (i + 1) xs))) in
    ap (λ r. pieces_behind mark (items_at ws i) ++ (pieces_behind mark (map f (items_at xs i)) ++ r)) (sym (append-nil rest))
    ∙ turned (map f) (map-take f) (map-drop f) mark ws xs i []
    ∙ append-nil (pieces_behind mark (pieces_in_turn (drop i ws) (map f (drop i xs))))

-- the pieces of a brace array, one by one
pub brace_whole : (new behind_brace behind_first rest first others out : List ℕ) → new ≡ 123 ∷ behind_brace → behind_brace ≡ first ++ behind_first → behind_first ≡ others ++ rest → rest ≡ 125 ∷ out →
    new ≡ (123 ∷ ((first ++ others) ++ 125 ∷ [])) ++ out
brace_whole new a b rest first others out e1 e2 e3 e4 = rw (e1, e2, e3, e4, append_assoc, append_assoc) refl

pub ruleset item_rules = items_at-beyond
