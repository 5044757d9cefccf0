-- What a node evaluates before the node to which steps lead on from it, as `FirstEvaluated` asks.
use Rattle.std.specs.Prelude.{ℕ, zero, suc, Bool, true, false, ◌&&◌, nat_lt, List, [], ◌∷◌}
use Rattle.std.specs.Option.{option_map_or}
use Rattle.tree_model.specs.Tree.{TreeOf, cascade, TreesOf, no_trees, more_trees, more_messages}
use Rattle.tree_model.specs.Path.{count, child, children}
use Rattle.image_model.specs.Image.{EntryOf, ImageOf}
use Rattle.command_model.specs.Asked.{AskedOf}
use Rattle.command_model.specs.Plain.{is_plain}

-- where a node steps into a cascade: whether that is its receiver or an argument of its first message, before which nothing is sent
abbrev pub is_before_sends : {N : Type 0} → TreeOf N → ℕ → Bool
is_before_sends (cascade r (more_messages s args ms)) k = nat_lt k (suc (count args))
is_before_sends t k = true

module _ {N : Type 0} (a : AskedOf N) where
  -- whether the first so many of the trees are plain, by what names mean at a place
  abbrev pub are_first_plain : ImageOf N → EntryOf N → List ℕ → ℕ → TreesOf N → Bool
  are_first_plain i m path zero ts = true
  are_first_plain i m path (suc k) no_trees = true
  are_first_plain i m path (suc k) (more_trees t ts) = is_plain a i m path t && are_first_plain i m path k ts

  -- whether a node evaluates nothing but plain expressions before the node to which steps lead on from it
  abbrev pub is_plain_before : ImageOf N → EntryOf N → List ℕ → TreeOf N → List ℕ → Bool
  is_plain_before i m path t [] = true
  is_plain_before i m path t (k ∷ ks) =
      is_before_sends t k && (are_first_plain i m path k (children t) && option_map_or (λ c. is_plain_before i m path c ks) (child t k) false)
