-- The sequence at a path that is not empty.
use Rattle.std.proofs.Common.{◌≡◌, ◌≢◌, ℕ, List, [], ◌∷◌, length, None, Some, option_map, refl, sym}
use Rattle.std.specs.Prelude.{unwrap_or}
use Rattle.tree_model.specs.Tree.{TreeOf, SequenceOf, MethodOf}
use Rattle.tree_model.specs.Path.{part_in, method_replaced}
use Rattle.command_model.specs.Sequences.{block_changed, sequence_changed}

module _ (change : SequenceOf ℕ → SequenceOf ℕ) (m : MethodOf ℕ) where
  -- no node is there
  pub changed-nowhere : (path : List ℕ) → length path ≢ 0 → part_in m.body path ≡ None → m ≡ sequence_changed change path m
  changed-nowhere [] h e = absurd (h refl)
  changed-nowhere (k ∷ ks) h e = λ j. unwrap_or (option_map (λ (t : TreeOf ℕ). method_replaced m (k ∷ ks) (block_changed change t)) (sym e j)) m

  -- a node is there
  pub changed-there : (path : List ℕ) (t : TreeOf ℕ) → length path ≢ 0 → part_in m.body path ≡ Some t → method_replaced m path (block_changed change t) ≡ sequence_changed change path m
  changed-there [] t h e = absurd (h refl)
  changed-there (k ∷ ks) t h e = λ j. unwrap_or (option_map (λ (u : TreeOf ℕ). method_replaced m (k ∷ ks) (block_changed change u)) (sym e j)) m
