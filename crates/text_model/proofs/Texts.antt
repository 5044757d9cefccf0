-- Canonical texts of trees whose names were changed.
use Rattle.std.proofs.Common.{◌≡◌, ap, ◌∙◌, ℕ, List}
use Rattle.tree_model.specs.Tree.{SequenceOf, MethodOf, map_sequence, map_method}
use Rattle.tree_model.specs.AllNames.{SequenceNames, MethodNames}
use Rattle.tree_model.proofs.MapNames.{map_sequence-map_sequence, map_method-map_method}
use Rattle.tree_model.proofs.AllNamesLemmas.{map_sequence-same, map_method-same}
use Rattle.text_model.specs.Whole.{canonical_method, canonical_doit}

module _ {M N : Type 0} (h : M → N) (f : M → List ℕ) (g : N → List ℕ) where
  -- of a method
  pub canonical_method-map_method : (m : MethodOf M) → MethodNames (λ n. g (h n) ≡ f n) m → canonical_method (map_method g (map_method h m)) ≡ canonical_method (map_method f m)
  canonical_method-map_method m p = ap canonical_method (map_method-map_method g h m ∙ map_method-same (λ n. g (h n)) f m p)

  -- of a do-it
  pub canonical_doit-map_sequence : (b : SequenceOf M) → SequenceNames (λ n. g (h n) ≡ f n) b → canonical_doit (map_sequence g (map_sequence h b)) ≡ canonical_doit (map_sequence f b)
  canonical_doit-map_sequence b p = ap canonical_doit (map_sequence-map_sequence g h b ∙ map_sequence-same (λ n. g (h n)) f b p)
