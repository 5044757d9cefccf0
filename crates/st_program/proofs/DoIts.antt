-- The do-its of an image over texts.
use Rattle.std.proofs.Common.{◌≡◌, ℕ, zero, suc, List, [], ◌∷◌, map, Option, Some, None, slice_get, option_map, Bor, refl, sym, ap, ◌∙◌}
use Rattle.std.specs.Option.{option_copied}
use Rattle.rb_base.specs.Names.{name_at}
use Rattle.tree_model.specs.Tree.{SequenceOf, map_sequence}
use Rattle.st_tree.specs.View.{sequence_of}
use Rattle.st_tree.specs.declared.tree.Sequence.{Sequence}
use Rattle.image_model.specs.Image.{DoItOf, map_doit}
use Rattle.run_model.specs.Values.{Name}
use Rattle.class_table.specs.declared.record.DoIt.{DoIt}
use Rattle.class_table.specs.View.{doit_of}

at_place : (names : List Name) (ds : List DoIt) (k : ℕ)
    → option_map (λ b. map_sequence (name_at names) (sequence_of b)) (option_map (λ (d : DoIt). d.body) (slice_get ds k)) ≡ option_map (λ (d : DoItOf Name). d.body) (slice_get (map (map_doit (name_at names)) (map doit_of ds)) k)
at_place names [] k = refl
at_place names (d ∷ ds) zero = refl
at_place names (d ∷ ds) (suc k) = at_place names ds k

behind : (names : List Name) (r : Option (Bor Sequence)) → option_map (λ (b : Bor Sequence). map_sequence (name_at names) (sequence_of b.now)) r ≡ option_map (λ b. map_sequence (name_at names) (sequence_of b)) (option_copied r)
behind names None = refl
behind names (Some b) = refl

-- the do-it of a number
pub doit_found : (names : List Name) (r : Option (Bor Sequence)) (ds : List DoIt) (k : ℕ) → option_copied r ≡ option_map (λ (d : DoIt). d.body) (slice_get ds k)
    → option_map (λ (b : Bor Sequence). map_sequence (name_at names) (sequence_of b.now)) r ≡ option_map (λ (d : DoItOf Name). d.body) (slice_get (map (map_doit (name_at names)) (map doit_of ds)) k)
doit_found names r ds k e = behind names r ∙ ap (option_map (λ b. map_sequence (name_at names) (sequence_of b))) e ∙ at_place names ds k
