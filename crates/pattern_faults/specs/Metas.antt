-- What a token is to those who ask where metavariables begin.
use Rattle.std.specs.Prelude.{ℕ, if◌then◌else◌, Bool, not, ◌&&◌, List, ◌∷◌, Option, Some, None}
use Rattle.grammar_model.specs.Terminal.{Terminal}
use Rattle.pattern_trees.specs.Faults.{is_meta_token, begins_message}

-- The places of the metavariables from a token on, which begins here; a comment is none. The flag says that the token before
-- began any message; those behind depend on whether this one does.
abbrev pub places_from : Bool → Option Terminal → ℕ → (Bool → List ℕ) → List ℕ
places_from ends None from rest = rest ends
places_from ends (Some k) from rest = if is_meta_token k && not ends then from ∷ rest (begins_message k) else rest (begins_message k)
