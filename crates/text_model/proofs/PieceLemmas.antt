-- Lemmas on pieces of a text and on the keywords of a selector.
use Rattle.std.proofs.Common.{◌≡◌, refl, ℕ, false, List, [], ◌∷◌, ◌++◌, take, drop}
use Rattle.std.proofs.lemmas.List.Concat.{flat_map-append}
use Rattle.std.proofs.lemmas.Bool.{or_parts}
use Rattle.text_model.specs.Pieces.{pieces_joined, pieces_behind, pieces_in_turn, is_colon, keywords_of, has_colon}

-- the pieces of two lists behind the mark
pub pieces_behind-append : (mark : List ℕ) (ps qs : List (List ℕ)) → pieces_behind mark (ps ++ qs) ≡ pieces_behind mark ps ++ pieces_behind mark qs
pieces_behind-append mark ps qs = flat_map-append (λ p. mark ++ p) ps qs

-- pieces joined by a byte are the pieces behind it, without the byte in front
pub pieces_joined_front : (b : ℕ) (ps : List (List ℕ)) → pieces_joined (b ∷ []) ps ≡ drop 1 (pieces_behind (b ∷ []) ps)
pieces_joined_front b [] = refl
pieces_joined_front b (p ∷ ps) = refl

-- where the second list is empty the first is left
pub pieces_in_turn-nil : (ps : List (List ℕ)) → pieces_in_turn ps [] ≡ ps
pieces_in_turn-nil [] = refl
pieces_in_turn-nil (p ∷ ps) = refl

-- the first piece of each list, and then the others in turn
pub pieces_in_turn-step : (ps qs : List (List ℕ)) → pieces_in_turn ps qs ≡ take 1 ps ++ (take 1 qs ++ pieces_in_turn (drop 1 ps) (drop 1 qs))
pieces_in_turn-step [] [] = refl
pieces_in_turn-step [] (q ∷ qs) = refl
pieces_in_turn-step (p ∷ []) [] = refl
pieces_in_turn-step (p ∷ q ∷ ps) [] = refl
pieces_in_turn-step (p ∷ ps) (q ∷ qs) = refl

-- neither the first byte nor another is a colon
has_colon-parts : (b : ℕ) (w : List ℕ) → has_colon (b ∷ w) ≡ false → (is_colon b ≡ false) × (has_colon w ≡ false)
has_colon-parts b w h = or_parts (is_colon b) (has_colon w) h

-- a keyword ends at its colon
pub keywords_of-colon : (w s : List ℕ) → has_colon w ≡ false → keywords_of (w ++ 58 ∷ s) ≡ (w ++ 58 ∷ []) ∷ keywords_of s
keywords_of-colon [] s h = refl
keywords_of-colon (b ∷ w) s h =
    let parts = has_colon-parts b w h in rw (parts.0, keywords_of-colon w s parts.1) refl

-- a selector without a colon is one piece
pub keywords_of-plain : (b : ℕ) (w : List ℕ) → has_colon (b ∷ w) ≡ false → keywords_of (b ∷ w) ≡ (b ∷ w) ∷ []
keywords_of-plain b [] h = rw (has_colon-parts b [] h).0 refl
keywords_of-plain b (c ∷ w) h =
    let parts = has_colon-parts b (c ∷ w) h in rw (parts.0, keywords_of-plain c w parts.1) refl
