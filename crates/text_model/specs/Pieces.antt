-- Pieces of a text, and a selector cut into its keywords.
use Rattle.std.specs.Prelude.{ℕ, ◌==◌, if◌then◌else◌, Bool, List, [], ◌∷◌, ◌++◌, flat_map}
use Rattle.std.specs.List.{join_by, list_any, onto_first}

-- the pieces in order, with the mark between each two
abbrev pub pieces_joined : List ℕ → List (List ℕ) → List ℕ
pieces_joined mark ps = join_by (λ p. p) mark ps

-- the pieces in order, each behind the mark
abbrev pub pieces_behind : List ℕ → List (List ℕ) → List ℕ
pieces_behind mark ps = flat_map (λ p. mark ++ p) ps

-- the pieces of two lists in turn, the first list's first; where one list ends, the rest of the other follows
abbrev pub pieces_in_turn : List (List ℕ) → List (List ℕ) → List (List ℕ)
pieces_in_turn [] qs = qs
pieces_in_turn (p ∷ ps) [] = p ∷ ps
pieces_in_turn (p ∷ ps) (q ∷ qs) = p ∷ q ∷ pieces_in_turn ps qs

-- whether the byte is a colon
abbrev pub is_colon : ℕ → Bool
is_colon b = b == 58

-- a selector cut behind each colon: its keywords, or the whole of one without a colon
abbrev pub keywords_of : List ℕ → List (List ℕ)
keywords_of [] = []
keywords_of (b ∷ s) = if is_colon b then (b ∷ []) ∷ keywords_of s else onto_first b (keywords_of s)

-- whether a selector has a colon, as those of keywords do
abbrev pub has_colon : List ℕ → Bool
has_colon s = list_any is_colon s
