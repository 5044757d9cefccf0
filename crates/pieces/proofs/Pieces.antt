-- Bytes in pieces, one after the other.
use Rattle.std.proofs.Common.{◌≡◌, ℕ, ◌<◌, ◌≤◌, ◌⊎◌, zero, suc, List, [], ◌∷◌, ◌++◌, Some, None, inl, inr, refl, sym, ap, ◌∙◌, subst, map, length, take, drop, take-append-drop, append_assoc, append-nil, length-take-le, length-drop, arith}
use Rattle.std.specs.Prelude.{Option, option_map}
use Rattle.pieces.specs.Puts.{ArePieces, NoPiece, LastPiece, NextPiece, Put, Taken, Failed, Adds, PutsAll, PutsUntilFailed, PutsUntilWanted}
use Rattle.std.proofs.lemmas.List.{map-append}

below_or : (m n : ℕ) → (m < n) ⊎ (n ≤ m)
below_or zero zero = inr (omega arith)
below_or zero (suc n) = inl (omega arith)
below_or (suc m) zero = inr (omega arith)
below_or (suc m) (suc n) = elim (below_or m n) [
  | inl l ↦ inl (omega (arith, l))
  | inr l ↦ inr (omega (arith, l))
]

short_pieces : (bytes : List ℕ) → length bytes ≤ 1024 → (pieces : List (List ℕ)) × ArePieces bytes pieces
short_pieces [] few = ([], NoPiece)
short_pieces (b ∷ bs) few = ((b ∷ bs) ∷ [], LastPiece (b ∷ bs) (omega arith) few)

pieces_within : (n : ℕ) (bytes : List ℕ) → length bytes ≤ n → (pieces : List (List ℕ)) × ArePieces bytes pieces
pieces_within zero bytes few = short_pieces bytes (omega (arith, few))
pieces_within (suc n) bytes few = elim (below_or 1024 (length bytes)) [
  | inr short ↦ short_pieces bytes short
  | inl long ↦
      let (pieces, are) = pieces_within n (drop 1024 bytes) (omega (arith, few, long, length-drop 1024 bytes)) in (
        take 1024 bytes ∷ pieces,
        subst (λ all. ArePieces all (take 1024 bytes ∷ pieces)) (take-append-drop 1024 bytes)
            (NextPiece (take 1024 bytes) (drop 1024 bytes) pieces (length-take-le 1024 bytes (omega (arith, long))) are),
      )
]

-- bytes have pieces
pub has_pieces : (bytes : List ℕ) → (pieces : List (List ℕ)) × ArePieces bytes pieces
has_pieces bytes = pieces_within (length bytes) bytes (omega arith)

pub Adds-then : (p q : List Put) (x y z : Option (List Put)) → Adds p x y → Adds q y z → Adds (p ++ q) x z
Adds-then p q (Some x) y z a b = b ∙ ap (option_map (λ s. s ++ q)) a ∙ ap Some (append_assoc x p q)
Adds-then p q None y z a b = b ∙ ap (option_map (λ s. s ++ q)) a

-- The pieces up to here were taken, and are the first ones of the whole, whatever the pieces of the rest are.
pub record PutSoFar (whole : List ℕ) (start : Option (List Put)) (rest : List ℕ) (now : Option (List Put)) : Type 0 where
  pub before : List (List ℕ)
  pub first : (pieces : List (List ℕ)) → ArePieces rest pieces → ArePieces whole (before ++ pieces)
  pub taken : Adds (map Taken before) start now

pub start_of_puts : (whole : List ℕ) (x : Option (List Put)) → PutSoFar whole x whole x
start_of_puts whole (Some x) = record { before = []; first = λ _ p. p; taken = ap Some (sym (append-nil x)) }
start_of_puts whole None = record { before = []; first = λ _ p. p; taken = refl }

pub one_more : (whole rest piece others : List ℕ) (x y z : Option (List Put)) → rest ≡ piece ++ others → length piece ≡ 1024 → Adds (Taken piece ∷ []) y z
    → PutSoFar whole x rest y → PutSoFar whole x others z
one_more whole rest piece others x y z e full add s = record {
  before = s.before ++ piece ∷ [];
  first = λ pieces are. subst (ArePieces whole) (sym (append_assoc s.before (piece ∷ []) pieces))
      (s.first (piece ∷ pieces) (subst (λ r. ArePieces r (piece ∷ pieces)) (sym e) (NextPiece piece others pieces full are)));
  taken = subst (λ puts. Adds puts x z) (sym (map-append Taken s.before (piece ∷ []))) (Adds-then _ _ x y z s.taken add);
}

pub none_left : (whole rest : List ℕ) (x y : Option (List Put)) → length rest ≡ 0 → PutSoFar whole x rest y → PutsAll whole x y
none_left whole [] x y e s = (s.before, subst (ArePieces whole) (append-nil s.before) (s.first [] NoPiece), s.taken)
none_left whole (b ∷ bs) x y e s = absurd (omega (arith, e))

pub last_taken : (whole rest : List ℕ) (x y z : Option (List Put)) → 0 < length rest → length rest ≤ 1024 → Adds (Taken rest ∷ []) y z
    → PutSoFar whole x rest y → PutsAll whole x z
last_taken whole rest x y z some few add s =
    (s.before ++ rest ∷ [], s.first (rest ∷ []) (LastPiece rest some few), subst (λ puts. Adds puts x z) (sym (map-append Taken s.before (rest ∷ []))) (Adds-then _ _ x y z s.taken add))

-- the put of the piece that begins the rest failed
pub put_failed : (whole rest piece : List ℕ) (after : List (List ℕ)) (x y z : Option (List Put)) → ArePieces rest (piece ∷ after) → Adds (Failed piece ∷ []) y z
    → PutSoFar whole x rest y → PutsUntilFailed whole x z
put_failed whole rest piece after x y z are add s = (s.before, piece, after, s.first (piece ∷ after) are, Adds-then _ _ x y z s.taken add)

-- the put of the piece that begins the rest wanted memory
pub put_wanted : (whole rest piece : List ℕ) (after : List (List ℕ)) (x y z : Option (List Put)) → ArePieces rest (piece ∷ after) → z ≡ y
    → PutSoFar whole x rest y → PutsUntilWanted whole x z
put_wanted whole rest piece after x y z are same s = (s.before, piece, after, s.first (piece ∷ after) are, subst (Adds (map Taken s.before) x) (sym same) s.taken)

-- a piece that is followed by more
pub has_first : (rest piece others : List ℕ) → rest ≡ piece ++ others → length piece ≡ 1024 → (after : List (List ℕ)) × ArePieces rest (piece ∷ after)
has_first rest piece others e full =
    let (after, are) = has_pieces others in
    (after, subst (λ r. ArePieces r (piece ∷ after)) (sym e) (NextPiece piece others after full are))
