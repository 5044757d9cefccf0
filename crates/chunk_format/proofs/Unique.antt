-- A text has one list of chunks.
use Rattle.std.proofs.Common.{◌≡◌, ◌≢◌, ℕ, zero, suc, ◌+◌, ◌<◌, ◌≤◌, ◌⊎◌, inl, inr, List, [], ◌∷◌, ◌++◌, Option, Some, None, refl, ap, sym, subst, ◌∙◌, arith, length, length-append, le_refl}
use Rattle.std.proofs.lemmas.List.Sums.{prefix_len-le-length}
use Rattle.std.proofs.Math.Nat.{eq-or-lt_of_le}
use Rattle.rb_base.specs.Doubling.{IsPaired, Empty, Byte, Pair, BeginsOtherwise, doubled}
use Rattle.chunk_format.specs.Blank.{is_blank, blank_len, IsBlank}
use Rattle.chunk_format.specs.Left.{Left}
use Rattle.chunk_format.specs.Chunks.{Piece, IsCut, Takes, HasChunks, First, Over, Refused, IsUnended, holds_mark, left_behind, written_piece}
use Rattle.chunk_format.specs.declared.chunk_iter.Unended.{Unended}
use Rattle.chunk_format.proofs.Doubles.{mark_or_not, IsPaired-append, IsPaired-doubled}
use Rattle.chunk_format.proofs.Blanks.{IsPaired-IsBlank, holds_mark-written}

-- a body is followed by one rest alone
one_cut : (a b c d : List ℕ) → IsPaired 33 a → IsPaired 33 c → BeginsOtherwise 33 b → BeginsOtherwise 33 d → a ++ 33 ∷ b ≡ c ++ 33 ∷ d → (a ≡ c) × (b ≡ d)
one_cut a b c d Empty Empty f g e = (refl, cc)
one_cut a b c d Empty (Byte other k) f g e = absurd (other cc)
one_cut a [] c d Empty (Pair k) f g e = cc
one_cut a (x ∷ b) c d Empty (Pair k) f g e = absurd (f cc)
one_cut a b c d (Byte other h) Empty f g e = absurd (other cc)
one_cut a b c [] (Pair h) Empty f g e = cc
one_cut a b c (x ∷ d) (Pair h) Empty f g e = absurd (g cc)
one_cut a b c d (Byte other h) (Byte other' k) f g e = let r = one_cut _ b _ d h k f g cc in (cc, r.1)
one_cut a b c d (Byte other h) (Pair k) f g e = absurd (other cc)
one_cut a b c d (Pair h) (Byte other k) f g e = absurd (other cc)
one_cut a b c d (Pair h) (Pair k) f g e = let r = one_cut _ b _ d h k f g cc in (cc, r.1)

-- a text in which each mark stands twice is not cut
no_cut : (s a b : List ℕ) → IsPaired 33 s → IsPaired 33 a → BeginsOtherwise 33 b → s ≡ a ++ 33 ∷ b → ⊥
no_cut s a b Empty Empty f e = cc
no_cut s a b Empty (Byte o k) f e = cc
no_cut s a b Empty (Pair k) f e = cc
no_cut s a b (Byte o h) Empty f e = o cc
no_cut s a b (Byte o h) (Byte o' k) f e = no_cut _ _ b h k f cc
no_cut s a b (Byte o h) (Pair k) f e = o cc
no_cut s a [] (Pair h) Empty f e = cc
no_cut s a (x ∷ b) (Pair h) Empty f e = f cc
no_cut s a b (Pair h) (Byte o k) f e = o cc
no_cut s a b (Pair h) (Pair k) f e = no_cut _ _ b h k f cc

-- one chunk alone stands first, and one rest behind it
Takes-same : (old new new' : Left) (p q : Piece) → Takes old p new → Takes old q new' → (p ≡ q) × (new ≡ new')
Takes-same old new new' p q t u =
    let r = one_cut _ _ _ _ t.cut.paired u.cut.paired t.cut.other u.cut.other (sym t.cut.whole ∙ u.cut.whole) in
    let number : p.number ≡ q.number = t.number ∙ sym u.number in
    let at : p.at ≡ q.at = t.at ∙ sym u.at in
    let doubled : p.doubled ≡ q.doubled = t.doubled ∙ ap holds_mark r.0 ∙ sym u.doubled in
    let same : p ≡ q = λ i. record { number = number i; at = at i; body = r.0 i; doubled = doubled i } in
    (same, t.after ∙ (λ i. left_behind (same i) (r.1 i)) ∙ sym u.after)

-- where no chunk is left, none is taken
not_both : (left new : Left) (p : Piece) → IsPaired 33 left.rest → Takes left p new → ⊥
not_both left new p paired t = no_cut _ _ _ paired t.cut.paired t.cut.other t.cut.whole

-- one fault alone is there
IsUnended-same : (left : Left) (e d : Unended) → IsUnended left e → IsUnended left d → e ≡ d
IsUnended-same left e d h k =
    let number : e.number ≡ d.number = h.2 ∙ sym k.2 in
    let at : e.at ≡ d.at = h.3 ∙ sym k.3 in
    λ i. record { number = number i; at = at i }

-- one list of chunks, and one end
pub HasChunks-same : (left : Left) (ps qs : List Piece) (d e : Option Unended) → HasChunks left ps d → HasChunks left qs e → (ps ≡ qs) × (d ≡ e)
HasChunks-same left ps qs d e (First {new} {p} {ps = more} t h) (First {new = new'} {p = q} {ps = more'} u k) =
    let r = Takes-same left new new' p q t u in
    let s = HasChunks-same new more more' d e h (subst (λ (n : Left). HasChunks n more' e) (sym r.1) k) in (cc, s.1)
HasChunks-same left ps qs d e (First {new} {p} t h) (Over over) = absurd (not_both left new p over.0 t)
HasChunks-same left ps qs d e (First {new} {p} t h) (Refused fault) = absurd (not_both left new p fault.0 t)
HasChunks-same left ps qs d e (Over over) (First {new} {p} t h) = absurd (not_both left new p over.0 t)
HasChunks-same left ps qs d e (Refused fault) (First {new} {p} t h) = absurd (not_both left new p fault.0 t)
HasChunks-same left ps qs d e (Over over) (Over over') = (refl, refl)
HasChunks-same left ps qs d e (Over over) (Refused fault) = absurd (omega (arith, over.1, fault.1))
HasChunks-same left ps qs d e (Refused fault) (Over over) = absurd (omega (arith, over.1, fault.1))
HasChunks-same left ps qs d e (Refused {e = x} fault) (Refused {e = y} fault') = (refl, ap Some (IsUnended-same left x y fault fault'))

-- a text is a body throughout, or it is cut at a mark
pub record Cut (text : List ℕ) : Type 0 where
  pub body : List ℕ
  pub behind : List ℕ
  pub is : IsCut text body behind

-- each text is one or the other
paired_or_cut : (s : List ℕ) → IsPaired 33 s ⊎ Cut s
paired_or_cut [] = inl Empty
paired_or_cut (x ∷ []) = by (mark_or_not 33 x)
  where
    by : (x ≡ 33) ⊎ (x ≢ 33) → IsPaired 33 (x ∷ []) ⊎ Cut (x ∷ [])
    by (inl mark) = inr (record { body = []; behind = []; is = record { whole = cc; paired = Empty; other = tt } })
    by (inr other) = inl (Byte other Empty)
paired_or_cut (x ∷ y ∷ s) = by (mark_or_not 33 x) (mark_or_not 33 y) (paired_or_cut (y ∷ s)) (paired_or_cut s)
  where
    by : (x ≡ 33) ⊎ (x ≢ 33) → (y ≡ 33) ⊎ (y ≢ 33) → IsPaired 33 (y ∷ s) ⊎ Cut (y ∷ s) → IsPaired 33 s ⊎ Cut s → IsPaired 33 (x ∷ y ∷ s) ⊎ Cut (x ∷ y ∷ s)
    by (inl mark) (inl mark') one (inl paired) =
        let both : 33 ∷ 33 ∷ s ≡ x ∷ y ∷ s = cc in inl (subst (IsPaired 33) both (Pair paired))
    by (inl mark) (inl mark') one (inr c) = inr (record {
      body = 33 ∷ 33 ∷ c.body;
      behind = c.behind;
      is = record { whole = (let w = c.is.whole in cc); paired = Pair c.is.paired; other = c.is.other };
    })
    by (inl mark) (inr other) one two = inr (record {
      body = [];
      behind = y ∷ s;
      is = record { whole = cc; paired = Empty; other = other };
    })
    by (inr other) second (inl paired) two = inl (Byte other paired)
    by (inr other) second (inr c) two = inr (record {
      body = x ∷ c.body;
      behind = c.behind;
      is = record { whole = ap (λ t. x ∷ t) c.is.whole; paired = Byte other c.is.paired; other = c.is.other };
    })

-- the chunks of what is left, and the end
record Chunked (left : Left) : Type 0 where
  pieces : List Piece
  end : Option Unended
  has : HasChunks left pieces end

-- the end, where no chunk is left
ended : (left : Left) → IsPaired 33 left.rest → Chunked left
ended left paired = by (eq-or-lt_of_le (prefix_len-le-length is_blank left.rest))
  where
    by : IsBlank left.rest ⊎ (blank_len left.rest < length left.rest) → Chunked left
    by (inl blank) = record { pieces = []; end = None; has = Over (paired, blank) }
    by (inr less) =
        let fault : Unended = record { number = left.number; at = left.at + blank_len left.rest } in
        record { pieces = []; end = Some fault; has = Refused (paired, less, refl, refl) }

-- the first chunk, where the text is cut
first_chunk : (left : Left) (body behind : List ℕ) → IsCut left.rest body behind → (p : Piece) × Takes left p (left_behind p behind)
first_chunk left body behind cut =
    let p : Piece = record { number = left.number; at = left.at; body = body; doubled = holds_mark body } in
    (p, record { number = refl; at = refl; cut = cut; doubled = refl; after = refl })

-- by how many bytes are left
chunked : (n : ℕ) (left : Left) → length left.rest ≤ n → Chunked left
chunked zero left short = by (paired_or_cut left.rest)
  where
    by : IsPaired 33 left.rest ⊎ Cut left.rest → Chunked left
    by (inl paired) = ended left paired
    by (inr c) = absurd (omega (arith, ap length c.is.whole, length-append c.body (33 ∷ c.behind)))
chunked (suc n) left short = by (λ (new : Left). chunked n new) (paired_or_cut left.rest)
  where
    by : ((new : Left) → length new.rest ≤ n → Chunked new) → IsPaired 33 left.rest ⊎ Cut left.rest → Chunked left
    by more (inl paired) = ended left paired
    by more (inr c) =
        let first = first_chunk left c.body c.behind c.is in
        let rest = more (left_behind first.0 c.behind) (omega (arith, ap length c.is.whole, length-append c.body (33 ∷ c.behind))) in
        record { pieces = first.0 ∷ rest.pieces; end = rest.end; has = First first.1 rest.has }

-- a text has a list of chunks, and an end
pub HasChunks-some : (left : Left) → (pieces : List Piece) × (end : Option Unended) × HasChunks left pieces end
HasChunks-some left = let c = chunked (length left.rest) left (le_refl _) in (c.pieces, c.end, c.has)

-- a written source behind blanks is the first chunk
pub Takes-written : (left : Left) (blanks source behind : List ℕ) → IsBlank blanks → BeginsOtherwise 33 behind → left.rest ≡ blanks ++ doubled 33 source ++ 33 ∷ behind → Takes left (written_piece left blanks source) (left_behind (written_piece left blanks source) behind)
Takes-written left blanks source behind blank other whole = record {
  number = refl;
  at = refl;
  cut = record {
    whole = whole;
    paired = IsPaired-append blanks (doubled 33 source) (IsPaired-IsBlank blanks blank) (IsPaired-doubled 33 source);
    other = other;
  };
  doubled = holds_mark-written blanks source blank;
  after = refl;
}
