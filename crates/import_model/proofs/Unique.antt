-- A file-out becomes one text, or has one refusal.
use Rattle.std.proofs.Common.{◌≡◌, ℕ, List, [], ◌∷◌, ◌++◌, Some, None, Result, Ok, Err, refl, sym, ap, subst, ◌∙◌}
use Rattle.token_model.specs.declared.kind.Dialect.TheVariants.{Second}
use Rattle.chunk_format.specs.Left.{Left}
use Rattle.chunk_format.specs.Chunks.{Piece, Takes, IsOver, IsUnended, HasChunks, First, left_behind}
use Rattle.chunk_format.specs.Chunks as chunks
use Rattle.chunk_format.specs.declared.chunk_iter.Unended.{Unended as NoEnd}
use Rattle.chunk_format.proofs.Doubles.{doubled_one}
use Rattle.chunk_format.proofs.Unique.{HasChunks-some, HasChunks-same}
use Rattle.grammar_model.specs.Whole.{DoIt}
use Rattle.grammar_model.proofs.Texts.{no_fault_DoIt, one_SpellsDoIt, one_HasFirstFault}
use Rattle.file_model.specs.Causes.{Cause, Refusal, Syntax}
use Rattle.file_model.specs.Filing.{Text}
use Rattle.file_model.specs.Reading.{refusal, no_end}
use Rattle.import_model.specs.Steps.{Next, Made, spelled, Becomes, Comments, Blank, RunEnds, IsMethod, IsDoIt, HasFault, Imports}
use Rattle.import_model.specs.Imported as imported
use Rattle.import_model.specs.Imported.{after, ended, Over, Cut, Chunk, Refused}

-- one rest stands after a body
pub cancel : (b r s : List ℕ) → b ++ 33 ∷ r ≡ b ++ 33 ∷ s → r ≡ s
cancel [] r s e = cc
cancel (x ∷ b) r s e = cancel b r s cc

-- one chunk alone stands first, and one rest is left
pub Takes-same : (old new other : Left) (p q : Piece) → Takes old p new → Takes old q other → (p ≡ q) × (new ≡ other)
Takes-same old new other p q t u =
    let a = HasChunks-some new in
    let b = HasChunks-some other in
    let both = HasChunks-same old (p ∷ a.0) (q ∷ b.0) a.1 b.1 (First t a.2) (First u b.2) in
    let lists = both.0 in
    let same : p ≡ q = cc in
    let whole : p.body ++ 33 ∷ new.rest ≡ p.body ++ 33 ∷ other.rest = sym t.cut.whole ∙ u.cut.whole ∙ ap (λ (x : Piece). x.body ++ 33 ∷ other.rest) (sym same) in
    let rest = cancel p.body new.rest other.rest whole in
    (same, t.after ∙ (λ i. left_behind (same i) (rest i)) ∙ sym u.after)

-- where a chunk stands, it is not over
pub taken_not_over : (left new : Left) (p : Piece) → Takes left p new → IsOver left → ⊥
taken_not_over left new p t over =
    let a = HasChunks-some new in
    let both = HasChunks-same left (p ∷ a.0) [] a.1 None (First t a.2) (chunks.Over over) in
    let lists = both.0 in cc

-- nor is its end missing
pub taken_not_cut : (left new : Left) (p : Piece) (e : NoEnd) → Takes left p new → IsUnended left e → ⊥
taken_not_cut left new p e t cut =
    let a = HasChunks-some new in
    let both = HasChunks-same left (p ∷ a.0) [] a.1 (Some e) (First t a.2) (chunks.Refused cut) in
    let lists = both.0 in cc

-- it is over or its end is missing
pub over_not_cut : (left : Left) (e : NoEnd) → IsOver left → IsUnended left e → ⊥
over_not_cut left e over cut =
    let both = HasChunks-same left [] [] None (Some e) (chunks.Over over) (chunks.Refused cut) in
    let ends = both.1 in cc

-- one end is missing
pub one_cut : (left : Left) (d e : NoEnd) → IsUnended left d → IsUnended left e → d ≡ e
one_cut left d e a b =
    let both = HasChunks-same left [] [] (Some d) (Some e) (chunks.Refused a) (chunks.Refused b) in
    let ends = both.1 in cc

-- a source becomes one thing
Becomes-same : (p : Piece) (now : Next) (source : Text) (r s : Result Made Cause) → Becomes p now source r → Becomes p now source s → r ≡ s
Becomes-same p now source r s Comments Comments = refl
Becomes-same p now source r s Blank Blank = refl
Becomes-same p now source r s Blank (IsDoIt some t) = absurd (some refl)
Becomes-same p now source r s Blank (HasFault some f) = absurd (some refl)
Becomes-same p now source r s RunEnds RunEnds = refl
Becomes-same p now source r s RunEnds (IsMethod some) = absurd (some refl)
Becomes-same p now source r s (IsMethod some) RunEnds = absurd (some refl)
Becomes-same p now source r s (IsMethod some) (IsMethod other) = refl
Becomes-same p now source r s (IsDoIt some t) Blank = absurd (some refl)
Becomes-same p now source r s (IsDoIt some t) (IsDoIt other u) = ap (spelled p) (one_SpellsDoIt Second source _ _ t u)
Becomes-same p now source r s (IsDoIt some t) (HasFault other f) = absurd (no_fault_DoIt Second source _ _ t f)
Becomes-same p now source r s (HasFault some f) Blank = absurd (some refl)
Becomes-same p now source r s (HasFault some f) (IsDoIt other t) = absurd (no_fault_DoIt Second source _ _ t f)
Becomes-same p now source r s (HasFault some f) (HasFault other g) = ap (λ x. Err (Syntax x)) (one_HasFirstFault Second DoIt source _ _ f g)

-- a chunk becomes one thing
pub Imports-same : (p : Piece) (now : Next) (r s : Result Made Cause) → Imports p now r → Imports p now s → r ≡ s
Imports-same p now r s a b =
    let same : a.source ≡ b.source = doubled_one 33 a.source b.source (a.is_source ∙ sym b.is_source) in
    Becomes-same p now b.source r s (subst (λ (x : Text). Becomes p now x r) same a.becomes) b.becomes

-- a chunk, given by another name
Imports-of : (p q : Piece) (now : Next) (r : Result Made Cause) → p ≡ q → Imports p now r → Imports q now r
Imports-of p q now r e a = subst (λ (x : Piece). Imports x now r) e a

-- what was made is the same
one_made : (p q : Piece) (now : Next) (m n : Made) → p ≡ q → Imports p now (Ok m) → Imports q now (Ok n) → m ≡ n
one_made p q now m n e a b = by (Imports-same q now (Ok m) (Ok n) (Imports-of p q now (Ok m) e a) b)
  where
    by : ◌≡◌ {A = Result Made Cause} (Ok m) (Ok n) → m ≡ n
    by same = cc

-- and so is the cause
one_cause : (p q : Piece) (now : Next) (c d : Cause) → p ≡ q → Imports p now (Err c) → Imports q now (Err d) → c ≡ d
one_cause p q now c d e a b = by (Imports-same q now (Err c) (Err d) (Imports-of p q now (Err c) e a) b)
  where
    by : ◌≡◌ {A = Result Made Cause} (Err c) (Err d) → c ≡ d
    by same = cc

-- a chunk is not both refused and taken
made_or_refused : (p q : Piece) (now : Next) (m : Made) (c : Cause) → p ≡ q → Imports p now (Ok m) → Imports q now (Err c) → ⊥
made_or_refused p q now m c e a b = by (Imports-same q now (Ok m) (Err c) (Imports-of p q now (Ok m) e a) b)
  where
    by : ◌≡◌ {A = Result Made Cause} (Ok m) (Err c) → ⊥
    by same = cc

-- what is left becomes one thing
pub one_import : (now : Next) (left : Left) (r s : Result Text Refusal) → imported.Becomes now left r → imported.Becomes now left s → r ≡ s
one_import now left r s (Over over) (Over other) = refl
one_import now left r s (Over over) (Cut {e} cut) = absurd (over_not_cut left e over cut)
one_import now left r s (Over over) (Chunk {new} {p} t i more) = absurd (taken_not_over left new p t over)
one_import now left r s (Over over) (Refused {new} {p} t i) = absurd (taken_not_over left new p t over)
one_import now left r s (Cut {e} cut) (Over over) = absurd (over_not_cut left e over cut)
one_import now left r s (Cut {e = d} cut) (Cut {e} other) = ap (λ (x : NoEnd). Err (no_end x)) (one_cut left d e cut other)
one_import now left r s (Cut {e} cut) (Chunk {new} {p} t i more) = absurd (taken_not_cut left new p e t cut)
one_import now left r s (Cut {e} cut) (Refused {new} {p} t i) = absurd (taken_not_cut left new p e t cut)
one_import now left r s (Chunk {new} {p} t i more) (Over over) = absurd (taken_not_over left new p t over)
one_import now left r s (Chunk {new} {p} t i more) (Cut {e} cut) = absurd (taken_not_cut left new p e t cut)
one_import now left r s (Chunk {new} {p} {m} {r = x} t i more) (Chunk {new = other} {p = q} {m = n} {r = y} u j others) =
    let both = Takes-same left new other p q t u in
    let made = one_made p q now m n both.0 i j in
    let moved : imported.Becomes n.next other x = subst (λ (z : Left). imported.Becomes n.next z x) both.1 (subst (λ (z : Made). imported.Becomes z.next new x) made more) in
    ap (λ (z : Made). after z.text x) made ∙ ap (after n.text) (one_import n.next other x y moved others)
one_import now left r s (Chunk {new} {p} {m} t i more) (Refused {new = other} {p = q} {cause} u j) =
    absurd (made_or_refused p q now m cause (Takes-same left new other p q t u).0 i j)
one_import now left r s (Refused {new} {p} t i) (Over over) = absurd (taken_not_over left new p t over)
one_import now left r s (Refused {new} {p} t i) (Cut {e} cut) = absurd (taken_not_cut left new p e t cut)
one_import now left r s (Refused {new} {p} {cause} t i) (Chunk {new = other} {p = q} {m} u j more) =
    absurd (made_or_refused q p now m cause (Takes-same left other new q p u t).0 j i)
one_import now left r s (Refused {new} {p} {cause = c} t i) (Refused {new = other} {p = q} {cause = d} u j) =
    let same = (Takes-same left new other p q t u).0 in
    let causes = one_cause p q now c d same i j in
    λ k. Err (refusal (same k) (causes k))
