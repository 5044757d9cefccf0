-- Chunks one after the other.
use Rattle.std.proofs.Common.{Bool, true, false, [], ◌∷◌, Some, None, Result, Ok, Err, refl, sym, subst}
use Rattle.token_model.specs.declared.kind.Dialect.TheVariants.{Second}
use Rattle.chunk_format.specs.Left.{Left, start_of}
use Rattle.chunk_format.specs.Chunks as chunks
use Rattle.chunk_format.specs.Chunks.{Piece, IsOver, IsUnended, HasChunks, First}
use Rattle.chunk_format.specs.declared.chunk_iter.Unended.{Unended}
use Rattle.chunk_format.proofs.Unique.{HasChunks-some}
use Rattle.image_model.specs.Image.{ImageOf}
use Rattle.file_model.specs.Causes.{Refusal}
use Rattle.file_model.specs.Filing.{Text, Filing, begun}
use Rattle.file_model.specs.Reading.{Takes, Over, Cut, Taken, Refused, ReadsText, IsKernelOf, no_end, no_image}
use Rattle.file_faults.specs.declared.fault.ImageFault.{ImageFault}
use Rattle.file_faults.specs.Faults as faults
use Rattle.file_faults.specs.Faults.{IsRefused}
use Rattle.file_reading.specs.Loop.{Tells, WantsMemory, Told, TakesLeft, RefusesChunk}

-- a fact that follows
pub Tells-weaker : (P Q : Refusal → Type 0) → ((r : Refusal) → P r → Q r) → (a : ImageFault) → Tells P a → Tells Q a
Tells-weaker P Q h a WantsMemory = WantsMemory
Tells-weaker P Q h a (Told {refusal} e p) = Told e (h refusal p)

module _ (kernel : Bool) (f : Filing) where
  -- nothing is left
  pub went_over : (left : Left) → IsOver left → TakesLeft kernel f left (Ok f)
  went_over left over = record { pieces = []; end = None; chunks = chunks.Over over; takes = Over }

  -- what is left has no end
  pub was_cut : (left : Left) (e : Unended) → IsUnended left e → TakesLeft kernel f left (Err (no_end e))
  was_cut left e unended = record { pieces = []; end = Some e; chunks = chunks.Refused unended; takes = Cut }

  -- a chunk is taken, and then what is left behind it
  pub went_on : (left new : Left) (p : Piece) (g : Filing) (r : Result Filing Refusal) → chunks.Takes left p new → Takes Second kernel f p (Ok g) → TakesLeft kernel g new r → TakesLeft kernel f left r
  went_on left new p g r t takes rest = record { pieces = p ∷ rest.pieces; end = rest.end; chunks = First t rest.chunks; takes = Taken takes rest.takes }

  -- a chunk is refused
  pub was_refused : (left new : Left) (p : Piece) (r : Refusal) → chunks.Takes left p new → RefusesChunk kernel f p r → TakesLeft kernel f left (Err r)
  was_refused left new p r t refused =
      let rest = HasChunks-some new in
      subst (λ (x : Refusal). TakesLeft kernel f left (Err x)) (sym refused.refusal) (record { pieces = p ∷ rest.0; end = rest.1; chunks = First t rest.2; takes = Refused refused.takes })

-- all that is left of a text at its beginning
pub text_read : (kernel : Bool) (i : ImageOf Text) (text : Text) (r : Result Filing Refusal) → TakesLeft kernel (begun i) (start_of text) r → ReadsText Second kernel i text r
text_read kernel i text r t = record { pieces = t.pieces; end = t.end; chunks = t.chunks; takes = t.takes }

module _ (prelude text : Text) (k : Filing) (reads : ReadsText Second true no_image prelude (Ok k)) where
  pub is_kernel : IsKernelOf Second prelude k.image
  is_kernel = record { end = k; reads = reads; image = refl }

  -- it is refused
  pub image_refused : (a : ImageFault) → Tells (λ r. ReadsText Second false k.image text (Err r)) a → IsRefused prelude text a
  image_refused a WantsMemory = faults.WantsMemory
  image_refused a (Told e r) = faults.Told e (record { kernel = k.image; is_kernel = is_kernel; reads = r })
