-- What a file-out is the text of: the image, or the first chunk that is refused.
use Rattle.std.specs.Prelude.{◌≡◌, ◌≢◌, List, [], ◌∷◌, Bool, true, false, Option, Some, None, Result, Ok, Err}
use Rattle.token_model.specs.declared.kind.Dialect.{Dialect}
use Rattle.tree_model.specs.Tree.{SequenceOf, MethodOf}
use Rattle.chunk_format.specs.Left.{start_of}
use Rattle.chunk_format.specs.Chunks.{Piece, HasChunks}
use Rattle.chunk_format.specs.Source.{IsSource}
use Rattle.chunk_format.specs.declared.chunk_iter.Unended.{Unended as NoEnd}
use Rattle.grammar_model.specs.Whole.{DoIt, Method}
use Rattle.grammar_model.specs.Checks.{Fault}
use Rattle.grammar_model.specs.Spelling.{SpellsDoIt, SpellsMethod, HasFirstFault}
use Rattle.image_model.specs.Image.{ImageOf}
use Rattle.file_model.specs.Causes.{Cause, Unended, Refusal, place_of}
use Rattle.file_model.specs.Changes.{RunOf}
use Rattle.file_model.specs.Filing.{Text, Filing, begun, Item, Blank, DoItChunk, ReplacementChunk, MethodChunk, Faulty, taken}
use Rattle.file_model.specs.Forms.{Replacement, replacement_in}
use Rattle.file_model.specs.Places.{placed}
use Rattle.rb_base.specs.Names.{text_eq}

-- what a source is, outside a run of methods or in one, in the text of the kernel or in a user's
pub data IsItem (d : Dialect) (kernel : Bool) : Option (RunOf Text) → Text → Item → Type 0 where
  Empty : {run : Option (RunOf Text)} → IsItem d kernel run [] Blank
  DoItRead : {source : Text} {b : SequenceOf Text} → source ≢ [] → SpellsDoIt d source b → replacement_in b ≡ None → IsItem d kernel None source (DoItChunk source b)
  ReplacementRead : {source : Text} {b c : SequenceOf Text} {r : Replacement} → source ≢ [] → SpellsDoIt d source b → replacement_in b ≡ Some r → SpellsDoIt d r.source c → IsItem d kernel None source (ReplacementChunk r c)
  ReplacementFault : {source : Text} {b : SequenceOf Text} {r : Replacement} {fault : Fault} → source ≢ [] → SpellsDoIt d source b → replacement_in b ≡ Some r → HasFirstFault d DoIt r.source fault → IsItem d kernel None source (Faulty fault)
  DoItFault : {source : Text} {fault : Fault} → source ≢ [] → HasFirstFault d DoIt source fault → IsItem d kernel None source (Faulty fault)
  MethodRead : {run : RunOf Text} {source : Text} {m : MethodOf Text} → source ≢ [] → SpellsMethod d kernel source m → IsItem d kernel (Some run) source (MethodChunk run source m)
  MethodFault : {run : RunOf Text} {source : Text} {fault : Fault} → source ≢ [] → HasFirstFault d (Method kernel) source fault → IsItem d kernel (Some run) source (Faulty fault)

-- a chunk makes this, or is refused with this cause
pub record Takes (d : Dialect) (kernel : Bool) (old : Filing) (p : Piece) (r : Result Filing Cause) : Type 0 where
  pub source : Text
  pub item : Item
  pub is_source : IsSource p.body source
  pub is_item : IsItem d kernel old.run source item
  pub result : r ≡ taken d kernel old item

-- the refusal of a chunk
abbrev pub refusal : Piece → Cause → Refusal
refusal p cause = record { chunk = p.number; at = place_of cause; cause = cause }

-- the refusal of a text whose last chunk has no end
abbrev pub no_end : NoEnd → Refusal
no_end e = record { chunk = e.number; at = e.at; cause = Unended }

-- chunks, one after the other, and what stands behind the last one
pub data TakesAll (d : Dialect) (kernel : Bool) : Filing → List Piece → Option NoEnd → Result Filing Refusal → Type 0 where
  Over : {f : Filing} → TakesAll d kernel f [] None (Ok f)
  Cut : {f : Filing} {e : NoEnd} → TakesAll d kernel f [] (Some e) (Err (no_end e))
  Taken : {f g : Filing} {p : Piece} {ps : List Piece} {end : Option NoEnd} {r : Result Filing Refusal} → Takes d kernel f p (Ok g) → TakesAll d kernel g ps end r → TakesAll d kernel f (p ∷ ps) end r
  Refused : {f : Filing} {p : Piece} {ps : List Piece} {end : Option NoEnd} {cause : Cause} → Takes d kernel f p (Err cause) → TakesAll d kernel f (p ∷ ps) end (Err (refusal p cause))

-- a text that is read behind an image makes this, or is refused
pub record ReadsText (d : Dialect) (kernel : Bool) (i : ImageOf Text) (text : Text) (r : Result Filing Refusal) : Type 0 where
  pub pieces : List Piece
  pub end : Option NoEnd
  pub chunks : HasChunks (start_of text) pieces end
  pub takes : TakesAll d kernel (begun i) pieces end r

-- the image of nothing
abbrev pub no_image : ImageOf Text
no_image = record { classes = []; methods = []; doits = []; heads = 0 }

-- the image that the text of the kernel makes
pub record IsKernelOf (d : Dialect) (prelude : Text) (i : ImageOf Text) : Type 0 where
  pub end : Filing
  pub reads : ReadsText d true no_image prelude (Ok end)
  pub image : i ≡ end.image

-- the image of a file-out, which is read behind the kernel: at its end, methods and classes go to the places that are stated for them
pub record IsImageOf (d : Dialect) (prelude text : Text) (i : ImageOf Text) : Type 0 where
  pub kernel : ImageOf Text
  pub is_kernel : IsKernelOf d prelude kernel
  pub end : Filing
  pub reads : ReadsText d false kernel text (Ok end)
  pub image : i ≡ placed text_eq end.places end.image

-- the first chunk of a file-out that is refused
pub record HasRefusal (d : Dialect) (prelude text : Text) (r : Refusal) : Type 0 where
  pub kernel : ImageOf Text
  pub is_kernel : IsKernelOf d prelude kernel
  pub reads : ReadsText d false kernel text (Err r)
