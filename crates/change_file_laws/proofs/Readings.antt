-- Texts that are read chunk by chunk, with any blanks before each chunk.
use Rattle.std.proofs.Common.{◌≡◌, ℕ, ◌+◌, Bool, true, false, cond, [], ◌∷◌, ◌++◌, Ok, refl, sym, ap, subst, ◌∙◌, arith, append_assoc, append-nil}
use Rattle.rb_base.specs.Doubling.{BeginsOtherwise, doubled}
use Rattle.token_model.specs.declared.kind.Dialect.TheVariants.{Second}
use Rattle.chunk_format.specs.Blank.{is_blank, blank_len, IsBlank, HasNoLeadingBlank}
use Rattle.chunk_format.specs.Left.{Left}
use Rattle.chunk_format.specs.Chunks.{First, Over as NoChunk, written_piece, left_behind}
use Rattle.chunk_format.specs.Source.{IsSource}
use Rattle.chunk_format.proofs.Unique.{Takes-written}
use Rattle.chunk_format.proofs.Blanks.{IsBlank-cons, IsPaired-IsBlank, drop_blanks-append, drop_blanks-doubled}
use Rattle.file_model.specs.Filing.{Text, Filing, Item, taken}
use Rattle.file_model.specs.Written.{chunk_text}
use Rattle.file_model.specs.Reading.{IsItem, Over, Taken}
use Rattle.change_file_laws.specs.Behind.{IsRead}

-- one blank more
blank_more : (b : ℕ) (s : Text) → is_blank b ≡ true → IsBlank s → IsBlank (b ∷ s)
blank_more b s e h = ap (λ (t : Bool). cond t (1 + blank_len s) 0) e ∙ omega (arith, h)

-- blanks behind blanks
pub blanks_append : (a b : Text) → IsBlank a → IsBlank b → IsBlank (a ++ b)
blanks_append [] b h k = k
blanks_append (x ∷ a) b h k = let c = IsBlank-cons x a h in blank_more x (a ++ b) c.first (blanks_append a b c.rest k)

-- from one text and what was read so far to what is left of the text and what was read then
pub data Read : Text → Filing → Text → Filing → Type 0 where
  Stop : {text : Text} {f : Filing} → Read text f text f
  Chunk : {text behind last : Text} {f g h : Filing} (blanks source : Text) (item : Item) → IsBlank blanks → HasNoLeadingBlank source → BeginsOtherwise 33 behind → text ≡ blanks ++ doubled 33 source ++ 33 ∷ behind → IsItem Second false f.run source item → Ok g ≡ taken Second false f item → Read behind g last h → Read text f last h

-- one reading behind another
pub further : {s t u : Text} {f g h : Filing} → Read s f t g → Read t g u h → Read s f u h
further Stop r = r
further (Chunk blanks source item blank begins other whole is takes rest) r = Chunk blanks source item blank begins other whole is takes (further rest r)

-- the source of a chunk that was written behind blanks
pub written_source : (blanks source : Text) → IsBlank blanks → HasNoLeadingBlank source → IsSource (blanks ++ doubled 33 source) source
written_source blanks source blank begins = sym (drop_blanks-append blanks (doubled 33 source) blank ∙ drop_blanks-doubled source begins)

-- what is read to the end has such chunks
chunked : {text last : Text} {f g : Filing} → Read text f last g → IsBlank last → (left : Left) → left.rest ≡ text → IsRead Second left f g
chunked Stop blank left e =
    let rest : IsBlank left.rest = subst IsBlank (sym e) blank in record { pieces = []; chunks = NoChunk (IsPaired-IsBlank left.rest rest, rest); takes = Over }
chunked (Chunk {behind} {g = h} blanks source item b begins other whole is takes rest) blank left e =
    let p = written_piece left blanks source in
    let c = chunked rest blank (left_behind p behind) refl in
    record {
      pieces = p ∷ c.pieces;
      chunks = First (Takes-written left blanks source behind b other (e ∙ whole)) c.chunks;
      takes = Taken (record { source = source; item = item; is_source = written_source blanks source b begins; is_item = is; result = takes }) c.takes;
    }

-- behind any blanks, from the first text to the second behind some blanks
abbrev pub ReadsOn : Text → Filing → Text → Filing → Type 0
ReadsOn s f t g = (b : Text) → IsBlank b → (c : Text) × IsBlank c × Read (b ++ s) f (c ++ t) g

-- one after the other
pub reads_further : {s t u : Text} {f g h : Filing} → ReadsOn s f t g → ReadsOn t g u h → ReadsOn s f u h
reads_further r q b blank = let x = r b blank in let y = q x.0 x.1 in (y.0, y.1, further x.2 y.2)

-- nothing is read
pub reads_none : {s : Text} {f : Filing} → ReadsOn s f s f
reads_none b blank = (b, blank, Stop)

-- blanks are passed
pub reads_blanks : (t : Text) {s u : Text} {f g : Filing} → IsBlank t → ReadsOn s f u g → ReadsOn (t ++ s) f u g
reads_blanks t {s} {u} {f} {g} blank r b h =
    let x = r (b ++ t) (blanks_append b t h blank) in
    (x.0, x.1, subst (λ (z : Text). Read z f (x.0 ++ u) g) (append_assoc b t s) x.2)

-- one chunk, with blanks behind it
pub reads_chunk : (source tail behind : Text) {f g : Filing} (item : Item) → HasNoLeadingBlank source → IsBlank tail → BeginsOtherwise 33 (tail ++ behind) → IsItem Second false f.run source item → Ok g ≡ taken Second false f item → ReadsOn (chunk_text source ++ (tail ++ behind)) f behind g
reads_chunk source tail behind item begins blank other is takes b h =
    (tail, blank, Chunk b source item h begins other (ap (λ (z : Text). b ++ z) (append_assoc (doubled 33 source) (33 ∷ []) (tail ++ behind)) ∙ sym (append_assoc b (doubled 33 source) (33 ∷ (tail ++ behind)))) is takes Stop)

-- a whole text
pub reads_text : {text : Text} {f g : Filing} → ReadsOn text f [] g → (left : Left) → left.rest ≡ text → IsRead Second left f g
reads_text {text} {f} {g} r left e =
    let x = r [] refl in
    let whole : Read text f x.0 g = subst (λ (z : Text). Read text f z g) (append-nil x.0) x.2 in
    chunked whole x.1 left e
