-- Texts that are chunks, each with any blanks before it.
use Rattle.std.proofs.Common.{◌≡◌, ◌≢◌, ◌⊎◌, inl, inr, ℕ, Bool, true, cond, List, [], ◌∷◌, ◌++◌, None, refl, ap, sym, subst, ◌∙◌, arith, append_assoc}
use Rattle.std.specs.Prelude.{◌+◌, ◌||◌, not, IsTrue}
use Rattle.std.specs.List.{AllByRecursion, list_all}
use Rattle.std.proofs.lemmas.Bool.{and_parts, false≢true}
use Rattle.rb_base.specs.Doubling.{BeginsOtherwise, doubled}
use Rattle.token_model.specs.Bytes.{is_letter, is_word}
use Rattle.token_model.proofs.Leads.{other_byte}
use Rattle.chunk_format.specs.Blank.{is_blank, blank_len, IsBlank, HasNoLeadingBlank}
use Rattle.chunk_format.specs.Left.{Left}
use Rattle.chunk_format.specs.Chunks.{Piece, HasChunks, First, Over as NoChunk, written_piece, left_behind}
use Rattle.chunk_format.specs.Source.{IsSource}
use Rattle.chunk_format.proofs.Unique.{Takes-written}
use Rattle.chunk_format.proofs.Blanks.{IsBlank-cons, IsPaired-IsBlank, drop_blanks-append, drop_blanks-doubled}
use Rattle.chunk_format.proofs.Doubles.{doubled-other}
use Rattle.scope_model.specs.SpecialNames.{is_pseudo_variable}
use Rattle.text_model.specs.Literals.{is_identifier}
use Rattle.file_model.specs.Filing.{Text}
use Rattle.file_model.specs.Written.{chunk_text, paragraph}
use Rattle.file_model.specs.Words.{is_global, may_name}
use Rattle.reread_law.proofs.Bytes.{no_blank as no_blank_byte}

-- blanks behind blanks
pub blanks_append : (a b : Text) → IsBlank a → IsBlank b → IsBlank (a ++ b)
blanks_append [] b h k = k
blanks_append (x ∷ a) b h k = let c = IsBlank-cons x a h in one_more x (a ++ b) c.first (blanks_append a b c.rest k)
  where
    one_more : (y : ℕ) (s : Text) → is_blank y ≡ true → IsBlank s → IsBlank (y ∷ s)
    one_more y s e m = ap (λ (t : Bool). cond t (1 + blank_len s) 0) e ∙ omega (arith, m)

-- the source of a chunk that was written behind blanks
pub written_source : (blanks source : Text) → IsBlank blanks → HasNoLeadingBlank source → IsSource (blanks ++ doubled 33 source) source
written_source blanks source blank begins = sym (drop_blanks-append blanks (doubled 33 source) blank ∙ drop_blanks-doubled source begins)

-- a name that may be given is an identifier
pub identifier_of : (n : Text) → IsTrue (may_name n) → is_identifier n ≡ true
identifier_of n h = (and_parts (is_identifier n) (not (is_pseudo_variable n || is_global n)) h).0

-- a text that begins with a letter
pub record Lettered (s : Text) : Type 0 where
  pub first : ℕ
  pub rest : Text
  pub is : s ≡ first ∷ rest
  pub letter : is_letter first ≡ true

pub more : {s : Text} (t : Text) → Lettered s → Lettered (s ++ t)
more t l = record { first = l.first; rest = l.rest ++ t; is = ap (λ (x : Text). x ++ t) l.is; letter = l.letter }

pub lettered : (n : Text) → is_identifier n ≡ true → Lettered n
lettered [] h = absurd (false≢true h)
lettered (b ∷ w) h = record { first = b; rest = w; is = refl; letter = (and_parts (is_letter b) (list_all is_word w) h).0 }

-- begins with no blank, and with no mark
pub no_blank : (s : Text) → Lettered s → HasNoLeadingBlank s
no_blank s l = subst HasNoLeadingBlank (sym l.is) (ap (λ (t : Bool). cond t (1 + blank_len l.rest) 0) (no_blank_byte is_letter l.first l.letter refl refl refl refl refl))

pub no_mark : (s u : Text) → Lettered s → BeginsOtherwise 33 (doubled 33 s ++ u)
no_mark s u l =
    let other : l.first ≢ 33 = other_byte is_letter l.first 33 l.letter refl in
    subst (λ (x : Text). BeginsOtherwise 33 (doubled 33 x ++ u)) (sym l.is) (subst (λ (x : Text). BeginsOtherwise 33 (x ++ u)) (sym (doubled-other 33 l.first l.rest other)) other)

-- a blank chunk, or one whose source is of a kind
abbrev pub IsOf : (Text → Type 0) → Text → Type 0
IsOf P source = (source ≡ []) ⊎ (HasNoLeadingBlank source × P source)

-- from one text to what is left of it behind some chunks
pub data Written (P : Text → Type 0) : Text → Text → Type 0 where
  Stop : {text : Text} → Written P text text
  Chunk : {text behind last : Text} (blanks source : Text) → IsBlank blanks → IsOf P source → BeginsOtherwise 33 behind → text ≡ blanks ++ doubled 33 source ++ 33 ∷ behind → Written P behind last → Written P text last

module _ (P : Text → Type 0) where
  further : {s t u : Text} → Written P s t → Written P t u → Written P s u
  further Stop r = r
  further (Chunk blanks source blank is other whole rest) r = Chunk blanks source blank is other whole (further rest r)

  -- behind any blanks, from the first text to the second behind some blanks
  abbrev pub WritesOn : Text → Text → Type 0
  WritesOn s t = (b : Text) → IsBlank b → (c : Text) × IsBlank c × Written P (b ++ s) (c ++ t)

  pub on_further : {s t u : Text} → WritesOn s t → WritesOn t u → WritesOn s u
  on_further r q b blank = let x = r b blank in let y = q x.0 x.1 in (y.0, y.1, further x.2 y.2)

  pub on_none : {s : Text} → WritesOn s s
  on_none b blank = (b, blank, Stop)

  -- blanks are passed
  pub on_blanks : (t : Text) {s u : Text} → IsBlank t → WritesOn s u → WritesOn (t ++ s) u
  on_blanks t {s} {u} blank r b h = let x = r (b ++ t) (blanks_append b t h blank) in (x.0, x.1, subst (λ (z : Text). Written P z (x.0 ++ u)) (append_assoc b t s) x.2)

  -- one chunk, with blanks behind it
  pub on_chunk : (source tail behind : Text) → IsOf P source → IsBlank tail → BeginsOtherwise 33 (tail ++ behind) → WritesOn (chunk_text source ++ (tail ++ behind)) behind
  on_chunk source tail behind is blank other b h =
      (tail, blank, Chunk b source h is other (ap (λ (z : Text). b ++ z) (append_assoc (doubled 33 source) (33 ∷ []) (tail ++ behind)) ∙ sym (append_assoc b (doubled 33 source) (33 ∷ (tail ++ behind)))) Stop)

  -- one that is followed by an empty line
  pub on_paragraph : (source behind : Text) → IsOf P source → WritesOn (paragraph source ++ behind) behind
  on_paragraph source behind is =
      subst (λ (s : Text). WritesOn s behind) (sym (append_assoc (chunk_text source) (10 ∷ 10 ∷ []) behind)) (on_chunk source (10 ∷ 10 ∷ []) behind is refl (λ e. omega arith))

  -- a chunk is blank, or its source is of the kind
  abbrev pub IsPieceOf : Piece → Type 0
  IsPieceOf p = IsBlank p.body ⊎ ((source : Text) × IsSource p.body source × P source)

  -- chunks up to the end of a text
  pub record Chunked (left : Left) : Type 0 where
    pub pieces : List Piece
    pub chunks : HasChunks left pieces None
    pub are : AllByRecursion IsPieceOf pieces

  pub chunked : {text last : Text} → Written P text last → IsBlank last → (left : Left) → left.rest ≡ text → Chunked left
  chunked Stop blank left e = let rest : IsBlank left.rest = subst IsBlank (sym e) blank in record { pieces = []; chunks = NoChunk (IsPaired-IsBlank left.rest rest, rest); are = tt }
  chunked (Chunk {behind} blanks source b is other whole rest) blank left e =
      let p = written_piece left blanks source in
      let c = chunked rest blank (left_behind p behind) refl in
      record { pieces = p ∷ c.pieces; chunks = First (Takes-written left blanks source behind b other (e ∙ whole)) c.chunks; are = (by is, c.are) }
    where
      by : IsOf P source → IsBlank (blanks ++ doubled 33 source) ⊎ ((s : Text) × IsSource (blanks ++ doubled 33 source) s × P s)
      by (inl none) = inl (subst (λ (s : Text). IsBlank (blanks ++ doubled 33 s)) (sym none) (blanks_append blanks [] b refl))
      by (inr named) = inr (source, written_source blanks source b named.0, named.1)
