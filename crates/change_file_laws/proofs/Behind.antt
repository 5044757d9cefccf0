-- Text behind a text that was read.
use Rattle.std.proofs.Common.{◌≡◌, Bool, List, [], ◌∷◌, ◌++◌, Option, None, Ok, refl, ap, subst, ◌∙◌, append_assoc}
use Rattle.std.specs.Prelude.{Result}
use Rattle.rb_base.specs.Doubling.{BeginsOtherwise}
use Rattle.token_model.specs.declared.kind.Dialect.{Dialect}
use Rattle.chunk_format.specs.Blank.{IsBlank}
use Rattle.chunk_format.specs.Left.{Left, start_of}
use Rattle.chunk_format.specs.Chunks.{Piece, Takes, HasChunks, First, Over as NoChunk, Refused as CutOff}
use Rattle.chunk_format.specs.declared.chunk_iter.Unended.{Unended}
use Rattle.file_model.specs.Causes.{Refusal}
use Rattle.file_model.specs.Filing.{Text, Filing}
use Rattle.file_model.specs.Reading.{TakesAll, Over, Cut, Taken, Refused}
use Rattle.change_file_laws.specs.Behind.{GoesOn}

-- what is left, with more text behind it
abbrev with_more : Left → Text → Left
with_more left more = record left { rest = left.rest ++ more }

-- more text begins no mark behind a text that does not
otherwise_more : (behind more : Text) → BeginsOtherwise 33 behind → BeginsOtherwise 33 more → BeginsOtherwise 33 (behind ++ more)
otherwise_more [] more h g = g
otherwise_more (b ∷ behind) more h g = h

-- a chunk is the same with more text behind
takes_more : (old new : Left) (p : Piece) (more : Text) → BeginsOtherwise 33 more → Takes old p new → Takes (with_more old more) p (with_more new more)
takes_more old new p more other t = record {
  number = t.number;
  at = t.at;
  cut = record {
    whole = ap (λ (s : Text). s ++ more) t.cut.whole ∙ append_assoc p.body (33 ∷ new.rest) more;
    paired = t.cut.paired;
    other = otherwise_more new.rest more t.cut.other other;
  };
  doubled = t.doubled;
  after = ap (λ (n : Left). record n { rest = new.rest ++ more }) t.after;
}

-- where the chunks end, the text goes on
record Further (left : Left) (more : Text) (pieces : List Piece) : Type 0 where
  last : Left
  blanks : Text
  blank : IsBlank blanks
  rest : last.rest ≡ blanks ++ more
  chunks : (further : List Piece) (end : Option Unended) → HasChunks last further end → HasChunks (with_more left more) (pieces ++ further) end

further : (left : Left) (more : Text) (pieces : List Piece) (end : Option Unended) → BeginsOtherwise 33 more → HasChunks left pieces end → end ≡ None → Further left more pieces
further left more pieces end other (First {new} {p} {ps} t h) e =
    let f = further new more ps end other h e in
    record { last = f.last; blanks = f.blanks; blank = f.blank; rest = f.rest; chunks = λ qs last g. First (takes_more left new p more other t) (f.chunks qs last g) }
further left more pieces end other (NoChunk over) e = record { last = with_more left more; blanks = left.rest; blank = over.1; rest = refl; chunks = λ qs last g. g }
further left more pieces end other (CutOff {e = x} fault) e = absurd (cc)

-- behind a text whose chunks all end
pub goes_on_behind : (text more : Text) (pieces : List Piece) → BeginsOtherwise 33 more → HasChunks (start_of text) pieces None → GoesOn text more pieces
goes_on_behind text more pieces other h =
    let f = further (start_of text) more pieces None other h refl in record { last = f.last; blanks = f.blanks; blank = f.blank; rest = f.rest; chunks = f.chunks }

module _ (d : Dialect) (kernel : Bool) where
  -- a text that is read to its end has chunks that all end
  pub all_end : (f g : Filing) (pieces : List Piece) (end : Option Unended) (r : Result Filing Refusal) → TakesAll d kernel f pieces end r → r ≡ Ok g → end ≡ None
  all_end f g pieces end r Over e = refl
  all_end f g pieces end r (Cut {e = x}) e = absurd (cc)
  all_end f g pieces end r (Taken {g = h} {ps} t rest) e = all_end h g ps end r rest e
  all_end f g pieces end r (Refused t) e = absurd (cc)

  -- chunks behind chunks
  pub takes_further : (f g h : Filing) (pieces more : List Piece) (end : Option Unended) (r : Result Filing Refusal) → TakesAll d kernel f pieces end r → r ≡ Ok g → TakesAll d kernel g more None (Ok h) → TakesAll d kernel f (pieces ++ more) None (Ok h)
  takes_further f g h pieces more end r Over e rest = let same : g ≡ f = cc in subst (λ (x : Filing). TakesAll d kernel x more None (Ok h)) same rest
  takes_further f g h pieces more end r (Cut {e = x}) e rest = absurd (cc)
  takes_further f g h pieces more end r (Taken {g = k} {ps} t s) e rest = Taken t (takes_further k g h ps more end r s e rest)
  takes_further f g h pieces more end r (Refused t) e rest = absurd (cc)
