-- Pieces that are read one after the other.
use Rattle.std.proofs.Common.{◌≡◌, ℕ, List, [], ◌∷◌, ◌++◌, decimal, ap, ◌∙◌}
use Rattle.std.specs.Prelude.{codes}
use Rattle.std.proofs.lemmas.List.{flat_map_more}
use Rattle.case_tables.specs.CaseTexts.{Plain, Repeated, Counted, piece_text, piece_bytes, bytes_text, ReadsPieces, ReadsPiece}
use Rattle.case_tables.proofs.Texts.{joined_by, text_more}

pub one_piece_more : (old rest new before into after : List ℕ) → ReadsPieces old rest before into → ReadsPiece rest new into after → ReadsPieces old new before after
one_piece_more old rest new before into after r p = record {
  pieces = r.pieces ++ p.piece ∷ [];
  text = text_more piece_text r.pieces p.piece old rest new r.text p.text;
  bytes = p.bytes ∙ ap (λ l. l ++ piece_bytes p.piece) r.bytes ∙ flat_map_more piece_bytes before r.pieces p.piece;
}

pub plain_read : (bytes old rest new into after : List ℕ) → old ≡ codes "text " ++ rest → rest ≡ bytes_text bytes ++ new → after ≡ into ++ bytes → ReadsPiece old new into after
plain_read bytes old rest new into after e f g = record { piece = Plain bytes; text = e ∙ ap (λ l. codes "text " ++ l) f; bytes = g }

pub repeated_read : (times : ℕ) (bytes old rest others new into after : List ℕ) → old ≡ codes "repeat " ++ rest → rest ≡ decimal times ++ 32 ∷ others → others ≡ bytes_text bytes ++ new
    → after ≡ into ++ piece_bytes (Repeated times bytes) → ReadsPiece old new into after
repeated_read times bytes old rest others new into after e f g h = record {
  piece = Repeated times bytes;
  text = e ∙ ap (λ l. codes "repeat " ++ l) (joined_by 32 rest (decimal times) others (bytes_text bytes) new f g);
  bytes = h;
}

pub counted_read : (from before : ℕ) (bytes old rest others more new into after : List ℕ) → old ≡ codes "count " ++ rest → rest ≡ decimal from ++ 32 ∷ others → others ≡ decimal before ++ 32 ∷ more
    → more ≡ bytes_text bytes ++ new → after ≡ into ++ piece_bytes (Counted from before bytes) → ReadsPiece old new into after
counted_read from before bytes old rest others more new into after e f g h i = record {
  piece = Counted from before bytes;
  text = e ∙ ap (λ l. codes "count " ++ l)
      (joined_by 32 rest (decimal from) others (decimal before ++ 32 ∷ bytes_text bytes) new f (joined_by 32 others (decimal before) more (bytes_text bytes) new g h));
  bytes = i;
}
