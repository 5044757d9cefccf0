-- The canonical text of a method's pattern is read as that pattern.
use Rattle.std.proofs.Common.{◌≡◌, ℕ, true, List, [], ◌∷◌, ◌++◌, arith, refl, ap, sym, ◌∙◌, append_assoc}
use Rattle.std.specs.Prelude.{codes}
use Rattle.std.proofs.lemmas.List.{append-nil}
use Rattle.tree_model.specs.Tree.{Notes}
use Rattle.text_model.specs.Pieces.{pieces_joined, pieces_in_turn}
use Rattle.text_model.specs.Expressions.{message_text}
use Rattle.text_model.specs.Whole.{pattern_text}
use Rattle.grammar_model.specs.Terminal.{Text}
use Rattle.grammar_model.specs.Input.{Input, from_of, next}
use Rattle.grammar_model.specs.Spanned.{Declared, names_of}
use Rattle.grammar_model.specs.Ahead.{Longest, Any}
use Rattle.grammar_model.specs.Whole.{PatternParts, LastPatternPart, FurtherPatternPart, Pattern, UnaryPattern, BinaryPattern, KeywordPattern}
use Rattle.reread_law.specs.WellFormed.{IsKeywordText}
use Rattle.reread_law.specs.WholeTrees.{AreNamed, LastName, MoreNames, IsPattern, ByName, ByOperator, ByKeywords}
use Rattle.reread_law.proofs.Sound.{Sound, sound_kind, sound_next}
use Rattle.reread_law.proofs.Bytes.{ends, ends_all}
use Rattle.reread_law.proofs.Steps.{World, Here, Fresh, blank_step, held_as, text_as}
use Rattle.reread_law.proofs.ReadsLiterals.{step_name, step_keyword, step_operator}
use Rattle.reread_law.proofs.Selectors.{word_colon, operator_colon, one_piece, word_some, operator_some, keyword_piece, keyword_alone, last_text, before_text}

-- what the grammar spells is good
made_PatternParts : {i j : Input} {s : Text} {ds : List Declared} → PatternParts Longest i s ds j → Sound i → AreNamed s (names_of ds) × Sound j
made_PatternParts (LastPatternPart e f g) s = (LastName (sound_kind s e) (sound_kind (sound_next s) f).0, sound_next (sound_next s))
made_PatternParts (FurtherPatternPart e f r) s =
    let g = made_PatternParts r (sound_next (sound_next s)) in (MoreNames (sound_kind s e) (sound_kind (sound_next s) f).0 g.0, g.1)

-- so is a pattern
pub made_Pattern : {i j : Input} {s : Text} {ds : List Declared} → Pattern Longest i s ds j → Sound i → IsPattern s (names_of ds) × Sound j
made_Pattern (UnaryPattern e) s = (ByName (sound_kind s e).0, sound_next s)
made_Pattern (BinaryPattern e f) s = (ByOperator (sound_kind s e).0 (sound_kind (sound_next s) f).0, sound_next (sound_next s))
made_Pattern (KeywordPattern d) s = let g = made_PatternParts d s in (ByKeywords g.0, g.1)

-- the text of the last keyword and its argument
last_pattern : (k n : Text) → IsKeywordText k → pattern_text k (n ∷ []) ≡ k ++ 32 ∷ n
last_pattern k n h = ap (λ ps. pieces_joined (codes " ") (pieces_in_turn ps (n ∷ []))) (keyword_alone k h) ∙ ap (λ y. k ++ y) (append-nil (32 ∷ n))

-- the text of a keyword and its argument before others
before_pattern : (k s n : Text) (ns : List Text) → IsKeywordText k → pattern_text (k ++ s) (n ∷ ns) ≡ k ++ 32 ∷ (n ++ message_text s ns)
before_pattern k s n ns h = ap (λ ps. pieces_joined (codes " ") (pieces_in_turn ps (n ∷ ns))) (keyword_piece k s h)

-- keywords in a message are those of a pattern behind a blank
row_pattern : (s : Text) (ns : List Text) → AreNamed s ns → message_text s ns ≡ 32 ∷ pattern_text s ns
row_pattern s ns (LastName {n} h g) = last_text s n h ∙ ap (λ y. 32 ∷ y) (sym (last_pattern s n h))
row_pattern s ns (MoreNames {k} {s = r} {n} {ns = ms} h g d) = before_text k r n ms h ∙ ap (λ y. 32 ∷ y) (sym (before_pattern k r n ms h))

-- keywords of a pattern were read
record RowRead (w : World) (n : ℕ) (i : Input) (h : Notes) (s : Text) (ns : List Text) (q : Text) : Type 0 where
  names : List Declared
  stop : Input
  read : PatternParts Any i s names stop
  plain : names_of names ≡ ns
  held : stop.held ≡ h
  fresh : Fresh w n stop q

-- keywords of a pattern
reads_pattern_row : (s : Text) (ns : List Text) → AreNamed s ns → (w : World) (n : ℕ) (i : Input) (h : Notes) (q : Text) → ends q ≡ true → Here w n i h (pattern_text s ns ++ q) → RowRead w n i h s ns q
reads_pattern_row s ns (LastName {n = x} g f) w n i h q e a =
    let b = text_as _ (s ++ 32 ∷ (x ++ q)) (ap (λ y. y ++ q) (last_pattern s x g) ∙ append_assoc s (32 ∷ x) q) a in
    let y = step_keyword s (32 ∷ (x ++ q)) g (λ f. omega arith) b in
    let z = step_name x q f (ends_all q e) (blank_step 32 (x ++ q) refl (held_as y.1.held y.1.fresh.here)) in
    record { names = record { name = x; from = from_of (next i) } ∷ []; stop = next (next i); read = LastPatternPart y.1.kind z.1.kind tt; plain = refl; held = z.1.held; fresh = z.1.fresh }
reads_pattern_row s ns (MoreNames {k} {s = r} {n = x} {ns = ms} g f d) w n i h q e a =
    let m = pattern_text r ms in
    let text : pattern_text (k ++ r) (x ∷ ms) ++ q ≡ k ++ 32 ∷ ((x ++ 32 ∷ m) ++ q) = ap (λ y. y ++ q) (before_pattern k r x ms g ∙ ap (λ y. k ++ 32 ∷ (x ++ y)) (row_pattern r ms d)) ∙ append_assoc k (32 ∷ (x ++ 32 ∷ m)) q in
    let y = step_keyword k (32 ∷ ((x ++ 32 ∷ m) ++ q)) g (λ f. omega arith) (text_as _ (k ++ 32 ∷ ((x ++ 32 ∷ m) ++ q)) text a) in
    let c = text_as ((x ++ 32 ∷ m) ++ q) (x ++ 32 ∷ (m ++ q)) (append_assoc x (32 ∷ m) q) (blank_step 32 ((x ++ 32 ∷ m) ++ q) refl (held_as y.1.held y.1.fresh.here)) in
    let z = step_name x (32 ∷ (m ++ q)) f (ends_all (32 ∷ (m ++ q)) refl) c in
    let v = reads_pattern_row r ms d w n (next (next i)) h q e (blank_step 32 (m ++ q) refl (held_as z.1.held z.1.fresh.here)) in
    record { names = record { name = x; from = from_of (next i) } ∷ v.names; stop = v.stop; read = FurtherPatternPart {ds = v.names} y.1.kind z.1.kind v.read; plain = ap (λ ns. x ∷ ns) v.plain; held = v.held; fresh = v.fresh }

-- a pattern was read
pub record PatternRead (w : World) (n : ℕ) (i : Input) (h : Notes) (s : Text) (ns : List Text) (q : Text) : Type 0 where
  pub names : List Declared
  pub stop : Input
  pub read : Pattern Any i s names stop
  pub plain : names_of names ≡ ns
  pub held : stop.held ≡ h
  pub fresh : Fresh w n stop q

-- a pattern
pub reads_pattern : (s : Text) (ns : List Text) → IsPattern s ns → (w : World) (n : ℕ) (i : Input) (h : Notes) (q : Text) → ends q ≡ true → Here w n i h (pattern_text s ns ++ q) → PatternRead w n i h s ns q
reads_pattern s ns (ByName g) w n i h q e a =
    let text : pattern_text s [] ≡ s = ap (λ ps. pieces_joined (codes " ") (pieces_in_turn ps [])) (one_piece s (word_some s g) (word_colon s g)) ∙ append-nil s in
    let z = step_name s q g (ends_all q e) (text_as _ (s ++ q) (ap (λ y. y ++ q) text) a) in
    record { names = []; stop = next i; read = UnaryPattern z.1.kind; plain = refl; held = z.1.held; fresh = z.1.fresh }
reads_pattern s ns (ByOperator {n = x} g f) w n i h q e a =
    let text : pattern_text s (x ∷ []) ≡ s ++ 32 ∷ x = ap (λ ps. pieces_joined (codes " ") (pieces_in_turn ps (x ∷ []))) (one_piece s (operator_some s g) (operator_colon s g)) ∙ ap (λ y. s ++ y) (append-nil (32 ∷ x)) in
    let y = step_operator s (x ++ q) g (text_as _ (s ++ 32 ∷ (x ++ q)) (ap (λ y. y ++ q) text ∙ append_assoc s (32 ∷ x) q) a) in
    let z = step_name x q f (ends_all q e) (blank_step 32 (x ++ q) refl (held_as y.1.held y.1.fresh.here)) in
    record { names = record { name = x; from = from_of (next i) } ∷ []; stop = next (next i); read = BinaryPattern y.1.kind z.1.kind; plain = refl; held = z.1.held; fresh = z.1.fresh }
reads_pattern s ns (ByKeywords d) w n i h q e a =
    let z = reads_pattern_row s ns d w n i h q e a in
    record { names = z.names; stop = z.stop; read = KeywordPattern z.read; plain = z.plain; held = z.held; fresh = z.fresh }
