-- The selector of a method is written as a symbol without quotes.
use Rattle.std.proofs.Common.{◌≡◌, Bool, true, false, ◌||◌, List, [], ◌∷◌, ◌++◌, refl, ap, sym, subst, ◌∙◌}
use Rattle.std.specs.List.{list_all}
use Rattle.std.proofs.lemmas.Bool.{and_parts, and_from, or_right, false≢true}
use Rattle.token_model.specs.Bytes.{is_letter, is_word}
use Rattle.token_model.specs.declared.kind.Dialect.TheVariants.{Second}
use Rattle.tree_model.specs.Tree.{MethodOf}
use Rattle.text_model.specs.Pieces.{keywords_of}
use Rattle.text_model.specs.Literals.{is_identifier, ends_as_keyword, is_keyword, is_keyword_row, is_operator, is_selector}
use Rattle.grammar_model.specs.Spelling.{SpellsMethod}
use Rattle.reread_law.specs.WellFormed.{IsWord, IsKeywordText}
use Rattle.reread_law.specs.WholeTrees.{AreNamed, LastName, MoreNames, IsPattern, ByName, ByOperator, ByKeywords}
use Rattle.reread_law.proofs.Methods.{well_formed_method}
use Rattle.reread_law.proofs.Selectors.{keyword_piece, keyword_alone}
use Rattle.file_model.specs.Filing.{Text}
use Rattle.change_file_laws.proofs.Names.{word_selects}

-- letters and digits, then a colon
ends : (w : Text) → list_all is_word w ≡ true → ends_as_keyword (w ++ 58 ∷ []) ≡ true
ends [] h = refl
ends (b ∷ []) h = and_from (is_word b) true (and_parts (is_word b) true h).0 refl
ends (b ∷ c ∷ w) h = let p = and_parts (is_word b) (list_all is_word (c ∷ w)) h in and_from (is_word b) (ends_as_keyword (c ∷ w ++ 58 ∷ [])) p.0 (ends (c ∷ w) p.1)

-- an identifier and a colon
named_keyword : (n : Text) → IsWord n → is_keyword (n ++ 58 ∷ []) ≡ true
named_keyword [] h = absurd (false≢true h)
named_keyword (b ∷ w) h = let p = and_parts (is_letter b) (list_all is_word w) h in and_from (is_letter b) (ends_as_keyword (w ++ 58 ∷ [])) p.0 (ends w p.1)

keyword_is : (k : Text) → IsKeywordText k → is_keyword k ≡ true
keyword_is k h = ap is_keyword h.is ∙ named_keyword h.name h.word

-- keywords in a row
all_keywords : (s : Text) (ns : List Text) → AreNamed s ns → list_all is_keyword (keywords_of s) ≡ true
all_keywords s ns (LastName h g) = ap (list_all is_keyword) (keyword_alone s h) ∙ and_from (is_keyword s) true (keyword_is s h) refl
all_keywords s ns (MoreNames {k} {s = r} {ns = ms} h g d) = ap (list_all is_keyword) (keyword_piece k r h) ∙ and_from (is_keyword k) (list_all is_keyword (keywords_of r)) (keyword_is k h) (all_keywords r ms d)

-- which are not empty
not_empty_row : (s : Text) (ns : List Text) → AreNamed s ns → list_all is_keyword (keywords_of s) ≡ true → is_keyword_row s ≡ true
not_empty_row [] ns d h = absurd (none ns d)
  where
    no_keyword : (k r : Text) → IsKeywordText k → k ++ r ≡ [] → ⊥
    no_keyword [] r g e = false≢true (keyword_is [] g)
    no_keyword (b ∷ k) r g e = cc

    none : (ms : List Text) → AreNamed [] ms → ⊥
    none ms d = at [] ms d refl
      where
        at : (t : Text) (ls : List Text) → AreNamed t ls → t ≡ [] → ⊥
        at t ls (LastName g f) e = no_keyword t [] g (subst (λ (x : Text). x ++ [] ≡ []) (sym e) refl)
        at t ls (MoreNames {k} {s = r} g f q) e = no_keyword k r g e
not_empty_row (b ∷ s) ns d h = h

-- the selector of a pattern
pattern_selects : (s : Text) (ns : List Text) → IsPattern s ns → is_selector s ≡ true
pattern_selects s ns (ByName h) = word_selects s h
pattern_selects s ns (ByOperator h g) = or_right (is_identifier s || is_keyword_row s) (is_operator s) h
pattern_selects s ns (ByKeywords d) = by (is_identifier s) (not_empty_row s ns d (all_keywords s ns d))
  where
    by : (b : Bool) → is_keyword_row s ≡ true → (b || is_keyword_row s || is_operator s) ≡ true
    by true h = refl
    by false h = ap (λ (c : Bool). c || is_operator s) h

-- the selector of a method
pub method_selects : (source : Text) (m : MethodOf Text) → SpellsMethod Second false source m → is_selector m.selector ≡ true
method_selects source m spells = pattern_selects m.selector m.arguments (well_formed_method false source m spells).pattern
