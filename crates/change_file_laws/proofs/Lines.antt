-- The chunks of a change file that are one line spell their trees: they are canonical texts.
use Rattle.std.proofs.Common.{◌≡◌, Bool, true, false, [], ◌∷◌, ◌++◌, refl, ap, sym, subst, ◌∙◌, arith, append-nil, append_assoc}
use Rattle.std.specs.Prelude.{codes, if◌then◌else◌}
use Rattle.token_model.specs.declared.kind.Dialect.TheVariants.{Second}
use Rattle.tree_model.specs.Tree.{symbol, TreeOf, send, no_trees, more_trees}
use Rattle.text_model.specs.Literals.{is_selector, quoted_text, literal_text}
use Rattle.text_model.specs.Expressions.{expression_text}
use Rattle.text_model.specs.Whole.{canonical_doit}
use Rattle.grammar_model.specs.Spelling.{SpellsDoIt}
use Rattle.reread_law.specs.WellFormed.{IsWord, IsKeywordText, IsUnsigned, Plain, LastOne, OneBefore, FitsNone, FitsParts}
use Rattle.reread_law.specs.WholeTrees.{WellFormedDoIt}
use Rattle.reread_law.proofs.Starting.{doit_again}
use Rattle.file_model.specs.Changes.{RunOf}
use Rattle.file_model.specs.Filing.{Text}
use Rattle.file_rereading.specs.Trees.{statement, argument, string_tree}
use Rattle.change_model.specs.Text.{symbol_text, owner_text}
use Rattle.change_file_laws.specs.Trees.{symbol_tree, numeral_tree, system_tree, owner_tree, removal_tree, class_removal_tree, settling_tree, replacement_tree, placed_opening_tree, placed_opening_text}

-- the canonical text of one statement
canonical_statement : (t : TreeOf Text) → canonical_doit (statement t) ≡ expression_text 0 t
canonical_statement t = append-nil (expression_text 0 t ++ []) ∙ append-nil (expression_text 0 t)

-- what a statement alone spells
spelled_as : (t : TreeOf Text) (s : Text) → WellFormedDoIt (statement t) → expression_text 0 t ≡ s → SpellsDoIt Second s (statement t)
spelled_as t s g e = subst (λ (x : Text). SpellsDoIt Second x (statement t)) (canonical_statement t ∙ e) (doit_again (statement t) g)

-- a symbol that is a selector is written without quotes
symbol_plain : (s : Text) → is_selector s ≡ true → literal_text (symbol s) ≡ symbol_text s
symbol_plain s h = ap (λ (b : Bool). 35 ∷ (if b then s else quoted_text s)) h

-- the keywords
removal_keyword : IsKeywordText (codes "removeSelector:")
removal_keyword = record { name = codes "removeSelector"; is = refl; word = refl }

class_removal_keyword : IsKeywordText (codes "removeClassNamed:")
class_removal_keyword = record { name = codes "removeClassNamed"; is = refl; word = refl }

replacement_keyword : IsKeywordText (codes "replaceDoIt:")
replacement_keyword = record { name = codes "replaceDoIt"; is = refl; word = refl }

with_keyword : IsKeywordText (codes "with:")
with_keyword = record { name = codes "with"; is = refl; word = refl }

methods_keyword : IsKeywordText (codes "methodsFor:")
methods_keyword = record { name = codes "methodsFor"; is = refl; word = refl }

pub place_keyword : IsKeywordText (codes "at:")
place_keyword = record { name = codes "at"; is = refl; word = refl }

-- the removal of a method
removal_good : (c : Text) (meta : Bool) (s : Text) → IsWord c → WellFormedDoIt (removal_tree c meta s)
removal_good c true s word = record {
  words = tt;
  statements = (tt, ((word, tt, FitsNone refl, tt), tt, FitsParts (LastOne removal_keyword), ((tt, tt), tt, tt)), tt, tt);
  notes = tt;
  height = omega arith;
  once = refl;
  once_inside = refl;
  assigned = refl;
}
removal_good c false s word = record {
  words = tt;
  statements = (tt, (word, tt, FitsParts (LastOne removal_keyword), ((tt, tt), tt, tt)), tt, tt);
  notes = tt;
  height = omega arith;
  once = refl;
  once_inside = refl;
  assigned = refl;
}

pub spells_removal : (c : Text) (meta : Bool) (s : Text) → IsWord c → is_selector s ≡ true → SpellsDoIt Second (owner_text c meta ++ codes " removeSelector: " ++ symbol_text s) (removal_tree c meta s)
spells_removal c true s word selects =
    spelled_as (send (owner_tree c true) (codes "removeSelector:") (argument (symbol_tree s))) ((c ++ codes " class") ++ codes " removeSelector: " ++ symbol_text s) (removal_good c true s word)
    (ap (λ (x : Text). (c ++ codes " class") ++ (codes " removeSelector: " ++ x)) (append-nil (literal_text (symbol s)) ∙ symbol_plain s selects) ∙ sym (append_assoc (c ++ codes " class") (codes " removeSelector: ") (symbol_text s)))
spells_removal c false s word selects =
    spelled_as (send (owner_tree c false) (codes "removeSelector:") (argument (symbol_tree s))) ((c ++ []) ++ codes " removeSelector: " ++ symbol_text s) (removal_good c false s word)
    (ap (λ (x : Text). c ++ (codes " removeSelector: " ++ x)) (append-nil (literal_text (symbol s)) ∙ symbol_plain s selects) ∙ ap (λ (x : Text). x ++ (codes " removeSelector: " ++ symbol_text s)) (sym (append-nil c)) ∙ sym (append_assoc (c ++ []) (codes " removeSelector: ") (symbol_text s)))

-- the removal of a class
pub spells_class_removal : (n : Text) → is_selector n ≡ true → SpellsDoIt Second (codes "Smalltalk removeClassNamed: " ++ symbol_text n) (class_removal_tree n)
spells_class_removal n selects =
    spelled_as (send system_tree (codes "removeClassNamed:") (argument (symbol_tree n))) (codes "Smalltalk removeClassNamed: " ++ symbol_text n)
    (record {
      words = tt;
      statements = (tt, (refl, tt, FitsParts (LastOne class_removal_keyword), ((tt, tt), tt, tt)), tt, tt);
      notes = tt;
      height = omega arith;
      once = refl;
      once_inside = refl;
      assigned = refl;
    })
    (ap (λ (x : Text). codes "Smalltalk removeClassNamed: " ++ x) (append-nil (literal_text (symbol n)) ∙ symbol_plain n selects))

-- places are settled
pub spells_settling : SpellsDoIt Second (codes "Smalltalk settlePlaces") settling_tree
spells_settling =
    spelled_as (send system_tree (codes "settlePlaces") no_trees) (codes "Smalltalk settlePlaces")
    (record {
      words = tt;
      statements = (tt, (refl, tt, FitsNone refl, tt), tt, tt);
      notes = tt;
      height = omega arith;
      once = refl;
      once_inside = refl;
      assigned = refl;
    })
    refl

-- the replacement of a do-it
pub spells_replacement : (numeral source : Text) → IsUnsigned numeral → SpellsDoIt Second (codes "Smalltalk replaceDoIt: " ++ numeral ++ codes " with: " ++ quoted_text source) (replacement_tree numeral source)
spells_replacement numeral source good =
    spelled_as (send system_tree (codes "replaceDoIt:with:") (more_trees (numeral_tree numeral) (argument (string_tree source)))) (codes "Smalltalk replaceDoIt: " ++ numeral ++ codes " with: " ++ quoted_text source)
    (record {
      words = tt;
      statements = (tt, (refl, tt, FitsParts (OneBefore {k = codes "replaceDoIt:"} {s = codes "with:"} replacement_keyword (LastOne with_keyword)), ((Plain good, tt), tt, ((tt, tt), tt, tt))), tt, tt);
      notes = tt;
      height = omega arith;
      once = refl;
      once_inside = refl;
      assigned = refl;
    })
    (ap (λ (x : Text). codes "Smalltalk replaceDoIt: " ++ (numeral ++ (codes " with: " ++ x))) (append-nil (quoted_text source))
    ∙ sym (append_assoc (codes "Smalltalk replaceDoIt: " ++ numeral) (codes " with: ") (quoted_text source) ∙ append_assoc (codes "Smalltalk replaceDoIt: ") numeral (codes " with: " ++ quoted_text source)))

-- the opening of a run that states a place
opening_good : (n : Text) (meta : Bool) (protocol numeral : Text) → IsWord n → IsUnsigned numeral → WellFormedDoIt (placed_opening_tree (record { class = n; meta = meta; protocol = protocol }) numeral)
opening_good n true protocol numeral word good = record {
  words = tt;
  statements = (tt, ((word, tt, FitsNone refl, tt), tt, FitsParts (OneBefore {k = codes "methodsFor:"} {s = codes "at:"} methods_keyword (LastOne place_keyword)), ((tt, tt), tt, ((Plain good, tt), tt, tt))), tt, tt);
  notes = tt;
  height = omega arith;
  once = refl;
  once_inside = refl;
  assigned = refl;
}
opening_good n false protocol numeral word good = record {
  words = tt;
  statements = (tt, (word, tt, FitsParts (OneBefore {k = codes "methodsFor:"} {s = codes "at:"} methods_keyword (LastOne place_keyword)), ((tt, tt), tt, ((Plain good, tt), tt, tt))), tt, tt);
  notes = tt;
  height = omega arith;
  once = refl;
  once_inside = refl;
  assigned = refl;
}

pub spells_placed_opening : (r : RunOf Text) (numeral : Text) → IsWord r.class → IsUnsigned numeral → SpellsDoIt Second (placed_opening_text r numeral) (placed_opening_tree r numeral)
spells_placed_opening r numeral word good = by r.class r.meta r.protocol word
  where
    whole : (side protocol : Text) → side ++ (codes " methodsFor: " ++ (quoted_text protocol ++ (codes " at: " ++ (numeral ++ [])))) ≡ side ++ codes " methodsFor: " ++ quoted_text protocol ++ codes " at: " ++ numeral
    whole side protocol =
        ap (λ (x : Text). side ++ (codes " methodsFor: " ++ (quoted_text protocol ++ (codes " at: " ++ x)))) (append-nil numeral)
        ∙ sym (append_assoc (side ++ codes " methodsFor: " ++ quoted_text protocol) (codes " at: ") numeral ∙ append_assoc (side ++ codes " methodsFor: ") (quoted_text protocol) (codes " at: " ++ numeral) ∙ append_assoc side (codes " methodsFor: ") (quoted_text protocol ++ (codes " at: " ++ numeral)))

    by : (n : Text) (meta : Bool) (protocol : Text) → IsWord n → SpellsDoIt Second (placed_opening_text (record { class = n; meta = meta; protocol = protocol }) numeral) (placed_opening_tree (record { class = n; meta = meta; protocol = protocol }) numeral)
    by n true protocol w =
        spelled_as (send (owner_tree n true) (codes "methodsFor:at:") (more_trees (string_tree protocol) (argument (numeral_tree numeral)))) (placed_opening_text (record { class = n; meta = true; protocol = protocol }) numeral)
        (opening_good n true protocol numeral w good) (whole (n ++ codes " class") protocol)
    by n false protocol w =
        spelled_as (send (owner_tree n false) (codes "methodsFor:at:") (more_trees (string_tree protocol) (argument (numeral_tree numeral)))) (placed_opening_text (record { class = n; meta = false; protocol = protocol }) numeral)
        (opening_good n false protocol numeral w good)
        (ap (λ (x : Text). x ++ (codes " methodsFor: " ++ (quoted_text protocol ++ (codes " at: " ++ (numeral ++ []))))) (sym (append-nil n)) ∙ whole (n ++ []) protocol)
