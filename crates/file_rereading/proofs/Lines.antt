-- The chunks of an image that are one line spell their trees: they are canonical texts.
use Rattle.std.proofs.Common.{◌≡◌, Bool, true, false, [], ◌++◌, refl, ap, sym, subst, ◌∙◌, arith, append-nil, append_assoc}
use Rattle.std.specs.Prelude.{codes, if◌then◌else◌}
use Rattle.token_model.specs.declared.kind.Dialect.TheVariants.{Second}
use Rattle.tree_model.specs.Tree.{TreeOf, var, send, no_trees}
use Rattle.text_model.specs.Pieces.{pieces_joined}
use Rattle.text_model.specs.Literals.{quoted_text}
use Rattle.text_model.specs.Expressions.{expression_text}
use Rattle.text_model.specs.Whole.{canonical_doit}
use Rattle.grammar_model.specs.Spelling.{SpellsDoIt}
use Rattle.reread_law.specs.WellFormed.{IsWord, IsKeywordText, LastOne, FitsNone, FitsParts}
use Rattle.reread_law.specs.WholeTrees.{WellFormedDoIt}
use Rattle.reread_law.proofs.Starting.{doit_again}
use Rattle.image_model.specs.Image.{ClassOf}
use Rattle.file_model.specs.Changes.{RunOf}
use Rattle.file_model.specs.Filing.{Text}
use Rattle.file_model.specs.Written.{class_side_text, comment_text}
use Rattle.file_rereading.specs.Trees.{statement, argument, string_tree, names_tree, class_side_tree, comment_tree, opening_tree, opening_text}

-- the canonical text of one statement
canonical_statement : (t : TreeOf Text) → canonical_doit (statement t) ≡ expression_text 0 t
canonical_statement t = append-nil (expression_text 0 t ++ []) ∙ append-nil (expression_text 0 t)

-- what a statement alone spells
spelled_as : (t : TreeOf Text) (s : Text) → WellFormedDoIt (statement t) → expression_text 0 t ≡ s → SpellsDoIt Second s (statement t)
spelled_as t s g e = subst (λ (x : Text). SpellsDoIt Second x (statement t)) (canonical_statement t ∙ e) (doit_again (statement t) g)

comment_keyword : IsKeywordText (codes "comment:")
comment_keyword = record { name = codes "comment"; is = refl; word = refl }

methods_keyword : IsKeywordText (codes "methodsFor:")
methods_keyword = record { name = codes "methodsFor"; is = refl; word = refl }

pub variables_keyword : IsKeywordText (codes "instanceVariableNames:")
variables_keyword = record { name = codes "instanceVariableNames"; is = refl; word = refl }

-- a message with a string to a name is well formed
well_formed : (n k s : Text) → IsWord n → IsKeywordText k → WellFormedDoIt (statement (send (var n) k (argument (string_tree s))))
well_formed n k s word key = record {
  words = tt;
  statements = (tt, (word, tt, FitsParts (LastOne key), ((tt, tt), tt, tt)), tt, tt);
  notes = tt;
  height = omega arith;
  once = refl;
  once_inside = refl;
  assigned = refl;
}

-- so is one to the class side of a name
well_formed_side : (n k s : Text) → IsWord n → IsKeywordText k → WellFormedDoIt (statement (send (send (var n) (codes "class") no_trees) k (argument (string_tree s))))
well_formed_side n k s word key = record {
  words = tt;
  statements = (tt, ((word, tt, FitsNone refl, tt), tt, FitsParts (LastOne key), ((tt, tt), tt, tt)), tt, tt);
  notes = tt;
  height = omega arith;
  once = refl;
  once_inside = refl;
  assigned = refl;
}

-- the class-instance variables of a class
pub spells_class_side : (c : ClassOf Text) → IsWord c.name → SpellsDoIt Second (class_side_text c) (class_side_tree c)
spells_class_side c word =
    let names = pieces_joined (codes " ") c.class_side in
    spelled_as (send (send (var c.name) (codes "class") no_trees) (codes "instanceVariableNames:") (argument (names_tree c.class_side))) (class_side_text c)
    (well_formed_side c.name (codes "instanceVariableNames:") names word variables_keyword)
    (append_assoc c.name (codes " class") (codes " instanceVariableNames: " ++ (quoted_text names ++ [])) ∙ ap (λ (x : Text). c.name ++ (codes " class instanceVariableNames: " ++ x)) (append-nil (quoted_text names)) ∙ sym (append_assoc c.name (codes " class instanceVariableNames: ") (quoted_text names)))

-- the comment of a class
pub spells_comment : (c : ClassOf Text) → IsWord c.name → SpellsDoIt Second (comment_text c) (comment_tree c)
spells_comment c word =
    spelled_as (send (var c.name) (codes "comment:") (argument (string_tree c.comment))) (comment_text c)
    (well_formed c.name (codes "comment:") c.comment word comment_keyword)
    (ap (λ (x : Text). c.name ++ (codes " comment: " ++ x)) (append-nil (quoted_text c.comment)) ∙ sym (append_assoc c.name (codes " comment: ") (quoted_text c.comment)))

-- the opening of a run
pub spells_opening : (r : RunOf Text) → IsWord r.class → SpellsDoIt Second (opening_text r) (opening_tree r)
spells_opening r word = by r.meta
  where
    quoted : Text
    quoted = quoted_text r.protocol

    by : (meta : Bool) → SpellsDoIt Second ((r.class ++ (if meta then codes " class" else [])) ++ codes " methodsFor: " ++ quoted) (statement (send (if meta then send (var r.class) (codes "class") no_trees else var r.class) (codes "methodsFor:") (argument (string_tree r.protocol))))
    by true =
        spelled_as (send (send (var r.class) (codes "class") no_trees) (codes "methodsFor:") (argument (string_tree r.protocol))) ((r.class ++ codes " class") ++ codes " methodsFor: " ++ quoted)
        (well_formed_side r.class (codes "methodsFor:") r.protocol word methods_keyword)
        (ap (λ (x : Text). (r.class ++ codes " class") ++ (codes " methodsFor: " ++ x)) (append-nil quoted) ∙ sym (append_assoc (r.class ++ codes " class") (codes " methodsFor: ") quoted))
    by false =
        spelled_as (send (var r.class) (codes "methodsFor:") (argument (string_tree r.protocol))) ((r.class ++ []) ++ codes " methodsFor: " ++ quoted)
        (well_formed r.class (codes "methodsFor:") r.protocol word methods_keyword)
        (ap (λ (x : Text). r.class ++ (codes " methodsFor: " ++ x)) (append-nil quoted) ∙ ap (λ (x : Text). x ++ (codes " methodsFor: " ++ quoted)) (sym (append-nil r.class)) ∙ sym (append_assoc (r.class ++ []) (codes " methodsFor: ") quoted))
