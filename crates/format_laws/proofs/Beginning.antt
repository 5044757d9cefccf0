-- The canonical text of a do-it that is not empty begins with no blank.
use Rattle.std.proofs.Common.{◌≡◌, ◌≢◌, List, [], ◌∷◌, ◌++◌, refl, ap}
use Rattle.tree_model.specs.Tree.{Notes, StatementsOf, no_statements, more_statements, SequenceOf}
use Rattle.text_model.specs.Whole.{canonical_doit}
use Rattle.reread_law.specs.WholeTrees.{WellFormedDoIt}
use Rattle.file_model.specs.Filing.{Text}
use Rattle.effect_laws.proofs.Blanks.{BeginsWell, note_begins, doit_begins}
use Rattle.format_laws.specs.Empty.{empty_code}

longer : (t u : Text) → BeginsWell t → BeginsWell (t ++ u)
longer t u b = record { first = b.first; rest = b.rest ++ u; is = ap (λ x. x ++ u) b.is; plain = b.plain }

some_begins : (ts : List Text) (ss : StatementsOf Text) (tail : Notes) → WellFormedDoIt (record { temporaries = ts; statements = ss; tail = tail }) →
    (record { temporaries = ts; statements = ss; tail = tail } ≡ empty_code → ⊥) → BeginsWell (canonical_doit (record { temporaries = ts; statements = ss; tail = tail }))
some_begins ts (more_statements c t ss) tail w some = doit_begins ts c t ss tail w
some_begins (n ∷ ts) no_statements tail w some = record { first = 124; rest = _; is = refl; plain = refl }
some_begins [] no_statements (c ∷ tail) w some = longer c _ (note_begins c w.notes.0)
some_begins [] no_statements [] w some = absurd (some refl)

pub doit_begins_well : (b : SequenceOf Text) → WellFormedDoIt b → b ≢ empty_code → BeginsWell (canonical_doit b)
doit_begins_well b w some = some_begins b.temporaries b.statements b.tail w some
