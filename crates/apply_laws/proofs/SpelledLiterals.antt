-- A literal that a line of `addParameter` passes is one that some text spells.
use Rattle.std.proofs.Common.{◌≡◌, ◌≤◌, Bool, true, false, if◌then◌else◌, [], Some, None, refl, sym, ap, subst}
use Rattle.std.specs.Prelude.{max, ◌||◌}
use Rattle.token_model.specs.declared.kind.Dialect.TheVariants.{Second}
use Rattle.tree_model.specs.Tree.{LiteralOf, number, str, symbol, char, array, bytes, word, TreeOf, var, literal, send, cascade, assign, block, brace, return, StatementsOf, no_statements, more_statements, SequenceOf}
use Rattle.tree_model.specs.Measure.{height}
use Rattle.grammar_model.specs.Words.{is_literal_word}
use Rattle.grammar_model.specs.Spanned.{SpannedSequence, plain_sequence, plain_statements}
use Rattle.grammar_model.specs.Spelling.{SpellsDoItAt, SpellsDoIt}
use Rattle.text_model.specs.Whole.{canonical_doit}
use Rattle.reread_law.specs.WellFormed.{NoWord, WellFormed, IsStatement}
use Rattle.reread_law.specs.Declarations.{has_duplicate, assigns_fixed}
use Rattle.reread_law.specs.WholeTrees.{WellFormedDoIt}
use Rattle.reread_law.proofs.Starting.{well_formed_doit, doit_again}
use Rattle.command_model.specs.Plain.{literal_node}
use Rattle.command_model.specs.Spelled.{literal_alone}
use Rattle.script_model.specs.Makers.{Text}
use Rattle.script_model.specs.Parameters.{literal_of, only_literal, stands_alone, literal_in}

-- a literal outside arrays is its own node
own-node : (l : LiteralOf Text) → NoWord l → literal_node l ≡ literal l
own-node (number t) plain = refl
own-node (str t) plain = refl
own-node (symbol t) plain = refl
own-node (char b) plain = refl
own-node (array ls) plain = refl
own-node (bytes ls) plain = refl
own-node (word n) plain = absurd plain

-- a well-formed node that is a literal, as a do-it alone
record IsAlone (t : TreeOf Text) : Type 0 where
  well : WellFormed t
  statement : IsStatement t no_statements
  low : max (height t) 0 ≤ 200
  once : has_duplicate t ≡ false
  assigned : assigns_fixed [] t ≡ false

alone-doit : (l : LiteralOf Text) (t : TreeOf Text) → t ≡ literal_node l → IsAlone t → WellFormedDoIt (literal_alone l)
alone-doit l t is alone =
    let a = subst IsAlone is alone in
    record {
      words = tt;
      statements = (tt, a.well, a.statement, tt);
      notes = tt;
      height = a.low;
      once = refl;
      once_inside = ap (λ (b : Bool). b || false) a.once;
      assigned = ap (λ (b : Bool). b || false) a.assigned;
    }

-- the node that is a literal
node-alone : (t : TreeOf Text) (l : LiteralOf Text) → literal_of t ≡ Some l → WellFormed t → IsStatement t no_statements → max (height t) 0 ≤ 200 → WellFormedDoIt (literal_alone l)
node-alone (literal m) l e well statement low =
    let same : m ≡ l = cc in
    subst (λ (k : LiteralOf Text). WellFormedDoIt (literal_alone k)) same
    (alone-doit m (literal m) (sym (own-node m well.1)) (record { well = well; statement = statement; low = low; once = refl; assigned = refl }))
node-alone (var n) l e well statement low = by (is_literal_word n) e
  where
    by : (b : Bool) → (if b then Some (word n) else None) ≡ Some l → WellFormedDoIt (literal_alone l)
    by true some =
        let same : word n ≡ l = cc in
        subst (λ (k : LiteralOf Text). WellFormedDoIt (literal_alone k)) same
        (alone-doit (word n) (var n) refl (record { well = well; statement = statement; low = low; once = refl; assigned = refl }))
    by false some = absurd (cc)
node-alone (send r s xs) l e well statement low = absurd (cc)
node-alone (cascade r ms) l e well statement low = absurd (cc)
node-alone (assign n t) l e well statement low = absurd (cc)
node-alone (block ps ds ss c) l e well statement low = absurd (cc)
node-alone (brace ts) l e well statement low = absurd (cc)
node-alone (return t) l e well statement low = absurd (cc)

-- the only statement of a do-it
only-alone : (s : SequenceOf Text) (ss : StatementsOf Text) (l : LiteralOf Text) → ss ≡ s.statements → only_literal ss ≡ Some l → WellFormedDoIt s → WellFormedDoIt (literal_alone l)
only-alone s no_statements l is e well = absurd (cc)
only-alone s (more_statements c t no_statements) l is e well =
    let w = subst (λ (us : StatementsOf Text). WellFormedDoIt (record s { statements = us })) (sym is) well in
    node-alone t l e w.statements.1 w.statements.2 w.height
only-alone s (more_statements c t (more_statements d u ss)) l is e well = absurd (cc)

-- what a line passes
pub literal-spelled : (t : Text) (tree : SpannedSequence) (l : LiteralOf Text) → SpellsDoItAt Second t tree → literal_in t tree ≡ Some l → (text : Text) × SpellsDoIt Second text (literal_alone l)
literal-spelled t tree l spells is =
    let well = well_formed_doit t (plain_sequence tree) (record { spanned = tree; spells = spells; same = refl }) in
    (canonical_doit (literal_alone l), doit_again (literal_alone l) (by (stands_alone t tree) is (λ e. only-alone (plain_sequence tree) (plain_statements tree.statements) l refl e well)))
  where
    by : (b : Bool) → (if b then only_literal (plain_statements tree.statements) else None) ≡ Some l → (only_literal (plain_statements tree.statements) ≡ Some l → WellFormedDoIt (literal_alone l)) → WellFormedDoIt (literal_alone l)
    by true e go = go e
    by false e go = absurd (cc)
