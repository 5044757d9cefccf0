-- The definition of a class with a place is read as what it is.
use Rattle.std.proofs.Common.{◌≡◌, ◌≤◌, Bool, true, [], ◌∷◌, ◌++◌, refl, ap, sym, subst, ◌∙◌, arith, append-nil, append_assoc}
use Rattle.std.specs.Prelude.{codes, unwrap_or, ◌||◌, if◌then◌else◌}
use Rattle.token_model.specs.declared.kind.Dialect.TheVariants.{Second}
use Rattle.tree_model.specs.Tree.{Notes, LiteralOf, number, str, symbol, TreeOf, var, literal, send, TreesOf, no_trees, more_trees, no_statements, more_statements}
use Rattle.tree_model.specs.Measure.{literal_height}
use Rattle.text_model.specs.Pieces.{pieces_joined}
use Rattle.text_model.specs.Literals.{is_keyword_row, is_operator, quoted_text, literal_text}
use Rattle.grammar_model.specs.Terminal.{KeywordKind, Keyword}
use Rattle.grammar_model.specs.Input.{Input, beginning, kind_of, from_of, next, clear}
use Rattle.grammar_model.specs.Ahead.{Any}
use Rattle.grammar_model.specs.Chain.{sent}
use Rattle.grammar_model.specs.Spanned.{SpannedTree, NoStatements, MoreStatements, MoreTrees, one_tree, plain_tree, SpannedSequence, plain_sequence}
use Rattle.grammar_model.specs.Grammar.{KeywordArgument, OneKeywords, LastPart, FurtherPart, Sequenced, DeclaresNone, OneStatement, Unended}
use Rattle.grammar_model.specs.Whole.{IsDoIt}
use Rattle.grammar_model.specs.Spelling.{SpellsDoIt}
use Rattle.grammar_model.proofs.Rows.{longest_IsDoIt}
use Rattle.reread_law.specs.WellFormed.{IsWord, IsKeywordText, IsUnsigned, Plain, AreParts, LastOne, OneBefore, FitsParts, WellFormedLiteral, NoWord}
use Rattle.reread_law.specs.WholeTrees.{WellFormedDoIt}
use Rattle.reread_law.proofs.Bytes.{ends}
use Rattle.reread_law.proofs.PlainFaults.{no_fault_DoIt}
use Rattle.reread_law.proofs.Steps.{World, Here, Fresh, blank_step, held_as, finish, fresh_clear}
use Rattle.reread_law.proofs.ReadsLiterals.{step_keyword}
use Rattle.reread_law.proofs.Operands.{KeywordRead, ExpressionRead, to_binary, to_expression, as_keyword_argument, sent_plain, sent_whole}
use Rattle.reread_law.proofs.Messages.{PartsRead}
use Rattle.reread_law.proofs.Starting.{begun}
use Rattle.reread_law.proofs.Trees.{can_read}
use Rattle.image_model.specs.Image.{ClassOf}
use Rattle.file_model.specs.Filing.{Text}
use Rattle.file_model.specs.Forms.{placed_definition_selector}
use Rattle.file_model.specs.Written.{definition_text, keyword_line, names_text}
use Rattle.file_rereading.specs.Trees.{statement, argument, string_tree}
use Rattle.change_file_laws.specs.Trees.{symbol_tree, numeral_tree, placed_definition_tree}
use Rattle.change_file_laws.proofs.Lines.{place_keyword}

-- one expression that is read as a tree is a do-it
spelled : (t : TreeOf Text) (s : Text) → WellFormedDoIt (statement t) → ((w : World) (i : Input) → Here w 0 i [] s → ExpressionRead w 0 i [] t []) → SpellsDoIt Second s (statement t)
spelled t s g reads =
    let b = begun s in
    let i = beginning b.world.tokens in
    let z = reads b.world i b.here in
    let f = finish (fresh_clear z.fresh).here in
    let u : SpannedSequence = record { temporaries = []; statements = MoreStatements z.stop.held (from_of i) z.tree NoStatements; tail = [] } in
    let same : plain_sequence u ≡ statement t = (λ j. record { temporaries = []; statements = more_statements (z.held j) (z.plain j) no_statements; tail = [] }) in
    let grammar : IsDoIt Any b.world.tokens u = record { stop = clear z.stop; sequence = Sequenced (DeclaresNone tt) (OneStatement z.expression (Unended tt)); over = f.over } in
    record {
      spanned = u;
      spells = record {
        tokens = b.world.tokens;
        lexed = b.lexed f.clean;
        shallow = f.shallow;
        grammar = longest_IsDoIt b.world.tokens u grammar;
        sound = no_fault_DoIt u (subst WellFormedDoIt (sym same) g);
      };
      same = sym same;
    }

-- a keyword and its argument were read
record PartRead (w : World) (i : Input) (h : Notes) (key : Text) (l : LiteralOf Text) (s : Text) : Type 0 where
  class : KeywordKind
  tree : SpannedTree
  stop : Input
  kind : kind_of i ≡ Keyword class key
  argument : KeywordArgument Any (next i) tree stop
  plain : plain_tree tree ≡ literal l
  held : stop.held ≡ h
  fresh : Fresh w 0 stop s

-- a keyword and a literal behind a blank
reads_part : (key : Text) (l : LiteralOf Text) → IsKeywordText key → WellFormedLiteral l → NoWord l → literal_height l ≤ 400 → (w : World) (i : Input) (h : Notes) (s : Text) → ends s ≡ true → Here w 0 i h (key ++ 32 ∷ (literal_text l ++ s)) → PartRead w i h key l s
reads_part key l g good plain low w i h s e a =
    let y = step_keyword key (32 ∷ (literal_text l ++ s)) g (λ f. omega arith) a in
    let c = blank_step 32 (literal_text l ++ s) refl (held_as y.1.held y.1.fresh.here) in
    let z = as_keyword_argument tt (to_binary ((can_read (literal l) (good, plain)).unary refl tt w 0 0 (next i) h s e (omega (arith, low)) c)) in
    record { class = y.0; tree = z.tree; stop = z.stop; kind = y.1.kind; argument = z.argument; plain = z.plain; held = z.held; fresh = z.fresh }

-- the last keyword and its argument
last_part : (key : Text) (l : LiteralOf Text) → IsKeywordText key → WellFormedLiteral l → NoWord l → literal_height l ≤ 400 → (w : World) (i : Input) (h : Notes) (s : Text) → ends s ≡ true → Here w 0 i h (key ++ 32 ∷ (literal_text l ++ s)) → PartsRead w 0 i h key (argument (literal l)) s
last_part key l g good plain low w i h s e a =
    let z = reads_part key l g good plain low w i h s e a in
    record { arguments = one_tree z.tree; stop = z.stop; parts = LastPart z.kind z.argument tt; plain = ap (λ t. more_trees t no_trees) z.plain; held = z.held; fresh = z.fresh }

-- a keyword and its argument before others
further_part : (key : Text) (l : LiteralOf Text) (p : Text) (ys : TreesOf Text) (q : Text) → IsKeywordText key → WellFormedLiteral l → NoWord l → literal_height l ≤ 400 → (w : World) (i : Input) (h : Notes) (s : Text) → ends s ≡ true → Here w 0 i h (key ++ 32 ∷ (literal_text l ++ s)) → ((j : Input) → Here w 0 j h s → PartsRead w 0 j h p ys q) → PartsRead w 0 i h (key ++ p) (more_trees (literal l) ys) q
further_part key l p ys q g good plain low w i h s e a rest =
    let z = reads_part key l g good plain low w i h s e a in
    let v = rest z.stop (held_as z.held z.fresh.here) in
    record { arguments = MoreTrees z.tree v.arguments; stop = v.stop; parts = FurtherPart {m = z.stop} {j = v.stop} {x = z.tree} {xs = v.arguments} z.kind z.argument v.parts; plain = (λ j. more_trees (z.plain j) (v.plain j)); held = v.held; fresh = v.fresh }

-- a keyword message to a name
reads_message : (n k : Text) (xs : TreesOf Text) (s : Text) → IsWord n → (w : World) (i : Input) → ends s ≡ true → Here w 0 i [] (n ++ s) → ((j : Input) → Here w 0 j [] s → PartsRead w 0 j [] k xs []) → ExpressionRead w 0 i [] (send (var n) k xs) []
reads_message n k xs s word w i e a rest =
    let y = to_binary ((can_read (var n) word).unary refl tt w 0 0 i [] s e (omega arith) a) in
    let v = rest y.stop (held_as y.held y.fresh.here) in
    let f = from_of i in
    let to = v.stop.last in
    let read : KeywordRead w 0 i [] (send (var n) k xs) [] = record {
      first = y.first;
      middle = y.middle;
      second = y.second;
      later = y.later;
      third = y.last;
      latest = y.stop;
      last = sent f to y.last k v.arguments;
      stop = v.stop;
      operand = y.operand;
      unaries = y.unaries;
      binaries = y.binaries;
      keywords = OneKeywords v.parts;
      plain = sent_plain f to y.last k v.arguments ∙ (λ j. send (y.plain j) k (v.plain j));
      value = λ u. sent_whole f to y.last k v.arguments;
      held = v.held;
      fresh = v.fresh;
    } in
    to_expression tt read

-- the keywords of a definition
subclass_keyword : IsKeywordText (codes "subclass:")
subclass_keyword = record { name = codes "subclass"; is = refl; word = refl }

variables_keyword : IsKeywordText (codes "instanceVariableNames:")
variables_keyword = record { name = codes "instanceVariableNames"; is = refl; word = refl }

shared_keyword : IsKeywordText (codes "classVariableNames:")
shared_keyword = record { name = codes "classVariableNames"; is = refl; word = refl }

pools_keyword : IsKeywordText (codes "poolDictionaries:")
pools_keyword = record { name = codes "poolDictionaries"; is = refl; word = refl }

category_keyword : IsKeywordText (codes "category:")
category_keyword = record { name = codes "category"; is = refl; word = refl }

-- a line of a definition from a text on
abbrev line : Text → Text → Text → Text
line key argument s = 10 ∷ 9 ∷ (key ++ 32 ∷ (argument ++ s))

-- the strings of a definition and its place, as arguments
abbrev strings : Text → Text → Text → Text → Text → TreesOf Text
strings n instance shared category numeral =
    more_trees (symbol_tree n) (more_trees (string_tree instance) (more_trees (string_tree shared) (more_trees (string_tree []) (more_trees (string_tree category) (argument (numeral_tree numeral))))))

-- the lines of a definition behind its first one
abbrev lines : Text → Text → Text → Text → Text
lines instance shared category numeral =
    line (codes "instanceVariableNames:") (quoted_text instance) (line (codes "classVariableNames:") (quoted_text shared) (line (codes "poolDictionaries:") (quoted_text []) (line (codes "category:") (quoted_text category) (line (codes "at:") numeral []))))

-- at the beginning of the next line
at_line : {w : World} {i : Input} {h : Notes} (s : Text) → Here w 0 i h (10 ∷ 9 ∷ s) → Here w 0 i h s
at_line s a = blank_step 9 s refl (blank_step 10 (9 ∷ s) refl a)

-- the lines of a definition
reads_lines : (n instance shared category numeral : Text) → IsUnsigned numeral → (w : World) (i : Input) → Here w 0 i [] (codes "subclass:" ++ 32 ∷ (literal_text (symbol n) ++ lines instance shared category numeral)) →
    PartsRead w 0 i [] placed_definition_selector (strings n instance shared category numeral) []
reads_lines n instance shared category numeral good w i a =
    let fifth = line (codes "at:") numeral [] in
    let fourth = line (codes "category:") (quoted_text category) fifth in
    let third = line (codes "poolDictionaries:") (quoted_text []) fourth in
    let second = line (codes "classVariableNames:") (quoted_text shared) third in
    let first = line (codes "instanceVariableNames:") (quoted_text instance) second in
    let place = argument (numeral_tree numeral) in
    let last = more_trees (string_tree category) place in
    let pools = more_trees (string_tree []) last in
    let both = more_trees (string_tree shared) pools in
    further_part (codes "subclass:") (symbol n) (codes "instanceVariableNames:classVariableNames:poolDictionaries:category:at:") (more_trees (string_tree instance) both) [] subclass_keyword tt tt (omega arith) w i [] first refl a (λ j b.
    further_part (codes "instanceVariableNames:") (str instance) (codes "classVariableNames:poolDictionaries:category:at:") both [] variables_keyword tt tt (omega arith) w j [] second refl (at_line _ b) (λ k c.
    further_part (codes "classVariableNames:") (str shared) (codes "poolDictionaries:category:at:") pools [] shared_keyword tt tt (omega arith) w k [] third refl (at_line _ c) (λ l d.
    further_part (codes "poolDictionaries:") (str []) (codes "category:at:") last [] pools_keyword tt tt (omega arith) w l [] fourth refl (at_line _ d) (λ m e.
    further_part (codes "category:") (str category) (codes "at:") place [] category_keyword tt tt (omega arith) w m [] fifth refl (at_line _ e) (λ o f.
    last_part (codes "at:") (number numeral) place_keyword (Plain good) tt (omega arith) w o [] [] refl (at_line _ f))))))

-- the definition of a class is well formed
well_formed_definition : (p n instance shared category numeral : Text) → IsWord p → IsUnsigned numeral → WellFormedDoIt (statement (send (var p) placed_definition_selector (strings n instance shared category numeral)))
well_formed_definition p n instance shared category numeral word good = record {
  words = tt;
  statements = (tt, (word, tt, FitsParts parts, ((tt, tt), tt, ((tt, tt), tt, ((tt, tt), tt, ((tt, tt), tt, ((tt, tt), tt, ((Plain good, tt), tt, tt))))))), tt, tt);
  notes = tt;
  height = omega arith;
  once = refl;
  once_inside = refl;
  assigned = refl;
}
  where
    parts : AreParts placed_definition_selector (strings n instance shared category numeral)
    parts =
        OneBefore {k = codes "subclass:"} {s = codes "instanceVariableNames:classVariableNames:poolDictionaries:category:at:"} subclass_keyword
        (OneBefore {k = codes "instanceVariableNames:"} {s = codes "classVariableNames:poolDictionaries:category:at:"} variables_keyword
        (OneBefore {k = codes "classVariableNames:"} {s = codes "poolDictionaries:category:at:"} shared_keyword
        (OneBefore {k = codes "poolDictionaries:"} {s = codes "category:at:"} pools_keyword
        (OneBefore {k = codes "category:"} {s = codes "at:"} category_keyword (LastOne place_keyword)))))

-- the symbol of an identifier
symbol_of_word : (n : Text) → IsWord n → literal_text (symbol n) ≡ 35 ∷ n
symbol_of_word n word = ap (λ (b : Bool). 35 ∷ (if b || is_keyword_row n || is_operator n then n else quoted_text n)) word

-- texts in a row, from the right
pub right : (p q n a b c d : Text) → p ++ q ++ n ++ a ++ b ++ c ++ d ≡ p ++ (q ++ (n ++ (a ++ (b ++ (c ++ d)))))
right p q n a b c d =
    append_assoc (p ++ q ++ n ++ a ++ b) c d ∙ append_assoc (p ++ q ++ n ++ a) b (c ++ d) ∙ append_assoc (p ++ q ++ n) a (b ++ (c ++ d))
    ∙ append_assoc (p ++ q) n (a ++ (b ++ (c ++ d))) ∙ append_assoc p q (n ++ (a ++ (b ++ (c ++ d))))

-- the definition of a class with a place
pub spells_placed_definition : (c : ClassOf Text) (numeral : Text) → IsWord (unwrap_or c.superclass (codes "nil")) → IsWord c.name → IsUnsigned numeral → SpellsDoIt Second (definition_text c ++ keyword_line (codes "at: ") numeral) (placed_definition_tree c numeral)
spells_placed_definition c numeral above word good =
    let p = unwrap_or c.superclass (codes "nil") in
    let instance = pieces_joined (codes " ") c.instance in
    let shared = pieces_joined (codes " ") c.shared in
    let a = keyword_line (codes "instanceVariableNames: ") (names_text c.instance) in
    let b = keyword_line (codes "classVariableNames: ") (names_text c.shared) in
    let d = keyword_line (codes "poolDictionaries: ") (quoted_text []) in
    let e = keyword_line (codes "category: ") (quoted_text c.category) in
    let f = keyword_line (codes "at: ") numeral in
    let rest = lines instance shared c.category numeral in
    let front : Text → Text = λ (x : Text). p ++ (codes " subclass: " ++ (35 ∷ (c.name ++ line (codes "instanceVariableNames:") (quoted_text instance) (line (codes "classVariableNames:") (quoted_text shared) (line (codes "poolDictionaries:") (quoted_text []) (line (codes "category:") (quoted_text c.category) (10 ∷ 9 ∷ (codes "at: " ++ x)))))))) in
    let spread : definition_text c ++ f ≡ p ++ (codes " subclass: #" ++ (c.name ++ (a ++ (b ++ (d ++ (e ++ f)))))) =
    append_assoc (p ++ codes " subclass: #" ++ c.name ++ a ++ b ++ d) e f ∙ right p (codes " subclass: #") c.name a b d (e ++ f) in
    let whole : definition_text c ++ f ≡ p ++ (32 ∷ (codes "subclass:" ++ 32 ∷ (literal_text (symbol c.name) ++ rest))) =
    spread ∙ ap front (sym (append-nil numeral)) ∙ ap (λ (x : Text). p ++ (codes " subclass: " ++ (x ++ rest))) (sym (symbol_of_word c.name word)) in
    let arguments = strings c.name instance shared c.category numeral in
    subst (λ (x : Text). SpellsDoIt Second x (placed_definition_tree c numeral)) (sym whole)
    (spelled (send (var p) placed_definition_selector arguments)
    (p ++ (32 ∷ (codes "subclass:" ++ 32 ∷ (literal_text (symbol c.name) ++ rest)))) (well_formed_definition p c.name instance shared c.category numeral above good)
    (λ w i x. reads_message p placed_definition_selector arguments
    (32 ∷ (codes "subclass:" ++ 32 ∷ (literal_text (symbol c.name) ++ rest))) above w i refl x
    (λ j y. reads_lines c.name instance shared c.category numeral good w j (blank_step 32 (codes "subclass:" ++ 32 ∷ (literal_text (symbol c.name) ++ rest)) refl y))))
