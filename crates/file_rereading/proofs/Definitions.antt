-- The definition of a class is read as what it is.
use Rattle.std.proofs.Common.{◌≡◌, ◌≤◌, Bool, true, [], ◌∷◌, ◌++◌, refl, ap, sym, subst, ◌∙◌, arith, append-nil, append_assoc}
use Rattle.std.specs.Prelude.{codes, unwrap_or, ◌||◌, if◌then◌else◌}
use Rattle.token_model.specs.declared.kind.Dialect.TheVariants.{Second}
use Rattle.tree_model.specs.Tree.{Notes, LiteralOf, str, symbol, TreeOf, var, literal, send, TreesOf, no_trees, more_trees, no_statements, more_statements}
use Rattle.tree_model.specs.Measure.{literal_height}
use Rattle.text_model.specs.Pieces.{pieces_joined}
use Rattle.text_model.specs.Literals.{is_keyword_row, is_operator, quoted_text, literal_text}
use Rattle.grammar_model.specs.Terminal.{KeywordKind, Keyword}
use Rattle.grammar_model.specs.Input.{Input, beginning, kind_of, from_of, next, clear}
use Rattle.grammar_model.specs.Ahead.{Any}
use Rattle.grammar_model.specs.Chain.{sent}
use Rattle.grammar_model.specs.Spanned.{SpannedTree, NoStatements, MoreStatements, MoreTrees, one_tree, plain_tree, SpannedSequence, plain_sequence}
use Rattle.grammar_model.specs.Grammar.{KeywordArgument, OneKeywords, LastPart, FurtherPart, Sequenced, DeclaresNone, OneStatement, Unended}
use Rattle.grammar_model.specs.Whole.{IsDoIt}
use Rattle.grammar_model.specs.Spelling.{SpellsDoIt}
use Rattle.grammar_model.proofs.Rows.{longest_IsDoIt}
use Rattle.reread_law.specs.WellFormed.{IsWord, IsKeywordText, AreParts, LastOne, OneBefore, FitsParts, WellFormedLiteral, NoWord}
use Rattle.reread_law.specs.WholeTrees.{WellFormedDoIt}
use Rattle.reread_law.proofs.Bytes.{ends}
use Rattle.reread_law.proofs.PlainFaults.{no_fault_DoIt}
use Rattle.reread_law.proofs.Steps.{World, Here, Fresh, blank_step, held_as, finish, fresh_clear}
use Rattle.reread_law.proofs.ReadsLiterals.{step_keyword}
use Rattle.reread_law.proofs.Operands.{KeywordRead, ExpressionRead, to_binary, to_expression, as_keyword_argument, sent_plain, sent_whole}
use Rattle.reread_law.proofs.Messages.{PartsRead}
use Rattle.reread_law.proofs.Starting.{begun}
use Rattle.reread_law.proofs.Trees.{can_read}
use Rattle.image_model.specs.Image.{ClassOf}
use Rattle.file_model.specs.Filing.{Text}
use Rattle.file_model.specs.Forms.{definition_selector}
use Rattle.file_model.specs.Written.{definition_text, keyword_line, names_text}
use Rattle.file_rereading.specs.Trees.{statement, argument, string_tree, names_tree, definition_tree}
use Rattle.file_rereading.proofs.Lines.{variables_keyword}

-- one expression that is read as a tree is a do-it
spelled : (t : TreeOf Text) (s : Text) → WellFormedDoIt (statement t) → ((w : World) (i : Input) → Here w 0 i [] s → ExpressionRead w 0 i [] t []) → SpellsDoIt Second s (statement t)
spelled t s g reads =
    let b = begun s in
    let i = beginning b.world.tokens in
    let z = reads b.world i b.here in
    let f = finish (fresh_clear z.fresh).here in
    let u : SpannedSequence = record { temporaries = []; statements = MoreStatements z.stop.held (from_of i) z.tree NoStatements; tail = [] } in
    let same : plain_sequence u ≡ statement t = (λ j. record { temporaries = []; statements = more_statements (z.held j) (z.plain j) no_statements; tail = [] }) in
    let grammar : IsDoIt Any b.world.tokens u = record { stop = clear z.stop; sequence = Sequenced (DeclaresNone tt) (OneStatement z.expression (Unended tt)); over = f.over } in
    record {
      spanned = u;
      spells = record {
        tokens = b.world.tokens;
        lexed = b.lexed f.clean;
        shallow = f.shallow;
        grammar = longest_IsDoIt b.world.tokens u grammar;
        sound = no_fault_DoIt u (subst WellFormedDoIt (sym same) g);
      };
      same = sym same;
    }

-- a keyword and its argument were read
record PartRead (w : World) (i : Input) (h : Notes) (key : Text) (l : LiteralOf Text) (s : Text) : Type 0 where
  class : KeywordKind
  tree : SpannedTree
  stop : Input
  kind : kind_of i ≡ Keyword class key
  argument : KeywordArgument Any (next i) tree stop
  plain : plain_tree tree ≡ literal l
  held : stop.held ≡ h
  fresh : Fresh w 0 stop s

-- a keyword and a literal behind a blank
reads_part : (key : Text) (l : LiteralOf Text) → IsKeywordText key → WellFormedLiteral l → NoWord l → literal_height l ≤ 400 → (w : World) (i : Input) (h : Notes) (s : Text) → ends s ≡ true → Here w 0 i h (key ++ 32 ∷ (literal_text l ++ s)) → PartRead w i h key l s
reads_part key l g good plain low w i h s e a =
    let y = step_keyword key (32 ∷ (literal_text l ++ s)) g (λ f. omega arith) a in
    let c = blank_step 32 (literal_text l ++ s) refl (held_as y.1.held y.1.fresh.here) in
    let z = as_keyword_argument tt (to_binary ((can_read (literal l) (good, plain)).unary refl tt w 0 0 (next i) h s e (omega (arith, low)) c)) in
    record { class = y.0; tree = z.tree; stop = z.stop; kind = y.1.kind; argument = z.argument; plain = z.plain; held = z.held; fresh = z.fresh }

-- the last keyword and its argument
last_part : (key : Text) (l : LiteralOf Text) → IsKeywordText key → WellFormedLiteral l → NoWord l → literal_height l ≤ 400 → (w : World) (i : Input) (h : Notes) (s : Text) → ends s ≡ true → Here w 0 i h (key ++ 32 ∷ (literal_text l ++ s)) → PartsRead w 0 i h key (argument (literal l)) s
last_part key l g good plain low w i h s e a =
    let z = reads_part key l g good plain low w i h s e a in
    record { arguments = one_tree z.tree; stop = z.stop; parts = LastPart z.kind z.argument tt; plain = ap (λ t. more_trees t no_trees) z.plain; held = z.held; fresh = z.fresh }

-- a keyword and its argument before others
further_part : (key : Text) (l : LiteralOf Text) (p : Text) (ys : TreesOf Text) (q : Text) → IsKeywordText key → WellFormedLiteral l → NoWord l → literal_height l ≤ 400 → (w : World) (i : Input) (h : Notes) (s : Text) → ends s ≡ true → Here w 0 i h (key ++ 32 ∷ (literal_text l ++ s)) → ((j : Input) → Here w 0 j h s → PartsRead w 0 j h p ys q) → PartsRead w 0 i h (key ++ p) (more_trees (literal l) ys) q
further_part key l p ys q g good plain low w i h s e a rest =
    let z = reads_part key l g good plain low w i h s e a in
    let v = rest z.stop (held_as z.held z.fresh.here) in
    record { arguments = MoreTrees z.tree v.arguments; stop = v.stop; parts = FurtherPart {m = z.stop} {j = v.stop} {x = z.tree} {xs = v.arguments} z.kind z.argument v.parts; plain = (λ j. more_trees (z.plain j) (v.plain j)); held = v.held; fresh = v.fresh }

-- a keyword message to a name
reads_message : (n k : Text) (xs : TreesOf Text) (s : Text) → IsWord n → (w : World) (i : Input) → ends s ≡ true → Here w 0 i [] (n ++ s) → ((j : Input) → Here w 0 j [] s → PartsRead w 0 j [] k xs []) → ExpressionRead w 0 i [] (send (var n) k xs) []
reads_message n k xs s word w i e a rest =
    let y = to_binary ((can_read (var n) word).unary refl tt w 0 0 i [] s e (omega arith) a) in
    let v = rest y.stop (held_as y.held y.fresh.here) in
    let f = from_of i in
    let to = v.stop.last in
    let read : KeywordRead w 0 i [] (send (var n) k xs) [] = record {
      first = y.first;
      middle = y.middle;
      second = y.second;
      later = y.later;
      third = y.last;
      latest = y.stop;
      last = sent f to y.last k v.arguments;
      stop = v.stop;
      operand = y.operand;
      unaries = y.unaries;
      binaries = y.binaries;
      keywords = OneKeywords v.parts;
      plain = sent_plain f to y.last k v.arguments ∙ (λ j. send (y.plain j) k (v.plain j));
      value = λ u. sent_whole f to y.last k v.arguments;
      held = v.held;
      fresh = v.fresh;
    } in
    to_expression tt read

-- the keywords of a definition
subclass_keyword : IsKeywordText (codes "subclass:")
subclass_keyword = record { name = codes "subclass"; is = refl; word = refl }

shared_keyword : IsKeywordText (codes "classVariableNames:")
shared_keyword = record { name = codes "classVariableNames"; is = refl; word = refl }

pools_keyword : IsKeywordText (codes "poolDictionaries:")
pools_keyword = record { name = codes "poolDictionaries"; is = refl; word = refl }

category_keyword : IsKeywordText (codes "category:")
category_keyword = record { name = codes "category"; is = refl; word = refl }

-- a line of a definition from a text on
abbrev line : Text → Text → Text → Text
line key argument s = 10 ∷ 9 ∷ (key ++ 32 ∷ (argument ++ s))

-- the lines of a definition behind its first one, before other text
abbrev lines : Text → Text → Text → Text → Text
lines instance shared category s =
    line (codes "instanceVariableNames:") (quoted_text instance) (line (codes "classVariableNames:") (quoted_text shared) (line (codes "poolDictionaries:") (quoted_text []) (line (codes "category:") (quoted_text category) s)))

-- at the beginning of the next line
at_line : {w : World} {i : Input} {h : Notes} (s : Text) → Here w 0 i h (10 ∷ 9 ∷ s) → Here w 0 i h s
at_line s a = blank_step 9 s refl (blank_step 10 (9 ∷ s) refl a)

-- the lines of a definition
reads_lines : (n instance shared category : Text) (w : World) (i : Input) → Here w 0 i [] (codes "subclass:" ++ 32 ∷ (literal_text (symbol n) ++ lines instance shared category [])) →
    PartsRead w 0 i [] definition_selector (more_trees (literal (symbol n)) (more_trees (string_tree instance) (more_trees (string_tree shared) (more_trees (string_tree []) (argument (string_tree category)))))) []
reads_lines n instance shared category w i a =
    let fourth = line (codes "category:") (quoted_text category) [] in
    let third = line (codes "poolDictionaries:") (quoted_text []) fourth in
    let second = line (codes "classVariableNames:") (quoted_text shared) third in
    let first = line (codes "instanceVariableNames:") (quoted_text instance) second in
    further_part (codes "subclass:") (symbol n) (codes "instanceVariableNames:classVariableNames:poolDictionaries:category:") (more_trees (string_tree instance) (more_trees (string_tree shared) (more_trees (string_tree []) (argument (string_tree category))))) [] subclass_keyword tt tt (omega arith) w i [] first refl a (λ j b.
    further_part (codes "instanceVariableNames:") (str instance) (codes "classVariableNames:poolDictionaries:category:") (more_trees (string_tree shared) (more_trees (string_tree []) (argument (string_tree category)))) [] variables_keyword tt tt (omega arith) w j [] second refl (at_line _ b) (λ k c.
    further_part (codes "classVariableNames:") (str shared) (codes "poolDictionaries:category:") (more_trees (string_tree []) (argument (string_tree category))) [] shared_keyword tt tt (omega arith) w k [] third refl (at_line _ c) (λ l d.
    further_part (codes "poolDictionaries:") (str []) (codes "category:") (argument (string_tree category)) [] pools_keyword tt tt (omega arith) w l [] fourth refl (at_line _ d) (λ m e.
    last_part (codes "category:") (str category) category_keyword tt tt (omega arith) w m [] [] refl (at_line _ e)))))

-- the definition of a class is well formed
well_formed_definition : (p n instance shared category : Text) → IsWord p → WellFormedDoIt (statement (send (var p) definition_selector (more_trees (literal (symbol n)) (more_trees (string_tree instance) (more_trees (string_tree shared) (more_trees (string_tree []) (argument (string_tree category))))))))
well_formed_definition p n instance shared category word = record {
  words = tt;
  statements = (tt, (word, tt, FitsParts parts, ((tt, tt), tt, ((tt, tt), tt, ((tt, tt), tt, ((tt, tt), tt, ((tt, tt), tt, tt)))))), tt, tt);
  notes = tt;
  height = omega arith;
  once = refl;
  once_inside = refl;
  assigned = refl;
}
  where
    parts : AreParts definition_selector (more_trees (literal (symbol n)) (more_trees (string_tree instance) (more_trees (string_tree shared) (more_trees (string_tree []) (argument (string_tree category))))))
    parts =
        OneBefore {k = codes "subclass:"} {s = codes "instanceVariableNames:classVariableNames:poolDictionaries:category:"} subclass_keyword
        (OneBefore {k = codes "instanceVariableNames:"} {s = codes "classVariableNames:poolDictionaries:category:"} variables_keyword
        (OneBefore {k = codes "classVariableNames:"} {s = codes "poolDictionaries:category:"} shared_keyword
        (OneBefore {k = codes "poolDictionaries:"} {s = codes "category:"} pools_keyword (LastOne category_keyword))))

-- the symbol of an identifier
symbol_of_word : (n : Text) → IsWord n → literal_text (symbol n) ≡ 35 ∷ n
symbol_of_word n word = ap (λ (b : Bool). 35 ∷ (if b || is_keyword_row n || is_operator n then n else quoted_text n)) word

-- texts in a row, from the right
pub right : (p q n a b c d : Text) → p ++ q ++ n ++ a ++ b ++ c ++ d ≡ p ++ (q ++ (n ++ (a ++ (b ++ (c ++ d)))))
right p q n a b c d =
    append_assoc (p ++ q ++ n ++ a ++ b) c d ∙ append_assoc (p ++ q ++ n ++ a) b (c ++ d) ∙ append_assoc (p ++ q ++ n) a (b ++ (c ++ d))
    ∙ append_assoc (p ++ q) n (a ++ (b ++ (c ++ d))) ∙ append_assoc p q (n ++ (a ++ (b ++ (c ++ d))))

-- the definition of a class
pub spells_definition : (c : ClassOf Text) → IsWord (unwrap_or c.superclass (codes "nil")) → IsWord c.name → SpellsDoIt Second (definition_text c) (definition_tree c)
spells_definition c above word =
    let p = unwrap_or c.superclass (codes "nil") in
    let instance = pieces_joined (codes " ") c.instance in
    let shared = pieces_joined (codes " ") c.shared in
    let front : Text → Text = λ (x : Text). p ++ (codes " subclass: " ++ (35 ∷ (c.name ++ line (codes "instanceVariableNames:") (quoted_text instance) (line (codes "classVariableNames:") (quoted_text shared) (line (codes "poolDictionaries:") (quoted_text []) (10 ∷ 9 ∷ (codes "category: " ++ x))))))) in
    let rest = lines instance shared c.category [] in
    let whole : definition_text c ≡ p ++ (32 ∷ (codes "subclass:" ++ 32 ∷ (literal_text (symbol c.name) ++ rest))) =
    right p (codes " subclass: #") c.name (keyword_line (codes "instanceVariableNames: ") (names_text c.instance)) (keyword_line (codes "classVariableNames: ") (names_text c.shared)) (keyword_line (codes "poolDictionaries: ") (quoted_text [])) (keyword_line (codes "category: ") (quoted_text c.category))
    ∙ ap front (sym (append-nil (quoted_text c.category))) ∙ ap (λ (x : Text). p ++ (codes " subclass: " ++ (x ++ rest))) (sym (symbol_of_word c.name word)) in
    subst (λ (x : Text). SpellsDoIt Second x (definition_tree c)) (sym whole)
    (spelled (send (var p) definition_selector (more_trees (literal (symbol c.name)) (more_trees (names_tree c.instance) (more_trees (names_tree c.shared) (more_trees (string_tree []) (argument (string_tree c.category)))))))
    (p ++ (32 ∷ (codes "subclass:" ++ 32 ∷ (literal_text (symbol c.name) ++ rest)))) (well_formed_definition p c.name instance shared c.category above)
    (λ w i a. reads_message p definition_selector (more_trees (literal (symbol c.name)) (more_trees (names_tree c.instance) (more_trees (names_tree c.shared) (more_trees (string_tree []) (argument (string_tree c.category))))))
    (32 ∷ (codes "subclass:" ++ 32 ∷ (literal_text (symbol c.name) ++ rest))) above w i refl a
    (λ j b. reads_lines c.name instance shared c.category w j (blank_step 32 (codes "subclass:" ++ 32 ∷ (literal_text (symbol c.name) ++ rest)) refl b))))
