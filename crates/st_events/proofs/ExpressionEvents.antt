-- A reader puts out the events of the expressions and statements that it reads.
use Rattle.std.proofs.Common.{◌≡◌, ℕ, suc, ◌+◌, Bool, true, false, List, [], ◌∷◌, ◌++◌, Some, None, refl, ap, sym, ◌∙◌, subst, arith, append_assoc, inl, inr}
use Rattle.std.proofs.lemmas.List.{append-nil}
use Rattle.tree_model.specs.Tree.{Notes}
use Rattle.grammar_model.specs.Terminal.{Text, NameKind, Sign, Bar, GroupEnd, BlockEnd, BraceEnd, Terminal, Name, Keyword, Binary, Numeral, Constant, Opens, Closes, Assignment, Colon, Semicolon, Period, Caret, ArrayStart, BytesStart, OperandMeta, AnyName, AnyExpression, StatementMeta, MessageMeta}
use Rattle.grammar_model.specs.Input.{lex, Input, kind_of, from_of, next, clear, back}
use Rattle.grammar_model.specs.Spanned.{Declared, SpannedTree, Var, SpannedTrees, NoTrees, one_tree, SpannedMessages, SpannedStatements}
use Rattle.grammar_model.specs.Chain.{Chain, Waiting, Alone, Told, whole, sent, IsWhole}
use Rattle.grammar_model.specs.Ahead.{Longest, NoKey, NoColon, NoBar, NoPeriod, NoSemicolon, NoStatement, NoAssignment, IsOperandStart}
use Rattle.grammar_model.specs.Grammar.{Periods, OnePeriod, NoPeriods, Names, OneName, NoNames, Parameters, OneParameter, NoParameters, Temporaries, Declares, DeclaresNone, Expression, Assigned, Simple, Operand, Variable, SuperName, MetaOperand, LiteralOperand, Grouped, BlockOperand, BraceOperand, Unaries, OneUnary, AnyUnary, NoUnaries, Binaries, OneBinary, NoBinaries, Keywords, OneKeywords, AnyKeywords, NoKeywords, WholeMessage, Parts, LastPart, FurtherPart, Argument, BinaryArgument, KeywordArgument, ArgumentOfKeyword, Cascaded, NoCascade, OneCascade, Messages, OneMessage, LastMessage, Message, UnaryMessage, AnyUnaryMessage, BinaryMessage, KeywordMessage, AnyKeywordMessage, Items, NoItems, OneItem, FurtherItems, NextItem, LastItem, BlockBody, WithoutParameters, ParametersAlone, WithParameters, Sequenced, Statements, BlankPeriod, NoMore, Returned, AnyStatement, OneStatement, After, Ended, Unended, Finish, EndedReturn, UnendedReturn}
use Rattle.grammar_model.proofs.Reading.{IsLiteralStart}
use Rattle.grammar_model.proofs.OneTree.{starts_Expression, starts_Operand}
use Rattle.grammar_model.proofs.Recognizes.{ends_Unaries}
use Rattle.parse_events.specs.Found.{declarations, count_trees, count_messages, count_statements, literal_events, tree_events, trees_events, messages_events, statements_events}
use Rattle.parse_events.specs.declared.event.Declaration.{Declaration}
use Rattle.parse_events.specs.declared.event.Event.{Event}
use Rattle.parse_events.specs.declared.event.Event.TheVariants as event
use Rattle.st_events.specs.declared.part.Part.{Part}
use Rattle.st_events.specs.declared.part.Part.TheVariants as part
use Rattle.st_events.specs.declared.part.ExpressionPart.TheVariants as expression
use Rattle.st_events.specs.declared.part.Row.TheVariants as row
use Rattle.st_events.specs.declared.part.Target.{Target}
use Rattle.st_events.specs.declared.part.Target.TheVariants as target
use Rattle.st_events.specs.declared.part.MessagePart.TheVariants as message
use Rattle.st_events.specs.declared.part.LiteralPart.TheVariants as literal
use Rattle.st_events.specs.declared.part.BlockPart.TheVariants as block
use Rattle.st_events.specs.declared.part.Enclosure.{Enclosure}
use Rattle.st_events.specs.declared.part.Enclosure.TheVariants as enclosure
use Rattle.st_events.specs.declared.part.Rest.TheVariants as rest
use Rattle.st_events.specs.declared.part.SequencePart.TheVariants as sequence
use Rattle.st_events.specs.declared.reader.Head.{Head}
use Rattle.st_events.specs.declared.reader.Reader.{Reader}
use Rattle.st_events.specs.declared.answers.Answer.TheVariants.{Refuses, Passes, Takes}
use Rattle.st_events.specs.Classes.{is_super}
use Rattle.st_events.specs.Answers.{taken_if, row_of, is_told, closes, statements_answer, answer}
use Rattle.st_events.specs.Steps.{pushed, recast, is_told_behind, begin_literal, begin_operand, begin_expression, begin_argument, begun, statement_taken, item_taken, step, run}
use Rattle.st_events.proofs.Recasting.{recast_last}
use Rattle.st_events.proofs.Running.{reader, found, go, takes_one, passes_one, leaves_one, refuse_same, messages_over, operators_over, keywords_over, any_over, not_semicolon, begins_with}
use Rattle.st_events.proofs.LiteralEvents.{law_LiteralAt, starts_LiteralAt}
use Rattle.st_events.proofs.Ends.{NoOperator, ends_operators, ToldFrom, told_messages, NoVariable, named_or_other, real_operand, first_of_parts, is_waiting, told_by, row_at, super_waits, fresh_Operand, whole_row}
use Rattle.st_events.proofs.MessageParts.{all, of_keyword, of_binary, whole_part, statements_part, sent_events, zero, unary_events, cascade_events, joined_events, all_unary, all_binary, told_behind, keyword_unary, keyword_binary, binary_unary, all_name, all_selector, all_key, all_whole, all_semicolon, keyword_name, keyword_selector, binary_name, binary_over}

-- declared names
law_Names : {i j : Input} {ds : List Declared} → Names Longest i ds j → (w : Enclosure) (ps qs : List Declaration) (ss : List Part) (es : List Event) (h : Head) →
    go (part.Block (block.Names w ps qs) ∷ ss) es h i ≡ go (part.Block (block.Names w ps (qs ++ declarations ds)) ∷ ss) es h j
law_Names {i} {j} (OneName {c} {n} {ds} e d) w ps qs ss es h =
    let q : List Declaration = record { name = n; from = from_of i } ∷ [] in
    takes_one (part.Block (block.Names w ps qs)) ss es h i (Name c n) e tt refl ∙ law_Names d w ps (qs ++ q) ss es h ∙
    ap (λ x. go (part.Block (block.Names w ps x) ∷ ss) es h j) (append_assoc qs q (declarations ds))
law_Names {j} (NoNames g) w ps qs ss es h = ap (λ x. go (part.Block (block.Names w ps x) ∷ ss) es h j) (sym (append-nil qs))

-- the parameters of a block
law_Parameters : {i j : Input} {ds : List Declared} → Parameters Longest i ds j → (w : Enclosure) (qs : List Declaration) (ss : List Part) (es : List Event) (h : Head) →
    go (part.Block (block.BehindParameter w qs) ∷ ss) es h i ≡ go (part.Block (block.BehindParameter w (qs ++ declarations ds)) ∷ ss) es h j
law_Parameters {i} {j} (OneParameter {c} {n} {ds} e f d) w qs ss es h =
    let q : List Declaration = record { name = n; from = from_of (next i) } ∷ [] in
    takes_one (part.Block (block.BehindParameter w qs)) ss es h i Colon e tt refl ∙
    takes_one (part.Block (block.Parameter w qs)) ss es h (next i) (Name c n) f tt refl ∙ law_Parameters d w (qs ++ q) ss es h ∙
    ap (λ x. go (part.Block (block.BehindParameter w x) ∷ ss) es h j) (append_assoc qs q (declarations ds))
law_Parameters {j} (NoParameters g) w qs ss es h = ap (λ x. go (part.Block (block.BehindParameter w x) ∷ ss) es h j) (sym (append-nil qs))

-- the first parameter of a block
law_first : (i : Input) (w : Enclosure) (ss : List Part) (es : List Event) (h : Head) → kind_of i ≡ Colon → go (part.Block (block.Start w) ∷ ss) es h i ≡ go (part.Block (block.BehindParameter w []) ∷ ss) es h i
law_first i w ss es h e =
    takes_one (part.Block (block.Start w)) ss es h i Colon e tt refl ∙ sym (takes_one (part.Block (block.BehindParameter w [])) ss es h i Colon e tt refl)

-- a block that declares nothing more has statements
enters : (w : Enclosure) (ps : List Declaration) (ss : List Part) (es : List Event) (h : Head) (d : Notes) (l : ℕ) (k : Terminal) (c : Notes) (f e : ℕ) → NoBar k →
    step (part.Block (block.Temporaries w ps) ∷ ss) (reader (part.Block (block.Temporaries w ps) ∷ ss) es h d l) (lex c f e k) ≡
    step (statements_part w 0 rest.Any ∷ ss) (reader (statements_part w 0 rest.Any ∷ ss) (es ++ event.Enter ps [] ∷ []) h d l) (lex c f e k)
enters w ps ss es h d l (Binary Bar s) c f e g = absurd g
enters w ps ss es h d l (Closes m) c f e g = refuse_same (closes m w) _ _ _
enters w ps ss es h d l k c f e g = refl

-- as one without parameters
starts : (w : Enclosure) (ss : List Part) (es : List Event) (h : Head) (d : Notes) (l : ℕ) (k : Terminal) (c : Notes) (f e : ℕ) → NoColon k → NoBar k →
    step (part.Block (block.Start w) ∷ ss) (reader (part.Block (block.Start w) ∷ ss) es h d l) (lex c f e k) ≡
    step (statements_part w 0 rest.Any ∷ ss) (reader (statements_part w 0 rest.Any ∷ ss) (es ++ event.Enter [] [] ∷ []) h d l) (lex c f e k)
starts w ss es h d l Colon c f e n g = absurd n
starts w ss es h d l (Binary Bar s) c f e n g = absurd g
starts w ss es h d l (Closes m) c f e n g = refuse_same (closes m w) _ _ _
starts w ss es h d l k c f e n g = refl

-- the temporaries of a block with parameters
law_Temporaries : {i j : Input} {ds : List Declared} → Temporaries Longest i ds j → (w : Enclosure) (ps : List Declaration) (ss : List Part) (es : List Event) (h : Head) →
    go (part.Block (block.Temporaries w ps) ∷ ss) es h i ≡ go (statements_part w 0 rest.Any ∷ ss) (es ++ event.Enter ps (declarations ds) ∷ []) h j
law_Temporaries {i} (Declares {j} {s} {t} {ds} e d f) w ps ss es h =
    takes_one (part.Block (block.Temporaries w ps)) ss es h i (Binary Bar s) e tt refl ∙ law_Names d w ps [] ss es h ∙
    takes_one (part.Block (block.Names w ps (declarations ds))) ss es h j (Binary Bar t) f tt refl
law_Temporaries {i} (DeclaresNone g) w ps ss es h =
    leaves_one (part.Block (block.Temporaries w ps)) (statements_part w 0 rest.Any) ss es (es ++ event.Enter ps [] ∷ []) h i i.held
    (λ c e. enters w ps ss es h i.held i.last (kind_of i) c (from_of i) e g)

-- the temporaries of a block without parameters
law_start : {i j : Input} {ds : List Declared} → Temporaries Longest i ds j → NoColon (kind_of i) → (w : Enclosure) (ss : List Part) (es : List Event) (h : Head) →
    go (part.Block (block.Start w) ∷ ss) es h i ≡ go (statements_part w 0 rest.Any ∷ ss) (es ++ event.Enter [] (declarations ds) ∷ []) h j
law_start {i} (Declares {j} {s} {t} {ds} e d f) n w ss es h =
    takes_one (part.Block (block.Start w)) ss es h i (Binary Bar s) e tt refl ∙ law_Names d w [] [] ss es h ∙
    takes_one (part.Block (block.Names w [] (declarations ds))) ss es h j (Binary Bar t) f tt refl
law_start {i} (DeclaresNone g) n w ss es h =
    leaves_one (part.Block (block.Start w)) (statements_part w 0 rest.Any) ss es (es ++ event.Enter [] [] ∷ []) h i i.held
    (λ c e. starts w ss es h i.held i.last (kind_of i) c (from_of i) e n g)

-- a block that has parameters alone
law_parameters_alone : (i : Input) → kind_of i ≡ Closes BlockEnd → (w : Enclosure) (ps : List Declaration) (ss : List Part) (es : List Event) (h : Head) →
    go (part.Block (block.BehindParameter w ps) ∷ ss) es h i ≡ go (statements_part w 0 rest.Periods ∷ ss) (es ++ event.Enter ps [] ∷ []) h i
law_parameters_alone i e w ps ss es h =
    let p = part.Block (block.BehindParameter w ps) in
    let q = statements_part w 0 rest.Periods in
    let fs = es ++ event.Enter ps [] ∷ [] in
    leaves_one p q ss es fs h i i.held
    (λ c b. subst (λ k. step (p ∷ ss) (found (p ∷ ss) es h i) (lex c (from_of i) b k) ≡ step (q ∷ ss) (found (q ∷ ss) fs h i) (lex c (from_of i) b k)) (sym e) (refuse_same (closes BlockEnd w) _ _ _))

-- periods behind a return
law_Periods : {i j : Input} → Periods Longest i j → (w : Enclosure) (n : ℕ) (ss : List Part) (es : List Event) (h : Head) → go (statements_part w n rest.Periods ∷ ss) es h i ≡ go (statements_part w n rest.Periods ∷ ss) es h j
law_Periods {i} (OnePeriod e d) w n ss es h = takes_one (statements_part w n rest.Periods) ss es h i Period e tt refl ∙ law_Periods d w n ss es h
law_Periods (NoPeriods g) w n ss es h = refl

-- behind a statement
abbrev behind_statement : ℕ → Enclosure → ℕ → Bool → Part
behind_statement f w n returned = part.Sequence (sequence.BehindStatement f w n returned)

-- no period stands behind a statement
unended : (g : ℕ) (w : Enclosure) (n : ℕ) (returned : Bool) (ss : List Part) (es : List Event) (h : Head) (d : Notes) (l : ℕ) (k : Terminal) (c : Notes) (f e : ℕ) → NoPeriod k →
    step (behind_statement g w n returned ∷ ss) (reader (behind_statement g w n returned ∷ ss) es h d l) (lex c f e k) ≡
    step (statements_part w n rest.Periods ∷ ss) (reader (statements_part w n rest.Periods ∷ ss) (es ++ event.Statement g d ∷ []) h [] l) (lex c f e k)
unended g w n returned ss es h d l Period c f e none = absurd none
unended g w n returned ss es h d l (Closes m) c f e none = refuse_same (closes m w) _ _ _
unended g w n returned ss es h d l k c f e none = refl

-- no period stands behind a statement
law_unended : (i : Input) → NoPeriod (kind_of i) → (g : ℕ) (w : Enclosure) (n : ℕ) (returned : Bool) (ss : List Part) (es : List Event) (h : Head) →
    go (behind_statement g w n returned ∷ ss) es h i ≡ go (statements_part w n rest.Periods ∷ ss) (es ++ event.Statement g i.held ∷ []) h (clear i)
law_unended i none g w n returned ss es h =
    leaves_one (behind_statement g w n returned) (statements_part w n rest.Periods) ss es (es ++ event.Statement g i.held ∷ []) h i []
    (λ c e. unended g w n returned ss es h i.held i.last (kind_of i) c (from_of i) e none)

-- no further statement stands behind others
no_further : (w : Enclosure) (n : ℕ) (ss : List Part) (es : List Event) (h : Head) (d : Notes) (l : ℕ) (k : Terminal) (c : Notes) (f e : ℕ) → NoStatement k →
    step (statements_part w n rest.Any ∷ ss) (reader (statements_part w n rest.Any ∷ ss) es h d l) (lex c f e k) ≡ step (statements_part w n rest.Periods ∷ ss) (reader (statements_part w n rest.Periods ∷ ss) es h d l) (lex c f e k)
no_further w n ss es h d l (Name m t) c f e none = absurd none
no_further w n ss es h d l (Binary Sign t) c f e none = absurd none
no_further w n ss es h d l (Numeral m t) c f e none = absurd none
no_further w n ss es h d l (Constant t) c f e none = absurd none
no_further w n ss es h d l (Opens o) c f e none = absurd none
no_further w n ss es h d l (StatementMeta t) c f e none = absurd none
no_further w n ss es h d l (OperandMeta m t) c f e none = absurd none
no_further w n ss es h d l Caret c f e none = absurd none
no_further w n ss es h d l Period c f e none = absurd none
no_further w n ss es h d l k c f e none = refl

-- what stands behind a return
law_Finish : {i j : Input} {c : Notes} → Finish Longest i c j → (f : ℕ) (w : Enclosure) (n : ℕ) (ss : List Part) (es : List Event) (h : Head) →
    go (behind_statement f w n true ∷ ss) es h i ≡ go (statements_part w n rest.Periods ∷ ss) (es ++ event.Statement f c ∷ []) h j
law_Finish {i} (EndedReturn e d) f w n ss es h =
    takes_one (behind_statement f w n true) ss es h i Period e tt refl ∙ law_Periods d w n ss (es ++ event.Statement f (next i).held ∷ []) h
law_Finish {i} (UnendedReturn g) f w n ss es h = law_unended i g f w n true ss es h

-- unary messages of an expression
law_Unaries : {f : ℕ} {i j : Input} {r u : Chain} → Unaries Longest f r i u j → (ss : List Part) (es : List Event) (h : Head) →
    go (all false f r ∷ ss) (es ++ tree_events (whole r)) h i ≡ go (all false f u ∷ ss) (es ++ tree_events (whole u)) h j
law_Unaries {f} {i} {r} (OneUnary {c} {n} e us) ss es h =
    takes_one (all false f r) ss (es ++ tree_events (whole r)) h i (Name c n) e tt (all_name r (told_by r) (Name c n) refl) ∙
    (λ x. go (all_unary f (next i).last r n NoTrees x ∷ ss) (unary_events es f (next i).last r n x) h (next i)) ∙
    law_Unaries us ss es h
law_Unaries {f} {i} {r} (AnyUnary {n} e us) ss es h =
    takes_one (all false f r) ss (es ++ tree_events (whole r)) h i (OperandMeta AnyName n) e tt (all_name r (told_by r) (OperandMeta AnyName n) refl) ∙
    (λ x. go (all_unary f (next i).last r n NoTrees x ∷ ss) (unary_events es f (next i).last r n x) h (next i)) ∙
    law_Unaries us ss es h
law_Unaries (NoUnaries g) ss es h = refl

-- unary messages of a keyword's argument
law_keyword_Unaries : {f : ℕ} {i j : Input} {r u : Chain} → Unaries Longest f r i u j → (ss : List Part) (es : List Event) (h : Head) →
    go (of_keyword false f r ∷ ss) (es ++ tree_events (whole r)) h i ≡ go (of_keyword false f u ∷ ss) (es ++ tree_events (whole u)) h j
law_keyword_Unaries {f} {i} {r} (OneUnary {c} {n} e us) ss es h =
    takes_one (of_keyword false f r) ss (es ++ tree_events (whole r)) h i (Name c n) e tt (keyword_name r (Name c n) refl) ∙
    (λ x. go (keyword_unary f (next i).last r n NoTrees x ∷ ss) (unary_events es f (next i).last r n x) h (next i)) ∙
    law_keyword_Unaries us ss es h
law_keyword_Unaries {f} {i} {r} (AnyUnary {n} e us) ss es h =
    takes_one (of_keyword false f r) ss (es ++ tree_events (whole r)) h i (OperandMeta AnyName n) e tt (keyword_name r (OperandMeta AnyName n) refl) ∙
    (λ x. go (keyword_unary f (next i).last r n NoTrees x ∷ ss) (unary_events es f (next i).last r n x) h (next i)) ∙
    law_keyword_Unaries us ss es h
law_keyword_Unaries (NoUnaries g) ss es h = refl

-- unary messages of a binary message's argument
law_binary_Unaries : {f : ℕ} {i j : Input} {r u : Chain} → Unaries Longest f r i u j → (ss : List Part) (es : List Event) (h : Head) →
    go (of_binary f r ∷ ss) (es ++ tree_events (whole r)) h i ≡ go (of_binary f u ∷ ss) (es ++ tree_events (whole u)) h j
law_binary_Unaries {f} {i} {r} (OneUnary {c} {n} e us) ss es h =
    takes_one (of_binary f r) ss (es ++ tree_events (whole r)) h i (Name c n) e tt (binary_name f r (Name c n) refl) ∙
    (λ x. go (binary_unary f (next i).last r n NoTrees x ∷ ss) (unary_events es f (next i).last r n x) h (next i)) ∙
    law_binary_Unaries us ss es h
law_binary_Unaries {f} {i} {r} (AnyUnary {n} e us) ss es h =
    takes_one (of_binary f r) ss (es ++ tree_events (whole r)) h i (OperandMeta AnyName n) e tt (binary_name f r (OperandMeta AnyName n) refl) ∙
    (λ x. go (binary_unary f (next i).last r n NoTrees x ∷ ss) (unary_events es f (next i).last r n x) h (next i)) ∙
    law_binary_Unaries us ss es h
law_binary_Unaries (NoUnaries g) ss es h = refl

-- the first name of an expression that is no target has messages
named : (c : NameKind) (n : Text) (g b : ℕ) (of_super : Bool) (ss : List Part) (es : List Event) (h : Head) (d : Notes) (l : ℕ) (k : Terminal) (m : Notes) (f e : ℕ) → NoAssignment (Name c n) k →
    step (part.Expression (expression.BehindName g b n of_super) ∷ ss) (reader (part.Expression (expression.BehindName g b n of_super) ∷ ss) es h d l) (lex m f e k) ≡
    step (part.Message (message.All g (row_of of_super) false) ∷ ss) (reader (part.Message (message.All g (row_of of_super) false) ∷ ss) (es ++ event.Var g b n ∷ []) h d l) (lex m f e k)
named c n g b of_super ss es h d l Assignment m f e plain = absurd plain
named c n g b of_super ss es h d l k m f e plain = refl

-- the first name of an expression that is no target has messages
behind_name : (i : Input) (g b : ℕ) (c : NameKind) (n : Text) (of_super : Bool) (ss : List Part) (es : List Event) (h : Head) → NoAssignment (Name c n) (kind_of i) →
    go (part.Expression (expression.BehindName g b n of_super) ∷ ss) es h i ≡ go (part.Message (message.All g (row_of of_super) false) ∷ ss) (es ++ event.Var g b n ∷ []) h i
behind_name i g b c n of_super ss es h plain =
    leaves_one (part.Expression (expression.BehindName g b n of_super)) (part.Message (message.All g (row_of of_super) false)) ss es (es ++ event.Var g b n ∷ []) h i i.held
    (λ m e. named c n g b of_super ss es h i.held i.last (kind_of i) m (from_of i) e plain)

-- the messages of an operand
first_row : (f : ℕ) (r : Chain) → told_by r ≡ false → part.Message (message.All f (row_of (is_waiting r)) false) ≡ all false f r
first_row f (Waiting g h n) e = refl
first_row f (Alone t) e = refl
first_row f (Told g h r s xs) e = cc

-- the messages of an operand, by its first token
operand_row : {i j : Input} {r : Chain} → Operand Longest i r j → (f : ℕ) → part.Message (message.All f (row_of (is_super (kind_of i))) false) ≡ all false f r
operand_row {r} o f = ap (λ b. part.Message (message.All f (row_of b) false)) (super_waits o) ∙ first_row f r (fresh_Operand o)

-- the messages of a keyword's argument, by its row
argument_row : (f : ℕ) (r : Chain) → part.Message (message.OfKeyword f (row_of (is_waiting r))) ≡ of_keyword false f r
argument_row f (Waiting g h n) = refl
argument_row f (Alone t) = refl
argument_row f (Told g h r s xs) = refl

-- an operand that is no variable begins an argument
argument_other : (p : Part) (k : Terminal) (f e : ℕ) (r : Reader) → NoVariable k → begin_argument p k f e r ≡ begin_operand k f (pushed p r)
argument_other p (Name c n) f e r h = absurd h
argument_other p (OperandMeta m n) f e r h = absurd h
argument_other p k f e r h = refl

-- an operand that is no variable begins an expression
expression_other : (k : Terminal) (f e : ℕ) (r : Reader) → NoVariable k → begin_expression k f e r ≡ begin_operand k f (pushed (part.Message (message.All f (row_of (is_super k)) false)) r)
expression_other (Name c n) f e r h = absurd h
expression_other (OperandMeta m n) f e r h = absurd h
expression_other k f e r h = refl

-- a literal begins an operand
operand_literal : (k : Terminal) (f : ℕ) (r : Reader) → IsLiteralStart k → begin_operand k f r ≡ begin_literal k (pushed (part.Literal (literal.BehindOperand f)) r)
operand_literal (Binary Sign s) f r h = refl
operand_literal (Numeral c t) f r h = refl
operand_literal (Constant l) f r h = refl
operand_literal (Opens ArrayStart) f r h = refl
operand_literal (Opens BytesStart) f r h = refl
operand_literal k f r h = absurd h

-- an expression begins an item of a brace array
item_operand : (g n : ℕ) (k : Terminal) (f e : ℕ) (r : Reader) → IsOperandStart k → item_taken g n k f e r ≡ begin_expression k f e (pushed (part.Sequence (sequence.Items g (n + 1) true)) r)
item_operand g n (Name c m) f e r h = refl
item_operand g n (Binary Sign s) f e r h = refl
item_operand g n (Numeral c t) f e r h = refl
item_operand g n (Constant l) f e r h = refl
item_operand g n (Opens o) f e r h = refl
item_operand g n (OperandMeta m t) f e r h = refl
item_operand g n k f e r h = absurd h

-- such an item is taken
item_takes : (g n : ℕ) (k : Terminal) → IsOperandStart k → answer (part.Sequence (sequence.Items g n false)) k ≡ Takes
item_takes g n (Name c m) h = refl
item_takes g n (Binary Sign s) h = refl
item_takes g n (Numeral c t) h = refl
item_takes g n (Constant l) h = refl
item_takes g n (Opens o) h = refl
item_takes g n (OperandMeta m t) h = refl
item_takes g n k h = absurd h

-- an expression begins a statement
statement_operand : (w : Enclosure) (n : ℕ) (k : Terminal) (f e : ℕ) (r : Reader) → IsOperandStart k → statement_taken w n rest.Any k f e r ≡ begin_expression k f e (begun w n f false r)
statement_operand w n (Name c m) f e r h = refl
statement_operand w n (Binary Sign s) f e r h = refl
statement_operand w n (Numeral c t) f e r h = refl
statement_operand w n (Constant l) f e r h = refl
statement_operand w n (Opens o) f e r h = refl
statement_operand w n (OperandMeta m t) f e r h = refl
statement_operand w n k f e r h = absurd h

-- such a statement is taken
statement_takes : (w : Enclosure) (k : Terminal) → IsOperandStart k → statements_answer k rest.Any w ≡ Takes
statement_takes w (Name c m) h = refl
statement_takes w (Binary Sign s) h = refl
statement_takes w (Numeral c t) h = refl
statement_takes w (Constant l) h = refl
statement_takes w (Opens o) h = refl
statement_takes w (OperandMeta m t) h = refl
statement_takes w k h = absurd h

-- what an operand that is no variable does
abbrev Begins : Input → Chain → Input → Type 0
Begins i r j = (ss : List Part) (es : List Event) (h : Head) → NoVariable (kind_of i) → run (begin_operand (kind_of i) (from_of i) (found ss es h (next i))) (next i).rest ≡ go ss (es ++ tree_events (whole r)) h j

-- an operand begins an argument
argument_start : {i j : Input} {r : Chain} → Operand Longest i r j → Begins i r j → (p : Part) (ss : List Part) (es : List Event) (h : Head) →
    run (begin_argument p (kind_of i) (from_of i) (next i).last (found ss es h (next i))) (next i).rest ≡ go (p ∷ ss) (es ++ tree_events (whole r)) h j
argument_start {i} {j} {r} o begins p ss es h = elim (named_or_other o) [
  | inl named ↦
      ap (λ k. run (begin_argument p k (from_of i) (next i).last (found ss es h (next i))) (next i).rest) named.is ∙
      (λ x. go (p ∷ ss) (es ++ tree_events (sym named.tree x)) h (sym named.stop x))
  | inr (inl any) ↦
      ap (λ k. run (begin_argument p k (from_of i) (next i).last (found ss es h (next i))) (next i).rest) any.is ∙
      (λ x. go (p ∷ ss) (es ++ tree_events (sym any.tree x)) h (sym any.stop x))
  | inr (inr other) ↦
      ap (λ x. run x (next i).rest) (argument_other p (kind_of i) (from_of i) (next i).last (found ss es h (next i)) other) ∙ begins (p ∷ ss) es h other
]

-- an operand begins an expression
expression_start : {i j : Input} {r : Chain} → Operand Longest i r j → Begins i r j → NoAssignment (kind_of i) (kind_of (next i)) → (ss : List Part) (es : List Event) (h : Head) →
    run (begin_expression (kind_of i) (from_of i) (next i).last (found ss es h (next i))) (next i).rest ≡ go (all false (from_of i) r ∷ ss) (es ++ tree_events (whole r)) h j
expression_start {i} {j} {r} o begins plain ss es h =
    let f = from_of i in
    let same = operand_row o f in
    elim (named_or_other o) [
      | inl named ↦
          ap (λ k. run (begin_expression k f (next i).last (found ss es h (next i))) (next i).rest) named.is ∙
          behind_name (next i) f (next i).last named.kind named.name (is_super (Name named.kind named.name)) ss es h (subst (λ k. NoAssignment k (kind_of (next i))) named.is plain) ∙
          (λ x. go ((ap (λ k. part.Message (message.All f (row_of (is_super k)) false)) (sym named.is) ∙ same) x ∷ ss) (es ++ tree_events (sym named.tree x)) h (sym named.stop x))
      | inr (inl any) ↦
          ap (λ k. run (begin_expression k f (next i).last (found ss es h (next i))) (next i).rest) any.is ∙
          (λ x. go ((ap (λ k. part.Message (message.All f (row_of (is_super k)) false)) (sym any.is) ∙ same) x ∷ ss) (es ++ tree_events (sym any.tree x)) h (sym any.stop x))
      | inr (inr other) ↦
          ap (λ x. run x (next i).rest) (expression_other (kind_of i) f (next i).last (found ss es h (next i)) other) ∙
          begins (part.Message (message.All f (row_of (is_super (kind_of i))) false) ∷ ss) es h other ∙
          ap (λ p. go (p ∷ ss) (es ++ tree_events (whole r)) h j) same
    ]

-- an expression stands where one may
expression_whole : {i j : Input} {t : SpannedTree} → Expression Longest i t j → (ss : List Part) (es : List Event) (h : Head) →
    go (whole_part ∷ ss) es h i ≡ run (begin_expression (kind_of i) (from_of i) (next i).last (found ss es h (next i))) (next i).rest
expression_whole {i} d ss es h =
    let s = starts_Expression d in
    takes_one whole_part ss es h i (kind_of i) refl (real_operand (kind_of i) s) (ap (λ b. taken_if b Refuses) (begins_with (kind_of i) s))

-- a message with one argument
one_argument : (es : List Event) (f e : ℕ) (r : Chain) (s : Text) (x : SpannedTree) → es ++ tree_events (whole r) ++ tree_events x ++ event.Send f e 1 s ∷ [] ≡ es ++ tree_events (whole (sent f e r s (one_tree x)))
one_argument es f e r s x =
    joined_events es (tree_events (whole r)) (tree_events x) (event.Send f e 1 s ∷ []) ∙
    ap (λ y. es ++ (tree_events (whole r) ++ y ++ event.Send f e 1 s ∷ [])) (sym (append-nil (tree_events x))) ∙ ap (λ y. es ++ y) (sym (sent_events f e r s (one_tree x)))

-- an expression where one may stand
whole_of : {i j : Input} {t : SpannedTree} → Expression Longest i t j → (ss : List Part) (es : List Event) (h : Head) →
    run (begin_expression (kind_of i) (from_of i) (next i).last (found ss es h (next i))) (next i).rest ≡ go ss (es ++ tree_events t) h j →
    go (whole_part ∷ ss) es h i ≡ go ss (es ++ tree_events t) h j
whole_of d ss es h read = expression_whole d ss es h ∙ read

-- the statements of a block behind its declarations
body_of : {i j : Input} {steps : SpannedStatements} → Statements Longest i steps j → (ps ds : List Declared) (w : Enclosure) (ss : List Part) (es : List Event) (h : Head) →
    go (statements_part w 0 rest.Any ∷ ss) (es ++ event.Enter (declarations ps) (declarations ds) ∷ []) h i ≡ go (statements_part w (0 + count_statements steps) rest.Periods ∷ ss) (es ++ event.Enter (declarations ps) (declarations ds) ∷ [] ++ statements_events steps) h j →
    go (statements_part w 0 rest.Any ∷ ss) (es ++ event.Enter (declarations ps) (declarations ds) ∷ []) h i ≡ go (statements_part w (count_statements steps) rest.Periods ∷ ss) (es ++ event.Enter (declarations ps) (declarations ds) ∷ statements_events steps) h j
body_of {j} {steps} b ps ds w ss es h read =
    let q : List Event = event.Enter (declarations ps) (declarations ds) ∷ [] in
    read ∙ ap (λ y. go (statements_part w y rest.Periods ∷ ss) (es ++ q ++ statements_events steps) h j) (zero (count_statements steps)) ∙
    ap (λ y. go (statements_part w (count_statements steps) rest.Periods ∷ ss) y h j) (append_assoc es q (statements_events steps))

-- The part behind the messages of an expression, where these events are found: it ends with all of them, or a cascade
-- begins.
record Over (p : Part) (es : List Event) (f : ℕ) (r : Chain) (i : Input) (fs : List Event) : Type 0 where
  pass : IsWhole r → NoSemicolon (kind_of i) → (ss : List Part) (h : Head) → go (p ∷ ss) es h i ≡ go ss fs h i
  take : told_by r ≡ true → kind_of i ≡ Semicolon → (ss : List Part) (h : Head) → go (p ∷ ss) es h i ≡ go (part.Message (message.InCascade f 2) ∷ ss) (recast fs) h (next i)

-- behind unary and binary messages
over_all : (b : Bool) (es : List Event) (f : ℕ) (r : Chain) (i : Input) → NoOperator (kind_of i) → NoKey (kind_of i) → Over (all b f r) es f r i es
over_all b es f r i o k = record {
  pass = λ w g ss h. passes_one (all b f r) ss es h i (messages_over (row_at b r) (told_by r) (kind_of i) (whole_row b r w) o.name o.binary k g);
  take = λ t semi ss h. takes_one (all b f r) ss es h i Semicolon semi tt (all_semicolon b r t);
}

-- behind a whole message
over_any : (b : Bool) (es : List Event) (f e : ℕ) (r : Chain) (s : Text) (xs : SpannedTrees) (i : Input) → NoKey (kind_of i) → Over (part.Message (message.BehindAny f (is_told_behind (row_at b r)))) es f (sent f e r s xs) i es
over_any b es f e r s xs i k =
    let p = part.Message (message.BehindAny f (is_told_behind (row_at b r))) in
    record {
      pass = λ w g ss h. passes_one p ss es h i (any_over (is_told_behind (row_at b r)) (kind_of i) k g);
      take = λ t semi ss h. takes_one p ss es h i Semicolon semi tt (ap (λ x. taken_if x Refuses) (told_behind b f e r s xs ∙ t));
    }

-- behind the arguments of keywords
over_keywords : (b : Bool) (es : List Event) (f : ℕ) (r : Chain) (s : Text) (n : ℕ) (xs : SpannedTrees) (i : Input) (fs : List Event) → NoKey (kind_of i) → es ++ event.Send f i.last n s ∷ [] ≡ fs →
    Over (part.Message (message.BehindKeyword (target.Receiver f (is_told_behind (row_at b r))) n s)) es f (sent f i.last r s xs) i fs
over_keywords b es f r s n xs i fs k same =
    let t = target.Receiver f (is_told_behind (row_at b r)) in
    let p = part.Message (message.BehindKeyword t n s) in
    record {
      pass = λ w g ss h. passes_one p ss es h i (keywords_over (is_told t) (kind_of i) k g) ∙ ap (λ x. go ss x h i) same;
      take = λ told semi ss h.
          takes_one p ss es h i Semicolon semi tt (ap (λ x. taken_if x Refuses) (told_behind b f i.last r s xs ∙ told)) ∙
          ap (λ x. go (part.Message (message.InCascade f 2) ∷ ss) x h (next i)) (sym (recast_last es (event.Send f i.last n s)) ∙ ap recast same);
    }

-- The part behind a message of a cascade, the last of so many, where these events are found: it ends with all of them
-- and the cascade, or the cascade goes on.
record Further (p : Part) (es : List Event) (f n : ℕ) (i : Input) (fs : List Event) : Type 0 where
  pass : NoSemicolon (kind_of i) → (ss : List Part) (h : Head) → go (p ∷ ss) es h i ≡ go ss (fs ++ event.Cascade f i.last n ∷ []) h i
  take : kind_of i ≡ Semicolon → (ss : List Part) (h : Head) → go (p ∷ ss) es h i ≡ go (part.Message (message.InCascade f (n + 1)) ∷ ss) fs h (next i)

-- behind a unary or binary message
further_plain : (es : List Event) (f n : ℕ) (i : Input) → Further (part.Message (message.BehindCascade f n false)) es f n i es
further_plain es f n i =
    let p = part.Message (message.BehindCascade f n false) in
    record {
      pass = λ g ss h. passes_one p ss es h i (ap (λ b. taken_if b Passes) (not_semicolon (kind_of i) g));
      take = λ semi ss h. takes_one p ss es h i Semicolon semi tt refl;
    }

-- behind a whole message
further_any : (es : List Event) (f n : ℕ) (i : Input) → NoKey (kind_of i) → Further (part.Message (message.BehindCascade f n true)) es f n i es
further_any es f n i k =
    let p = part.Message (message.BehindCascade f n true) in
    record {
      pass = λ g ss h. passes_one p ss es h i (any_over true (kind_of i) k g);
      take = λ semi ss h. takes_one p ss es h i Semicolon semi tt refl;
    }

-- behind the arguments of keywords
further_keywords : (es : List Event) (f n m : ℕ) (s : Text) (i : Input) (fs : List Event) → NoKey (kind_of i) → es ++ event.Message s m ∷ [] ≡ fs →
    Further (part.Message (message.BehindKeyword (target.Cascade f n) m s)) es f n i fs
further_keywords es f n m s i fs k same =
    let p = part.Message (message.BehindKeyword (target.Cascade f n) m s) in
    record {
      pass = λ g ss h. passes_one p ss es h i (keywords_over true (kind_of i) k g) ∙ ap (λ x. go ss (x ++ event.Cascade f i.last n ∷ []) h i) same;
      take = λ semi ss h. takes_one p ss es h i Semicolon semi tt refl ∙ ap (λ x. go (part.Message (message.InCascade f (n + 1)) ∷ ss) x h (next i)) same;
    }

-- a message of a cascade is read
record OneRead (f n : ℕ) (es : List Event) (i j : Input) (fs : List Event) : Type 0 where
  behind : Part
  events : List Event
  read : (ss : List Part) (h : Head) → go (part.Message (message.InCascade f n) ∷ ss) es h i ≡ go (behind ∷ ss) events h j
  further : Further behind events f n j fs

-- behind the arguments of keywords no keyword follows
ends_parts : {i j : Input} {s : Text} {xs : SpannedTrees} → Parts Longest i s xs j → NoKey (kind_of j)
ends_parts (LastPart e x h) = h
ends_parts (FurtherPart e x d) = ends_parts d

-- binary messages came, or the flag is set
abbrev behind_binaries : {f : ℕ} {i j : Input} {r u : Chain} → Bool → Binaries Longest f r i u j → Bool
behind_binaries b (OneBinary e a bs) = behind_binaries true bs
behind_binaries b (NoBinaries g) = b

mutual
  -- an operand that is no variable, behind its first token
  law_Operand : {i j : Input} {r : Chain} → Operand Longest i r j → Begins i r j
  law_Operand (Variable {n} e) ss es h other = absurd (subst NoVariable e other)
  law_Operand (SuperName {n} e) ss es h other = absurd (subst NoVariable e other)
  law_Operand (MetaOperand e) ss es h other = absurd (subst NoVariable e other)
  law_Operand {i} {j} (LiteralOperand {l} d) ss es h other =
      ap (λ r. run r (next i).rest) (operand_literal (kind_of i) (from_of i) (found ss es h (next i)) (starts_LiteralAt d)) ∙
      law_LiteralAt d (part.Literal (literal.BehindOperand (from_of i)) ∷ ss) es h ∙
      passes_one (part.Literal (literal.BehindOperand (from_of i))) ss (es ++ literal_events l) h j refl ∙
      ap (λ x. go ss x h j) (append_assoc es (literal_events l) (event.Literal (from_of i) j.last ∷ []))
  law_Operand {i} (Grouped {m} {t} e d c) ss es h other =
      ap (λ k. run (begin_operand k (from_of i) (found ss es h (next i))) (next i).rest) e ∙
      whole_of d (part.Sequence sequence.GroupEnd ∷ ss) es h (law_Expression d (part.Sequence sequence.GroupEnd ∷ ss) es h) ∙ takes_one (part.Sequence sequence.GroupEnd) ss (es ++ tree_events t) h m (Closes GroupEnd) c tt refl
  law_Operand {i} (BlockOperand {m} {ps} {ds} {ss = steps} e b c) ss es h other =
      let w = enclosure.Block (from_of i) (next i).held in
      let n = count_statements steps in
      let head : List Event = event.Enter (declarations ps) (declarations ds) ∷ statements_events steps in
      ap (λ k. run (begin_operand k (from_of i) (found ss es h (next i))) (next i).rest) e ∙
      law_BlockBody b w ss es h ∙ takes_one (statements_part w n rest.Periods) ss (es ++ head) h m (Closes BlockEnd) c tt refl ∙
      ap (λ x. go ss x h (back (next i) (next m))) (append_assoc es head (event.Block (from_of i) (next m).last n (next m).held ∷ []))
  law_Operand {i} (BraceOperand {m} {ts} e d c) ss es h other =
      ap (λ k. run (begin_operand k (from_of i) (found ss es h (next i))) (next i).rest) e ∙
      law_Items d c (from_of i) 0 ss es h ∙
      (let z = zero (count_trees ts) in
      let l = append_assoc es (trees_events ts) (event.Brace (from_of i) (next m).last (count_trees ts) ∷ []) in
      ap (λ y. go ss (es ++ trees_events ts ++ event.Brace (from_of i) (next m).last y ∷ []) h (next m)) z ∙ ap (λ x. go ss x h (next m)) l)

  -- an expression, behind its first token
  pub law_Expression : {i j : Input} {t : SpannedTree} → Expression Longest i t j → (ss : List Part) (es : List Event) (h : Head) →
      run (begin_expression (kind_of i) (from_of i) (next i).last (found ss es h (next i))) (next i).rest ≡ go ss (es ++ tree_events t) h j
  law_Expression {i} {j} (Assigned {c} {n} {v} e f d) ss es h =
      let g = from_of i in
      let target : List Event = event.Target g n ∷ [] in
      ap (λ k. run (begin_expression k g (next i).last (found ss es h (next i))) (next i).rest) e ∙
      takes_one (part.Expression (expression.BehindName g (next i).last n (is_super (Name c n)))) ss es h (next i) Assignment f tt refl ∙
      whole_of d (part.Expression (expression.BehindValue g) ∷ ss) (es ++ target) h (law_Expression d (part.Expression (expression.BehindValue g) ∷ ss) (es ++ target) h) ∙
      passes_one (part.Expression (expression.BehindValue g)) ss (es ++ target ++ tree_events v) h j refl ∙
      ap (λ x. go ss x h j) (joined_events es target (tree_events v) (event.Assign g j.last ∷ []))
  law_Expression {i} {j} {t} (Simple plain o us bs ks c) ss es h =
      let f = from_of i in
      let told = told_messages o us bs ks in
      expression_start o (law_Operand o) plain ss es h ∙ law_Unaries us ss es h ∙ law_Binaries bs false ss es h ∙
      law_Keywords j t ks (behind_binaries false bs) (ends_operators us bs) es (λ p fs over. law_Cascaded c f told p fs es over) ss h

  -- the argument of a binary message
  law_Argument : {i j : Input} {t : SpannedTree} → Argument Longest i t j → (ss : List Part) (es : List Event) (h : Head) →
      go (part.Expression expression.BinaryArgument ∷ ss) es h i ≡ go ss (es ++ tree_events t) h j
  law_Argument {i} {j} (BinaryArgument {m} {r} {u} o us w) ss es h =
      let f = from_of i in
      let s = starts_Operand o in
      takes_one (part.Expression expression.BinaryArgument) ss es h i (kind_of i) refl (real_operand (kind_of i) s) (ap (λ b. taken_if b Refuses) (begins_with (kind_of i) s)) ∙
      argument_start o (law_Operand o) (part.Message (message.OfBinary f (is_super (kind_of i)))) ss es h ∙
      ap (λ b. go (part.Message (message.OfBinary f b) ∷ ss) (es ++ tree_events (whole r)) h m) (super_waits o) ∙
      law_binary_Unaries us ss es h ∙
      passes_one (of_binary f u) ss (es ++ tree_events (whole u)) h j (binary_over f u (kind_of j) w (ends_Unaries us))

  -- the argument of a keyword
  law_KeywordArgument : {i j : Input} {t : SpannedTree} → KeywordArgument Longest i t j → (ss : List Part) (es : List Event) (h : Head) →
      go (part.Expression expression.KeywordArgument ∷ ss) es h i ≡ go ss (es ++ tree_events t) h j
  law_KeywordArgument {i} {j} (ArgumentOfKeyword {m} {r} {b} o us bs w) ss es h =
      let f = from_of i in
      let n = ends_operators us bs in
      let s = starts_Operand o in
      let is = behind_binaries false bs in
      takes_one (part.Expression expression.KeywordArgument) ss es h i (kind_of i) refl (real_operand (kind_of i) s) (ap (λ b. taken_if b Refuses) (begins_with (kind_of i) s)) ∙
      argument_start o (law_Operand o) (part.Message (message.OfKeyword f (row_of (is_super (kind_of i))))) ss es h ∙
      ap (λ p. go (p ∷ ss) (es ++ tree_events (whole r)) h m) (ap (λ b. part.Message (message.OfKeyword f (row_of b))) (super_waits o) ∙ argument_row f r) ∙
      law_keyword_Unaries us ss es h ∙ law_keyword_Binaries bs false ss es h ∙
      passes_one (of_keyword is f b) ss (es ++ tree_events (whole b)) h j (operators_over (row_at is b) (kind_of j) (whole_row is b w) n.name n.binary)

  -- binary messages of an expression
  law_Binaries : {f : ℕ} {i j : Input} {r u : Chain} (bs : Binaries Longest f r i u j) (b : Bool) (ss : List Part) (es : List Event) (h : Head) →
      go (all b f r ∷ ss) (es ++ tree_events (whole r)) h i ≡ go (all (behind_binaries b bs) f u ∷ ss) (es ++ tree_events (whole u)) h j
  law_Binaries {f} {i} {r} (OneBinary {m} {c} {s} {x} e a bs) b ss es h =
      let rs = es ++ tree_events (whole r) in
      let q = part.Message (message.All f row.Binary (is_told_behind (row_at b r))) in
      takes_one (all b f r) ss rs h i (Binary c s) e tt (all_selector b r (told_by r) c s) ∙ law_Argument a (part.Message (message.BehindArgument (Some f) s) ∷ q ∷ ss) rs h ∙
      passes_one (part.Message (message.BehindArgument (Some f) s)) (q ∷ ss) (rs ++ tree_events x) h m refl ∙
      (λ y. go (all_binary b f m.last r s (one_tree x) y ∷ ss) (one_argument es f m.last r s x y) h m) ∙ law_Binaries bs true ss es h
  law_Binaries (NoBinaries g) b ss es h = refl

  -- binary messages of a keyword's argument
  law_keyword_Binaries : {f : ℕ} {i j : Input} {r u : Chain} (bs : Binaries Longest f r i u j) (b : Bool) (ss : List Part) (es : List Event) (h : Head) →
      go (of_keyword b f r ∷ ss) (es ++ tree_events (whole r)) h i ≡ go (of_keyword (behind_binaries b bs) f u ∷ ss) (es ++ tree_events (whole u)) h j
  law_keyword_Binaries {f} {i} {r} (OneBinary {m} {c} {s} {x} e a bs) b ss es h =
      let rs = es ++ tree_events (whole r) in
      let q = part.Message (message.OfKeyword f row.Binary) in
      takes_one (of_keyword b f r) ss rs h i (Binary c s) e tt (keyword_selector b r c s) ∙ law_Argument a (part.Message (message.BehindArgument (Some f) s) ∷ q ∷ ss) rs h ∙
      passes_one (part.Message (message.BehindArgument (Some f) s)) (q ∷ ss) (rs ++ tree_events x) h m refl ∙
      (λ y. go (keyword_binary f m.last r s (one_tree x) y ∷ ss) (one_argument es f m.last r s x y) h m) ∙ law_keyword_Binaries bs true ss es h
  law_keyword_Binaries (NoBinaries g) b ss es h = refl

  -- the arguments of a message's keywords, behind the first keyword, to which others were joined
  law_Parts : {i j : Input} {s : Text} {xs : SpannedTrees} (d : Parts Longest i s xs j) (t : Target) (p : Text) (n : ℕ) (ss : List Part) (es : List Event) (h : Head) →
      go (part.Expression expression.KeywordArgument ∷ part.Message (message.BehindKeyword t (n + 1) (p ++ (first_of_parts d).1)) ∷ ss) es h (next i) ≡
      go (part.Message (message.BehindKeyword t (n + count_trees xs) (p ++ s)) ∷ ss) (es ++ trees_events xs) h j
  law_Parts {i} {j} (LastPart {c} {k} {x} e a none) t p n ss es h =
      law_KeywordArgument a (part.Message (message.BehindKeyword t (n + 1) (p ++ k)) ∷ ss) es h ∙
      (let b : n + 1 ≡ n + suc 0 = omega arith in
      let l = ap (λ y. es ++ y) (sym (append-nil (tree_events x))) in
      λ y. go (part.Message (message.BehindKeyword t (b y) (p ++ k)) ∷ ss) (l y) h j)
  law_Parts {i} {j} (FurtherPart {m} {c} {k} {s} {x} {xs} e a d) t p n ss es h =
      let f = first_of_parts d in
      law_KeywordArgument a (part.Message (message.BehindKeyword t (n + 1) (p ++ k)) ∷ ss) es h ∙
      takes_one (part.Message (message.BehindKeyword t (n + 1) (p ++ k))) ss (es ++ tree_events x) h m (Keyword f.0 f.1) f.2 tt refl ∙
      law_Parts d t (p ++ k) (n + 1) ss (es ++ tree_events x) h ∙
      (let a = append_assoc p k s in
      let b : n + 1 + count_trees xs ≡ n + suc (count_trees xs) = omega arith in
      let l = append_assoc es (tree_events x) (trees_events xs) in
      λ y. go (part.Message (message.BehindKeyword t (b y) (a y)) ∷ ss) (l y) h j)

  -- a keyword message or none, and what stands behind the part that then comes first
  law_Keywords : {f : ℕ} {i j : Input} {r u : Chain} (k : Input) (t : SpannedTree) (ks : Keywords Longest f r i u j) (b : Bool) → NoOperator (kind_of i) → (es : List Event) →
      ((p : Part) (fs : List Event) → Over p fs f u j (es ++ tree_events (whole u)) → (ss : List Part) (h : Head) → go (p ∷ ss) fs h j ≡ go ss (es ++ tree_events t) h k) →
      (ss : List Part) (h : Head) → go (all b f r ∷ ss) (es ++ tree_events (whole r)) h i ≡ go ss (es ++ tree_events t) h k
  law_Keywords {f} {i} {j} {r} end tree (OneKeywords {s} {xs} d) b o es behind ss h =
      let k = first_of_parts d in
      let rs = es ++ tree_events (whole r) in
      let n = count_trees xs in
      let e = event.Send f j.last n s in
      let t = target.Receiver f (is_told_behind (row_at b r)) in
      takes_one (all b f r) ss rs h i (Keyword k.0 k.1) k.2 tt (all_key b r (told_by r) k.0 k.1) ∙ law_Parts d t [] 0 ss rs h ∙
      ap (λ y. go (part.Message (message.BehindKeyword t y s) ∷ ss) (rs ++ trees_events xs) h j) (zero n) ∙
      behind (part.Message (message.BehindKeyword t n s)) (rs ++ trees_events xs)
      (over_keywords b (rs ++ trees_events xs) f r s n xs j (es ++ tree_events (whole (sent f j.last r s xs))) (ends_parts d)
      (joined_events es (tree_events (whole r)) (trees_events xs) (e ∷ []) ∙ ap (λ y. es ++ y) (sym (sent_events f j.last r s xs)))) ss h
  law_Keywords {f} {i} {r} end tree (AnyKeywords (WholeMessage {k} {n} e g none)) b o es behind ss h =
      let m = next (next i) in
      let x : SpannedTree = Var (from_of (next i)) m.last n in
      let rs = es ++ tree_events (whole r) in
      let argument : Part = part.Message (message.BehindArgument (Some f) k) in
      let p = part.Message (message.BehindAny f (is_told_behind (row_at b r))) in
      let fs = es ++ tree_events (whole (sent f m.last r k (one_tree x))) in
      takes_one (all b f r) ss rs h i (MessageMeta k) e tt (all_whole b r (told_by r) k) ∙
      takes_one (part.Expression expression.AnyArgument) (argument ∷ p ∷ ss) rs h (next i) (OperandMeta AnyExpression n) g tt refl ∙
      passes_one argument (p ∷ ss) (rs ++ tree_events x) h m refl ∙
      ap (λ y. go (p ∷ ss) y h m) (one_argument es f m.last r k x) ∙
      behind p fs (over_any b fs f m.last r k (one_tree x) m none) ss h
  law_Keywords {f} {i} {r} end tree (NoKeywords g) b o es behind ss h =
      let rs = es ++ tree_events (whole r) in
      behind (all b f r) rs (over_all b rs f r i o g) ss h

  -- a cascade or none
  law_Cascaded : {r : Chain} {i j : Input} {t : SpannedTree} → Cascaded Longest r i t j → (f : ℕ) → ToldFrom f r → (p : Part) (fs es : List Event) → Over p fs f r i (es ++ tree_events (whole r)) → (ss : List Part) (h : Head) →
      go (p ∷ ss) fs h i ≡ go ss (es ++ tree_events t) h j
  law_Cascaded (NoCascade w g) f told p fs es over ss h = over.pass w g ss h
  law_Cascaded {i} {j} (OneCascade {f = g} {e} {r} {s} {xs} {ms} semi d) f told p fs es over ss h =
      let before = es ++ (tree_events r ++ trees_events xs) in
      let n = count_trees xs in
      let first = before ++ event.Message s n ∷ [] in
      over.take refl semi ss h ∙
      ap (λ y. go (part.Message (message.InCascade f 2) ∷ ss) y h (next i))
      (ap recast (sym (append_assoc es (tree_events r ++ trees_events xs) (event.Send g e n s ∷ []))) ∙ recast_last before (event.Send g e n s)) ∙
      sym (takes_one (part.Message (message.BehindCascade f 1 false)) ss first h i Semicolon semi tt refl) ∙
      law_Messages d f 1 (part.Message (message.BehindCascade f 1 false)) first first (further_plain first f 1 i) ss h ∙
      (let b : 1 + count_messages ms ≡ suc (count_messages ms) = omega arith in
      λ y. go ss (first ++ messages_events ms ++ event.Cascade (told y) j.last (b y) ∷ []) h j) ∙
      ap (λ y. go ss y h j) (cascade_events es (tree_events r) (trees_events xs) (messages_events ms) (event.Cascade g j.last (suc (count_messages ms)) ∷ []) (event.Message s n))

  -- the messages of a cascade
  law_Messages : {i j : Input} {ms : SpannedMessages} → Messages Longest i ms j → (f n : ℕ) (p : Part) (fs es : List Event) → Further p fs f n i es → (ss : List Part) (h : Head) →
      go (p ∷ ss) fs h i ≡ go ss (es ++ messages_events ms ++ event.Cascade f j.last (n + count_messages ms) ∷ []) h j
  law_Messages {i} {j} (OneMessage {m} {s} {xs} {ms} e d r) f n p fs es further ss h =
      let one = law_Message d f (n + 1) es in
      let more = es ++ (trees_events xs ++ event.Message s (count_trees xs) ∷ []) in
      further.take e ss h ∙ one.read ss h ∙
      law_Messages r f (n + 1) one.behind one.events more one.further ss h ∙
      (let b : n + 1 + count_messages ms ≡ n + suc (count_messages ms) = omega arith in
      let l = append_assoc es (trees_events xs ++ event.Message s (count_trees xs) ∷ []) (messages_events ms) ∙ ap (λ y. es ++ y) (append_assoc (trees_events xs) (event.Message s (count_trees xs) ∷ []) (messages_events ms)) in
      λ y. go ss (l y ++ event.Cascade f j.last (b y) ∷ []) h j)
  law_Messages {i} (LastMessage g) f n p fs es further ss h =
      further.pass g ss h ∙
      (let b : n ≡ n + 0 = omega arith in
      let l = sym (append-nil es) in
      λ y. go ss (l y ++ event.Cascade f i.last (b y) ∷ []) h i)

  -- one message of a cascade
  law_Message : {i j : Input} {s : Text} {xs : SpannedTrees} → Message Longest i s xs j → (f n : ℕ) (es : List Event) → OneRead f n es i j (es ++ (trees_events xs ++ event.Message s (count_trees xs) ∷ []))
  law_Message {i} (UnaryMessage {c} {n = m} e) f n es = record {
    behind = part.Message (message.BehindCascade f n false);
    events = es ++ event.Message m 0 ∷ [];
    read = λ ss h. takes_one (part.Message (message.InCascade f n)) ss es h i (Name c m) e tt refl;
    further = further_plain (es ++ event.Message m 0 ∷ []) f n (next i);
  }
  law_Message {i} (AnyUnaryMessage {n = m} e) f n es = record {
    behind = part.Message (message.BehindCascade f n false);
    events = es ++ event.Message m 0 ∷ [];
    read = λ ss h. takes_one (part.Message (message.InCascade f n)) ss es h i (OperandMeta AnyName m) e tt refl;
    further = further_plain (es ++ event.Message m 0 ∷ []) f n (next i);
  }
  law_Message {i} {j} (BinaryMessage {c} {s} {x} e a) f n es =
      let p = part.Message (message.BehindCascade f n false) in
      let fs = es ++ (trees_events (one_tree x) ++ event.Message s 1 ∷ []) in
      let argument : Part = part.Message (message.BehindArgument None s) in
      record {
        behind = p;
        events = fs;
        read = λ ss h.
            takes_one (part.Message (message.InCascade f n)) ss es h i (Binary c s) e tt refl ∙ law_Argument a (argument ∷ p ∷ ss) es h ∙
            passes_one argument (p ∷ ss) (es ++ tree_events x) h j refl ∙
            ap (λ y. go (p ∷ ss) y h j) (append_assoc es (tree_events x) (event.Message s 1 ∷ []) ∙ ap (λ y. es ++ (y ++ event.Message s 1 ∷ [])) (sym (append-nil (tree_events x))));
        further = further_plain fs f n j;
      }
  law_Message {i} (AnyKeywordMessage (WholeMessage {k} {n = name} e g none)) f n es =
      let m = next (next i) in
      let x : SpannedTree = Var (from_of (next i)) m.last name in
      let p = part.Message (message.BehindCascade f n true) in
      let fs = es ++ (trees_events (one_tree x) ++ event.Message k 1 ∷ []) in
      let argument : Part = part.Message (message.BehindArgument None k) in
      record {
        behind = p;
        events = fs;
        read = λ ss h.
            takes_one (part.Message (message.InCascade f n)) ss es h i (MessageMeta k) e tt refl ∙
            takes_one (part.Expression expression.AnyArgument) (argument ∷ p ∷ ss) es h (next i) (OperandMeta AnyExpression name) g tt refl ∙
            passes_one argument (p ∷ ss) (es ++ tree_events x) h m refl ∙
            ap (λ y. go (p ∷ ss) y h m) (append_assoc es (tree_events x) (event.Message k 1 ∷ []));
        further = further_any fs f n m none;
      }
  law_Message {i} {j} (KeywordMessage {s} {xs} d) f n es =
      let k = first_of_parts d in
      let t = target.Cascade f n in
      let c = count_trees xs in
      record {
        behind = part.Message (message.BehindKeyword t c s);
        events = es ++ trees_events xs;
        read = λ ss h.
            takes_one (part.Message (message.InCascade f n)) ss es h i (Keyword k.0 k.1) k.2 tt refl ∙ law_Parts d t [] 0 ss es h ∙
            ap (λ y. go (part.Message (message.BehindKeyword t y s) ∷ ss) (es ++ trees_events xs) h j) (zero c);
        further = further_keywords (es ++ trees_events xs) f n c s j (es ++ (trees_events xs ++ event.Message s c ∷ [])) (ends_parts d) (append_assoc es (trees_events xs) (event.Message s c ∷ []));
      }

  -- the expressions of a brace array and the brace behind them
  law_Items : {i j : Input} {ts : SpannedTrees} → Items Longest i ts j → kind_of j ≡ Closes BraceEnd → (g n : ℕ) (ss : List Part) (es : List Event) (h : Head) →
      go (part.Sequence (sequence.Items g n false) ∷ ss) es h i ≡ go ss (es ++ trees_events ts ++ event.Brace g (next j).last (n + count_trees ts) ∷ []) h (next j)
  law_Items {i} (NoItems none) c g n ss es h =
      takes_one (part.Sequence (sequence.Items g n false)) ss es h i (Closes BraceEnd) c tt refl ∙
      (let b : n ≡ n + 0 = omega arith in
      let l = sym (append-nil es) in
      λ y. go ss (l y ++ event.Brace g (next i).last (b y) ∷ []) h (next i))
  law_Items {i} {j} (OneItem {t} {ts} d r) c g n ss es h =
      let s = starts_Expression d in
      takes_one (part.Sequence (sequence.Items g n false)) ss es h i (kind_of i) refl (real_operand (kind_of i) s) (item_takes g n (kind_of i) s) ∙
      ap (λ r. run r (next i).rest) (item_operand g n (kind_of i) (from_of i) (next i).last (found ss es h (next i)) s) ∙
      law_Expression d (part.Sequence (sequence.Items g (n + 1) true) ∷ ss) es h ∙ law_FurtherItems r c g (n + 1) ss (es ++ tree_events t) h ∙
      (let b : n + 1 + count_trees ts ≡ n + suc (count_trees ts) = omega arith in
      let l = append_assoc es (tree_events t) (trees_events ts) in
      λ y. go ss (l y ++ event.Brace g (next j).last (b y) ∷ []) h (next j))

  -- what stands behind an expression of a brace array
  law_FurtherItems : {i j : Input} {ts : SpannedTrees} → FurtherItems Longest i ts j → kind_of j ≡ Closes BraceEnd → (g n : ℕ) (ss : List Part) (es : List Event) (h : Head) →
      go (part.Sequence (sequence.Items g n true) ∷ ss) es h i ≡ go ss (es ++ trees_events ts ++ event.Brace g (next j).last (n + count_trees ts) ∷ []) h (next j)
  law_FurtherItems {i} (NextItem e d) c g n ss es h = takes_one (part.Sequence (sequence.Items g n true)) ss es h i Period e tt refl ∙ law_Items d c g n ss es h
  law_FurtherItems {i} (LastItem none) c g n ss es h =
      takes_one (part.Sequence (sequence.Items g n true)) ss es h i (Closes BraceEnd) c tt refl ∙
      (let b : n ≡ n + 0 = omega arith in
      let l = sym (append-nil es) in
      λ y. go ss (l y ++ event.Brace g (next i).last (b y) ∷ []) h (next i))

  -- what stands between the brackets of a block
  law_BlockBody : {i j : Input} {ps ds : List Declared} {steps : SpannedStatements} → BlockBody Longest i ps ds steps j → (w : Enclosure) (ss : List Part) (es : List Event) (h : Head) →
      go (part.Block (block.Start w) ∷ ss) es h i ≡ go (statements_part w (count_statements steps) rest.Periods ∷ ss) (es ++ event.Enter (declarations ps) (declarations ds) ∷ statements_events steps) h j
  law_BlockBody (WithoutParameters n (Sequenced {ds} d b)) w ss es h = law_start d n w ss es h ∙ body_of b [] ds w ss es h (law_Statements b w 0 ss (es ++ event.Enter [] (declarations ds) ∷ []) h)
  law_BlockBody {i} {j} (ParametersAlone {ps} e p c) w ss es h =
      law_first i w ss es h e ∙ law_Parameters p w [] ss es h ∙ law_parameters_alone j c w (declarations ps) ss es h
  law_BlockBody {i} (WithParameters {m} {s} {ps} e p c (Sequenced {ds} d b)) w ss es h =
      law_first i w ss es h e ∙ law_Parameters p w [] ss es h ∙
      takes_one (part.Block (block.BehindParameter w (declarations ps))) ss es h m (Binary Bar s) c tt refl ∙
      law_Temporaries d w (declarations ps) ss es h ∙ body_of b ps ds w ss es h (law_Statements b w 0 ss (es ++ event.Enter (declarations ps) (declarations ds) ∷ []) h)

  -- statements
  pub law_Statements : {i j : Input} {steps : SpannedStatements} → Statements Longest i steps j → (w : Enclosure) (n : ℕ) (ss : List Part) (es : List Event) (h : Head) →
      go (statements_part w n rest.Any ∷ ss) es h i ≡ go (statements_part w (n + count_statements steps) rest.Periods ∷ ss) (es ++ statements_events steps) h j
  law_Statements {i} (BlankPeriod e b) w n ss es h = takes_one (statements_part w n rest.Any) ss es h i Period e tt refl ∙ law_Statements b w n ss es h
  law_Statements {i} (NoMore none) w n ss es h =
      leaves_one (statements_part w n rest.Any) (statements_part w n rest.Periods) ss es es h i i.held (λ c e. no_further w n ss es h i.held i.last (kind_of i) c (from_of i) e none) ∙
      (let b : n ≡ n + 0 = omega arith in
      let l = sym (append-nil es) in
      λ y. go (statements_part w (b y) rest.Periods ∷ ss) (l y) h i)
  law_Statements {i} {j} (Returned {m} {t} {c} e d f) w n ss es h =
      let g = from_of i in
      let behind = behind_statement g w (n + 1) true in
      takes_one (statements_part w n rest.Any) ss es h i Caret e tt refl ∙
      whole_of d (part.Sequence (sequence.BehindReturn g) ∷ behind ∷ ss) es h (law_Expression d (part.Sequence (sequence.BehindReturn g) ∷ behind ∷ ss) es h) ∙
      passes_one (part.Sequence (sequence.BehindReturn g)) (behind ∷ ss) (es ++ tree_events t) h m refl ∙
      law_Finish f g w (n + 1) ss (es ++ tree_events t ++ event.Return g m.last ∷ []) h ∙
      ap (λ y. go (statements_part w (n + 1) rest.Periods ∷ ss) y h j) (joined_events es (tree_events t) (event.Return g m.last ∷ []) (event.Statement g c ∷ []))
  law_Statements {i} {j} (AnyStatement {n = name} {c} {ss = steps} e a) w n ss es h =
      let g = from_of i in
      let x : List Event = event.Var g (next i).last name ∷ [] in
      takes_one (statements_part w n rest.Any) ss es h i (StatementMeta name) e tt refl ∙
      law_After a g w (n + 1) ss (es ++ x) h ∙
      (let b : n + 1 + count_statements steps ≡ n + suc (count_statements steps) = omega arith in
      let l = append_assoc es x (event.Statement g c ∷ statements_events steps) in
      λ y. go (statements_part w (b y) rest.Periods ∷ ss) (l y) h j)
  law_Statements {i} {j} (OneStatement {m} {t} {c} {ss = steps} d a) w n ss es h =
      let s = starts_Expression d in
      let g = from_of i in
      takes_one (statements_part w n rest.Any) ss es h i (kind_of i) refl (real_operand (kind_of i) s) (statement_takes w (kind_of i) s) ∙
      ap (λ r. run r (next i).rest) (statement_operand w n (kind_of i) (from_of i) (next i).last (found ss es h (next i)) s) ∙
      law_Expression d (behind_statement g w (n + 1) false ∷ ss) es h ∙
      law_After a g w (n + 1) ss (es ++ tree_events t) h ∙
      (let b : n + 1 + count_statements steps ≡ n + suc (count_statements steps) = omega arith in
      let l = append_assoc es (tree_events t) (event.Statement g c ∷ statements_events steps) in
      λ y. go (statements_part w (b y) rest.Periods ∷ ss) (l y) h j)

  -- what stands behind a statement
  law_After : {i j : Input} {c : Notes} {steps : SpannedStatements} → After Longest i c steps j → (g : ℕ) (w : Enclosure) (n : ℕ) (ss : List Part) (es : List Event) (h : Head) →
      go (behind_statement g w n false ∷ ss) es h i ≡ go (statements_part w (n + count_statements steps) rest.Periods ∷ ss) (es ++ event.Statement g c ∷ statements_events steps) h j
  law_After {i} {j} (Ended {ss = steps} e b) g w n ss es h =
      let q : List Event = event.Statement g (next i).held ∷ [] in
      takes_one (behind_statement g w n false) ss es h i Period e tt refl ∙ law_Statements b w n ss (es ++ q) h ∙
      ap (λ y. go (statements_part w (n + count_statements steps) rest.Periods ∷ ss) y h j) (append_assoc es q (statements_events steps))
  law_After {i} (Unended none) g w n ss es h =
      law_unended i none g w n false ss es h ∙
      (let b : n ≡ n + 0 = omega arith in
      λ y. go (statements_part w (b y) rest.Periods ∷ ss) (es ++ event.Statement g i.held ∷ []) h (clear i))
