-- The canonical texts of cascades, assignments, returns and brace arrays are read as they are.
use Rattle.std.proofs.Common.{◌≡◌, ℕ, ◌+◌, ◌≤◌, true, List, [], ◌∷◌, ◌++◌, arith, refl, ap, sym, subst, ◌∙◌, append_assoc}
use Rattle.std.specs.Prelude.{codes, flat_map}
use Rattle.std.proofs.lemmas.Bool.{false≢true}
use Rattle.tree_model.specs.Tree.{Notes, TreeOf, cascade, assign, brace, return, TreesOf, no_trees, more_trees, MessagesOf, no_messages, more_messages}
use Rattle.tree_model.specs.Measure.{trees_height, messages_height}
use Rattle.text_model.specs.declared.precedence.Precedence.TheVariants as loose
use Rattle.text_model.specs.Precedences.{precedence_of, is_looser, operand_text, message_precedence, receiver_limit}
use Rattle.text_model.specs.Pieces.{pieces_joined}
use Rattle.text_model.specs.Expressions.{expression_text, expression_texts, argument_texts, message_text, message_texts}
use Rattle.grammar_model.specs.Terminal.{Text, Semicolon, BraceStart, BraceEnd}
use Rattle.grammar_model.specs.Input.{Input, kind_of, from_of, next}
use Rattle.grammar_model.specs.Spanned.{Cascade, Assign, Brace, SpannedTrees, NoTrees, MoreTrees, one_tree, SpannedMessages, NoMessages, MoreMessages, plain_trees, plain_messages}
use Rattle.grammar_model.specs.Chain.{Alone}
use Rattle.grammar_model.specs.Ahead.{Any}
use Rattle.grammar_model.specs.Grammar.{Assigned, Simple, BraceOperand, NoUnaries, Cascaded, OneCascade, Messages, OneMessage, LastMessage, Message, UnaryMessage, BinaryMessage, KeywordMessage, Items, NoItems, OneItem, FurtherItems, NextItem, LastItem}
use Rattle.reread_law.specs.WellFormed.{IsWord, FitsArguments, FitsNone, FitsOne, FitsParts, IsValue, AreTwo}
use Rattle.reread_law.proofs.Made.{value_returns}
use Rattle.reread_law.proofs.Bytes.{ends, ends_all}
use Rattle.reread_law.proofs.Words.{semicolon_word, period_word, caret_word, assign_word, brace_open_word, brace_close_word}
use Rattle.reread_law.proofs.Steps.{World, Here, Fresh, step, blank_step, held_as, text_as, counts_open, counts_close}
use Rattle.reread_law.proofs.ReadsLiterals.{step_name, step_operator}
use Rattle.reread_law.proofs.Selectors.{unary_text, binary_text}
use Rattle.reread_law.proofs.Operands.{UnaryRead, ExpressionRead, ReturnRead, Reads, IsReturn, CanRead, can_unary, operand_unary, as_argument}
use Rattle.reread_law.proofs.Messages.{CanReadAll, reads_parts, binary_precedence, keyword_precedence, sends}

-- messages whose arguments are read as they are
abbrev pub CanReadMessages : MessagesOf Text → Type 0
CanReadMessages no_messages = Unit {0}
CanReadMessages (more_messages s xs ms) = FitsArguments s xs × CanReadAll xs × CanReadMessages ms

-- a message of a cascade was read
record MessageRead (w : World) (n : ℕ) (i : Input) (h : Notes) (s : Text) (xs : TreesOf Text) (q : Text) : Type 0 where
  arguments : SpannedTrees
  stop : Input
  message : Message Any i s arguments stop
  plain : plain_trees arguments ≡ xs
  held : stop.held ≡ h
  fresh : Fresh w n stop q

-- one message of a cascade
reads_message : (s : Text) (xs : TreesOf Text) → FitsArguments s xs → CanReadAll xs → (w : World) (n k : ℕ) (i : Input) (h : Notes) (q : Text) → ends q ≡ true → n + trees_height xs + 1 ≤ 400 → Here w n i h (message_text s (argument_texts k (message_precedence s xs) xs) ++ q) → MessageRead w n i h s xs q
reads_message s xs (FitsNone g) can w n k i h q e le a =
    let b = text_as _ (32 ∷ (s ++ q)) (ap (λ y. y ++ q) (unary_text s g)) a in
    let z = step_name s q g (ends_all q e) (blank_step 32 (s ++ q) refl b) in
    record { arguments = NoTrees; stop = next i; message = UnaryMessage z.1.kind; plain = refl; held = z.1.held; fresh = z.1.fresh }
reads_message s xs (FitsOne {x} g) can w n k i h q e le a =
    let u = operand_text loose.Unary (precedence_of x) (expression_text k x) in
    let b = text_as _ (32 ∷ ((s ++ 32 ∷ u) ++ q)) (ap (λ p. message_text s (argument_texts k p (more_trees x no_trees)) ++ q) (binary_precedence s x g) ∙ ap (λ y. y ++ q) (binary_text s u g)) a in
    let z = step_operator s (u ++ q) g (text_as _ (s ++ 32 ∷ (u ++ q)) (append_assoc s (32 ∷ u) q) (blank_step 32 ((s ++ 32 ∷ u) ++ q) refl b)) in
    let v = as_argument can.1 (operand_unary can.0 (value_returns x can.1) w n k (next i) h q e (omega arith) (blank_step 32 (u ++ q) refl (held_as z.1.held z.1.fresh.here))) in
    record { arguments = one_tree v.tree; stop = v.stop; message = BinaryMessage z.1.kind v.argument; plain = ap (λ t. more_trees t no_trees) v.plain; held = v.held; fresh = v.fresh }
reads_message s xs (FitsParts g) can w n k i h q e le a =
    let v = reads_parts s xs g can w n k i h q e le (text_as _ _ (ap (λ p. message_text s (argument_texts k p xs) ++ q) (keyword_precedence s xs g)) a) in
    record { arguments = v.arguments; stop = v.stop; message = KeywordMessage v.parts; plain = v.plain; held = v.held; fresh = v.fresh }

-- pieces, each behind a semicolon
abbrev semicoloned : List Text → Text
semicoloned ps = flat_map (λ p. codes ";" ++ p) ps

-- they begin with a semicolon
ends_semicoloned : (ps : List Text) (s : Text) → ends s ≡ true → ends (semicoloned ps ++ s) ≡ true
ends_semicoloned [] s h = h
ends_semicoloned (p ∷ ps) s h = refl

-- the further messages of a cascade were read
record MessagesRead (w : World) (n : ℕ) (i : Input) (h : Notes) (ms : MessagesOf Text) (q : Text) : Type 0 where
  messages : SpannedMessages
  stop : Input
  read : Messages Any i messages stop
  plain : plain_messages messages ≡ ms
  held : stop.held ≡ h
  fresh : Fresh w n stop q

-- the further messages of a cascade
reads_messages : (ms : MessagesOf Text) → CanReadMessages ms → (w : World) (n k : ℕ) (i : Input) (h : Notes) (q : Text) → ends q ≡ true → n + messages_height ms + 1 ≤ 400 → i.held ≡ h → Fresh w n i (semicoloned (message_texts k ms) ++ q) → MessagesRead w n i h ms q
reads_messages no_messages can w n k i h q e le f a = record { messages = NoMessages; stop = i; read = LastMessage tt; plain = refl; held = f; fresh = a }
reads_messages (more_messages s xs ms) can w n k i h q e le f a =
    let m = message_text s (argument_texts k (message_precedence s xs) xs) in
    let rest = semicoloned (message_texts k ms) in
    let x = step n (59 ∷ []) ((m ++ rest) ++ q) (semicolon_word ((m ++ rest) ++ q)) (λ c f e ts. refl) (held_as f a.here) in
    let y = reads_message s xs can.0 can.1 w n k (next i) h (rest ++ q) (ends_semicoloned (message_texts k ms) q e) (omega arith) (text_as ((m ++ rest) ++ q) (m ++ (rest ++ q)) (append_assoc m rest q) (held_as x.held x.fresh.here)) in
    let z = reads_messages ms can.2 w n k y.stop h q e (omega arith) y.held y.fresh in
    record {
      messages = MoreMessages s y.arguments z.messages;
      stop = z.stop;
      read = OneMessage {m = y.stop} {j = z.stop} {xs = y.arguments} {ms = z.messages} x.kind y.message z.read;
      plain = λ j. more_messages s (y.plain j) (z.plain j);
      held = z.held;
      fresh = z.fresh;
    }

-- messages begin with a semicolon
messages_begin : {i j : Input} {us : SpannedMessages} (s : Text) (xs : TreesOf Text) (ms : MessagesOf Text) → Messages Any i us j → plain_messages us ≡ more_messages s xs ms → kind_of i ≡ Semicolon
messages_begin s xs ms (OneMessage e m d) is = e
messages_begin s xs ms (LastMessage n) is = cc

-- what is as loose as a keyword send
can_loose : (t : TreeOf Text) → precedence_of t ≡ loose.Keyword → (IsReturn t → ⊥) → Reads ExpressionRead t → CanRead t
can_loose t p non r = record {
  unary = λ e f. cc;
  binary = λ e f. absurd (false≢true (sym e ∙ ap (λ p. is_looser p loose.Binary) p));
  expression = λ v. r;
  returned = λ x. absurd (non x);
}

-- a cascade
reads_cascade : (r : TreeOf Text) (s : Text) (xs : TreesOf Text) (t : Text) (ys : TreesOf Text) (ms : MessagesOf Text) → CanRead r → IsValue r → CanReadMessages (more_messages s xs (more_messages t ys ms)) → Reads ExpressionRead (cascade r (more_messages s xs (more_messages t ys ms)))
reads_cascade r s xs t ys ms can v all w n k i h q e le a =
    let p = message_precedence s xs in
    let m = message_text s (argument_texts k p xs) in
    let o = operand_text (receiver_limit p) (precedence_of r) (expression_text k r) in
    let rest = semicoloned (message_texts k (more_messages t ys ms)) in
    let b = text_as ((o ++ (m ++ rest)) ++ q) ((o ++ m) ++ (rest ++ q)) (ap (λ y. y ++ q) (sym (append_assoc o m rest)) ∙ append_assoc (o ++ m) rest q) a in
    let x = sends r s xs can (value_returns r v) all.0 all.1 w n k i h (rest ++ q) refl (omega arith) b in
    let y = reads_messages (more_messages t ys ms) all.2 w n k x.read.stop h q e (omega arith) x.read.held x.read.fresh in
    let told = x.told v in
    let begins = messages_begin t ys ms y.read y.plain in
    let tree = Cascade told.from y.stop.last told.receiver (MoreMessages s told.arguments y.messages) in
    let cascaded : Cascaded Any x.read.last x.read.stop tree y.stop = subst (λ c. Cascaded Any c x.read.stop tree y.stop) (sym told.is) (OneCascade begins y.read) in
    record {
      tree = tree;
      stop = y.stop;
      expression = Simple tt x.read.operand x.read.unaries x.read.binaries x.read.keywords cascaded;
      plain = (λ j. cascade (told.plain_receiver j) (more_messages s (told.plain_arguments j) (y.plain j)));
      held = y.held;
      fresh = y.fresh;
    }

-- a cascade is read as it is
pub can_cascade : (r : TreeOf Text) (ms : MessagesOf Text) → CanRead r → IsValue r → AreTwo ms → CanReadMessages ms → CanRead (cascade r ms)
can_cascade r no_messages can v two all = absurd two
can_cascade r (more_messages s xs no_messages) can v two all = absurd two
can_cascade r (more_messages s xs (more_messages t ys ms)) can v two all =
    can_loose (cascade r (more_messages s xs (more_messages t ys ms))) refl (λ x. x) (reads_cascade r s xs t ys ms can v all)

-- an assignment
reads_assign : (x : Text) (t : TreeOf Text) → IsWord x → CanRead t → IsValue t → Reads ExpressionRead (assign x t)
reads_assign x t g can v w n k i h q e le a =
    let u = expression_text k t in
    let b = text_as (((x ++ 32 ∷ 58 ∷ 61 ∷ 32 ∷ []) ++ u) ++ q) (x ++ 32 ∷ 58 ∷ 61 ∷ 32 ∷ (u ++ q)) (ap (λ y. y ++ q) (append_assoc x (32 ∷ 58 ∷ 61 ∷ 32 ∷ []) u) ∙ append_assoc x (32 ∷ 58 ∷ 61 ∷ 32 ∷ u) q) a in
    let y = step_name x (32 ∷ 58 ∷ 61 ∷ 32 ∷ (u ++ q)) g (ends_all (32 ∷ 58 ∷ 61 ∷ 32 ∷ (u ++ q)) refl) b in
    let c = blank_step 32 (58 ∷ 61 ∷ 32 ∷ (u ++ q)) refl (held_as y.1.held y.1.fresh.here) in
    let z = step n (58 ∷ 61 ∷ []) (32 ∷ (u ++ q)) (assign_word (32 ∷ (u ++ q))) (λ c f e ts. refl) c in
    let r = can.expression v w n k (next (next i)) h q e (omega arith) (blank_step 32 (u ++ q) refl (held_as z.held z.fresh.here)) in
    record { tree = Assign (from_of i) r.stop.last x r.tree; stop = r.stop; expression = Assigned y.1.kind z.kind r.expression; plain = ap (assign x) r.plain; held = r.held; fresh = r.fresh }

-- an assignment is read as it is
pub can_assign : (x : Text) (t : TreeOf Text) → IsWord x → CanRead t → IsValue t → CanRead (assign x t)
can_assign x t g can v = can_loose (assign x t) refl (λ x. x) (reads_assign x t g can v)

-- a return
reads_return : (t : TreeOf Text) → CanRead t → IsValue t → Reads ReturnRead (return t)
reads_return t can v w n k i h q e le a =
    let u = expression_text k t in
    let y = step n (94 ∷ []) (u ++ q) (caret_word (u ++ q)) (λ c f e ts. refl) a in
    let r = can.expression v w n k (next i) h q e (omega arith) (held_as y.held y.fresh.here) in
    record { tree = r.tree; stop = r.stop; kind = y.kind; expression = r.expression; plain = ap return r.plain; held = r.held; fresh = r.fresh }

-- a return is read as it is
pub can_return : (t : TreeOf Text) → CanRead t → IsValue t → CanRead (return t)
can_return t can v = record { unary = λ e f. absurd f; binary = λ e f. absurd f; expression = λ x. absurd x; returned = λ x. reads_return t can v }

-- pieces, each behind a period and a blank
abbrev dotted : List Text → Text
dotted ps = flat_map (λ p. codes ". " ++ p) ps

-- they begin with a period that is no fraction's
ends_dotted : (ps : List Text) (s : Text) → ends s ≡ true → ends (dotted ps ++ s) ≡ true
ends_dotted [] s h = h
ends_dotted (p ∷ ps) s h = refl

-- the expressions of a brace array were read
record ItemsRead (w : World) (n : ℕ) (i : Input) (h : Notes) (ts : TreesOf Text) (s : Text) : Type 0 where
  items : SpannedTrees
  stop : Input
  read : Items Any i items stop
  plain : plain_trees items ≡ ts
  here : Here w n stop h s

-- those behind the first
record FurtherRead (w : World) (n : ℕ) (i : Input) (h : Notes) (ts : TreesOf Text) (s : Text) : Type 0 where
  items : SpannedTrees
  stop : Input
  read : FurtherItems Any i items stop
  plain : plain_trees items ≡ ts
  here : Here w n stop h s

-- the expressions behind the first
reads_further : (ts : TreesOf Text) → CanReadAll ts → (w : World) (n k : ℕ) (i : Input) (h : Notes) (s : Text) → ends s ≡ true → n + trees_height ts ≤ 400 → Here w n i h (dotted (expression_texts k ts) ++ s) → FurtherRead w n i h ts s
reads_further no_trees can w n k i h s e le a = record { items = NoTrees; stop = i; read = LastItem tt; plain = refl; here = a }
reads_further (more_trees t ts) can w n k i h s e le a =
    let u = expression_text k t in
    let rest = dotted (expression_texts k ts) in
    let x = step n (46 ∷ []) (32 ∷ ((u ++ rest) ++ s)) (period_word (32 ∷ ((u ++ rest) ++ s))) (λ c f e ts. refl) a in
    let b = text_as ((u ++ rest) ++ s) (u ++ (rest ++ s)) (append_assoc u rest s) (blank_step 32 ((u ++ rest) ++ s) refl (held_as x.held x.fresh.here)) in
    let y = can.0.expression can.1 w n k (next i) h (rest ++ s) (ends_dotted (expression_texts k ts) s e) (omega arith) b in
    let z = reads_further ts can.2 w n k y.stop h s e (omega arith) (held_as y.held y.fresh.here) in
    record { items = MoreTrees y.tree z.items; stop = z.stop; read = NextItem x.kind (OneItem {m = y.stop} {j = z.stop} {t = y.tree} {ts = z.items} y.expression z.read); plain = λ j. more_trees (y.plain j) (z.plain j); here = z.here }

-- the expressions of a brace array
reads_items : (ts : TreesOf Text) → CanReadAll ts → (w : World) (n k : ℕ) (i : Input) (h : Notes) (s : Text) → ends s ≡ true → n + trees_height ts ≤ 400 → Here w n i h (pieces_joined (codes ". ") (expression_texts k ts) ++ s) → ItemsRead w n i h ts s
reads_items no_trees can w n k i h s e le a = record { items = NoTrees; stop = i; read = NoItems tt; plain = refl; here = a }
reads_items (more_trees t ts) can w n k i h s e le a =
    let u = expression_text k t in
    let rest = dotted (expression_texts k ts) in
    let y = can.0.expression can.1 w n k i h (rest ++ s) (ends_dotted (expression_texts k ts) s e) (omega arith) (text_as ((u ++ rest) ++ s) (u ++ (rest ++ s)) (append_assoc u rest s) a) in
    let z = reads_further ts can.2 w n k y.stop h s e (omega arith) (held_as y.held y.fresh.here) in
    record { items = MoreTrees y.tree z.items; stop = z.stop; read = OneItem {m = y.stop} {j = z.stop} {t = y.tree} {ts = z.items} y.expression z.read; plain = λ j. more_trees (y.plain j) (z.plain j); here = z.here }

-- a brace array
reads_brace : (ts : TreesOf Text) → CanReadAll ts → Reads UnaryRead (brace ts)
reads_brace ts can w n k i h q e le a =
    let u = pieces_joined (codes ". ") (expression_texts k ts) in
    let x = step (n + 1) (123 ∷ []) (u ++ 125 ∷ q) (brace_open_word (u ++ 125 ∷ q)) (counts_open n BraceStart (omega arith)) (text_as ((123 ∷ u ++ 125 ∷ []) ++ q) (123 ∷ (u ++ 125 ∷ q)) (append_assoc (123 ∷ u) (125 ∷ []) q) a) in
    let y = reads_items ts can w (n + 1) k (next i) h (125 ∷ q) refl (omega arith) (held_as x.held x.fresh.here) in
    let z = step n (125 ∷ []) q (brace_close_word q) (counts_close n BraceEnd) y.here in
    let tree = Brace (from_of i) (next y.stop).last y.items in
    record { first = Alone tree; middle = next y.stop; last = Alone tree; stop = next y.stop; operand = BraceOperand x.kind y.read z.kind; unaries = NoUnaries tt; plain = ap brace y.plain; value = λ v. tt; held = z.held; fresh = z.fresh }

-- a brace array is read as it is
pub can_brace : (ts : TreesOf Text) → CanReadAll ts → CanRead (brace ts)
can_brace ts can = can_unary (brace ts) (λ x. x) (reads_brace ts can)
