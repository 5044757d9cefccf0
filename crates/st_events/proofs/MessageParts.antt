-- The parts of messages: which tokens they take, and what they become behind a message.
use Rattle.std.proofs.Common.{◌≡◌, ℕ, ◌+◌, Bool, true, false, List, [], ◌∷◌, ◌++◌, refl, ap, sym, ◌∙◌, arith, append_assoc}
use Rattle.std.proofs.lemmas.List.{append-nil}
use Rattle.grammar_model.specs.Terminal.{Text, KeywordKind, BinaryKind, Terminal, Name, Keyword, Binary, Semicolon, OperandMeta, AnyName, MessageMeta}
use Rattle.grammar_model.specs.Spanned.{SpannedTrees, NoTrees}
use Rattle.grammar_model.specs.Chain.{Chain, Waiting, Alone, Told, whole, sent, IsWhole}
use Rattle.grammar_model.specs.Ahead.{NoUnary}
use Rattle.parse_events.specs.Found.{count_trees, tree_events, trees_events}
use Rattle.parse_events.specs.declared.event.Event.{Event}
use Rattle.parse_events.specs.declared.event.Event.TheVariants as event
use Rattle.st_events.specs.declared.part.Part.{Part}
use Rattle.st_events.specs.declared.part.Part.TheVariants as part
use Rattle.st_events.specs.declared.part.ExpressionPart.TheVariants as expression
use Rattle.st_events.specs.declared.part.Row.TheVariants as row
use Rattle.st_events.specs.declared.part.MessagePart.TheVariants as message
use Rattle.st_events.specs.declared.part.Enclosure.{Enclosure}
use Rattle.st_events.specs.declared.part.Rest.{Rest}
use Rattle.st_events.specs.declared.part.SequencePart.TheVariants as sequence
use Rattle.st_events.specs.declared.answers.Answer.TheVariants.{Refuses, Passes, Takes}
use Rattle.st_events.specs.Classes.{is_name}
use Rattle.st_events.specs.Answers.{taken_if, messages_answer, operators_answer, answer}
use Rattle.st_events.specs.Steps.{is_told_behind}
use Rattle.st_events.proofs.Running.{not_name}
use Rattle.st_events.proofs.Ends.{is_waiting, told_by, row_at}

-- the messages of an expression, behind a binary one or not
abbrev pub all : Bool → ℕ → Chain → Part
all b f r = part.Message (message.All f (row_at b r) (told_by r))

-- those of a keyword's argument
abbrev pub of_keyword : Bool → ℕ → Chain → Part
of_keyword b f r = part.Message (message.OfKeyword f (row_at b r))

-- those of a binary message's argument
abbrev pub of_binary : ℕ → Chain → Part
of_binary f r = part.Message (message.OfBinary f (is_waiting r))

-- an expression
abbrev pub whole_part : Part
whole_part = part.Expression expression.Whole

-- statements
abbrev pub statements_part : Enclosure → ℕ → Rest → Part
statements_part w n more = part.Sequence (sequence.Statements w n more)

-- one more message
pub sent_events : (f e : ℕ) (r : Chain) (s : Text) (xs : SpannedTrees) → tree_events (whole (sent f e r s xs)) ≡ tree_events (whole r) ++ trees_events xs ++ event.Send f e (count_trees xs) s ∷ []
sent_events f e (Waiting g h n) s xs = refl
sent_events f e (Alone t) s xs = refl
sent_events f e (Told g h r t ys) s xs = refl

-- nothing and a number
pub zero : (n : ℕ) → 0 + n ≡ n
zero n = omega arith

-- one more unary message
pub unary_events : (es : List Event) (f e : ℕ) (r : Chain) (n : Text) → es ++ tree_events (whole r) ++ event.Send f e 0 n ∷ [] ≡ es ++ tree_events (whole (sent f e r n NoTrees))
unary_events es f e r n =
    append_assoc es (tree_events (whole r)) (event.Send f e 0 n ∷ []) ∙ ap (λ x. es ++ (x ++ event.Send f e 0 n ∷ [])) (sym (append-nil (tree_events (whole r)))) ∙
    ap (λ x. es ++ x) (sym (sent_events f e r n NoTrees))

-- the events of a cascade joined
pub cascade_events : (es a b d c : List Event) (m : Event) → es ++ (a ++ b) ++ m ∷ [] ++ d ++ c ≡ es ++ (a ++ (b ++ m ∷ d) ++ c)
cascade_events es a b d c m =
    ap (λ x. x ++ c) (append_assoc (es ++ (a ++ b)) (m ∷ []) d ∙ append_assoc es (a ++ b) (m ∷ d) ∙ ap (λ x. es ++ x) (append_assoc a b (m ∷ d))) ∙
    append_assoc es (a ++ (b ++ m ∷ d)) c

-- three lists and one event joined
pub joined_events : (es a b c : List Event) → es ++ a ++ b ++ c ≡ es ++ (a ++ b ++ c)
joined_events es a b c = ap (λ x. x ++ c) (append_assoc es a b) ∙ append_assoc es (a ++ b) c

-- a unary message of an expression
pub all_unary : (f e : ℕ) (r : Chain) (s : Text) (xs : SpannedTrees) → part.Message (message.All f row.Unary (is_told_behind (row_at false r))) ≡ all false f (sent f e r s xs)
all_unary f e (Waiting g h n) s xs = refl
all_unary f e (Alone t) s xs = refl
all_unary f e (Told g h r t ys) s xs = refl

-- a binary message of an expression
pub all_binary : (b : Bool) (f e : ℕ) (r : Chain) (s : Text) (xs : SpannedTrees) → part.Message (message.All f row.Binary (is_told_behind (row_at b r))) ≡ all true f (sent f e r s xs)
all_binary b f e (Waiting g h n) s xs = refl
all_binary true f e (Alone t) s xs = refl
all_binary false f e (Alone t) s xs = refl
all_binary true f e (Told g h r t ys) s xs = refl
all_binary false f e (Told g h r t ys) s xs = refl

-- a cascade can go on from a message as it can from the chain with it
pub told_behind : (b : Bool) (f e : ℕ) (r : Chain) (s : Text) (xs : SpannedTrees) → is_told_behind (row_at b r) ≡ told_by (sent f e r s xs)
told_behind b f e (Waiting g h n) s xs = refl
told_behind true f e (Alone t) s xs = refl
told_behind false f e (Alone t) s xs = refl
told_behind true f e (Told g h r t ys) s xs = refl
told_behind false f e (Told g h r t ys) s xs = refl

-- a unary message of a keyword's argument
pub keyword_unary : (f e : ℕ) (r : Chain) (s : Text) (xs : SpannedTrees) → part.Message (message.OfKeyword f row.Unary) ≡ of_keyword false f (sent f e r s xs)
keyword_unary f e (Waiting g h n) s xs = refl
keyword_unary f e (Alone t) s xs = refl
keyword_unary f e (Told g h r t ys) s xs = refl

-- a binary message of a keyword's argument
pub keyword_binary : (f e : ℕ) (r : Chain) (s : Text) (xs : SpannedTrees) → part.Message (message.OfKeyword f row.Binary) ≡ of_keyword true f (sent f e r s xs)
keyword_binary f e (Waiting g h n) s xs = refl
keyword_binary f e (Alone t) s xs = refl
keyword_binary f e (Told g h r t ys) s xs = refl

-- a unary message of a binary message's argument
pub binary_unary : (f e : ℕ) (r : Chain) (s : Text) (xs : SpannedTrees) → part.Message (message.OfBinary f false) ≡ of_binary f (sent f e r s xs)
binary_unary f e (Waiting g h n) s xs = refl
binary_unary f e (Alone t) s xs = refl
binary_unary f e (Told g h r t ys) s xs = refl

-- the messages of an expression take a unary one
pub all_name : (r : Chain) (told : Bool) (k : Terminal) → is_name k ≡ true → messages_answer (row_at false r) told k ≡ Takes
all_name (Waiting g h n) told (Name c m) e = refl
all_name (Waiting g h n) told (OperandMeta AnyName m) e = refl
all_name (Alone t) told (Name c m) e = refl
all_name (Alone t) told (OperandMeta AnyName m) e = refl
all_name (Told g h r t ys) told (Name c m) e = refl
all_name (Told g h r t ys) told (OperandMeta AnyName m) e = refl
all_name r told k e = cc

-- a binary one
pub all_selector : (b : Bool) (r : Chain) (told : Bool) (c : BinaryKind) (n : Text) → messages_answer (row_at b r) told (Binary c n) ≡ Takes
all_selector b (Waiting g h n) told c m = refl
all_selector true (Alone t) told c m = refl
all_selector false (Alone t) told c m = refl
all_selector true (Told g h r t ys) told c m = refl
all_selector false (Told g h r t ys) told c m = refl

-- one of keywords
pub all_key : (b : Bool) (r : Chain) (told : Bool) (c : KeywordKind) (n : Text) → messages_answer (row_at b r) told (Keyword c n) ≡ Takes
all_key b (Waiting g h n) told c m = refl
all_key true (Alone t) told c m = refl
all_key false (Alone t) told c m = refl
all_key true (Told g h r t ys) told c m = refl
all_key false (Told g h r t ys) told c m = refl

-- a whole one of a pattern
pub all_whole : (b : Bool) (r : Chain) (told : Bool) (n : Text) → messages_answer (row_at b r) told (MessageMeta n) ≡ Takes
all_whole b (Waiting g h n) told m = refl
all_whole true (Alone t) told m = refl
all_whole false (Alone t) told m = refl
all_whole true (Told g h r t ys) told m = refl
all_whole false (Told g h r t ys) told m = refl

-- and a cascade
pub all_semicolon : (b : Bool) (r : Chain) → told_by r ≡ true → messages_answer (row_at b r) (told_by r) Semicolon ≡ Takes
all_semicolon b (Waiting g h n) e = cc
all_semicolon b (Alone t) e = cc
all_semicolon true (Told g h r t ys) e = refl
all_semicolon false (Told g h r t ys) e = refl

-- the messages of a keyword's argument take a unary one
pub keyword_name : (r : Chain) (k : Terminal) → is_name k ≡ true → operators_answer (row_at false r) k ≡ Takes
keyword_name (Waiting g h n) (Name c m) e = refl
keyword_name (Waiting g h n) (OperandMeta AnyName m) e = refl
keyword_name (Alone t) (Name c m) e = refl
keyword_name (Alone t) (OperandMeta AnyName m) e = refl
keyword_name (Told g h r t ys) (Name c m) e = refl
keyword_name (Told g h r t ys) (OperandMeta AnyName m) e = refl
keyword_name r k e = cc

-- and a binary one
pub keyword_selector : (b : Bool) (r : Chain) (c : BinaryKind) (n : Text) → operators_answer (row_at b r) (Binary c n) ≡ Takes
keyword_selector b (Waiting g h n) c m = refl
keyword_selector true (Alone t) c m = refl
keyword_selector false (Alone t) c m = refl
keyword_selector true (Told g h r t ys) c m = refl
keyword_selector false (Told g h r t ys) c m = refl

-- those of a binary message's argument take a unary one
pub binary_name : (f : ℕ) (r : Chain) (k : Terminal) → is_name k ≡ true → answer (of_binary f r) k ≡ Takes
binary_name f (Waiting g h n) k e = ap (λ b. taken_if b Refuses) e
binary_name f (Alone t) k e = ap (λ b. taken_if b Passes) e
binary_name f (Told g h r t ys) k e = ap (λ b. taken_if b Passes) e

-- and are over at another token
pub binary_over : (f : ℕ) (r : Chain) (k : Terminal) → IsWhole r → NoUnary k → answer (of_binary f r) k ≡ Passes
binary_over f (Waiting g h n) k w e = absurd w
binary_over f (Alone t) k w e = ap (λ b. taken_if b Passes) (not_name k e)
binary_over f (Told g h r t ys) k w e = ap (λ b. taken_if b Passes) (not_name k e)
