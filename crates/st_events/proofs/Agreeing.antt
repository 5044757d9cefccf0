-- A reader's parts do at each token what the machine of the grammar does with the stack that they are.
use Rattle.std.proofs.Common.{◌≡◌, ℕ, ◌+◌, Bool, true, false, List, [], ◌∷◌, ◌++◌, Some, None, refl, sym, ap, ◌∙◌, subst}
use Rattle.std.specs.Prelude.{Option, ◌==◌, if◌then◌else◌}
use Rattle.tree_model.specs.Tree.{LiteralOf}
use Rattle.grammar_model.specs.Terminal.{Text, Keyword, KeywordKind, AnyKeyword, PrimitiveKeyword, GroupEnd}
use Rattle.grammar_model.specs.Machine.{Stack}
use Rattle.grammar_model.specs.Machine as machine
use Rattle.st_faults.specs.declared.sort.Sort.{Sort}
use Rattle.st_faults.specs.declared.sort.Sort.TheVariants as sort
use Rattle.st_faults.specs.Sorts.{terminal}
use Rattle.st_events.specs.declared.answers.Answer.{Answer}
use Rattle.st_events.specs.declared.answers.Answer.TheVariants.{Refuses, Passes, Takes}
use Rattle.st_events.specs.declared.part.Part.{Part}
use Rattle.st_events.specs.declared.part.Part.TheVariants as part
use Rattle.st_events.specs.declared.part.ExpressionPart.{ExpressionPart}
use Rattle.st_events.specs.declared.part.ExpressionPart.TheVariants as expression
use Rattle.st_events.specs.declared.part.Row.TheVariants as row
use Rattle.st_events.specs.declared.part.Target.TheVariants as target
use Rattle.st_events.specs.declared.part.MessagePart.{MessagePart}
use Rattle.st_events.specs.declared.part.MessagePart.TheVariants as message
use Rattle.st_events.specs.declared.part.LiteralPart.{LiteralPart}
use Rattle.st_events.specs.declared.part.LiteralPart.TheVariants as literal
use Rattle.st_events.specs.declared.part.BlockPart.{BlockPart}
use Rattle.st_events.specs.declared.part.BlockPart.TheVariants as block
use Rattle.st_events.specs.declared.part.Enclosure.TheVariants as enclosure
use Rattle.st_events.specs.declared.part.Rest.TheVariants as rest
use Rattle.st_events.specs.declared.part.SequencePart.{SequencePart}
use Rattle.st_events.specs.declared.part.SequencePart.TheVariants as sequence
use Rattle.st_events.specs.declared.part.HeadPart.{HeadPart}
use Rattle.st_events.specs.declared.part.HeadPart.TheVariants as head
use Rattle.st_events.specs.declared.reader.Reader.{Reader}
use Rattle.st_events.specs.Answers.{answer}
use Rattle.st_events.specs.Steps.{joined_taken, taken}
use Rattle.st_events.specs.Stacks.{above, machine_of}
use Rattle.st_events.specs.Starts.{head_of}

-- what the machine does where a part has an answer: it reads the token, does what it does below the part, or stops
abbrev pub Outcome : Answer → Option Stack → Stack → Option Stack → Type 0
Outcome Takes o new below = o ≡ Some new
Outcome Passes o new below = o ≡ below
Outcome Refuses o new below = o ≡ None

-- a part and the machine agree on each token of a sort, whatever its bytes are
abbrev pub Agrees : Part → Sort → Type 0
Agrees p k = (s t : Text) (l m : LiteralOf Text) (f e : ℕ) (r : Reader) →
    Outcome (answer p (terminal k s l)) (machine.step (above p (machine_of r.stack)) (terminal k t m)) (machine_of (taken p (terminal k s l) f e r).stack) (machine.step (machine_of r.stack) (terminal k t m))

-- a part of an expression
agrees_expression : (p : ExpressionPart) (k : Sort) → Agrees (part.Expression p) k
agrees_expression expression.Whole sort.Name = λ s t l m f e r. refl
agrees_expression expression.Whole k = λ s t l m f e r. refl
agrees_expression expression.BinaryArgument sort.Name = λ s t l m f e r. refl
agrees_expression expression.BinaryArgument k = λ s t l m f e r. refl
agrees_expression expression.KeywordArgument sort.Name = λ s t l m f e r. refl
agrees_expression expression.KeywordArgument k = λ s t l m f e r. refl
agrees_expression (expression.BehindName g h n true) sort.Name = λ s t l m f e r. refl
agrees_expression (expression.BehindName g h n true) k = λ s t l m f e r. refl
agrees_expression (expression.BehindName g h n false) sort.Name = λ s t l m f e r. refl
agrees_expression (expression.BehindName g h n false) k = λ s t l m f e r. refl
agrees_expression (expression.BehindValue g) k = λ s t l m f e r. refl
agrees_expression expression.AnyArgument sort.Name = λ s t l m f e r. refl
agrees_expression expression.AnyArgument k = λ s t l m f e r. refl

-- a part of messages
agrees_message : (p : MessagePart) (k : Sort) → Agrees (part.Message p) k
agrees_message (message.All g row.Super told) sort.Name = λ s t l m f e r. refl
agrees_message (message.All g row.Super told) k = λ s t l m f e r. refl
agrees_message (message.All g row.Unary true) sort.Name = λ s t l m f e r. refl
agrees_message (message.All g row.Unary true) k = λ s t l m f e r. refl
agrees_message (message.All g row.Unary false) sort.Name = λ s t l m f e r. refl
agrees_message (message.All g row.Unary false) k = λ s t l m f e r. refl
agrees_message (message.All g row.Binary true) sort.Name = λ s t l m f e r. refl
agrees_message (message.All g row.Binary true) k = λ s t l m f e r. refl
agrees_message (message.All g row.Binary false) sort.Name = λ s t l m f e r. refl
agrees_message (message.All g row.Binary false) k = λ s t l m f e r. refl
agrees_message (message.OfKeyword g row.Super) sort.Name = λ s t l m f e r. refl
agrees_message (message.OfKeyword g row.Super) k = λ s t l m f e r. refl
agrees_message (message.OfKeyword g row.Unary) sort.Name = λ s t l m f e r. refl
agrees_message (message.OfKeyword g row.Unary) k = λ s t l m f e r. refl
agrees_message (message.OfKeyword g row.Binary) sort.Name = λ s t l m f e r. refl
agrees_message (message.OfKeyword g row.Binary) k = λ s t l m f e r. refl
agrees_message (message.OfBinary g true) sort.Name = λ s t l m f e r. refl
agrees_message (message.OfBinary g true) k = λ s t l m f e r. refl
agrees_message (message.OfBinary g false) sort.Name = λ s t l m f e r. refl
agrees_message (message.OfBinary g false) k = λ s t l m f e r. refl
agrees_message (message.BehindArgument g n) k = λ s t l m f e r. refl
agrees_message (message.BehindKeyword (target.Receiver g true) n a) sort.Name = λ s t l m f e r. refl
agrees_message (message.BehindKeyword (target.Receiver g true) n a) k = λ s t l m f e r. refl
agrees_message (message.BehindKeyword (target.Receiver g false) n a) sort.Name = λ s t l m f e r. refl
agrees_message (message.BehindKeyword (target.Receiver g false) n a) k = λ s t l m f e r. refl
agrees_message (message.BehindKeyword (target.Cascade g b) n a) sort.Name = λ s t l m f e r. refl
agrees_message (message.BehindKeyword (target.Cascade g b) n a) k = λ s t l m f e r. refl
agrees_message (message.BehindAny g true) sort.Name = λ s t l m f e r. refl
agrees_message (message.BehindAny g true) k = λ s t l m f e r. refl
agrees_message (message.BehindAny g false) sort.Name = λ s t l m f e r. refl
agrees_message (message.BehindAny g false) k = λ s t l m f e r. refl
agrees_message (message.InCascade g n) sort.Name = λ s t l m f e r. refl
agrees_message (message.InCascade g n) k = λ s t l m f e r. refl
agrees_message (message.BehindCascade g n true) sort.Name = λ s t l m f e r. refl
agrees_message (message.BehindCascade g n true) k = λ s t l m f e r. refl
agrees_message (message.BehindCascade g n false) sort.Name = λ s t l m f e r. refl
agrees_message (message.BehindCascade g n false) k = λ s t l m f e r. refl

-- a keyword behind keywords of an array leads to the array's elements, joined to them or not
joined_same : (b : Bool) (x y : List Part) (ss : Stack) → machine_of x ≡ ss → machine_of y ≡ ss → (r q : Reader) → r.stack ≡ x → q.stack ≡ y → ss ≡ machine_of (if b then r else q).stack
joined_same true x y ss g h r q c d = sym (ap machine_of c ∙ g)
joined_same false x y ss g h r q c d = sym (ap machine_of d ∙ h)

-- a keyword among the elements of an array
agrees_joined : (s : Text) (to n : ℕ) (c : KeywordKind) (k : Text) (f e : ℕ) (r : Reader) → machine.TheElements ∷ machine.Awaits GroupEnd ∷ machine_of r.stack ≡ machine_of (joined_taken s to n (Keyword c k) f e r).stack
agrees_joined s to n c k f e r = joined_same (f == to) (part.Literal (literal.BehindKeyword (s ++ k) e n) ∷ r.stack) (part.Literal (literal.BehindKeyword k e (n + 1)) ∷ r.stack) _ refl refl _ _ refl refl

-- a part of a literal
agrees_literal : (p : LiteralPart) (k : Sort) → Agrees (part.Literal p) k
agrees_literal (literal.Numeral a) sort.Name = λ s t l m f e r. refl
agrees_literal (literal.Numeral a) k = λ s t l m f e r. refl
agrees_literal (literal.Elements n) sort.Name = λ s t l m f e r. refl
agrees_literal (literal.Elements n) k = λ s t l m f e r. refl
agrees_literal (literal.BehindKeyword a to n) sort.Keyword = λ s t l m f e r. ap (λ x. Some x) (agrees_joined a to n AnyKeyword s f e r)
agrees_literal (literal.BehindKeyword a to n) sort.PrimitiveKeyword = λ s t l m f e r. ap (λ x. Some x) (agrees_joined a to n PrimitiveKeyword s f e r)
agrees_literal (literal.BehindKeyword a to n) k = λ s t l m f e r. refl
agrees_literal (literal.Bytes n) sort.Name = λ s t l m f e r. refl
agrees_literal (literal.Bytes n) k = λ s t l m f e r. refl
agrees_literal (literal.BehindOperand g) k = λ s t l m f e r. refl

-- a part of a block's head
agrees_block : (p : BlockPart) (k : Sort) → Agrees (part.Block p) k
agrees_block (block.Start enclosure.Text) sort.Name = λ s t l m f e r. refl
agrees_block (block.Start enclosure.Text) k = λ s t l m f e r. refl
agrees_block (block.Start (enclosure.Block g o)) sort.Name = λ s t l m f e r. refl
agrees_block (block.Start (enclosure.Block g o)) k = λ s t l m f e r. refl
agrees_block (block.Parameter w ps) sort.Name = λ s t l m f e r. refl
agrees_block (block.Parameter w ps) k = λ s t l m f e r. refl
agrees_block (block.BehindParameter enclosure.Text ps) sort.Name = λ s t l m f e r. refl
agrees_block (block.BehindParameter enclosure.Text ps) k = λ s t l m f e r. refl
agrees_block (block.BehindParameter (enclosure.Block g o) ps) sort.Name = λ s t l m f e r. refl
agrees_block (block.BehindParameter (enclosure.Block g o) ps) k = λ s t l m f e r. refl
agrees_block (block.Temporaries enclosure.Text ps) sort.Name = λ s t l m f e r. refl
agrees_block (block.Temporaries enclosure.Text ps) k = λ s t l m f e r. refl
agrees_block (block.Temporaries (enclosure.Block g o) ps) sort.Name = λ s t l m f e r. refl
agrees_block (block.Temporaries (enclosure.Block g o) ps) k = λ s t l m f e r. refl
agrees_block (block.Names w ps ds) sort.Name = λ s t l m f e r. refl
agrees_block (block.Names w ps ds) k = λ s t l m f e r. refl

-- a part of a sequence
agrees_sequence : (p : SequencePart) (k : Sort) → Agrees (part.Sequence p) k
agrees_sequence (sequence.Statements enclosure.Text n rest.Any) sort.Name = λ s t l m f e r. refl
agrees_sequence (sequence.Statements enclosure.Text n rest.Any) k = λ s t l m f e r. refl
agrees_sequence (sequence.Statements enclosure.Text n rest.Periods) sort.Name = λ s t l m f e r. refl
agrees_sequence (sequence.Statements enclosure.Text n rest.Periods) k = λ s t l m f e r. refl
agrees_sequence (sequence.Statements enclosure.Text n rest.Nothing) sort.Name = λ s t l m f e r. refl
agrees_sequence (sequence.Statements enclosure.Text n rest.Nothing) k = λ s t l m f e r. refl
agrees_sequence (sequence.Statements (enclosure.Block g o) n rest.Any) sort.Name = λ s t l m f e r. refl
agrees_sequence (sequence.Statements (enclosure.Block g o) n rest.Any) k = λ s t l m f e r. refl
agrees_sequence (sequence.Statements (enclosure.Block g o) n rest.Periods) sort.Name = λ s t l m f e r. refl
agrees_sequence (sequence.Statements (enclosure.Block g o) n rest.Periods) k = λ s t l m f e r. refl
agrees_sequence (sequence.Statements (enclosure.Block g o) n rest.Nothing) sort.Name = λ s t l m f e r. refl
agrees_sequence (sequence.Statements (enclosure.Block g o) n rest.Nothing) k = λ s t l m f e r. refl
agrees_sequence (sequence.BehindStatement h enclosure.Text n true) sort.Name = λ s t l m f e r. refl
agrees_sequence (sequence.BehindStatement h enclosure.Text n true) k = λ s t l m f e r. refl
agrees_sequence (sequence.BehindStatement h enclosure.Text n false) sort.Name = λ s t l m f e r. refl
agrees_sequence (sequence.BehindStatement h enclosure.Text n false) k = λ s t l m f e r. refl
agrees_sequence (sequence.BehindStatement h (enclosure.Block g o) n true) sort.Name = λ s t l m f e r. refl
agrees_sequence (sequence.BehindStatement h (enclosure.Block g o) n true) k = λ s t l m f e r. refl
agrees_sequence (sequence.BehindStatement h (enclosure.Block g o) n false) sort.Name = λ s t l m f e r. refl
agrees_sequence (sequence.BehindStatement h (enclosure.Block g o) n false) k = λ s t l m f e r. refl
agrees_sequence (sequence.BehindReturn g) k = λ s t l m f e r. refl
agrees_sequence (sequence.Items g n true) sort.Name = λ s t l m f e r. refl
agrees_sequence (sequence.Items g n true) k = λ s t l m f e r. refl
agrees_sequence (sequence.Items g n false) sort.Name = λ s t l m f e r. refl
agrees_sequence (sequence.Items g n false) k = λ s t l m f e r. refl
agrees_sequence sequence.GroupEnd sort.Name = λ s t l m f e r. refl
agrees_sequence sequence.GroupEnd k = λ s t l m f e r. refl
agrees_sequence sequence.Pattern sort.Name = λ s t l m f e r. refl
agrees_sequence sequence.Pattern k = λ s t l m f e r. refl
agrees_sequence (sequence.BehindPattern g) sort.Name = λ s t l m f e r. refl
agrees_sequence (sequence.BehindPattern g) k = λ s t l m f e r. refl

-- a part of a text's head
agrees_head : (p : HeadPart) (k : Sort) → Agrees (part.Head p) k
agrees_head (head.Pattern kernel) sort.Name = λ s t l m f e r. refl
agrees_head (head.Pattern kernel) k = λ s t l m f e r. refl
agrees_head (head.Argument kernel) sort.Name = λ s t l m f e r. refl
agrees_head (head.Argument kernel) k = λ s t l m f e r. refl
agrees_head (head.KeywordArgument kernel) sort.Name = λ s t l m f e r. refl
agrees_head (head.KeywordArgument kernel) k = λ s t l m f e r. refl
agrees_head (head.BehindArgument true) sort.Name = λ s t l m f e r. refl
agrees_head (head.BehindArgument true) k = λ s t l m f e r. refl
agrees_head (head.BehindArgument false) sort.Name = λ s t l m f e r. refl
agrees_head (head.BehindArgument false) k = λ s t l m f e r. refl
agrees_head (head.MethodTemporaries true) sort.Name = λ s t l m f e r. refl
agrees_head (head.MethodTemporaries true) k = λ s t l m f e r. refl
agrees_head (head.MethodTemporaries false) sort.Name = λ s t l m f e r. refl
agrees_head (head.MethodTemporaries false) k = λ s t l m f e r. refl
agrees_head head.DoitTemporaries sort.Name = λ s t l m f e r. refl
agrees_head head.DoitTemporaries k = λ s t l m f e r. refl
agrees_head head.Names sort.Name = λ s t l m f e r. refl
agrees_head head.Names k = λ s t l m f e r. refl
agrees_head head.Primitive sort.Name = λ s t l m f e r. refl
agrees_head head.Primitive k = λ s t l m f e r. refl
agrees_head head.PrimitiveNumber sort.Name = λ s t l m f e r. refl
agrees_head head.PrimitiveNumber k = λ s t l m f e r. refl
agrees_head head.PrimitiveEnd sort.Name = λ s t l m f e r. refl
agrees_head head.PrimitiveEnd k = λ s t l m f e r. refl

-- any part
pub agrees : (p : Part) (k : Sort) → Agrees p k
agrees (part.Expression p) k = agrees_expression p k
agrees (part.Message p) k = agrees_message p k
agrees (part.Literal p) k = agrees_literal p k
agrees (part.Block p) k = agrees_block p k
agrees (part.Sequence p) k = agrees_sequence p k
agrees (part.Head p) k = agrees_head p k

-- at a token that a part takes the machine reads it, and the parts behind it are its stack again
pub leads : (p : Part) (k : Sort) (s t : Text) (l m : LiteralOf Text) (f e : ℕ) (r : Reader) → answer p (terminal k s l) ≡ Takes →
    machine.step (above p (machine_of r.stack)) (terminal k t m) ≡ Some (machine_of (taken p (terminal k s l) f e r).stack)
leads p k s t l m f e r takes = subst (λ a. Outcome a (machine.step (above p (machine_of r.stack)) (terminal k t m)) (machine_of (taken p (terminal k s l) f e r).stack) (machine.step (machine_of r.stack) (terminal k t m))) takes (agrees p k s t l m f e r)

-- the reader of these parts alone
abbrev awaits : List Part → Reader
awaits ps = record { stack = ps; events = []; held = []; last = 0; head = head_of [] [] }

-- at a token at which a part is over the machine does what it does below the part
pub passes : (p : Part) (k : Sort) (t : Text) (m : LiteralOf Text) (ps : List Part) → answer p (terminal k t m) ≡ Passes → machine.step (above p (machine_of ps)) (terminal k t m) ≡ machine.step (machine_of ps) (terminal k t m)
passes p k t m ps over = subst (λ a. Outcome a (machine.step (above p (machine_of ps)) (terminal k t m)) (machine_of (taken p (terminal k t m) 0 0 (awaits ps)).stack) (machine.step (machine_of ps) (terminal k t m))) over (agrees p k t t m m 0 0 (awaits ps))

-- at a token that a part refuses the machine stops
pub refuses : (p : Part) (k : Sort) (t : Text) (m : LiteralOf Text) (ps : List Part) → answer p (terminal k t m) ≡ Refuses → machine.step (above p (machine_of ps)) (terminal k t m) ≡ None
refuses p k t m ps refused = subst (λ a. Outcome a (machine.step (above p (machine_of ps)) (terminal k t m)) (machine_of (taken p (terminal k t m) 0 0 (awaits ps)).stack) (machine.step (machine_of ps) (terminal k t m))) refused (agrees p k t t m m 0 0 (awaits ps))
