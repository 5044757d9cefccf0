-- How a reader runs over one token.
use Rattle.std.proofs.Common.{◌≡◌, ℕ, Bool, true, false, List, [], ◌∷◌, refl, ap, sym, ◌∙◌, subst}
use Rattle.std.specs.Prelude.{if◌then◌else◌}
use Rattle.tree_model.specs.Tree.{Notes}
use Rattle.grammar_model.specs.Terminal.{Text, TextEnd, Sign, Terminal, Name, Keyword, Binary, Numeral, Constant, Opens, Closes, Semicolon, OperandMeta, AnyName, MessageMeta}
use Rattle.grammar_model.specs.Input.{Lexeme, lex, Input, first_kind, first_from, first_end, first_notes, others, kind_of, from_of, next}
use Rattle.grammar_model.specs.Ahead.{NoUnary, NoKey, NoBinary, NoSemicolon, IsOperandStart}
use Rattle.grammar_model.proofs.Reading.{IsReal}
use Rattle.parse_events.specs.declared.event.Event.{Event}
use Rattle.st_events.specs.declared.answers.Answer.TheVariants.{Refuses, Passes, Takes}
use Rattle.st_events.specs.declared.part.Part.{Part}
use Rattle.st_events.specs.declared.part.Part.TheVariants as part
use Rattle.st_events.specs.declared.part.ExpressionPart.TheVariants as expression
use Rattle.st_events.specs.declared.part.Row.{Row}
use Rattle.st_events.specs.declared.part.Row.TheVariants as row
use Rattle.st_events.specs.declared.part.Target.{Target}
use Rattle.st_events.specs.declared.part.Target.TheVariants as target
use Rattle.st_events.specs.declared.part.MessagePart.TheVariants as message
use Rattle.st_events.specs.declared.part.LiteralPart.TheVariants as literal
use Rattle.st_events.specs.declared.part.SequencePart.TheVariants as sequence
use Rattle.st_events.specs.declared.reader.Head.{Head}
use Rattle.st_events.specs.declared.reader.Reader.{Reader}
use Rattle.st_events.specs.Classes.{is_name, is_end, is_semicolon, begins_operand}
use Rattle.st_events.specs.Answers.{taken_if, messages_answer, operators_answer, keyword_answer, any_answer, answer}
use Rattle.st_events.specs.Steps.{advanced, taken, settled, message_over, passed, decided, step, run}

-- a reader with parts to come, what was found, the comments that are held and the place behind the last token
abbrev pub reader : List Part → List Event → Head → Notes → ℕ → Reader
reader ss es h c l = record { stack = ss; events = es; held = c; last = l; head = h }

-- a reader that stands where this is left to read
abbrev pub found : List Part → List Event → Head → Input → Reader
found ss es h i = reader ss es h i.held i.last

-- what becomes of it
abbrev pub go : List Part → List Event → Head → Input → Reader
go ss es h i = run (found ss es h i) i.rest

-- any token but the end is not the end
real_end : (k : Terminal) → IsReal k → is_end k ≡ false
real_end (Closes TextEnd) r = absurd r
real_end k r = refl

-- a token that the first part takes
takes_at : (p : Part) (ss : List Part) (es : List Event) (h : Head) (c : Notes) (l : ℕ) (ts : List Lexeme) (k : Terminal) → first_kind ts ≡ k → IsReal k → answer p k ≡ Takes →
    run (reader (p ∷ ss) es h c l) ts ≡ run (taken p k (first_from ts) (first_end ts) (advanced (first_notes ts) (first_end ts) (settled p k (reader ss es h c l)))) (others ts)
takes_at p ss es h c l [] k e real t = absurd (subst IsReal (sym e) real)
takes_at p ss es h c l (lex n f b k' ∷ ts) k e real t =
    let r = reader (p ∷ ss) es h c l in
    let s = step (p ∷ ss) r (lex n f b k) in
    ap (λ x. run r (lex n f b x ∷ ts)) e ∙ ap (λ x. if x then s else run s ts) (real_end k real) ∙
    ap (λ x. run (decided x (taken p k f b (advanced n b (settled p k (reader ss es h c l)))) (step ss (passed p (reader ss es h c l)) (lex n f b k))) ts) t

-- a token that the first part takes
pub takes_one : (p : Part) (ss : List Part) (es : List Event) (h : Head) (i : Input) (k : Terminal) → kind_of i ≡ k → IsReal k → answer p k ≡ Takes →
    go (p ∷ ss) es h i ≡ run (taken p k (from_of i) (next i).last (advanced (first_notes i.rest) (next i).last (settled p k (found ss es h i)))) (next i).rest
takes_one p ss es h i k e real t = takes_at p ss es h i.held i.last i.rest k e real t

-- the message to a target leaves the parts behind it
over_stack : (t : Target) (s : Text) (n : ℕ) (r : Reader) → (message_over t s n r).stack ≡ r.stack
over_stack (target.Receiver f told) s n r = refl
over_stack (target.Cascade f m) s n r = refl

-- a part that is over leaves the parts behind it
pub passed_stack : (p : Part) (r : Reader) → (passed p r).stack ≡ r.stack
passed_stack (part.Expression (expression.BehindName f e n of_super)) r = refl
passed_stack (part.Expression (expression.BehindValue f)) r = refl
passed_stack (part.Message (message.BehindArgument g s)) r = refl
passed_stack (part.Message (message.BehindKeyword t n s)) r = over_stack t s n r
passed_stack (part.Message (message.BehindCascade f n any)) r = refl
passed_stack (part.Literal (literal.BehindOperand f)) r = refl
passed_stack (part.Sequence (sequence.BehindReturn f)) r = refl
passed_stack p r = refl

-- what is found before a token leaves the parts as they are
pub settled_stack : (p : Part) (k : Terminal) (r : Reader) → (settled p k r).stack ≡ r.stack
settled_stack (part.Sequence (sequence.BehindStatement g w n returned)) (Closes c) r = refl
settled_stack p k r = refl

-- a token at which the first part is over
passes_at : (p : Part) (ss : List Part) (es : List Event) (h : Head) (c : Notes) (l : ℕ) (ts : List Lexeme) → answer p (first_kind ts) ≡ Passes →
    run (reader (p ∷ ss) es h c l) ts ≡ run (passed p (reader ss es h c l)) ts
passes_at p ss es h c l [] t = refl
passes_at p ss es h c l (lex n f b k ∷ ts) t =
    let r = passed p (reader ss es h c l) in
    let one = ap (λ x. decided x (taken p k f b (advanced n b (settled p k (reader ss es h c l)))) (step ss r (lex n f b k))) t in
    let s = one ∙ ap (λ x. step x r (lex n f b k)) (sym (passed_stack p (reader ss es h c l))) in
    ap (λ x. if is_end k then x else run x ts) s

-- a token at which the first part is over
pub passes_one : (p : Part) (ss : List Part) (es : List Event) (h : Head) (i : Input) → answer p (kind_of i) ≡ Passes →
    go (p ∷ ss) es h i ≡ run (passed p (found ss es h i)) i.rest
passes_one p ss es h i t = passes_at p ss es h i.held i.last i.rest t

-- a token with which one part does what another one does
leaves_at : (p q : Part) (ss : List Part) (es fs : List Event) (h : Head) (c d : Notes) (l : ℕ) (ts : List Lexeme) →
    ((n : Notes) (b : ℕ) → step (p ∷ ss) (reader (p ∷ ss) es h c l) (lex n (first_from ts) b (first_kind ts)) ≡ step (q ∷ ss) (reader (q ∷ ss) fs h d l) (lex n (first_from ts) b (first_kind ts))) →
    run (reader (p ∷ ss) es h c l) ts ≡ run (reader (q ∷ ss) fs h d l) ts
leaves_at p q ss es fs h c d l [] same = refl
leaves_at p q ss es fs h c d l (lex n f b k ∷ ts) same = ap (λ x. if is_end k then x else run x ts) (same n b)

-- a token with which one part does what another one does
pub leaves_one : (p q : Part) (ss : List Part) (es fs : List Event) (h : Head) (i : Input) (d : Notes) →
    ((n : Notes) (b : ℕ) → step (p ∷ ss) (found (p ∷ ss) es h i) (lex n (from_of i) b (kind_of i)) ≡ step (q ∷ ss) (reader (q ∷ ss) fs h d i.last) (lex n (from_of i) b (kind_of i))) →
    go (p ∷ ss) es h i ≡ run (reader (q ∷ ss) fs h d i.last) i.rest
leaves_one p q ss es fs h i d same = leaves_at p q ss es fs h i.held d i.last i.rest same

-- what is found below a part that is never over says nothing
pub refuse_same : (b : Bool) (x y z : Reader) → decided (taken_if b Refuses) x y ≡ decided (taken_if b Refuses) x z
refuse_same true x y z = refl
refuse_same false x y z = refl

-- super is alone no more
abbrev pub NotSuper : Row → Type 0
NotSuper row.Super = ⊥
NotSuper w = Unit {0}

-- no message and no cascade goes on an expression
pub messages_over : (w : Row) (told : Bool) (k : Terminal) → NotSuper w → NoUnary k → NoBinary k → NoKey k → NoSemicolon k → messages_answer w told k ≡ Passes
messages_over row.Super told k w h g f e = absurd w
messages_over row.Unary told (Name c n) w h g f e = absurd h
messages_over row.Unary told (OperandMeta AnyName n) w h g f e = absurd h
messages_over row.Unary told (Binary c n) w h g f e = absurd g
messages_over row.Unary told (Keyword c n) w h g f e = absurd f
messages_over row.Unary told (MessageMeta n) w h g f e = absurd f
messages_over row.Unary told Semicolon w h g f e = absurd e
messages_over row.Unary told k w h g f e = refl
messages_over row.Binary told (Name c n) w h g f e = absurd h
messages_over row.Binary told (Binary c n) w h g f e = absurd g
messages_over row.Binary told (Keyword c n) w h g f e = absurd f
messages_over row.Binary told (MessageMeta n) w h g f e = absurd f
messages_over row.Binary told Semicolon w h g f e = absurd e
messages_over row.Binary told k w h g f e = refl

-- no unary or binary message goes on a keyword's argument
pub operators_over : (w : Row) (k : Terminal) → NotSuper w → NoUnary k → NoBinary k → operators_answer w k ≡ Passes
operators_over row.Super k w h g = absurd w
operators_over row.Unary (Name c n) w h g = absurd h
operators_over row.Unary (OperandMeta AnyName n) w h g = absurd h
operators_over row.Unary (Binary c n) w h g = absurd g
operators_over row.Unary k w h g = refl
operators_over row.Binary (Binary c n) w h g = absurd g
operators_over row.Binary k w h g = refl

-- no keyword and no cascade goes on a message of keywords
pub keywords_over : (told : Bool) (k : Terminal) → NoKey k → NoSemicolon k → keyword_answer told k ≡ Passes
keywords_over told (Keyword c n) f e = absurd f
keywords_over told (MessageMeta n) f e = absurd f
keywords_over told Semicolon f e = absurd e
keywords_over told k f e = refl

-- no cascade goes on a whole message
pub any_over : (told : Bool) (k : Terminal) → NoKey k → NoSemicolon k → any_answer told k ≡ Passes
any_over told (Keyword c n) f e = absurd f
any_over told (MessageMeta n) f e = absurd f
any_over told Semicolon f e = absurd e
any_over told k f e = refl

-- nothing that is a unary selector
pub not_name : (k : Terminal) → NoUnary k → is_name k ≡ false
not_name (Name c n) h = absurd h
not_name (OperandMeta AnyName n) h = absurd h
not_name k h = refl

-- no semicolon
pub not_semicolon : (k : Terminal) → NoSemicolon k → is_semicolon k ≡ false
not_semicolon Semicolon h = absurd h
not_semicolon k h = refl

-- an operand begins so
pub begins_with : (k : Terminal) → IsOperandStart k → begins_operand k ≡ true
begins_with (Name c n) h = refl
begins_with (Binary Sign s) h = refl
begins_with (Numeral c t) h = refl
begins_with (Constant l) h = refl
begins_with (Opens o) h = refl
begins_with (OperandMeta m n) h = refl
begins_with k h = absurd h
