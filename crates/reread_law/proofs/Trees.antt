-- The canonical text of each tree that some text spells is read as that tree.
use Rattle.std.proofs.Common.{◌≡◌, Bool, true, false, refl, ap, sym, ◌∙◌}
use Rattle.std.specs.Prelude.{codes, if◌then◌else◌}
use Rattle.std.specs.Str.{bytes_eq}
use Rattle.std.proofs.lemmas.Bool.{false≢true}
use Rattle.tree_model.specs.Tree.{LiteralOf, TreeOf, var, literal, send, cascade, assign, block, brace, return, TreesOf, no_trees, more_trees, MessagesOf, no_messages, more_messages, StatementsOf, no_statements, more_statements}
use Rattle.grammar_model.specs.Terminal.{Text, Ordinary, Super, Name}
use Rattle.grammar_model.specs.Input.{from_of, next}
use Rattle.grammar_model.specs.Spanned.{Var, Literal}
use Rattle.grammar_model.specs.Chain.{Waiting, Alone}
use Rattle.grammar_model.specs.Lexemes.{name_of}
use Rattle.grammar_model.specs.Grammar.{Variable, SuperName, LiteralOperand, NoUnaries}
use Rattle.reread_law.specs.WellFormed.{IsWord, WellFormedLiteral, NoWord, WellFormed, WellFormedTrees, WellFormedMessages, WellFormedStatements}
use Rattle.reread_law.proofs.Bytes.{ends_all}
use Rattle.reread_law.proofs.Words.{name_word}
use Rattle.reread_law.proofs.Steps.{step}
use Rattle.reread_law.proofs.ReadsLiterals.{word_as, reads_literal}
use Rattle.reread_law.proofs.Operands.{UnaryRead, Reads, CanRead, can_unary}
use Rattle.reread_law.proofs.Messages.{CanReadAll, can_send}
use Rattle.reread_law.proofs.Expressions.{CanReadMessages, can_cascade, can_assign, can_return, can_brace}
use Rattle.reread_law.proofs.Sequences.{CanReadStatements}
use Rattle.reread_law.proofs.Blocks.{can_block}

-- a variable, or super
reads_var : (x : Text) → IsWord x → Reads UnaryRead (var x)
reads_var x g w n k i h s e le a = go (bytes_eq x (codes "super")) refl
  where
    go : (b : Bool) → bytes_eq x (codes "super") ≡ b → UnaryRead w n i h (var x) s
    go true f =
        let is : name_of x ≡ Name Super x = ap (λ b. if b then Name Super x else Name Ordinary x) f in
        let z = step n x s (word_as is (name_word x s g (ends_all s e))) (λ c f e ts. refl) a in
        record { first = Waiting (from_of i) (next i).last x; middle = next i; last = Waiting (from_of i) (next i).last x; stop = next i; operand = SuperName z.kind; unaries = NoUnaries tt; plain = refl; value = λ v. absurd (false≢true (sym v ∙ f)); held = z.held; fresh = z.fresh }
    go false f =
        let is : name_of x ≡ Name Ordinary x = ap (λ b. if b then Name Super x else Name Ordinary x) f in
        let z = step n x s (word_as is (name_word x s g (ends_all s e))) (λ c f e ts. refl) a in
        let tree = Var (from_of i) (next i).last x in
        record { first = Alone tree; middle = next i; last = Alone tree; stop = next i; operand = Variable z.kind; unaries = NoUnaries tt; plain = refl; value = λ v. tt; held = z.held; fresh = z.fresh }

-- a literal outside arrays
reads_constant : (l : LiteralOf Text) → WellFormedLiteral l → NoWord l → Reads UnaryRead (literal l)
reads_constant l g plain w n k i h s e le a =
    let z = reads_literal l g w n i h s e le a in
    let tree = Literal (from_of i) z.stop.last l in
    record { first = Alone tree; middle = z.stop; last = Alone tree; stop = z.stop; operand = LiteralOperand (z.literal plain); unaries = NoUnaries tt; plain = refl; value = λ v. tt; held = z.held; fresh = z.fresh }

mutual
  -- a tree
  pub can_read : (t : TreeOf Text) → WellFormed t → CanRead t
  can_read (var x) g = can_unary (var x) (λ x. x) (reads_var x g)
  can_read (literal l) g = can_unary (literal l) (λ x. x) (reads_constant l g.0 g.1)
  can_read (send r s xs) g = can_send r s xs (can_read r g.0) g.1 g.2 (can_read_all xs g.3)
  can_read (cascade r ms) g = can_cascade r ms (can_read r g.0) g.1 g.2 (can_read_messages ms g.3)
  can_read (assign x t) g = can_assign x t g.0 (can_read t g.1) g.2
  can_read (block ps ds ss e) g = can_block ps ds ss e g.0 g.1 (can_read_statements ss g.2) g.3
  can_read (brace ts) g = can_brace ts (can_read_all ts g)
  can_read (return t) g = can_return t (can_read t g.0) g.1

  -- trees
  can_read_all : (ts : TreesOf Text) → WellFormedTrees ts → CanReadAll ts
  can_read_all no_trees g = tt
  can_read_all (more_trees t ts) g = (can_read t g.0, g.1, can_read_all ts g.2)

  -- messages
  can_read_messages : (ms : MessagesOf Text) → WellFormedMessages ms → CanReadMessages ms
  can_read_messages no_messages g = tt
  can_read_messages (more_messages s xs ms) g = (g.0, can_read_all xs g.1, can_read_messages ms g.2)

  -- statements
  pub can_read_statements : (ss : StatementsOf Text) → WellFormedStatements ss → CanReadStatements ss
  can_read_statements no_statements g = tt
  can_read_statements (more_statements c t ss) g = (g.0, can_read t g.1, g.2, can_read_statements ss g.3)
