-- When a tree with names is another one with laws of rewriting applied at some places.
use Rattle.std.specs.Prelude.{◌≡◌, List, [], ◌∷◌, ℕ, codes}
use Rattle.std.specs.List.{AllZip}
use Rattle.tree_model.specs.Tree.{Notes, LiteralOf, TreeOf, var, literal, send, cascade, assign, block, brace, return, TreesOf, no_trees, more_trees, MessagesOf, no_messages, more_messages, StatementsOf, no_statements, more_statements}
use Rattle.image_model.specs.Image.{EntryOf, DoItOf, ImageOf}
use Rattle.run_model.specs.Values.{Name}

-- one argument, and two
abbrev pub one_tree : TreeOf Name → TreesOf Name
one_tree t = more_trees t no_trees

abbrev pub two_trees : TreeOf Name → TreeOf Name → TreesOf Name
two_trees t u = more_trees t (one_tree u)

-- a block without parameters and temporaries, and one of one expression; with their comments
abbrev pub just_block : StatementsOf Name → Notes → TreeOf Name
just_block ss e = block [] [] ss e

abbrev pub expression_block : Notes → TreeOf Name → Notes → TreeOf Name
expression_block c t e = block [] [] (more_statements c t no_statements) e

-- Comments may change; all else is kept, or changed by a law. A law may be applied inside the parts of another.
mutual
  pub data Rewritten : TreeOf Name → TreeOf Name → Type 0 where
    same_var : (n : Name) → Rewritten (var n) (var n)
    same_literal : (l : LiteralOf Name) → Rewritten (literal l) (literal l)
    in_send : {r r' : TreeOf Name} {args args' : TreesOf Name} → Rewritten r r' → (s : Name) → EachRewritten args args' → Rewritten (send r s args) (send r' s args')
    in_cascade : {r r' : TreeOf Name} {ms ms' : MessagesOf Name} → Rewritten r r' → MessagesRewritten ms ms' → Rewritten (cascade r ms) (cascade r' ms')
    in_assign : {t t' : TreeOf Name} → (n : Name) → Rewritten t t' → Rewritten (assign n t) (assign n t')
    in_block : {ss ss' : StatementsOf Name} → (ps ts : List Name) → (e e' : Notes) → LinesRewritten ss ss' → Rewritten (block ps ts ss e) (block ps ts ss' e')
    in_brace : {ts ts' : TreesOf Name} → EachRewritten ts ts' → Rewritten (brace ts) (brace ts')
    in_return : {t t' : TreeOf Name} → Rewritten t t' → Rewritten (return t) (return t')
    forth_1 : {c c' : TreeOf Name} {s s' t t' : StatementsOf Name} (d e f g : Notes) → Rewritten c c' → LinesRewritten s s' → LinesRewritten t t' → Rewritten (send c (codes "ifTrue:ifFalse:") (two_trees (just_block s d) (just_block t e))) (send c' (codes "ifFalse:ifTrue:") (two_trees (just_block t' f) (just_block s' g)))
    back_1 : {c c' : TreeOf Name} {s s' t t' : StatementsOf Name} (d e f g : Notes) → Rewritten c c' → LinesRewritten s s' → LinesRewritten t t' → Rewritten (send c (codes "ifFalse:ifTrue:") (two_trees (just_block t f) (just_block s g))) (send c' (codes "ifTrue:ifFalse:") (two_trees (just_block s' d) (just_block t' e)))
    forth_2 : {c c' : TreeOf Name} {s s' : StatementsOf Name} (d e f g : Notes) → Rewritten c c' → LinesRewritten s s' → Rewritten (send c (codes "ifTrue:") (one_tree (just_block s d))) (send c' (codes "ifTrue:ifFalse:") (two_trees (just_block s' e) (expression_block f (var (codes "nil")) g)))
    back_2 : {c c' : TreeOf Name} {s s' : StatementsOf Name} (d e f g : Notes) → Rewritten c c' → LinesRewritten s s' → Rewritten (send c (codes "ifTrue:ifFalse:") (two_trees (just_block s e) (expression_block f (var (codes "nil")) g))) (send c' (codes "ifTrue:") (one_tree (just_block s' d)))
    forth_3 : {c c' : TreeOf Name} {s s' : StatementsOf Name} (d e f g : Notes) → Rewritten c c' → LinesRewritten s s' → Rewritten (send c (codes "ifFalse:") (one_tree (just_block s d))) (send c' (codes "ifTrue:ifFalse:") (two_trees (expression_block f (var (codes "nil")) g) (just_block s' e)))
    back_3 : {c c' : TreeOf Name} {s s' : StatementsOf Name} (d e f g : Notes) → Rewritten c c' → LinesRewritten s s' → Rewritten (send c (codes "ifTrue:ifFalse:") (two_trees (expression_block f (var (codes "nil")) g) (just_block s e))) (send c' (codes "ifFalse:") (one_tree (just_block s' d)))
    forth_4 : {c c' : TreeOf Name} {s s' : StatementsOf Name} (d e f g : Notes) → Rewritten c c' → LinesRewritten s s' → Rewritten (send c (codes "and:") (one_tree (just_block s d))) (send c' (codes "ifTrue:ifFalse:") (two_trees (just_block s' e) (expression_block f (var (codes "false")) g)))
    back_4 : {c c' : TreeOf Name} {s s' : StatementsOf Name} (d e f g : Notes) → Rewritten c c' → LinesRewritten s s' → Rewritten (send c (codes "ifTrue:ifFalse:") (two_trees (just_block s e) (expression_block f (var (codes "false")) g))) (send c' (codes "and:") (one_tree (just_block s' d)))
    forth_5 : {c c' : TreeOf Name} {s s' : StatementsOf Name} (d e f g : Notes) → Rewritten c c' → LinesRewritten s s' → Rewritten (send c (codes "or:") (one_tree (just_block s d))) (send c' (codes "ifTrue:ifFalse:") (two_trees (expression_block f (var (codes "true")) g) (just_block s' e)))
    back_5 : {c c' : TreeOf Name} {s s' : StatementsOf Name} (d e f g : Notes) → Rewritten c c' → LinesRewritten s s' → Rewritten (send c (codes "ifTrue:ifFalse:") (two_trees (expression_block f (var (codes "true")) g) (just_block s e))) (send c' (codes "or:") (one_tree (just_block s' d)))
    forth_6 : {c c' : TreeOf Name} {s s' : StatementsOf Name} (d e f g : Notes) → Rewritten c c' → LinesRewritten s s' → Rewritten (send c (codes "ifFalse:") (one_tree (just_block s d))) (send c' (codes "ifFalse:ifTrue:") (two_trees (just_block s' e) (expression_block f (var (codes "nil")) g)))
    back_6 : {c c' : TreeOf Name} {s s' : StatementsOf Name} (d e f g : Notes) → Rewritten c c' → LinesRewritten s s' → Rewritten (send c (codes "ifFalse:ifTrue:") (two_trees (just_block s e) (expression_block f (var (codes "nil")) g))) (send c' (codes "ifFalse:") (one_tree (just_block s' d)))
    forth_7 : {x x' y y' z z' : TreeOf Name} (d e f g h i j k : Notes) → Rewritten x x' → Rewritten y y' → Rewritten z z' → Rewritten (send (send x (codes "and:") (one_tree (expression_block d y e))) (codes "and:") (one_tree (expression_block f z g))) (send x' (codes "and:") (one_tree (expression_block j (send y' (codes "and:") (one_tree (expression_block h z' i))) k)))
    back_7 : {x x' y y' z z' : TreeOf Name} (d e f g h i j k : Notes) → Rewritten x x' → Rewritten y y' → Rewritten z z' → Rewritten (send x (codes "and:") (one_tree (expression_block j (send y (codes "and:") (one_tree (expression_block h z i))) k))) (send (send x' (codes "and:") (one_tree (expression_block d y' e))) (codes "and:") (one_tree (expression_block f z' g)))
    forth_8 : {x x' y y' z z' : TreeOf Name} (d e f g h i j k : Notes) → Rewritten x x' → Rewritten y y' → Rewritten z z' → Rewritten (send (send x (codes "or:") (one_tree (expression_block d y e))) (codes "or:") (one_tree (expression_block f z g))) (send x' (codes "or:") (one_tree (expression_block j (send y' (codes "or:") (one_tree (expression_block h z' i))) k)))
    back_8 : {x x' y y' z z' : TreeOf Name} (d e f g h i j k : Notes) → Rewritten x x' → Rewritten y y' → Rewritten z z' → Rewritten (send x (codes "or:") (one_tree (expression_block j (send y (codes "or:") (one_tree (expression_block h z i))) k))) (send (send x' (codes "or:") (one_tree (expression_block d y' e))) (codes "or:") (one_tree (expression_block f z' g)))
    forth_10 : {c c' x x' y y' : TreeOf Name} (d e f g h i j k : Notes) → Rewritten c c' → Rewritten x x' → Rewritten y y' → Rewritten (send c (codes "ifTrue:ifFalse:") (two_trees (expression_block d (return x) e) (expression_block f (return y) g))) (return (send c' (codes "ifTrue:ifFalse:") (two_trees (expression_block h x' i) (expression_block j y' k))))
    back_10 : {c c' x x' y y' : TreeOf Name} (d e f g h i j k : Notes) → Rewritten c c' → Rewritten x x' → Rewritten y y' → Rewritten (return (send c (codes "ifTrue:ifFalse:") (two_trees (expression_block h x i) (expression_block j y k)))) (send c' (codes "ifTrue:ifFalse:") (two_trees (expression_block d (return x') e) (expression_block f (return y') g)))

  -- trees in order
  pub data EachRewritten : TreesOf Name → TreesOf Name → Type 0 where
    none_rewritten : EachRewritten no_trees no_trees
    then_rewritten : {t t' : TreeOf Name} {ts ts' : TreesOf Name} → Rewritten t t' → EachRewritten ts ts' → EachRewritten (more_trees t ts) (more_trees t' ts')

  -- messages in order
  pub data MessagesRewritten : MessagesOf Name → MessagesOf Name → Type 0 where
    no_message_rewritten : MessagesRewritten no_messages no_messages
    message_rewritten : {args args' : TreesOf Name} {ms ms' : MessagesOf Name} → (s : Name) → EachRewritten args args' → MessagesRewritten ms ms' → MessagesRewritten (more_messages s args ms) (more_messages s args' ms')

  -- statements in order; law 9 is one of statements
  pub data LinesRewritten : StatementsOf Name → StatementsOf Name → Type 0 where
    no_line_rewritten : LinesRewritten no_statements no_statements
    line_rewritten : {t t' : TreeOf Name} {ss ss' : StatementsOf Name} → (c c' : Notes) → Rewritten t t' → LinesRewritten ss ss' → LinesRewritten (more_statements c t ss) (more_statements c' t' ss')
    forth_9 : {ss ss' : StatementsOf Name} → (c d e : Notes) → (m n : Name) → LinesRewritten ss ss' →
        LinesRewritten (more_statements c (cascade (var (codes "self")) (more_messages m no_trees (more_messages n no_trees no_messages))) ss) (more_statements d (send (var (codes "self")) m no_trees) (more_statements e (send (var (codes "self")) n no_trees) ss'))
    back_9 : {ss ss' : StatementsOf Name} → (c d e : Notes) → (m n : Name) → LinesRewritten ss ss' →
        LinesRewritten (more_statements d (send (var (codes "self")) m no_trees) (more_statements e (send (var (codes "self")) n no_trees) ss)) (more_statements c (cascade (var (codes "self")) (more_messages m no_trees (more_messages n no_trees no_messages))) ss')

-- a method with another source, other comments and other statements
abbrev pub method_with : EntryOf Name → List ℕ → Notes → StatementsOf Name → Notes → EntryOf Name
method_with m source head ss tail =
    record m { source = source; tree = record m.tree { head = head; body = record { temporaries = m.tree.body.temporaries; statements = ss; tail = tail } } }

-- a do-it
abbrev pub doit_with : DoItOf Name → List ℕ → StatementsOf Name → Notes → DoItOf Name
doit_with d source ss tail = record { source = source; body = record { temporaries = d.body.temporaries; statements = ss; tail = tail } }

-- a method in which laws are applied
abbrev pub MethodRewritten : EntryOf Name → EntryOf Name → Type 0
MethodRewritten m m' =
    (source : List ℕ) × (head : Notes) × (ss : StatementsOf Name) × (tail : Notes) × (m' ≡ method_with m source head ss tail) × LinesRewritten m.tree.body.statements ss

-- a do-it
abbrev pub DoItRewritten : DoItOf Name → DoItOf Name → Type 0
DoItRewritten d d' = (source : List ℕ) × (ss : StatementsOf Name) × (tail : Notes) × (d' ≡ doit_with d source ss tail) × LinesRewritten d.body.statements ss

-- an image in whose methods and do-its laws are applied
pub record ImageRewritten (i j : ImageOf Name) : Type 0 where
  pub classes : j.classes ≡ i.classes
  pub methods : AllZip MethodRewritten i.methods j.methods
  pub doits : AllZip DoItRewritten i.doits j.doits

-- the same in any number of steps
abbrev pub RewrittenAlong : ImageOf Name → List (ImageOf Name) → ImageOf Name → Type 0
RewrittenAlong i [] j = ImageRewritten i j
RewrittenAlong i (k ∷ ks) j = ImageRewritten i k × RewrittenAlong k ks j
