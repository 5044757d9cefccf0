-- The views of statements, sequences and methods lose nothing, and a replaced part can be put back.
use Rattle.std.proofs.Common.{◌≡◌, ℕ, List, [], ◌∷◌, refl, sym, ◌∙◌, ap, Some}
use Rattle.tree_model.specs.Tree.{TreeOf, StatementsOf, no_statements, more_statements, SequenceOf, MethodOf}
use Rattle.tree_model.specs.Path.{part_in, replaced_in, method_replaced}
use Rattle.tree_model.proofs.Parts.{replaced_in-replaced_in, replaced_in-part_in}
use Rattle.st_tree.specs.View.{statements_of, statements_from, sequence_of, sequence_from, method_of, method_from}
use Rattle.st_tree.specs.declared.tree.Statement.{Statement}
use Rattle.st_tree.specs.declared.tree.Sequence.{Sequence}
use Rattle.st_tree.specs.declared.tree.Method.{Method}

-- statements come back
statements_from-statements_of : (ss : List Statement) → statements_from (statements_of ss) ≡ ss
statements_from-statements_of [] = refl
statements_from-statements_of (s ∷ ss) = ap (λ (ts : List Statement). s ∷ ts) (statements_from-statements_of ss)

-- abstract statements come back
statements_of-statements_from : (ss : StatementsOf ℕ) → statements_of (statements_from ss) ≡ ss
statements_of-statements_from no_statements = refl
statements_of-statements_from (more_statements c t ss) = ap (more_statements c t) (statements_of-statements_from ss)

-- a sequence comes back
pub sequence_from-sequence_of : (b : Sequence) → sequence_from (sequence_of b) ≡ b
sequence_from-sequence_of b = λ i. record { temporaries = b.temporaries; statements = statements_from-statements_of b.statements i; tail = b.tail }

-- an abstract sequence comes back
pub sequence_of-sequence_from : (b : SequenceOf ℕ) → sequence_of (sequence_from b) ≡ b
sequence_of-sequence_from b = λ i. record { temporaries = b.temporaries; statements = statements_of-statements_from b.statements i; tail = b.tail }

-- a method comes back
pub method_from-method_of : (m : Method) → method_from (method_of m) ≡ m
method_from-method_of m =
    λ i. record { selector = m.selector; arguments = m.arguments; head = m.head; primitive = m.primitive; body = sequence_from-sequence_of m.body i }

-- an abstract method comes back
pub method_of-method_from : (m : MethodOf ℕ) → method_of (method_from m) ≡ m
method_of-method_from m =
    λ i. record { selector = m.selector; arguments = m.arguments; head = m.head; primitive = m.primitive; body = sequence_of-sequence_from m.body i }

-- a second replacement by the old part restores a sequence
replaced_in-back : (b : SequenceOf ℕ) (path : List ℕ) (old part : TreeOf ℕ) → part_in b path ≡ Some old → replaced_in (replaced_in b path part) path old ≡ b
replaced_in-back b path old part e = replaced_in-replaced_in b path part old ∙ replaced_in-part_in b path old e

-- a second replacement by the old part restores a do-it
pub doit_restored : (before between after : Sequence) (path : List ℕ) (old part : TreeOf ℕ) → part_in (sequence_of before) path ≡ Some old
    → sequence_of between ≡ replaced_in (sequence_of before) path part → sequence_of after ≡ replaced_in (sequence_of between) path old → after ≡ before
doit_restored before between after path old part e p q =
    sym (sequence_from-sequence_of after)
    ∙ ap sequence_from (q ∙ ap (λ (b : SequenceOf ℕ). replaced_in b path old) p ∙ replaced_in-back (sequence_of before) path old part e)
    ∙ sequence_from-sequence_of before

-- a second replacement by the old part restores a method
pub method_restored : (before between after : Method) (path : List ℕ) (old part : TreeOf ℕ) → part_in (method_of before).body path ≡ Some old
    → method_of between ≡ method_replaced (method_of before) path part → method_of after ≡ method_replaced (method_of between) path old → after ≡ before
method_restored before between after path old part e p q =
    sym (method_from-method_of after)
    ∙ ap method_from (q ∙ ap (λ (m : MethodOf ℕ). method_replaced m path old) p ∙ (λ i. record (method_of before) { body = replaced_in-back (sequence_of before.body) path old part e i }))
    ∙ method_from-method_of before
