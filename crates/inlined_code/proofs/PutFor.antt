-- Statements that stand in place of one statement, as lists.
use Rattle.std.proofs.Common.{◌≡◌, ℕ, zero, suc, ◌<◌, min, List, [], ◌∷◌, ◌++◌, length, take, drop, option_map, unwrap_or, refl, sym, ap, ◌∙◌, arith}
use Rattle.std.proofs.lemmas.List.{take_all, drop_all}
use Rattle.tree_model.specs.Tree.{Notes, StatementsOf, more_statements, SequenceOf, MethodOf}
use Rattle.tree_model.specs.Path.{part_in, method_replaced}
use Rattle.scope_model.specs.FreeNames.{take_statements, drop_statements}
use Rattle.st_tree.specs.View.{statements_of}
use Rattle.st_tree.specs.declared.tree.Statement.{Statement}
use Rattle.command_model.specs.Sequences.{joined, first_notes, noted, noted_tail, put_for, sequence_changed, block_changed}

-- the first statements of a list, those behind them, and two lists in a row
take-statements : (k : ℕ) (xs : List Statement) → take_statements k (statements_of xs) ≡ statements_of (take k xs)
take-statements zero xs = refl
take-statements (suc k) [] = refl
take-statements (suc k) (x ∷ xs) = ap (more_statements x.comments x.node) (take-statements k xs)

drop-statements : (k : ℕ) (xs : List Statement) → drop_statements k (statements_of xs) ≡ statements_of (drop k xs)
drop-statements zero xs = refl
drop-statements (suc k) [] = refl
drop-statements (suc k) (x ∷ xs) = drop-statements k xs

joined-statements : (xs ys : List Statement) → joined (statements_of xs) (statements_of ys) ≡ statements_of (xs ++ ys)
joined-statements [] ys = refl
joined-statements (x ∷ xs) ys = ap (more_statements x.comments x.node) (joined-statements xs ys)

-- a number that is cut down to the length
take-cut : {X : Type 0} (k : ℕ) (xs : List X) → take (min k (length xs)) xs ≡ take k xs
take-cut k xs = grind (arith, take_all)

drop-cut : {X : Type 0} (k : ℕ) (xs : List X) → drop (min k (length xs)) xs ≡ drop k xs
drop-cut k xs = grind (arith, drop_all)

-- a list is cut in two, the first item goes from the second part, and new ones come before the rest of it
pub put-for : (k n : ℕ) (ts : List ℕ) (new items front after rest put whole : List Statement) (notes tail last : Notes)
    → n ≡ min k (length items) → front ≡ take n items → after ≡ drop n items
    → notes ≡ first_notes (statements_of after) → statements_of rest ≡ drop_statements 1 (statements_of after)
    → put ≡ new ++ rest → statements_of whole ≡ noted notes (statements_of put) → last ≡ noted_tail notes (statements_of put) tail
    → record { temporaries = ts; statements = statements_of (front ++ whole); tail = last } ≡ put_for k (statements_of new) (record { temporaries = ts; statements = statements_of items; tail = tail })
put-for k n ts new items front after rest put whole notes tail last cut f a c r p w l =
    λ i. record { temporaries = ts; statements = all i; tail = end i }
  where
    old : StatementsOf ℕ
    old = drop_statements k (statements_of items)

    behind : statements_of after ≡ old
    behind = ap statements_of (a ∙ ap (λ j. drop j items) cut ∙ drop-cut k items) ∙ sym (drop-statements k items)

    before : statements_of front ≡ take_statements k (statements_of items)
    before = ap statements_of (f ∙ ap (λ j. take j items) cut ∙ take-cut k items) ∙ sym (take-statements k items)

    first : notes ≡ first_notes old
    first = c ∙ ap first_notes behind

    there : statements_of put ≡ joined (statements_of new) (drop_statements 1 old)
    there = ap statements_of p ∙ sym (joined-statements new rest) ∙ ap (joined (statements_of new)) (r ∙ ap (drop_statements 1) behind)

    all : statements_of (front ++ whole) ≡ joined (take_statements k (statements_of items)) (noted (first_notes old) (joined (statements_of new) (drop_statements 1 old)))
    all = sym (joined-statements front whole) ∙ (λ i. joined (before i) ((w ∙ (λ j. noted (first j) (there j))) i))

    end : last ≡ noted_tail (first_notes old) (joined (statements_of new) (drop_statements 1 old)) tail
    end = l ∙ (λ i. noted_tail (first i) (there i) tail)

-- the sequence at a path that is not empty is that of a block, if there is one
pub changed-inside : (change : SequenceOf ℕ → SequenceOf ℕ) (path : List ℕ) (m : MethodOf ℕ) → 0 < length path
    → sequence_changed change path m ≡ unwrap_or (option_map (λ t. method_replaced m path (block_changed change t)) (part_in m.body path)) m
changed-inside change [] m h = absurd (omega arith)
changed-inside change (k ∷ ks) m h = refl
