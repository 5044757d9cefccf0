-- The values of literals in order.
use Rattle.std.proofs.Common.{◌≡◌, ℕ, zero, suc, ◌<◌, ◌≤◌, ◌+◌, List, [], ◌∷◌, ◌++◌, length, drop, get_or, Option, Some, None, refl, sym, ap, ◌∙◌, append_assoc, add-one, drop-cons, arith}
use Rattle.std.proofs.lemmas.List.{drop_all, append-nil}
use Rattle.tree_model.specs.Tree.{LiteralOf, literals_of}
use Rattle.tree_model.specs.Measure.{literal_weight, literals_weight}
use Rattle.run_model.specs.Values.{Name, Value, unsupported}
use Rattle.run_model.specs.Store.{Store, Result, fine, leaves, ends_by}
use Rattle.run_model.specs.Acts.{Act, acts, then_do, gives, and_then}
use Rattle.run_model.specs.Eval.{literal_value, literal_values}
use Rattle.st_literals.specs.Given.{given, literal_at, literals_at}

-- the values of these literals after those that are known
abbrev pub left : List Name → List Value → List (LiteralOf ℕ) → Act (List Value)
left names done ls s = then_do (literal_values acts (literals_at names ls) s) (λ vs s1. fine (done ++ vs) s1)

then_then : {A B C : Type 0} (r : Result A) (k : A → Act B) (h : B → Act C) → then_do (then_do r k) h ≡ then_do r (λ a s. then_do (k a s) h)
then_then (fine a s) k h = refl
then_then (leaves x s) k h = refl

then_fine : {A : Type 0} (r : Result A) → then_do r (λ a s. fine a s) ≡ r
then_fine (fine a s) = refl
then_fine (leaves x s) = refl

-- nothing is known at first
pub left_first : (names : List Name) (ls : List (LiteralOf ℕ)) (s : Store) → left names [] ls s ≡ literal_values acts (literals_at names ls) s
left_first names ls s = then_fine (literal_values acts (literals_at names ls) s)

-- one literal more
left_cons : (names : List Name) (done : List Value) (l : LiteralOf ℕ) (ls : List (LiteralOf ℕ)) (s : Store)
    → left names done (l ∷ ls) s ≡ then_do (literal_value acts (literal_at names l) s) (λ v. left names (done ++ v ∷ []) ls)
unfolding and_then gives
left_cons names done l ls s =
    then_then (literal_value acts (literal_at names l) s) _ _
    ∙ (λ j. then_do (literal_value acts (literal_at names l) s) (λ v s1. then_then (literal_values acts (literals_at names ls) s1) (λ vs s2. fine (v ∷ vs) s2) (λ vs s2. fine (done ++ vs) s2) j))
    ∙ (λ j. then_do (literal_value acts (literal_at names l) s) (λ v s1. then_do (literal_values acts (literals_at names ls) s1) (λ vs s2. fine (sym (append_assoc done (v ∷ []) vs) j) s2)))

split : (i : ℕ) (ls : List (LiteralOf ℕ)) (l : LiteralOf ℕ) → i < length ls → l ≡ get_or ls i l → drop i ls ≡ l ∷ drop (i + 1) ls
split i ls l h e = rw (add-one, drop-cons ls i l) (λ j. sym e j ∷ drop (suc i) ls)

-- the step of the loop, at a literal that has a value
pub left_step : (names : List Name) (done : List Value) (r : Option Value) (v : Value) (ls : List (LiteralOf ℕ)) (i : ℕ) (l : LiteralOf ℕ) (s s1 : Store) → i < length ls → l ≡ get_or ls i l
    → given r s1 ≡ literal_value acts (literal_at names l) s → r ≡ Some v → left names (done ++ v ∷ []) (drop (i + 1) ls) s1 ≡ left names done (drop i ls) s
left_step names done r v ls i l s s1 h e q w =
    ap (λ x. then_do (given x s1) (λ u. left names (done ++ u ∷ []) (drop (i + 1) ls))) (sym w)
    ∙ ap (λ x. then_do x (λ u. left names (done ++ u ∷ []) (drop (i + 1) ls))) q
    ∙ sym (left_cons names done l (drop (i + 1) ls) s)
    ∙ ap (λ z. left names done z s) (sym (split i ls l h e))

-- the end of the loop, at a literal that is only kept
pub left_none : (names : List Name) (done : List Value) (r : Option Value) (ls : List (LiteralOf ℕ)) (i : ℕ) (l : LiteralOf ℕ) (s s1 : Store) → i < length ls → l ≡ get_or ls i l
    → given r s1 ≡ literal_value acts (literal_at names l) s → r ≡ None → leaves (ends_by unsupported) s1 ≡ left names done (drop i ls) s
left_none names done r ls i l s s1 h e q w =
    ap (λ x. then_do (given x s1) (λ u. left names (done ++ u ∷ []) (drop (i + 1) ls))) (sym w)
    ∙ ap (λ x. then_do x (λ u. left names (done ++ u ∷ []) (drop (i + 1) ls))) q
    ∙ sym (left_cons names done l (drop (i + 1) ls) s)
    ∙ ap (λ z. left names done z s) (sym (split i ls l h e))

-- nothing is left
pub left_over : (names : List Name) (done : List Value) (ls : List (LiteralOf ℕ)) (i : ℕ) (s : Store) → length ls ≤ i → fine done s ≡ left names done (drop i ls) s
unfolding gives
left_over names done ls i s h = ap (λ z. fine z s) (sym (append-nil done)) ∙ ap (λ z. left names done z s) (sym (drop_all i ls h))

-- a literal of a list weighs less than the list
pub item_weight : (ls : List (LiteralOf ℕ)) (i : ℕ) (l : LiteralOf ℕ) → i < length ls → l ≡ get_or ls i l → literal_weight l < literals_weight (literals_of ls)
item_weight [] i l h e = absurd (omega arith)
item_weight (m ∷ ls) zero l h e = omega (arith, ap (literal_weight {N = ℕ}) e)
item_weight (m ∷ ls) (suc i) l h e = omega (arith, item_weight ls i l (omega arith) e)
