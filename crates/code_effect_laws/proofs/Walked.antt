-- A proper tree whose reads and assignments are made anew by a walk is proper.
use Rattle.std.proofs.Common.{◌≡◌, inl, inr, ℕ, zero, suc, ◌+◌, false, List, [], ◌∷◌, ◌++◌, Some, option_and_then, refl, sym, ap, subst, ◌∙◌, arith}
use Rattle.tree_model.specs.Tree.{Notes, LiteralOf, TreeOf, var, literal, send, cascade, assign, block, brace, return, TreesOf, no_trees, more_trees, MessagesOf, no_messages, more_messages, StatementsOf, no_statements, more_statements}
use Rattle.tree_model.specs.Path.{append, count, nth, all_arguments, statement_trees, child, part_at}
use Rattle.grammar_model.specs.Words.{is_pseudo}
use Rattle.grammar_model.specs.Checks.{Known, is_fixed}
use Rattle.reread_law.specs.WellFormed.{IsWord, AreParts, LastOne, OneBefore, FitsArguments, FitsNone, FitsOne, FitsParts, IsValue, AreTwo}
use Rattle.reread_law.specs.Declarations.{known_names}
use Rattle.file_model.specs.Filing.{Text}
use Rattle.command_model.specs.Walk.{Making, onward, rebuilt, rebuilt_trees, rebuilt_messages, rebuilt_statements}
use Rattle.code_effect_laws.proofs.Proper.{IsProper, AreProper, AreProperMessages, AreProperStatements}
use Rattle.code_effect_laws.proofs.Stands.{IsEnd, StandsFor, stands_statement, stands_no_return, stands_value, statement_before}
use Rattle.code_effect_laws.proofs.Steps.{own_known}
use Rattle.code_effect_laws.proofs.Places.{known_at, known-step}

-- a walk that leaves all nodes but reads and assignments
pub record Leaves (f : Making Text) : Type 0 where
  pub literals : (path : List ℕ) (l : LiteralOf Text) → f path (literal l) ≡ literal l
  pub sends : (path : List ℕ) (r : TreeOf Text) (s : Text) (xs : TreesOf Text) → f path (send r s xs) ≡ send r s xs
  pub cascades : (path : List ℕ) (r : TreeOf Text) (ms : MessagesOf Text) → f path (cascade r ms) ≡ cascade r ms
  pub blocks : (path : List ℕ) (ps ds : List Text) (ss : StatementsOf Text) (c : Notes) → f path (block ps ds ss c) ≡ block ps ds ss c
  pub braces : (path : List ℕ) (ts : TreesOf Text) → f path (brace ts) ≡ brace ts
  pub returns : (path : List ℕ) (t : TreeOf Text) → f path (return t) ≡ return t

leaves_on : (k : ℕ) (f : Making Text) → Leaves f → Leaves (onward k f)
leaves_on k f l = record {
  literals = λ path. l.literals (k ∷ path);
  sends = λ path. l.sends (k ∷ path);
  cascades = λ path. l.cascades (k ∷ path);
  blocks = λ path. l.blocks (k ∷ path);
  braces = λ path. l.braces (k ∷ path);
  returns = λ path. l.returns (k ∷ path);
}

-- what it makes of the reads and assignments of a tree is proper among other known names
pub record Mends (f : Making Text) (depth : ℕ) (ks ls : List Known) (t : TreeOf Text) : Type 0 where
  pub reads : (path : List ℕ) (n : Text) → part_at t path ≡ Some (var n) → IsWord n → IsProper (known_at depth t path ls) (f path (var n)) × StandsFor (var n) (f path (var n))
  pub assigns : (path : List ℕ) (n : Text) (u v : TreeOf Text) → part_at t path ≡ Some (assign n u) → IsWord n → is_pseudo n ≡ false → is_fixed (known_at depth t path ks) n ≡ false →
      IsProper (known_at depth t path ls) v → IsValue v → IsProper (known_at depth t path ls) (f path (assign n v)) × StandsFor (assign n u) (f path (assign n v))

mends_on : (f : Making Text) (depth : ℕ) (ks ls : List Known) (t c : TreeOf Text) (k : ℕ) → child t k ≡ Some c → Mends f depth ks ls t → Mends (onward k f) (depth + 1) (own_known t ++ ks) (own_known t ++ ls) c
mends_on f depth ks ls t c k e m = record {
  reads = λ path n q w. (let r = m.reads (k ∷ path) n (ap (option_and_then (λ x. part_at x path)) e ∙ q) w in (subst (λ zs. IsProper zs (f (k ∷ path) (var n))) (known-step depth t c k path ls e) r.0, r.1));
  assigns = λ path n u v q w o free p value. (let r =
      m.assigns (k ∷ path) n u v (ap (option_and_then (λ x. part_at x path)) e ∙ q) w o (ap (λ zs. is_fixed zs n) (known-step depth t c k path ks e) ∙ free)
      (subst (λ zs. IsProper zs v) (sym (known-step depth t c k path ls e)) p) value in
      (subst (λ zs. IsProper zs (f (k ∷ path) (assign n v))) (known-step depth t c k path ls e) r.0, r.1));
}

-- of trees, whose numbers go up from one
abbrev pub AllMend : Making Text → ℕ → List Known → List Known → ℕ → TreesOf Text → Type 0
AllMend f depth ks ls base ts = (j p : ℕ) (c : TreeOf Text) → nth ts j ≡ Some c → p ≡ base + j → Mends (onward p f) depth ks ls c

first_mends : (f : Making Text) (depth : ℕ) (ks ls : List Known) (base : ℕ) (t : TreeOf Text) (ts : TreesOf Text) → AllMend f depth ks ls base (more_trees t ts) → Mends (onward base f) depth ks ls t
first_mends f depth ks ls base t ts m = m 0 base t refl (let same : base ≡ base + 0 = omega arith in same)

rest_mend : (f : Making Text) (depth : ℕ) (ks ls : List Known) (base : ℕ) (t : TreeOf Text) (ts : TreesOf Text) → AllMend f depth ks ls base (more_trees t ts) → AllMend f depth ks ls (suc base) ts
rest_mend f depth ks ls base t ts m j p c e q = m (suc j) p c e (let same : p ≡ base + suc j = omega (arith, q) in same)

-- a number that is in front, or behind
front_nth : (xs ys : TreesOf Text) (j : ℕ) (c : TreeOf Text) → nth xs j ≡ Some c → nth (append xs ys) j ≡ Some c
front_nth no_trees ys j c e = absurd (cc)
front_nth (more_trees x xs) ys zero c e = e
front_nth (more_trees x xs) ys (suc j) c e = front_nth xs ys j c e

back_nth : (xs ys : TreesOf Text) (j : ℕ) → nth (append xs ys) (j + count xs) ≡ nth ys j
back_nth no_trees ys j = ap (nth ys) (let same : j + 0 ≡ j = omega arith in same)
back_nth (more_trees x xs) ys j = ap (nth (more_trees x (append xs ys))) (let same : j + (count xs + 1) ≡ suc (j + count xs) = omega arith in same) ∙ back_nth xs ys j

-- from the nodes below a node on
below_mend : (f : Making Text) (depth : ℕ) (ks ls : List Known) (t : TreeOf Text) (base : ℕ) (ts : TreesOf Text) → ((j : ℕ) → child t (base + j) ≡ nth ts j) → Mends f depth ks ls t → AllMend f (depth + 1) (own_known t ++ ks) (own_known t ++ ls) base ts
below_mend f depth ks ls t base ts is m j p c e q = subst (λ z. Mends (onward z f) (depth + 1) (own_known t ++ ks) (own_known t ++ ls) c) (sym q) (mends_on f depth ks ls t c (base + j) (is j ∙ e) m)

-- the arguments fit
parts_rebuilt : (s : Text) (xs : TreesOf Text) (f : Making Text) (k : ℕ) → AreParts s xs → AreParts s (rebuilt_trees f k xs)
parts_rebuilt s xs f k (LastOne h) = LastOne h
parts_rebuilt s xs f k (OneBefore {s = r} {xs = ys} h g) = OneBefore h (parts_rebuilt r ys f (suc k) g)

fits_rebuilt : (s : Text) (xs : TreesOf Text) (f : Making Text) (k : ℕ) → FitsArguments s xs → FitsArguments s (rebuilt_trees f k xs)
fits_rebuilt s xs f k (FitsNone h) = FitsNone h
fits_rebuilt s xs f k (FitsOne h) = FitsOne h
fits_rebuilt s xs f k (FitsParts h) = FitsParts (parts_rebuilt s xs f k h)

two_rebuilt : (ms : MessagesOf Text) (f : Making Text) (k : ℕ) → AreTwo ms → AreTwo (rebuilt_messages f k ms)
two_rebuilt no_messages f k h = h
two_rebuilt (more_messages s xs no_messages) f k h = h
two_rebuilt (more_messages s xs (more_messages t ys ms)) f k h = tt

end_rebuilt : (ss : StatementsOf Text) (f : Making Text) (k : ℕ) → IsEnd ss → IsEnd (rebuilt_statements f k ss)
end_rebuilt no_statements f k h = tt
end_rebuilt (more_statements c t ss) f k h = absurd h

one_more : (j : ℕ) → 1 + j ≡ suc j
one_more j = omega arith

no_more : (j : ℕ) → 0 + j ≡ j
no_more j = omega arith

-- the outcome at a node
abbrev pub Outcome : List Known → TreeOf Text → TreeOf Text → Type 0
Outcome ls t u = IsProper ls u × StandsFor t u

mutual
  pub tree_walked : (t : TreeOf Text) (f : Making Text) (depth : ℕ) (ks ls : List Known) → Leaves f → Mends f depth ks ls t → IsProper ks t → Outcome ls t (rebuilt f t)
  tree_walked (var n) f depth ks ls l m p = m.reads [] n refl p
  tree_walked (literal k) f depth ks ls l m p = subst (Outcome ls (literal k)) (sym (l.literals [] k)) (p, inr (tt, tt, λ v. v))
  tree_walked (send r s xs) f depth ks ls l m p =
      let first = tree_walked r (onward 0 f) (depth + 1) ks ls (leaves_on 0 f l) (mends_on f depth ks ls (send r s xs) r 0 refl m) p.0 in
      let rest = trees_walked xs f 1 (depth + 1) ks ls l (below_mend f depth ks ls (send r s xs) 1 xs (λ j. ap (child (send r s xs)) (one_more j)) m) p.3 in
      subst (Outcome ls (send r s xs)) (sym (l.sends [] (rebuilt (onward 0 f) r) s (rebuilt_trees f 1 xs)))
      ((first.0, stands_no_return r (rebuilt (onward 0 f) r) first.1 p.1, fits_rebuilt s xs f 1 p.2, rest), inr (tt, tt, λ v. v))
  tree_walked (cascade r ms) f depth ks ls l m p =
      let first = tree_walked r (onward 0 f) (depth + 1) ks ls (leaves_on 0 f l) (mends_on f depth ks ls (cascade r ms) r 0 refl m) p.0 in
      let rest = messages_walked ms f 1 (depth + 1) ks ls l (below_mend f depth ks ls (cascade r ms) 1 (all_arguments ms) (λ j. ap (child (cascade r ms)) (one_more j)) m) p.3 in
      subst (Outcome ls (cascade r ms)) (sym (l.cascades [] (rebuilt (onward 0 f) r) (rebuilt_messages f 1 ms)))
      ((first.0, stands_value r (rebuilt (onward 0 f) r) first.1 p.1, two_rebuilt ms f 1 p.2, rest), inr (tt, tt, λ v. v))
  tree_walked (assign n t) f depth ks ls l m p =
      let first = tree_walked t (onward 0 f) (depth + 1) ks ls (leaves_on 0 f l) (mends_on f depth ks ls (assign n t) t 0 refl m) p.3 in
      m.assigns [] n t (rebuilt (onward 0 f) t) refl p.0 p.1 p.2 first.0 (stands_value t (rebuilt (onward 0 f) t) first.1 p.4)
  tree_walked (block ps ds ss c) f depth ks ls l m p =
      let rest = statements_walked ss f 0 (depth + 1) (known_names ps ds ++ ks) (known_names ps ds ++ ls) l (below_mend f depth ks ls (block ps ds ss c) 0 (statement_trees ss) (λ j. ap (child (block ps ds ss c)) (no_more j)) m) p.3 in
      subst (Outcome ls (block ps ds ss c)) (sym (l.blocks [] ps ds (rebuilt_statements f 0 ss) c)) ((p.0, p.1, p.2, rest, p.4), inr (tt, tt, λ v. v))
  tree_walked (brace ts) f depth ks ls l m p =
      let rest = trees_walked ts f 0 (depth + 1) ks ls l (below_mend f depth ks ls (brace ts) 0 ts (λ j. ap (child (brace ts)) (no_more j)) m) p in
      subst (Outcome ls (brace ts)) (sym (l.braces [] (rebuilt_trees f 0 ts))) (rest, inr (tt, tt, λ v. v))
  tree_walked (return t) f depth ks ls l m p =
      let first = tree_walked t (onward 0 f) (depth + 1) ks ls (leaves_on 0 f l) (mends_on f depth ks ls (return t) t 0 refl m) p.0 in
      subst (Outcome ls (return t)) (sym (l.returns [] (rebuilt (onward 0 f) t))) ((first.0, stands_value t (rebuilt (onward 0 f) t) first.1 p.1), inl (tt, tt))

  trees_walked : (ts : TreesOf Text) (f : Making Text) (base depth : ℕ) (ks ls : List Known) → Leaves f → AllMend f depth ks ls base ts → AreProper ks ts → AreProper ls (rebuilt_trees f base ts)
  trees_walked no_trees f base depth ks ls l m p = tt
  trees_walked (more_trees t ts) f base depth ks ls l m p =
      let first = tree_walked t (onward base f) depth ks ls (leaves_on base f l) (first_mends f depth ks ls base t ts m) p.0 in
      (first.0, stands_value t (rebuilt (onward base f) t) first.1 p.1, trees_walked ts f (suc base) depth ks ls l (rest_mend f depth ks ls base t ts m) p.2)

  messages_walked : (ms : MessagesOf Text) (f : Making Text) (base depth : ℕ) (ks ls : List Known) → Leaves f → AllMend f depth ks ls base (all_arguments ms) → AreProperMessages ks ms → AreProperMessages ls (rebuilt_messages f base ms)
  messages_walked no_messages f base depth ks ls l m p = tt
  messages_walked (more_messages s xs ms) f base depth ks ls l m p = (
    fits_rebuilt s xs f base p.0,
    trees_walked xs f base depth ks ls l (λ j q c e r. m j q c (front_nth xs (all_arguments ms) j c e) r) p.1,
    messages_walked ms f (base + count xs) depth ks ls l
        (λ j q c e r. m (j + count xs) q c (back_nth xs (all_arguments ms) j ∙ e) (let same : q ≡ base + (j + count xs) = omega (arith, r) in same)) p.2,
  )

  pub statements_walked : (ss : StatementsOf Text) (f : Making Text) (base depth : ℕ) (ks ls : List Known) → Leaves f → AllMend f depth ks ls base (statement_trees ss) → AreProperStatements ks ss → AreProperStatements ls (rebuilt_statements f base ss)
  statements_walked no_statements f base depth ks ls l m p = tt
  statements_walked (more_statements c t ss) f base depth ks ls l m p =
      let first = tree_walked t (onward base f) depth ks ls (leaves_on base f l) (first_mends f depth ks ls base t (statement_trees ss) m) p.1 in (
        p.0,
        first.0,
        stands_statement t (rebuilt (onward base f) t) (rebuilt_statements f (suc base) ss) first.1 (statement_before t ss (rebuilt_statements f (suc base) ss) (end_rebuilt ss f (suc base)) p.2),
        statements_walked ss f (suc base) depth ks ls l (rest_mend f depth ks ls base t (statement_trees ss) m) p.3,
      )
