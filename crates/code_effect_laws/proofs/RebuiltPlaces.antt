-- A walk that leaves all nodes but reads leaves the places in a tree.
use Rattle.std.proofs.Common.{◌≡◌, ℕ, zero, suc, ◌+◌, List, [], ◌∷◌, ◌++◌, Option, Some, None, option_and_then, option_map, refl, sym, ap, ◌∙◌, arith}
use Rattle.std.specs.Prelude.{unwrap_or}
use Rattle.tree_model.specs.Tree.{TreeOf, var, literal, send, cascade, assign, block, brace, return, TreesOf, no_trees, more_trees, MessagesOf, no_messages, more_messages, StatementsOf, no_statements, more_statements, MethodOf}
use Rattle.tree_model.specs.Path.{append, count, nth, all_arguments, statement_trees, child, part_at, part_in}
use Rattle.grammar_model.specs.Checks.{Known}
use Rattle.reread_law.specs.Declarations.{known_names}
use Rattle.file_model.specs.Filing.{Text}
use Rattle.command_model.specs.Walk.{Making, onward, rebuilt, rebuilt_trees, rebuilt_messages, rebuilt_statements, rebuilt_method}
use Rattle.code_effect_laws.proofs.Steps.{own_known}
use Rattle.code_effect_laws.proofs.Places.{known_at, known-step}
use Rattle.code_effect_laws.proofs.Walked.{Leaves}
use Rattle.code_effect_laws.proofs.Methods.{known_in}

-- a walk that leaves assignments too
pub record LeavesMore (f : Making Text) : Type 0 where
  pub leaves : Leaves f
  pub assigns : (path : List ℕ) (n : Text) (t : TreeOf Text) → f path (assign n t) ≡ assign n t

more_on : (k : ℕ) (f : Making Text) → LeavesMore f → LeavesMore (onward k f)
more_on k f l = record {
  leaves = record {
    literals = λ path. l.leaves.literals (k ∷ path);
    sends = λ path. l.leaves.sends (k ∷ path);
    cascades = λ path. l.leaves.cascades (k ∷ path);
    blocks = λ path. l.leaves.blocks (k ∷ path);
    braces = λ path. l.leaves.braces (k ∷ path);
    returns = λ path. l.leaves.returns (k ∷ path);
  };
  assigns = λ path. l.assigns (k ∷ path);
}

-- the walk from a place on
abbrev pub from_place : List ℕ → Making Text → Making Text
from_place [] f = f
from_place (k ∷ path) f = from_place path (onward k f)

-- so from a place on
pub more_from : (path : List ℕ) (f : Making Text) → LeavesMore f → LeavesMore (from_place path f)
more_from [] f l = l
more_from (k ∷ path) f l = more_from path (onward k f) (more_on k f l)

-- trees in order
nth_rebuilt : (f : Making Text) (ts : TreesOf Text) (base j p : ℕ) (d : TreeOf Text) → nth ts j ≡ Some d → p ≡ base + j → nth (rebuilt_trees f base ts) j ≡ Some (rebuilt (onward p f) d)
nth_rebuilt f no_trees base j p d e q = absurd (cc)
nth_rebuilt f (more_trees t ts) base zero p d e q =
    let same : t ≡ d = cc in
    let here : base ≡ p = omega (arith, q) in
    λ i. Some (rebuilt (onward (here i) f) (same i))
nth_rebuilt f (more_trees t ts) base (suc j) p d e q = nth_rebuilt f ts (suc base) j p d e (let same : p ≡ suc base + j = omega (arith, q) in same)

append_rebuilt : (f : Making Text) (xs ys : TreesOf Text) (base next : ℕ) → next ≡ base + count xs → append (rebuilt_trees f base xs) (rebuilt_trees f next ys) ≡ rebuilt_trees f base (append xs ys)
append_rebuilt f no_trees ys base next q = ap (λ n. rebuilt_trees f n ys) (let same : next ≡ base = omega (arith, q) in same)
append_rebuilt f (more_trees x xs) ys base next q = ap (more_trees (rebuilt (onward base f) x)) (append_rebuilt f xs ys (suc base) next (let same : next ≡ suc base + count xs = omega (arith, q) in same))

arguments_rebuilt : (f : Making Text) (ms : MessagesOf Text) (base : ℕ) → all_arguments (rebuilt_messages f base ms) ≡ rebuilt_trees f base (all_arguments ms)
arguments_rebuilt f no_messages base = refl
arguments_rebuilt f (more_messages s xs ms) base = ap (append (rebuilt_trees f base xs)) (arguments_rebuilt f ms (base + count xs)) ∙ append_rebuilt f xs (all_arguments ms) base (base + count xs) refl

statements_rebuilt : (f : Making Text) (ss : StatementsOf Text) (base : ℕ) → statement_trees (rebuilt_statements f base ss) ≡ rebuilt_trees f base (statement_trees ss)
statements_rebuilt f no_statements base = refl
statements_rebuilt f (more_statements c t ss) base = ap (more_trees (rebuilt (onward base f) t)) (statements_rebuilt f ss (suc base))

-- the node where one step leads
child_rebuilt : (f : Making Text) (t d : TreeOf Text) (k : ℕ) → LeavesMore f → child t k ≡ Some d → (child (rebuilt f t) k ≡ Some (rebuilt (onward k f) d)) × (own_known (rebuilt f t) ≡ own_known t)
child_rebuilt f (var n) d k l e = absurd (cc)
child_rebuilt f (literal n) d k l e = absurd (cc)
child_rebuilt f (send r s xs) d k l e =
    let is = l.leaves.sends [] (rebuilt (onward 0 f) r) s (rebuilt_trees f 1 xs) in (ap (λ (u : TreeOf Text). child u k) is ∙ by k e, ap own_known is)
  where
    by : (j : ℕ) → nth (more_trees r xs) j ≡ Some d → nth (more_trees (rebuilt (onward 0 f) r) (rebuilt_trees f 1 xs)) j ≡ Some (rebuilt (onward j f) d)
    by zero q = let same : r ≡ d = cc in ap (λ (u : TreeOf Text). Some (rebuilt (onward 0 f) u)) same
    by (suc j) q = nth_rebuilt f xs 1 j (suc j) d q (let same : suc j ≡ 1 + j = omega arith in same)
child_rebuilt f (cascade r ms) d k l e =
    let is = l.leaves.cascades [] (rebuilt (onward 0 f) r) (rebuilt_messages f 1 ms) in (ap (λ (u : TreeOf Text). child u k) is ∙ by k e, ap own_known is)
  where
    by : (j : ℕ) → nth (more_trees r (all_arguments ms)) j ≡ Some d → nth (more_trees (rebuilt (onward 0 f) r) (all_arguments (rebuilt_messages f 1 ms))) j ≡ Some (rebuilt (onward j f) d)
    by zero q = let same : r ≡ d = cc in ap (λ (u : TreeOf Text). Some (rebuilt (onward 0 f) u)) same
    by (suc j) q = ap (λ ts. nth ts j) (arguments_rebuilt f ms 1) ∙ nth_rebuilt f (all_arguments ms) 1 j (suc j) d q (let same : suc j ≡ 1 + j = omega arith in same)
child_rebuilt f (assign n t) d k l e =
    let is = l.assigns [] n (rebuilt (onward 0 f) t) in (ap (λ (u : TreeOf Text). child u k) is ∙ by k e, ap own_known is)
  where
    by : (j : ℕ) → nth (more_trees t no_trees) j ≡ Some d → nth (more_trees (rebuilt (onward 0 f) t) no_trees) j ≡ Some (rebuilt (onward j f) d)
    by zero q = let same : t ≡ d = cc in ap (λ (u : TreeOf Text). Some (rebuilt (onward 0 f) u)) same
    by (suc j) q = absurd (cc)
child_rebuilt f (block ps ds ss c) d k l e =
    let is = l.leaves.blocks [] ps ds (rebuilt_statements f 0 ss) c in
    (ap (λ (u : TreeOf Text). child u k) is ∙ ap (λ ts. nth ts k) (statements_rebuilt f ss 0) ∙ nth_rebuilt f (statement_trees ss) 0 k k d e (let same : k ≡ 0 + k = omega arith in same), ap own_known is)
child_rebuilt f (brace ts) d k l e =
    let is = l.leaves.braces [] (rebuilt_trees f 0 ts) in (ap (λ (u : TreeOf Text). child u k) is ∙ nth_rebuilt f ts 0 k k d e (let same : k ≡ 0 + k = omega arith in same), ap own_known is)
child_rebuilt f (return t) d k l e =
    let is = l.leaves.returns [] (rebuilt (onward 0 f) t) in (ap (λ (u : TreeOf Text). child u k) is ∙ by k e, ap own_known is)
  where
    by : (j : ℕ) → nth (more_trees t no_trees) j ≡ Some d → nth (more_trees (rebuilt (onward 0 f) t) no_trees) j ≡ Some (rebuilt (onward j f) d)
    by zero q = let same : t ≡ d = cc in ap (λ (u : TreeOf Text). Some (rebuilt (onward 0 f) u)) same
    by (suc j) q = absurd (cc)

-- the node where a path leads, and what is known there
place_rebuilt : (path : List ℕ) (f : Making Text) (depth : ℕ) (t c : TreeOf Text) (ks : List Known) → LeavesMore f → part_at t path ≡ Some c
    → (part_at (rebuilt f t) path ≡ Some (rebuilt (from_place path f) c)) × (known_at depth (rebuilt f t) path ks ≡ known_at depth t path ks)
place_rebuilt [] f depth t c ks l e = let same : t ≡ c = cc in (ap (λ (u : TreeOf Text). Some (rebuilt f u)) same, refl)
place_rebuilt (k ∷ path) f depth t c ks l e = by (child t k) refl (λ d. place_rebuilt path (onward k f) (depth + 1) d c (own_known t ++ ks) (more_on k f l))
  where
    by : (o : Option (TreeOf Text)) → child t k ≡ o
        → ((d : TreeOf Text) → part_at d path ≡ Some c → (part_at (rebuilt (onward k f) d) path ≡ Some (rebuilt (from_place path (onward k f)) c)) × (known_at (depth + 1) (rebuilt (onward k f) d) path (own_known t ++ ks) ≡ known_at (depth + 1) d path (own_known t ++ ks)))
        → (part_at (rebuilt f t) (k ∷ path) ≡ Some (rebuilt (from_place path (onward k f)) c)) × (known_at depth (rebuilt f t) (k ∷ path) ks ≡ known_at depth t (k ∷ path) ks)
    by None q below = let nowhere = ap (option_and_then (λ x. part_at x path)) (sym q) ∙ e in absurd (cc)
    by (Some d) q below =
        let there = child_rebuilt f t d k l q in
        let rest = below d (ap (option_and_then (λ x. part_at x path)) (sym q) ∙ e) in (
          ap (option_and_then (λ x. part_at x path)) there.0 ∙ rest.0,
          known-step depth (rebuilt f t) (rebuilt (onward k f) d) k path ks there.0 ∙ ap (λ zs. known_at (depth + 1) (rebuilt (onward k f) d) path (zs ++ ks)) there.1 ∙ rest.1 ∙ sym (known-step depth t d k path ks q),
        )

-- the same in a method
pub method_place_rebuilt : (f : Making Text) (m : MethodOf Text) (k : ℕ) (path : List ℕ) (c : TreeOf Text) → LeavesMore f → part_in m.body (k ∷ path) ≡ Some c
    → (part_in (rebuilt_method f m).body (k ∷ path) ≡ Some (rebuilt (from_place (k ∷ path) f) c)) × (known_in (rebuilt_method f m) (k ∷ path) ≡ known_in m (k ∷ path))
method_place_rebuilt f m k path c l e = by (nth (statement_trees m.body.statements) k) refl
  where
    by : (o : Option (TreeOf Text)) → nth (statement_trees m.body.statements) k ≡ o
        → (part_in (rebuilt_method f m).body (k ∷ path) ≡ Some (rebuilt (from_place (k ∷ path) f) c)) × (known_in (rebuilt_method f m) (k ∷ path) ≡ known_in m (k ∷ path))
    by None q = let nowhere = ap (option_and_then (λ x. part_at x path)) (sym q) ∙ e in absurd (cc)
    by (Some d) q =
        let outer : List Known = known_names m.arguments m.body.temporaries ++ [] in
        let there : nth (statement_trees (rebuilt_statements f 0 m.body.statements)) k ≡ Some (rebuilt (onward k f) d) =
        ap (λ ts. nth ts k) (statements_rebuilt f m.body.statements 0) ∙ nth_rebuilt f (statement_trees m.body.statements) 0 k k d q (let same : k ≡ 0 + k = omega arith in same) in
        let rest = place_rebuilt path (onward k f) 1 d c outer (more_on k f l) (ap (option_and_then (λ x. part_at x path)) (sym q) ∙ e) in (
          ap (option_and_then (λ x. part_at x path)) there ∙ rest.0,
          ap (λ (o : Option (TreeOf Text)). unwrap_or (option_map (λ x. known_at 1 x path outer) o) outer) there ∙ rest.1 ∙ sym (ap (λ (o : Option (TreeOf Text)). unwrap_or (option_map (λ x. known_at 1 x path outer) o) outer) q),
        )
