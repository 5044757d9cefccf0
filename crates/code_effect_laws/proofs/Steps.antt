-- The nodes right below a proper node are proper, and so is the node with another one of them.
use Rattle.std.proofs.Common.{◌≡◌, ℕ, zero, suc, ◌-◌, Bool, true, false, List, [], ◌++◌, Some, subst, sym}
use Rattle.std.specs.Prelude.{nat_lt, if◌then◌else◌}
use Rattle.tree_model.specs.Tree.{TreeOf, var, literal, send, cascade, assign, block, brace, return, TreesOf, no_trees, more_trees, MessagesOf, no_messages, more_messages, StatementsOf, no_statements, more_statements}
use Rattle.tree_model.specs.Path.{append, count, nth, all_arguments, statement_trees, child, with_nth, with_statement, with_argument, with_child}
use Rattle.grammar_model.specs.Checks.{Known}
use Rattle.reread_law.specs.WellFormed.{AreParts, LastOne, OneBefore, FitsArguments, FitsNone, FitsOne, FitsParts, IsValue, IsStatement, AreTwo}
use Rattle.reread_law.specs.Declarations.{known_names}
use Rattle.file_model.specs.Filing.{Text}
use Rattle.code_effect_laws.proofs.Proper.{IsProper, AreProper, AreProperMessages, AreProperStatements}
use Rattle.code_effect_laws.proofs.Stands.{IsEnd, StandsFor, stands_statement, stands_no_return, stands_value, statement_before}

-- the names that a node makes known to the nodes right below it
abbrev pub own_known : TreeOf Text → List Known
own_known (var n) = []
own_known (literal l) = []
own_known (send r s xs) = []
own_known (cascade r ms) = []
own_known (assign n t) = []
own_known (block ps ds ss c) = known_names ps ds
own_known (brace ts) = []
own_known (return t) = []

module _ (ks : List Known) where
  -- trees in order
  pub both_proper : (xs ys : TreesOf Text) → AreProper ks xs → AreProper ks ys → AreProper ks (append xs ys)
  both_proper no_trees ys p q = q
  both_proper (more_trees x xs) ys p q = (p.0, p.1, both_proper xs ys p.2 q)

  arguments_proper : (ms : MessagesOf Text) → AreProperMessages ks ms → AreProper ks (all_arguments ms)
  arguments_proper no_messages p = tt
  arguments_proper (more_messages s xs ms) p = both_proper xs (all_arguments ms) p.1 (arguments_proper ms p.2)

  -- the tree of a number
  nth_proper : (ts : TreesOf Text) (k : ℕ) (c : TreeOf Text) → AreProper ks ts → nth ts k ≡ Some c → IsProper ks c × IsValue c
  nth_proper no_trees k c p e = absurd (cc)
  nth_proper (more_trees t ts) zero c p e = let same : t ≡ c = cc in subst (λ (x : TreeOf Text). IsProper ks x × IsValue x) same (p.0, p.1)
  nth_proper (more_trees t ts) (suc k) c p e = nth_proper ts k c p.2 e

  pub statement_proper : (ss : StatementsOf Text) (k : ℕ) (c : TreeOf Text) → AreProperStatements ks ss → nth (statement_trees ss) k ≡ Some c → IsProper ks c
  statement_proper no_statements k c p e = absurd (cc)
  statement_proper (more_statements n t ss) zero c p e = let same : t ≡ c = cc in subst (IsProper ks) same p.1
  statement_proper (more_statements n t ss) (suc k) c p e = statement_proper ss k c p.3 e

  -- other trees in their place
  with_nth_proper : (ts : TreesOf Text) (k : ℕ) (d : TreeOf Text) → AreProper ks ts → IsProper ks d → IsValue d → AreProper ks (with_nth ts k d)
  with_nth_proper no_trees k d p q v = tt
  with_nth_proper (more_trees t ts) zero d p q v = (q, v, p.2)
  with_nth_proper (more_trees t ts) (suc k) d p q v = (p.0, p.1, with_nth_proper ts k d p.2 q v)

-- keywords fit as many arguments
parts_with : (s : Text) (xs : TreesOf Text) (k : ℕ) (d : TreeOf Text) → AreParts s xs → AreParts s (with_nth xs k d)
parts_with s xs zero d (LastOne h) = LastOne h
parts_with s xs (suc k) d (LastOne h) = LastOne h
parts_with s xs zero d (OneBefore h g) = OneBefore h g
parts_with s xs (suc k) d (OneBefore {s = r} {xs = ys} h g) = OneBefore h (parts_with r ys k d g)

fits_with : (s : Text) (xs : TreesOf Text) (k : ℕ) (d : TreeOf Text) → FitsArguments s xs → FitsArguments s (with_nth xs k d)
fits_with s xs k d (FitsNone h) = FitsNone h
fits_with s xs zero d (FitsOne h) = FitsOne h
fits_with s xs (suc k) d (FitsOne h) = FitsOne h
fits_with s xs k d (FitsParts h) = FitsParts (parts_with s xs k d h)

-- messages
messages_with : (ks : List Known) (ms : MessagesOf Text) (k : ℕ) (d : TreeOf Text) → AreProperMessages ks ms → IsProper ks d → IsValue d → AreProperMessages ks (with_argument ms k d)
messages_with ks no_messages k d p q v = tt
messages_with ks (more_messages s xs ms) k d p q v = by (nat_lt k (count xs)) (messages_with ks ms (k - count xs) d p.2 q v)
  where
    by : (b : Bool) → AreProperMessages ks (with_argument ms (k - count xs) d)
        → AreProperMessages ks (if b then more_messages s (with_nth xs k d) ms else more_messages s xs (with_argument ms (k - count xs) d))
    by true later = (fits_with s xs k d p.0, with_nth_proper ks xs k d p.1 q v, p.2)
    by false later = (p.0, p.1, later)

two_with : (ms : MessagesOf Text) (k : ℕ) (d : TreeOf Text) → AreTwo ms → AreTwo (with_argument ms k d)
two_with no_messages k d h = h
two_with (more_messages s xs no_messages) k d h = absurd h
two_with (more_messages s xs (more_messages u ys ms)) k d h = by (nat_lt k (count xs)) (nat_lt (k - count xs) (count ys))
  where
    by : (b e : Bool)
        → AreTwo (if b then more_messages s (with_nth xs k d) (more_messages u ys ms)
        else more_messages s xs (if e then more_messages u (with_nth ys (k - count xs) d) ms else more_messages u ys (with_argument ms (k - count xs - count ys) d)))
    by true e = tt
    by false true = tt
    by false false = tt

-- statements end where they ended
end_with : (ss : StatementsOf Text) (k : ℕ) (d : TreeOf Text) → IsEnd ss → IsEnd (with_statement ss k d)
end_with no_statements k d h = tt
end_with (more_statements c t ss) k d h = absurd h

pub statements_with : (ks : List Known) (ss : StatementsOf Text) (k : ℕ) (c d : TreeOf Text) → AreProperStatements ks ss → nth (statement_trees ss) k ≡ Some c → StandsFor c d → IsProper ks d → AreProperStatements ks (with_statement ss k d)
statements_with ks no_statements k c d p e s q = tt
statements_with ks (more_statements n t ss) zero c d p e s q =
    let same : t ≡ c = cc in (p.0, q, stands_statement c d ss s (subst (λ (x : TreeOf Text). IsStatement x ss) same p.2), p.3)
statements_with ks (more_statements n t ss) (suc k) c d p e s q =
    (p.0, p.1, statement_before t ss (with_statement ss k d) (end_with ss k d) p.2, statements_with ks ss k c d p.3 e s q)

-- the node where one step leads
pub child_proper : (ks : List Known) (t : TreeOf Text) (k : ℕ) (c : TreeOf Text) → IsProper ks t → child t k ≡ Some c → IsProper (own_known t ++ ks) c
child_proper ks (var n) k c p e = absurd (cc)
child_proper ks (literal l) k c p e = absurd (cc)
child_proper ks (send r s xs) zero c p e = let same : r ≡ c = cc in subst (IsProper ks) same p.0
child_proper ks (send r s xs) (suc k) c p e = (nth_proper ks xs k c p.3 e).0
child_proper ks (cascade r ms) zero c p e = let same : r ≡ c = cc in subst (IsProper ks) same p.0
child_proper ks (cascade r ms) (suc k) c p e = (nth_proper ks (all_arguments ms) k c (arguments_proper ks ms p.3) e).0
child_proper ks (assign n t) zero c p e = let same : t ≡ c = cc in subst (IsProper ks) same p.3
child_proper ks (assign n t) (suc k) c p e = absurd (cc)
child_proper ks (block ps ds ss n) k c p e = statement_proper (known_names ps ds ++ ks) ss k c p.3 e
child_proper ks (brace ts) k c p e = (nth_proper ks ts k c p e).0
child_proper ks (return t) zero c p e = let same : t ≡ c = cc in subst (IsProper ks) same p.0
child_proper ks (return t) (suc k) c p e = absurd (cc)

-- the node with another one there
pub with_child_proper : (ks : List Known) (t : TreeOf Text) (k : ℕ) (c d : TreeOf Text) → IsProper ks t → child t k ≡ Some c → StandsFor c d → IsProper (own_known t ++ ks) d → IsProper ks (with_child t k d)
with_child_proper ks (var n) k c d p e s q = absurd (cc)
with_child_proper ks (literal l) k c d p e s q = absurd (cc)
with_child_proper ks (send r u xs) zero c d p e s q = let same : r ≡ c = cc in (q, stands_no_return r d (subst (λ (x : TreeOf Text). StandsFor x d) (sym same) s) p.1, p.2, p.3)
with_child_proper ks (send r u xs) (suc k) c d p e s q =
    let v = stands_value c d s (nth_proper ks xs k c p.3 e).1 in (p.0, p.1, fits_with u xs k d p.2, with_nth_proper ks xs k d p.3 q v)
with_child_proper ks (cascade r ms) zero c d p e s q = let same : r ≡ c = cc in (q, stands_value r d (subst (λ (x : TreeOf Text). StandsFor x d) (sym same) s) p.1, p.2, p.3)
with_child_proper ks (cascade r ms) (suc k) c d p e s q =
    let v = stands_value c d s (nth_proper ks (all_arguments ms) k c (arguments_proper ks ms p.3) e).1 in (p.0, p.1, two_with ms k d p.2, messages_with ks ms k d p.3 q v)
with_child_proper ks (assign n t) zero c d p e s q = let same : t ≡ c = cc in (p.0, p.1, p.2, q, stands_value t d (subst (λ (x : TreeOf Text). StandsFor x d) (sym same) s) p.4)
with_child_proper ks (assign n t) (suc k) c d p e s q = absurd (cc)
with_child_proper ks (block ps ds ss n) k c d p e s q = (p.0, p.1, p.2, statements_with (known_names ps ds ++ ks) ss k c d p.3 e s q, p.4)
with_child_proper ks (brace ts) k c d p e s q = with_nth_proper ks ts k d p q (stands_value c d s (nth_proper ks ts k c p e).1)
with_child_proper ks (return t) zero c d p e s q = let same : t ≡ c = cc in (q, stands_value t d (subst (λ (x : TreeOf Text). StandsFor x d) (sym same) s) p.1)
with_child_proper ks (return t) (suc k) c d p e s q = absurd (cc)
