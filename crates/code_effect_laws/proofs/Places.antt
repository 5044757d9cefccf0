-- What is known at a place of a proper tree; the part that stands there, and the tree with another part there.
use Rattle.std.proofs.Common.{◌≡◌, ℕ, ◌+◌, List, [], ◌∷◌, ◌++◌, Option, Some, None, option_and_then, option_map, refl, sym, ap, subst, ◌∙◌, append_assoc}
use Rattle.std.specs.Prelude.{unwrap_or}
use Rattle.std.proofs.lemmas.List.{append-nil}
use Rattle.tree_model.specs.Tree.{TreeOf, var, literal, send, cascade, assign, block, brace, return, StatementsOf}
use Rattle.tree_model.specs.Path.{nth, statement_trees, child, part_at, part_among, with_statement, with_child, replaced, statements_replaced}
use Rattle.scope_model.specs.Scope.{PlacedScope, own_scope, entered}
use Rattle.grammar_model.specs.Checks.{Known}
use Rattle.reread_law.specs.Declarations.{known_names}
use Rattle.file_model.specs.Filing.{Text}
use Rattle.code_effect_laws.proofs.Proper.{IsProper, AreProperStatements}
use Rattle.code_effect_laws.proofs.Stands.{StandsFor, child_stands}
use Rattle.code_effect_laws.proofs.Steps.{own_known, statement_proper, statements_with, child_proper, with_child_proper}

-- the names that scopes make known
abbrev pub known_by : List (PlacedScope Text) → List Known
known_by [] = []
known_by (p ∷ ps) = known_names p.1.arguments p.1.temporaries ++ known_by ps

pub known_both : (xs ys : List (PlacedScope Text)) → known_by (xs ++ ys) ≡ known_by xs ++ known_by ys
known_both [] ys = refl
known_both (x ∷ xs) ys = ap (λ zs. known_names x.1.arguments x.1.temporaries ++ zs) (known_both xs ys) ∙ sym (append_assoc (known_names x.1.arguments x.1.temporaries) (known_by xs) (known_by ys))

known-own : (depth : ℕ) (t : TreeOf Text) → known_by (own_scope depth t) ≡ own_known t
known-own depth (var n) = refl
known-own depth (literal l) = refl
known-own depth (send r s xs) = refl
known-own depth (cascade r ms) = refl
known-own depth (assign n t) = refl
known-own depth (block ps ds ss c) = append-nil (known_names ps ds)
known-own depth (brace ts) = refl
known-own depth (return t) = refl

-- what is known where a path leads from a node, among known names
abbrev pub known_at : ℕ → TreeOf Text → List ℕ → List Known → List Known
known_at depth t path ks = known_by (entered depth t path) ++ ks

-- behind one step
pub known-step : (depth : ℕ) (t c : TreeOf Text) (k : ℕ) (path : List ℕ) (ks : List Known) → child t k ≡ Some c → known_at depth t (k ∷ path) ks ≡ known_at (depth + 1) c path (own_known t ++ ks)
known-step depth t c k path ks e =
    ap (λ (o : Option (TreeOf Text)). known_by (unwrap_or (option_map (λ x. entered (depth + 1) x path) o) [] ++ own_scope depth t) ++ ks) e
    ∙ ap (λ zs. zs ++ ks) (known_both (entered (depth + 1) c path) (own_scope depth t))
    ∙ append_assoc (known_by (entered (depth + 1) c path)) (known_by (own_scope depth t)) ks
    ∙ ap (λ zs. known_by (entered (depth + 1) c path) ++ (zs ++ ks)) (known-own depth t)

-- the part where a path leads
pub part_proper : (path : List ℕ) (depth : ℕ) (ks : List Known) (t c : TreeOf Text) → IsProper ks t → part_at t path ≡ Some c → IsProper (known_at depth t path ks) c
part_proper [] depth ks t c p e = let same : t ≡ c = cc in subst (IsProper ks) same p
part_proper (k ∷ path) depth ks t c p e = by (child t k) refl (λ d. part_proper path (depth + 1) (own_known t ++ ks) d c)
  where
    by : (o : Option (TreeOf Text)) → child t k ≡ o
        → ((d : TreeOf Text) → IsProper (own_known t ++ ks) d → part_at d path ≡ Some c → IsProper (known_at (depth + 1) d path (own_known t ++ ks)) c)
        → IsProper (known_at depth t (k ∷ path) ks) c
    by None q below = let nowhere = ap (option_and_then (λ x. part_at x path)) (sym q) ∙ e in absurd (cc)
    by (Some d) q below =
        subst (λ zs. IsProper zs c) (sym (known-step depth t d k path ks q))
        (below d (child_proper ks t k d p q) (ap (option_and_then (λ x. part_at x path)) (sym q) ∙ e))

-- the tree with another part there
pub replaced_proper : (path : List ℕ) (depth : ℕ) (ks : List Known) (t c u : TreeOf Text) → IsProper ks t → part_at t path ≡ Some c → IsProper (known_at depth t path ks) u → StandsFor c u → IsProper ks (replaced t path u) × StandsFor t (replaced t path u)
replaced_proper [] depth ks t c u p e q s = let same : t ≡ c = cc in (q, subst (λ (x : TreeOf Text). StandsFor x u) (sym same) s)
replaced_proper (k ∷ path) depth ks t c u p e q s = by (child t k) refl (λ d f g h. replaced_proper path (depth + 1) (own_known t ++ ks) d c u f g h s)
  where
    by : (o : Option (TreeOf Text)) → child t k ≡ o
        → ((d : TreeOf Text) → IsProper (own_known t ++ ks) d → part_at d path ≡ Some c → IsProper (known_at (depth + 1) d path (own_known t ++ ks)) u → IsProper (own_known t ++ ks) (replaced d path u) × StandsFor d (replaced d path u))
        → IsProper ks (replaced t (k ∷ path) u) × StandsFor t (replaced t (k ∷ path) u)
    by None r later = let nowhere = ap (option_and_then (λ x. part_at x path)) (sym r) ∙ e in absurd (cc)
    by (Some d) r later =
        let below =
        later d (child_proper ks t k d p r) (ap (option_and_then (λ x. part_at x path)) (sym r) ∙ e)
        (subst (λ zs. IsProper zs u) (known-step depth t d k path ks r) q) in
        let is : replaced t (k ∷ path) u ≡ with_child t k (replaced d path u) = ap (λ (o : Option (TreeOf Text)). unwrap_or (option_map (λ x. with_child t k (replaced x path u)) o) t) r in
        (subst (IsProper ks) (sym is) (with_child_proper ks t k d (replaced d path u) p r below.1 below.0), subst (StandsFor t) (sym is) (child_stands t k (replaced d path u)))

-- the same from statements on: what is known where a path leads that begins with the number of one
abbrev pub known_among : StatementsOf Text → List ℕ → List Known → List Known
known_among ss [] ks = ks
known_among ss (k ∷ path) ks = unwrap_or (option_map (λ c. known_at 1 c path ks) (nth (statement_trees ss) k)) ks

pub part_of_statements : (path : List ℕ) (ks : List Known) (ss : StatementsOf Text) (c : TreeOf Text) → AreProperStatements ks ss → part_among (statement_trees ss) path ≡ Some c → IsProper (known_among ss path ks) c
part_of_statements [] ks ss c p e = absurd (cc)
part_of_statements (k ∷ path) ks ss c p e = by (nth (statement_trees ss) k) refl
  where
    by : (o : Option (TreeOf Text)) → nth (statement_trees ss) k ≡ o → IsProper (known_among ss (k ∷ path) ks) c
    by None q = let nowhere = ap (option_and_then (λ x. part_at x path)) (sym q) ∙ e in absurd (cc)
    by (Some d) q =
        subst (λ (o : Option (TreeOf Text)). IsProper (unwrap_or (option_map (λ x. known_at 1 x path ks) o) ks) c) (sym q)
        (part_proper path 1 ks d c (statement_proper ks ss k d p q) (ap (option_and_then (λ x. part_at x path)) (sym q) ∙ e))

pub statements_replaced_proper : (path : List ℕ) (ks : List Known) (ss : StatementsOf Text) (c u : TreeOf Text) → AreProperStatements ks ss → part_among (statement_trees ss) path ≡ Some c → IsProper (known_among ss path ks) u → StandsFor c u → AreProperStatements ks (statements_replaced ss path u)
statements_replaced_proper [] ks ss c u p e q s = p
statements_replaced_proper (k ∷ path) ks ss c u p e q s = by (nth (statement_trees ss) k) refl
  where
    by : (o : Option (TreeOf Text)) → nth (statement_trees ss) k ≡ o → AreProperStatements ks (statements_replaced ss (k ∷ path) u)
    by None r = let nowhere = ap (option_and_then (λ x. part_at x path)) (sym r) ∙ e in absurd (cc)
    by (Some d) r =
        let below =
        replaced_proper path 1 ks d c u (statement_proper ks ss k d p r) (ap (option_and_then (λ x. part_at x path)) (sym r) ∙ e)
        (subst (λ (o : Option (TreeOf Text)). IsProper (unwrap_or (option_map (λ x. known_at 1 x path ks) o) ks) u) r q) s in
        subst (AreProperStatements ks) (sym (ap (λ (o : Option (TreeOf Text)). unwrap_or (option_map (λ x. with_statement ss k (replaced x path u)) o) ss) r))
        (statements_with ks ss k d (replaced d path u) p r below.1 below.0)
