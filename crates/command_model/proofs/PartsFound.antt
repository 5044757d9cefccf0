-- The part with a span is found among all parts of a tree, and in the source that spells the tree.
use Rattle.std.proofs.Common.{◌≡◌, ℕ, zero, suc, ◌+◌, ◌-◌, ◌<◌, ◌≤◌, arith, List, [], ◌∷◌, Option, Some, None, refl, ap, sym, subst, ◌∙◌, ◌⊎◌, inl, inr}
use Rattle.std.specs.Prelude.{Bool, true, false, ◌&&◌, ◌==◌, nat_le, if◌then◌else◌, map, flat_map, Contains, option_map, option_and_then}
use Rattle.std.specs.List.{range_with_len}
use Rattle.std.specs.Option.{option_map_or}
use Rattle.std.proofs.lemmas.Bool.{eq-eqb, eqb-true, leb-true, le-leb}
use Rattle.std.proofs.lemmas.List.Elements.{Contains-append_left, Contains-append_right}
use Rattle.token_model.specs.declared.kind.Dialect.TheVariants.{Second}
use Rattle.tree_model.specs.Tree.{MethodOf}
use Rattle.tree_model.specs.Path.{count}
use Rattle.tree_model.specs.Nodes.{Placed, nodes}
use Rattle.tree_model.proofs.NodesLemmas.{Contains-part_in}
use Rattle.grammar_model.specs.Whole.{Method}
use Rattle.grammar_model.specs.Checks.{Fault}
use Rattle.grammar_model.specs.Spanned.{SpannedTree, SpannedTrees, NoTrees, MoreTrees, SpannedSequence, SpannedMethod, plain_tree, plain_trees, plain_sequence, plain_method}
use Rattle.grammar_model.specs.Spans.{begin_of, end_of, spanned_nth, spanned_in, Span, span_of, span_at, statements_of, statements_at, IsRunAt}
use Rattle.grammar_model.specs.Spelling.{SpellsMethodAt, SpellsMethod, HasFirstFault}
use Rattle.grammar_model.proofs.Texts.{method_or_fault, one_SpellsMethodAt, no_fault_Method}
use Rattle.grammar_model.proofs.Places.{one_place_Method, plain_in}
use Rattle.grammar_model.proofs.RunPlaces.{run_no_node_Method, runs_same_Method}
use Rattle.command_model.specs.Parts.{Part, Expression, Run}
use Rattle.command_model.specs.Located.{HasPart, IsLocating}
use Rattle.command_model.specs.PartsOfText.{run_span, span_of_part, node_paths, runs_among, runs_at, parts_in, is_span, stands_at, part_with, tree_told, parts_of_text}
use Rattle.command_model.proofs.Searched.{in-first, in-rest, found-passes, none-passes, in-mapped, in-lists, in-range}

-- a span is this one, and only this one
span-same : (x y : Span) → is_span x y ≡ true → x ≡ y
span-same x y e = by (x.from == y.from) (x.to == y.to) refl refl e
  where
    by : (b c : Bool) → (x.from == y.from) ≡ b → (x.to == y.to) ≡ c → (b && c) ≡ true → x ≡ y
    by true true p q h = let f = eqb-true x.from y.from p in let t = eqb-true x.to y.to q in (λ i. record { from = f i; to = t i })
    by true false p q h = cc
    by false c p q h = cc

span-itself : (x : Span) → is_span x x ≡ true
span-itself x = ap (λ b. b && (x.to == x.to)) (eq-eqb x.from x.from refl) ∙ eq-eqb x.to x.to refl

module _ (s : SpannedSequence) (span : Span) where
  -- a part that passes has the span
  stands : (part : Part) → stands_at s span part ≡ true → span_of_part s part ≡ Some span
  stands part e = by (span_of_part s part) e
    where
      by : (o : Option Span) → option_map_or (is_span span) o false ≡ true → o ≡ Some span
      by None h = cc
      by (Some x) h = ap Some (sym (span-same span x h))

  -- a part that has the span passes
  passes : (part : Part) → span_of_part s part ≡ Some span → stands_at s span part ≡ true
  passes part e = ap (λ (o : Option Span). option_map_or (is_span span) o false) e ∙ span-itself span

-- nodes of two numbers
run-between : (ts : SpannedTrees) (first count : ℕ) (span : Span) (s : SpannedSequence) (path : List ℕ) → statements_at s path ≡ Some ts → run_span ts first count ≡ Some span → IsRunAt s path first count span
run-between ts first count span s path at e = enough (nat_le 2 count) refl e
  where
    ends : (o p : Option SpannedTree) → spanned_nth ts first ≡ o → spanned_nth ts (first + count - 1) ≡ p → 2 ≤ count →
        option_and_then (λ head. option_map (λ last. record { from = begin_of head; to = end_of last }) p) o ≡ Some span → IsRunAt s path first count span
    ends None p a b many e = cc
    ends (Some head) None a b many e = cc
    ends (Some head) (Some last) a b many e =
        let given : Some span ≡ Some (record { from = begin_of head; to = end_of last }) = sym e in
        let same : span ≡ record { from = begin_of head; to = end_of last } = cc in
        record { statements = ts; head = head; last = last; many = many; of_path = at; at_first = a; at_last = b; is = same }

    enough : (b : Bool) → nat_le 2 count ≡ b →
        (if b then option_and_then (λ head. option_map (λ last. record { from = begin_of head; to = end_of last }) (spanned_nth ts (first + count - 1))) (spanned_nth ts first) else None) ≡ Some span → IsRunAt s path first count span
    enough true many e = ends (spanned_nth ts first) (spanned_nth ts (first + count - 1)) refl refl (leb-true 2 count many) e
    enough false many e = cc

-- what the span of a run tells
run-told : (s : SpannedSequence) (path : List ℕ) (first count : ℕ) (span : Span) → span_of_part s (Run path first count) ≡ Some span → IsRunAt s path first count span
run-told s path first count span e = by (statements_at s path) refl e
  where
    by : (o : Option SpannedTrees) → statements_at s path ≡ o → option_and_then (λ ts. run_span ts first count) o ≡ Some span → IsRunAt s path first count span
    by None at e = cc
    by (Some ts) at e = run-between ts first count span s path at e

-- a run has its span
run-spans : (s : SpannedSequence) (path : List ℕ) (first count : ℕ) (span : Span) → IsRunAt s path first count span → span_of_part s (Run path first count) ≡ Some span
run-spans s path first count span r =
    ap (option_and_then (λ ts. run_span ts first count)) r.of_path
    ∙ ap (λ b. if b then option_and_then (λ head. option_map (λ last. record { from = begin_of head; to = end_of last }) (spanned_nth r.statements (first + count - 1))) (spanned_nth r.statements first) else None) (le-leb 2 count r.many)
    ∙ ap (option_and_then (λ head. option_map (λ last. record { from = begin_of head; to = end_of last }) (spanned_nth r.statements (first + count - 1)))) r.at_first
    ∙ ap (option_map (λ last. record { from = begin_of r.head; to = end_of last })) r.at_last
    ∙ ap Some (sym r.is)

-- the tree of a number is one of so many
nth-below : (ts : SpannedTrees) (k : ℕ) (t : SpannedTree) → spanned_nth ts k ≡ Some t → k < count (plain_trees ts)
nth-below NoTrees k t e = cc
nth-below (MoreTrees u us) zero t e = omega arith
nth-below (MoreTrees u us) (suc k) t e = omega (arith, nth-below us k t e)

-- a path that leads to a node is among those of all nodes
leads-listed : (s : SpannedSequence) (path : List ℕ) (t : SpannedTree) → spanned_in s path ≡ Some t → Contains (node_paths s) path
leads-listed s path t e =
    in-mapped (λ (e : Placed (List ℕ)). e.0) (nodes (plain_sequence s)) (path, plain_tree t)
    (Contains-part_in (plain_sequence s) path (plain_tree t) (sym (plain_in s path) ∙ ap (option_map plain_tree) e))

node-listed : (s : SpannedSequence) (path : List ℕ) (span : Span) → span_at s path ≡ Some span → Contains (parts_in s) (Expression path)
node-listed s path span e =
    Contains-append_left (map Expression (node_paths s)) (flat_map (runs_at s) ([] ∷ node_paths s)) (Expression path)
    (in-mapped Expression (node_paths s) path (by (spanned_in s path) refl e))
  where
    by : (o : Option SpannedTree) → spanned_in s path ≡ o → option_map span_of o ≡ Some span → Contains (node_paths s) path
    by None at e = cc
    by (Some t) at e = leads-listed s path t at

-- a path to statements is the empty one or among those of all nodes
statements-listed : (s : SpannedSequence) (path : List ℕ) (ts : SpannedTrees) → statements_at s path ≡ Some ts → Contains ([] ∷ node_paths s) path
statements-listed s [] ts e = in-first [] (node_paths s)
statements-listed s (k ∷ ks) ts e = in-rest [] (node_paths s) (k ∷ ks) (by (spanned_in s (k ∷ ks)) refl e)
  where
    by : (o : Option SpannedTree) → spanned_in s (k ∷ ks) ≡ o → option_and_then statements_of o ≡ Some ts → Contains (node_paths s) (k ∷ ks)
    by None at e = cc
    by (Some t) at e = leads-listed s (k ∷ ks) t at

-- a run is among those of its statements
run-among : (path : List ℕ) (first count number : ℕ) → 2 ≤ count → first + count - 1 < number → Contains (runs_among path number) (Run path first count)
run-among path first count number many last =
    in-lists (λ first. map (Run path first) (range_with_len 2 number)) (range_with_len 0 number) first (Run path first count) (in-range 0 number first (omega arith) (omega arith))
    (in-mapped (Run path first) (range_with_len 2 number) count (in-range 2 number count many (omega arith)))

run-listed : (s : SpannedSequence) (path : List ℕ) (first count : ℕ) (span : Span) → IsRunAt s path first count span → Contains (parts_in s) (Run path first count)
run-listed s path first number span r =
    let there = run-among path first number (count (plain_trees r.statements)) r.many (nth-below r.statements (first + number - 1) r.last r.at_last) in
    let at : runs_at s path ≡ runs_among path (count (plain_trees r.statements)) = ap (λ (o : Option SpannedTrees). option_map_or (λ ts. runs_among path (count (plain_trees ts))) o []) r.of_path in
    Contains-append_right (map Expression (node_paths s)) (flat_map (runs_at s) ([] ∷ node_paths s)) (Run path first number)
    (in-lists (runs_at s) ([] ∷ node_paths s) path (Run path first number) (statements-listed s path r.statements r.of_path)
    (subst (λ (parts : List Part). Contains parts (Run path first number)) (sym at) there))

module _ (source : List ℕ) (m : SpannedMethod) (spells : SpellsMethodAt Second false source m) (span : Span) where
  -- the part that is found has the span
  part-found : HasPart m.body span (part_with m.body span)
  part-found = by (part_with m.body span) refl
    where
      by : (o : Option Part) → part_with m.body span ≡ o → HasPart m.body span o
      by (Some (Expression path)) e = stands m.body span (Expression path) (found-passes (stands_at m.body span) (parts_in m.body) (Expression path) e)
      by (Some (Run path first count)) e =
          let run = run-told m.body path first count span (stands m.body span (Run path first count) (found-passes (stands_at m.body span) (parts_in m.body) (Run path first count) e)) in
          (λ other. run_no_node_Method Second false source m path other first count span spells run, run)
      by None e = (
        λ path at. none-passes (stands_at m.body span) (parts_in m.body) (Expression path) e (node-listed m.body path span at) (passes m.body span (Expression path) at),
        λ path first count run.
            none-passes (stands_at m.body span) (parts_in m.body) (Run path first count) e (run-listed m.body path first count span run)
            (passes m.body span (Run path first count) (run-spans m.body path first count span run)),
      )

  -- two parts with one span are one
  one-part : (x y : Option Part) → HasPart m.body span x → HasPart m.body span y → x ≡ y
  one-part (Some (Expression p)) (Some (Expression q)) h g = ap (λ path. Some (Expression path)) (one_place_Method Second false source m p q span spells h g)
  one-part (Some (Expression p)) (Some (Run q second number)) h g = absurd (g.0 p h)
  one-part (Some (Expression p)) None h g = absurd (g.0 p h)
  one-part (Some (Run p first count)) (Some (Expression q)) h g = absurd (h.0 q g)
  one-part (Some (Run p first count)) (Some (Run q second number)) h g =
      let same = runs_same_Method Second false source m p q first second count number span spells h.1 g.1 in
      (λ i. Some (Run (same.0 i) (same.1 i) (same.2 i)))
  one-part (Some (Run p first count)) None h g = absurd (g.1 p first count h.1)
  one-part None (Some (Expression q)) h g = absurd (h.0 q g)
  one-part None (Some (Run q second number)) h g = absurd (h.1 q second number g.1)
  one-part None None h g = refl

-- whether a source spells a user's method
abbrev Told : List ℕ → Type 0
Told source = ((tree : MethodOf (List ℕ)) × SpellsMethod Second false source tree) ⊎ ((fault : Fault) × HasFirstFault Second (Method false) source fault)

-- the tree of a source that spells a method is told
told-tree : (source : List ℕ) (m : SpannedMethod) (o : Told source) → SpellsMethodAt Second false source m → tree_told source o ≡ Some m
told-tree source m (inl (tree, spells)) h = ap Some (one_SpellsMethodAt Second false source spells.spanned m spells.spells h)
told-tree source m (inr (fault, has)) h = absurd (no_fault_Method Second false source (plain_method m) fault (record { spanned = m; spells = h; same = refl }) has)

-- the part in a source is the one in its tree
parts-in-tree : (source : List ℕ) (m : SpannedMethod) (from to : ℕ) → SpellsMethodAt Second false source m → parts_of_text source from to ≡ part_with m.body (record { from = from; to = to })
unfolding parts_of_text
parts-in-tree source m from to h =
    ap (option_and_then (λ (m : SpannedMethod). part_with m.body (record { from = from; to = to }))) (told-tree source m (method_or_fault Second false source) h)

-- each part is found
pub finds-parts : IsLocating parts_of_text
finds-parts source m from to h =
    subst (HasPart m.body (record { from = from; to = to })) (sym (parts-in-tree source m from to h)) (part-found source m h (record { from = from; to = to }))

-- and it alone
pub finds-one : (source : List ℕ) (m : SpannedMethod) (from to : ℕ) (found : Option Part) → SpellsMethodAt Second false source m → HasPart m.body (record { from = from; to = to }) found → found ≡ parts_of_text source from to
finds-one source m from to found h has = one-part source m h (record { from = from; to = to }) found (parts_of_text source from to) has (finds-parts source m from to h)

-- where a source spells no method none is found
pub finds-none : (source : List ℕ) (from to : ℕ) → ((m : SpannedMethod) → ¬ SpellsMethodAt Second false source m) → parts_of_text source from to ≡ None
unfolding parts_of_text
finds-none source from to none = by (method_or_fault Second false source)
  where
    by : (o : Told source) → option_and_then (λ (m : SpannedMethod). part_with m.body (record { from = from; to = to })) (tree_told source o) ≡ None
    by (inl (tree, spells)) = absurd (none spells.spanned spells.spells)
    by (inr (fault, has)) = refl
