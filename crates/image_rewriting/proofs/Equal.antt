-- Whether bodies are equal, told over numbers and over texts.
use Rattle.std.proofs.Common.{◌≡◌, ℕ, zero, suc, ◌<◌, ◌⊎◌, inl, inr, Bool, true, false, if◌then◌else◌, List, [], ◌∷◌, ◌++◌, length, map, Option, None, Some, unwrap_or, refl, sym, ap, ◌∙◌, arith}
use Rattle.std.specs.Prelude.{◌&&◌, nat_eq, IsTrue, ◌↔◌}
use Rattle.std.specs.List.{flat_map}
use Rattle.std.specs.Option.{option_eq}
use Rattle.std.specs.Cmp.Lexicographic.{pointwise}
use Rattle.std.proofs.lemmas.Bool.{cases_Bool, and_parts, and_from, eq-eqb}
use Rattle.rb_base.specs.Names.{text_eq, name_at, HasNoTwice}
use Rattle.rb_base.proofs.NamesLemmas.{text_eq-refl}
use Rattle.query_model.specs.Lines.{Text}
use Rattle.tree_model.specs.Tree.{Notes, TreeOf, var, literal, send, cascade, assign, block, brace, return, StatementsOf, no_statements, more_statements, SequenceOf, MethodOf, map_names, map_statements, map_sequence}
use Rattle.tree_model.specs.AllNames.{SequenceNames}
use Rattle.tree_model.specs.Bare.{bare_sequence}
use Rattle.tree_model.specs.Nodes.{Placed, nodes, map_placed}
use Rattle.tree_model.proofs.AllNamesLemmas.{map_sequence-same, SequenceNames-implies}
use Rattle.tree_model.proofs.BareLemmas.{bare_sequence-map_sequence}
use Rattle.tree_model.proofs.MapNames.{map_sequence-id, map_sequence-map_sequence}
use Rattle.tree_model.proofs.NodesLemmas.{nodes-map_sequence}
use Rattle.same_trees.specs.SameTrees.{same_sequence, same_statements}
use Rattle.same_trees.proofs.Told.{pointwise_refl, pointwise_told, text_told, statements_told, statements_same}
use Rattle.class_table.proofs.Live.{there}
use Rattle.pattern_match.proofs.Told.{one_test}
use Rattle.rewrite_model.specs.Notes.{statement_notes, block_notes, all_notes, same_notes, equal_sequence, equal_method}
use Rattle.image_rewriting.specs.Equal.{AreEqual}
use Rattle.image_rewriting.specs.Planned.{place_of}

once-behind : (x : Text) (xs : List Text) → HasNoTwice (x ∷ xs) → HasNoTwice xs
once-behind x xs h i j l e = let same : suc i ≡ suc j = h (suc i) (suc j) (omega (arith, l)) e in omega (arith, same)

-- a text that has one number stands at its place
found : (names : List Text) → HasNoTwice names → (n : ℕ) → n < length names → place_of names (name_at names n) ≡ n
found [] h n l = absurd (omega (arith, l))
found (x ∷ xs) h zero l = ap (λ (b : Bool). if b then 0 else suc (place_of xs x)) (text_eq-refl x)
found (x ∷ xs) h (suc n) l = by (cases_Bool (text_eq (name_at xs n) x)) (λ w. found xs (once-behind x xs h) n w)
  where
    within : n < length xs
    within = omega (arith, l)

    by : (text_eq (name_at xs n) x ≡ true) ⊎ (text_eq (name_at xs n) x ≡ false) → (n < length xs → place_of xs (name_at xs n) ≡ n) → place_of (x ∷ xs) (name_at xs n) ≡ suc n
    by (inl t) rest =
        let w = there xs n within in
        let here : x ≡ w.0 = sym (text_told (name_at xs n) x t) ∙ ap (λ (o : Option Text). unwrap_or o []) w.1 in
        let bad : 0 ≡ suc n = h 0 (suc n) (omega (arith, l)) (ap (λ (u : Text). Some u) here ∙ sym w.1) in
        absurd (omega (arith, bad))
    by (inr f) rest = ap (λ (b : Bool). if b then 0 else suc (place_of xs (name_at xs n))) f ∙ ap suc (rest within)

-- bodies are the same but for comments where the test passes
bare-told : (a b : SequenceOf Text) → same_sequence text_eq a b ≡ true → bare_sequence a ≡ bare_sequence b
bare-told a b e =
    let h = and_parts (pointwise text_eq a.temporaries b.temporaries) (same_statements text_eq a.statements b.statements) e in
    λ i. record { temporaries = pointwise_told text_eq text_told a.temporaries b.temporaries h.0 i; statements = statements_told text_eq text_told a.statements b.statements h.1 i; tail = [] }

bare-same : (a b : SequenceOf Text) → bare_sequence a ≡ bare_sequence b → same_sequence text_eq a b ≡ true
bare-same a b e =
    and_from (pointwise text_eq a.temporaries b.temporaries) (same_statements text_eq a.statements b.statements)
    (ap (pointwise text_eq a.temporaries) (sym (ap (λ (c : SequenceOf Text). c.temporaries) e)) ∙ pointwise_refl text_eq text_eq-refl a.temporaries)
    (statements_same text_eq text_eq-refl a.statements b.statements (ap (λ (c : SequenceOf Text). c.statements) e))

-- comments are the same where the test passes
notes-refl : (xs : List Notes) → pointwise (pointwise text_eq) xs xs ≡ true
notes-refl xs = pointwise_refl (pointwise text_eq) (pointwise_refl text_eq text_eq-refl) xs

notes-told : (xs ys : List Notes) → pointwise (pointwise text_eq) xs ys ≡ true → xs ≡ ys
notes-told xs ys e = pointwise_told (pointwise text_eq) (pointwise_told text_eq text_told) xs ys e

-- names do not count among comments
module _ {M N : Type 0} (f : M → N) where
  statement_notes-mapped : (ss : StatementsOf M) (e : Notes) → statement_notes (map_statements f ss) e ≡ statement_notes ss e
  statement_notes-mapped no_statements e = refl
  statement_notes-mapped (more_statements c t ss) e = ap (λ (ns : List Notes). c ∷ ns) (statement_notes-mapped ss e)

  block_notes-mapped : (t : TreeOf M) → block_notes (map_names f t) ≡ block_notes t
  block_notes-mapped (var n) = refl
  block_notes-mapped (literal l) = refl
  block_notes-mapped (send r s ts) = refl
  block_notes-mapped (cascade r ms) = refl
  block_notes-mapped (assign n t) = refl
  block_notes-mapped (block ps ts ss e) = statement_notes-mapped ss e
  block_notes-mapped (brace ts) = refl
  block_notes-mapped (return t) = refl

  placed_notes-mapped : (es : List (Placed M)) → flat_map (λ (e : Placed N). block_notes e.1) (map_placed f es) ≡ flat_map (λ (e : Placed M). block_notes e.1) es
  placed_notes-mapped [] = refl
  placed_notes-mapped (e ∷ es) = λ i. block_notes-mapped e.1 i ++ placed_notes-mapped es i

  all_notes-mapped : (b : SequenceOf M) → all_notes (map_sequence f b) ≡ all_notes b
  all_notes-mapped b =
      (λ i. statement_notes-mapped b.statements b.tail i ++ flat_map (λ (e : Placed N). block_notes e.1) (nodes-map_sequence f b i))
      ∙ ap (λ (ns : List Notes). statement_notes b.statements b.tail ++ ns) (placed_notes-mapped (nodes b))

-- the comments of nodes without their paths
pub placed-notes : {N : Type 0} (es : List (Placed N)) → flat_map block_notes (map (λ (e : Placed N). e.1) es) ≡ flat_map (λ (e : Placed N). block_notes e.1) es
placed-notes [] = refl
placed-notes (e ∷ es) = ap (λ (ns : List Notes). block_notes e.1 ++ ns) (placed-notes es)

module _ (names : List Text) (once : HasNoTwice names) where
  pub back : (b : SequenceOf ℕ) → SequenceNames (λ n. n < length names) b → map_sequence (place_of names) (map_sequence (name_at names) b) ≡ b
  back b known =
      map_sequence-map_sequence (place_of names) (name_at names) b
      ∙ map_sequence-same (λ n. place_of names (name_at names n)) (λ n. n) b (SequenceNames-implies (λ n. n < length names) (λ n. place_of names (name_at names n) ≡ n) (found names once) b known)
      ∙ map_sequence-id b

  bare-back : (a b : SequenceOf ℕ) → SequenceNames (λ n. n < length names) a → SequenceNames (λ n. n < length names) b
      → bare_sequence (map_sequence (name_at names) a) ≡ bare_sequence (map_sequence (name_at names) b) → bare_sequence a ≡ bare_sequence b
  bare-back a b known also e =
      ap bare_sequence (sym (back a known))
      ∙ bare_sequence-map_sequence (place_of names) (map_sequence (name_at names) a)
      ∙ ap (map_sequence (place_of names)) e
      ∙ sym (bare_sequence-map_sequence (place_of names) (map_sequence (name_at names) b))
      ∙ ap bare_sequence (back b also)

  -- bodies over texts are equal where those over numbers are
  pub equal-texts : (are : Bool) (a b : SequenceOf ℕ) → SequenceNames (λ n. n < length names) a → SequenceNames (λ n. n < length names) b
      → IsTrue are ↔ AreEqual a b → are ≡ equal_sequence text_eq (map_sequence (name_at names) a) (map_sequence (name_at names) b)
  equal-texts are a b known also h =
      let x : SequenceOf Text = map_sequence (name_at names) a in
      let y : SequenceOf Text = map_sequence (name_at names) b in
      one_test are (equal_sequence text_eq x y)
      (λ e. let are_equal = h.0 e in
      and_from (same_sequence text_eq x y) (same_notes x y)
      (bare-same x y (bare_sequence-map_sequence (name_at names) a ∙ ap (map_sequence (name_at names)) are_equal.0 ∙ sym (bare_sequence-map_sequence (name_at names) b)))
      ((λ i. pointwise (pointwise text_eq) (all_notes-mapped (name_at names) a i) (all_notes-mapped (name_at names) b i))
      ∙ ap (pointwise (pointwise text_eq) (all_notes a)) (sym are_equal.1)
      ∙ notes-refl (all_notes a)))
      (λ e. let parts = and_parts (same_sequence text_eq x y) (same_notes x y) e in
      h.1 (
        bare-back a b known also (bare-told x y parts.0),
        sym (all_notes-mapped (name_at names) a) ∙ notes-told (all_notes x) (all_notes y) parts.1 ∙ all_notes-mapped (name_at names) b,
      ))

-- a body is equal to itself
pub equal-self : (a : SequenceOf Text) → equal_sequence text_eq a a ≡ true
equal-self a = and_from (same_sequence text_eq a a) (same_notes a a) (bare-same a a refl) (notes-refl (all_notes a))

-- methods that differ in their bodies alone are equal where these are
pub equal-method : (m : MethodOf Text) (b : SequenceOf Text) → equal_method text_eq m (record m { body = b }) ≡ equal_sequence text_eq m.body b
equal-method m b =
    λ i. (text_eq-refl m.selector i && (pointwise_refl text_eq text_eq-refl m.arguments i && (primitive m.primitive i && same_sequence text_eq m.body b)))
    && (pointwise_refl text_eq text_eq-refl m.head i && same_notes m.body b)
  where
    primitive : (o : Option ℕ) → option_eq nat_eq o o ≡ true
    primitive None = refl
    primitive (Some n) = eq-eqb n n refl
