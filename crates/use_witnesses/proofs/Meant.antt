-- The nodes of the image that pass a test, and those that the walk gathers.
use Rattle.std.proofs.Common.{◌≡◌, ℕ, suc, ◌+◌, ◌&&◌, Bool, true, false, cond, List, [], ◌∷◌, ◌++◌, map, Option, Some, None, slice_get, refl, sym, ap, ◌∙◌, arith}
use Rattle.std.specs.Prelude.{nat_eq, filter}
use Rattle.std.specs.List.{enumerate_from, flat_map}
use Rattle.std.specs.Option.{option_map_or}
use Rattle.std.proofs.lemmas.Bool.{eqb-true}
use Rattle.tree_model.specs.Tree.{SequenceOf}
use Rattle.tree_model.specs.Nodes.{Placed, nodes}
use Rattle.image_model.specs.Image.{EntryOf, DoItOf, ImageOf}
use Rattle.image_model.specs.Means.{MeaningOf}
use Rattle.image_model.specs.Nodes.{Place, NodeOf, in_method, in_doit, image_nodes, means_in, nodes_of}
use Rattle.image_model.specs.Uses.{name_used, places, uses}
use Rattle.image_model.specs.Words.{number_words}
use Rattle.class_table.specs.Slots.{Slots}
use Rattle.class_table.specs.View.{number_image}
use Rattle.parameter_questions.specs.Codes.{means_in_doit, means_in_method}
use Rattle.refusal_witnesses.specs.Witnesses.{AtPlace, WitnessOf, a_node, a_use, nodes_that}
use Rattle.use_questions.specs.declared.question.Meant.{Meant}
use Rattle.use_questions.specs.Questions.{are_doits_asked, is_asked, is_meant, name_of}
use Rattle.use_questions.proofs.Uses as used
use Rattle.use_questions.proofs.Uses.{meaning, use-named}
use Rattle.use_witnesses.specs.declared.uses.Use.TheVariants as node
use Rattle.use_witnesses.specs.declared.uses.Uses.{Uses}
use Rattle.use_witnesses.specs.Uses.{body_uses, is_use, uses_there}

-- a node with its place in the image
abbrev pub node_at : Place → Placed ℕ → NodeOf ℕ
node_at place e = record { use_of = record { place = place; path = e.0 }; tree = e.1 }

-- the witnesses of nodes, and of a node of a place
abbrev pub uses_at : List (NodeOf ℕ) → List (WitnessOf ℕ)
uses_at es = map (a_use {N = ℕ}) (places es)

abbrev pub node_of : Place → Placed ℕ → WitnessOf ℕ
node_of place e = a_node (AtPlace place) e.0

-- what is kept of what passes a test
pub kept-filter : {X Y : Type 0} (f : X → Y) (t : X → Bool) (p : Y → Bool) (xs : List X) → filter p (map f (filter t xs)) ≡ map f (filter (λ x. t x && p (f x)) xs)
kept-filter f t p [] = refl
kept-filter f t p (x ∷ xs) = by (t x) (kept-filter f t p xs)
  where
    at : (c : Bool) → filter p (map f (filter t xs)) ≡ map f (filter (λ x. t x && p (f x)) xs)
        → cond c (f x ∷ filter p (map f (filter t xs))) (filter p (map f (filter t xs))) ≡ map f (cond c (x ∷ filter (λ x. t x && p (f x)) xs) (filter (λ x. t x && p (f x)) xs))
    at true rest = ap (λ ys. f x ∷ ys) rest
    at false rest = rest

    by : (b : Bool) → filter p (map f (filter t xs)) ≡ map f (filter (λ x. t x && p (f x)) xs)
        → filter p (map f (cond b (x ∷ filter t xs) (filter t xs))) ≡ map f (cond (b && p (f x)) (x ∷ filter (λ x. t x && p (f x)) xs) (filter (λ x. t x && p (f x)) xs))
    by false rest = rest
    by true rest = at (p (f x)) rest

module _ (test : NodeOf ℕ → Bool) where
  -- the witnesses of the nodes that pass
  abbrev pub passing : List (NodeOf ℕ) → List (WitnessOf ℕ)
  passing es = uses_at (filter test es)

  passing-append : (es fs : List (NodeOf ℕ)) → passing (es ++ fs) ≡ passing es ++ passing fs
  passing-append [] fs = refl
  passing-append (e ∷ es) fs = by (test e) (passing-append es fs)
    where
      by : (b : Bool) → passing (es ++ fs) ≡ passing es ++ passing fs
          → uses_at (cond b (e ∷ filter test (es ++ fs)) (filter test (es ++ fs))) ≡ uses_at (cond b (e ∷ filter test es) (filter test es)) ++ passing fs
      by true rest = ap (λ (ws : List (WitnessOf ℕ)). a_use e.use_of ∷ ws) rest
      by false rest = rest

  -- of a piece of code that is asked or not
  piece : (place : Place) (asked : Bool) (is : Placed ℕ → Bool) → ((e : Placed ℕ) → test (node_at place e) ≡ (asked && is e)) → (es : List (Placed ℕ))
      → passing (map (node_at place) es) ≡ cond asked (map (node_of place) (filter is es)) []
  piece place true is same [] = refl
  piece place false is same [] = refl
  piece place true is same (e ∷ es) =
      ap (λ (b : Bool). uses_at (cond b (node_at place e ∷ filter test (map (node_at place) es)) (filter test (map (node_at place) es)))) (same e) ∙ by (is e) (piece place true is same es)
    where
      by : (b : Bool) → passing (map (node_at place) es) ≡ map (node_of place) (filter is es)
          → uses_at (cond b (node_at place e ∷ filter test (map (node_at place) es)) (filter test (map (node_at place) es))) ≡ map (node_of place) (cond b (e ∷ filter is es) (filter is es))
      by true rest = ap (λ (ws : List (WitnessOf ℕ)). node_of place e ∷ ws) rest
      by false rest = rest
  piece place false is same (e ∷ es) =
      ap (λ (b : Bool). uses_at (cond b (node_at place e ∷ filter test (map (node_at place) es)) (filter test (map (node_at place) es)))) (same e) ∙ piece place false is same es

  -- of numbered pieces
  pieces : {X : Type 0} (place : ℕ → Place) (body : X → SequenceOf ℕ) (asked : X → Bool) (is : X → Placed ℕ → Bool) (from : ℕ) (xs : List X)
      → ((k n : ℕ) (x : X) → n ≡ from + k → slice_get xs k ≡ Some x → (e : Placed ℕ) → test (node_at (place n) e) ≡ (asked x && is x e))
      → passing (flat_map (λ (e : ℕ × X). nodes_of (place e.0) (body e.1)) (enumerate_from from xs)) ≡ flat_map (λ (e : ℕ × X). cond (asked e.1) (nodes_that (is e.1) (AtPlace (place e.0)) (body e.1)) []) (enumerate_from from xs)
  pieces place body asked is from [] same = refl
  pieces place body asked is from (x ∷ xs) same =
      passing-append (nodes_of (place from) (body x)) (flat_map (λ e. nodes_of (place e.0) (body e.1)) (enumerate_from (from + 1) xs))
      ∙ (λ i. piece (place from) (asked x) (is x) (same 0 from x (omega arith) refl) (nodes (body x)) i ++ pieces place body asked is (from + 1) xs (λ k n y e f. same (suc k) n y (omega (arith, e)) f) i)

  -- do-its that are asked or not
  all-asked : {X : Type 0} (b : Bool) (g : X → List (WitnessOf ℕ)) (xs : List X) → flat_map (λ x. cond b (g x) []) xs ≡ cond b (flat_map g xs) []
  all-asked true g xs = refl
  all-asked false g [] = refl
  all-asked false g (x ∷ xs) = all-asked false g xs

  -- the nodes of the image that pass are those that the walk gathers, if the tests agree
  pub walked : (s : Slots) (u : Uses)
      → ((k : ℕ) (m : EntryOf ℕ) → slice_get (number_image s).methods k ≡ Some m → (e : Placed ℕ) → test (node_at (in_method k) e) ≡ (is_asked (number_image s) u.whose m && is_use u.what (means_in_method s m) e))
      → ((k : ℕ) (d : DoItOf ℕ) → slice_get (number_image s).doits k ≡ Some d → (e : Placed ℕ) → test (node_at (in_doit k) e) ≡ (are_doits_asked u.whose && is_use u.what (means_in_doit s d) e))
      → passing (image_nodes (number_image s)) ≡ uses_there s u
  walked s u methods doits =
      let i : ImageOf ℕ = number_image s in
      passing-append (flat_map (λ (e : ℕ × EntryOf ℕ). nodes_of (in_method e.0) e.1.tree.body) (enumerate_from 0 i.methods)) (flat_map (λ (e : ℕ × DoItOf ℕ). nodes_of (in_doit e.0) e.1.body) (enumerate_from 0 i.doits))
      ∙ (λ j.
      pieces in_method (λ (m : EntryOf ℕ). m.tree.body) (is_asked i u.whose) (λ (m : EntryOf ℕ). is_use u.what (means_in_method s m)) 0 i.methods
      (λ k n m e f. let here : n ≡ k = omega (arith, e) in methods n m (ap (slice_get i.methods) here ∙ f)) j
      ++ (pieces in_doit (λ (d : DoItOf ℕ). d.body) (λ (d : DoItOf ℕ). are_doits_asked u.whose) (λ (d : DoItOf ℕ). is_use u.what (means_in_doit s d)) 0 i.doits
      (λ k n d e f. let here : n ≡ k = omega (arith, e) in doits n d (ap (slice_get i.doits) here ∙ f))
      ∙ all-asked (are_doits_asked u.whose) (body_uses s u) (enumerate_from 0 i.doits)) j)

-- a use of a class or a variable, by its name
module _ (s : Slots) (what : Meant) where
  pub meant-at : (place : Place) (given : List ℕ) (b : SequenceOf ℕ) (home : Option ℕ) (meta : Bool) → ((path : List ℕ) (n : ℕ) → means_in (number_words s.names) (number_image s) place path n ≡ meaning s what given b home meta path n)
      → (e : Placed ℕ) → uses (number_words s.names) (number_image s) (used.is_use what) (node_at place e) ≡ is_use (node.Means what) (meaning s what given b home meta) e
  meant-at place given b home meta is e = by (name_used e.1)
    where
      here : ℕ → MeaningOf ℕ
      here n = meaning s what given b home meta e.0 n

      named : (n : ℕ) (c : Bool) → nat_eq (name_of what) n ≡ c → (c && is_meant what (here n)) ≡ (c && is_meant what (here (name_of what)))
      named n true q = ap (λ (x : ℕ). is_meant what (here x)) (sym (eqb-true (name_of what) n q))
      named n false q = refl

      by : (o : Option ℕ) → option_map_or (λ n. used.is_use what n (means_in (number_words s.names) (number_image s) place e.0 n)) o false ≡ (option_map_or (nat_eq (name_of what)) o false && is_meant what (here (name_of what)))
      by None = refl
      by (Some n) = ap (used.is_use what n) (is e.0 n) ∙ use-named s what given b home meta e.0 n ∙ named n (nat_eq (name_of what) n) refl
