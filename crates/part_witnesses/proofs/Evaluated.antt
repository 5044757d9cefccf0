-- What is evaluated before a part, one after the other.
use Rattle.std.proofs.Common.{◌≡◌, ℕ, zero, suc, ◌+◌, ◌≤◌, Bool, true, false, not, List, [], ◌∷◌, ◌++◌, Option, None, Some, map, drop, take, refl, sym, ap, append_assoc, ◌∙◌, arith}
use Rattle.std.specs.Prelude.{if◌then◌else◌}
use Rattle.std.specs.Option.{option_map_or}
use Rattle.std.proofs.lemmas.List.{append-nil, map-append}
use Rattle.tree_model.specs.Tree.{TreeOf, TreesOf, no_trees, more_trees}
use Rattle.tree_model.specs.Path.{nth, child, children, part_in}
use Rattle.image_model.specs.Image.{EntryOf, ImageOf}
use Rattle.command_model.specs.Asked.{AskedOf}
use Rattle.command_model.specs.Places.{is_return, innermost}
use Rattle.command_model.specs.Plain.{is_plain}
use Rattle.refusal_witnesses.specs.PartWitnesses.{is_before_sends, not_plain, before_it, before_expression}
use Rattle.refusal_witnesses.specs.Witnesses.{OwnerOf, WitnessOf, a_node, where_true}
use Rattle.part_witnesses.proofs.Pushed.{where-if}

module _ (a : AskedOf ℕ) (i : ImageOf ℕ) (m : EntryOf ℕ) (path : List ℕ) where
  -- the path of a tree that is a child of a number, if it is not plain
  abbrev one_not_plain : List ℕ → ℕ → TreeOf ℕ → List (List ℕ)
  one_not_plain at j t = if is_plain a i m path t then [] else (at ++ j ∷ []) ∷ []

  -- one more tree
  not-plain-more : (at : List ℕ) (k j : ℕ) (ts : TreesOf ℕ) (t : TreeOf ℕ) → nth ts k ≡ Some t → not_plain a i m path at j (suc k) ts ≡ not_plain a i m path at j k ts ++ one_not_plain at (j + k) t
  not-plain-more at k j no_trees t e = absurd (cc)
  not-plain-more at zero j (more_trees u ts) t e =
      let same : u ≡ t = cc in
      let here : j ≡ j + 0 = omega arith in
      append-nil (one_not_plain at j u) ∙ (λ n. one_not_plain at (here n) (same n))
  not-plain-more at (suc k) j (more_trees u ts) t e =
      let here : suc j + k ≡ j + suc k = omega arith in
      ap (λ (ps : List (List ℕ)). one_not_plain at j u ++ ps) (not-plain-more at k (suc j) ts t e ∙ ap (λ (n : ℕ). not_plain a i m path at (suc j) k ts ++ one_not_plain at n t) here)
      ∙ sym (append_assoc (one_not_plain at j u) (not_plain a i m path at (suc j) k ts) (one_not_plain at (j + suc k) t))

  -- there are no more
  not-plain-short : (at : List ℕ) (k n j : ℕ) (ts : TreesOf ℕ) → k ≤ n → nth ts k ≡ None → not_plain a i m path at j k ts ≡ not_plain a i m path at j n ts
  not-plain-short at zero zero j ts h e = refl
  not-plain-short at zero (suc n) j no_trees h e = refl
  not-plain-short at zero (suc n) j (more_trees t ts) h e = absurd (cc)
  not-plain-short at (suc k) zero j ts h e = absurd (omega arith)
  not-plain-short at (suc k) (suc n) j no_trees h e = refl
  not-plain-short at (suc k) (suc n) j (more_trees t ts) h e = ap (λ (ps : List (List ℕ)). one_not_plain at j t ++ ps) (not-plain-short at k n (suc j) ts (omega arith) e)

  module _ (o : OwnerOf ℕ) where
    abbrev shown_paths : List (List ℕ) → List (WitnessOf ℕ)
    shown_paths ps = map (a_node o) ps

    -- the children of a node that are looked at
    pub plain-more : (old all : List (WitnessOf ℕ)) (at : List ℕ) (k : ℕ) (t c : TreeOf ℕ) → child t k ≡ Some c → all ≡ old ++ shown_paths (not_plain a i m path at 0 k (children t))
        → all ++ where_true (not (is_plain a i m path c)) (a_node o (at ++ k ∷ [])) ≡ old ++ shown_paths (not_plain a i m path at 0 (suc k) (children t))
    plain-more old all at k t c e is =
        let zero : k ≡ 0 + k = omega arith in
        ap (λ (ws : List (WitnessOf ℕ)). ws ++ where_true (not (is_plain a i m path c)) (a_node o (at ++ k ∷ []))) is
        ∙ append_assoc old (shown_paths (not_plain a i m path at 0 k (children t))) (where_true (not (is_plain a i m path c)) (a_node o (at ++ k ∷ [])))
        ∙ ap (λ (ws : List (WitnessOf ℕ)). old ++ (shown_paths (not_plain a i m path at 0 k (children t)) ++ ws)) (where-if o (at ++ k ∷ []) (is_plain a i m path c))
        ∙ ap (λ (ws : List (WitnessOf ℕ)). old ++ ws) (sym (map-append (a_node o) (not_plain a i m path at 0 k (children t)) (one_not_plain at k c))
        ∙ ap (λ (n : ℕ). shown_paths (not_plain a i m path at 0 k (children t) ++ one_not_plain at n c)) zero
        ∙ ap shown_paths (sym (not-plain-more at k 0 (children t) c e)))

    pub plain-short : (at : List ℕ) (k n : ℕ) (t : TreeOf ℕ) → k ≤ n → child t k ≡ None → shown_paths (not_plain a i m path at 0 k (children t)) ≡ shown_paths (not_plain a i m path at 0 n (children t))
    plain-short at k n t h e = ap shown_paths (not-plain-short at k n 0 (children t) h e)

    -- one step of the way to the part
    abbrev rest_before : List ℕ → ℕ → List ℕ → Option (TreeOf ℕ) → List (List ℕ)
    rest_before at k ks c = option_map_or (λ (u : TreeOf ℕ). before_it a i m path (at ++ k ∷ []) u ks) c (at ∷ [])

    step-before : (at : List ℕ) (t : TreeOf ℕ) (k : ℕ) (ks : List ℕ) (c : Option (TreeOf ℕ)) → child t k ≡ c
        → shown_paths (before_it a i m path at t (k ∷ ks)) ≡ where_true (not (is_before_sends t k)) (a_node o at) ++ (shown_paths (not_plain a i m path at 0 k (children t)) ++ shown_paths (rest_before at k ks c))
    step-before at t k ks c e =
        map-append (a_node o) (if is_before_sends t k then [] else at ∷ []) (not_plain a i m path at 0 k (children t) ++ rest_before at k ks (child t k))
        ∙ ap (λ (ws : List (WitnessOf ℕ)). ws ++ shown_paths (not_plain a i m path at 0 k (children t) ++ rest_before at k ks (child t k))) (sym (where-if o at (is_before_sends t k)))
        ∙ ap (λ (ws : List (WitnessOf ℕ)). where_true (not (is_before_sends t k)) (a_node o at) ++ ws) (map-append (a_node o) (not_plain a i m path at 0 k (children t)) (rest_before at k ks (child t k)))
        ∙ ap (λ (x : Option (TreeOf ℕ)). where_true (not (is_before_sends t k)) (a_node o at) ++ (shown_paths (not_plain a i m path at 0 k (children t)) ++ shown_paths (rest_before at k ks x))) e

    -- what is appended in one step, and what is left
    pub stepped : (all1 all2 all : List (WitnessOf ℕ)) (at : List ℕ) (t : TreeOf ℕ) (k : ℕ) (ks : List ℕ) (c : Option (TreeOf ℕ)) → child t k ≡ c
        → all1 ≡ all ++ where_true (not (is_before_sends t k)) (a_node o at) → all2 ≡ all1 ++ shown_paths (not_plain a i m path at 0 k (children t))
        → all2 ++ shown_paths (rest_before at k ks c) ≡ all ++ shown_paths (before_it a i m path at t (k ∷ ks))
    stepped all1 all2 all at t k ks c e one two =
        let first : List (WitnessOf ℕ) = where_true (not (is_before_sends t k)) (a_node o at) in
        let second : List (WitnessOf ℕ) = shown_paths (not_plain a i m path at 0 k (children t)) in
        let third : List (WitnessOf ℕ) = shown_paths (rest_before at k ks c) in
        ap (λ (ws : List (WitnessOf ℕ)). ws ++ third) (two ∙ ap (λ (ws : List (WitnessOf ℕ)). ws ++ second) one ∙ append_assoc all first second)
        ∙ append_assoc all (first ++ second) third
        ∙ ap (λ (ws : List (WitnessOf ℕ)). all ++ ws) (append_assoc first second third ∙ sym (step-before at t k ks c e))

  -- what the innermost statement round an expression evaluates before it
  abbrev before_in : List ℕ → TreeOf ℕ → List (List ℕ)
  before_in way t =
      if is_return t
      then path ∷ []
      else option_map_or (λ (u : TreeOf ℕ). before_it a i m path way u (drop (suc (innermost m.tree path)) path)) (part_in m.tree.body way) (path ∷ [])

  abbrev statement_way : List ℕ
  statement_way = take (suc (innermost m.tree path)) path

  abbrev before_for : Option (TreeOf ℕ) → List (List ℕ)
  before_for x = option_map_or (before_in statement_way) x (path ∷ [])

  pub expression-none : None ≡ part_in m.tree.body path → path ∷ [] ≡ before_expression a i m path
  expression-none e = ap before_for e

  module _ (node : TreeOf ℕ) (there : Some node ≡ part_in m.tree.body path) where
    pub expression-return : true ≡ is_return node → path ∷ [] ≡ before_expression a i m path
    expression-return r =
        ap (λ (b : Bool). if b then path ∷ [] else option_map_or (λ (u : TreeOf ℕ). before_it a i m path statement_way u (drop (suc (innermost m.tree path)) path)) (part_in m.tree.body statement_way) (path ∷ [])) r
        ∙ ap before_for there

    module _ (other : false ≡ is_return node) (way : List ℕ) (is : way ≡ statement_way) where
      before-there : option_map_or (λ (u : TreeOf ℕ). before_it a i m path way u (drop (suc (innermost m.tree path)) path)) (part_in m.tree.body way) (path ∷ []) ≡ before_expression a i m path
      before-there =
          ap (λ (b : Bool). if b then path ∷ [] else option_map_or (λ (u : TreeOf ℕ). before_it a i m path way u (drop (suc (innermost m.tree path)) path)) (part_in m.tree.body way) (path ∷ [])) other
          ∙ ap (λ (w : List ℕ). before_in w node) is
          ∙ ap before_for there

      pub expression-lost : None ≡ part_in m.tree.body way → path ∷ [] ≡ before_expression a i m path
      expression-lost e =
          ap (λ (x : Option (TreeOf ℕ)). option_map_or (λ (u : TreeOf ℕ). before_it a i m path way u (drop (suc (innermost m.tree path)) path)) x (path ∷ [])) e ∙ before-there

      pub expression-before : (statement : TreeOf ℕ) (rest : List ℕ) → Some statement ≡ part_in m.tree.body way → rest ≡ drop (suc (innermost m.tree path)) path → before_it a i m path way statement rest ≡ before_expression a i m path
      expression-before statement rest e r =
          ap (before_it a i m path way statement) r
          ∙ ap (λ (x : Option (TreeOf ℕ)). option_map_or (λ (u : TreeOf ℕ). before_it a i m path way u (drop (suc (innermost m.tree path)) path)) x (path ∷ [])) e
          ∙ before-there
