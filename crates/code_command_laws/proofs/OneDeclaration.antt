-- A temporary that is set once and that only one place declares: what else declares its name.
use Rattle.std.proofs.Common.{◌≡◌, ◌≤◌, ℕ, ◌+◌, List, ◌∷◌, ◌++◌, length, filter, Bool, true, false, Some, option_and_then, sym, ap, ◌∙◌, subst, arith, ◌⊎◌, inl, inr}
use Rattle.std.specs.Prelude.{flat_map}
use Rattle.std.specs.List.{list_any}
use Rattle.std.proofs.lemmas.Bool.{eqb-true}
use Rattle.tree_model.specs.Tree.{TreeOf, SequenceOf, MethodOf}
use Rattle.tree_model.specs.Path.{part_at, part_in}
use Rattle.tree_model.specs.Nodes.{Placed, nodes}
use Rattle.tree_model.proofs.NodesLemmas.{Contains-part_in}
use Rattle.rename_model.specs.NamesThere.{declared_by}
use Rattle.command_model.specs.Asked.{AskedOf}
use Rattle.command_model.specs.Temporaries.{LetOf, declared_in, is_declared_once}
use Rattle.code_command_laws.specs.Folded.{TellsApart}
use Rattle.code_command_laws.proofs.PartRound.{block_with, block-there}
use Rattle.code_command_laws.proofs.DeclaredOnce.{passing, passing-append, some-passes, none-passing, RoundOne, round-one, one-gives, two-give}
use Rattle.code_command_laws.proofs.LetRound.{LetWhere, in_the_body, in_a_block}

module _ {N : Type 0} (a : AskedOf N) (m : MethodOf N) (x : N) (once : is_declared_once a m x ≡ true) where
  abbrev is_it : N → Bool
  is_it = a.words.tests.same x

  abbrev by_node : Placed N → List N
  by_node e = declared_by e.1

  -- how many places declare the name: the arguments, the temporaries, and the nodes
  total : passing is_it m.arguments + (passing is_it m.body.temporaries + passing is_it (flat_map by_node (nodes m.body))) ≡ 1
  total =
      sum (passing is_it m.arguments) (passing is_it m.body.temporaries) (passing is_it (flat_map by_node (nodes m.body)))
      ∙ ap (λ n. n + passing is_it (flat_map by_node (nodes m.body))) (sym (passing-append is_it m.arguments m.body.temporaries))
      ∙ sym (passing-append is_it (m.arguments ++ m.body.temporaries) (flat_map by_node (nodes m.body)))
      ∙ eqb-true (length (filter is_it (declared_in m))) 1 once
    where
      sum : (p q r : ℕ) → p + (q + r) ≡ (p + q) + r
      sum p q r = omega arith

  -- what a node declares counts among all
  node-counts : (path : List ℕ) (u : TreeOf N) → part_in m.body path ≡ Some u → passing is_it (declared_by u) ≤ passing is_it (flat_map by_node (nodes m.body))
  node-counts path u e = one-gives is_it by_node (nodes m.body) (path, u) (Contains-part_in m.body path u e)

  -- where the body declares it
  pub record DeclaredByBody : Type 0 where
    pub arguments : list_any is_it m.arguments ≡ false
    pub round : RoundOne is_it m.body.temporaries
    pub nodes_free : (path : List ℕ) (u : TreeOf N) → part_in m.body path ≡ Some u → list_any is_it (declared_by u) ≡ false

  pub declared-by_body : list_any is_it m.body.temporaries ≡ true → DeclaredByBody
  declared-by_body t = record {
    arguments = none-passing is_it m.arguments (first _ _ _ total some);
    round = round-one is_it m.body.temporaries (second _ _ _ total some);
    nodes_free = λ path u e. none-passing is_it (declared_by u) (third _ _ _ _ total some (node-counts path u e));
  }
    where
      some : 1 ≤ passing is_it m.body.temporaries
      some = some-passes is_it m.body.temporaries t

      first : (p q r : ℕ) → p + (q + r) ≡ 1 → 1 ≤ q → p ≡ 0
      first p q r e h = omega (arith, e, h)

      second : (p q r : ℕ) → p + (q + r) ≡ 1 → 1 ≤ q → q ≡ 1
      second p q r e h = omega (arith, e, h)

      third : (p q r n : ℕ) → p + (q + r) ≡ 1 → 1 ≤ q → n ≤ r → n ≡ 0
      third p q r n e h k = omega (arith, e, h, k)

  -- where a block to which a path leads does
  pub record DeclaredByBlock (path : List ℕ) (ps : List N) (b : SequenceOf N) : Type 0 where
    pub arguments : list_any is_it m.arguments ≡ false
    pub temporaries : list_any is_it m.body.temporaries ≡ false
    pub parameters : list_any is_it ps ≡ false
    pub round : RoundOne is_it b.temporaries
    pub nodes_free : (other : List ℕ) (u : TreeOf N) → part_in m.body other ≡ Some u → (path ≡ other → ⊥) → list_any is_it (declared_by u) ≡ false

  pub declared-by_block : (path : List ℕ) (ps : List N) (b : SequenceOf N) → part_in m.body path ≡ Some (block_with ps b) → list_any is_it b.temporaries ≡ true → DeclaredByBlock path ps b
  declared-by_block path ps b at t = record {
    arguments = none-passing is_it m.arguments (first _ _ _ _ _ total some here);
    temporaries = none-passing is_it m.body.temporaries (second _ _ _ _ _ total some here);
    parameters = none-passing is_it ps (third _ _ _ _ _ total some here);
    round = round-one is_it b.temporaries (fourth _ _ _ _ _ total some here);
    nodes_free = λ other u e n. none-passing is_it (declared_by u) (fifth _ _ _ _ _ _ total some (two-give is_it by_node (nodes m.body) (path, block_with ps b) (other, u) (Contains-part_in m.body path (block_with ps b) at) (Contains-part_in m.body other u e) (λ q. n (ap (λ (z : Placed N). z.0) q))) (passing-append is_it ps b.temporaries));
  }
    where
      some : 1 ≤ passing is_it b.temporaries
      some = some-passes is_it b.temporaries t

      here : passing is_it ps + passing is_it b.temporaries ≤ passing is_it (flat_map by_node (nodes m.body))
      here = subst (λ n. n ≤ passing is_it (flat_map by_node (nodes m.body))) (passing-append is_it ps b.temporaries) (node-counts path (block_with ps b) at)

      first : (p q r n k : ℕ) → p + (q + r) ≡ 1 → 1 ≤ k → n + k ≤ r → p ≡ 0
      first p q r n k e h l = omega (arith, e, h, l)

      second : (p q r n k : ℕ) → p + (q + r) ≡ 1 → 1 ≤ k → n + k ≤ r → q ≡ 0
      second p q r n k e h l = omega (arith, e, h, l)

      third : (p q r n k : ℕ) → p + (q + r) ≡ 1 → 1 ≤ k → n + k ≤ r → n ≡ 0
      third p q r n k e h l = omega (arith, e, h, l)

      fourth : (p q r n k : ℕ) → p + (q + r) ≡ 1 → 1 ≤ k → n + k ≤ r → k ≡ 1
      fourth p q r n k e h l = omega (arith, e, h, l)

      fifth : (p q r k w v : ℕ) → p + (q + r) ≡ 1 → 1 ≤ k → w + v ≤ r → w ≡ passing is_it ps + k → v ≡ 0
      fifth p q r k w v e h l d = omega (arith, e, h, l, d)

  -- where the temporary is set
  pub declared-where : TellsApart a.words.tests.same → (e : LetOf N) (name : N) → a.words.tests.same x name ≡ true → LetWhere a m x e name → DeclaredByBody ⊎ ((ps : List N) × (b : SequenceOf N) × DeclaredByBlock e.sequence ps b)
  declared-where tells e name told (in_the_body s n t p) = inl (declared-by_body (subst (λ z. list_any (a.words.tests.same z) m.body.temporaries ≡ true) (sym (tells x name told)) t))
  declared-where tells e name told (in_a_block j js c ps b s n i t p) =
      inr (
        ps,
        b,
        subst (λ z. DeclaredByBlock z ps b) (sym s)
            (declared-by_block (j ∷ js) ps b (ap (option_and_then (λ z. part_at z js)) n ∙ block-there i) (subst (λ z. list_any (a.words.tests.same z) b.temporaries ≡ true) (sym (tells x name told)) t)),
      )
