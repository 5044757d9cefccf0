-- Where a name is not listed, no node is found by it.
use Rattle.std.proofs.Common.{◌≡◌, Bool, true, false, cond, ◌||◌, List, [], ◌∷◌, map, Option, Some, None, refl, sym, ap, ◌∙◌}
use Rattle.std.specs.Prelude.{Contains, IsTrue, filter}
use Rattle.std.specs.Option.{option_map_or}
use Rattle.tree_model.specs.Tree.{TreeOf, SequenceOf}
use Rattle.tree_model.specs.Nodes.{Placed, nodes}
use Rattle.image_model.specs.Nodes.{Place, NodeOf, nodes_of}
use Rattle.image_model.specs.Uses.{is_sender, name_used, is_declarer, is_identifier_use}
use Rattle.mentions.specs.Mentions.{own_names, code_names}
use Rattle.mentions.proofs.Lists.{Contains-first, Contains-later}
use Rattle.mentions.proofs.Listed.{listed-own, own-used, own-sent, own-declared}

-- a test that passes at no item of a mapped list leaves none
filter-none : {X Y : Type 0} (f : X → Y) (p : Y → Bool) (xs : List X) → ((x : X) → Contains xs x → IsTrue (p (f x)) → ⊥) → filter p (map f xs) ≡ []
filter-none f p [] fails = refl
filter-none f p (x ∷ xs) fails = by (p (f x)) refl (filter-none f p xs (λ y there. fails y (Contains-later x y xs there)))
  where
    by : (c : Bool) → p (f x) ≡ c → filter p (map f xs) ≡ [] → cond c (f x ∷ filter p (map f xs)) (filter p (map f xs)) ≡ []
    by true is rest = absurd (fails x (Contains-first x x xs refl) is)
    by false is rest = rest

module _ {N : Type 0} where
  -- no node passes a test that passes only where the name stands in the node
  pub unlisted-nowhere : (test : NodeOf N → Bool) (place : Place) (b : SequenceOf N) (n : N) → ((e : NodeOf N) → IsTrue (test e) → Contains (own_names e.tree) n)
      → (Contains (code_names b) n → ⊥) → filter test (nodes_of place b) ≡ []
  unlisted-nowhere test place b n only absent =
      filter-none (λ (e : Placed N). record { use_of = record { place = place; path = e.0 }; tree = e.1 }) test (nodes b)
      (λ e there passes. absent (listed-own b e.0 e.1 n there (only (record { use_of = record { place = place; path = e.0 }; tree = e.1 }) passes)))

module _ {N : Type 0} (same : N → N → Bool) (equal : (j k : N) → IsTrue (same j k) → j ≡ k) where
  -- what a node names or declares stands in it
  own-identifier : (t : TreeOf N) (n : N) → IsTrue (is_identifier_use same n t) → Contains (own_names t) n
  own-identifier t n e = by (option_map_or (same n) (name_used t) false) refl e
    where
      named : (o : Option N) → name_used t ≡ o → IsTrue (option_map_or (same n) o false) → Contains (own_names t) n
      named None is passes = cc
      named (Some m) is passes = own-used t n (is ∙ ap Some (sym (equal n m passes)))

      by : (c : Bool) → option_map_or (same n) (name_used t) false ≡ c → IsTrue (c || is_declarer same n t) → Contains (own_names t) n
      by true is rest = named (name_used t) refl is
      by false is rest = own-declared same equal t n rest

  -- no node sends it
  pub unlisted-senders : (place : Place) (b : SequenceOf N) (s : N) → (Contains (code_names b) s → ⊥) → filter (λ (e : NodeOf N). is_sender same s e.tree) (nodes_of place b) ≡ []
  unlisted-senders place b s absent =
      unlisted-nowhere (λ (e : NodeOf N). is_sender same s e.tree) place b s (λ e passes. own-sent same equal e.tree s passes) absent

  -- no node names or declares it
  pub unlisted-identifiers : (place : Place) (b : SequenceOf N) (n : N) → (Contains (code_names b) n → ⊥)
      → filter (λ (e : NodeOf N). is_identifier_use same n e.tree) (nodes_of place b) ≡ []
  unlisted-identifiers place b n absent =
      unlisted-nowhere (λ (e : NodeOf N). is_identifier_use same n e.tree) place b n (λ e passes. own-identifier e.tree n passes) absent
