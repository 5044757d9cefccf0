-- What a node reads, assigns, sends or declares is listed.
use Rattle.std.proofs.Common.{◌≡◌, ℕ, Bool, true, false, ◌||◌, List, [], ◌∷◌, ◌++◌, Some, refl, sym}
use Rattle.std.specs.Prelude.{Contains, IsTrue}
use Rattle.std.specs.List.{flat_map, list_any}
use Rattle.std.proofs.lemmas.List.Elements.{Contains-append_left, Contains-append_right}
use Rattle.tree_model.specs.Tree.{TreeOf, var, literal, send, cascade, assign, block, brace, return, MessagesOf, no_messages, more_messages, SequenceOf, MethodOf}
use Rattle.tree_model.specs.Nodes.{Placed, nodes}
use Rattle.image_model.specs.Uses.{has_message, is_sender, name_used, is_declarer}
use Rattle.mentions.specs.Mentions.{selectors_of, own_names, trees_of_nodes, code_names, method_names}
use Rattle.mentions.proofs.Lists.{Contains-first, Contains-later, Contains-mapped, Contains-piece}

module _ {N : Type 0} where
  -- what stands in a node itself is listed
  pub listed-own : (b : SequenceOf N) (path : List ℕ) (t : TreeOf N) (n : N) → Contains (nodes b) (path, t) → Contains (own_names t) n → Contains (code_names b) n
  listed-own b path t n h own =
      Contains-append_right b.temporaries (flat_map own_names (trees_of_nodes (nodes b))) n
      (Contains-piece own_names (trees_of_nodes (nodes b)) t n (Contains-mapped (λ (e : Placed N). e.1) (nodes b) (path, t) h) own)

  -- what is listed for the body of a method is listed for the method
  pub listed-in_method : (m : MethodOf N) (n : N) → Contains (code_names m.body) n → Contains (method_names m) n
  listed-in_method m n h = Contains-later m.selector n (m.arguments ++ code_names m.body) (Contains-append_right m.arguments (code_names m.body) n h)

  -- what a node reads or assigns stands in it
  pub own-used : (t : TreeOf N) (n : N) → name_used t ≡ Some n → Contains (own_names t) n
  own-used (var m) n e = let same : m ≡ n = cc in Contains-first m n [] same
  own-used (literal l) n e = cc
  own-used (send r s args) n e = cc
  own-used (cascade r ms) n e = cc
  own-used (assign m t) n e = let same : m ≡ n = cc in Contains-first m n [] same
  own-used (block ps ts ss c) n e = cc
  own-used (brace ts) n e = cc
  own-used (return t) n e = cc

module _ {N : Type 0} (same : N → N → Bool) (equal : (j k : N) → IsTrue (same j k) → j ≡ k) where
  -- a name that passes for one of a list is among them
  Contains-any : (n : N) (ns : List N) → IsTrue (list_any (same n) ns) → Contains ns n
  Contains-any n [] e = cc
  Contains-any n (m ∷ ms) e = by (same n m) refl e (Contains-any n ms)
    where
      by : (c : Bool) → same n m ≡ c → IsTrue (c || list_any (same n) ms) → (IsTrue (list_any (same n) ms) → Contains ms n) → Contains (m ∷ ms) n
      by true is first later = Contains-first m n ms (sym (equal n m is))
      by false is rest later = Contains-later m n ms (later rest)

  -- the same of the selectors of messages
  Contains-has_message : (s : N) (ms : MessagesOf N) → IsTrue (has_message same s ms) → Contains (selectors_of ms) s
  Contains-has_message s no_messages e = cc
  Contains-has_message s (more_messages t args ms) e = by (same s t) refl e (Contains-has_message s ms)
    where
      by : (c : Bool) → same s t ≡ c → IsTrue (c || has_message same s ms) → (IsTrue (has_message same s ms) → Contains (selectors_of ms) s) → Contains (t ∷ selectors_of ms) s
      by true is first later = Contains-first t s (selectors_of ms) (sym (equal s t is))
      by false is rest later = Contains-later t s (selectors_of ms) (later rest)

  -- what a node sends stands in it
  pub own-sent : (t : TreeOf N) (s : N) → IsTrue (is_sender same s t) → Contains (own_names t) s
  own-sent (var n) s e = cc
  own-sent (literal l) s e = cc
  own-sent (send r t args) s e = Contains-first t s [] (sym (equal s t e))
  own-sent (cascade r ms) s e = Contains-has_message s ms e
  own-sent (assign n t) s e = cc
  own-sent (block ps ts ss c) s e = cc
  own-sent (brace ts) s e = cc
  own-sent (return t) s e = cc

  -- what a node declares stands in it
  pub own-declared : (t : TreeOf N) (n : N) → IsTrue (is_declarer same n t) → Contains (own_names t) n
  own-declared (var m) n e = cc
  own-declared (literal l) n e = cc
  own-declared (send r s args) n e = cc
  own-declared (cascade r ms) n e = cc
  own-declared (assign m t) n e = cc
  own-declared (block ps ts ss c) n e = by (list_any (same n) ps) refl e
    where
      by : (d : Bool) → list_any (same n) ps ≡ d → IsTrue (d || list_any (same n) ts) → Contains (ps ++ ts) n
      by true is rest = Contains-append_left ps ts n (Contains-any n ps is)
      by false is rest = Contains-append_right ps ts n (Contains-any n ts rest)
  own-declared (brace ts) n e = cc
  own-declared (return t) n e = cc
