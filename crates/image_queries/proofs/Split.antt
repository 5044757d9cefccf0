-- The users' nodes that are asked for, method by method and do-it by do-it.
use Rattle.std.proofs.Common.{◌≡◌, ℕ, ◌+◌, Bool, true, false, cond, not, ◌&&◌, if◌then◌else◌, List, [], ◌∷◌, ◌++◌, map, drop, Option, refl, sym, ap, ◌∙◌}
use Rattle.std.specs.Prelude.{filter, flat_map}
use Rattle.std.specs.List.{enumerate_from}
use Rattle.std.specs.Option.{option_map_or}
use Rattle.std.proofs.lemmas.List.{map-append}
use Rattle.std.proofs.lemmas.List.Elements.{filter-append}
use Rattle.tree_model.specs.Tree.{SequenceOf}
use Rattle.tree_model.specs.Nodes.{Placed, nodes}
use Rattle.image_model.specs.Image.{EntryOf, DoItOf, ImageOf}
use Rattle.image_model.specs.Words.{WordsOf}
use Rattle.image_model.specs.Nodes.{Place, in_method, in_doit, Use, NodeOf, nodes_of, image_nodes}
use Rattle.image_model.specs.Uses.{is_sender, is_variable, is_that_class, uses, places}
use Rattle.query_model.specs.Queries.{QueryOf, of_senders, of_implementors, of_class, of_variable, nodes_asked, is_users, users_nodes}
use Rattle.image_queries.proofs.Lists.{filter-none, at-drop}

-- whether a node is asked for
abbrev pub node_asked : {N : Type 0} → WordsOf N → ImageOf N → QueryOf N → NodeOf N → Bool
node_asked w i (of_senders s) e = is_sender w.tests.same s e.tree
node_asked w i (of_implementors s) e = false
node_asked w i (of_class c) e = uses w i (λ m meaning. is_that_class w.tests.same c meaning) e
node_asked w i (of_variable kind c n) e = uses w i (λ m meaning. w.tests.same n m && is_variable w.tests.same kind c meaning) e

-- the nodes of a sequence that are asked for
abbrev pub uses_in : {N : Type 0} → WordsOf N → ImageOf N → QueryOf N → Place → SequenceOf N → List Use
uses_in w i q place b = places (filter (node_asked w i q) (nodes_of place b))

-- those of methods whose numbers go up from k, without the kernel's
abbrev pub method_uses : {N : Type 0} → WordsOf N → ImageOf N → QueryOf N → ℕ → List (EntryOf N) → List Use
method_uses w i q k [] = []
method_uses w i q k (m ∷ ms) = (if not m.kernel then uses_in w i q (in_method k) m.tree.body else []) ++ method_uses w i q (k + 1) ms

-- those of do-its whose numbers go up from k
abbrev pub doit_uses : {N : Type 0} → WordsOf N → ImageOf N → QueryOf N → ℕ → List (DoItOf N) → List Use
doit_uses w i q k [] = []
doit_uses w i q k (d ∷ ds) = uses_in w i q (in_doit k) d.body ++ doit_uses w i q (k + 1) ds

module _ {N : Type 0} (w : WordsOf N) (i : ImageOf N) where
  -- the nodes that are asked for are those of all nodes that pass the test
  nodes_asked-all : (q : QueryOf N) → nodes_asked w i q ≡ places (filter (node_asked w i q) (image_nodes i))
  nodes_asked-all (of_senders s) = refl
  nodes_asked-all (of_implementors s) = sym (ap (places {N = N}) (filter-none (image_nodes i)))
  nodes_asked-all (of_class c) = refl
  nodes_asked-all (of_variable kind c n) = refl

  -- the uses of users
  abbrev users : List Use → List Use
  users us = filter (λ (u : Use). is_users i u.place) us

  module _ (test : NodeOf N → Bool) where
    -- the users' nodes that pass the test
    abbrev passing : List (NodeOf N) → List Use
    passing es = users (places (filter test es))

    -- of two lists
    passing-append : (es fs : List (NodeOf N)) → passing (es ++ fs) ≡ passing es ++ passing fs
    passing-append es fs =
        ap (λ (ns : List (NodeOf N)). users (places ns)) (filter-append test es fs)
        ∙ ap users (map-append (λ (e : NodeOf N). e.use_of) (filter test es) (filter test fs))
        ∙ filter-append (λ (u : Use). is_users i u.place) (places (filter test es)) (places (filter test fs))

    -- one more node of a place
    passing-cond : (e : NodeOf N) (es : List (NodeOf N)) (mine : Bool) → is_users i e.use_of.place ≡ mine → (b : Bool) → users (places es) ≡ (if mine then places es else [])
        → users (places (cond b (e ∷ es) es)) ≡ (if mine then places (cond b (e ∷ es) es) else [])
    passing-cond e es true is true h = ap (λ b. cond b (e.use_of ∷ users (places es)) (users (places es))) is ∙ ap (λ (us : List Use). e.use_of ∷ us) h
    passing-cond e es true is false h = h
    passing-cond e es false is true h = ap (λ b. cond b (e.use_of ∷ users (places es)) (users (places es))) is ∙ h
    passing-cond e es false is false h = h

    -- no node of a place
    passing-nothing : (mine : Bool) → users [] ≡ (if mine then [] else [])
    passing-nothing true = refl
    passing-nothing false = refl

    -- nodes of one place are all users' or none is
    passing-place : (place : Place) (mine : Bool) → is_users i place ≡ mine → (ns : List (Placed N))
        → passing (map (λ e. record { use_of = record { place = place; path = e.0 }; tree = e.1 }) ns)
        ≡ (if mine then places (filter test (map (λ e. record { use_of = record { place = place; path = e.0 }; tree = e.1 }) ns)) else [])
    passing-place place mine is [] = passing-nothing mine
    passing-place place mine is (n ∷ ns) =
        let node : NodeOf N = record { use_of = record { place = place; path = n.0 }; tree = n.1 } in
        passing-cond node (filter test (map (λ e. record { use_of = record { place = place; path = e.0 }; tree = e.1 }) ns)) mine is (test node) (passing-place place mine is ns)

  module _ (q : QueryOf N) where
    -- the nodes of methods
    split_methods : (k : ℕ) (ms : List (EntryOf N)) → drop k i.methods ≡ ms
        → passing (node_asked w i q) (flat_map (λ e. nodes_of (in_method e.0) e.1.tree.body) (enumerate_from k ms)) ≡ method_uses w i q k ms
    split_methods k [] e = refl
    split_methods k (m ∷ ms) e =
        let next = at-drop k i.methods ms m e in
        passing-append (node_asked w i q) (nodes_of (in_method k) m.tree.body) (flat_map (λ e. nodes_of (in_method e.0) e.1.tree.body) (enumerate_from (k + 1) ms))
        ∙ (λ j. passing-place (node_asked w i q) (in_method k) (not m.kernel) (ap (λ (o : Option (EntryOf N)). option_map_or (λ (x : EntryOf N). not x.kernel) o false) next.0) (nodes m.tree.body) j
        ++ split_methods (k + 1) ms next.1 j)

    -- the nodes of do-its
    split_doits : (k : ℕ) (ds : List (DoItOf N)) → passing (node_asked w i q) (flat_map (λ e. nodes_of (in_doit e.0) e.1.body) (enumerate_from k ds)) ≡ doit_uses w i q k ds
    split_doits k [] = refl
    split_doits k (d ∷ ds) =
        passing-append (node_asked w i q) (nodes_of (in_doit k) d.body) (flat_map (λ e. nodes_of (in_doit e.0) e.1.body) (enumerate_from (k + 1) ds))
        ∙ (λ j. passing-place (node_asked w i q) (in_doit k) true refl (nodes d.body) j ++ split_doits (k + 1) ds j)

    -- the users' nodes that are asked for
    pub users_nodes-split : users_nodes w i q ≡ method_uses w i q 0 i.methods ++ doit_uses w i q 0 i.doits
    users_nodes-split =
        ap users (nodes_asked-all q)
        ∙ passing-append (node_asked w i q) (flat_map (λ e. nodes_of (in_method e.0) e.1.tree.body) (enumerate_from 0 i.methods)) (flat_map (λ e. nodes_of (in_doit e.0) e.1.body) (enumerate_from 0 i.doits))
        ∙ (λ j. split_methods 0 i.methods refl j ++ split_doits 0 i.doits j)
