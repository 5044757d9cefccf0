-- What look-ups find in rows is what is found in code.
use Rattle.std.proofs.Common.{◌≡◌, ℕ, List, [], ◌∷◌, ◌++◌, map, filter, flat_map, cond, Bool, true, false, if◌then◌else◌, ◌||◌, ◌&&◌, nat_eq, refl, sym, ap, ◌∙◌, eqb-true}
use Rattle.std.specs.List.{list_any}
use Rattle.std.proofs.lemmas.List.{map-append, append-nil}
use Rattle.std.proofs.lemmas.List.Concat.{flat_map-cons}
use Rattle.std.proofs.lemmas.List.Elements.{filter-append}
use Rattle.std.proofs.lemmas.List.Folds.{list_any-append}
use Rattle.tree_model.specs.Tree.{TreeOf, var, literal, send, cascade, assign, block, brace, return, MessagesOf, no_messages, more_messages, SequenceOf, MethodOf}
use Rattle.tree_model.specs.Nodes.{Placed, nodes}
use Rattle.image_model.specs.Nodes.{Place, NodeOf, nodes_of}
use Rattle.image_model.specs.Uses.{has_message, is_sender, is_identifier_use, identifier_uses_in, places}
use Rattle.mentions.specs.Mentions.{selectors_of}
use Rattle.use_index.specs.declared.uses.Sought.{Sought}
use Rattle.use_index.specs.declared.uses.Sought.TheVariants as sought
use Rattle.use_index.specs.declared.uses.UseAt.{UseAt}
use Rattle.use_index.specs.declared.uses.Way.{Way}
use Rattle.use_index.specs.declared.uses.Way.TheVariants as way
use Rattle.use_index.specs.Paths.{at_place, paths as paths_of}
use Rattle.use_index.specs.Uses.{use_at, once_after, uses_of, node_uses, code_uses, is_bound, is_bound_in_doit, method_uses, doit_uses, answers, is_use}

no-more : (b : Bool) {X : Type 0} (x : X) → (if b && false then x ∷ [] else []) ≡ []
no-more true x = refl
no-more false x = refl

all-of : (b : Bool) {X : Type 0} (x : X) → (if b && true then x ∷ [] else []) ≡ (if b then x ∷ [] else [])
all-of true x = refl
all-of false x = refl

or-false : (b : Bool) → (b || false) ≡ b
or-false true = refl
or-false false = refl

module _ (n : ℕ) where
  -- the paths of the uses that are looked for
  abbrev paths : Sought → List UseAt → List (List ℕ)
  paths what us = paths_of n what us

  paths-append : (what : Sought) (us vs : List UseAt) → paths what (us ++ vs) ≡ paths what us ++ paths what vs
  paths-append what us vs = ap (map (λ (u : UseAt). u.path)) (filter-append (is_use n what) us vs) ∙ map-append (λ (u : UseAt). u.path) (filter (is_use n what) us) (filter (is_use n what) vs)

  -- one use
  paths-lone : (what : Sought) (w : Way) (path : List ℕ) (m : ℕ) (b : Bool) → answers what w ≡ b → paths what (use_at w path m ∷ []) ≡ (if nat_eq n m && b then path ∷ [] else [])
  paths-lone what w path m b is = rw is (by (nat_eq n m && b))
    where
      by : (c : Bool) → map (λ (u : UseAt). u.path) (cond c (use_at w path m ∷ []) []) ≡ (if c then path ∷ [] else [])
      by true = refl
      by false = refl

  -- uses that are not looked for
  paths-none : (what : Sought) (w : Way) (path : List ℕ) → answers what w ≡ false → (ns : List ℕ) → paths what (map (use_at w path) ns) ≡ []
  paths-none what w path is [] = refl
  paths-none what w path is (m ∷ ms) =
      paths-append what (use_at w path m ∷ []) (map (use_at w path) ms)
      ∙ ap (λ zs. zs ++ paths what (map (use_at w path) ms)) (paths-lone what w path m false is ∙ no-more (nat_eq n m) path)
      ∙ paths-none what w path is ms

  -- uses of names where they stand first
  paths-once : (what : Sought) (w : Way) (path : List ℕ) → answers what w ≡ true → (seen ns : List ℕ)
      → paths what (map (use_at w path) (once_after seen ns)) ≡ (if list_any (nat_eq n) seen then [] else if list_any (nat_eq n) ns then path ∷ [] else [])
  paths-once what w path is seen [] = by (list_any (nat_eq n) seen)
    where
      by : (b : Bool) → paths what [] ≡ (if b then [] else [])
      by true = refl
      by false = refl
  paths-once what w path is seen (m ∷ ms) = by (list_any (nat_eq m) seen) refl (nat_eq n m) refl (paths-once what w path is seen ms) (paths-once what w path is (m ∷ seen) ms)
    where
      as-seen : (e : Bool) → list_any (nat_eq m) seen ≡ e → nat_eq n m ≡ true → list_any (nat_eq n) seen ≡ e
      as-seen e there same = ap (λ k. list_any (nat_eq k) seen) (eqb-true n m same) ∙ there

      first : (e : Bool) → nat_eq n m ≡ e
          → paths what (map (use_at w path) (m ∷ once_after (m ∷ seen) ms)) ≡ (if e then path ∷ [] else []) ++ paths what (map (use_at w path) (once_after (m ∷ seen) ms))
      first e same =
          paths-append what (use_at w path m ∷ []) (map (use_at w path) (once_after (m ∷ seen) ms))
          ∙ ap (λ zs. zs ++ paths what (map (use_at w path) (once_after (m ∷ seen) ms)))
          (paths-lone what w path m true is ∙ all-of (nat_eq n m) path ∙ ap (λ b. if b then path ∷ [] else []) same)

      by : (b : Bool) → list_any (nat_eq m) seen ≡ b → (e : Bool) → nat_eq n m ≡ e
          → paths what (map (use_at w path) (once_after seen ms)) ≡ (if list_any (nat_eq n) seen then [] else if list_any (nat_eq n) ms then path ∷ [] else [])
          → paths what (map (use_at w path) (once_after (m ∷ seen) ms)) ≡ (if nat_eq n m || list_any (nat_eq n) seen then [] else if list_any (nat_eq n) ms then path ∷ [] else [])
          → paths what (map (use_at w path) (if b then once_after seen ms else m ∷ once_after (m ∷ seen) ms))
          ≡ (if list_any (nat_eq n) seen then [] else if e || list_any (nat_eq n) ms then path ∷ [] else [])
      by true there true same before after =
          let t = as-seen true there same in
          before ∙ ap (λ b. if b then [] else if list_any (nat_eq n) ms then path ∷ [] else []) t ∙ sym (ap (λ b. if b then [] else path ∷ []) t)
      by true there false other before after = before
      by false there true same before after =
          let f = as-seen false there same in
          first true same
          ∙ ap (λ zs. path ∷ zs) (after ∙ ap (λ b. if b || list_any (nat_eq n) seen then [] else if list_any (nat_eq n) ms then path ∷ [] else []) same)
          ∙ sym (ap (λ b. if b then [] else path ∷ []) f)
      by false there false other before after =
          first false other ∙ after ∙ ap (λ b. if b || list_any (nat_eq n) seen then [] else if list_any (nat_eq n) ms then path ∷ [] else []) other

  -- and of all of them
  paths-uses : (what : Sought) (w : Way) (path : List ℕ) → answers what w ≡ true → (ns : List ℕ) → paths what (uses_of w path ns) ≡ (if list_any (nat_eq n) ns then path ∷ [] else [])
  paths-uses what w path is ns = paths-once what w path is [] ns

  among-selectors : (ms : MessagesOf ℕ) → list_any (nat_eq n) (selectors_of ms) ≡ has_message nat_eq n ms
  among-selectors no_messages = refl
  among-selectors (more_messages s args ms) = ap (λ b. nat_eq n s || b) (among-selectors ms)

  module _ (bound : List ℕ → ℕ → Bool) where
    sent-no_name : (b : Bool) → answers sought.Sent (if b then way.Bound else way.Free) ≡ false
    sent-no_name true = refl
    sent-no_name false = refl

    named-name : (b : Bool) → answers sought.Named (if b then way.Bound else way.Free) ≡ true
    named-name true = refl
    named-name false = refl

    -- a node has a use that sends the name where it sends it
    node-sent : (path : List ℕ) (t : TreeOf ℕ) → paths sought.Sent (node_uses bound path t) ≡ (if is_sender nat_eq n t then path ∷ [] else [])
    node-sent path (var m) = paths-lone sought.Sent (if bound path m then way.Bound else way.Free) path m false (sent-no_name (bound path m)) ∙ no-more (nat_eq n m) path
    node-sent path (literal l) = refl
    node-sent path (send r s args) = paths-lone sought.Sent way.Sent path s true refl ∙ all-of (nat_eq n s) path
    node-sent path (cascade r ms) = paths-uses sought.Sent way.Sent path refl (selectors_of ms) ∙ ap (λ b. if b then path ∷ [] else []) (among-selectors ms)
    node-sent path (assign m t) = paths-lone sought.Sent (if bound path m then way.Bound else way.Free) path m false (sent-no_name (bound path m)) ∙ no-more (nat_eq n m) path
    node-sent path (block ps ts ss e) = paths-none sought.Sent way.Declared path refl (once_after [] (ps ++ ts))
    node-sent path (brace ts) = refl
    node-sent path (return t) = refl

    -- and one that names the name where it names or declares it
    node-named : (path : List ℕ) (t : TreeOf ℕ) → paths sought.Named (node_uses bound path t) ≡ (if is_identifier_use nat_eq n t then path ∷ [] else [])
    node-named path (var m) =
        paths-lone sought.Named (if bound path m then way.Bound else way.Free) path m true (named-name (bound path m)) ∙ all-of (nat_eq n m) path ∙ ap (λ b. if b then path ∷ [] else []) (sym (or-false (nat_eq n m)))
    node-named path (literal l) = refl
    node-named path (send r s args) = paths-lone sought.Named way.Sent path s false refl ∙ no-more (nat_eq n s) path
    node-named path (cascade r ms) = paths-none sought.Named way.Sent path refl (once_after [] (selectors_of ms))
    node-named path (assign m t) =
        paths-lone sought.Named (if bound path m then way.Bound else way.Free) path m true (named-name (bound path m)) ∙ all-of (nat_eq n m) path ∙ ap (λ b. if b then path ∷ [] else []) (sym (or-false (nat_eq n m)))
    node-named path (block ps ts ss e) = paths-uses sought.Named way.Declared path refl (ps ++ ts) ∙ ap (λ b. if b then path ∷ [] else []) (list_any-append (nat_eq n) ps ts)
    node-named path (brace ts) = refl
    node-named path (return t) = refl

    -- so it is with all nodes in order
    code-paths : (what : Sought) (test : TreeOf ℕ → Bool) → ((path : List ℕ) (t : TreeOf ℕ) → paths what (node_uses bound path t) ≡ (if test t then path ∷ [] else [])) → (place : Place) (es : List (Placed ℕ))
        → map (at_place place) (paths what (flat_map (λ (e : Placed ℕ). node_uses bound e.0 e.1) es))
        ≡ places (filter (λ (e : NodeOf ℕ). test e.tree) (map (λ (e : Placed ℕ). record { use_of = record { place = place; path = e.0 }; tree = e.1 }) es))
    code-paths what test each place [] = refl
    code-paths what test each place (e ∷ es) =
        ap (λ us. map (at_place place) (paths what us)) (flat_map-cons (λ (e : Placed ℕ). node_uses bound e.0 e.1) e es)
        ∙ ap (map (at_place place)) (paths-append what (node_uses bound e.0 e.1) (flat_map (λ (e : Placed ℕ). node_uses bound e.0 e.1) es))
        ∙ map-append (at_place place) (paths what (node_uses bound e.0 e.1)) (paths what (flat_map (λ (e : Placed ℕ). node_uses bound e.0 e.1) es))
        ∙ ap (λ zs. map (at_place place) zs ++ map (at_place place) (paths what (flat_map (λ (e : Placed ℕ). node_uses bound e.0 e.1) es))) (each e.0 e.1)
        ∙ ap (λ zs. map (at_place place) (if test e.1 then e.0 ∷ [] else []) ++ zs) (code-paths what test each place es)
        ∙ by (test e.1)
      where
        by : (b : Bool)
            → map (at_place place) (if b then e.0 ∷ [] else []) ++ places (filter (λ (e : NodeOf ℕ). test e.tree) (map (λ (e : Placed ℕ). record { use_of = record { place = place; path = e.0 }; tree = e.1 }) es))
            ≡ places (cond b (record { use_of = record { place = place; path = e.0 }; tree = e.1 } ∷ filter (λ (e : NodeOf ℕ). test e.tree) (map (λ (e : Placed ℕ). record { use_of = record { place = place; path = e.0 }; tree = e.1 }) es)) (filter (λ (e : NodeOf ℕ). test e.tree) (map (λ (e : Placed ℕ). record { use_of = record { place = place; path = e.0 }; tree = e.1 }) es)))
        by true = refl
        by false = refl

    pub code-sent : (place : Place) (b : SequenceOf ℕ) → map (at_place place) (paths sought.Sent (code_uses bound b)) ≡ places (filter (λ (e : NodeOf ℕ). is_sender nat_eq n e.tree) (nodes_of place b))
    code-sent place b = code-paths sought.Sent (is_sender nat_eq n) node-sent place (nodes b)

    pub code-named : (place : Place) (b : SequenceOf ℕ) → map (at_place place) (paths sought.Named (code_uses bound b)) ≡ places (filter (λ (e : NodeOf ℕ). is_identifier_use nat_eq n e.tree) (nodes_of place b))
    code-named place b = code-paths sought.Named (is_identifier_use nat_eq n) node-named place (nodes b)

  -- the uses that a method or a do-it declares itself, and then those in its code
  head-none : (what : Sought) (bound : List ℕ → ℕ → Bool) (ns : List ℕ) (b : SequenceOf ℕ) → answers what way.Declared ≡ false
      → paths what (uses_of way.Declared [] ns ++ code_uses bound b) ≡ paths what (code_uses bound b)
  head-none what bound ns b is =
      paths-append what (uses_of way.Declared [] ns) (code_uses bound b) ∙ ap (λ zs. zs ++ paths what (code_uses bound b)) (paths-none what way.Declared [] is (once_after [] ns))

  selector-none : (what : Sought) (s : ℕ) (us : List UseAt) → answers what way.Implemented ≡ false → paths what ((use_at way.Implemented [] s ∷ []) ++ us) ≡ paths what us
  selector-none what s us is =
      paths-append what (use_at way.Implemented [] s ∷ []) us ∙ ap (λ zs. zs ++ paths what us) (paths-lone what way.Implemented [] s false is ∙ no-more (nat_eq n s) [])

  head-named : (bound : List ℕ → ℕ → Bool) (place : Place) (ns : List ℕ) (b : SequenceOf ℕ)
      → map (at_place place) (paths sought.Named (uses_of way.Declared [] ns ++ code_uses bound b)) ≡ identifier_uses_in nat_eq n place ns b
  head-named bound place ns b =
      ap (map (at_place place)) (paths-append sought.Named (uses_of way.Declared [] ns) (code_uses bound b))
      ∙ map-append (at_place place) (paths sought.Named (uses_of way.Declared [] ns)) (paths sought.Named (code_uses bound b))
      ∙ ap (λ zs. map (at_place place) zs ++ map (at_place place) (paths sought.Named (code_uses bound b))) (paths-uses sought.Named way.Declared [] refl ns)
      ∙ ap (λ zs. map (at_place place) (if list_any (nat_eq n) ns then [] ∷ [] else []) ++ zs) (code-named bound place b)
      ∙ ap (λ zs. zs ++ places (filter (λ (e : NodeOf ℕ). is_identifier_use nat_eq n e.tree) (nodes_of place b))) (by (list_any (nat_eq n) ns))
    where
      by : (b : Bool) → map (at_place place) (if b then [] ∷ [] else []) ≡ (if b then record { place = place; path = [] } ∷ [] else [])
      by true = refl
      by false = refl

  -- the rows of methods and do-its
  pub method-sent : (names : List (List ℕ)) (place : Place) (m : MethodOf ℕ) → map (at_place place) (paths sought.Sent (method_uses names m)) ≡ places (filter (λ (e : NodeOf ℕ). is_sender nat_eq n e.tree) (nodes_of place m.body))
  method-sent names place m =
      ap (map (at_place place)) (selector-none sought.Sent m.selector (uses_of way.Declared [] (m.arguments ++ m.body.temporaries) ++ code_uses (is_bound names m) m.body) refl
      ∙ head-none sought.Sent (is_bound names m) (m.arguments ++ m.body.temporaries) m.body refl)
      ∙ code-sent (is_bound names m) place m.body

  pub doit-sent : (names : List (List ℕ)) (place : Place) (b : SequenceOf ℕ) → map (at_place place) (paths sought.Sent (doit_uses names b)) ≡ places (filter (λ (e : NodeOf ℕ). is_sender nat_eq n e.tree) (nodes_of place b))
  doit-sent names place b = ap (map (at_place place)) (head-none sought.Sent (is_bound_in_doit names b) b.temporaries b refl) ∙ code-sent (is_bound_in_doit names b) place b

  pub method-named : (names : List (List ℕ)) (place : Place) (m : MethodOf ℕ) → map (at_place place) (paths sought.Named (method_uses names m)) ≡ identifier_uses_in nat_eq n place (m.arguments ++ m.body.temporaries) m.body
  method-named names place m =
      ap (map (at_place place)) (selector-none sought.Named m.selector (uses_of way.Declared [] (m.arguments ++ m.body.temporaries) ++ code_uses (is_bound names m) m.body) refl)
      ∙ head-named (is_bound names m) place (m.arguments ++ m.body.temporaries) m.body

  pub doit-named : (names : List (List ℕ)) (place : Place) (b : SequenceOf ℕ) → map (at_place place) (paths sought.Named (doit_uses names b)) ≡ identifier_uses_in nat_eq n place b.temporaries b
  doit-named names place b = head-named (is_bound_in_doit names b) place b.temporaries b

  node-not_implemented : (bound : List ℕ → ℕ → Bool) (path : List ℕ) (t : TreeOf ℕ) → paths sought.Implemented (node_uses bound path t) ≡ []
  node-not_implemented bound path (var m) = off (bound path m) m
    where
      off : (b : Bool) (m : ℕ) → paths sought.Implemented (use_at (if b then way.Bound else way.Free) path m ∷ []) ≡ []
      off true m = paths-lone sought.Implemented way.Bound path m false refl ∙ no-more (nat_eq n m) path
      off false m = paths-lone sought.Implemented way.Free path m false refl ∙ no-more (nat_eq n m) path
  node-not_implemented bound path (literal l) = refl
  node-not_implemented bound path (send r s args) = paths-lone sought.Implemented way.Sent path s false refl ∙ no-more (nat_eq n s) path
  node-not_implemented bound path (cascade r ms) = paths-none sought.Implemented way.Sent path refl (once_after [] (selectors_of ms))
  node-not_implemented bound path (assign m t) = off (bound path m) m
    where
      off : (b : Bool) (m : ℕ) → paths sought.Implemented (use_at (if b then way.Bound else way.Free) path m ∷ []) ≡ []
      off true m = paths-lone sought.Implemented way.Bound path m false refl ∙ no-more (nat_eq n m) path
      off false m = paths-lone sought.Implemented way.Free path m false refl ∙ no-more (nat_eq n m) path
  node-not_implemented bound path (block ps ts ss e) = paths-none sought.Implemented way.Declared path refl (once_after [] (ps ++ ts))
  node-not_implemented bound path (brace ts) = refl
  node-not_implemented bound path (return t) = refl

  code-not_implemented : (bound : List ℕ → ℕ → Bool) (es : List (Placed ℕ)) → paths sought.Implemented (flat_map (λ (e : Placed ℕ). node_uses bound e.0 e.1) es) ≡ []
  code-not_implemented bound [] = refl
  code-not_implemented bound (e ∷ es) =
      ap (paths sought.Implemented) (flat_map-cons (λ (e : Placed ℕ). node_uses bound e.0 e.1) e es)
      ∙ paths-append sought.Implemented (node_uses bound e.0 e.1) (flat_map (λ (e : Placed ℕ). node_uses bound e.0 e.1) es)
      ∙ ap (λ zs. zs ++ paths sought.Implemented (flat_map (λ (e : Placed ℕ). node_uses bound e.0 e.1) es)) (node-not_implemented bound e.0 e.1)
      ∙ code-not_implemented bound es

  -- the path of the whole, or none
  abbrev whole : Bool → List (List ℕ)
  whole b = if b then [] ∷ [] else []

  -- a method implements its selector
  pub method-implemented : (names : List (List ℕ)) (m : MethodOf ℕ) → paths sought.Implemented (method_uses names m) ≡ (if nat_eq n m.selector then [] ∷ [] else [])
  method-implemented names m =
      paths-append sought.Implemented (use_at way.Implemented [] m.selector ∷ []) (uses_of way.Declared [] (m.arguments ++ m.body.temporaries) ++ code_uses (is_bound names m) m.body)
      ∙ ap (λ zs. zs ++ paths sought.Implemented (uses_of way.Declared [] (m.arguments ++ m.body.temporaries) ++ code_uses (is_bound names m) m.body)) (paths-lone sought.Implemented way.Implemented [] m.selector true refl ∙ all-of (nat_eq n m.selector) [])
      ∙ ap (λ zs. whole (nat_eq n m.selector) ++ zs)
      (head-none sought.Implemented (is_bound names m) (m.arguments ++ m.body.temporaries) m.body refl ∙ code-not_implemented (is_bound names m) (nodes m.body))
      ∙ append-nil (whole (nat_eq n m.selector))
