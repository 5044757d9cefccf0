-- What an event makes of the parts goes along with a change of names.
use Rattle.std.proofs.Common.{◌≡◌, ℕ, List, [], ◌∷◌, ◌++◌, map, refl, sym, ap, ◌∙◌}
use Rattle.std.proofs.lemmas.List.{map-append}
use Rattle.tree_model.specs.Tree.{Notes, LiteralOf, array, bytes, more_literals, literals_of, TreeOf, literal, send, cascade, assign, block, brace, return, more_trees, trees_of, more_messages, more_statements, map_literal, map_literals, map_names, map_trees, map_messages, map_statements}
use Rattle.event_trees.specs.Stacks.{MessageOf, NotedOf, ScopeOf, StacksOf, front, last, messages_in, statements_in, with_node, with_literal, with_array, with_operand, with_send, with_message, with_cascade, with_target, assigned, with_value, with_scope, with_block, with_brace, with_return, with_statement}
use Rattle.event_trees.specs.Held.{map_stacks}
use Rattle.event_trees.proofs.Lists.{front-map, last-map}

module _ {M N : Type 0} (f : M → N) where
  -- the same message with each name changed
  abbrev map_message : MessageOf M → MessageOf N
  map_message m = record { selector = f m.selector; arguments = map (map_names f) m.arguments }

  -- the same statement with each name changed
  abbrev map_noted : NotedOf M → NotedOf N
  map_noted t = record { comments = t.comments; node = map_names f t.node }

  -- the same declarations with each name changed
  abbrev map_scope : ScopeOf M → ScopeOf N
  map_scope d = record { parameters = map f d.parameters; temporaries = map f d.temporaries }

  -- lists of parts
  pub literals_of-map : (ls : List (LiteralOf M)) → map_literals f (literals_of ls) ≡ literals_of (map (map_literal f) ls)
  literals_of-map [] = refl
  literals_of-map (l ∷ ls) = ap (more_literals (map_literal f l)) (literals_of-map ls)

  pub trees_of-map : (ts : List (TreeOf M)) → map_trees f (trees_of ts) ≡ trees_of (map (map_names f) ts)
  trees_of-map [] = refl
  trees_of-map (t ∷ ts) = ap (more_trees (map_names f t)) (trees_of-map ts)

  messages_in-map : (ms : List (MessageOf M)) → map_messages f (messages_in ms) ≡ messages_in (map map_message ms)
  messages_in-map [] = refl
  messages_in-map (m ∷ ms) = λ i. more_messages (f m.selector) (trees_of-map m.arguments i) (messages_in-map ms i)

  pub statements_in-map : (ss : List (NotedOf M)) → map_statements f (statements_in ss) ≡ statements_in (map map_noted ss)
  statements_in-map [] = refl
  statements_in-map (s ∷ ss) = ap (more_statements s.comments (map_names f s.node)) (statements_in-map ss)

  -- the last parts as one
  last_literals : (n : ℕ) (ls : List (LiteralOf M)) → map_literals f (literals_of (last n ls)) ≡ literals_of (last n (map (map_literal f) ls))
  last_literals n ls = literals_of-map (last n ls) ∙ ap literals_of (sym (last-map (map_literal f) n ls))

  last_trees : (n : ℕ) (ts : List (TreeOf M)) → map_trees f (trees_of (last n ts)) ≡ trees_of (last n (map (map_names f) ts))
  last_trees n ts = trees_of-map (last n ts) ∙ ap trees_of (sym (last-map (map_names f) n ts))

  last_messages : (n : ℕ) (ms : List (MessageOf M)) → map_messages f (messages_in (last n ms)) ≡ messages_in (last n (map map_message ms))
  last_messages n ms = messages_in-map (last n ms) ∙ ap messages_in (sym (last-map map_message n ms))

  last_statements : (n : ℕ) (ss : List (NotedOf M)) → map_statements f (statements_in (last n ss)) ≡ statements_in (last n (map map_noted ss))
  last_statements n ss = statements_in-map (last n ss) ∙ ap statements_in (sym (last-map map_noted n ss))

  -- the last part, made into another
  module _ {X Y Z W : Type 0} (h : X → Y) (v : Z → W) (make : X → Z) (make_new : Y → W) (along : (x : X) → v (make x) ≡ make_new (h x)) where
    made : (xs : List X) → map v (map make xs) ≡ map make_new (map h xs)
    made [] = refl
    made (x ∷ xs) = λ i. along x i ∷ made xs i

    made_last : (n : ℕ) (xs : List X) (zs : List Z) → map v (zs ++ map make (last n xs)) ≡ map v zs ++ map make_new (last n (map h xs))
    made_last n xs zs = map-append v zs (map make (last n xs)) ∙ ap (λ ys. map v zs ++ ys) (made (last n xs) ∙ ap (map make_new) (sym (last-map h n xs)))

  -- what stays and what comes behind it, each changed
  kept : {X Y : Type 0} (v : X → Y) (n : ℕ) (xs ys : List X) → map v (front n xs ++ ys) ≡ front n (map v xs) ++ map v ys
  kept v n xs ys = map-append v (front n xs) ys ∙ ap (λ zs. zs ++ map v ys) (sym (front-map v n xs))

  -- one more literal
  pub map-literal : (s : StacksOf M) (l : LiteralOf M) → map_stacks f (with_literal s l) ≡ with_literal (map_stacks f s) (map_literal f l)
  map-literal s l = λ i. record (map_stacks f s) { literals = map-append (map_literal f) s.literals (l ∷ []) i }

  -- one more node
  pub map-node : (s : StacksOf M) (t : TreeOf M) → map_stacks f (with_node s t) ≡ with_node (map_stacks f s) (map_names f t)
  map-node s t = λ i. record (map_stacks f s) { nodes = map-append (map_names f) s.nodes (t ∷ []) i }

  -- the literals become an array
  pub map-array : (s : StacksOf M) (n : ℕ) → map_stacks f (with_array array s n) ≡ with_array array (map_stacks f s) n
  map-array s n =
      λ i. record (map_stacks f s) {
        literals = (kept (map_literal f) n s.literals (array (literals_of (last n s.literals)) ∷ []) ∙ ap (λ ls. front n (map (map_literal f) s.literals) ++ array ls ∷ []) (last_literals n s.literals)) i;
      }

  -- the literals become a byte array
  pub map-bytes : (s : StacksOf M) (n : ℕ) → map_stacks f (with_array bytes s n) ≡ with_array bytes (map_stacks f s) n
  map-bytes s n =
      λ i. record (map_stacks f s) {
        literals = (kept (map_literal f) n s.literals (bytes (literals_of (last n s.literals)) ∷ []) ∙ ap (λ ls. front n (map (map_literal f) s.literals) ++ bytes ls ∷ []) (last_literals n s.literals)) i;
      }

  -- the literal becomes a node
  pub map-operand : (s : StacksOf M) → map_stacks f (with_operand s) ≡ with_operand (map_stacks f s)
  map-operand s =
      λ i. record (map_stacks f s) {
        literals = sym (front-map (map_literal f) 1 s.literals) i;
        nodes = made_last (map_literal f) (map_names f) literal literal (λ l. refl) 1 s.literals s.nodes i;
      }

  -- the nodes become a message
  pub map-send : (s : StacksOf M) (selector : M) (n : ℕ) → map_stacks f (with_send s selector n) ≡ with_send (map_stacks f s) (f selector) n
  map-send s selector n =
      λ i. record (map_stacks f s) {
        nodes = (made_last (map_names f) (map_names f) (λ r. send r selector (trees_of (last n s.nodes))) (λ r. send r (f selector) (map_trees f (trees_of (last n s.nodes)))) (λ r. refl) 1 (front n s.nodes) (front 1 (front n s.nodes)) ∙ (λ j. first (j) ++ map (λ r. send r (f selector) (last_trees n s.nodes j)) (last 1 (sym (front-map (map_names f) n s.nodes) j)))) i;
      }
    where
      first : map (map_names f) (front 1 (front n s.nodes)) ≡ front 1 (front n (map (map_names f) s.nodes))
      first = sym (front-map (map_names f) 1 (front n s.nodes)) ∙ ap (front 1) (sym (front-map (map_names f) n s.nodes))

  -- the nodes become a message of a cascade
  pub map-message : (s : StacksOf M) (selector : M) (n : ℕ) → map_stacks f (with_message s selector n) ≡ with_message (map_stacks f s) (f selector) n
  map-message s selector n =
      λ i. record (map_stacks f s) {
        nodes = sym (front-map (map_names f) n s.nodes) i;
        messages = (map-append map_message s.messages (record { selector = selector; arguments = last n s.nodes } ∷ []) ∙ ap (λ ts. map map_message s.messages ++ record { selector = f selector; arguments = ts } ∷ []) (sym (last-map (map_names f) n s.nodes))) i;
      }

  -- the messages become a cascade
  pub map-cascade : (s : StacksOf M) (n : ℕ) → map_stacks f (with_cascade s n) ≡ with_cascade (map_stacks f s) n
  map-cascade s n =
      λ i. record (map_stacks f s) {
        messages = sym (front-map map_message n s.messages) i;
        nodes = (made_last (map_names f) (map_names f) (λ r. cascade r (messages_in (last n s.messages))) (λ r. cascade r (map_messages f (messages_in (last n s.messages)))) (λ r. refl) 1 s.nodes (front 1 s.nodes) ∙ (λ j. sym (front-map (map_names f) 1 s.nodes) j ++ map (λ r. cascade r (last_messages n s.messages j)) (last 1 (map (map_names f) s.nodes)))) i;
      }

  -- one more variable of an assignment
  pub map-target : (s : StacksOf M) (n : M) → map_stacks f (with_target s n) ≡ with_target (map_stacks f s) (f n)
  map-target s n = λ i. record (map_stacks f s) { targets = map-append f s.targets (n ∷ []) i }

  map-assigned : (ns : List M) (ts : List (TreeOf M)) → map (map_names f) (assigned ns ts) ≡ assigned (map f ns) (map (map_names f) ts)
  map-assigned [] ts = refl
  map-assigned (n ∷ ns) [] = refl
  map-assigned (n ∷ ns) (t ∷ ts) = ap (λ us. assign (f n) (map_names f t) ∷ us) (map-assigned ns ts)

  -- the node becomes a value
  pub map-value : (s : StacksOf M) → map_stacks f (with_value s) ≡ with_value (map_stacks f s)
  map-value s =
      λ i. record (map_stacks f s) {
        targets = sym (front-map f 1 s.targets) i;
        nodes = (kept (map_names f) 1 s.nodes (assigned (last 1 s.targets) (last 1 s.nodes)) ∙ ap (λ ts. front 1 (map (map_names f) s.nodes) ++ ts) (map-assigned (last 1 s.targets) (last 1 s.nodes) ∙ (λ j. assigned (sym (last-map f 1 s.targets) j) (sym (last-map (map_names f) 1 s.nodes) j)))) i;
      }

  -- one more block is opened
  pub map-scope : (s : StacksOf M) (ps ts : List M) → map_stacks f (with_scope s ps ts) ≡ with_scope (map_stacks f s) (map f ps) (map f ts)
  map-scope s ps ts = λ i. record (map_stacks f s) { scopes = map-append map_scope s.scopes (record { parameters = ps; temporaries = ts } ∷ []) i }

  -- the statements become a block
  pub map-block : (s : StacksOf M) (n : ℕ) (tail : Notes) → map_stacks f (with_block s n tail) ≡ with_block (map_stacks f s) n tail
  map-block s n tail =
      λ i. record (map_stacks f s) {
        statements = sym (front-map map_noted n s.statements) i;
        scopes = sym (front-map map_scope 1 s.scopes) i;
        nodes = (made_last map_scope (map_names f) (λ d. block d.parameters d.temporaries (statements_in (last n s.statements)) tail) (λ d. block d.parameters d.temporaries (map_statements f (statements_in (last n s.statements))) tail) (λ d. refl) 1 s.scopes s.nodes ∙ (λ j. map (map_names f) s.nodes ++ map (λ (d : ScopeOf N). block d.parameters d.temporaries (last_statements n s.statements j) tail) (last 1 (map map_scope s.scopes)))) i;
      }

  -- the nodes become a brace array
  pub map-brace : (s : StacksOf M) (n : ℕ) → map_stacks f (with_brace s n) ≡ with_brace (map_stacks f s) n
  map-brace s n =
      λ i. record (map_stacks f s) {
        nodes = (kept (map_names f) n s.nodes (brace (trees_of (last n s.nodes)) ∷ []) ∙ ap (λ ts. front n (map (map_names f) s.nodes) ++ brace ts ∷ []) (last_trees n s.nodes)) i;
      }

  -- the node is returned
  pub map-return : (s : StacksOf M) → map_stacks f (with_return s) ≡ with_return (map_stacks f s)
  map-return s =
      λ i. record (map_stacks f s) {
        nodes = (made_last (map_names f) (map_names f) return return (λ t. refl) 1 s.nodes (front 1 s.nodes) ∙ ap (λ ts. ts ++ map return (last 1 (map (map_names f) s.nodes))) (sym (front-map (map_names f) 1 s.nodes))) i;
      }

  -- the node becomes a statement
  pub map-statement : (s : StacksOf M) (comments : Notes) → map_stacks f (with_statement s comments) ≡ with_statement (map_stacks f s) comments
  map-statement s comments =
      λ i. record (map_stacks f s) {
        nodes = sym (front-map (map_names f) 1 s.nodes) i;
        statements = made_last (map_names f) map_noted (λ t. record { comments = comments; node = t }) (λ t. record { comments = comments; node = t }) (λ t. refl) 1 s.nodes s.statements i;
      }
