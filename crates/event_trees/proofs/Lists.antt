-- The last items of lists, and the lists of the program's messages and statements.
use Rattle.std.proofs.Common.{◌≡◌, ℕ, ◌-◌, List, [], ◌∷◌, ◌++◌, length, map, take, drop, refl, sym, ap, ◌∙◌, arith}
use Rattle.std.proofs.Math.Seq.{take-append_seam, drop-append_seam}
use Rattle.std.proofs.lemmas.List.{append-nil, length-append, length-map, take-map, drop-map}
use Rattle.tree_model.specs.Tree.{Notes, TreeOf, cascade, block, more_messages, trees_of, more_statements}
use Rattle.st_tree.specs.declared.tree.Message.{Message}
use Rattle.st_tree.specs.declared.tree.Statement.{Statement}
use Rattle.st_tree.specs.declared.tree.Sequence.{Sequence}
use Rattle.st_tree.specs.View.{messages_of, statements_of}
use Rattle.event_trees.specs.Stacks.{ScopeOf, front, last, messages_in, statements_in}
use Rattle.event_trees.specs.Held.{message_in, noted_in, scope_in}
use Rattle.event_trees.specs.declared.stacks.Scope.{Scope}

module _ {X : Type 0} where
  end_of : (n : ℕ) (xs ys : List X) → n ≡ length ys → length (xs ++ ys) - n ≡ length xs
  end_of n xs ys e = omega (arith, length-append xs ys)

  -- all but the last items of two lists, where the second has as many
  pub front-append : (n : ℕ) (xs ys : List X) → n ≡ length ys → front n (xs ++ ys) ≡ xs
  front-append n xs ys e = ap (λ k. take k (xs ++ ys)) (end_of n xs ys e) ∙ take-append_seam xs ys

  -- the last items of two lists, where the second has as many
  pub last-append : (n : ℕ) (xs ys : List X) → n ≡ length ys → last n (xs ++ ys) ≡ ys
  last-append n xs ys e = ap (λ k. drop k (xs ++ ys)) (end_of n xs ys e) ∙ drop-append_seam xs ys

module _ {X Y : Type 0} (f : X → Y) where
  -- all but the last items, each changed
  pub front-map : (n : ℕ) (xs : List X) → front n (map f xs) ≡ map f (front n xs)
  front-map n xs = ap (λ k. take (k - n) (map f xs)) (length-map xs f) ∙ take-map f (length xs - n) xs

  -- the last items, each changed
  pub last-map : (n : ℕ) (xs : List X) → last n (map f xs) ≡ map f (last n xs)
  last-map n xs = ap (λ k. drop (k - n) (map f xs)) (length-map xs f) ∙ drop-map f (length xs - n) xs

-- the messages of the program
pub messages_in-message_in : (ms : List Message) → messages_in (map message_in ms) ≡ messages_of ms
messages_in-message_in [] = refl
messages_in-message_in (m ∷ ms) = ap (more_messages m.selector (trees_of m.arguments)) (messages_in-message_in ms)

-- the statements of the program
pub statements_in-noted_in : (ss : List Statement) → statements_in (map noted_in ss) ≡ statements_of ss
statements_in-noted_in [] = refl
statements_in-noted_in (s ∷ ss) = ap (more_statements s.comments s.node) (statements_in-noted_in ss)

-- the last messages of the program
pub last_messages : (n : ℕ) (ms : List Message) → messages_in (last n (map message_in ms)) ≡ messages_of (last n ms)
last_messages n ms = ap messages_in (last-map message_in n ms) ∙ messages_in-message_in (last n ms)

-- the last statements of the program
pub last_statements : (n : ℕ) (ss : List Statement) → statements_in (last n (map noted_in ss)) ≡ statements_of (last n ss)
last_statements n ss = ap statements_in (last-map noted_in n ss) ∙ statements_in-noted_in (last n ss)

-- all but the last messages of the program
pub front_messages : (n : ℕ) (ms kept : List Message) → kept ≡ front n ms → map message_in kept ≡ front n (map message_in ms)
front_messages n ms kept e = ap (map message_in) e ∙ sym (front-map message_in n ms)

-- all but the last statements of the program
pub front_statements : (n : ℕ) (ss kept : List Statement) → kept ≡ front n ss → map noted_in kept ≡ front n (map noted_in ss)
front_statements n ss kept e = ap (map noted_in) e ∙ sym (front-map noted_in n ss)

-- a receiver and the last messages become a cascade
pub received : (n : ℕ) (nodes kept pushed : List (TreeOf ℕ)) (r b : TreeOf ℕ) (ms taken : List Message) → kept ≡ front 1 nodes → last 1 nodes ≡ r ∷ [] → b ≡ r → taken ≡ last n ms → pushed ≡ kept ++ cascade b (messages_of taken) ∷ []
    → pushed ≡ front 1 nodes ++ map (λ q. cascade q (messages_in (last n (map message_in ms)))) (last 1 nodes)
received n nodes kept pushed r b ms taken k l e t p =
    p ∙ (λ i. k i ++ cascade (e i) ((ap messages_of t ∙ sym (last_messages n ms)) i) ∷ []) ∙
    ap (λ ts. front 1 nodes ++ map (λ q. cascade q (messages_in (last n (map message_in ms)))) ts) (sym l)

-- where there is no receiver nothing comes
pub unreceived : (n : ℕ) (nodes kept : List (TreeOf ℕ)) (ms : List Message) → kept ≡ front 1 nodes → last 1 nodes ≡ []
    → kept ≡ front 1 nodes ++ map (λ q. cascade q (messages_in (last n (map message_in ms)))) (last 1 nodes)
unreceived n nodes kept ms k l =
    k ∙ sym (append-nil (front 1 nodes)) ∙ ap (λ ts. front 1 nodes ++ map (λ q. cascade q (messages_in (last n (map message_in ms)))) ts) (sym l)

-- the last statements and declarations become a block
pub scoped : (n : ℕ) (tail : Notes) (nodes pushed : List (TreeOf ℕ)) (scopes : List Scope) (d : Scope) (b : Sequence) (ss taken : List Statement) → last 1 scopes ≡ d ∷ [] → taken ≡ last n ss → b ≡ record { temporaries = d.temporaries; statements = taken; tail = tail } → pushed ≡ nodes ++ block d.parameters b.temporaries (statements_of b.statements) b.tail ∷ []
    → pushed ≡ nodes ++ map (λ (q : ScopeOf ℕ). block q.parameters q.temporaries (statements_in (last n (map noted_in ss))) tail) (last 1 (map scope_in scopes))
scoped n tail nodes pushed scopes d b ss taken l t e p =
    p ∙ (λ i. nodes ++ block d.parameters (e i).temporaries (statements_of (e i).statements) (e i).tail ∷ []) ∙
    (λ i. nodes ++ block d.parameters d.temporaries ((ap statements_of t ∙ sym (last_statements n ss)) i) tail ∷ []) ∙
    ap (λ (ds : List (ScopeOf ℕ)). nodes ++ map (λ (q : ScopeOf ℕ). block q.parameters q.temporaries (statements_in (last n (map noted_in ss))) tail) ds) (sym (last-map scope_in 1 scopes ∙ ap (map scope_in) l))

-- where there are no declarations nothing comes
pub unscoped : (n : ℕ) (tail : Notes) (nodes : List (TreeOf ℕ)) (scopes : List Scope) (ss : List Statement) → last 1 scopes ≡ []
    → nodes ≡ nodes ++ map (λ (q : ScopeOf ℕ). block q.parameters q.temporaries (statements_in (last n (map noted_in ss))) tail) (last 1 (map scope_in scopes))
unscoped n tail nodes scopes ss l =
    sym (append-nil nodes) ∙
    ap (λ (ds : List (ScopeOf ℕ)). nodes ++ map (λ (q : ScopeOf ℕ). block q.parameters q.temporaries (statements_in (last n (map noted_in ss))) tail) ds) (sym (last-map scope_in 1 scopes ∙ ap (map scope_in) l))

-- all but the last declarations of the program
pub front_scopes : (n : ℕ) (ds kept : List Scope) → kept ≡ front n ds → map scope_in kept ≡ front n (map scope_in ds)
front_scopes n ds kept e = ap (map scope_in) e ∙ sym (front-map scope_in n ds)
