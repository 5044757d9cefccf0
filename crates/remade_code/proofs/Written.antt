-- A loop that makes each item of a list anew in place.
use Rattle.std.proofs.Common.{◌≡◌, ℕ, ◌+◌, ◌<◌, ◌≤◌, List, [], ◌∷◌, ◌++◌, length, get_or, take, drop, add-one, append_assoc, append-nil, refl, sym, ap, ◌∙◌}
use Rattle.std.proofs.Math.ListN.{set}
use Rattle.std.proofs.Math.Seq.{take-append_seam}
use Rattle.std.proofs.lemmas.List.{drop_more, take_all, drop_all, take_more_set}
use Rattle.tree_model.specs.Tree.{TreeOf, var, literal, send, cascade, assign, block, brace, return, TreesOf, trees_of, no_trees, more_trees, MessagesOf, no_messages, more_messages, StatementsOf, no_statements, more_statements}
use Rattle.tree_model.specs.Path.{count}
use Rattle.st_tree.specs.View.{messages_of, statements_of}
use Rattle.st_tree.specs.Lending.{overwritten}
use Rattle.st_tree.specs.declared.tree.Message.{Message}
use Rattle.st_tree.specs.declared.tree.Statement.{Statement}
use Rattle.st_tree.proofs.Places.{count-trees_of}
use Rattle.command_model.specs.Walk.{Making, onward, rebuilt, rebuilt_trees, rebuilt_messages, rebuilt_statements}
use Rattle.remade_code.specs.Below.{below, rebuilt_below}

-- a list that is overwritten by one as long is that one
pub overwritten-same : {X : Type 0} (xs ws : List X) → length ws ≡ length xs → overwritten xs ws ≡ ws
overwritten-same xs ws same = ap (λ n. take n (ws ++ drop (length ws) xs)) (sym same) ∙ take-append_seam ws (drop (length ws) xs)

module _ {X Y : Type 0} (put : X → Y → Y) where
  -- the items of a list before others
  abbrev pub onto : List X → Y → Y
  onto [] y = y
  onto (x ∷ xs) y = put x (onto xs y)

  onto-last : (xs : List X) (x : X) (y : Y) → onto (xs ++ x ∷ []) y ≡ onto xs (put x y)
  onto-last [] x y = refl
  onto-last (z ∷ xs) x y = ap (put z) (onto-last xs x y)

  -- one more item is made anew, in a list whose later items are those that were there
  pub one_more : (F : ℕ → List X → Y) (xs ys : List X) (x z : X) (k j i : ℕ) (all : Y) → i < length xs → i < length ys → x ≡ get_or xs i x
      → F k (x ∷ drop (i + 1) xs) ≡ put z (F j (drop (i + 1) xs)) → onto (take i ys) (F k (drop i xs)) ≡ all → onto (take (i + 1) (set ys i z)) (F j (drop (i + 1) xs)) ≡ all
  one_more F xs ys x z k j i all within lt is step before =
      ap (λ (zs : List X). onto zs (F j (drop (i + 1) xs))) (take_more_set ys i z lt)
      ∙ onto-last (take i ys) z (F j (drop (i + 1) xs))
      ∙ ap (onto (take i ys)) (sym step)
      ∙ ap (λ (zs : List X). onto (take i ys) (F k zs)) (sym (drop_more xs i x within ∙ ap (λ (y : X). y ∷ drop (i + 1) xs) (sym is)))
      ∙ before

-- a message and a statement before others
abbrev pub put_message : Message → MessagesOf ℕ → MessagesOf ℕ
put_message m ms = more_messages m.selector (trees_of m.arguments) ms

abbrev pub put_statement : Statement → StatementsOf ℕ → StatementsOf ℕ
put_statement s ss = more_statements s.comments s.node ss

-- all items before none
onto-trees : (ts : List (TreeOf ℕ)) → onto more_trees ts no_trees ≡ trees_of ts
onto-trees [] = refl
onto-trees (t ∷ ts) = ap (more_trees t) (onto-trees ts)

onto-messages : (ms : List Message) → onto put_message ms no_messages ≡ messages_of ms
onto-messages [] = refl
onto-messages (m ∷ ms) = ap (more_messages m.selector (trees_of m.arguments)) (onto-messages ms)

onto-statements : (ss : List Statement) → onto put_statement ss no_statements ≡ statements_of ss
onto-statements [] = refl
onto-statements (s ∷ ss) = ap (more_statements s.comments s.node) (onto-statements ss)

module _ (f : Making ℕ) (p : List ℕ) where
  -- on from one step further
  one-step : (q : List ℕ) (k : ℕ) → q ≡ p ++ k ∷ [] → below q f ≡ onward k (below p f)
  one-step q k e = λ i rest t. f ((ap (λ path. path ++ rest) e ∙ append_assoc p (k ∷ []) rest) i) t

  -- a node is what becomes of it with the nodes below it made anew
  whole : (g : Making ℕ) (t : TreeOf ℕ) → g [] (rebuilt_below g t) ≡ rebuilt g t
  whole g (var n) = refl
  whole g (literal l) = refl
  whole g (send r s args) = refl
  whole g (cascade r ms) = refl
  whole g (assign n t) = refl
  whole g (block ps ts ss e) = refl
  whole g (brace ts) = refl
  whole g (return t) = refl

  -- a node one step below is made anew
  pub child-made : (q : List ℕ) (k : ℕ) (t mid new : TreeOf ℕ) → q ≡ p ++ k ∷ [] → mid ≡ rebuilt_below (below q f) t → new ≡ f q mid → new ≡ rebuilt (onward k (below p f)) t
  child-made q k t mid new e under made =
      made ∙ (λ i. f (sym (append-nil q) i) (under i)) ∙ whole (below q f) t ∙ ap (λ (g : Making ℕ). rebuilt g t) (one-step q k e)

  -- one more node is made anew
  pub node-more : (xs ys : List (TreeOf ℕ)) (q : List ℕ) (x z : TreeOf ℕ) (k i : ℕ) (all : TreesOf ℕ) → q ≡ p → i < length xs → i < length ys → x ≡ get_or xs i x → z ≡ rebuilt (onward k (below q f)) x
      → onto more_trees (take i ys) (rebuilt_trees (below p f) k (trees_of (drop i xs))) ≡ all
      → onto more_trees (take (i + 1) (set ys i z)) (rebuilt_trees (below p f) (k + 1) (trees_of (drop (i + 1) xs))) ≡ all
  node-more xs ys q x z k i all same within lt is made before =
      one_more more_trees (λ n ts. rebuilt_trees (below p f) n (trees_of ts)) xs ys x z k (k + 1) i all within lt is
      (λ j. more_trees (sym (made ∙ ap (λ (path : List ℕ). rebuilt (onward k (below path f)) x) same) j) (rebuilt_trees (below p f) (sym (add-one k) j) (trees_of (drop (i + 1) xs)))) before

  -- all nodes are
  pub nodes-made : (xs ys : List (TreeOf ℕ)) (k i : ℕ) (all : TreesOf ℕ) → length xs ≤ i → length ys ≤ i
      → onto more_trees (take i ys) (rebuilt_trees (below p f) k (trees_of (drop i xs))) ≡ all → trees_of ys ≡ all
  nodes-made xs ys k i all past end before =
      sym (onto-trees ys) ∙ (λ j. onto more_trees (sym (take_all i ys end) j) (rebuilt_trees (below p f) k (trees_of (sym (drop_all i xs past) j)))) ∙ before

  -- one more statement is made anew
  pub statement-more : (xs ys : List Statement) (q : List ℕ) (x z : Statement) (k i : ℕ) (all : StatementsOf ℕ) → q ≡ p → i < length xs → i < length ys → x ≡ get_or xs i x
      → z.comments ≡ x.comments → z.node ≡ rebuilt (onward k (below q f)) x.node
      → onto put_statement (take i ys) (rebuilt_statements (below p f) k (statements_of (drop i xs))) ≡ all
      → onto put_statement (take (i + 1) (set ys i z)) (rebuilt_statements (below p f) (k + 1) (statements_of (drop (i + 1) xs))) ≡ all
  statement-more xs ys q x z k i all same within lt is noted made before =
      one_more put_statement (λ n ss. rebuilt_statements (below p f) n (statements_of ss)) xs ys x z k (k + 1) i all within lt is
      (λ j. more_statements (sym noted j) (sym (made ∙ ap (λ (path : List ℕ). rebuilt (onward k (below path f)) x.node) same) j) (rebuilt_statements (below p f) (sym (add-one k) j) (statements_of (drop (i + 1) xs)))) before

  -- all statements are
  pub statements-made : (xs ys : List Statement) (k i : ℕ) (all : StatementsOf ℕ) → length xs ≤ i → length ys ≤ i
      → onto put_statement (take i ys) (rebuilt_statements (below p f) k (statements_of (drop i xs))) ≡ all → statements_of ys ≡ all
  statements-made xs ys k i all past end before =
      sym (onto-statements ys) ∙ (λ j. onto put_statement (sym (take_all i ys end) j) (rebuilt_statements (below p f) k (statements_of (sym (drop_all i xs past) j)))) ∙ before

  -- the arguments of one more message are made anew
  pub message-more : (xs ys : List Message) (q : List ℕ) (x z : Message) (k j i : ℕ) (all : MessagesOf ℕ) → q ≡ p → i < length xs → i < length ys → x ≡ get_or xs i x
      → j ≡ k + length x.arguments → z.selector ≡ x.selector → trees_of z.arguments ≡ rebuilt_trees (below q f) k (trees_of x.arguments)
      → onto put_message (take i ys) (rebuilt_messages (below p f) k (messages_of (drop i xs))) ≡ all
      → onto put_message (take (i + 1) (set ys i z)) (rebuilt_messages (below p f) j (messages_of (drop (i + 1) xs))) ≡ all
  message-more xs ys q x z k j i all same within lt is next named made before =
      let later : j ≡ k + count (trees_of x.arguments) = next ∙ ap (λ n. k + n) (sym (count-trees_of x.arguments)) in
      one_more put_message (λ n ms. rebuilt_messages (below p f) n (messages_of ms)) xs ys x z k j i all within lt is
      (λ l. more_messages (sym named l) (sym (made ∙ ap (λ (path : List ℕ). rebuilt_trees (below path f) k (trees_of x.arguments)) same) l) (rebuilt_messages (below p f) (sym later l) (messages_of (drop (i + 1) xs)))) before

  -- all messages are
  pub messages-made : (xs ys : List Message) (k i : ℕ) (all : MessagesOf ℕ) → length xs ≤ i → length ys ≤ i
      → onto put_message (take i ys) (rebuilt_messages (below p f) k (messages_of (drop i xs))) ≡ all → messages_of ys ≡ all
  messages-made xs ys k i all past end before =
      sym (onto-messages ys) ∙ (λ j. onto put_message (sym (take_all i ys end) j) (rebuilt_messages (below p f) k (messages_of (sym (drop_all i xs past) j)))) ∙ before
