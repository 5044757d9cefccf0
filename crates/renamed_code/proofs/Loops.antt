-- A loop that makes the items of a list anew, and puts each at the end of another list.
use Rattle.std.proofs.Common.{◌≡◌, ℕ, ◌+◌, ◌<◌, Bool, ◌||◌, List, [], ◌∷◌, ◌++◌, length, get_or, drop, add-one, refl, sym, ap, ◌∙◌}
use Rattle.std.proofs.Math.Bool.{or_assoc}
use Rattle.std.proofs.lemmas.List.{drop_more}
use Rattle.tree_model.specs.Tree.{TreeOf, TreesOf, trees_of, no_trees, more_trees, MessagesOf, no_messages, more_messages, StatementsOf, no_statements, more_statements}
use Rattle.tree_model.specs.Path.{count}
use Rattle.rename_model.specs.Renamed.{beyond, renamed}
use Rattle.rename_model.specs.SelectorRenamed.{sends_anew}
use Rattle.st_tree.specs.View.{messages_of, statements_of}
use Rattle.st_tree.specs.declared.tree.Message.{Message}
use Rattle.st_tree.specs.declared.tree.Statement.{Statement}
use Rattle.st_tree.proofs.Places.{count-trees_of}
use Rattle.renamed_code.specs.declared.renaming.Renaming.{Renaming}
use Rattle.renamed_code.specs.Standing.{beneath, stands_in}
use Rattle.renamed_code.specs.Renamings.{is_named_at, is_sent_by, name_after, selector_after, trees_after, messages_after, statements_after, is_in_trees, is_in_messages, is_in_statements}

-- the items of a list from a place on
rest-from : {X : Type 0} (xs : List X) (i : ℕ) (x : X) → i < length xs → x ≡ get_or xs i x → drop i xs ≡ x ∷ drop (i + 1) xs
rest-from xs i x lt is = drop_more xs i x lt ∙ ap (λ (y : _). y ∷ drop (i + 1) xs) (sym is)

module _ {X Y : Type 0} (put : X → Y → Y) where
  -- the items of a list before others
  abbrev pub onto : List X → Y → Y
  onto [] y = y
  onto (x ∷ xs) y = put x (onto xs y)

  onto-last : (xs : List X) (x : X) (y : Y) → onto (xs ++ x ∷ []) y ≡ onto xs (put x y)
  onto-last [] x y = refl
  onto-last (z ∷ xs) x y = ap (put z) (onto-last xs x y)

  -- one more item is made
  pub one_more : (F : ℕ → List X → Y) (done now : List X) (x z : X) (k j i : ℕ) (xs : List X) (all : Y) → i < length xs → x ≡ get_or xs i x → now ≡ done ++ z ∷ []
      → F k (x ∷ drop (i + 1) xs) ≡ put z (F j (drop (i + 1) xs)) → onto done (F k (drop i xs)) ≡ all → onto now (F j (drop (i + 1) xs)) ≡ all
  one_more F done now x z k j i xs all lt is pushed step before =
      ap (λ (ys : List X). onto ys (F j (drop (i + 1) xs))) pushed
      ∙ onto-last done z (F j (drop (i + 1) xs))
      ∙ ap (onto done) (sym step)
      ∙ ap (λ (ys : List X). onto done (F k ys)) (sym (rest-from xs i x lt is))
      ∙ before

-- what was looked for was found before, in one more item, or stands in the others
pub one_more_found : {X : Type 0} (A : ℕ → List X → Bool) (found now here all : Bool) (x : X) (k j i : ℕ) (xs : List X) → i < length xs → x ≡ get_or xs i x → now ≡ (found || here)
    → A k (x ∷ drop (i + 1) xs) ≡ (here || A j (drop (i + 1) xs)) → (found || A k (drop i xs)) ≡ all → (now || A j (drop (i + 1) xs)) ≡ all
one_more_found {X} A found now here all x k j i xs lt is e step before =
    ap (λ (b : Bool). b || A j (drop (i + 1) xs)) e
    ∙ or_assoc found here (A j (drop (i + 1) xs))
    ∙ ap (λ (b : Bool). found || b) (sym step)
    ∙ ap (λ (ys : List X). found || A k ys) (sym (rest-from xs i x lt is))
    ∙ before

-- a message and a statement before others
abbrev pub put_message : Message → MessagesOf ℕ → MessagesOf ℕ
put_message m ms = more_messages m.selector (trees_of m.arguments) ms

abbrev pub put_statement : Statement → StatementsOf ℕ → StatementsOf ℕ
put_statement s ss = more_statements s.comments s.node ss

-- all items before none
pub onto-trees : (ts : List (TreeOf ℕ)) → onto more_trees ts no_trees ≡ trees_of ts
onto-trees [] = refl
onto-trees (t ∷ ts) = ap (more_trees t) (onto-trees ts)

pub onto-messages : (ms : List Message) → onto put_message ms no_messages ≡ messages_of ms
onto-messages [] = refl
onto-messages (m ∷ ms) = ap (more_messages m.selector (trees_of m.arguments)) (onto-messages ms)

pub onto-statements : (ss : List Statement) → onto put_statement ss no_statements ≡ statements_of ss
onto-statements [] = refl
onto-statements (s ∷ ss) = ap (more_statements s.comments s.node) (onto-statements ss)

module _ (r : Renaming) (p q : List ℕ) (same : q ≡ p) where
  -- a node one step below a path, after, and whether what is renamed stands in it
  abbrev child_after : List ℕ → ℕ → TreeOf ℕ → TreeOf ℕ
  child_after path k t = sends_anew (selector_after r) (renamed (beyond k (beneath path (name_after r))) t)

  abbrev is_in_child : List ℕ → ℕ → TreeOf ℕ → Bool
  is_in_child path k t = stands_in (is_sent_by r) (beneath (k ∷ []) (beneath path (is_named_at r))) t

  -- one more node is made
  pub node-more : (done now xs : List (TreeOf ℕ)) (x z : TreeOf ℕ) (k i : ℕ) (all : TreesOf ℕ) → i < length xs → x ≡ get_or xs i x → now ≡ done ++ z ∷ [] → z ≡ child_after q k x
      → onto more_trees done (trees_after r p k (trees_of (drop i xs))) ≡ all → onto more_trees now (trees_after r p (k + 1) (trees_of (drop (i + 1) xs))) ≡ all
  node-more done now xs x z k i all lt is pushed made before =
      one_more more_trees (λ n ts. trees_after r p n (trees_of ts)) done now x z k (k + 1) i xs all lt is pushed
      (λ j. more_trees (sym (made ∙ ap (λ path. child_after path k x) same) j) (trees_after r p (sym (add-one k) j) (trees_of (drop (i + 1) xs)))) before

  pub node-more_found : (found now all : Bool) (xs : List (TreeOf ℕ)) (x : TreeOf ℕ) (k i : ℕ) → i < length xs → x ≡ get_or xs i x → now ≡ (found || is_in_child q k x)
      → (found || is_in_trees r p k (trees_of (drop i xs))) ≡ all → (now || is_in_trees r p (k + 1) (trees_of (drop (i + 1) xs))) ≡ all
  node-more_found found now all xs x k i lt is e before =
      one_more_found (λ n ts. is_in_trees r p n (trees_of ts)) found now (is_in_child p k x) all x k (k + 1) i xs lt is (e ∙ ap (λ path. found || is_in_child path k x) same) refl before

  -- one more statement is made
  pub statement-more : (done now xs : List Statement) (x z : Statement) (k i : ℕ) (all : StatementsOf ℕ) → i < length xs → x ≡ get_or xs i x → now ≡ done ++ z ∷ []
      → z.comments ≡ x.comments → z.node ≡ child_after q k x.node
      → onto put_statement done (statements_after r p k (statements_of (drop i xs))) ≡ all → onto put_statement now (statements_after r p (k + 1) (statements_of (drop (i + 1) xs))) ≡ all
  statement-more done now xs x z k i all lt is pushed noted made before =
      one_more put_statement (λ n ss. statements_after r p n (statements_of ss)) done now x z k (k + 1) i xs all lt is pushed
      (λ j. more_statements (sym noted j) (sym (made ∙ ap (λ path. child_after path k x.node) same) j) (statements_after r p (sym (add-one k) j) (statements_of (drop (i + 1) xs)))) before

  pub statement-more_found : (found now all : Bool) (xs : List Statement) (x : Statement) (k i : ℕ) → i < length xs → x ≡ get_or xs i x → now ≡ (found || is_in_child q k x.node)
      → (found || is_in_statements r p k (statements_of (drop i xs))) ≡ all → (now || is_in_statements r p (k + 1) (statements_of (drop (i + 1) xs))) ≡ all
  statement-more_found found now all xs x k i lt is e before =
      one_more_found (λ n ss. is_in_statements r p n (statements_of ss)) found now (is_in_child p k x.node) all x k (k + 1) i xs lt is (e ∙ ap (λ path. found || is_in_child path k x.node) same) refl before

  -- one more message is made
  pub message-more : (done now xs : List Message) (x z : Message) (k j i : ℕ) (all : MessagesOf ℕ) → i < length xs → x ≡ get_or xs i x → now ≡ done ++ z ∷ []
      → j ≡ k + length x.arguments → z.selector ≡ selector_after r x.selector → trees_of z.arguments ≡ trees_after r q k (trees_of x.arguments)
      → onto put_message done (messages_after r p k (messages_of (drop i xs))) ≡ all → onto put_message now (messages_after r p j (messages_of (drop (i + 1) xs))) ≡ all
  message-more done now xs x z k j i all lt is pushed next named made before =
      let later : j ≡ k + count (trees_of x.arguments) = next ∙ ap (λ n. k + n) (sym (count-trees_of x.arguments)) in
      one_more put_message (λ n ms. messages_after r p n (messages_of ms)) done now x z k j i xs all lt is pushed
      (λ l. more_messages (sym named l) (sym (made ∙ ap (λ path. trees_after r path k (trees_of x.arguments)) same) l) (messages_after r p (sym later l) (messages_of (drop (i + 1) xs)))) before

  pub message-more_found : (found sent now all : Bool) (xs : List Message) (x : Message) (k j i : ℕ) → i < length xs → x ≡ get_or xs i x → j ≡ k + length x.arguments
      → sent ≡ (found || is_sent_by r x.selector) → now ≡ (sent || is_in_trees r q k (trees_of x.arguments))
      → (found || is_in_messages r p k (messages_of (drop i xs))) ≡ all → (now || is_in_messages r p j (messages_of (drop (i + 1) xs))) ≡ all
  message-more_found found sent now all xs x k j i lt is next e f before =
      let later : j ≡ k + count (trees_of x.arguments) = next ∙ ap (λ n. k + n) (sym (count-trees_of x.arguments)) in
      let s : Bool = is_sent_by r x.selector in
      let a : Bool = is_in_trees r p k (trees_of x.arguments) in
      one_more_found (λ n ms. is_in_messages r p n (messages_of ms)) found now (s || a) all x k j i xs lt is
      (f ∙ (λ l. e l || is_in_trees r (same l) k (trees_of x.arguments)) ∙ or_assoc found s a)
      (ap (λ n. s || (a || is_in_messages r p n (messages_of (drop (i + 1) xs)))) (sym later) ∙ sym (or_assoc s a (is_in_messages r p j (messages_of (drop (i + 1) xs))))) before
