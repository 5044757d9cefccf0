-- Trees that are the same but for their comments.
use Rattle.std.proofs.Common.{◌≡◌, refl, sym, ap, ◌∙◌, ℕ, List, [], ◌∷◌, Option, Some, None}
use Rattle.std.specs.Prelude.{Bool, true, ◌&&◌, nat_eq}
use Rattle.std.specs.Cmp.Lexicographic.{pointwise, same_text}
use Rattle.std.specs.Option.{option_eq}
use Rattle.std.proofs.lemmas.Bool.{false≢true, and_parts, and_from, eqb-true, eq-eqb}
use Rattle.rb_base.specs.Names.{text_eq}
use Rattle.rb_base.proofs.NamesLemmas.{text_eq-refl}
use Rattle.tree_model.specs.Tree.{LiteralOf, number, str, symbol, char, array, bytes, word, LiteralsOf, no_literals, more_literals, TreeOf, var, literal, send, cascade, assign, block, brace, return, TreesOf, no_trees, more_trees, MessagesOf, no_messages, more_messages, StatementsOf, no_statements, more_statements, MethodOf}
use Rattle.tree_model.specs.Bare.{bare, bare_trees, bare_messages, bare_statements}
use Rattle.same_trees.specs.SameTrees.{same_literal, same_literals, same_tree, same_trees, same_messages, same_statements, same_code}

-- lists whose items are equal one by one
pub pointwise_refl : {X : Type 0} (same : X → X → Bool) → ((x : X) → same x x ≡ true) → (xs : List X) → pointwise same xs xs ≡ true
pointwise_refl same r [] = refl
pointwise_refl same r (x ∷ xs) = and_from (same x x) (pointwise same xs xs) (r x) (pointwise_refl same r xs)

pub pointwise_told : {X : Type 0} (same : X → X → Bool) → ((x y : X) → same x y ≡ true → x ≡ y) → (xs ys : List X) → pointwise same xs ys ≡ true → xs ≡ ys
pointwise_told same told [] [] e = refl
pointwise_told same told [] (y ∷ ys) e = absurd (false≢true e)
pointwise_told same told (x ∷ xs) [] e = absurd (false≢true e)
pointwise_told same told (x ∷ xs) (y ∷ ys) e =
    let h = and_parts (same x y) (pointwise same xs ys) e in λ i. told x y h.0 i ∷ pointwise_told same told xs ys h.1 i

-- texts that are told to be equal are
pub text_told : (t u : List ℕ) → text_eq t u ≡ true → t ≡ u
text_told t u e = same_text t u (sym e)

-- numbers that may be there
primitive_refl : (o : Option ℕ) → option_eq nat_eq o o ≡ true
primitive_refl None = refl
primitive_refl (Some n) = eq-eqb n n refl

module _ {N : Type 0} (same : N → N → Bool) (told : (m n : N) → same m n ≡ true → m ≡ n) where
  -- literals that are the same are equal
  mutual
    pub literal_told : (k l : LiteralOf N) → same_literal same k l ≡ true → k ≡ l
    literal_told (number a) (number b) e = ap number (text_told a b e)
    literal_told (str a) (str b) e = ap str (text_told a b e)
    literal_told (symbol a) (symbol b) e = ap symbol (text_told a b e)
    literal_told (char a) (char b) e = ap char (eqb-true a b e)
    literal_told (array ks) (array ls) e = ap array (literals_told ks ls e)
    literal_told (bytes ks) (bytes ls) e = ap bytes (literals_told ks ls e)
    literal_told (word m) (word n) e = ap word (told m n e)
    literal_told k l e = absurd (false≢true e)

    literals_told : (ks ls : LiteralsOf N) → same_literals same ks ls ≡ true → ks ≡ ls
    literals_told no_literals no_literals e = refl
    literals_told (more_literals k ks) (more_literals l ls) e =
        let h = and_parts (same_literal same k l) (same_literals same ks ls) e in
        λ i. more_literals (literal_told k l h.0 i) (literals_told ks ls h.1 i)
    literals_told ks ls e = absurd (false≢true e)

  -- trees that are the same are equal but for their comments
  mutual
    pub tree_told : (t u : TreeOf N) → same_tree same t u ≡ true → bare t ≡ bare u
    tree_told (var m) (var n) e = ap var (told m n e)
    tree_told (literal k) (literal l) e = ap literal (literal_told k l e)
    tree_told (send q r xs) (send t u ys) e =
        let h = and_parts (same_tree same q t) (same r u && same_trees same xs ys) e in
        let g = and_parts (same r u) (same_trees same xs ys) h.1 in
        λ i. send (tree_told q t h.0 i) (told r u g.0 i) (trees_told xs ys g.1 i)
    tree_told (cascade q ks) (cascade t ms) e =
        let h = and_parts (same_tree same q t) (same_messages same ks ms) e in λ i. cascade (tree_told q t h.0 i) (messages_told ks ms h.1 i)
    tree_told (assign m t) (assign n u) e =
        let h = and_parts (same m n) (same_tree same t u) e in λ i. assign (told m n h.0 i) (tree_told t u h.1 i)
    tree_told (block ps ts ss d) (block qs us rs f) e =
        let h = and_parts (pointwise same ps qs) (pointwise same ts us && same_statements same ss rs) e in
        let g = and_parts (pointwise same ts us) (same_statements same ss rs) h.1 in
        λ i. block (pointwise_told same told ps qs h.0 i) (pointwise_told same told ts us g.0 i) (statements_told ss rs g.1 i) []
    tree_told (brace xs) (brace ys) e = ap brace (trees_told xs ys e)
    tree_told (return t) (return u) e = ap return (tree_told t u e)
    tree_told t u e = absurd (false≢true e)

    pub trees_told : (ts us : TreesOf N) → same_trees same ts us ≡ true → bare_trees ts ≡ bare_trees us
    trees_told no_trees no_trees e = refl
    trees_told (more_trees t ts) (more_trees u us) e =
        let h = and_parts (same_tree same t u) (same_trees same ts us) e in λ i. more_trees (tree_told t u h.0 i) (trees_told ts us h.1 i)
    trees_told ts us e = absurd (false≢true e)

    messages_told : (ks ms : MessagesOf N) → same_messages same ks ms ≡ true → bare_messages ks ≡ bare_messages ms
    messages_told no_messages no_messages e = refl
    messages_told (more_messages s xs ks) (more_messages t ys ms) e =
        let h = and_parts (same s t) (same_trees same xs ys && same_messages same ks ms) e in
        let g = and_parts (same_trees same xs ys) (same_messages same ks ms) h.1 in
        λ i. more_messages (told s t h.0 i) (trees_told xs ys g.0 i) (messages_told ks ms g.1 i)
    messages_told ks ms e = absurd (false≢true e)

    pub statements_told : (ss rs : StatementsOf N) → same_statements same ss rs ≡ true → bare_statements ss ≡ bare_statements rs
    statements_told no_statements no_statements e = refl
    statements_told (more_statements c t ss) (more_statements d u rs) e =
        let h = and_parts (same_tree same t u) (same_statements same ss rs) e in
        λ i. more_statements [] (tree_told t u h.0 i) (statements_told ss rs h.1 i)
    statements_told ss rs e = absurd (false≢true e)

module _ {N : Type 0} (same : N → N → Bool) (same_refl : (n : N) → same n n ≡ true) where
  -- a literal is the same as itself
  mutual
    pub literal_refl : (l : LiteralOf N) → same_literal same l l ≡ true
    literal_refl (number t) = text_eq-refl t
    literal_refl (str t) = text_eq-refl t
    literal_refl (symbol t) = text_eq-refl t
    literal_refl (char b) = eq-eqb b b refl
    literal_refl (array ls) = literals_refl ls
    literal_refl (bytes ls) = literals_refl ls
    literal_refl (word n) = same_refl n

    literals_refl : (ls : LiteralsOf N) → same_literals same ls ls ≡ true
    literals_refl no_literals = refl
    literals_refl (more_literals l ls) = and_from (same_literal same l l) (same_literals same ls ls) (literal_refl l) (literals_refl ls)

  -- a tree is the same as itself
  mutual
    tree_refl : (t : TreeOf N) → same_tree same t t ≡ true
    tree_refl (var n) = same_refl n
    tree_refl (literal l) = literal_refl l
    tree_refl (send r s ts) = and_from _ _ (tree_refl r) (and_from _ _ (same_refl s) (trees_refl ts))
    tree_refl (cascade r ms) = and_from _ _ (tree_refl r) (messages_refl ms)
    tree_refl (assign n t) = and_from _ _ (same_refl n) (tree_refl t)
    tree_refl (block ps ts ss e) =
        and_from _ _ (pointwise_refl same same_refl ps) (and_from _ _ (pointwise_refl same same_refl ts) (statements_refl ss))
    tree_refl (brace ts) = trees_refl ts
    tree_refl (return t) = tree_refl t

    trees_refl : (ts : TreesOf N) → same_trees same ts ts ≡ true
    trees_refl no_trees = refl
    trees_refl (more_trees t ts) = and_from _ _ (tree_refl t) (trees_refl ts)

    messages_refl : (ms : MessagesOf N) → same_messages same ms ms ≡ true
    messages_refl no_messages = refl
    messages_refl (more_messages s ts ms) = and_from _ _ (same_refl s) (and_from _ _ (trees_refl ts) (messages_refl ms))

    pub statements_refl : (ss : StatementsOf N) → same_statements same ss ss ≡ true
    statements_refl no_statements = refl
    statements_refl (more_statements c t ss) = and_from _ _ (tree_refl t) (statements_refl ss)

  -- so is a method, with its primitive
  pub code_refl : (m : MethodOf N) → same_code same m m ≡ true
  code_refl m =
      and_from _ _ (same_refl m.selector)
      (and_from _ _ (pointwise_refl same same_refl m.arguments)
      (and_from _ _ (primitive_refl m.primitive)
      (and_from _ _ (pointwise_refl same same_refl m.body.temporaries) (statements_refl m.body.statements))))

  -- comments do not count
  mutual
    same_tree-bare : (t u : TreeOf N) → same_tree same (bare t) (bare u) ≡ same_tree same t u
    same_tree-bare (var m) (var n) = refl
    same_tree-bare (literal k) (literal l) = refl
    same_tree-bare (send q r xs) (send t u ys) = λ i. same_tree-bare q t i && (same r u && same_trees-bare xs ys i)
    same_tree-bare (cascade q ks) (cascade t ms) = λ i. same_tree-bare q t i && same_messages-bare ks ms i
    same_tree-bare (assign m t) (assign n u) = λ i. same m n && same_tree-bare t u i
    same_tree-bare (block ps ts ss d) (block qs us rs e) =
        λ i. pointwise same ps qs && (pointwise same ts us && same_statements-bare ss rs i)
    same_tree-bare (brace xs) (brace ys) = same_trees-bare xs ys
    same_tree-bare (return t) (return u) = same_tree-bare t u
    same_tree-bare t u = refl

    same_trees-bare : (ts us : TreesOf N) → same_trees same (bare_trees ts) (bare_trees us) ≡ same_trees same ts us
    same_trees-bare no_trees no_trees = refl
    same_trees-bare (more_trees t ts) (more_trees u us) = λ i. same_tree-bare t u i && same_trees-bare ts us i
    same_trees-bare ts us = refl

    same_messages-bare : (ks ms : MessagesOf N) → same_messages same (bare_messages ks) (bare_messages ms) ≡ same_messages same ks ms
    same_messages-bare no_messages no_messages = refl
    same_messages-bare (more_messages s xs ks) (more_messages t ys ms) =
        λ i. same s t && (same_trees-bare xs ys i && same_messages-bare ks ms i)
    same_messages-bare ks ms = refl

    same_statements-bare : (ss rs : StatementsOf N) → same_statements same (bare_statements ss) (bare_statements rs) ≡ same_statements same ss rs
    same_statements-bare no_statements no_statements = refl
    same_statements-bare (more_statements c t ss) (more_statements d u rs) = λ i. same_tree-bare t u i && same_statements-bare ss rs i
    same_statements-bare ss rs = refl

  -- trees that are equal but for their comments are the same
  pub tree_same : (t u : TreeOf N) → bare t ≡ bare u → same_tree same t u ≡ true
  tree_same t u e = sym (same_tree-bare t u) ∙ (ap (λ v. same_tree same (bare t) v) (sym e) ∙ tree_refl (bare t))

  pub trees_same : (ts us : TreesOf N) → bare_trees ts ≡ bare_trees us → same_trees same ts us ≡ true
  trees_same ts us e = sym (same_trees-bare ts us) ∙ (ap (λ v. same_trees same (bare_trees ts) v) (sym e) ∙ trees_refl (bare_trees ts))

  pub statements_same : (ss rs : StatementsOf N) → bare_statements ss ≡ bare_statements rs → same_statements same ss rs ≡ true
  statements_same ss rs e =
      sym (same_statements-bare ss rs) ∙ (ap (λ v. same_statements same (bare_statements ss) v) (sym e) ∙ statements_refl (bare_statements ss))
