-- The reads of a temporary that a sequence declares, and the one assignment to it.
use Rattle.std.proofs.Common.{◌≡◌, ℕ, List, [], ◌∷◌, ◌++◌, length, filter, Contains, Option, Some, None, is_some, refl, sym, ap, ◌∙◌, subst, ◌⊎◌, inl, inr}
use Rattle.std.specs.Prelude.{Bool, true, false, ◌||◌, map, if◌then◌else◌}
use Rattle.std.specs.List.{list_any, list_all}
use Rattle.std.proofs.lemmas.Bool.{false≢true}
use Rattle.rb_base.specs.Names.{text_eq}
use Rattle.tree_model.specs.Tree.{TreeOf, var, literal, send, cascade, assign, block, brace, return, SequenceOf, MethodOf}
use Rattle.tree_model.specs.Path.{nth, statement_trees, part_at, part_in}
use Rattle.tree_model.specs.Nodes.{Placed, nodes}
use Rattle.tree_model.proofs.NodesLemmas.{part_in-Contains, Contains-part_in}
use Rattle.scope_model.specs.declared.local.Local.{Local}
use Rattle.scope_model.specs.SpecialNames.{is_pseudo_variable}
use Rattle.scope_model.specs.Scope.{PlacedScope, local_in}
use Rattle.run_model.specs.Values.{Name}
use Rattle.run_model.proofs.Finite.{and-true_left, and-true_right}
use Rattle.run_model.proofs.RenamingLemmas.{text-same}
use Rattle.mapped_model.proofs.NodesBelow.{Below}
use Rattle.rename_model.specs.NamesThere.{declared_by, is_named_by}
use Rattle.rename_laws.proofs.Unnamed.{neither_left, neither_right}
use Rattle.unfolded_calls.proofs.Running.{some-same}
use Rattle.command_model.specs.Asked.{text_asked}
use Rattle.command_model.specs.Places.{temporary_scope}
use Rattle.command_model.specs.Temporaries.{only, reads_of}
use Rattle.code_command_laws.proofs.OneNode.{cons-cases, none-there, one-passes, only-passes}
use Rattle.let_laws.specs.ReadsFirst.{IsWithout}
use Rattle.let_laws.proofs.Unnamed.{tree-nameless}
use Rattle.let_laws.proofs.Valued.{IsLoose, Loose}
use Rattle.let_laws.proofs.Declaring.{Inside, Declares, temporary-there, stands-there}

-- what a list of those that pass gives
module _ {X Y : Type 0} (f : X → Y) (p : X → Bool) where
  mapped-all : (q : Y → Bool) (xs : List X) (x : X) → list_all q (map f (filter p xs)) ≡ true → Contains xs x → p x ≡ true → q (f x) ≡ true
  mapped-all q [] x e c t = absurd (none-there x c)
  mapped-all q (y ∷ xs) x e c t = by (p y) refl e (cons-cases y xs x c) (λ g k. mapped-all q xs x g k t)
    where
      by : (b : Bool) → p y ≡ b → list_all q (map f (if b then y ∷ filter p xs else filter p xs)) ≡ true → (y ≡ x) ⊎ Contains xs x → (list_all q (map f (filter p xs)) ≡ true → Contains xs x → q (f x) ≡ true) → q (f x) ≡ true
      by true r e (inl s) ih = ap (λ z. q (f z)) (sym s) ∙ and-true_left (q (f y)) _ e
      by true r e (inr k) ih = ih (and-true_right (q (f y)) _ e) k
      by false r e (inl s) ih = absurd (false≢true (sym r ∙ ap p s ∙ t))
      by false r e (inr k) ih = ih e k

  mapped-none : (q : Y → Bool) (xs : List X) (x : X) → list_any q (map f (filter p xs)) ≡ false → Contains xs x → p x ≡ true → q (f x) ≡ false
  mapped-none q [] x e c t = absurd (none-there x c)
  mapped-none q (y ∷ xs) x e c t = by (p y) refl e (cons-cases y xs x c) (λ g k. mapped-none q xs x g k t)
    where
      by : (b : Bool) → p y ≡ b → list_any q (map f (if b then y ∷ filter p xs else filter p xs)) ≡ false → (y ≡ x) ⊎ Contains xs x → (list_any q (map f (filter p xs)) ≡ false → Contains xs x → q (f x) ≡ false) → q (f x) ≡ false
      by true r e (inl s) ih = ap (λ z. q (f z)) (sym s) ∙ neither_left (q (f y)) _ e
      by true r e (inr k) ih = ih (neither_right (q (f y)) _ e) k
      by false r e (inl s) ih = absurd (false≢true (sym r ∙ ap p s ∙ t))
      by false r e (inr k) ih = ih e k

  mapped-one : (xs : List X) (r : Y) → only (map f (filter p xs)) ≡ Some r → (x : X) × (filter p xs ≡ x ∷ []) × (f x ≡ r)
  mapped-one xs r = by (filter p xs) refl
    where
      by : (ys : List X) → filter p xs ≡ ys → only (map f ys) ≡ Some r → (x : X) × (filter p xs ≡ x ∷ []) × (f x ≡ r)
      by [] q e = absurd (cc)
      by (y ∷ []) q e = (y, q, some-same e)
      by (y ∷ z ∷ ys) q e = absurd (cc)

-- paths that go on from one
pub same-behind : (path : List ℕ) (j k : ℕ) (q r : List ℕ) → path ++ j ∷ q ≡ path ++ k ∷ r → (j ≡ k) × (q ≡ r)
same-behind [] j k q r e = (heads e, tails e)
  where
    heads : j ∷ q ≡ k ∷ r → j ≡ k
    heads z = cc

    tails : j ∷ q ≡ k ∷ r → q ≡ r
    tails z = cc
same-behind (p ∷ path) j k q r e = same-behind path j k q r (tails e)
  where
    tails : p ∷ (path ++ j ∷ q) ≡ p ∷ (path ++ k ∷ r) → path ++ j ∷ q ≡ path ++ k ∷ r
    tails z = cc

module _ (m : MethodOf Name) (x : Name) where
  abbrev pub local : List ℕ → Name → Local
  local path n = local_in text_eq is_pseudo_variable m path n

  -- how many steps lead to the scope of a temporary x that a node reads
  abbrev pub scope_read : Placed Name → Option ℕ
  scope_read (path, var n) = if text_eq x n then temporary_scope (local path n) else None
  scope_read (path, t) = None

  abbrev pub reads_it : Placed Name → Bool
  reads_it e = is_some (scope_read e)

  told-read : (path : List ℕ) (u : TreeOf Name) → reads_it (path, u) ≡ true → (n : Name) × (u ≡ var n) × (text_eq x n ≡ true) × (is_some (temporary_scope (local path n)) ≡ true)
  told-read path (var n) e = by (text_eq x n) refl e
    where
      by : (b : Bool) → text_eq x n ≡ b → is_some (if b then temporary_scope (local path n) else None) ≡ true → (y : Name) × (var n ≡ var y) × (text_eq x y ≡ true) × (is_some (temporary_scope (local path y)) ≡ true)
      by true q e = (n, refl, q, e)
      by false q e = absurd (false≢true e)
  told-read path (literal l) e = absurd (false≢true e)
  told-read path (send r s args) e = absurd (false≢true e)
  told-read path (cascade r ms) e = absurd (false≢true e)
  told-read path (assign n t) e = absurd (false≢true e)
  told-read path (block ps ts ss c) e = absurd (false≢true e)
  told-read path (brace ts) e = absurd (false≢true e)
  told-read path (return t) e = absurd (false≢true e)

module _ (m : MethodOf Name) (x : Name) (proper : is_pseudo_variable x ≡ false) (path : List ℕ) (ps : List Name) (b : SequenceOf Name) (outer : List (PlacedScope Name)) (d : Declares m x path ps b outer) where
  -- a place where a node stands in a statement
  module _ (j : ℕ) (t : TreeOf Name) (at : nth (statement_trees b.statements) j ≡ Some t) (q : List ℕ) (u : TreeOf Name) (e : part_at t q ≡ Some u) where
    -- the name is the temporary there
    pub scope-there : (n : Name) → text_eq x n ≡ true → temporary_scope (local m x (path ++ j ∷ q) n) ≡ Some (length path)
    scope-there n told = ap (λ z. temporary_scope (local m x (path ++ j ∷ q) z)) (sym (text-same x n told)) ∙ ap temporary_scope (temporary-there m x path ps b outer d proper j t at q u e)

  module _ (j : ℕ) (t : TreeOf Name) (at : nth (statement_trees b.statements) j ≡ Some t) (q : List ℕ) (n : Name) (e : part_at t q ≡ Some (var n)) (told : text_eq x n ≡ true) where
    listed : Contains (nodes m.body) (path ++ j ∷ q, var n)
    listed = Contains-part_in m.body (path ++ j ∷ q) (var n) (stands-there m x path ps b outer d j t at q (var n) e)

    read-so : reads_it m x (path ++ j ∷ q, var n) ≡ true
    read-so = ap (λ c. is_some (if c then temporary_scope (local m x (path ++ j ∷ q) n) else None)) told ∙ ap (λ (o : Option ℕ). is_some o) (scope-there j t at q (var n) e n told)

    -- so it is one of the reads
    pub listed-all : (test : List ℕ → Bool) → list_all test (reads_of text_asked m x) ≡ true → test (path ++ j ∷ q) ≡ true
    listed-all test h = mapped-all (λ (z : Placed Name). z.0) (reads_it m x) test (nodes m.body) (path ++ j ∷ q, var n) h listed read-so

    pub listed-none : (test : List ℕ → Bool) → list_any test (reads_of text_asked m x) ≡ false → test (path ++ j ∷ q) ≡ false
    listed-none test h = mapped-none (λ (z : Placed Name). z.0) (reads_it m x) test (nodes m.body) (path ++ j ∷ q, var n) h listed read-so

    pub listed-one : (r : List ℕ) → only (reads_of text_asked m x) ≡ Some r → path ++ j ∷ q ≡ r
    listed-one r h =
        let one = mapped-one (λ (z : Placed Name). z.0) (reads_it m x) (nodes m.body) r h in
        ap (λ (z : Placed Name). z.0) (only-passes (reads_it m x) (nodes m.body) one.0 one.1 (path ++ j ∷ q, var n) listed read-so) ∙ one.2

  -- the only read
  pub record TheRead (r : List ℕ) : Type 0 where
    pub name : Name
    pub told : text_eq x name ≡ true
    pub inside : Inside m x path ps b r (var name)

  pub the-read : (r : List ℕ) → only (reads_of text_asked m x) ≡ Some r → TheRead r
  the-read r h =
      let one = mapped-one (λ (z : Placed Name). z.0) (reads_it m x) (nodes m.body) r h in
      let passes = one-passes (reads_it m x) (nodes m.body) one.0 one.1 in
      let n = told-read m x one.0.0 one.0.1 passes.1 in
      subst TheRead one.2
      (record {
        name = n.0;
        told = n.2;
        inside = d.reads_inside one.0.0 n.0 (part_in-Contains m.body one.0.0 one.0.1 passes.0 ∙ ap Some n.1) (ap (λ z. is_some (temporary_scope (local m x one.0.0 z))) (text-same x n.0 n.2) ∙ n.3);
      })

  -- the one assignment
  module _ (number : ℕ) (v : TreeOf Name) (alone : (r : List ℕ) (n : Name) (t : TreeOf Name) → part_in m.body r ≡ Some (assign n t) → text_eq x n ≡ true → is_some (temporary_scope (local m x r n)) ≡ true → r ≡ path ++ number ∷ []) where
    module _ (j : ℕ) (t : TreeOf Name) (at : nth (statement_trees b.statements) j ≡ Some t) where
      assigned-there : (q : List ℕ) (n : Name) (u : TreeOf Name) → part_at t q ≡ Some (assign n u) → text_eq x n ≡ true → (j ≡ number) × (q ≡ [])
      assigned-there q n u e told = same-behind path j number q [] (alone (path ++ j ∷ q) n u (stands-there m x path ps b outer d j t at q (assign n u) e) told (ap (λ (o : Option ℕ). is_some o) (scope-there j t at q (assign n u) e n told)))

      loose-so : (q : List ℕ) (u : TreeOf Name) → part_at t q ≡ Some u → ((j ≡ number) × (q ≡ []) → ⊥) → IsLoose x u
      loose-so q (var n) e apart = tt
      loose-so q (literal l) e apart = tt
      loose-so q (send r s args) e apart = tt
      loose-so q (cascade r ms) e apart = tt
      loose-so q (assign n u) e apart = by (text_eq x n) refl
        where
          by : (c : Bool) → text_eq x n ≡ c → c ≡ false
          by false f = refl
          by true f = absurd (apart (assigned-there q n u e f))
      loose-so q (block ps ts ss c) e apart = tt
      loose-so q (brace ts) e apart = tt
      loose-so q (return u) e apart = tt

      pub loose-statement : (j ≡ number → ⊥) → Below (Loose x) t
      loose-statement apart q u e = loose-so q u e (λ both. apart both.0)

      -- a node that neither reads nor assigns the name
      nameless-node : (u : TreeOf Name) → IsLoose x u → ((n : Name) → u ≡ var n → text_eq x n ≡ false) → list_any (text_eq x) (declared_by u) ≡ false → is_named_by text_eq x u ≡ false
      nameless-node (var n) l r f = ap (λ c. c || false) (r n refl)
      nameless-node (literal y) l r f = f
      nameless-node (send z s args) l r f = f
      nameless-node (cascade z ms) l r f = f
      nameless-node (assign n u) l r f = ap (λ c. c || false) l
      nameless-node (block qs ts ss c) l r f = f
      nameless-node (brace ts) l r f = f
      nameless-node (return u) l r f = f

      -- a part in which no read stands
      abbrev pub Unread : List ℕ → Type 0
      Unread way = (q : List ℕ) (n : Name) → part_at t (way ++ q) ≡ Some (var n) → text_eq x n ≡ false

      nameless-so : (way q : List ℕ) (u : TreeOf Name) → part_at t (way ++ q) ≡ Some u → Unread way → IsLoose x u → is_named_by text_eq x u ≡ false
      nameless-so way q u e r l = nameless-node u l (λ n s. r q n (e ∙ ap Some s)) (d.inside_free j t at (way ++ q) u e)

      pub statement-without : (j ≡ number → ⊥) → Unread [] → IsWithout x t
      statement-without apart r = tree-nameless x t (λ q u e. nameless-so [] q u e r (loose-statement apart q u e))

      -- the value of an assignment
      pub value-without : (n : Name) (u : TreeOf Name) → t ≡ assign n u → Unread (0 ∷ []) → IsWithout x u
      value-without n u s r = tree-nameless x u (λ q w e. let there = ap (λ z. part_at z (0 ∷ q)) s ∙ e in nameless-so (0 ∷ []) q w there r (loose-so (0 ∷ q) w there (λ both. longer q both.1)))
        where
          longer : (q : List ℕ) → 0 ∷ q ≡ [] → ⊥
          longer q z = cc
