-- Code in which a plain expression stands for each read of a temporary, by what names stand for at each place.
use Rattle.std.proofs.Common.{◌≡◌, ◌≤◌, ℕ, suc, ◌+◌, List, [], ◌∷◌, ◌++◌, refl, sym, ap, ◌∙◌, subst, arith}
use Rattle.std.specs.Prelude.{Bool, true, false, ◌&&◌, if◌then◌else◌}
use Rattle.std.specs.List.{AllByRecursion}
use Rattle.std.proofs.lemmas.Bool.{false≢true, eqb-true}
use Rattle.rb_base.specs.Names.{text_eq}
use Rattle.tree_model.specs.Tree.{TreeOf, var, literal, send, cascade, assign, block, brace, return, TreesOf, no_trees, more_trees, MessagesOf, no_messages, more_messages, StatementsOf, no_statements, more_statements}
use Rattle.tree_model.specs.Path.{count, all_arguments, statement_trees}
use Rattle.scope_model.specs.declared.local.Local.{Local}
use Rattle.scope_model.specs.declared.local.Local.TheVariants.{Argument, Temporary, NotLocal}
use Rattle.scope_model.specs.Control.{is_plain_block, are_plain_blocks}
use Rattle.scope_model.specs.SpecialNames.{is_pseudo_variable, control_form}
use Rattle.scope_model.specs.Scope.{PlacedScope, is_among, local_by}
use Rattle.image_model.specs.Means.{MeaningOf, means_by}
use Rattle.run_model.specs.Values.{Name}
use Rattle.run_model.proofs.RenamingLemmas.{text-same}
use Rattle.resolved_model.specs.Resolving.{MeantAt, below}
use Rattle.resolved_model.specs.Environments.{Declared, opened, kind_in, declared_in}
use Rattle.resolved_model.proofs.Environments.{kind_of, kind-scopes}
use Rattle.resolved_model.proofs.ResolvingLemmas.{IsInScopes, AreInScopes, below-node, first-node, other-nodes, first-arguments, other-arguments}
use Rattle.mapped_model.proofs.NodesBelow.{FactAt, Below, Among, below-children, first-below, others-below, first-message, other-messages}
use Rattle.unfolded_calls.specs.SameContexts.{IsOutside}
use Rattle.unfolded_places.specs.Becoming.{Becomes, at_part, at_literal, in_send, in_cascade, in_assign, in_block, in_brace, in_return, BecomeAll, all_none, all_more, BecomeMessages, messages_none, messages_more, BecomeLines, lines_none, lines_more}
use Rattle.unfolded_places.specs.Inlining.{IsFreeOf}
use Rattle.unfolded_places.proofs.NamesThere.{opened-append}
use Rattle.unfolded_places.proofs.Replaced.{meets-same}
use Rattle.command_model.specs.SameMethods.{same_meaning}
use Rattle.moved_code_laws.proofs.LocalsThere.{or_local, local-inside, IsDeep, IsOfDeep, local-deep}
use Rattle.moved_code_laws.proofs.OneMeaning.{outside-alike}
use Rattle.moved_code_laws.proofs.Saying.{alone, said, said_by, said-scopes}
use Rattle.let_laws.specs.Lets.{value_other, value_read, valued}
use Rattle.let_laws.proofs.Unnamed.{told-back}
use Rattle.let_laws.proofs.Valued.{name_valued, tree_valued, trees_valued, messages_valued, lines_valued}

-- at most so many steps lead to a scope
abbrev pub IsNear : ℕ → PlacedScope Name → Type 0
IsNear n p = p.0 ≤ n

-- and to where a local is declared
abbrev pub IsOfNear : ℕ → Local → Type 0
IsOfNear n (Argument scope) = scope ≤ n
IsOfNear n (Temporary scope) = scope ≤ n
IsOfNear n NotLocal = Unit {0}

pub local-near : (n : ℕ) (ps : List (PlacedScope Name)) (y : Name) → AllByRecursion (IsNear n) ps → IsOfNear n (local_by text_eq ps y)
local-near n [] y a = tt
local-near n (p ∷ ps) y a = by (is_among text_eq p.1.arguments y) (is_among text_eq p.1.temporaries y) (local-near n ps y a.1)
  where
    by : (b c : Bool) → IsOfNear n (local_by text_eq ps y) → IsOfNear n (if b then Argument p.0 else if c then Temporary p.0 else local_by text_eq ps y)
    by true c ih = a.0
    by false true ih = a.0
    by false false ih = ih

-- a temporary of a scope is none of the scopes further in
none-further : (n : ℕ) (l k : Local) → IsOfDeep (suc n) l → or_local l k ≡ Temporary n → l ≡ NotLocal
none-further n (Argument s) k deep e = absurd (cc)
none-further n (Temporary s) k deep e = let same : s ≡ n = cc in absurd (omega (arith, deep, same))
none-further n NotLocal k deep e = refl

-- what means the same further in is declared by no scope there
not-captured : (n : ℕ) (l k : Local) (g : MeaningOf Name) → IsOutside g → IsOfNear n k → IsOfDeep (suc n) l → same_meaning text_eq (means_by k g) (means_by (or_local l k) g) ≡ true → l ≡ NotLocal
not-captured n NotLocal k g o near deep e = refl
not-captured n (Argument s) (Argument t) g o near deep e = let same = eqb-true t s e in absurd (omega (arith, near, deep, same))
not-captured n (Argument s) (Temporary t) g o near deep e = absurd (false≢true e)
not-captured n (Argument s) NotLocal g o near deep e = absurd (no (outside-alike g (Argument s) g o e).0)
  where
    no : Argument s ≡ NotLocal → ⊥
    no q = cc
not-captured n (Temporary s) (Argument t) g o near deep e = absurd (false≢true e)
not-captured n (Temporary s) (Temporary t) g o near deep e = let same = eqb-true t s e in absurd (omega (arith, near, deep, same))
not-captured n (Temporary s) NotLocal g o near deep e = absurd (no (outside-alike g (Temporary s) g o e).0)
  where
    no : Temporary s ≡ NotLocal → ⊥
    no q = cc

-- a value that is no block comes into no control send
module _ (x : Name) (v : TreeOf Name) (unblocked : is_plain_block v ≡ false) where
  name-plain : (n : Name) (b : Bool) → is_plain_block (if b then v else var n) ≡ false
  name-plain n true = unblocked
  name-plain n false = refl

  plain-valued : (t : TreeOf Name) → is_plain_block t ≡ is_plain_block (tree_valued x v t)
  plain-valued (var n) = sym (name-plain n (text_eq x n))
  plain-valued (literal l) = refl
  plain-valued (send r s args) = refl
  plain-valued (cascade r ms) = refl
  plain-valued (assign n t) = refl
  plain-valued (block ps ts ss e) = refl
  plain-valued (brace ts) = refl
  plain-valued (return t) = refl

  count-valued : (ts : TreesOf Name) → count ts ≡ count (trees_valued x v ts)
  count-valued no_trees = refl
  count-valued (more_trees t ts) = ap (λ n. n + 1) (count-valued ts)

  blocks-valued : (ts : TreesOf Name) → are_plain_blocks ts ≡ are_plain_blocks (trees_valued x v ts)
  blocks-valued no_trees = refl
  blocks-valued (more_trees t ts) = λ i. plain-valued t i && blocks-valued ts i

-- f is what names mean outside all scopes; the temporary x is declared by the innermost of these scopes, to which n steps lead; A and B are what is declared there with x and without it
module _ (f : Name → MeaningOf Name) (outside : (y : Name) → IsOutside (f y)) (x : Name) (proper : is_pseudo_variable x ≡ false) (v : TreeOf Name) (unblocked : is_plain_block v ≡ false) (n : ℕ) (base : List (PlacedScope Name)) (near : AllByRecursion (IsNear n) base) (A B : List Declared) where
  -- where names stand for this, x is the temporary, and a name that is the value means the same
  abbrev pub IsKeptRead : (Name → Local) → Type 0
  IsKeptRead loc = (loc x ≡ Temporary n) × ((y : Name) → v ≡ var y → is_pseudo_variable y ≡ false → same_meaning text_eq (means_by (local_by text_eq base y) (f y)) (means_by (loc y) (f y)) ≡ true)

  -- a read of x is so, and no node assigns it
  abbrev pub FineNode : (Name → Local) → TreeOf Name → Type 0
  FineNode loc (var y) = text_eq x y ≡ true → IsKeptRead loc
  FineNode loc (assign y t) = text_eq x y ≡ false
  FineNode loc t = Unit {0}

  abbrev pub Fine : MeantAt → FactAt
  Fine at path u = FineNode (λ y. said (at path y)) u

  module _ (inner : List (PlacedScope Name)) (deep : AllByRecursion (IsDeep (suc n)) inner) (loc : Name → Local) (told : (y : Name) → loc y ≡ said_by (inner ++ base) y) where
    said-proper : (y : Name) → is_pseudo_variable y ≡ false → loc y ≡ or_local (local_by text_eq inner y) (local_by text_eq base y)
    said-proper y p = told y ∙ ap (λ b. if b then NotLocal else local_by text_eq (inner ++ base) y) p ∙ local-inside inner base y

    not-there : (y : Name) → local_by text_eq inner y ≡ NotLocal → kind_in (declared_in inner) y ≡ kind_of NotLocal
    not-there y e = kind-scopes inner y ∙ ap kind_of e

    free-value : IsKeptRead loc → (u : TreeOf Name) → v ≡ u → IsFreeOf (declared_in inner) u
    free-value k (var y) e = λ p. not-there y
        (not-captured n (local_by text_eq inner y) (local_by text_eq base y) (f y) (outside y) (local-near n base y near) (local-deep (suc n) inner y deep)
        (subst (λ l. same_meaning text_eq (means_by (local_by text_eq base y) (f y)) (means_by l (f y)) ≡ true) (said-proper y p) (k.1 y e p)))
    free-value k (literal l) e = tt
    free-value k (send r s args) e = tt
    free-value k (cascade r ms) e = tt
    free-value k (assign y t) e = tt
    free-value k (block ps ts ss c) e = tt
    free-value k (brace ts) e = tt
    free-value k (return t) e = tt

    read-valued : (y : Name) → (text_eq x y ≡ true → IsKeptRead loc) → Becomes (valued x v A B) (declared_in inner ++ A) (declared_in inner ++ B) (var y) (name_valued x v y)
    read-valued y kept = by (text_eq x y) refl
      where
        by : (b : Bool) → text_eq x y ≡ b → Becomes (valued x v A B) (declared_in inner ++ A) (declared_in inner ++ B) (var y) (if b then v else var y)
        by false e = at_part (value_other y (told-back x y e))
        by true e =
            let k = kept e in
            subst (λ z. Becomes (valued x v A B) (declared_in inner ++ A) (declared_in inner ++ B) (var z) v) (text-same x y e)
            (at_part (value_read (declared_in inner) (not-there x (none-further n (local_by text_eq inner x) (local_by text_eq base x) (local-deep (suc n) inner x deep) (sym (said-proper x proper) ∙ k.0))) (free-value k v refl)))

  mutual
    -- a node
    pub tree-value : (t : TreeOf Name) (d : ℕ) (inner : List (PlacedScope Name)) (at : MeantAt) → suc n ≤ d → AllByRecursion (IsDeep (suc n)) inner → IsInScopes alone d t (inner ++ base) at → Below (Fine at) t →
        Becomes (valued x v A B) (declared_in inner ++ A) (declared_in inner ++ B) t (tree_valued x v t)
    tree-value (var y) d inner at q deep h p = read-valued inner deep (λ z. said (at [] z)) (λ z. ap said (h [] z) ∙ said-scopes (inner ++ base) z) y (p [] (var y) refl)
    tree-value (literal l) d inner at q deep h p = at_literal l
    tree-value (send r s args) d inner at q deep h p =
        let k = below-node alone d (send r s args) (inner ++ base) at h in
        let j = below-children (Fine at) (send r s args) p in
        in_send s tt (λ e. tt) (λ e. sym (meets-same (control_form s) r (tree_valued x v r) args (trees_valued x v args) (plain-valued x v unblocked r) (count-valued x v unblocked args) (blocks-valued x v unblocked args)) ∙ e)
        (tree-value r (d + 1) inner (below 0 at) (omega (arith, q)) deep (first-node alone (d + 1) r args 0 (inner ++ base) at k) (first-below (Fine at) r args 0 j))
        (trees-value args (d + 1) 1 inner at (omega (arith, q)) deep (other-nodes alone (d + 1) r args 0 (inner ++ base) at k) (others-below (Fine at) r args 0 j))
    tree-value (cascade r ms) d inner at q deep h p =
        let k = below-node alone d (cascade r ms) (inner ++ base) at h in
        let j = below-children (Fine at) (cascade r ms) p in
        in_cascade (tree-value r (d + 1) inner (below 0 at) (omega (arith, q)) deep (first-node alone (d + 1) r (all_arguments ms) 0 (inner ++ base) at k) (first-below (Fine at) r (all_arguments ms) 0 j))
        (messages-value ms (d + 1) 1 inner at (omega (arith, q)) deep (other-nodes alone (d + 1) r (all_arguments ms) 0 (inner ++ base) at k) (others-below (Fine at) r (all_arguments ms) 0 j))
    tree-value (assign y t) d inner at q deep h p =
        in_assign y (told-back x y (p [] (assign y t) refl))
        (tree-value t (d + 1) inner (below 0 at) (omega (arith, q)) deep (first-node alone (d + 1) t no_trees 0 (inner ++ base) at (below-node alone d (assign y t) (inner ++ base) at h)) (first-below (Fine at) t no_trees 0 (below-children (Fine at) (assign y t) p)))
    tree-value (block ps ts ss e) d inner at q deep h p =
        in_block ps ts e e
        (subst (λ E. BecomeLines (valued x v A B) E (opened ps ts (declared_in inner ++ B)) ss (lines_valued x v ss)) (sym (opened-append ps ts (declared_in inner) A))
        (subst (λ E. BecomeLines (valued x v A B) (opened ps ts (declared_in inner) ++ A) E ss (lines_valued x v ss)) (sym (opened-append ps ts (declared_in inner) B))
        (lines-value ss (d + 1) 0 ((d, record { arguments = ps; temporaries = ts; statements = ss }) ∷ inner) at (omega (arith, q)) (q, deep) (below-node alone d (block ps ts ss e) (inner ++ base) at h) (below-children (Fine at) (block ps ts ss e) p))))
    tree-value (brace ts) d inner at q deep h p =
        in_brace (trees-value ts (d + 1) 0 inner at (omega (arith, q)) deep (below-node alone d (brace ts) (inner ++ base) at h) (below-children (Fine at) (brace ts) p))
    tree-value (return t) d inner at q deep h p =
        in_return tt
        (tree-value t (d + 1) inner (below 0 at) (omega (arith, q)) deep (first-node alone (d + 1) t no_trees 0 (inner ++ base) at (below-node alone d (return t) (inner ++ base) at h)) (first-below (Fine at) t no_trees 0 (below-children (Fine at) (return t) p)))

    trees-value : (ts : TreesOf Name) (d k : ℕ) (inner : List (PlacedScope Name)) (at : MeantAt) → suc n ≤ d → AllByRecursion (IsDeep (suc n)) inner → AreInScopes alone d ts k (inner ++ base) at → Among (Fine at) ts k →
        BecomeAll (valued x v A B) (declared_in inner ++ A) (declared_in inner ++ B) ts (trees_valued x v ts)
    trees-value no_trees d k inner at q deep h p = all_none
    trees-value (more_trees t ts) d k inner at q deep h p =
        all_more (tree-value t d inner (below k at) q deep (first-node alone d t ts k (inner ++ base) at h) (first-below (Fine at) t ts k p)) (trees-value ts d (suc k) inner at q deep (other-nodes alone d t ts k (inner ++ base) at h) (others-below (Fine at) t ts k p))

    messages-value : (ms : MessagesOf Name) (d k : ℕ) (inner : List (PlacedScope Name)) (at : MeantAt) → suc n ≤ d → AllByRecursion (IsDeep (suc n)) inner → AreInScopes alone d (all_arguments ms) k (inner ++ base) at → Among (Fine at) (all_arguments ms) k →
        BecomeMessages (valued x v A B) (declared_in inner ++ A) (declared_in inner ++ B) ms (messages_valued x v ms)
    messages-value no_messages d k inner at q deep h p = messages_none
    messages-value (more_messages s args ms) d k inner at q deep h p =
        messages_more s tt (trees-value args d k inner at q deep (first-arguments alone d args (all_arguments ms) k (inner ++ base) at h) (first-message (Fine at) args (all_arguments ms) k p))
        (messages-value ms d (k + count args) inner at q deep (other-arguments alone d args (all_arguments ms) k (inner ++ base) at h) (other-messages (Fine at) args (all_arguments ms) k p))

    pub lines-value : (ss : StatementsOf Name) (d k : ℕ) (inner : List (PlacedScope Name)) (at : MeantAt) → suc n ≤ d → AllByRecursion (IsDeep (suc n)) inner → AreInScopes alone d (statement_trees ss) k (inner ++ base) at → Among (Fine at) (statement_trees ss) k →
        BecomeLines (valued x v A B) (declared_in inner ++ A) (declared_in inner ++ B) ss (lines_valued x v ss)
    lines-value no_statements d k inner at q deep h p = lines_none
    lines-value (more_statements c t ss) d k inner at q deep h p =
        lines_more c c (tree-value t d inner (below k at) q deep (first-node alone d t (statement_trees ss) k (inner ++ base) at h) (first-below (Fine at) t (statement_trees ss) k p))
        (lines-value ss d (suc k) inner at q deep (other-nodes alone d t (statement_trees ss) k (inner ++ base) at h) (others-below (Fine at) t (statement_trees ss) k p))
