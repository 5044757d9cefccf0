-- Uses of a name in code, by the paths of the nodes that name it, and by the closures which these enter.
use Rattle.std.proofs.Common.{◌≡◌, ℕ, zero, suc, ◌+◌, List, [], ◌∷◌, ◌++◌, Option, Some, None, refl, sym, ap, ◌∙◌, arith}
use Rattle.std.specs.Prelude.{Bool, true, false, not, cond, ◌&&◌, ◌||◌, if◌then◌else◌, map, filter, take, option_map, option_and_then, unwrap_or}
use Rattle.std.specs.List.{list_any}
use Rattle.std.specs.Option.{option_map_or}
use Rattle.std.proofs.lemmas.Bool.{false≢true}
use Rattle.std.proofs.lemmas.List.Folds.{list_any-append}
use Rattle.rb_base.specs.Names.{text_eq}
use Rattle.tree_model.specs.Tree.{TreeOf, var, literal, send, cascade, assign, block, brace, return, TreesOf, no_trees, more_trees, MessagesOf, no_messages, more_messages, StatementsOf, no_statements, more_statements}
use Rattle.tree_model.specs.Path.{append, count, nth, all_arguments, statement_trees, child, part_at}
use Rattle.tree_model.proofs.Children.{nth-append_right}
use Rattle.scope_model.specs.declared.local.Local.TheVariants.{Argument, Temporary, NotLocal}
use Rattle.scope_model.specs.SpecialNames.{is_pseudo_variable, control_form}
use Rattle.scope_model.specs.Control.{is_loop, meets, is_block, steps_in_place, is_closure_at}
use Rattle.scope_model.specs.Scope.{PlacedScope, own_scope, entered, is_among, local_by, declares}
use Rattle.scope_model.specs.Uses.{UseOf, enclosed}
use Rattle.run_model.specs.Values.{Name}
use Rattle.run_model.proofs.Finite.{by_cases}
use Rattle.run_model.proofs.RenamingLemmas.{text-same}
use Rattle.unfolded_calls.proofs.Running.{none-some}
use Rattle.unfolded_places.proofs.UsesApart.{uses_of, uses_of_all, uses_of_messages, uses_of_lines, is_use_outside, any-map, any-same, or-left, or-right}
use Rattle.moved_code_laws.proofs.LocalsThere.{or_local, local-inside}

-- a node declares a name
abbrev pub declares_here : TreeOf Name → Name → Bool
declares_here (block ps ts ss e) n = declares text_eq is_pseudo_variable ps ts n
declares_here t n = false

-- a node above the end of a path does
abbrev pub is_hidden : Name → TreeOf Name → List ℕ → Bool
is_hidden n t [] = false
is_hidden n t (k ∷ ks) = declares_here t n || option_map_or (λ c. is_hidden n c ks) (child t k) false

-- a node above the end of a path is a closure
abbrev pub enters_closure : Bool → TreeOf Name → List ℕ → Bool
enters_closure in_place t [] = false
enters_closure in_place t (k ∷ ks) = is_closure_at control_form in_place t [] || option_map_or (λ c. enters_closure (steps_in_place control_form t k) c ks) (child t k) false

-- the name that a node uses, and whether it assigns it
abbrev pub used_as : TreeOf Name → Option (Name × Bool)
used_as (var n) = Some (n, false)
used_as (assign n t) = Some (n, true)
used_as t = None

-- a tree of the first list
nth-in-front : (ts us : TreesOf Name) (k : ℕ) (c : TreeOf Name) → nth ts k ≡ Some c → nth (append ts us) k ≡ Some c
nth-in-front no_trees us k c e = none-some e
nth-in-front (more_trees t ts) us zero c e = e
nth-in-front (more_trees t ts) us (suc k) c e = nth-in-front ts us k c e

both-false : (a b : Bool) → a ≡ false → b ≡ false → (a || b) ≡ false
both-false a b p q = λ i. p i || q i

none-last : (a : Bool) → (a && false) ≡ false
none-last true = refl
none-last false = refl

-- none of them among those that are kept
none-kept : {X : Type 0} (p test : X → Bool) (xs : List X) → list_any p xs ≡ false → list_any p (filter test xs) ≡ false
none-kept p test [] e = refl
none-kept p test (x ∷ xs) e = by (test x) (none-kept p test xs (or-right (p x) (list_any p xs) e))
  where
    by : (b : Bool) → list_any p (filter test xs) ≡ false → list_any p (cond b (x ∷ filter test xs) (filter test xs)) ≡ false
    by true ih = both-false (p x) (list_any p (filter test xs)) (or-left (p x) (list_any p xs) e) ih
    by false ih = ih

-- none of them where all that pass are left out
none-left : {X : Type 0} (p test : X → Bool) (xs : List X) → ((x : X) → p x ≡ true → test x ≡ false) → list_any p (filter test xs) ≡ false
none-left p test [] h = refl
none-left p test (x ∷ xs) h = by (test x) refl (none-left p test xs h)
  where
    by : (b : Bool) → test x ≡ b → list_any p (filter test xs) ≡ false → list_any p (cond b (x ∷ filter test xs) (filter test xs)) ≡ false
    by true q ih = both-false (p x) (list_any p (filter test xs)) (by_cases (p x) (λ t. absurd (false≢true (sym (h x t) ∙ q))) (λ f. f)) ih
    by false q ih = ih

module _ (n : Name) (counts : Bool → Bool) where
  -- a use of the name that counts, in a closure; or, where all the code stands in one, anywhere
  abbrev pub is_use : Bool → UseOf Name → Bool
  is_use far u = text_eq n u.name && (counts u.is_assignment && (far || u.in_closure))

  -- no node that uses the name so stands in a closure
  abbrev pub IsApart : Bool → Bool → TreeOf Name → Type 0
  IsApart far in_place t = (q : List ℕ) (w : TreeOf Name) (x : Name) (b : Bool) → part_at t q ≡ Some w → used_as w ≡ Some (x, b) → text_eq n x ≡ true → counts b ≡ true → is_hidden n t q ≡ false → (far || enters_closure in_place t q) ≡ false

  abbrev AllApart : Bool → Bool → TreesOf Name → Type 0
  AllApart far in_place ts = (k : ℕ) (c : TreeOf Name) → nth ts k ≡ Some c → IsApart far in_place c

  -- below a node that is no block
  below : (far in_place : Bool) (t : TreeOf Name) → is_block t ≡ false → ((m : Name) → declares_here t m ≡ false) → IsApart far in_place t → (k : ℕ) (c : TreeOf Name) → child t k ≡ Some c → IsApart far (steps_in_place control_form t k) c
  below far in_place t loose free h k c e = λ q w x b p u s r f.
      sym (ap (λ o. far || (is_block t && not in_place || option_map_or (λ y. enters_closure (steps_in_place control_form t k) y q) o false)) e ∙ ap (λ z. far || (z && not in_place || enters_closure (steps_in_place control_form t k) c q)) loose)
      ∙ h (k ∷ q) w x b (ap (option_and_then (λ y. part_at y q)) e ∙ p) u s r (ap (λ o. declares_here t n || option_map_or (λ y. is_hidden n y q) o false) e ∙ both-false (declares_here t n) (is_hidden n c q) (free n) f)

  here-apart : (far : Bool) (x : Name) (b : Bool) → (text_eq n x ≡ true → counts b ≡ true → far ≡ false) → is_use far (record { name = x; is_assignment = b; in_closure = false }) ≡ false
  here-apart far x b h = by (text_eq n x) (counts b) far h
    where
      by : (s r f : Bool) → (s ≡ true → r ≡ true → f ≡ false) → (s && (r && (f || false))) ≡ false
      by true true true h = absurd (false≢true (sym (h refl refl)))
      by true true false h = refl
      by true false f h = refl
      by false r f h = refl

  no-more : (far b : Bool) → (far || b) ≡ false → far ≡ false
  no-more true b e = absurd (false≢true (sym e))
  no-more false b e = refl

  -- what stands in a closure
  far-inside : (far : Bool) (us : List (UseOf Name)) → list_any (is_use far) (map enclosed us) ≡ list_any (is_use true) us
  far-inside far us = any-map enclosed (is_use far) us ∙ any-same (λ u. is_use far (enclosed u)) (is_use true) us (λ u. ap (λ z. text_eq n u.name && (counts u.is_assignment && z)) (always far))
    where
      always : (b : Bool) → (b || true) ≡ true
      always true = refl
      always false = refl

  use-named : (far : Bool) (u : UseOf Name) → is_use far u ≡ true → text_eq n u.name ≡ true
  use-named far u e = by (text_eq n u.name) e
    where
      by : (s : Bool) → (s && (counts u.is_assignment && (far || u.in_closure))) ≡ true → s ≡ true
      by true e = refl
      by false e = absurd (false≢true e)

  module _ (ps ts : List Name) (ss : StatementsOf Name) where
    -- uses in a block by whether it declares the name
    block-apart : (far : Bool) → (declares text_eq is_pseudo_variable ps ts n ≡ false → list_any (is_use far) (uses_of_lines ss) ≡ false) → list_any (is_use far) (filter (is_use_outside ps ts) (uses_of_lines ss)) ≡ false
    block-apart far h =
        by_cases (declares text_eq is_pseudo_variable ps ts n)
        (λ d. none-left (is_use far) (is_use_outside ps ts) (uses_of_lines ss) (λ u e. ap not (ap (declares text_eq is_pseudo_variable ps ts) (sym (text-same n u.name (use-named far u e))) ∙ d)))
        (λ d. none-kept (is_use far) (is_use_outside ps ts) (uses_of_lines ss) (h d))

  mutual
    pub tree-apart : (far in_place : Bool) (t : TreeOf Name) → IsApart far in_place t → list_any (is_use far) (uses_of in_place t) ≡ false
    tree-apart far in_place (var x) h = both-false (is_use far (record { name = x; is_assignment = false; in_closure = false })) false (here-apart far x false (λ s r. no-more far false (h [] (var x) x false refl refl s r refl))) refl
    tree-apart far in_place (literal l) h = refl
    tree-apart far in_place (send r s args) h =
        list_any-append (is_use far) (uses_of (is_loop (control_form s) && meets (control_form s) r args) r) (uses_of_all (meets (control_form s) r args) args)
        ∙ both-false _ _ (tree-apart far (is_loop (control_form s) && meets (control_form s) r args) r (below far in_place (send r s args) refl (λ m. refl) h 0 r refl))
        (trees-apart far (meets (control_form s) r args) args (λ k c e. below far in_place (send r s args) refl (λ m. refl) h (suc k) c e))
    tree-apart far in_place (cascade r ms) h =
        list_any-append (is_use far) (uses_of false r) (uses_of_messages ms)
        ∙ both-false _ _ (tree-apart far false r (below far in_place (cascade r ms) refl (λ m. refl) h 0 r refl)) (messages-apart far ms (λ k c e. below far in_place (cascade r ms) refl (λ m. refl) h (suc k) c e))
    tree-apart far in_place (assign x t) h =
        both-false (is_use far (record { name = x; is_assignment = true; in_closure = false })) _ (here-apart far x true (λ s r. no-more far false (h [] (assign x t) x true refl refl s r refl)))
        (tree-apart far false t (below far in_place (assign x t) refl (λ m. refl) h 0 t refl))
    tree-apart far true (block ps ts ss e) h =
        block-apart ps ts ss far
        (λ d. lines-apart far ss (λ k c f. λ q w x b p u s r g.
        sym (ap (λ o. far || option_map_or (λ y. enters_closure false y q) o false) f) ∙ h (k ∷ q) w x b (ap (option_and_then (λ y. part_at y q)) f ∙ p) u s r (ap (λ o. declares text_eq is_pseudo_variable ps ts n || option_map_or (λ y. is_hidden n y q) o false) f ∙ both-false _ _ d g)))
    tree-apart far false (block ps ts ss e) h =
        far-inside far (filter (is_use_outside ps ts) (uses_of_lines ss))
        ∙ block-apart ps ts ss true
        (λ d. lines-apart true ss (λ k c f. λ q w x b p u s r g. absurd (false≢true (sym (h (k ∷ q) w x b (ap (option_and_then (λ y. part_at y q)) f ∙ p) u s r (ap (λ o. declares text_eq is_pseudo_variable ps ts n || option_map_or (λ y. is_hidden n y q) o false) f ∙ both-false _ _ d g)) ∙ always far))))
      where
        always : (b : Bool) → (b || true) ≡ true
        always true = refl
        always false = refl
    tree-apart far in_place (brace ts) h = trees-apart far false ts (λ k c e. below far in_place (brace ts) refl (λ m. refl) h k c e)
    tree-apart far in_place (return t) h = tree-apart far false t (below far in_place (return t) refl (λ m. refl) h 0 t refl)

    trees-apart : (far in_place : Bool) (ts : TreesOf Name) → AllApart far in_place ts → list_any (is_use far) (uses_of_all in_place ts) ≡ false
    trees-apart far in_place no_trees h = refl
    trees-apart far in_place (more_trees t ts) h =
        list_any-append (is_use far) (uses_of in_place t) (uses_of_all in_place ts) ∙ both-false _ _ (tree-apart far in_place t (h 0 t refl)) (trees-apart far in_place ts (λ k c e. h (suc k) c e))

    messages-apart : (far : Bool) (ms : MessagesOf Name) → AllApart far false (all_arguments ms) → list_any (is_use far) (uses_of_messages ms) ≡ false
    messages-apart far no_messages h = refl
    messages-apart far (more_messages s args ms) h =
        list_any-append (is_use far) (uses_of_all false args) (uses_of_messages ms)
        ∙ both-false _ _ (trees-apart far false args (λ k c e. h k c (nth-in-front args (all_arguments ms) k c e))) (messages-apart far ms (λ k c e. h (count args + k) c (nth-append_right args (all_arguments ms) (count args + k) k refl ∙ e)))

    lines-apart : (far : Bool) (ss : StatementsOf Name) → AllApart far false (statement_trees ss) → list_any (is_use far) (uses_of_lines ss) ≡ false
    lines-apart far no_statements h = refl
    lines-apart far (more_statements c t ss) h = list_any-append (is_use far) (uses_of false t) (uses_of_lines ss) ∙ both-false _ _ (tree-apart far false t (h 0 t refl)) (lines-apart far ss (λ k x e. h (suc k) x e))

-- what stands in a closure that a path enters
pub closure-entered : (p : PlacedScope Name → Bool) (q : List ℕ) (d : ℕ) (in_place : Bool) (t : TreeOf Name) → ((s : PlacedScope Name) (j : ℕ) → s.0 ≡ d + j → is_closure_at control_form in_place t (take j q) ≡ true → p s ≡ true) → enters_closure in_place t q ≡ true → list_any p (entered d t q) ≡ true
closure-entered p [] d in_place t h e = absurd (false≢true e)
closure-entered p (k ∷ ks) d in_place t h e = by (child t k) refl e (λ c. closure-entered p ks (d + 1) (steps_in_place control_form t k) c)
  where
    either : (a b : Bool) → (a || b) ≡ true → b ≡ false → a ≡ true
    either true b e f = refl
    either false b e f = absurd (false≢true (sym f ∙ e))

    last : (a b : Bool) → b ≡ true → (a || b) ≡ true
    last true b e = refl
    last false b e = e

    first : (a b : Bool) → a ≡ true → (a || b) ≡ true
    first true b e = refl
    first false b e = absurd (false≢true e)

    none-off : d ≡ d + 0
    none-off = omega arith

    next : (j : ℕ) → d + 1 + j ≡ d + suc j
    next j = omega arith

    own : is_closure_at control_form in_place t [] ≡ true → list_any p (own_scope d t) ≡ true
    own z = at t (λ s g. h s 0 (g ∙ none-off) z) z
      where
        at : (u : TreeOf Name) → ((s : PlacedScope Name) → s.0 ≡ d → p s ≡ true) → is_closure_at control_form in_place u [] ≡ true → list_any p (own_scope d u) ≡ true
        at (var n) g z = absurd (false≢true z)
        at (literal l) g z = absurd (false≢true z)
        at (send r s args) g z = absurd (false≢true z)
        at (cascade r ms) g z = absurd (false≢true z)
        at (assign n u) g z = absurd (false≢true z)
        at (block ps ts ss c) g z = first (p (d, record { arguments = ps; temporaries = ts; statements = ss })) false (g (d, record { arguments = ps; temporaries = ts; statements = ss }) refl)
        at (brace ts) g z = absurd (false≢true z)
        at (return u) g z = absurd (false≢true z)

    by : (o : Option (TreeOf Name)) → child t k ≡ o → (is_closure_at control_form in_place t [] || option_map_or (λ c. enters_closure (steps_in_place control_form t k) c ks) o false) ≡ true →
        ((c : TreeOf Name) → ((s : PlacedScope Name) (j : ℕ) → s.0 ≡ d + 1 + j → is_closure_at control_form (steps_in_place control_form t k) c (take j ks) ≡ true → p s ≡ true) → enters_closure (steps_in_place control_form t k) c ks ≡ true → list_any p (entered (d + 1) c ks) ≡ true) →
        list_any p (unwrap_or (option_map (λ c. entered (d + 1) c ks) o) [] ++ own_scope d t) ≡ true
    by None r e ih = list_any-append p [] (own_scope d t) ∙ last false (list_any p (own_scope d t)) (own (either (is_closure_at control_form in_place t []) false e refl))
    by (Some c) r e ih =
        list_any-append p (entered (d + 1) c ks) (own_scope d t)
        ∙ by_cases (enters_closure (steps_in_place control_form t k) c ks)
        (λ z. first (list_any p (entered (d + 1) c ks)) (list_any p (own_scope d t)) (ih c (λ s j g y. h s (suc j) (g ∙ next j) (ap (λ o. unwrap_or (option_map (λ x. is_closure_at control_form (steps_in_place control_form t k) x (take j ks)) o) false) r ∙ y)) z))
        (λ z. last (list_any p (entered (d + 1) c ks)) (list_any p (own_scope d t)) (own (either (is_closure_at control_form in_place t []) (enters_closure (steps_in_place control_form t k) c ks) e z)))

-- what no node above declares is no local of the blocks between
pub shown-local : (n : Name) → is_pseudo_variable n ≡ false → (q : List ℕ) (d : ℕ) (t : TreeOf Name) → is_hidden n t q ≡ false → local_by text_eq (entered d t q) n ≡ NotLocal
shown-local n p [] d t e = refl
shown-local n p (k ∷ ks) d t e = by (child t k) e (λ c. shown-local n p ks (d + 1) c)
  where
    none : (a b : Bool) → (a || b) ≡ false → (if a then Argument d else if b then Temporary d else NotLocal) ≡ NotLocal
    none true b e = absurd (false≢true (sym e))
    none false true e = absurd (false≢true (sym e))
    none false false e = refl

    own : (u : TreeOf Name) → declares_here u n ≡ false → local_by text_eq (own_scope d u) n ≡ NotLocal
    own (var m) e = refl
    own (literal l) e = refl
    own (send r s args) e = refl
    own (cascade r ms) e = refl
    own (assign m u) e = refl
    own (block ps ts ss c) e = none (is_among text_eq ps n) (is_among text_eq ts n) (ap (λ b. not b && (is_among text_eq ps n || is_among text_eq ts n)) (sym p) ∙ e)
    own (brace ts) e = refl
    own (return u) e = refl

    by : (o : Option (TreeOf Name)) → (declares_here t n || option_map_or (λ c. is_hidden n c ks) o false) ≡ false → ((c : TreeOf Name) → is_hidden n c ks ≡ false → local_by text_eq (entered (d + 1) c ks) n ≡ NotLocal) →
        local_by text_eq (unwrap_or (option_map (λ c. entered (d + 1) c ks) o) [] ++ own_scope d t) n ≡ NotLocal
    by None e ih = own t (or-left (declares_here t n) false e)
    by (Some c) e ih =
        local-inside (entered (d + 1) c ks) (own_scope d t) n ∙ ap (λ l. or_local l (local_by text_eq (own_scope d t) n)) (ih c (or-right (declares_here t n) (is_hidden n c ks) e)) ∙ own t (or-left (declares_here t n) (is_hidden n c ks) e)
