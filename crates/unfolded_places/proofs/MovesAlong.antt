-- Code with a part at the end of a path unfolds to that with another part there, where the parts do and temporaries that no closure assigns are steady.
use Rattle.std.proofs.Common.{◌≡◌, ℕ, zero, suc, ◌+◌, ◌-◌, List, [], ◌∷◌, ◌++◌, length, Option, Some, None, refl, sym, ap, ◌∙◌, subst, arith, append_assoc}
use Rattle.std.specs.Prelude.{Bool, true, false, ◌&&◌, if◌then◌else◌, nat_lt, option_map, option_and_then, unwrap_or, filter, not}
use Rattle.std.proofs.lemmas.Bool.{false≢true, ltb-false}
use Rattle.scope_model.specs.SpecialNames.{control_form}
use Rattle.scope_model.specs.Control.{is_plain_block, is_loop, meets, is_control, steps_in_place}
use Rattle.scope_model.specs.Scope.{PlacedScope, ScopeOf, own_scope, entered}
use Rattle.tree_model.specs.Tree.{TreeOf, var, literal, send, cascade, assign, block, brace, return, TreesOf, no_trees, more_trees, MessagesOf, no_messages, more_messages, StatementsOf, no_statements, more_statements}
use Rattle.tree_model.specs.Path.{append, count, nth, all_arguments, statement_trees, child, part_at, with_nth, with_statement, with_argument, with_child, replaced, statements_replaced}
use Rattle.tree_model.proofs.Children.{nth-append_right}
use Rattle.image_model.specs.ImageNames.{OptionNames}
use Rattle.image_model.specs.Means.{MeaningOf}
use Rattle.run_model.specs.Values.{Name}
use Rattle.resolved_model.specs.ResolvedTrees.{block_of}
use Rattle.resolved_model.specs.ResolvedImages.{ResolvedImage}
use Rattle.resolved_model.specs.ResolvedShapes.{plain_code}
use Rattle.resolved_model.specs.Environments.{Declared, opened, declared_in, tree_in, trees_in, messages_in, statements_in}
use Rattle.unfolded_calls.specs.Unfolding.{Allowed, Context, scoped, in_closure, Unfolds, same_cascade, same_brace, same_return, UnfoldsAll, same_more, UnfoldsMessages, same_next, UnfoldsLines, same_line}
use Rattle.unfolded_calls.specs.SameContexts.{IsOutside}
use Rattle.unfolded_calls.specs.SendsOnly.{SendsOnly, AllSendOnly, MessagesOnly, StatementsSendOnly}
use Rattle.unfolded_calls.proofs.Running.{none-some, some-same}
use Rattle.unfolded_places.proofs.ShapePairs.{CodePair, neither, both, open-pair, more_pairs}
use Rattle.unfolded_places.proofs.Congruence.{ControlLaw}
use Rattle.unfolded_places.proofs.Replaced.{sends-nth, sends-children, sends-statements, control-child, block-replaced}
use Rattle.unfolded_places.proofs.InlinedOne.{nth-front, child-again, replaced-again}
use Rattle.unfolded_places.proofs.UsesApart.{uses_of, uses_of_all, uses_of_messages, uses_of_lines, is_use_outside, less-left, less-right, less-rest, less-none}
use Rattle.unfolded_places.proofs.SendsKept.{NodePair, NodesPair, sending-moves}
use Rattle.unfolded_places.proofs.Moves.{block-counted, code-counted}
use Rattle.unfolded_places.proofs.Slots.{modes_of, modes-count, modes-staying}
use Rattle.unfolded_places.proofs.StandsThere.{captures, Stands, stands-less, stands-closed, stands-nearer, stands-scoped, target-stays, tree-stands, trees-stand, messages-stand, lines-stand}

-- the node right above the end of a path is a control send as it was, with v there
abbrev pub Even : TreeOf Name → List ℕ → TreeOf Name → Type 0
Even t [] v = Unit {0}
Even t (k ∷ []) v = is_control control_form (with_child t k v) ≡ is_control control_form t
Even t (k ∷ j ∷ ks) v = OptionNames (λ c. Even c (j ∷ ks) v) (child t k)

-- the same of a path into statements
abbrev pub EvenAmong : StatementsOf Name → List ℕ → TreeOf Name → Type 0
EvenAmong ss [] v = Unit {0}
EvenAmong ss (k ∷ ks) v = OptionNames (λ c. Even c ks v) (nth (statement_trees ss) k)

even-here : (t : TreeOf Name) (k : ℕ) (ks : List ℕ) (c v w : TreeOf Name) → child t k ≡ Some c → part_at c ks ≡ Some w → Even t (k ∷ ks) v → is_control control_form (with_child t k (replaced c ks v)) ≡ is_control control_form t
even-here t k [] c v w q e h = h
even-here t k (j ∷ ks) c v w q e h =
    control-child t k (replaced c (j ∷ ks) v) c (block-replaced c j ks v w ∙ ap is_plain_block (replaced-again c (j ∷ ks) w e)) ∙ ap (is_control control_form) (child-again t k c q)

even-below : (t : TreeOf Name) (k : ℕ) (ks : List ℕ) (c v : TreeOf Name) → child t k ≡ Some c → Even t (k ∷ ks) v → Even c ks v
even-below t k [] c v q h = tt
even-below t k (j ∷ ks) c v q h = subst (OptionNames (λ x. Even x (j ∷ ks) v)) q h

-- what is no block is none that is run in place
unblocked : (f : Name → MeaningOf Name) (A : List Declared) (t : TreeOf Name) → is_plain_block t ≡ false → plain_code (tree_in f A t) ≡ None
unblocked f A (var n) e = refl
unblocked f A (literal l) e = refl
unblocked f A (send r s args) e = refl
unblocked f A (cascade r ms) e = refl
unblocked f A (assign n t) e = refl
unblocked f A (block [] ts ss n) e = absurd (false≢true (sym e))
unblocked f A (block (p ∷ ps) ts ss n) e = refl
unblocked f A (brace ts) e = refl
unblocked f A (return t) e = refl

module _ (control : ControlLaw) (i : ResolvedImage) (gone : Allowed) (outer : Name → MeaningOf Name) (outside : (n : Name) → IsOutside (outer n)) (place : Option (Name × Bool)) where
  abbrev Kept : Name → Type 0
  Kept s = gone.is_gone s ≡ false

  abbrev There : Context → List (PlacedScope Name) → List (Rattle.scope_model.specs.Uses.UseOf Name) → Type 0
  There g C us = Stands i gone outer outside place g C us

  -- one of several nodes
  module _ (g : Context) (C : List (PlacedScope Name)) (x y : TreeOf Name) where
    abbrev At : TreeOf Name → Rattle.resolved_model.specs.ResolvedTrees.ResolvedTree
    At t = tree_in outer (declared_in C) t

    nth-moves : (in_place : Bool) (ts : TreesOf Name) (k : ℕ) (c : TreeOf Name) → There g C (uses_of_all in_place ts) → AllSendOnly Kept ts → nth ts k ≡ Some c → (There g C (uses_of in_place c) → NodePair i gone in_place g (At x) (At y)) →
        NodesPair i gone in_place g (trees_in outer (declared_in C) (with_nth ts k x)) (trees_in outer (declared_in C) (with_nth ts k y))
    nth-moves in_place no_trees k c h a e p = none-some e
    nth-moves in_place (more_trees t ts) zero c h a e p =
        let q = p (subst (λ u. There g C (uses_of in_place u)) (some-same e) (stands-less i gone outer outside place (less-left (uses_of in_place t) (uses_of_all in_place ts)) h)) in
        let r = trees-stand i gone outer outside place control g C in_place ts (stands-less i gone outer outside place (less-right (uses_of in_place t) (uses_of_all in_place ts)) h) a.1 in
        record { whole = λ f. same_more (q.whole f) (r.whole f); code = more_pairs q.code r.code }
    nth-moves in_place (more_trees t ts) (suc k) c h a e p =
        let q = tree-stands i gone outer outside place control g C in_place t (stands-less i gone outer outside place (less-left (uses_of in_place t) (uses_of_all in_place ts)) h) a.0 in
        let r = nth-moves in_place ts k c (stands-less i gone outer outside place (less-right (uses_of in_place t) (uses_of_all in_place ts)) h) a.1 e p in
        record { whole = λ f. same_more (q.whole f) (r.whole f); code = more_pairs q.code r.code }

    argument-moves : (ms : MessagesOf Name) (k : ℕ) (c : TreeOf Name) → There g C (uses_of_messages ms) → MessagesOnly Kept ms → nth (all_arguments ms) k ≡ Some c → (There g C (uses_of false c) → NodePair i gone false g (At x) (At y)) →
        UnfoldsMessages i gone g (messages_in outer (declared_in C) (with_argument ms k x)) (messages_in outer (declared_in C) (with_argument ms k y))
    argument-moves no_messages k c h a e p = none-some e
    argument-moves (more_messages s args ms) k c h a e p = by (nat_lt k (count args)) refl (λ q. argument-moves ms (k - count args) c after a.2 q p)
      where
        before : There g C (uses_of_all false args)
        before = stands-less i gone outer outside place (less-left (uses_of_all false args) (uses_of_messages ms)) h

        after : There g C (uses_of_messages ms)
        after = stands-less i gone outer outside place (less-right (uses_of_all false args) (uses_of_messages ms)) h

        rest : nat_lt k (count args) ≡ false → k ≡ count args + (k - count args)
        rest e = let h = ltb-false k (count args) e in omega arith

        by : (b : Bool) → nat_lt k (count args) ≡ b → (nth (all_arguments ms) (k - count args) ≡ Some c → UnfoldsMessages i gone g (messages_in outer (declared_in C) (with_argument ms (k - count args) x)) (messages_in outer (declared_in C) (with_argument ms (k - count args) y))) →
            UnfoldsMessages i gone g (messages_in outer (declared_in C) (if b then more_messages s (with_nth args k x) ms else more_messages s args (with_argument ms (k - count args) x))) (messages_in outer (declared_in C) (if b then more_messages s (with_nth args k y) ms else more_messages s args (with_argument ms (k - count args) y)))
        by true q ih = same_next s a.0 ((nth-moves false args k c before a.1 (sym (nth-front args (all_arguments ms) k q) ∙ e) p).whole refl) (messages-stand i gone outer outside place control g C ms after a.2)
        by false q ih =
            same_next s a.0 ((trees-stand i gone outer outside place control g C false args before a.1).whole refl) (ih (sym (nth-append_right args (all_arguments ms) k (k - count args) (rest q)) ∙ e))

    pub statement-moves : (ss : StatementsOf Name) (k : ℕ) (c : TreeOf Name) → There g C (uses_of_lines ss) → StatementsSendOnly Kept ss → nth (statement_trees ss) k ≡ Some c → (There g C (uses_of false c) → NodePair i gone false g (At x) (At y)) →
        UnfoldsLines i gone g (statements_in outer (declared_in C) (with_statement ss k x)) (statements_in outer (declared_in C) (with_statement ss k y))
    statement-moves no_statements k c h a e p = none-some e
    statement-moves (more_statements n t ss) zero c h a e p =
        same_line ((p (subst (λ u. There g C (uses_of false u)) (some-same e) (stands-less i gone outer outside place (less-left (uses_of false t) (uses_of_lines ss)) h))).whole refl)
        (lines-stand i gone outer outside place control g C ss (stands-less i gone outer outside place (less-right (uses_of false t) (uses_of_lines ss)) h) a.1)
    statement-moves (more_statements n t ss) (suc k) c h a e p =
        same_line ((tree-stands i gone outer outside place control g C false t (stands-less i gone outer outside place (less-left (uses_of false t) (uses_of_lines ss)) h) a.0).whole refl)
        (statement-moves ss k c (stands-less i gone outer outside place (less-right (uses_of false t) (uses_of_lines ss)) h) a.1 e p)

  -- a block, whose statements unfold in the contexts that fit its scope
  module _ (C : List (PlacedScope Name)) (d : ℕ) (ts : List Name) (ss us vs : StatementsOf Name) where
    abbrev scope_of : List Name → ScopeOf Name
    scope_of ps = record { arguments = ps; temporaries = ts; statements = ss }

    abbrev modes : List Rattle.unfolded_calls.specs.Unfolding.Mode
    modes = modes_of (λ n. not (captures ss n)) ts

    abbrev LinesUnfold : List Name → Type 0
    LinesUnfold ps = (z : Context) → There z ((d, scope_of ps) ∷ C) (uses_of_lines ss) → UnfoldsLines i gone z (statements_in outer (opened ps ts (declared_in C)) us) (statements_in outer (opened ps ts (declared_in C)) vs)

    scope-code : (g : Context) (ps : List Name) → LinesUnfold ps → There g C (filter (is_use_outside ps ts) (uses_of_lines ss)) →
        CodePair i gone g (plain_code (block_of (length ps) (length ts) (statements_in outer (opened ps ts (declared_in C)) us))) (plain_code (block_of (length ps) (length ts) (statements_in outer (opened ps ts (declared_in C)) vs)))
    scope-code g [] lines h =
        both (code-counted i gone 0 (length ts) modes (statements_in outer (opened [] ts (declared_in C)) us) (statements_in outer (opened [] ts (declared_in C)) vs) (modes-count (λ n. not (captures ss n)) ts) (modes-staying (λ n. not (captures ss n)) ts)
        (lines (scoped 0 modes g) (stands-scoped i gone outer outside place d (scope_of []) h)))
    scope-code g (p ∷ ps) lines h = neither

    pub scope-moves : (in_place : Bool) (g : Context) (ps : List Name) (e : Rattle.tree_model.specs.Tree.Notes) → LinesUnfold ps → There g C (uses_of in_place (block ps ts ss e)) →
        NodePair i gone in_place g (block_of (length ps) (length ts) (statements_in outer (opened ps ts (declared_in C)) us)) (block_of (length ps) (length ts) (statements_in outer (opened ps ts (declared_in C)) vs))
    scope-moves true g ps e lines h = record { whole = λ q. absurd (false≢true (sym q)); code = scope-code g ps lines h }
    scope-moves false g ps e lines h = record {
      whole = λ q.
          block-counted i gone (length ps) (length ts) modes (statements_in outer (opened ps ts (declared_in C)) us) (statements_in outer (opened ps ts (declared_in C)) vs) (modes-count (λ n. not (captures ss n)) ts) (modes-staying (λ n. not (captures ss n)) ts)
          (lines (scoped (length ps) modes (in_closure g)) (stands-scoped i gone outer outside place d (scope_of ps) (stands-closed i gone outer outside place h)));
      code = scope-code g ps lines (stands-nearer i gone outer outside place h);
    }

  -- a node with another one below it
  child-moves : (in_place : Bool) (g : Context) (C : List (PlacedScope Name)) (d : ℕ) (t : TreeOf Name) (k : ℕ) (c x y : TreeOf Name) → child t k ≡ Some c → There g C (uses_of in_place t) → SendsOnly Kept t →
      is_control control_form (with_child t k x) ≡ is_control control_form t → is_control control_form (with_child t k y) ≡ is_control control_form t →
      ((z : Context) → There z (own_scope d t ++ C) (uses_of (steps_in_place control_form t k) c) → NodePair i gone (steps_in_place control_form t k) z (tree_in outer (declared_in (own_scope d t ++ C)) x) (tree_in outer (declared_in (own_scope d t ++ C)) y)) →
      NodePair i gone in_place g (tree_in outer (declared_in C) (with_child t k x)) (tree_in outer (declared_in C) (with_child t k y))
  child-moves in_place g C d (var n) k c x y e h a p q down = none-some e
  child-moves in_place g C d (literal l) k c x y e h a p q down = none-some e
  child-moves in_place g C d (send r s args) zero c x y e h a p q down = record {
    whole = λ f.
        sending-moves control i gone outer outer (declared_in C) (declared_in C) (meets (control_form s) r args) s x y args args (λ no. sym p ∙ no) (λ z. h.supers) a.0 (λ no. q ∙ sym p ∙ no)
        (down g (subst (λ u. There g C (uses_of (is_loop (control_form s) && meets (control_form s) r args) u)) (some-same e) (stands-less i gone outer outside place (less-left (uses_of (is_loop (control_form s) && meets (control_form s) r args) r) (uses_of_all (meets (control_form s) r args) args)) h)))
        (trees-stand i gone outer outside place control g C (meets (control_form s) r args) args (stands-less i gone outer outside place (less-right (uses_of (is_loop (control_form s) && meets (control_form s) r args) r) (uses_of_all (meets (control_form s) r args) args)) h) a.2);
    code = neither;
  }
  child-moves in_place g C d (send r s args) (suc k) c x y e h a p q down = record {
    whole = λ f.
        sending-moves control i gone outer outer (declared_in C) (declared_in C) (meets (control_form s) r args) s r r (with_nth args k x) (with_nth args k y) (λ no. sym p ∙ no) (λ z. h.supers) a.0 (λ no. q ∙ sym p ∙ no)
        (tree-stands i gone outer outside place control g C (is_loop (control_form s) && meets (control_form s) r args) r (stands-less i gone outer outside place (less-left (uses_of (is_loop (control_form s) && meets (control_form s) r args) r) (uses_of_all (meets (control_form s) r args) args)) h) a.1)
        (nth-moves g C x y (meets (control_form s) r args) args k c (stands-less i gone outer outside place (less-right (uses_of (is_loop (control_form s) && meets (control_form s) r args) r) (uses_of_all (meets (control_form s) r args) args)) h) a.2 e (down g));
    code = neither;
  }
  child-moves in_place g C d (cascade r ms) zero c x y e h a p q down = record {
    whole = λ f.
        same_cascade ((down g (subst (λ u. There g C (uses_of false u)) (some-same e) (stands-less i gone outer outside place (less-left (uses_of false r) (uses_of_messages ms)) h))).whole refl)
        (messages-stand i gone outer outside place control g C ms (stands-less i gone outer outside place (less-right (uses_of false r) (uses_of_messages ms)) h) a.1);
    code = neither;
  }
  child-moves in_place g C d (cascade r ms) (suc k) c x y e h a p q down = record {
    whole = λ f.
        same_cascade ((tree-stands i gone outer outside place control g C false r (stands-less i gone outer outside place (less-left (uses_of false r) (uses_of_messages ms)) h) a.0).whole refl)
        (argument-moves g C x y ms k c (stands-less i gone outer outside place (less-right (uses_of false r) (uses_of_messages ms)) h) a.1 e (down g));
    code = neither;
  }
  child-moves in_place g C d (assign n t) zero c x y e h a p q down = record {
    whole = λ f.
        target-stays i gone outer outside (Rattle.unfolded_places.proofs.StandsThere.keeps_in C) g (declared_in C) n (uses_of false t) (tree_in outer (declared_in C) x) (tree_in outer (declared_in C) y) h.slots
        ((down g (subst (λ u. There g C (uses_of false u)) (some-same e) (stands-less i gone outer outside place (less-rest _ (uses_of false t)) h))).whole refl);
    code = neither;
  }
  child-moves in_place g C d (assign n t) (suc k) c x y e h a p q down = none-some e
  child-moves in_place g C d (block ps ts ss n) k c x y e h a p q down =
      scope-moves C d ts ss (with_statement ss k x) (with_statement ss k y) in_place g ps n
      (λ z f. statement-moves z ((d, record { arguments = ps; temporaries = ts; statements = ss }) ∷ C) x y ss k c f a e (down z)) h
  child-moves in_place g C d (brace ts) k c x y e h a p q down = record { whole = λ f. same_brace ((nth-moves g C x y false ts k c h a e (down g)).whole refl); code = neither }
  child-moves in_place g C d (return t) zero c x y e h a p q down = record {
    whole = λ f. same_return h.returns ((down g (subst (λ u. There g C (uses_of false u)) (some-same e) h)).whole refl);
    code = neither;
  }
  child-moves in_place g C d (return t) (suc k) c x y e h a p q down = none-some e

  -- along a path
  module _ (v u : TreeOf Name) where
    -- the two nodes unfold at the end of it, where this one stands, whether it is run in place or not
    abbrev pub EndsAs : TreeOf Name → List (PlacedScope Name) → Type 0
    EndsAs w C = (in_place : Bool) (z : Context) → There z C (uses_of in_place w) → NodePair i gone in_place z (tree_in outer (declared_in C) v) (tree_in outer (declared_in C) u)

    replaced-pair : (path : List ℕ) (in_place : Bool) (g : Context) (C : List (PlacedScope Name)) (d : ℕ) (t w : TreeOf Name) → part_at t path ≡ Some w → There g C (uses_of in_place t) → SendsOnly Kept t → Even t path v → Even t path u → EndsAs w (entered d t path ++ C) →
        NodePair i gone in_place g (tree_in outer (declared_in C) (replaced t path v)) (tree_in outer (declared_in C) (replaced t path u))
    replaced-pair [] in_place g C d t w e h a p q ends = ends in_place g (subst (λ x. There g C (uses_of in_place x)) (some-same e) h)
    replaced-pair (k ∷ ks) in_place g C d t w e h a p q ends = by (child t k) refl e ends (λ flag z D c r s b pv pu f. replaced-pair ks flag z D (d + 1) c w r s b pv pu f)
      where
        by : (o : Option (TreeOf Name)) → child t k ≡ o → option_and_then (λ c. part_at c ks) o ≡ Some w → EndsAs w ((unwrap_or (option_map (λ c. entered (d + 1) c ks) o) [] ++ own_scope d t) ++ C) →
            ((flag : Bool) (z : Context) (D : List (PlacedScope Name)) (c : TreeOf Name) → part_at c ks ≡ Some w → There z D (uses_of flag c) → SendsOnly Kept c → Even c ks v → Even c ks u → EndsAs w (entered (d + 1) c ks ++ D) →
            NodePair i gone flag z (tree_in outer (declared_in D) (replaced c ks v)) (tree_in outer (declared_in D) (replaced c ks u))) →
            NodePair i gone in_place g (tree_in outer (declared_in C) (unwrap_or (option_map (λ c. with_child t k (replaced c ks v)) o) t)) (tree_in outer (declared_in C) (unwrap_or (option_map (λ c. with_child t k (replaced c ks u)) o) t))
        by None r e ends ih = none-some e
        by (Some c) r e ends ih =
            child-moves in_place g C d t k c (replaced c ks v) (replaced c ks u) r h a (even-here t k ks c v w r e p) (even-here t k ks c u w r e q)
            (λ z s. ih (steps_in_place control_form t k) z (own_scope d t ++ C) c e s (sends-nth Kept (Rattle.tree_model.specs.Path.children t) k c (sends-children Kept t a) r) (even-below t k ks c v r p) (even-below t k ks c u r q)
            (subst (EndsAs w) (append_assoc (entered (d + 1) c ks) (own_scope d t) C) ends))

    -- the same of a path into statements
    pub statements-pair : (k : ℕ) (ks : List ℕ) (g : Context) (C : List (PlacedScope Name)) (ss : StatementsOf Name) (w : TreeOf Name) → option_and_then (λ c. part_at c ks) (nth (statement_trees ss) k) ≡ Some w → There g C (uses_of_lines ss) → StatementsSendOnly Kept ss → EvenAmong ss (k ∷ ks) v → EvenAmong ss (k ∷ ks) u →
        EndsAs w (unwrap_or (option_map (λ c. entered 1 c ks) (nth (statement_trees ss) k)) [] ++ C) →
        UnfoldsLines i gone g (statements_in outer (declared_in C) (statements_replaced ss (k ∷ ks) v)) (statements_in outer (declared_in C) (statements_replaced ss (k ∷ ks) u))
    statements-pair k ks g C ss w e h a p q ends = by (nth (statement_trees ss) k) refl e p q ends
      where
        by : (o : Option (TreeOf Name)) → nth (statement_trees ss) k ≡ o → option_and_then (λ c. part_at c ks) o ≡ Some w → OptionNames (λ c. Even c ks v) o → OptionNames (λ c. Even c ks u) o → EndsAs w (unwrap_or (option_map (λ c. entered 1 c ks) o) [] ++ C) →
            UnfoldsLines i gone g (statements_in outer (declared_in C) (unwrap_or (option_map (λ c. with_statement ss k (replaced c ks v)) o) ss)) (statements_in outer (declared_in C) (unwrap_or (option_map (λ c. with_statement ss k (replaced c ks u)) o) ss))
        by None r e p q ends = none-some e
        by (Some c) r e p q ends =
            statement-moves g C (replaced c ks v) (replaced c ks u) ss k c h a r (λ s. replaced-pair ks false g C 1 c w e s (sends-nth Kept (statement_trees ss) k c (sends-statements Kept ss a) r) p q ends)

  -- where the first of them is no block
  module _ (v u : TreeOf Name) (loose : is_plain_block v ≡ false) where
    abbrev pub Ends : List (PlacedScope Name) → Type 0
    Ends C = (z : Context) → There z C [] → Unfolds i gone z (tree_in outer (declared_in C) v) (tree_in outer (declared_in C) u)

    pub statements-move : (k : ℕ) (ks : List ℕ) (g : Context) (C : List (PlacedScope Name)) (ss : StatementsOf Name) (w : TreeOf Name) → option_and_then (λ c. part_at c ks) (nth (statement_trees ss) k) ≡ Some w → There g C (uses_of_lines ss) → StatementsSendOnly Kept ss → EvenAmong ss (k ∷ ks) v → EvenAmong ss (k ∷ ks) u →
        Ends (unwrap_or (option_map (λ c. entered 1 c ks) (nth (statement_trees ss) k)) [] ++ C) →
        UnfoldsLines i gone g (statements_in outer (declared_in C) (statements_replaced ss (k ∷ ks) v)) (statements_in outer (declared_in C) (statements_replaced ss (k ∷ ks) u))
    statements-move k ks g C ss w e h a p q ends =
        statements-pair v u k ks g C ss w e h a p q
        (λ in_place z r. record { whole = λ f. ends z (stands-less i gone outer outside place (less-none _) r); code = open-pair i gone _ _ (unblocked outer (declared_in (unwrap_or (option_map (λ c. entered 1 c ks) (nth (statement_trees ss) k)) [] ++ C)) v loose) })
