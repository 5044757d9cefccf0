-- Code without a name, and code in which a plain expression stands for it, unfold.
use Rattle.std.proofs.Common.{◌≡◌, ℕ, ◌+◌, List, [], ◌++◌, length, map, Some, None, refl, sym, ap, ◌∙◌, subst, arith}
use Rattle.std.specs.Prelude.{true, false, slice_get, replicate}
use Rattle.std.proofs.lemmas.List.{append_cancel_right}
use Rattle.tree_model.specs.Tree.{TreeOf, var, literal, send, cascade, assign, block, brace, return, TreesOf, no_trees, more_trees, MessagesOf, no_messages, more_messages, StatementsOf, no_statements, more_statements}
use Rattle.scope_model.specs.SpecialNames.{is_pseudo_variable}
use Rattle.image_model.specs.Means.{MeaningOf}
use Rattle.run_model.specs.Values.{Name}
use Rattle.resolved_model.specs.ResolvedTrees.{of_local, reading}
use Rattle.resolved_model.specs.ResolvedImages.{ResolvedImage}
use Rattle.resolved_model.specs.ResolvedShapes.{plain_code}
use Rattle.resolved_model.specs.Environments.{Declared, opened, kind_in, place_in, tree_in}
use Rattle.unfolded_calls.specs.Unfolding.{Allowed, shared, staying, StandIn, moved, farther, Context, scoped, in_closure, Unfolds, same_local}
use Rattle.unfolded_calls.specs.SameContexts.{same_locals, IsOutside}
use Rattle.unfolded_places.specs.Becoming.{Becomes, at_part, at_literal, in_send, in_cascade, in_assign, in_block, in_brace, in_return, BecomeAll, all_none, all_more, BecomeMessages, messages_none, messages_more, BecomeLines, lines_none, lines_more}
use Rattle.unfolded_places.specs.Inlining.{PlainActual}
use Rattle.unfolded_places.proofs.ShapePairs.{open-pair}
use Rattle.unfolded_places.proofs.Congruence.{ControlLaw, IsKept}
use Rattle.unfolded_places.proofs.NamesThere.{local-read, kind-behind, get-behind, get-moved, locals-count, opened-count, opened-append}
use Rattle.unfolded_places.proofs.PlainThere.{plain-far, plain-moved, plain-inside}
use Rattle.let_laws.specs.ReadsFirst.{IsWithout, AreWithout, MessagesWithout, LinesWithout}
use Rattle.let_laws.specs.Lets.{OtherName, other_name, without, ValuePart, value_other, value_read, valued}
use Rattle.let_laws.proofs.OtherNames.{get-mapped, own-locals, own-count, Lets, lets-scoped, lets-closed, reading-lets, assigning-lets}

-- code without the name becomes itself
module _ (x : Name) where
  mutual
    pub tree-without : (A B : List Declared) (t : TreeOf Name) → IsWithout x t → Becomes (without x) A B t t
    tree-without A B (var n) h = at_part (other_name n h)
    tree-without A B (literal l) h = at_literal l
    tree-without A B (send r s args) h = in_send s tt (λ e. tt) (λ e. e) (tree-without A B r h.0) (trees-without A B args h.1)
    tree-without A B (cascade r ms) h = in_cascade (tree-without A B r h.0) (messages-without A B ms h.1)
    tree-without A B (assign n t) h = in_assign n h.0 (tree-without A B t h.1)
    tree-without A B (block ps ts ss e) h = in_block ps ts e e (lines-without (opened ps ts A) (opened ps ts B) ss h)
    tree-without A B (brace ts) h = in_brace (trees-without A B ts h)
    tree-without A B (return t) h = in_return tt (tree-without A B t h)

    pub trees-without : (A B : List Declared) (ts : TreesOf Name) → AreWithout x ts → BecomeAll (without x) A B ts ts
    trees-without A B no_trees h = all_none
    trees-without A B (more_trees t ts) h = all_more (tree-without A B t h.0) (trees-without A B ts h.1)

    pub messages-without : (A B : List Declared) (ms : MessagesOf Name) → MessagesWithout x ms → BecomeMessages (without x) A B ms ms
    messages-without A B no_messages h = messages_none
    messages-without A B (more_messages s args ms) h = messages_more s tt (trees-without A B args h.0) (messages-without A B ms h.1)

    pub lines-without : (A B : List Declared) (ss : StatementsOf Name) → LinesWithout x ss → BecomeLines (without x) A B ss ss
    lines-without A B no_statements h = lines_none
    lines-without A B (more_statements c t ss) h = lines_more c c (tree-without A B t h.0) (lines-without A B ss h.1)

module _ (control : ControlLaw) (i : ResolvedImage) (gone : Allowed) (f : Name → MeaningOf Name) (outside : (n : Name) → IsOutside (f n)) (x : Name) (kept : (s : Name) → gone.is_gone s ≡ false) where
  other-unfolds : (g : Context) (A B : List Declared) (t u : TreeOf Name) → Lets x g A B → OtherName x A B t u → Unfolds i gone g (tree_in f A t) (tree_in f B u)
  other-unfolds g A B _ _ h (other_name n ne) = reading-lets x i gone f outside g A B n ne h

  other-open : (A B : List Declared) (t u : TreeOf Name) → OtherName x A B t u → plain_code (tree_in f A t) ≡ None
  other-open A B _ _ (other_name n ne) = refl

  pub kept-without : IsKept control i gone (without x) f f (Lets x)
  kept-without = record {
    scope = lets-scoped x;
    closure = lets-closed x;
    part = other-unfolds;
    blocked = λ g A B t u h p. open-pair i gone _ _ (other-open A B t u p);
    sent = λ s e. kept s;
    assigned = λ g A B n t t' h e r. assigning-lets x i gone f outside g A B n t t' e h r;
    stored = λ g A B s n t t' h e m u. absurd e;
    returned = λ g A B h r. h.returns;
    above = λ g A B h r. h.supers;
  }

  module _ (proper : is_pseudo_variable x ≡ false) (e : TreeOf Name) (a : StandIn) (A0 B0 : List Declared) (plain : PlainActual f B0 e a) (kind : kind_in A0 x ≡ Some true) where
    -- inside further scopes, where what x was set to stands for it
    pub record Valued (g : Context) (A B : List Declared) : Type 0 where
      pub lets : Lets x g A B
      pub inner : List Declared
      pub before : A ≡ inner ++ A0
      pub after : B ≡ inner ++ B0
      pub here : slice_get g.locals (length inner + place_in A0 x) ≡ Some (moved (length inner) a)

    valued-scoped : (g : Context) (A B : List Declared) (ps ts : List Name) → Valued g A B → Valued (scoped (length ps) (replicate (length ts) shared) g) (opened ps ts A) (opened ps ts B)
    valued-scoped g A B ps ts h = record {
      lets = lets-scoped x g A B ps ts h.lets;
      inner = opened ps ts h.inner;
      before = ap (opened ps ts) h.before ∙ opened-append ps ts h.inner A0;
      after = ap (opened ps ts) h.after ∙ opened-append ps ts h.inner B0;
      here = subst (λ k. slice_get (scoped (length ps) (replicate (length ts) shared) g).locals (k + place_in A0 x) ≡ Some (moved k a)) (opened-count ps ts h.inner)
          (ap (slice_get (scoped (length ps) (replicate (length ts) shared) g).locals) (sum (length ps + staying (replicate (length ts) shared)) (length h.inner) (place_in A0 x))
          ∙ ap (λ l. slice_get (l ++ map (moved (length ps + staying (replicate (length ts) shared))) g.locals) (length ps + staying (replicate (length ts) shared) + (length h.inner + place_in A0 x))) (own-locals ps ts)
          ∙ get-behind (same_locals (opened ps ts []) 0) (map (moved (length ps + staying (replicate (length ts) shared))) g.locals) (length ps + staying (replicate (length ts) shared)) (length h.inner + place_in A0 x) (locals-count (opened ps ts []) 0 ∙ sym (own-count ps ts))
          ∙ get-moved (length ps + staying (replicate (length ts) shared)) g.locals (length h.inner + place_in A0 x) (moved (length h.inner) a) h.here
          ∙ ap Some (plain-moved f B0 e a (length ps + staying (replicate (length ts) shared)) (length h.inner) plain));
    }
      where
        sum : (n k j : ℕ) → (n + k) + j ≡ n + (k + j)
        sum n k j = omega arith

    valued-closed : (g : Context) (A B : List Declared) → Valued g A B → Valued (in_closure g) A B
    valued-closed g A B h = record {
      lets = lets-closed x g A B h.lets;
      inner = h.inner;
      before = h.before;
      after = h.after;
      here = get-mapped farther g.locals (length h.inner + place_in A0 x) (moved (length h.inner) a) (moved (length h.inner) a) h.here (plain-far f B0 e a (length h.inner) plain);
    }

    value-unfolds : (g : Context) (A B : List Declared) (t u : TreeOf Name) → Valued g A B → ValuePart x e A0 B0 A B t u → Unfolds i gone g (tree_in f A t) (tree_in f B u)
    value-unfolds g A B _ _ h (value_other n ne) = reading-lets x i gone f outside g A B n ne h.lets
    value-unfolds g _ _ _ _ h (value_read inner q free) =
        let same : h.inner ≡ inner = sym (append_cancel_right inner h.inner A0 h.before) in
        let behind = kind-behind inner A0 x q in
        let inside = plain-inside f B0 inner e a plain free in
        subst (λ r. Unfolds i gone g (reading r) (tree_in f (inner ++ B0) e)) (sym (local-read (inner ++ A0) (f x) x true proper (behind.0 ∙ kind) ∙ ap of_local behind.1))
        (subst (λ r. Unfolds i gone g (reading (of_local (length inner + place_in A0 x))) r) (sym inside.0)
        (same_local (length inner + place_in A0 x) (moved (length inner) a) (subst (λ l. slice_get g.locals (length l + place_in A0 x) ≡ Some (moved (length l) a)) same h.here) inside.1))

    value-open : (A B : List Declared) (t u : TreeOf Name) → ValuePart x e A0 B0 A B t u → plain_code (tree_in f A t) ≡ None
    value-open A B _ _ (value_other n ne) = refl
    value-open _ _ _ _ (value_read inner q free) = refl

    pub kept-valued : IsKept control i gone (valued x e A0 B0) f f Valued
    kept-valued = record {
      scope = valued-scoped;
      closure = valued-closed;
      part = value-unfolds;
      blocked = λ g A B t u h p. open-pair i gone _ _ (value-open A B t u p);
      sent = λ s e. kept s;
      assigned = λ g A B n t t' h e r. assigning-lets x i gone f outside g A B n t t' e h.lets r;
      stored = λ g A B s n t t' h e m u. absurd e;
      returned = λ g A B h r. h.lets.returns;
      above = λ g A B h r. h.lets.supers;
    }
