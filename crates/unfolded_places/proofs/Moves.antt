-- Code that becomes other code unfolds to it, where its parts do, by which of its names are used in closures.
use Rattle.std.proofs.Common.{◌≡◌, ℕ, List, [], ◌∷◌, ◌++◌, length, map, refl, sym, subst}
use Rattle.std.specs.Prelude.{Bool, true, false, ◌&&◌, filter, replicate}
use Rattle.std.proofs.lemmas.Bool.{false≢true}
use Rattle.std.proofs.lemmas.List.{length-replicate}
use Rattle.scope_model.specs.SpecialNames.{control_form}
use Rattle.scope_model.specs.Control.{is_loop, meets}
use Rattle.scope_model.specs.Uses.{UseOf, enclosed}
use Rattle.tree_model.specs.Tree.{TreeOf, block, TreesOf, MessagesOf, StatementsOf, Notes}
use Rattle.image_model.specs.Means.{MeaningOf}
use Rattle.run_model.specs.Values.{Name}
use Rattle.resolved_model.specs.ResolvedTrees.{ResolvedTree, assigning, block_of, ResolvedStatements}
use Rattle.resolved_model.specs.ResolvedImages.{ResolvedImage}
use Rattle.resolved_model.specs.ResolvedShapes.{plain_code}
use Rattle.resolved_model.specs.Environments.{Declared, opened, target_in, tree_in, trees_in, messages_in, statements_in}
use Rattle.unfolded_calls.specs.Unfolding.{Allowed, Mode, shared, staying, Context, scoped, in_closure, Unfolds, same_constant, same_cascade, same_block, same_brace, same_return, same_none, same_more, UnfoldsMessages, same_end, same_next, UnfoldsLines, same_stop, same_line, UnfoldsCode, same_code}
use Rattle.unfolded_calls.proofs.Untouched.{staying-all}
use Rattle.unfolded_places.specs.Becoming.{Change, Becomes, at_part, at_literal, at_store, in_send, in_cascade, in_assign, in_block, in_brace, in_return, BecomeAll, all_none, all_more, BecomeMessages, messages_none, messages_more, BecomeLines, lines_none, lines_more}
use Rattle.unfolded_places.proofs.ShapePairs.{CodePair, neither, both, no_pairs, more_pairs}
use Rattle.unfolded_places.proofs.Congruence.{ControlLaw, super-named}
use Rattle.unfolded_places.proofs.UsesApart.{uses_of, uses_of_all, uses_of_messages, uses_of_lines, is_use_outside, IsLess, less-left, less-right, less-rest}
use Rattle.unfolded_places.proofs.SendsKept.{NodePair, NodesPair, sending-moves}

-- blocks and code with as many temporaries
module _ (i : ResolvedImage) (gone : Allowed) where
  pub block-counted : {g : Context} (p n : ℕ) (ms : List Mode) (ss ss' : ResolvedStatements) → length ms ≡ n → staying ms ≡ n → UnfoldsLines i gone (scoped p ms (in_closure g)) ss ss' → Unfolds i gone g (block_of p n ss) (block_of p n ss')
  block-counted {g} p n ms ss ss' e q h =
      subst (λ k. Unfolds i gone g (block_of p n ss) (block_of p k ss')) q (subst (λ k. Unfolds i gone g (block_of p k ss) (block_of p (staying ms) ss')) e (same_block p ms h))

  pub code-counted : {g : Context} (p n : ℕ) (ms : List Mode) (ss ss' : ResolvedStatements) → length ms ≡ n → staying ms ≡ n → UnfoldsLines i gone (scoped p ms g) ss ss' →
      UnfoldsCode i gone g (record { parameters = p; temporaries = n; statements = ss }) (record { parameters = p; temporaries = n; statements = ss' })
  code-counted {g} p n ms ss ss' e q h =
      subst (λ k. UnfoldsCode i gone g (record { parameters = p; temporaries = n; statements = ss }) (record { parameters = p; temporaries = k; statements = ss' })) q
      (subst (λ k. UnfoldsCode i gone g (record { parameters = p; temporaries = k; statements = ss }) (record { parameters = p; temporaries = staying ms; statements = ss' })) e (same_code p ms h))

module _ (control : ControlLaw) (i : ResolvedImage) (gone : Allowed) (c : Change) (f f' : Name → MeaningOf Name) (Fits : Context → List Declared → List Declared → List (UseOf Name) → Type 0) where
  -- The contexts that fit two lists of declarations and the uses of names in code: those of parts of it fit, entering a scope and a closure keeps them, and so does leaving the closure; and in them parts unfold, assignments do, and returns and `super` may stand as said. No message is an assignment.
  pub record IsHeld : Type 0 where
    pub less : (g : Context) (A B : List Declared) (us vs : List (UseOf Name)) → IsLess us vs → Fits g A B us → Fits g A B vs
    pub scope : (g : Context) (A B : List Declared) (ps ts : List Name) (us : List (UseOf Name)) → Fits g A B (filter (is_use_outside ps ts) us) → Fits (scoped (length ps) (replicate (length ts) shared) g) (opened ps ts A) (opened ps ts B) us
    pub closure : (g : Context) (A B : List Declared) (us : List (UseOf Name)) → Fits g A B (map enclosed us) → Fits (in_closure g) A B us
    pub nearer : (g : Context) (A B : List Declared) (us : List (UseOf Name)) → Fits g A B (map enclosed us) → Fits g A B us
    pub part : (g : Context) (A B : List Declared) (t u : TreeOf Name) (in_place : Bool) → Fits g A B (uses_of in_place t) → c.part A B t u → NodePair i gone in_place g (tree_in f A t) (tree_in f' B u)
    pub sent : (s : Name) → c.sends s → gone.is_gone s ≡ false
    pub assigned : (g : Context) (A B : List Declared) (n : Name) (us : List (UseOf Name)) (x x' : ResolvedTree) → Fits g A B (record { name = n; is_assignment = true; in_closure = false } ∷ us) → c.assigns A B n →
        Unfolds i gone g x x' → Unfolds i gone g (assigning (target_in A (f n) n) x) (assigning (target_in B (f' n) n) x')
    pub stored : (A B : List Declared) (s n : Name) → c.stores A B s n → ⊥
    pub returned : (g : Context) (A B : List Declared) (us : List (UseOf Name)) → Fits g A B us → c.returns → g.returns ≡ true
    pub above : (g : Context) (A B : List Declared) (us : List (UseOf Name)) → Fits g A B us → c.supers → g.supers ≡ true

  module _ (k : IsHeld) where
    left : (g : Context) (A B : List Declared) (us vs : List (UseOf Name)) → Fits g A B (us ++ vs) → Fits g A B us
    left g A B us vs h = k.less g A B (us ++ vs) us (less-left us vs) h

    right : (g : Context) (A B : List Declared) (us vs : List (UseOf Name)) → Fits g A B (us ++ vs) → Fits g A B vs
    right g A B us vs h = k.less g A B (us ++ vs) vs (less-right us vs) h

    -- a node that is no block
    plain-pair : {g : Context} {in_place : Bool} {x x' : ResolvedTree} → Unfolds i gone g x x' → CodePair i gone g (plain_code x) (plain_code x') → NodePair i gone in_place g x x'
    plain-pair u p = record { whole = λ e. u; code = p }

    -- a block, whose statements unfold in the contexts that fit them
    module _ (A B : List Declared) (ts : List Name) (ss ss' : StatementsOf Name) where
      abbrev LinesMove : List Name → Type 0
      LinesMove ps = (x : Context) → Fits x (opened ps ts A) (opened ps ts B) (uses_of_lines ss) → UnfoldsLines i gone x (statements_in f (opened ps ts A) ss) (statements_in f' (opened ps ts B) ss')

      block-code : (g : Context) (ps : List Name) → LinesMove ps → Fits g A B (filter (is_use_outside ps ts) (uses_of_lines ss)) → CodePair i gone g (plain_code (block_of (length ps) (length ts) (statements_in f (opened ps ts A) ss))) (plain_code (block_of (length ps) (length ts) (statements_in f' (opened ps ts B) ss')))
      block-code g [] lines h =
          both (code-counted i gone 0 (length ts) (replicate (length ts) shared) (statements_in f (opened [] ts A) ss) (statements_in f' (opened [] ts B) ss') (length-replicate (length ts) shared) (staying-all (length ts))
          (lines (scoped 0 (replicate (length ts) shared) g) (k.scope g A B [] ts (uses_of_lines ss) h)))
      block-code g (p ∷ ps) lines h = neither

      block-moves : (in_place : Bool) (g : Context) (ps : List Name) (e : Notes) → LinesMove ps → Fits g A B (uses_of in_place (block ps ts ss e)) → NodePair i gone in_place g (block_of (length ps) (length ts) (statements_in f (opened ps ts A) ss)) (block_of (length ps) (length ts) (statements_in f' (opened ps ts B) ss'))
      block-moves true g ps e lines h = record { whole = λ q. absurd (false≢true (sym q)); code = block-code g ps lines h }
      block-moves false g ps e lines h = record {
        whole = λ q.
            block-counted i gone (length ps) (length ts) (replicate (length ts) shared) (statements_in f (opened ps ts A) ss) (statements_in f' (opened ps ts B) ss') (length-replicate (length ts) shared) (staying-all (length ts))
            (lines (scoped (length ps) (replicate (length ts) shared) (in_closure g)) (k.scope (in_closure g) A B ps ts (uses_of_lines ss) (k.closure g A B (filter (is_use_outside ps ts) (uses_of_lines ss)) h)));
        code = block-code g ps lines (k.nearer g A B (filter (is_use_outside ps ts) (uses_of_lines ss)) h);
      }

    mutual
      pub tree-moves : (in_place : Bool) (g : Context) (A B : List Declared) (t t' : TreeOf Name) → Fits g A B (uses_of in_place t) → Becomes c A B t t' → NodePair i gone in_place g (tree_in f A t) (tree_in f' B t')
      tree-moves in_place g A B t t' h (at_part p) = k.part g A B t t' in_place h p
      tree-moves in_place g A B _ _ h (at_literal l) = plain-pair (same_constant l) neither
      tree-moves in_place g A B _ _ h (at_store s n m e p) = absurd (k.stored A B s n m)
      tree-moves in_place g A B _ _ h (in_send {r = r} {r' = r'} {args = args} {args' = args'} s m u n p q) =
          plain-pair
          (sending-moves control i gone f f' A B (meets (control_form s) r args) s r r' args args' (λ e. e) (λ e. k.above g A B _ h (u (super-named f A r e))) (k.sent s m) n
          (tree-moves (is_loop (control_form s) && meets (control_form s) r args) g A B r r' (left g A B (uses_of (is_loop (control_form s) && meets (control_form s) r args) r) (uses_of_all (meets (control_form s) r args) args) h) p)
          (trees-move (meets (control_form s) r args) g A B args args' (right g A B (uses_of (is_loop (control_form s) && meets (control_form s) r args) r) (uses_of_all (meets (control_form s) r args) args) h) q)) neither
      tree-moves in_place g A B _ _ h (in_cascade {r = r} {r' = r'} {ms = ms} {ms' = ms'} p q) =
          plain-pair (same_cascade ((tree-moves false g A B r r' (left g A B (uses_of false r) (uses_of_messages ms) h) p).whole refl) (messages-move g A B ms ms' (right g A B (uses_of false r) (uses_of_messages ms) h) q)) neither
      tree-moves in_place g A B _ _ h (in_assign {t = t} {t' = t'} n m p) =
          plain-pair (k.assigned g A B n (uses_of false t) (tree_in f A t) (tree_in f' B t') h m ((tree-moves false g A B t t' (k.less g A B _ _ (less-rest _ (uses_of false t)) h) p).whole refl)) neither
      tree-moves in_place g A B _ _ h (in_block {ss = ss} {ss' = ss'} ps ts e e' p) = block-moves A B ts ss ss' in_place g ps e (λ x q. lines-move x (opened ps ts A) (opened ps ts B) ss ss' q p) h
      tree-moves in_place g A B _ _ h (in_brace {ts = ts} {ts' = ts'} p) = plain-pair (same_brace ((trees-move false g A B ts ts' h p).whole refl)) neither
      tree-moves in_place g A B _ _ h (in_return {t = t} {t' = t'} r p) = plain-pair (same_return (k.returned g A B _ h r) ((tree-moves false g A B t t' h p).whole refl)) neither

      pub trees-move : (in_place : Bool) (g : Context) (A B : List Declared) (ts ts' : TreesOf Name) → Fits g A B (uses_of_all in_place ts) → BecomeAll c A B ts ts' → NodesPair i gone in_place g (trees_in f A ts) (trees_in f' B ts')
      trees-move in_place g A B _ _ h all_none = record { whole = λ e. same_none; code = no_pairs }
      trees-move in_place g A B _ _ h (all_more {t = t} {t' = t'} {ts = ts} {ts' = ts'} p q) =
          let x = tree-moves in_place g A B t t' (left g A B (uses_of in_place t) (uses_of_all in_place ts) h) p in
          let xs = trees-move in_place g A B ts ts' (right g A B (uses_of in_place t) (uses_of_all in_place ts) h) q in
          record { whole = λ e. same_more (x.whole e) (xs.whole e); code = more_pairs x.code xs.code }

      pub messages-move : (g : Context) (A B : List Declared) (ms ms' : MessagesOf Name) → Fits g A B (uses_of_messages ms) → BecomeMessages c A B ms ms' → UnfoldsMessages i gone g (messages_in f A ms) (messages_in f' B ms')
      messages-move g A B _ _ h messages_none = same_end
      messages-move g A B _ _ h (messages_more {args = args} {args' = args'} {ms = ms} {ms' = ms'} s m p q) =
          same_next s (k.sent s m) ((trees-move false g A B args args' (left g A B (uses_of_all false args) (uses_of_messages ms) h) p).whole refl) (messages-move g A B ms ms' (right g A B (uses_of_all false args) (uses_of_messages ms) h) q)

      pub lines-move : (g : Context) (A B : List Declared) (ss ss' : StatementsOf Name) → Fits g A B (uses_of_lines ss) → BecomeLines c A B ss ss' → UnfoldsLines i gone g (statements_in f A ss) (statements_in f' B ss')
      lines-move g A B _ _ h lines_none = same_stop
      lines-move g A B _ _ h (lines_more {t = t} {t' = t'} {ss = ss} {ss' = ss'} n n' p q) =
          same_line ((tree-moves false g A B t t' (left g A B (uses_of false t) (uses_of_lines ss) h) p).whole refl) (lines-move g A B ss ss' (right g A B (uses_of false t) (uses_of_lines ss) h) q)
