-- Contexts in which nothing is declared otherwise, and code that becomes itself.
use Rattle.std.proofs.Common.{◌≡◌, List, Option, refl, ap, subst}
use Rattle.std.specs.Prelude.{Bool, false}
use Rattle.std.specs.Prelude.{codes}
use Rattle.tree_model.specs.Tree.{TreeOf, var, literal, send, cascade, assign, block, brace, return, TreesOf, no_trees, more_trees, MessagesOf, no_messages, more_messages, StatementsOf, no_statements, more_statements}
use Rattle.image_model.specs.Means.{MeaningOf}
use Rattle.run_model.specs.Values.{Name}
use Rattle.resolved_model.specs.ResolvedTrees.{assigning}
use Rattle.resolved_model.specs.ResolvedImages.{ResolvedImage}
use Rattle.resolved_model.specs.ResolvedShapes.{plain_code}
use Rattle.resolved_model.specs.Environments.{Declared, opened, target_in, tree_in}
use Rattle.unfolded_calls.specs.Unfolding.{Allowed, Context, Unfolds}
use Rattle.unfolded_calls.specs.SendsOnly.{SendsOnly, AllSendOnly, MessagesOnly, StatementsSendOnly}
use Rattle.unfolded_calls.specs.SameContexts.{IsOutside}
use Rattle.unfolded_calls.proofs.Untouched.{same-scoped, same-closed, reading-same, assigning-same}
use Rattle.unfolded_places.specs.Becoming.{Becomes, at_part, at_literal, in_send, in_cascade, in_assign, in_block, in_brace, in_return, BecomeAll, all_none, all_more, BecomeMessages, messages_none, messages_more, BecomeLines, lines_none, lines_more}
use Rattle.unfolded_places.specs.PartsReplaced.{PartOf, same_name, other_part, parts_stored}
use Rattle.unfolded_places.specs.Standing.{IsHere, PartsUnfold, PartsNoBlocks, StoresUnfold}
use Rattle.unfolded_places.proofs.ShapePairs.{CodePair, neither, open-pair}
use Rattle.unfolded_places.proofs.Congruence.{ControlLaw, IsKept}

module _ (here : List Declared → TreeOf Name → TreeOf Name → Type 0) (stores : List Declared → Name → Name → Type 0) (gone : Name → Bool) where
  abbrev Kept : Name → Type 0
  Kept s = gone s ≡ false

  mutual
    pub tree-stays : (A : List Declared) (t : TreeOf Name) → SendsOnly Kept t → Becomes (parts_stored here stores gone) A A t t
    tree-stays A (var n) k = at_part (same_name n)
    tree-stays A (literal l) k = at_literal l
    tree-stays A (send r s args) k = in_send s k.0 (λ e. tt) (λ e. e) (tree-stays A r k.1) (trees-stay A args k.2)
    tree-stays A (cascade r ms) k = in_cascade (tree-stays A r k.0) (messages-stay A ms k.1)
    tree-stays A (assign n t) k = in_assign n refl (tree-stays A t k)
    tree-stays A (block ps ts ss e) k = in_block ps ts e e (lines-stay (opened ps ts A) ss k)
    tree-stays A (brace ts) k = in_brace (trees-stay A ts k)
    tree-stays A (return t) k = in_return tt (tree-stays A t k)

    pub trees-stay : (A : List Declared) (ts : TreesOf Name) → AllSendOnly Kept ts → BecomeAll (parts_stored here stores gone) A A ts ts
    trees-stay A no_trees k = all_none
    trees-stay A (more_trees t ts) k = all_more (tree-stays A t k.0) (trees-stay A ts k.1)

    pub messages-stay : (A : List Declared) (ms : MessagesOf Name) → MessagesOnly Kept ms → BecomeMessages (parts_stored here stores gone) A A ms ms
    messages-stay A no_messages k = messages_none
    messages-stay A (more_messages s args ms) k = messages_more s k.0 (trees-stay A args k.1) (messages-stay A ms k.2)

    pub lines-stay : (A : List Declared) (ss : StatementsOf Name) → StatementsSendOnly Kept ss → BecomeLines (parts_stored here stores gone) A A ss ss
    lines-stay A no_statements k = lines_none
    lines-stay A (more_statements c t ss) k = lines_more c c (tree-stays A t k.0) (lines-stay A ss k.1)

module _ (i : ResolvedImage) (gone : Allowed) (outer : Name → MeaningOf Name) (outside : (n : Name) → IsOutside (outer n)) (here : List Declared → TreeOf Name → TreeOf Name → Type 0) (stores : List Declared → Name → Name → Type 0) (place : Option (Name × Bool)) where
  part-unfolds : PartsUnfold i gone outer here place → (g : Context) (A B : List Declared) (t u : TreeOf Name) → IsHere place g A B → PartOf here A B t u → Unfolds i gone g (tree_in outer A t) (tree_in outer B u)
  part-unfolds p g A _ _ _ h (same_name n) = reading-same i gone outer outside g A n h.keeps
  part-unfolds p g A _ t u h (other_part x) = p g A t u h x

  -- parts are blocks that may be run in place, and unfold as such, or are none
  abbrev pub PartsPaired : Type 0
  PartsPaired = (g : Context) (A : List Declared) (t u : TreeOf Name) → IsHere place g A A → here A t u → CodePair i gone g (plain_code (tree_in outer A t)) (plain_code (tree_in outer A u))

  pub none-paired : PartsNoBlocks outer here → PartsPaired
  none-paired p g A t u h x = open-pair i gone _ _ (p A t u x)

  part-paired : PartsPaired → (g : Context) (A B : List Declared) (t u : TreeOf Name) → IsHere place g A B → PartOf here A B t u → CodePair i gone g (plain_code (tree_in outer A t)) (plain_code (tree_in outer B u))
  part-paired p g A _ _ _ h (same_name n) = neither
  part-paired p g A _ t u h (other_part x) = p g A t u h x

  pub kept-here : (control : ControlLaw) → PartsUnfold i gone outer here place → PartsPaired → StoresUnfold i gone outer stores place → IsKept control i gone (parts_stored here stores gone.is_gone) outer outer (IsHere place)
  kept-here control p q r = record {
    scope = λ g A B ps ts h. record { same = ap (opened ps ts) h.same; keeps = same-scoped i gone outer outside g A ps ts h.keeps; standing = h.standing };
    closure = λ g A B h. record { same = h.same; keeps = same-closed i gone outer outside g A h.keeps; standing = h.standing };
    part = part-unfolds p;
    blocked = part-paired q;
    sent = λ s e. e;
    assigned = λ g A B n x x' h e r. subst (λ C. Unfolds i gone g (assigning (target_in A (outer n) n) x) (assigning (target_in C (outer n) n) x')) h.same (assigning-same i gone outer outside g A n h.keeps r);
    stored = λ g A B s n t x' h e m u. subst (λ C. Unfolds i gone g (tree_in outer A (send (var (codes "self")) s (more_trees t no_trees))) (assigning (target_in C (outer n) n) x')) h.same (r g A s n t x' (record { same = refl; keeps = h.keeps; standing = h.standing }) e.1 m u);
    returned = λ g A B h r. h.keeps.returns;
    above = λ g A B h r. h.keeps.supers;
  }
