-- A body that may be put elsewhere becomes itself with what is passed in place of its arguments.
use Rattle.std.proofs.Common.{◌≡◌, ◌+◌, List, [], ◌∷◌, ◌++◌, length, Option, Some, None, refl, sym, ap, ◌∙◌, subst, arith}
use Rattle.std.specs.Prelude.{◌&&◌, Bool, true, false, cond, find, if◌then◌else◌, option_map, unwrap_or}
use Rattle.rb_base.specs.Names.{text_eq}
use Rattle.scope_model.specs.SpecialNames.{is_pseudo_variable, control_form}
use Rattle.scope_model.specs.Control.{is_plain_block, are_plain_blocks}
use Rattle.tree_model.specs.Tree.{TreeOf, var, literal, send, cascade, assign, block, brace, return, TreesOf, no_trees, more_trees, MessagesOf, no_messages, more_messages, StatementsOf, no_statements, more_statements}
use Rattle.tree_model.specs.Path.{count}
use Rattle.image_model.specs.Means.{MeaningOf}
use Rattle.run_model.specs.Values.{Name}
use Rattle.resolved_model.specs.Environments.{Declared, as_argument, opened, kind_in}
use Rattle.unfolded_calls.specs.Unfolding.{StandIn}
use Rattle.unfolded_places.specs.Becoming.{MakesNoControl, Becomes, at_part, at_literal, in_send, in_cascade, in_assign, in_block, in_brace, BecomeAll, all_none, all_more, BecomeMessages, messages_none, messages_more, BecomeLines, lines_none, lines_more}
use Rattle.unfolded_places.specs.Inlining.{passed_for, PlainActual, plain_self, plain_nil, plain_true, plain_false, plain_number, plain_string, plain_symbol, plain_char, plain_argument, plain_class, PlainActuals, plain_none, plain_more, Filling, filled_word, filled_inner, filled_formal, filled_outer, target_inner, target_outer, filling}
use Rattle.unfolded_places.specs.Fillings.{filled_by, filled_tree, filled_trees, filled_messages, filled_statements, NameFits, MayFill, AllMayFill, MessagesMayFill, StatementsMayFill}
use Rattle.unfolded_places.proofs.NamesThere.{passed-at, opened-append}
use Rattle.unfolded_places.proofs.Replaced.{meets-same}

-- what is passed is no block
pub plain-open : (f : Name → MeaningOf Name) (A : List Declared) (t : TreeOf Name) (a : StandIn) → PlainActual f A t a → is_plain_block t ≡ false
plain-open f A _ _ plain_self = refl
plain-open f A _ _ plain_nil = refl
plain-open f A _ _ plain_true = refl
plain-open f A _ _ plain_false = refl
plain-open f A _ _ (plain_number t z e) = refl
plain-open f A _ _ (plain_string t) = refl
plain-open f A _ _ (plain_symbol t) = refl
plain-open f A _ _ (plain_char b) = refl
plain-open f A _ _ (plain_argument x p e) = refl
plain-open f A _ _ (plain_class x c p e q) = refl

-- a name for which nothing is passed is no argument
not-passed : (ps : List Name) (args : TreesOf Name) (n : Name) → length ps ≡ count args → passed_for ps args n ≡ None → kind_in (opened ps [] []) n ≡ None
not-passed [] args n c e = refl
not-passed (p ∷ ps) no_trees n c e = absurd (omega (arith, c))
not-passed (p ∷ ps) (more_trees t ts) n c e = by (text_eq n p) (not-passed ps ts n (omega (arith, c))) e
  where
    by : (b : Bool) → (passed_for ps ts n ≡ None → kind_in (opened ps [] []) n ≡ None) → (if b then Some t else passed_for ps ts n) ≡ None →
        option_map (λ (d : Declared). d.is_temporary) (cond b (Some (as_argument p)) (find (λ (d : Declared). text_eq n d.name) (opened ps [] []))) ≡ None
    by true ih q = absurd (cc)
    by false ih q = ih q

-- as many actuals as are passed
plain-count : (f : Name → MeaningOf Name) (A : List Declared) (ts : TreesOf Name) (actuals : List StandIn) → PlainActuals f A ts actuals → count ts ≡ length actuals
plain-count f A _ _ plain_none = refl
plain-count f A _ _ (plain_more {ts = ts} {rest = rest} h r) = let q = plain-count f A ts rest r in omega (arith, q)

-- what is passed is no block, and as much as there are arguments
module _ (z : Filling) (supers : Bool) (gone : Name → Bool) (unblocked : (n : Name) (t : TreeOf Name) → passed_for z.arguments z.passed n ≡ Some t → is_plain_block t ≡ false) (counted : length z.arguments ≡ count z.passed) where
  abbrev Formals : List Declared
  Formals = opened z.arguments [] []

  abbrev Fills : List Declared → TreeOf Name → TreeOf Name → Type 0
  Fills inner t u = Becomes (filling z supers gone) (inner ++ Formals) (inner ++ z.round) t u

  -- a name
  name-fills : (inner : List Declared) (n : Name) → (is_pseudo_variable n ≡ false → kind_in inner n ≡ None → NameFits z supers gone inner n) → Fills inner (var n) (if is_pseudo_variable n then var n else filled_by z.arguments z.passed (kind_in inner n) n)
  name-fills inner n h = by (is_pseudo_variable n) refl
    where
      by-passed : (o : Option (TreeOf Name)) → passed_for z.arguments z.passed n ≡ o → is_pseudo_variable n ≡ false → kind_in inner n ≡ None → Fills inner (var n) (unwrap_or o (var n))
      by-passed (Some t) q p k = at_part (filled_formal inner n t p k q ((h p k).passed t q))
      by-passed None q p k = at_part (filled_outer inner n p (record { inside = k; formal = not-passed z.arguments z.passed n counted q; there = ((h p k).free q).0; same = ((h p k).free q).1 }))

      by-kind : (o : Option Bool) → kind_in inner n ≡ o → is_pseudo_variable n ≡ false → Fills inner (var n) (filled_by z.arguments z.passed o n)
      by-kind (Some b) k p = at_part (filled_inner inner n b p k)
      by-kind None k p = by-passed (passed_for z.arguments z.passed n) refl p k

      by : (b : Bool) → is_pseudo_variable n ≡ b → Fills inner (var n) (if b then var n else filled_by z.arguments z.passed (kind_in inner n) n)
      by true p = at_part (filled_word n p)
      by false p = by-kind (kind_in inner n) refl p

  -- a node is a block as before
  block-filled : (inner : List Declared) (t : TreeOf Name) → is_plain_block t ≡ is_plain_block (filled_tree z.arguments z.passed inner t)
  block-filled inner (var n) = by (is_pseudo_variable n)
    where
      by-passed : (o : Option (TreeOf Name)) → passed_for z.arguments z.passed n ≡ o → false ≡ is_plain_block (unwrap_or o (var n))
      by-passed (Some t) q = sym (unblocked n t q)
      by-passed None q = refl

      by-kind : (o : Option Bool) → false ≡ is_plain_block (filled_by z.arguments z.passed o n)
      by-kind (Some b) = refl
      by-kind None = by-passed (passed_for z.arguments z.passed n) refl

      by : (b : Bool) → false ≡ is_plain_block (if b then var n else filled_by z.arguments z.passed (kind_in inner n) n)
      by true = refl
      by false = by-kind (kind_in inner n)
  block-filled inner (literal l) = refl
  block-filled inner (send r s us) = refl
  block-filled inner (cascade r ms) = refl
  block-filled inner (assign n t) = refl
  block-filled inner (block ps ts ss e) = refl
  block-filled inner (brace us) = refl
  block-filled inner (return t) = refl

  count-filled : (inner : List Declared) (us : TreesOf Name) → count us ≡ count (filled_trees z.arguments z.passed inner us)
  count-filled inner no_trees = refl
  count-filled inner (more_trees t us) = ap (λ n. n + 1) (count-filled inner us)

  blocks-filled : (inner : List Declared) (us : TreesOf Name) → are_plain_blocks us ≡ are_plain_blocks (filled_trees z.arguments z.passed inner us)
  blocks-filled inner no_trees = refl
  blocks-filled inner (more_trees t us) = λ i. block-filled inner t i && blocks-filled inner us i

  still : (inner : List Declared) (r : TreeOf Name) (s : Name) (us : TreesOf Name) → MakesNoControl (send r s us) (send (filled_tree z.arguments z.passed inner r) s (filled_trees z.arguments z.passed inner us))
  still inner r s us e =
      sym (meets-same (control_form s) r (filled_tree z.arguments z.passed inner r) us (filled_trees z.arguments z.passed inner us) (block-filled inner r) (count-filled inner us) (blocks-filled inner us)) ∙ e

  mutual
    pub tree-fills-with : (inner : List Declared) (t : TreeOf Name) → MayFill z supers gone inner t → Fills inner t (filled_tree z.arguments z.passed inner t)
    tree-fills-with inner (var n) h = name-fills inner n h
    tree-fills-with inner (literal l) h = at_literal l
    tree-fills-with inner (send r s us) h = in_send s h.0 h.1 (still inner r s us) (tree-fills-with inner r h.2) (trees-fill inner us h.3)
    tree-fills-with inner (cascade r ms) h = in_cascade (tree-fills-with inner r h.0) (messages-fill inner ms h.1)
    tree-fills-with inner (assign n t) h = in_assign n (by (kind_in inner n) refl) (tree-fills-with inner t h.2)
      where
        by : (o : Option Bool) → kind_in inner n ≡ o → Rattle.unfolded_places.specs.Inlining.FilledTarget z (inner ++ Formals) (inner ++ z.round) n
        by (Some b) k = target_inner inner n b h.0 k
        by None k = let x = h.1 k in target_outer inner n h.0 (record { inside = k; formal = not-passed z.arguments z.passed n counted x.0; there = x.1; same = x.2 })
    tree-fills-with inner (block ps ts ss e) h =
        in_block ps ts e e
        (subst (λ C. BecomeLines (filling z supers gone) C (opened ps ts (inner ++ z.round)) ss (filled_statements z.arguments z.passed (opened ps ts inner) ss)) (sym (opened-append ps ts inner Formals))
        (subst (λ C. BecomeLines (filling z supers gone) (opened ps ts inner ++ Formals) C ss (filled_statements z.arguments z.passed (opened ps ts inner) ss)) (sym (opened-append ps ts inner z.round)) (lines-fill (opened ps ts inner) ss h)))
    tree-fills-with inner (brace us) h = in_brace (trees-fill inner us h)
    tree-fills-with inner (return t) h = absurd h

    trees-fill : (inner : List Declared) (us : TreesOf Name) → AllMayFill z supers gone inner us → BecomeAll (filling z supers gone) (inner ++ Formals) (inner ++ z.round) us (filled_trees z.arguments z.passed inner us)
    trees-fill inner no_trees h = all_none
    trees-fill inner (more_trees t us) h = all_more (tree-fills-with inner t h.0) (trees-fill inner us h.1)

    messages-fill : (inner : List Declared) (ms : MessagesOf Name) → MessagesMayFill z supers gone inner ms → BecomeMessages (filling z supers gone) (inner ++ Formals) (inner ++ z.round) ms (filled_messages z.arguments z.passed inner ms)
    messages-fill inner no_messages h = messages_none
    messages-fill inner (more_messages s us ms) h = messages_more s h.0 (trees-fill inner us h.1) (messages-fill inner ms h.2)

    lines-fill : (inner : List Declared) (ss : StatementsOf Name) → StatementsMayFill z supers gone inner ss → BecomeLines (filling z supers gone) (inner ++ Formals) (inner ++ z.round) ss (filled_statements z.arguments z.passed inner ss)
    lines-fill inner no_statements h = lines_none
    lines-fill inner (more_statements c t ss) h = lines_more c c (tree-fills-with inner t h.0) (lines-fill inner ss h.1)

-- the same where what is passed is plain
module _ (z : Filling) (supers : Bool) (gone : Name → Bool) (actuals : List StandIn) (plains : PlainActuals z.after z.round z.passed actuals) (counted : length z.arguments ≡ length actuals) where
  pub tree-fills : (inner : List Declared) (t : TreeOf Name) → MayFill z supers gone inner t → Becomes (filling z supers gone) (inner ++ opened z.arguments [] []) (inner ++ z.round) t (filled_tree z.arguments z.passed inner t)
  tree-fills inner t h =
      tree-fills-with z supers gone (λ n u q. let x = passed-at z.after z.round z.arguments z.passed actuals n u plains q in plain-open z.after z.round u x.stand_in x.plain) (counted ∙ sym (plain-count z.after z.round z.passed actuals plains)) inner t h
