-- Code with messages to self for a variable becomes the code that reads and assigns it.
use Rattle.std.proofs.Common.{◌≡◌, ◌+◌, List, Option, Some, None, refl, sym, ap, ◌∙◌, subst}
use Rattle.std.specs.Prelude.{Bool, true, false, ◌&&◌, if◌then◌else◌, codes}
use Rattle.rb_base.specs.Names.{text_eq}
use Rattle.scope_model.specs.declared.local.ControlForm.TheVariants.{NoControl}
use Rattle.scope_model.specs.SpecialNames.{control_form}
use Rattle.scope_model.specs.Control.{is_plain_block, are_plain_blocks, meets}
use Rattle.tree_model.specs.Tree.{TreeOf, var, literal, send, cascade, assign, block, brace, return, TreesOf, no_trees, more_trees, MessagesOf, no_messages, more_messages, StatementsOf, no_statements, more_statements}
use Rattle.tree_model.specs.Path.{count}
use Rattle.image_model.specs.Image.{EntryOf, ImageOf}
use Rattle.run_model.specs.Values.{Name}
use Rattle.run_model.proofs.RenamingLemmas.{text-same}
use Rattle.resolved_model.specs.Environments.{Declared, opened, kind_in}
use Rattle.unfolded_calls.specs.Unfolding.{Allowed}
use Rattle.unfolded_calls.specs.SendsOnly.{SendsOnly, AllSendOnly, MessagesOnly, StatementsSendOnly}
use Rattle.unfolded_places.specs.Becoming.{MakesNoControl, Becomes, at_part, at_literal, at_store, in_send, in_cascade, in_assign, in_block, in_brace, in_return, BecomeAll, all_none, all_more, BecomeMessages, messages_none, messages_more, BecomeLines, lines_none, lines_more}
use Rattle.unfolded_places.specs.PartsReplaced.{same_name, other_part, parts_stored}
use Rattle.unfolded_places.specs.Inlining.{IsInlined, IsStored}
use Rattle.unfolded_places.specs.Accessed.{is_undeclared, is_variable, accessed_tree, accessed_trees, accessed_messages, accessed_statements}
use Rattle.unfolded_places.proofs.Replaced.{meets-same}

module _ (i : ImageOf Name) (gone : Allowed) (m : EntryOf Name) (place : Option (Name × Bool)) (x reader writer : Name)
    (reads : (A : List Declared) → kind_in A x ≡ None → IsInlined i gone m place A (send (var (codes "self")) reader no_trees) (var x))
    (writes : (A : List Declared) → kind_in A x ≡ None → IsStored i gone m place A writer x)
    (message : control_form writer ≡ NoControl) where
  abbrev Changes : List Declared → TreeOf Name → TreeOf Name → Type 0
  Changes A t u = Becomes (parts_stored (IsInlined i gone m place) (IsStored i gone m place) gone.is_gone) A A t u

  abbrev Kept : Name → Type 0
  Kept s = gone.is_gone s ≡ false

  -- the variable
  it : (A : List Declared) (n : Name) → is_variable x A n ≡ true → (n ≡ x) × (kind_in A x ≡ None)
  it A n e = by (text_eq n x) (kind_in A n) refl refl e
    where
      by : (b : Bool) (o : Option Bool) → text_eq n x ≡ b → kind_in A n ≡ o → (b && is_undeclared o) ≡ true → (n ≡ x) × (kind_in A x ≡ None)
      by true None p q e = (text-same n x p, ap (kind_in A) (sym (text-same n x p)) ∙ q)
      by true (Some b) p q e = absurd (cc)
      by false o p q e = absurd (cc)

  block-if : (b : Bool) (t u : TreeOf Name) → is_plain_block t ≡ false → is_plain_block u ≡ false → is_plain_block (if b then t else u) ≡ false
  block-if true t u p q = p
  block-if false t u p q = q

  block-accessed : (A : List Declared) (t : TreeOf Name) → is_plain_block (accessed_tree x reader writer A t) ≡ is_plain_block t
  block-accessed A (var n) = block-if (is_variable x A n) _ _ refl refl
  block-accessed A (literal l) = refl
  block-accessed A (send r s us) = refl
  block-accessed A (cascade r ms) = refl
  block-accessed A (assign n t) = block-if (is_variable x A n) _ _ refl refl
  block-accessed A (block ps ts ss e) = refl
  block-accessed A (brace us) = refl
  block-accessed A (return t) = refl

  count-accessed : (A : List Declared) (us : TreesOf Name) → count (accessed_trees x reader writer A us) ≡ count us
  count-accessed A no_trees = refl
  count-accessed A (more_trees t us) = ap (λ n. n + 1) (count-accessed A us)

  blocks-accessed : (A : List Declared) (us : TreesOf Name) → are_plain_blocks (accessed_trees x reader writer A us) ≡ are_plain_blocks us
  blocks-accessed A no_trees = refl
  blocks-accessed A (more_trees t us) = λ k. block-accessed A t k && blocks-accessed A us k

  still : (A : List Declared) (r : TreeOf Name) (s : Name) (us : TreesOf Name) → MakesNoControl (send (accessed_tree x reader writer A r) s (accessed_trees x reader writer A us)) (send r s us)
  still A r s us e = sym (meets-same (control_form s) (accessed_tree x reader writer A r) r (accessed_trees x reader writer A us) us (block-accessed A r) (count-accessed A us) (blocks-accessed A us)) ∙ e

  read-so : (A : List Declared) (n : Name) → Changes A (if is_variable x A n then send (var (codes "self")) reader no_trees else var n) (var n)
  read-so A n = by (is_variable x A n) refl
    where
      by : (b : Bool) → is_variable x A n ≡ b → Changes A (if b then send (var (codes "self")) reader no_trees else var n) (var n)
      by true e = let h = it A n e in at_part (other_part (subst (λ y. IsInlined i gone m place A (send (var (codes "self")) reader no_trees) (var y)) (sym h.0) (reads A h.1)))
      by false e = at_part (same_name n)

  assign-so : (A : List Declared) (n : Name) (t u : TreeOf Name) → Changes A t u → Changes A (if is_variable x A n then send (var (codes "self")) writer (more_trees t no_trees) else assign n t) (assign n u)
  assign-so A n t u p = by (is_variable x A n) refl
    where
      by : (b : Bool) → is_variable x A n ≡ b → Changes A (if b then send (var (codes "self")) writer (more_trees t no_trees) else assign n t) (assign n u)
      by true e =
          let h = it A n e in
          subst (λ y. Changes A (send (var (codes "self")) writer (more_trees t no_trees)) (assign y u)) (sym h.0)
          (at_store writer x (refl, writes A h.1) (ap (λ c. meets c (var (codes "self")) (more_trees t no_trees)) message) p)
      by false e = in_assign n refl p

  mutual
    pub tree-accessed : (A : List Declared) (t : TreeOf Name) → SendsOnly Kept t → Changes A (accessed_tree x reader writer A t) t
    tree-accessed A (var n) k = read-so A n
    tree-accessed A (literal l) k = at_literal l
    tree-accessed A (send r s us) k = in_send s k.0 (λ e. tt) (still A r s us) (tree-accessed A r k.1) (trees-accessed A us k.2)
    tree-accessed A (cascade r ms) k = in_cascade (tree-accessed A r k.0) (messages-accessed A ms k.1)
    tree-accessed A (assign n t) k = assign-so A n (accessed_tree x reader writer A t) t (tree-accessed A t k)
    tree-accessed A (block ps ts ss e) k = in_block ps ts e e (lines-accessed (opened ps ts A) ss k)
    tree-accessed A (brace us) k = in_brace (trees-accessed A us k)
    tree-accessed A (return t) k = in_return tt (tree-accessed A t k)

    trees-accessed : (A : List Declared) (us : TreesOf Name) → AllSendOnly Kept us → BecomeAll (parts_stored (IsInlined i gone m place) (IsStored i gone m place) gone.is_gone) A A (accessed_trees x reader writer A us) us
    trees-accessed A no_trees k = all_none
    trees-accessed A (more_trees t us) k = all_more (tree-accessed A t k.0) (trees-accessed A us k.1)

    messages-accessed : (A : List Declared) (ms : MessagesOf Name) → MessagesOnly Kept ms → BecomeMessages (parts_stored (IsInlined i gone m place) (IsStored i gone m place) gone.is_gone) A A (accessed_messages x reader writer A ms) ms
    messages-accessed A no_messages k = messages_none
    messages-accessed A (more_messages s us ms) k = messages_more s k.0 (trees-accessed A us k.1) (messages-accessed A ms k.2)

    pub lines-accessed : (A : List Declared) (ss : StatementsOf Name) → StatementsSendOnly Kept ss → BecomeLines (parts_stored (IsInlined i gone m place) (IsStored i gone m place) gone.is_gone) A A (accessed_statements x reader writer A ss) ss
    lines-accessed A no_statements k = lines_none
    lines-accessed A (more_statements c t ss) k = lines_more c c (tree-accessed A t k.0) (lines-accessed A ss k.1)
