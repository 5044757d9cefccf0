-- An image in which one send is inlined, as one in whose methods parts are others.
use Rattle.std.proofs.Common.{◌≡◌, ℕ, zero, suc, ◌+◌, ◌-◌, List, [], ◌∷◌, ◌++◌, Option, Some, None, refl, sym, ap, ◌∙◌, subst, arith}
use Rattle.std.specs.Prelude.{Bool, true, false, if◌then◌else◌, nat_lt, option_map, option_and_then, unwrap_or}
use Rattle.std.proofs.lemmas.Bool.{ltb-true, ltb-false, lt-ltb}
use Rattle.tree_model.specs.Tree.{TreeOf, var, literal, send, cascade, assign, block, brace, return, TreesOf, no_trees, more_trees, MessagesOf, no_messages, more_messages, StatementsOf, no_statements, more_statements}
use Rattle.tree_model.specs.Path.{append, count, nth, all_arguments, statement_trees, child, part_at, part_in, with_nth, with_statement, with_argument, with_child, replaced, statements_replaced, method_replaced}
use Rattle.tree_model.proofs.Children.{nth-append_right}
use Rattle.image_model.specs.Image.{EntryOf, DoItOf, ImageOf}
use Rattle.run_model.specs.Values.{Name}
use Rattle.resolved_model.specs.Environments.{opened}
use Rattle.unfolded_calls.proofs.Itself.{all-statements}
use Rattle.unfolded_calls.proofs.Running.{some-same}
use Rattle.unfolded_places.specs.Becoming.{BecomeLines}
use Rattle.unfolded_places.specs.PartsReplaced.{parts_stored}
use Rattle.unfolded_places.specs.ImagesChanged.{PartsOf, StoresOf, MethodBecomes, MethodsBecome, methods_end, method_next, DoItsStay, doits_end, doit_next, ImageBecomes}
use Rattle.unfolded_places.specs.Inlining.{IsInlined, IsStored}
use Rattle.unfolded_places.specs.InlinedOnce.{none_gone, IsInlinedOnce}
use Rattle.unfolded_places.proofs.Unchanged.{lines-stay}
use Rattle.unfolded_places.proofs.Replaced.{statements-become}

-- what stands at a number put there again
nth-again : (ts : TreesOf Name) (k : ℕ) (c : TreeOf Name) → nth ts k ≡ Some c → with_nth ts k c ≡ ts
nth-again no_trees k c e = refl
nth-again (more_trees t ts) zero c e = ap (λ x. more_trees x ts) (sym (some-same e))
nth-again (more_trees t ts) (suc k) c e = ap (more_trees t) (nth-again ts k c e)

statement-again : (ss : StatementsOf Name) (k : ℕ) (c : TreeOf Name) → nth (statement_trees ss) k ≡ Some c → with_statement ss k c ≡ ss
statement-again no_statements k c e = refl
statement-again (more_statements n t ss) zero c e = ap (λ x. more_statements n x ss) (sym (some-same e))
statement-again (more_statements n t ss) (suc k) c e = ap (more_statements n t) (statement-again ss k c e)

pub nth-front : (ts us : TreesOf Name) (k : ℕ) → nat_lt k (count ts) ≡ true → nth (append ts us) k ≡ nth ts k
nth-front no_trees us k e = let h = ltb-true k 0 e in absurd (omega arith)
nth-front (more_trees t ts) us zero e = refl
nth-front (more_trees t ts) us (suc k) e = nth-front ts us k (lt-ltb k (count ts) (let h = ltb-true (suc k) (count ts + 1) e in omega arith))

argument-again : (ms : MessagesOf Name) (k : ℕ) (c : TreeOf Name) → nth (all_arguments ms) k ≡ Some c → with_argument ms k c ≡ ms
argument-again no_messages k c e = refl
argument-again (more_messages s args ms) k c e = by (nat_lt k (count args)) refl (argument-again ms (k - count args) c)
  where
    rest : nat_lt k (count args) ≡ false → k ≡ count args + (k - count args)
    rest e = let h = ltb-false k (count args) e in omega arith

    by : (b : Bool) → nat_lt k (count args) ≡ b → (nth (all_arguments ms) (k - count args) ≡ Some c → with_argument ms (k - count args) c ≡ ms) →
        (if b then more_messages s (with_nth args k c) ms else more_messages s args (with_argument ms (k - count args) c)) ≡ more_messages s args ms
    by true q ih = ap (λ x. more_messages s x ms) (nth-again args k c (sym (nth-front args (all_arguments ms) k q) ∙ e))
    by false q ih = ap (more_messages s args) (ih (sym (nth-append_right args (all_arguments ms) k (k - count args) (rest q)) ∙ e))

pub child-again : (t : TreeOf Name) (k : ℕ) (c : TreeOf Name) → child t k ≡ Some c → with_child t k c ≡ t
child-again (var n) k c e = refl
child-again (literal l) k c e = refl
child-again (send r s args) zero c e = ap (λ x. send x s args) (sym (some-same e))
child-again (send r s args) (suc k) c e = ap (send r s) (nth-again args k c e)
child-again (cascade r ms) zero c e = ap (λ x. cascade x ms) (sym (some-same e))
child-again (cascade r ms) (suc k) c e = ap (cascade r) (argument-again ms k c e)
child-again (assign n t) zero c e = ap (assign n) (sym (some-same e))
child-again (assign n t) (suc k) c e = refl
child-again (block ps ts ss n) k c e = ap (λ x. block ps ts x n) (statement-again ss k c e)
child-again (brace ts) k c e = ap brace (nth-again ts k c e)
child-again (return t) zero c e = ap return (sym (some-same e))
child-again (return t) (suc k) c e = refl

-- what stands at a path put there again
pub replaced-again : (t : TreeOf Name) (path : List ℕ) (v : TreeOf Name) → part_at t path ≡ Some v → replaced t path v ≡ t
replaced-again t [] v e = sym (some-same e)
replaced-again t (k ∷ ks) v e = by (child t k) refl e (λ c. replaced-again c ks v)
  where
    by : (o : Option (TreeOf Name)) → child t k ≡ o → option_and_then (λ c. part_at c ks) o ≡ Some v → ((c : TreeOf Name) → part_at c ks ≡ Some v → replaced c ks v ≡ c) → unwrap_or (option_map (λ c. with_child t k (replaced c ks v)) o) t ≡ t
    by (Some c) q e ih = ap (with_child t k) (ih c e) ∙ child-again t k c q
    by None q e ih = refl

statements-again : (ss : StatementsOf Name) (path : List ℕ) (v : TreeOf Name) (k : ℕ) (ks : List ℕ) → path ≡ k ∷ ks → option_and_then (λ c. part_at c ks) (nth (statement_trees ss) k) ≡ Some v → statements_replaced ss (k ∷ ks) v ≡ ss
statements-again ss path v k ks p e = by (nth (statement_trees ss) k) refl e
  where
    by : (o : Option (TreeOf Name)) → nth (statement_trees ss) k ≡ o → option_and_then (λ c. part_at c ks) o ≡ Some v → unwrap_or (option_map (λ c. with_statement ss k (replaced c ks v)) o) ss ≡ ss
    by (Some c) q e = ap (with_statement ss k) (replaced-again c ks v e) ∙ statement-again ss k c q
    by None q e = refl

pub part-again : (m : EntryOf Name) (path : List ℕ) (v : TreeOf Name) → part_in m.tree.body path ≡ Some v → statements_replaced m.tree.body.statements path v ≡ m.tree.body.statements
part-again m [] v e = absurd (cc)
part-again m (k ∷ ks) v e = statements-again m.tree.body.statements (k ∷ ks) v k ks refl e

module _ (i : ImageOf Name) (here : PartsOf) (stores : StoresOf) where
  all-kept : (ss : StatementsOf Name) → Rattle.unfolded_calls.specs.SendsOnly.StatementsSendOnly (λ s. none_gone.is_gone s ≡ false) ss
  all-kept ss = all-statements (λ s. none_gone.is_gone s ≡ false) (λ s. refl) ss

  pub method-stays : (m : EntryOf Name) → MethodBecomes i none_gone here stores m m
  method-stays m = record {
    class = refl;
    meta = refl;
    selector = refl;
    primitive = refl;
    arguments = refl;
    temporaries = refl;
    place = None;
    opens = tt;
    statements = lines-stay (here m None) (stores m None) none_gone.is_gone (opened m.tree.arguments m.tree.body.temporaries []) m.tree.body.statements (all-kept m.tree.body.statements);
  }

  methods-stay : (ms : List (EntryOf Name)) → MethodsBecome i none_gone here stores ms ms
  methods-stay [] = methods_end
  methods-stay (m ∷ ms) = method_next (method-stays m) (methods-stay ms)

  one-of-many : (m m' : EntryOf Name) (xs ys : List (EntryOf Name)) → MethodBecomes i none_gone here stores m m' → MethodsBecome i none_gone here stores (xs ++ m ∷ ys) (xs ++ m' ∷ ys)
  one-of-many m m' [] ys h = method_next h (methods-stay ys)
  one-of-many m m' (x ∷ xs) ys h = method_next (method-stays x) (one-of-many m m' xs ys h)

  pub doits-stay : (ds : List (DoItOf Name)) → DoItsStay i none_gone here stores ds ds
  doits-stay [] = doits_end
  doits-stay (d ∷ ds) = doit_next refl (all-kept d.body.statements) (doits-stay ds)

pub inlined-image : (i j : ImageOf Name) → IsInlinedOnce i j → ImageBecomes i none_gone (IsInlined i none_gone) (IsStored i none_gone) j
inlined-image i j h =
    subst (λ x. ImageBecomes i none_gone (IsInlined i none_gone) (IsStored i none_gone) x) (sym h.after)
    (record {
      classes = refl;
      methods =
          subst (λ ms. MethodsBecome i none_gone (IsInlined i none_gone) (IsStored i none_gone) ms (h.earlier ++ changed ∷ h.later)) (sym h.methods)
          (one-of-many i (IsInlined i none_gone) (IsStored i none_gone) h.method changed h.earlier h.later
          (record {
            class = refl;
            meta = refl;
            selector = refl;
            primitive = refl;
            arguments = refl;
            temporaries = refl;
            place = Some (h.class, h.meta);
            opens = h.opens;
            statements =
                subst (λ ss. BecomeLines (parts_stored (IsInlined i none_gone h.method (Some (h.class, h.meta))) (IsStored i none_gone h.method (Some (h.class, h.meta))) none_gone.is_gone) around around ss (statements_replaced h.method.tree.body.statements h.path h.expression))
                (part-again h.method h.path h.send h.found)
                (statements-become (IsInlined i none_gone h.method (Some (h.class, h.meta))) (IsStored i none_gone h.method (Some (h.class, h.meta))) none_gone.is_gone around h.method.tree.body.statements h.path h.send h.expression (all-kept i (IsInlined i none_gone) (IsStored i none_gone) h.method.tree.body.statements) h.message h.inlined);
          }));
      doits = doits-stay i (IsInlined i none_gone) (IsStored i none_gone) i.doits;
    })
  where
    around : List Rattle.resolved_model.specs.Environments.Declared
    around = opened h.method.tree.arguments h.method.tree.body.temporaries []

    changed : EntryOf Name
    changed = record h.method { source = h.source; tree = method_replaced h.method.tree h.path h.expression }
